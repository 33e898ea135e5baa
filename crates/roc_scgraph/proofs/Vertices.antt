-- What the tests of vertices and edges say
use Rattle.std.proofs.Common.{◌≡◌, ◌≢◌, ℕ, Bool, true, false, cond, ◌&&◌, ◌==◌, Some, None, refl, sym, ap, subst, ◌∙◌, ◌⊎◌, inl, inr}
use Rattle.std.proofs.lemmas.Bool.{false≢true, and_parts, and_from, eqb-true, eq-eqb}
use Rattle.roc_program.specs.Program.{Workload}
use Rattle.roc_program.specs.Conflict.{are_in_conflict}
use Rattle.roc_program.specs.declared.piece_id.PieceId.{PieceId}
use Rattle.roc_scgraph.specs.declared.vertex.Vertex.{Vertex}
use Rattle.roc_scgraph.specs.declared.vertex.Instance.{Instance}
use Rattle.roc_scgraph.specs.declared.vertex.Instance.TheVariants.{First, Second}
use Rattle.roc_scgraph.specs.declared.vertex.Kind.TheVariants.{S, C}
use Rattle.roc_scgraph.specs.Graph.{piece_id, is_instance, are_siblings, is_vertex, edge}
use Rattle.roc_scgraph.specs.Cycles.{is_fixed}

is_instance-true : (a b : Instance) → is_instance a b ≡ true → a ≡ b
is_instance-true First First h = refl
is_instance-true First Second h = absurd (false≢true h)
is_instance-true Second First h = absurd (false≢true h)
is_instance-true Second Second h = refl

is_instance-same : (a : Instance) → is_instance a a ≡ true
is_instance-same First = refl
is_instance-same Second = refl

pub siblings_share : (a b : Vertex) → are_siblings a b ≡ true → (a.proc ≡ b.proc) × (a.instance ≡ b.instance)
siblings_share a b h =
    let p = and_parts (a.proc == b.proc) (is_instance a.instance b.instance) h in
    (eqb-true a.proc b.proc p.0, is_instance-true a.instance b.instance p.1)

pub siblings_from : (a b : Vertex) → a.proc ≡ b.proc → a.instance ≡ b.instance → are_siblings a b ≡ true
siblings_from a b e f = and_from _ _ (eq-eqb a.proc b.proc e) (subst (λ i. is_instance a.instance i ≡ true) f (is_instance-same a.instance))

pub siblings_trans : (a b c : Vertex) → are_siblings a b ≡ true → are_siblings b c ≡ true → are_siblings a c ≡ true
siblings_trans a b c h k =
    let p = siblings_share a b h in
    let q = siblings_share b c k in
    siblings_from a c (p.0 ∙ q.0) (p.1 ∙ q.1)

pub siblings_swap : (a b : Vertex) → are_siblings a b ≡ true → are_siblings b a ≡ true
siblings_swap a b h = let p = siblings_share a b h in siblings_from b a (sym p.0) (sym p.1)

-- vertices with the same parts are one
pub same_vertex : (a b : Vertex) → a.proc ≡ b.proc → a.piece ≡ b.piece → a.instance ≡ b.instance → a ≡ b
same_vertex a b e f g =
    let with_proc : ℕ → Vertex = λ n. record { proc = n; piece = a.piece; instance = a.instance } in
    let with_piece : ℕ → Vertex = λ n. record { proc = b.proc; piece = n; instance = a.instance } in
    let with_instance : Instance → Vertex = λ i. record { proc = b.proc; piece = b.piece; instance = i } in
    ap with_proc e ∙ (ap with_piece f ∙ ap with_instance g)

pub is_vertex-true : (a b : Vertex) → is_vertex a b ≡ true → a ≡ b
is_vertex-true a b h =
    let p = and_parts (are_siblings a b) (a.piece == b.piece) h in
    let q = siblings_share a b p.0 in
    same_vertex a b q.0 (eqb-true a.piece b.piece p.1) q.1

pub is_vertex-same : (a : Vertex) → is_vertex a a ≡ true
is_vertex-same a = and_from _ _ (siblings_from a a refl refl) (eq-eqb a.piece a.piece refl)

-- a piece and an instance are a vertex
pub same_piece : (a b : Vertex) → piece_id a ≡ piece_id b → a.instance ≡ b.instance → a ≡ b
same_piece a b e f = same_vertex a b (ap (λ (p : PieceId). p.proc) e) (ap (λ (p : PieceId). p.piece) e) f

-- ---- edges

module _ (program : Workload) (immediate : PieceId → Bool) where
  -- a fixed edge that leaves an instance is a conflict of immediate pieces
  pub fixed_apart : (a b : Vertex) → are_siblings a b ≡ false → is_fixed (edge program immediate a b) ≡ true
      → (are_in_conflict program (piece_id a) (piece_id b) ≡ true) × (immediate (piece_id a) ≡ true) × (immediate (piece_id b) ≡ true)
  fixed_apart a b apart h = go (are_in_conflict program (piece_id a) (piece_id b)) refl (subst (λ s. is_fixed (cond s (cond (a.piece == b.piece) None (Some S)) (cond (are_in_conflict program (piece_id a) (piece_id b)) (Some (C (immediate (piece_id a) && immediate (piece_id b)))) None)) ≡ true) apart h)
    where
      go : (c : Bool) → are_in_conflict program (piece_id a) (piece_id b) ≡ c → is_fixed (cond c (Some (C (immediate (piece_id a) && immediate (piece_id b)))) None) ≡ true
          → (are_in_conflict program (piece_id a) (piece_id b) ≡ true) × (immediate (piece_id a) ≡ true) × (immediate (piece_id b) ≡ true)
      go true e k = let p = and_parts (immediate (piece_id a)) (immediate (piece_id b)) k in (e, p.0, p.1)
      go false e k = absurd (false≢true k)

  -- what joins two of an instance, and two of different ones
  pub edge-siblings : (a b : Vertex) → are_siblings a b ≡ true → a.piece ≢ b.piece → edge program immediate a b ≡ Some S
  edge-siblings a b h n =
      subst (λ s. cond s (cond (a.piece == b.piece) None (Some S)) (cond (are_in_conflict program (piece_id a) (piece_id b)) (Some (C (immediate (piece_id a) && immediate (piece_id b)))) None) ≡ Some S) (sym h)
      (go (a.piece == b.piece) refl)
    where
      go : (t : Bool) → (a.piece == b.piece) ≡ t → cond t None (Some S) ≡ Some S
      go true e = absurd (n (eqb-true a.piece b.piece e))
      go false e = refl

  pub edge-conflict : (a b : Vertex) → are_siblings a b ≡ false → are_in_conflict program (piece_id a) (piece_id b) ≡ true → immediate (piece_id a) ≡ true → immediate (piece_id b) ≡ true → edge program immediate a b ≡ Some (C true)
  edge-conflict a b h c i j =
      subst (λ s. cond s (cond (a.piece == b.piece) None (Some S)) (cond (are_in_conflict program (piece_id a) (piece_id b)) (Some (C (immediate (piece_id a) && immediate (piece_id b)))) None) ≡ Some (C true)) (sym h)
      (subst (λ s. cond s (Some (C (immediate (piece_id a) && immediate (piece_id b)))) None ≡ Some (C true)) (sym c) (ap (λ (v : Bool). Some (C v)) (and_from _ _ i j)))

pub not_siblings : (a b : Vertex) → (a.proc ≢ b.proc) ⊎ (a.instance ≢ b.instance) → are_siblings a b ≡ false
not_siblings a b n = go (are_siblings a b) refl n
  where
    go : (t : Bool) → are_siblings a b ≡ t → (a.proc ≢ b.proc) ⊎ (a.instance ≢ b.instance) → t ≡ false
    go false e m = refl
    go true e (inl m) = absurd (m (siblings_share a b e).0)
    go true e (inr m) = absurd (m (siblings_share a b e).1)

pub is_vertex-ne : (a b : Vertex) → a ≢ b → is_vertex a b ≡ false
is_vertex-ne a b n = go (is_vertex a b) refl
  where
    go : (t : Bool) → is_vertex a b ≡ t → t ≡ false
    go true e = absurd (n (is_vertex-true a b e))
    go false e = refl
