-- A cycle through an instance leaves it at one contended piece and comes back at another
use Rattle.std.proofs.Common.{◌≡◌, ◌≢◌, Bool, true, false, cond, ◌&&◌, ◌||◌, ◌==◌, List, [], ◌∷◌, ◌++◌, Some, None, IsTrue, refl, sym, ap, subst, ◌∙◌, ◌⊎◌, inl, inr}
use Rattle.std.proofs.lemmas.Bool.{false≢true}
use Rattle.std.specs.List.{AllByRecursion, list_any}
use Rattle.roc_sequence.specs.Lists.{Has}
use Rattle.roc_sequence.specs.Places.{NoneTwice, IsListed}
use Rattle.roc_sequence.proofs.Listed.{has_listed}
use Rattle.roc_program.specs.Program.{Workload}
use Rattle.roc_program.specs.Conflict.{are_in_conflict}
use Rattle.roc_program.specs.declared.piece_id.PieceId.{PieceId}
use Rattle.roc_scgraph.specs.declared.vertex.Vertex.{Vertex}
use Rattle.roc_scgraph.specs.declared.vertex.Kind.TheVariants.{S, C}
use Rattle.roc_scgraph.specs.Graph.{piece_id, are_siblings, is_vertex, edge}
use Rattle.roc_scgraph.specs.Cycles.{steps_to, is_fixed, is_conflict_edge}
use Rattle.roc_scgraph.proofs.Vertices.{siblings_trans, siblings_swap, is_vertex-true, is_vertex-same, fixed_apart}

-- an immediate piece with a conflict with an immediate piece
pub record Meets (program : Workload) (immediate : PieceId → Bool) (v : Vertex) : Type 0 where
  pub at_start : immediate (piece_id v) ≡ true
  pub other : PieceId
  pub other_at_start : immediate other ≡ true
  pub conflict : are_in_conflict program (piece_id v) other ≡ true

-- two pieces of an instance
pub record AreTwo (program : Workload) (immediate : PieceId → Bool) (r : Vertex) : Type 0 where
  pub one : Vertex
  pub other : Vertex
  pub one_inside : are_siblings r one ≡ true
  pub other_inside : are_siblings r other ≡ true
  pub apart : one ≢ other
  pub one_meets : Meets program immediate one
  pub other_meets : Meets program immediate other

abbrev pub AreFixed : Workload → (PieceId → Bool) → List (Vertex × Vertex) → Type 0
AreFixed program immediate steps = AllByRecursion (λ n. IsTrue (is_fixed (edge program immediate n.0 n.1))) steps

-- a step between an instance and what is outside
pub apart_from : (r a b : Vertex) → are_siblings r a ≡ true → are_siblings r b ≡ false → are_siblings a b ≡ false
apart_from r a b h k = go (are_siblings a b) refl
  where
    go : (t : Bool) → are_siblings a b ≡ t → t ≡ false
    go true e = absurd (false≢true (sym k ∙ siblings_trans r a b h e))
    go false e = refl

apart_swap : (r a b : Vertex) → are_siblings r a ≡ false → are_siblings r b ≡ true → are_siblings a b ≡ false
apart_swap r a b h k = go (are_siblings a b) refl
  where
    go : (t : Bool) → are_siblings a b ≡ t → t ≡ false
    go true e = absurd (false≢true (sym h ∙ siblings_trans r b a k (siblings_swap a b e)))
    go false e = refl

-- where all are in one instance, no step is a conflict
no_conflict_step : (program : Workload) (immediate : PieceId → Bool) (r a b : Vertex) → are_siblings r a ≡ true → are_siblings r b ≡ true → is_conflict_edge (edge program immediate a b) ≡ false
no_conflict_step program immediate r a b h k =
    subst (λ s. is_conflict_edge (cond s (cond (a.piece == b.piece) None (Some S)) (cond (are_in_conflict program (piece_id a) (piece_id b)) (Some (C (immediate (piece_id a) && immediate (piece_id b)))) None)) ≡ false)
    (sym (siblings_trans a r b (siblings_swap r a h) k)) (go (a.piece == b.piece))
  where
    go : (t : Bool) → is_conflict_edge (cond t None (Some S)) ≡ false
    go true = refl
    go false = refl

pub no_conflict_inside : (program : Workload) (immediate : PieceId → Bool) (r a : Vertex) (vs : List Vertex) (end : Vertex) → are_siblings r a ≡ true → AllByRecursion (λ v. are_siblings r v ≡ true) vs → are_siblings r end ≡ true
    → list_any (λ n. is_conflict_edge (edge program immediate n.0 n.1)) (steps_to a vs end) ≡ false
no_conflict_inside program immediate r a [] end h all k = subst (λ t. (t || false) ≡ false) (sym (no_conflict_step program immediate r a end h k)) refl
no_conflict_inside program immediate r a (v ∷ vs) end h all k =
    subst (λ t. (t || list_any (λ n. is_conflict_edge (edge program immediate n.0 n.1)) (steps_to v vs end)) ≡ false) (sym (no_conflict_step program immediate r a v h all.0))
    (no_conflict_inside program immediate r v vs end all.0 all.1 k)

pub inside_or_out : (r : Vertex) (vs : List Vertex) → AllByRecursion (λ v. are_siblings r v ≡ true) vs ⊎ ((o : Vertex) × Has o vs × (are_siblings r o ≡ false))
inside_or_out r [] = inl tt
inside_or_out r (v ∷ vs) = go (are_siblings r v) refl (inside_or_out r vs)
  where
    go : (t : Bool) → are_siblings r v ≡ t → AllByRecursion (λ v. are_siblings r v ≡ true) vs ⊎ ((o : Vertex) × Has o vs × (are_siblings r o ≡ false))
        → AllByRecursion (λ v. are_siblings r v ≡ true) (v ∷ vs) ⊎ ((o : Vertex) × Has o (v ∷ vs) × (are_siblings r o ≡ false))
    go false e rest = inr (v, inl refl, e)
    go true e (inl all) = inl (e, all)
    go true e (inr w) = inr (w.0, inr w.1, w.2)

module _ (program : Workload) (immediate : PieceId → Bool) (mirrored : (one other : PieceId) → are_in_conflict program one other ≡ are_in_conflict program other one) where
  -- a path from outside comes back at such a piece
  enters : (r o : Vertex) (vs : List Vertex) (end : Vertex) → are_siblings r o ≡ false → are_siblings r end ≡ true → AreFixed program immediate (steps_to o vs end)
      → (v : Vertex) × Has v (vs ++ end ∷ []) × (are_siblings r v ≡ true) × Meets program immediate v
  enters r o [] end out inside fixed =
      let f = fixed_apart program immediate o end (apart_swap r o end out inside) fixed.0 in
      (end, inl refl, inside, record { at_start = f.2; other = piece_id o; other_at_start = f.1; conflict = mirrored (piece_id end) (piece_id o) ∙ f.0 })
  enters r o (v ∷ vs) end out inside fixed = go (are_siblings r v) refl (λ e. enters r v vs end e inside fixed.1)
    where
      go : (t : Bool) → are_siblings r v ≡ t → (are_siblings r v ≡ false → (w : Vertex) × Has w (vs ++ end ∷ []) × (are_siblings r w ≡ true) × Meets program immediate w)
          → (w : Vertex) × Has w (v ∷ (vs ++ end ∷ [])) × (are_siblings r w ≡ true) × Meets program immediate w
      go true e further =
          let f = fixed_apart program immediate o v (apart_swap r o v out e) fixed.0 in
          (v, inl refl, e, record { at_start = f.2; other = piece_id o; other_at_start = f.1; conflict = mirrored (piece_id v) (piece_id o) ∙ f.0 })
      go false e further = let w = further e in (w.0, inr w.1, w.2, w.3)

  -- a path that begins and ends in an instance, and leaves it, leaves at one such piece and comes back at another
  pub leaves : (r a : Vertex) (vs : List Vertex) (end : Vertex) → are_siblings r a ≡ true → are_siblings r end ≡ true → AreFixed program immediate (steps_to a vs end)
      → (o : Vertex) → Has o vs → are_siblings r o ≡ false → NoneTwice is_vertex (a ∷ (vs ++ end ∷ [])) → AreTwo program immediate r
  leaves r a [] end inside back fixed o has out once = absurd has
  leaves r a (v ∷ vs) end inside back fixed o has out once = go (are_siblings r v) refl (λ e k. leaves r v vs end e back fixed.1 o k out once.1)
    where
      later : are_siblings r v ≡ true → Has o (v ∷ vs) → Has o vs
      later e (inl same) = absurd (false≢true (sym out ∙ ap (are_siblings r) same ∙ e))
      later e (inr h) = h

      go : (t : Bool) → are_siblings r v ≡ t → (are_siblings r v ≡ true → Has o vs → AreTwo program immediate r) → AreTwo program immediate r
      go true e further = further e (later e has)
      go false e further =
          let f = fixed_apart program immediate a v (apart_from r a v inside e) fixed.0 in
          let w = enters r v vs end e back fixed.1 in
          record {
            one = a;
            other = w.0;
            one_inside = inside;
            other_inside = w.2;
            apart = λ same. once.0 (subst (λ x. IsListed is_vertex (v ∷ (vs ++ end ∷ [])) x) (sym same) (has_listed is_vertex is_vertex-true is_vertex-same (v ∷ (vs ++ end ∷ [])) w.0 (inr w.1)));
            one_meets = record { at_start = f.1; other = piece_id v; other_at_start = f.2; conflict = f.0 };
            other_meets = w.3;
          }
