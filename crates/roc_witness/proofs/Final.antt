-- What the best of the candidates says of all cycles through two pieces
use Rattle.std.proofs.Common.{◌≡◌, ◌≢◌, ℕ, ◌+◌, ◌<◌, ◌≤◌, Bool, true, false, cond, ◌==◌, List, [], ◌∷◌, ◌++◌, length, Option, Some, None, IfSome, IfNone, IsTrue, Vec, refl, sym, ap, subst, ◌∙◌, ◌⊎◌, inl, inr, arith, length-append}
use Rattle.std.proofs.lemmas.Bool.{false≢true, cases_lt}
use Rattle.std.specs.Option.{option_map}
use Rattle.std.proofs.Common.{Global}
use Rattle.roc_sequence.specs.Lists.{Has}
use Rattle.roc_sequence.proofs.Members.{has_right}
use Rattle.roc_sequence.proofs.Holds.{all_has}
use Rattle.roc_sequence.proofs.Listed.{has_listed}
use Rattle.roc_program.specs.Program.{Workload}
use Rattle.roc_program.specs.Pieces.{HasPiece, pieces_in}
use Rattle.roc_program.specs.declared.piece_id.PieceId.{PieceId}
use Rattle.roc_scgraph.specs.declared.vertex.Vertex.{Vertex}
use Rattle.roc_scgraph.specs.Graph.{piece_id, is_vertex}
use Rattle.roc_scgraph.specs.Cycles.{first_instance, IsUnreorderable}
use Rattle.roc_scgraph.proofs.Vertices.{is_vertex-true, is_vertex-same}
use Rattle.roc_witness.specs.Order.{stands_before}
use Rattle.roc_witness.specs.Shortest.{IsCycleOf}
use Rattle.roc_witness.specs.Inner.Table.{IsTableOf}
use Rattle.roc_witness.specs.Inner.Vertices.{vertices, open_vertices}
use Rattle.roc_witness.specs.Inner.Walks.{may_step, IsWalk}
use Rattle.roc_witness.specs.Inner.Candidates.{is_better, IsBest, sibling, lead, LeavesBelow}
use Rattle.roc_witness.proofs.Ordered.{not_better_long, not_better_comes}
use Rattle.roc_witness.proofs.Simple.{shortest_once}
use Rattle.roc_witness.proofs.Leaving.{IsEarly, early}
use Rattle.roc_witness.proofs.Bounded.{IsShort, bounded}
use Rattle.roc_witness.proofs.Sound.{sound}

-- how long the cycle of a walk is
lead_long : (p : PieceId) (piece : ℕ) → (1 ≤ length (lead p piece)) × (length (lead p piece) ≤ 2)
lead_long p piece = go (p.piece == piece)
  where
    go : (t : Bool) → (1 ≤ length (cond t (first_instance p ∷ []) (first_instance p ∷ sibling p piece ∷ []))) × (length (cond t (first_instance p ∷ []) (first_instance p ∷ sibling p piece ∷ [])) ≤ 2)
    go true = (omega arith, omega arith)
    go false = (omega arith, omega arith)

cycle_long : (p q : PieceId) (piece : ℕ) (way : List Vertex) → length ((lead p piece ++ way) ++ first_instance q ∷ []) ≡ length (lead p piece) + length way + 1
cycle_long p q piece way = omega (arith, length-append (lead p piece ++ way) (first_instance q ∷ []), length-append (lead p piece) way)

-- the ends of a cycle are different pieces of the program
pub ends_of : (program : Workload) (immediate : PieceId → Bool) (p q : PieceId) (d : List Vertex) → IsCycleOf program immediate p q d → (p ≢ q) × HasPiece program p × HasPiece program q
ends_of program immediate p q d is =
    let cycle : IsUnreorderable program immediate (first_instance p ∷ (is.between ++ first_instance q ∷ [])) = subst (IsUnreorderable program immediate) is.ends is.unreorderable in
    let last : Has (first_instance q) (is.between ++ first_instance q ∷ []) = has_right (first_instance q) is.between (first_instance q ∷ []) (inl refl) in (
      λ e. cycle.distinct.0 (has_listed is_vertex is_vertex-true is_vertex-same (is.between ++ first_instance q ∷ []) (first_instance p) (subst (λ v. Has v (is.between ++ first_instance q ∷ [])) (sym (ap first_instance e)) last)),
      cycle.present.0,
      all_has (λ v. HasPiece program (piece_id v)) (first_instance q) (is.between ++ first_instance q ∷ []) cycle.present.1 last,
    )

module _ (program : Workload) (immediate : PieceId → Bool) (table : List (List Bool)) (exact : IsTableOf program immediate table) (p q : PieceId) (same : p.proc ≡ q.proc) (apart : p ≢ q)
    (p_there : HasPiece program p) (q_there : HasPiece program q) (all : List Vertex) (all_is : all ≡ vertices program) (count : ℕ) (count_is : count ≡ length (pieces_in program p.proc)) where
  abbrev IsCycle : List Vertex → Type 0
  IsCycle d = IsCycleOf program immediate p q d

  abbrev IsCandidate : List Vertex → Type 0
  IsCandidate d = LeavesBelow all table p q count d

  candidate : (piece : ℕ) (way : List Vertex) → piece < length (pieces_in program p.proc) → piece ≢ q.piece → length way ≤ 6
      → IsWalk (may_step table (sibling p piece)) (open_vertices (vertices program) (first_instance p) (sibling p piece) (first_instance q)) (sibling p piece) (first_instance q) way → IsCandidate ((lead p piece ++ way) ++ first_instance q ∷ [])
  candidate piece way below other few walk =
      record {
        piece = piece;
        below = omega (arith, below, count_is);
        leaves = record {
          other = other;
          way = way;
          short = few;
          walk = subst (λ vs. IsWalk (may_step table (sibling p piece)) (open_vertices vs (first_instance p) (sibling p piece) (first_instance q)) (sibling p piece) (first_instance q) way) (sym all_is) walk;
          is = refl;
        };
      }

  -- a candidate of at most eight vertices
  bounded_candidate : (d : List Vertex) → IsCycle d → (e : List Vertex) × IsCandidate e × (length e ≤ 8)
  bounded_candidate d is =
      let r : IsShort program immediate table exact p q same = bounded program immediate table exact p q same d is in
      ((lead p r.piece ++ r.way) ++ first_instance q ∷ [], candidate r.piece r.way r.below r.other (omega (arith, r.few)) r.walk, omega (arith, r.few, (lead_long p r.piece).1, cycle_long p q r.piece r.way))

  -- a candidate that is a short cycle or shorter than it
  early_candidate : (d : List Vertex) → IsCycle d → length d ≤ 8 → (e : List Vertex) × IsCandidate e × ((e ≡ d) ⊎ (length e < length d))
  early_candidate d is few =
      let r : IsEarly program immediate table exact p q same d = early program immediate table exact p q same d is in
      let e : List Vertex = (lead p r.piece ++ r.way) ++ first_instance q ∷ [] in
      let short : length r.way ≤ 6 = elim r.near [
        | inl f ↦ omega (arith, ap (λ (vs : List Vertex). length vs) f, few, (lead_long p r.piece).0, cycle_long p q r.piece r.way)
        | inr l ↦ omega (arith, l, few, (lead_long p r.piece).0, cycle_long p q r.piece r.way)
      ] in
      (e, candidate r.piece r.way r.below r.other short r.walk, r.near)

  module _ (c : List Vertex) (is : IsCandidate c) (best : (d : List Vertex) → IsCandidate d → is_better d c ≡ false) where
    candidate_is : IsCycle c
    candidate_is =
        subst IsCycle (sym is.leaves.is)
        (sound program immediate table exact p q same apart p_there q_there is.piece is.leaves.other (record { procedure = p_there.procedure; piece = omega (arith, is.below, count_is) }) is.leaves.way walk
        (shortest_once (may_step table (sibling p is.piece)) (open_vertices (vertices program) (first_instance p) (sibling p is.piece) (first_instance q)) (first_instance q) (sibling p is.piece) is.leaves.way walk no_shorter))
      where
        walk : IsWalk (may_step table (sibling p is.piece)) (open_vertices (vertices program) (first_instance p) (sibling p is.piece) (first_instance q)) (sibling p is.piece) (first_instance q) is.leaves.way
        walk = subst (λ vs. IsWalk (may_step table (sibling p is.piece)) (open_vertices vs (first_instance p) (sibling p is.piece) (first_instance q)) (sibling p is.piece) (first_instance q) is.leaves.way) all_is is.leaves.walk

        no_shorter : (other : List Vertex) → IsWalk (may_step table (sibling p is.piece)) (open_vertices (vertices program) (first_instance p) (sibling p is.piece) (first_instance q)) (sibling p is.piece) (first_instance q) other → length is.leaves.way ≤ length other
        no_shorter other w =
            elim (cases_lt (length other) 7) [
              | inr long ↦ omega (arith, long, is.leaves.short)
              | inl few ↦
                  (let d : List Vertex = (lead p is.piece ++ other) ++ first_instance q ∷ [] in
                  let l = not_better_long d c (best d (candidate is.piece other (omega (arith, is.below, count_is)) is.leaves.other (omega arith) w)) in
                  omega (arith, l, ap (λ (vs : List Vertex). length vs) is.leaves.is, cycle_long p q is.piece other, cycle_long p q is.piece is.leaves.way))
            ]

    none_shorter : (d : List Vertex) → IsCycle d → length c ≤ length d
    none_shorter d of =
        elim (cases_lt (length d) 9) [
          | inl few ↦ (let r = early_candidate d of (omega arith) in let l = not_better_long r.0 c (best r.0 r.1) in elim r.2 [ inl e ↦ omega (arith, l, ap (λ (vs : List Vertex). length vs) e) | inr less ↦ omega (arith, l, less) ])
          | inr many ↦ (let r = bounded_candidate d of in let l = not_better_long r.0 c (best r.0 r.1) in omega (arith, l, r.2))
        ]

    none_less : (d : List Vertex) → IsCycle d → length d ≡ length c → stands_before d c ≡ false
    none_less d of long =
        elim (cases_lt (length d) 9) [
          | inl few ↦
              (let r = early_candidate d of (omega arith) in
              let l = not_better_long r.0 c (best r.0 r.1) in
              elim r.2 [
                | inl e ↦ not_better_comes d c (subst (λ vs. is_better vs c ≡ false) e (best r.0 r.1)) long
                | inr less ↦ absurd (omega (arith, l, less))
              ])
          | inr many ↦ absurd (let r = bounded_candidate d of in let l = not_better_long r.0 c (best r.0 r.1) in omega (arith, l, r.2))
        ]

  -- ---- the clauses

  abbrev Found : Type 0
  Found = Option (Vec Vertex Global)

  pub found_is : (o : Found) → IsBest IsCandidate (option_map (λ c. c.items) o) → IfSome o (λ c. IsCycle c.items)
  found_is None h = tt
  found_is (Some c) h = candidate_is c.items h.0 h.1

  pub found_shortest : (o : Found) → IsBest IsCandidate (option_map (λ c. c.items) o) → IfSome o (λ c. (d : List Vertex) → IsCycle d → length c.items ≤ length d)
  found_shortest None h = tt
  found_shortest (Some c) h = none_shorter c.items h.0 h.1

  pub found_least : (o : Found) → IsBest IsCandidate (option_map (λ c. c.items) o) → IfSome o (λ c. (d : List Vertex) → IsCycle d → length d ≡ length c.items → ¬ IsTrue (stands_before d c.items))
  found_least None h = tt
  found_least (Some c) h = λ d of long t. false≢true (sym (none_less c.items h.0 h.1 d of long) ∙ t)

  pub found_none : (o : Found) → IsBest IsCandidate (option_map (λ c. c.items) o) → IfNone o ((d : List Vertex) → IsCycle d → ⊥)
  found_none None h = λ d of. let r = bounded_candidate d of in h r.0 r.1
  found_none (Some c) h = tt
