-- Where two pieces have a cycle they have a shortest one, and of the shortest the least
use Rattle.std.proofs.Common.{◌≡◌, ℕ, ◌+◌, ◌<◌, ◌≤◌, Bool, true, false, IsTrue, List, [], ◌∷◌, ◌++◌, length, refl, sym, ap, subst, ◌∙◌, inl, inr, arith, length-append}
use Rattle.std.proofs.lemmas.Bool.{false≢true, cases_lt}
use Rattle.std.specs.List.{AllByRecursion, list_any}
use Rattle.roc_sequence.specs.Lists.{Has}
use Rattle.roc_sequence.specs.Places.{IsListed, NoneTwice, place_of}
use Rattle.roc_sequence.proofs.Holds.{all_has}
use Rattle.roc_sequence.proofs.Members.{has_left}
use Rattle.roc_program.specs.Program.{Workload}
use Rattle.roc_program.specs.Pieces.{pieces_in, HasPiece}
use Rattle.roc_program.specs.declared.piece_id.PieceId.{PieceId}
use Rattle.roc_scgraph.specs.declared.vertex.Vertex.{Vertex}
use Rattle.roc_scgraph.specs.Graph.{piece_id, is_vertex, edge}
use Rattle.roc_scgraph.specs.Cycles.{neighbours, is_fixed, is_sibling_edge, is_conflict_edge, IsUnreorderable, first_instance}
use Rattle.roc_witness.specs.Order.{stands_before}
use Rattle.roc_witness.specs.Shortest.{IsCycleOf, IsShortestOf}
use Rattle.roc_witness.specs.Inner.Candidates.{is_better}
use Rattle.roc_witness.proofs.Ordered.{not_better_long, not_better_comes, better_swap, better_between}
use Rattle.roc_check.proofs.Searches.{HoldsOrNot, by_test, is_less, both, not_so, along, each_of, IsBestOf, best_of, lists_of, has_list}
use Rattle.roc_check.proofs.Vertices.{vertices_of, vertex_listed}

once_known : (vs : List Vertex) → HoldsOrNot (NoneTwice is_vertex vs)
once_known [] = inl tt
once_known (v ∷ vs) = both (¬ IsListed is_vertex vs v) (NoneTwice is_vertex vs) (not_so (IsListed is_vertex vs v) (is_less (place_of (is_vertex v) vs) (length vs))) (once_known vs)

there_known : (program : Workload) (id : PieceId) → HoldsOrNot (HasPiece program id)
there_known program id =
    along ((id.proc < length program.procedures) × (id.piece < length (pieces_in program id.proc))) (HasPiece program id)
    (λ h. record { procedure = h.0; piece = h.1 }) (λ there. (there.procedure, there.piece))
    (both (id.proc < length program.procedures) (id.piece < length (pieces_in program id.proc)) (is_less id.proc (length program.procedures)) (is_less id.piece (length (pieces_in program id.proc))))

module _ (program : Workload) (is_immediate : PieceId → Bool) where
  abbrev Fixed : Vertex × Vertex → Bool
  Fixed n = is_fixed (edge program is_immediate n.0 n.1)

  abbrev Sibling : Vertex × Vertex → Bool
  Sibling n = is_sibling_edge (edge program is_immediate n.0 n.1)

  abbrev Conflict : Vertex × Vertex → Bool
  Conflict n = is_conflict_edge (edge program is_immediate n.0 n.1)

  cycle_known : (cycle : List Vertex) → HoldsOrNot (IsUnreorderable program is_immediate cycle)
  cycle_known cycle =
      along (Long × (Once × (There × (AllFixed × (SomeSibling × SomeConflict))))) (IsUnreorderable program is_immediate cycle)
      (λ h. record { long = omega (arith, h.0); distinct = h.1.0; present = h.1.1.0; fixed = h.1.1.1.0; some_sibling = h.1.1.1.1.0; some_conflict = h.1.1.1.1.1 })
      (λ is. let l = is.long in (omega arith, (is.distinct, (is.present, (is.fixed, (is.some_sibling, is.some_conflict))))))
      (both Long (Once × (There × (AllFixed × (SomeSibling × SomeConflict)))) (is_less 2 (length cycle))
      (both Once (There × (AllFixed × (SomeSibling × SomeConflict))) (once_known cycle)
      (both There (AllFixed × (SomeSibling × SomeConflict)) (each_of (λ v. HasPiece program (piece_id v)) (λ v. there_known program (piece_id v)) cycle)
      (both AllFixed (SomeSibling × SomeConflict) (each_of (λ n. IsTrue (Fixed n)) (λ n. by_test (Fixed n)) (neighbours cycle))
      (both SomeSibling SomeConflict (by_test (list_any Sibling (neighbours cycle))) (by_test (list_any Conflict (neighbours cycle))))))))
    where
      Long : Type 0
      Long = 2 < length cycle

      Once : Type 0
      Once = NoneTwice is_vertex cycle

      There : Type 0
      There = AllByRecursion (λ v. HasPiece program (piece_id v)) cycle

      AllFixed : Type 0
      AllFixed = AllByRecursion (λ n. IsTrue (Fixed n)) (neighbours cycle)

      SomeSibling : Type 0
      SomeSibling = IsTrue (list_any Sibling (neighbours cycle))

      SomeConflict : Type 0
      SomeConflict = IsTrue (list_any Conflict (neighbours cycle))

  module _ (p q : PieceId) where
    -- the cycle with these between the two
    abbrev round : List Vertex → List Vertex
    round between = first_instance p ∷ (between ++ first_instance q ∷ [])

    abbrev Closes : List Vertex → Type 0
    Closes between = IsUnreorderable program is_immediate (first_instance p ∷ (between ++ first_instance q ∷ []))

    round_length : (between : List Vertex) → length (round between) ≡ length between + 2
    round_length between = omega (arith, length-append between (first_instance q ∷ []))

    -- what is between is of the program
    among : (between : List Vertex) → Closes between → (v : Vertex) → Has v between → Has v (vertices_of program)
    among between is v h = vertex_listed program v (all_has (λ u. HasPiece program (piece_id u)) v (between ++ first_instance q ∷ []) is.present.1 (has_left v between (first_instance q ∷ []) h))

    listed : (limit : ℕ) (between : List Vertex) → length between ≤ limit → Closes between → Has between (lists_of (vertices_of program) limit)
    listed limit between short is = has_list (vertices_of program) limit between short (among between is)

    abbrev better : List Vertex → List Vertex → Bool
    better one other = is_better (round one) (round other)

    swap : (a b : List Vertex) → better a b ≡ true → better b a ≡ false
    swap a b h = better_swap (round a) (round b) h

    meet : (a b c : List Vertex) → better a c ≡ true → better b c ≡ false → better a b ≡ true
    meet a b c h k = better_between (round a) (round b) (round c) h k

    abbrev Best : ℕ → List Vertex → Type 0
    Best limit way = IsBestOf better swap meet Closes (lists_of (vertices_of program) limit) way

    -- the best that are no longer than one that there is
    shortest_by : (known way : List Vertex) → Closes known → Best (length known) way → IsShortestOf program is_immediate p q (round way)
    shortest_by known way is best = record {
      is = record { between = way; ends = refl; unreorderable = best.is };
      shortest = λ other o. elim (cases_lt (length known) (length o.between)) [
        | inl longer ↦ (let l = long known (omega arith) is in let e = other_length other o in let f = round_length known in omega arith)
        | inr short ↦ (let l = long o.between short (closed other o) in let e = other_length other o in let f = round_length o.between in omega arith)
      ];
      least = λ other o same h.
          let l = long known (omega arith) is in
          let short : length o.between ≤ length known = (let e = other_length other o in let f = round_length known in omega arith) in
          let not_better = best.best o.between (listed (length known) o.between short (closed other o)) (closed other o) in
          let first = not_better_comes (round o.between) (round way) not_better (sym (ap (λ (vs : List Vertex). length vs) o.ends) ∙ same) in
          false≢true (sym first ∙ subst (λ vs. stands_before vs (round way) ≡ true) o.ends h);
    }
      where
        closed : (other : List Vertex) (o : IsCycleOf program is_immediate p q other) → Closes o.between
        closed other o = subst (IsUnreorderable program is_immediate) o.ends o.unreorderable

        other_length : (other : List Vertex) (o : IsCycleOf program is_immediate p q other) → length other ≡ length o.between + 2
        other_length other o = ap (λ (vs : List Vertex). length vs) o.ends ∙ round_length o.between

        long : (between : List Vertex) → length between ≤ length known → Closes between → length (round way) ≤ length (round between)
        long between short closes = not_better_long (round between) (round way) (best.best between (listed (length known) between short closes) closes)

    pub shortest_from : (cycle : List Vertex) → IsCycleOf program is_immediate p q cycle → (least : List Vertex) × IsShortestOf program is_immediate p q least
    shortest_from cycle is =
        let closes : Closes is.between = subst (IsUnreorderable program is_immediate) is.ends is.unreorderable in
        elim (best_of better swap meet Closes (λ between. cycle_known (round between)) (lists_of (vertices_of program) (length is.between))) [
          | inl f ↦ (round f.0, shortest_by is.between f.0 closes f.1)
          | inr none ↦ absurd (none is.between (listed (length is.between) is.between (omega arith) closes) closes)
        ]
