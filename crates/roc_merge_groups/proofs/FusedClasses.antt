-- Immediate and contended groups, and the cycles of the graph over groups
use Rattle.std.proofs.Common.{◌≡◌, ◌≢◌, ◌↔◌, ℕ, zero, suc, ◌<◌, Bool, true, false, cond, ◌&&◌, ◌==◌, List, [], ◌∷◌, length, Some, None, IsTrue, refl, sym, ap, subst, ◌∙◌, inl, inr, arith}
use Rattle.std.proofs.lemmas.Bool.{cases_eq, and_parts, and_from, false≢true}
use Rattle.std.specs.Bool.{nat_lt}
use Rattle.roc_sequence.specs.Lists.{Has}
use Rattle.roc_sequence.specs.Rising.{IsRising}
use Rattle.roc_sequence.proofs.Holds.{any_has, has_any, all_at}
use Rattle.roc_program.specs.Program.{Workload}
use Rattle.roc_program.specs.Pieces.{pieces_in, piece_of, HasPiece, all_pieces}
use Rattle.roc_program.specs.Conflict.{are_in_conflict}
use Rattle.roc_program.specs.declared.piece_id.PieceId.{PieceId}
use Rattle.roc_conflict.specs.Immediate.{IsImmediate, declared, in_conflict}
use Rattle.roc_conflict.specs.Contended.{has_conflict, is_contended}
use Rattle.roc_conflict.proofs.Members.{found_by_any}
use Rattle.roc_conflict.proofs.Present.{present_from_now, present_from_conflict, some_conflict}
use Rattle.roc_conflict.proofs.Least.{present_from_immediate}
use Rattle.roc_scgraph.specs.declared.vertex.Vertex.{Vertex}
use Rattle.roc_scgraph.specs.declared.vertex.Kind.TheVariants.{S, C}
use Rattle.roc_scgraph.specs.Graph.{piece_id, are_siblings, edge}
use Rattle.roc_scgraph.specs.Cycles.{neighbours, is_sibling_edge, IsUnreorderable}
use Rattle.roc_scgraph.proofs.Contended.{only, each}
use Rattle.roc_merge_groups.specs.Groups.{piece_numbered, groups_in, group_at, first_piece}
use Rattle.roc_merge_groups.specs.Grouping.{AreTogether, IsGrouping}
use Rattle.roc_merge_groups.specs.Accepted.{over_groups, is_immediate_group}
use Rattle.roc_merge_groups.proofs.Elements.{place_of_has, has_at_place, row_of_has, has_row, numbers_one_way}
use Rattle.roc_merge_groups.proofs.Fused.{members, now_over, group_there, there_group, meets_from, meets_to}

-- groups whose pieces are immediate where there are several, and classes that are the least set
pub record AreFit (program : Workload) (is_immediate : PieceId → Bool) (groups : List (List (List ℕ))) : Type 0 where
  pub even : length groups ≡ length program.procedures
  pub grouping : (proc : ℕ) → proc < length program.procedures → IsGrouping (length (pieces_in program proc)) (groups_in groups proc)
  pub immediate : (proc : ℕ) → proc < length program.procedures → (x y : ℕ) → x ≢ y → AreTogether (groups_in groups proc) x y → is_immediate (piece_numbered proc x) ≡ true
  pub least : (id : PieceId) → IsTrue (is_immediate id) ↔ IsImmediate program id

-- a procedure has at most one group with contended pieces
abbrev pub AreContendedTogether : Workload → (PieceId → Bool) → List (List (List ℕ)) → Type 0
AreContendedTogether program is_immediate groups =
    (proc x y : ℕ) → IsTrue (is_contended program is_immediate (piece_numbered proc x)) → IsTrue (is_contended program is_immediate (piece_numbered proc y)) → AreTogether (groups_in groups proc) x y

-- groups whose first pieces rise are one only where their numbers are
pub numbered_once : (gs : List (List ℕ)) → IsRising (λ g h. nat_lt (first_piece g) (first_piece h)) gs → (i j : ℕ) → i < length gs → j < length gs → group_at gs i ≡ group_at gs j → i ≡ j
numbered_once [] r i j l m e = absurd (omega arith)
numbered_once (g ∷ gs) r zero zero l m e = refl
numbered_once (g ∷ gs) r zero (suc j) l m e =
    let t = all_at (λ h. nat_lt (first_piece g) (first_piece h) ≡ true) gs j [] r.0 (omega arith) in
    let u : nat_lt (first_piece g) (first_piece g) ≡ true = subst (λ h. nat_lt (first_piece g) (first_piece h) ≡ true) (sym e) t in
    absurd (numbers_one_way (first_piece g) (first_piece g) u u)
numbered_once (g ∷ gs) r (suc i) zero l m e =
    let t = all_at (λ h. nat_lt (first_piece g) (first_piece h) ≡ true) gs i [] r.0 (omega arith) in
    let u : nat_lt (first_piece g) (first_piece g) ≡ true = subst (λ h. nat_lt (first_piece g) (first_piece h) ≡ true) e t in
    absurd (numbers_one_way (first_piece g) (first_piece g) u u)
numbered_once (g ∷ gs) r (suc i) (suc j) l m e = ap suc (numbered_once gs r.1 i j (omega arith) (omega arith) e)

-- what an S-edge joins are siblings
siblings_of_edge : (program : Workload) (is_immediate : PieceId → Bool) (a b : Vertex) → is_sibling_edge (edge program is_immediate a b) ≡ true → are_siblings a b ≡ true
siblings_of_edge program is_immediate a b h = go (are_siblings a b) refl h
  where
    go : (t : Bool) → are_siblings a b ≡ t
        → is_sibling_edge (cond t (cond (a.piece == b.piece) None (Some S)) (cond (are_in_conflict program (piece_id a) (piece_id b)) (Some (C (is_immediate (piece_id a) && is_immediate (piece_id b)))) None)) ≡ true → t ≡ true
    go true e k = refl
    go false e k = absurd (no_conflict_step (are_in_conflict program (piece_id a) (piece_id b)) k)
      where
        no_conflict_step : (c : Bool) → is_sibling_edge (cond c (Some (C (is_immediate (piece_id a) && is_immediate (piece_id b)))) None) ≡ true → ⊥
        no_conflict_step true m = false≢true m
        no_conflict_step false m = false≢true m

module _ (program : Workload) (is_immediate : PieceId → Bool) (groups : List (List (List ℕ))) (fit : AreFit program is_immediate groups) where
  abbrev over : Workload
  over = over_groups program groups

  abbrev over_immediate : PieceId → Bool
  over_immediate = is_immediate_group is_immediate groups

  -- where one piece of a group is immediate, each is
  alike : (id : PieceId) (x y : ℕ) → Has x (members groups id) → Has y (members groups id) → is_immediate (piece_numbered id.proc x) ≡ true → is_immediate (piece_numbered id.proc y) ≡ true
  alike id x y h k e =
      elim (cases_eq y x) [
        | inl same ↦ ap (λ n. is_immediate (piece_numbered id.proc n)) same ∙ e
        | inr other ↦ fit.immediate id.proc (present_from_immediate program (piece_numbered id.proc x) ((fit.least (piece_numbered id.proc x)).0 e)).procedure y x other
            (record { group = members groups id; is = has_row x (groups_in groups id.proc) id.piece h; one = k; other = h })
      ]

  -- the group of a piece
  pub group_of_piece : (id : PieceId) → HasPiece program id → (g : ℕ) × Has id.piece (members groups (piece_numbered id.proc g))
  group_of_piece id there =
      let t = ((fit.grouping id.proc there.procedure).whole id.piece).0 there.piece in
      let r = place_of_has t.group (groups_in groups id.proc) _ t.is in
      (r.0, subst (λ xs. Has id.piece xs) (sym r.2) t.one)

  -- the immediate groups are the least set of that program
  pieces_immediate : (id : PieceId) → IsImmediate over id → (x : ℕ) → Has x (members groups id) → is_immediate (piece_numbered id.proc x) ≡ true
  pieces_immediate _ (declared {id} there now) x h =
      let r = any_has (λ z. (piece_of program (piece_numbered id.proc z)).is_now) (members groups id) (sym (now_over program groups fit.even id) ∙ now) in
      alike id r.0 x r.1 h ((fit.least (piece_numbered id.proc r.0)).1 (declared (present_from_now program (piece_numbered id.proc r.0) r.2) r.2))
  pieces_immediate _ (in_conflict {one} {other} first meets) x h =
      let r = meets_from program groups fit.even one other meets in
      let e = pieces_immediate one first r.0 r.2 in
      alike other r.1 x r.3 h ((fit.least (piece_numbered other.proc r.1)).1 (in_conflict ((fit.least (piece_numbered one.proc r.0)).0 e) r.4))

  group_immediate : (id : PieceId) → IsImmediate program id → (g : ℕ) → Has id.piece (members groups (piece_numbered id.proc g)) → IsImmediate over (piece_numbered id.proc g)
  group_immediate _ (declared {id} there now) g h =
      declared (there_group program groups fit.even (piece_numbered id.proc g) id.piece h there.procedure)
      (now_over program groups fit.even (piece_numbered id.proc g) ∙ has_any (λ z. (piece_of program (piece_numbered id.proc z)).is_now) (members groups (piece_numbered id.proc g)) id.piece h now)
  group_immediate _ (in_conflict {one} {other} first meets) g h =
      let r = group_of_piece one (present_from_immediate program one first) in
      in_conflict (group_immediate one first r.0 r.1) (meets_to program groups fit.even (piece_numbered one.proc r.0) (piece_numbered other.proc g) one.piece other.piece r.1 h meets)

  some_piece : (id : PieceId) → HasPiece over id → Has (first_piece (members groups id)) (members groups id)
  some_piece id there =
      let l = group_there program groups fit.even id there in
      has_at_place (members groups id) 0 0 (all_at (λ g. 0 < length g) (groups_in groups id.proc) id.piece _ (fit.grouping id.proc l.0).some l.1)

  pub over_least : (id : PieceId) → IsTrue (over_immediate id) ↔ IsImmediate over id
  over_least id = (
    λ h. let r = any_has (λ x. is_immediate (piece_numbered id.proc x)) (members groups id) h in
        group_immediate (piece_numbered id.proc r.0) ((fit.least (piece_numbered id.proc r.0)).0 r.2) id.piece r.1,
    λ h. let has = some_piece id (present_from_immediate over id h) in
        has_any (λ x. is_immediate (piece_numbered id.proc x)) (members groups id) (first_piece (members groups id)) has (pieces_immediate id h (first_piece (members groups id)) has),
  )

  -- a group is contended where a piece of it is
  pub contended_from : (id : PieceId) → is_contended over over_immediate id ≡ true → (x : ℕ) × Has x (members groups id) × (is_contended program is_immediate (piece_numbered id.proc x) ≡ true)
  contended_from id h =
      let p = and_parts (over_immediate id) (has_conflict over id) h in
      let o = found_by_any (are_in_conflict over id) (all_pieces over) p.1 in
      let r = meets_from program groups fit.even id o.0 o.1 in
      (r.0, r.2, and_from _ _ (pieces_immediate id ((over_least id).0 p.0) r.0 r.2) (some_conflict program (piece_numbered id.proc r.0) (piece_numbered o.0.proc r.1) r.4))

  pub contended_to : (id : PieceId) (x : ℕ) → Has x (members groups id) → is_contended program is_immediate (piece_numbered id.proc x) ≡ true → is_contended over over_immediate id ≡ true
  contended_to id x h k =
      let p = and_parts (is_immediate (piece_numbered id.proc x)) (has_conflict program (piece_numbered id.proc x)) k in
      let o = found_by_any (are_in_conflict program (piece_numbered id.proc x)) (all_pieces program) p.1 in
      let g = group_of_piece o.0 (present_from_conflict program (piece_numbered id.proc x) o.0 o.1) in
      and_from _ _ (has_any (λ x. is_immediate (piece_numbered id.proc x)) (members groups id) x h p.0)
      (some_conflict over id (piece_numbered o.0.proc g.0) (meets_to program groups fit.even id (piece_numbered o.0.proc g.0) x o.0.piece h g.1 o.1))

  -- two groups of a procedure with a piece in common are one
  pub same_group : (proc g h x y : ℕ) → Has x (members groups (piece_numbered proc g)) → Has y (members groups (piece_numbered proc h)) → proc < length program.procedures → AreTogether (groups_in groups proc) x y → g ≡ h
  same_group proc g h x y one other below t =
      let gs = groups_in groups proc in
      let is = fit.grouping proc below in
      let e = is.once (group_at gs g) t.group x (has_row x gs g one) t.is one t.one in
      let f = is.once (group_at gs h) t.group y (has_row y gs h other) t.is other t.other in
      numbered_once gs is.numbered g h (row_of_has x gs g one) (row_of_has y gs h other) (e ∙ sym f)

  -- no cycle goes over groups exactly where a procedure has at most one contended group
  pub together_from_no_cycle : ((cycle : List Vertex) → ¬ IsUnreorderable over over_immediate cycle) → AreContendedTogether program is_immediate groups
  together_from_no_cycle none proc x y cx cy =
      let there : (z : ℕ) → is_contended program is_immediate (piece_numbered proc z) ≡ true → HasPiece program (piece_numbered proc z) =
      λ z h. present_from_immediate program (piece_numbered proc z) ((fit.least (piece_numbered proc z)).0 (and_parts (is_immediate (piece_numbered proc z)) (has_conflict program (piece_numbered proc z)) h).0) in
      let g = group_of_piece (piece_numbered proc x) (there x cx) in
      let h = group_of_piece (piece_numbered proc y) (there y cy) in
      elim (cases_eq g.0 h.0) [
        | inl same ↦ record { group = group_at (groups_in groups proc) g.0; is = has_row x (groups_in groups proc) g.0 g.1; one = g.1; other = subst (λ k. Has y (group_at (groups_in groups proc) k)) (sym same) h.1 }
        | inr apart ↦ (let r = each over over_immediate over_least (piece_numbered proc g.0) (piece_numbered proc h.0) (λ e. apart (ap (λ (p : PieceId). p.piece) e)) refl
            (contended_to (piece_numbered proc g.0) x g.1 cx) (contended_to (piece_numbered proc h.0) y h.1 cy) in absurd (none _ r.1))
      ]

  pub one_contended : AreContendedTogether program is_immediate groups → (p q : PieceId) → p.proc ≡ q.proc
      → is_contended over over_immediate p ≡ true → is_contended over over_immediate q ≡ true → p ≡ q
  one_contended together p q same cp cq =
      let x = contended_from p cp in
      let y = contended_from q cq in
      let at : PieceId = piece_numbered p.proc q.piece in
      let is : at ≡ q = ap (λ n. piece_numbered n q.piece) same in
      let has : Has y.0 (members groups at) = subst (λ k. Has y.0 (members groups k)) (sym is) y.1 in
      let meets : is_contended program is_immediate (piece_numbered p.proc y.0) ≡ true = ap (λ n. is_contended program is_immediate (piece_numbered n y.0)) same ∙ y.2 in
      let below = (present_from_immediate program (piece_numbered p.proc x.0) ((fit.least (piece_numbered p.proc x.0)).0 (and_parts (is_immediate (piece_numbered p.proc x.0)) (has_conflict program (piece_numbered p.proc x.0)) x.2).0)).procedure in
      let e : p.piece ≡ q.piece = same_group p.proc p.piece q.piece x.0 y.0 x.1 has below (together p.proc x.0 y.0 x.2 meets) in
      ap (λ n. piece_numbered p.proc n) e ∙ is

  pub no_cycle_from_together : AreContendedTogether program is_immediate groups → (cycle : List Vertex) → ¬ IsUnreorderable over over_immediate cycle
  no_cycle_from_together together cycle is =
      let s = any_has (λ n. is_sibling_edge (edge over over_immediate n.0 n.1)) (neighbours cycle) is.some_sibling in
      let two = only over over_immediate over_least cycle s.0.0 s.0.1 is s.1 (siblings_of_edge over over_immediate s.0.0 s.0.1 s.2) in
      two.apart (one_contended together two.one two.other (two.one_of ∙ sym two.other_of) two.one_contended two.other_contended)
