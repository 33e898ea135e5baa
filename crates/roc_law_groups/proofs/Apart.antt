-- Pieces of groups in turn pass none that touches what they touch
use Rattle.std.proofs.Common.{◌≡◌, ℕ, zero, suc, ◌<◌, ◌≤◌, ◌+◌, Bool, true, false, cond, not, ◌==◌, List, length, map, refl, sym, ap, subst, ◌∙◌, inl, inr, arith}
use Rattle.std.specs.List.{flat_map, range_with_len}
use Rattle.std.proofs.lemmas.Bool.{false≢true, eq-eqb, eqb-true, cases_eq}
use Rattle.roc_sequence.specs.Lists.{Has}
use Rattle.roc_sequence.specs.Places.{place_of, IsListedBefore}
use Rattle.roc_sequence.proofs.Holds.{all_has, any_has, has_any}
use Rattle.roc_sequence.proofs.Members.{has_map, has_flat_map, from_has_flat_map}
use Rattle.roc_sequence.proofs.Filtered.{before_filter, from_before_filter}
use Rattle.roc_rows.specs.declared.cell.Cell.{Cell}
use Rattle.roc_program.specs.Program.{Procedure}
use Rattle.roc_program.specs.Conflict.{are_in_conflict}
use Rattle.roc_program.specs.Names.{piece_uses, bindings_of, bindings, has_name}
use Rattle.roc_program.proofs.Conflicts.{in_conflict_from}
use Rattle.roc_program.proofs.Views.{view_reads}
use Rattle.roc_merge_groups.specs.Groups.{piece_numbered}
use Rattle.roc_merge_groups.proofs.Forward.{forward, name_has}
use Rattle.roc_merge_groups.proofs.Accepting.{pieces_apart}
use Rattle.roc_conflict.proofs.Mirrored.{conflict_mirrored}
use Rattle.roc_plan.specs.declared.group.Input.{Input}
use Rattle.roc_plan.specs.Groups.{Plan, is_view_of, groups_of, is_immediate_of, inputs_in, inputs_of, bound_in, source_in}
use Rattle.roc_plan.specs.Accepted.{IsAccepted, grouping_of, is_piece_immediate}
use Rattle.roc_plan.specs.Turns.{AreInTurn}
use Rattle.roc_group.proofs.Touches.{binds_in, touches, writes, not_true}
use Rattle.roc_group.proofs.Views.{reads_write_nothing}
use Rattle.roc_law_groups.proofs.Sorting.{MayStand}
use Rattle.roc_group.proofs.Starts.{bound_named, used_or_bound}
use Rattle.roc_group.proofs.GroupStarts.{at, pieces_bound, binder, somewhere, is_taken}
use Rattle.roc_law_groups.proofs.Turned.{IsBehind, has_listed, listed_has, before_by_places, behind_first, behind_second, MayFollow, stand_all, conflict_of}
use Rattle.roc_group.proofs.Grouped.{pr, pieces_of, has_names, has_row, one_group, group_rising, in_a_group, is_piece, source, source_is, piece_immediate, first_pieces}

-- where a number stands in a range
place_in_range : (from count a : ℕ) → from ≤ a → a < from + count → place_of (λ x. a == x) (range_with_len from count) + from ≡ a
place_in_range from zero a low high = absurd (omega (arith, low, high))
place_in_range from (suc count) a low high = go (a == from) refl (place_in_range (from + 1) count a)
  where
    go : (s : Bool) → (a == from) ≡ s → (from + 1 ≤ a → a < (from + 1) + count → place_of (λ x. a == x) (range_with_len (from + 1) count) + (from + 1) ≡ a)
        → cond s 0 (suc (place_of (λ x. a == x) (range_with_len (from + 1) count))) + from ≡ a
    go true e ih = let same = eqb-true a from e in omega (arith, same)
    go false e ih = elim (cases_eq a from) [
      | inl same ↦ absurd (false≢true (sym e ∙ eq-eqb a from same))
      | inr n ↦ (let r = ih (omega (arith, low, n)) (omega (arith, high)) in omega (arith, r))
    ]

module _ (plan : Plan) (proc : ℕ) (ok : IsAccepted plan) (there : proc < length plan.program.procedures) (order : List ℕ) (turn : AreInTurn plan proc order) where
  abbrev Behind : ℕ → ℕ → Type 0
  Behind g h = IsBehind order g h

  before : (g h : ℕ) → Behind g h → IsListedBefore (λ a b. a == b) order g h
  before g h b = before_by_places order g h turn.once b

  two_groups : (g h : ℕ) → Behind g h → ¬ (g ≡ h)
  two_groups g h b e = let l = before g h b in let same = ap (λ k. place_of (λ x. k == x) order) e in omega (arith, l, same)

  count_of : ℕ
  count_of = length (groups_of plan proc)

  in_order : (g : ℕ) → Has g order → g < length (groups_of plan proc)
  in_order g h = (turn.members g).1 (listed_has order g h)

  -- two deferrable groups stand by number
  by_number : (g h : ℕ) → Behind g h → is_immediate_of plan proc g ≡ false → is_immediate_of plan proc h ≡ false → g < h
  by_number g h b e f =
      let later : ℕ → Bool = λ k. not (is_immediate_of plan proc k) in
      let n : ℕ = length (groups_of plan proc) in
      let one = before_filter (λ a b. a == b) (λ a b k. eqb-true a b k) later order g h (ap not e) (ap not f) (before g h b) in
      let all = subst (λ xs. IsListedBefore (λ a b. a == b) xs g h) turn.deferrable one in
      let places = from_before_filter (λ a b. a == b) (λ a b k. eqb-true a b k) later (range_with_len 0 n) g h (ap not e) (ap not f) all in
      let i = place_in_range 0 n g (omega arith) (let l = in_order g (behind_first order g h b) in omega (arith, l)) in
      let j = place_in_range 0 n h (omega arith) (let l = in_order h (behind_second order g h b) in omega (arith, l)) in
      omega (arith, places, i, j)

  -- ---- two pieces, the first of which comes earlier in program order, but later in turn
  module _ (g h : ℕ) (b : IsBehind order g h) (y x : ℕ) (in_g : Has y (pieces_of plan proc ok there g)) (in_h : Has x (pieces_of plan proc ok there h)) where
    procedure : Procedure
    procedure = pr plan proc ok there

    same_piece : ¬ (x ≡ y)
    same_piece e = two_groups g h b (one_group plan proc ok there g h y in_g (subst (λ k. Has k (pieces_of plan proc ok there h)) e in_h))

    -- no name that x binds is bound by y's group
    not_in_group : (n : ℕ) → binds_in (at (pr plan proc ok there) x) n ≡ true → has_name (bound_in (pr plan proc ok there) (pieces_of plan proc ok there g)) n ≡ false
    not_in_group n e = not_true (has_name (bound_in (pr plan proc ok there) (pieces_of plan proc ok there g)) n) (λ f.
        let j = any_has (λ k. binds_in (at (pr plan proc ok there) k) n) (pieces_of plan proc ok there g) (sym (pieces_bound (pr plan proc ok there) (pieces_of plan proc ok there g) n) ∙ f) in
        let same : j.0 ≡ x = binder (pr plan proc ok there) (has_names plan proc ok there) j.0 x n j.2 e in
        two_groups g h b (one_group plan proc ok there g h x (subst (λ k. Has k (pieces_of plan proc ok there g)) same j.1) in_h))

    -- y uses no name that x binds, since its group would stand behind that of x
    no_use : (n : ℕ) → piece_uses (at (pr plan proc ok there) y) n ≡ true → binds_in (at (pr plan proc ok there) x) n ≡ true → ⊥
    no_use n u e =
        let procedure_binds : Has n (bindings (pr plan proc ok there).pieces) = name_has (bindings (pr plan proc ok there).pieces) n (somewhere (pr plan proc ok there) x n e) in
        let used = has_any (λ piece. piece_uses piece n) (map (at (pr plan proc ok there)) (pieces_of plan proc ok there g)) (at (pr plan proc ok there) y) (has_map (at (pr plan proc ok there)) y (pieces_of plan proc ok there g) in_g) u in
        let taken = is_taken (pr plan proc ok there) (pieces_of plan proc ok there g) n procedure_binds used (not_in_group n e) in
        let from : ℕ → Input = source_in (pr plan proc ok there) (groups_of plan proc) in
        let listed = all_has _ (from n) (inputs_of plan proc g) (turn.behind g) (has_map from n (inputs_in (pr plan proc ok there) (pieces_of plan proc ok there g)) taken) in
        let same : source plan proc ok there n ≡ h = source_is plan proc ok there h x n in_h e in
        let first : IsListedBefore (λ a b. a == b) order h g = subst (λ k. IsListedBefore (λ a b. a == b) order k g) same listed.1 in
        let l = before g h b in omega (arith, l, first)

    no_meeting : x < y → are_in_conflict plan.program (piece_numbered proc y) (piece_numbered proc x) ≡ false
    no_meeting less = go (is_immediate_of plan proc g) refl (is_immediate_of plan proc h) refl
      where
        apart : ¬ (pieces_of plan proc ok there g ≡ pieces_of plan proc ok there h)
        apart e = two_groups g h b (one_group plan proc ok there g h y in_g (subst (λ ks. Has y ks) e in_g))

        apart_back : ¬ (pieces_of plan proc ok there h ≡ pieces_of plan proc ok there g)
        apart_back e = apart (sym e)

        go : (s : Bool) → is_immediate_of plan proc g ≡ s → (t : Bool) → is_immediate_of plan proc h ≡ t → are_in_conflict plan.program (piece_numbered proc y) (piece_numbered proc x) ≡ false
        go true e t f =
            pieces_apart plan.program (is_piece_immediate plan) (grouping_of plan) ok.grouping proc (pieces_of plan proc ok there g) (pieces_of plan proc ok there h) y x
            (has_row plan proc ok there g y in_g) (has_row plan proc ok there h x in_h) apart in_g in_h (piece_immediate plan proc ok there g y in_g e)
        go false e true f =
            conflict_mirrored plan.program (piece_numbered proc y) (piece_numbered proc x)
            ∙ pieces_apart plan.program (is_piece_immediate plan) (grouping_of plan) ok.grouping proc (pieces_of plan proc ok there h) (pieces_of plan proc ok there g) x y
            (has_row plan proc ok there h x in_h) (has_row plan proc ok there g y in_g) apart_back in_h in_g (piece_immediate plan proc ok there h x in_h f)
        go false e false f =
            let l : y < x = first_pieces plan proc ok there g h y x in_g in_h e f (by_number g h b e f) in absurd (omega (arith, l, less))

    -- pieces of one procedure that write and touch one column are in conflict: it is no view, since it writes
    in_conflict_of : (k l : ℕ) (c : Cell) → writes (at (pr plan proc ok there) k) c ≡ true → touches (at (pr plan proc ok there) l) c ≡ true
        → are_in_conflict plan.program (piece_numbered proc k) (piece_numbered proc l) ≡ true
    in_conflict_of k l c w t = go (is_view_of plan proc) refl
      where
        go : (v : Bool) → is_view_of plan proc ≡ v → are_in_conflict plan.program (piece_numbered proc k) (piece_numbered proc l) ≡ true
        go true e = absurd (false≢true (sym (reads_write_nothing (at (pr plan proc ok there) k) c (view_reads plan.program (piece_numbered proc k) ok.well_formed e)) ∙ w))
        go false e = in_conflict_from plan.program (piece_numbered proc k) (piece_numbered proc l) (record {
          first = e;
          second = e;
          meet = conflict_of (at (pr plan proc ok there) k) (at (pr plan proc ok there) l) c w t;
        })

    pub may_follow : MayFollow (at (pr plan proc ok there)) y x
    may_follow = (
      not_true (x == y) (λ e. same_piece (eqb-true x y e)),
      λ less. record {
        columns = λ c t. not_true (writes (at (pr plan proc ok there) x) c) (λ w. false≢true (sym (no_meeting less) ∙ conflict_mirrored plan.program (piece_numbered proc y) (piece_numbered proc x) ∙ in_conflict_of x y c w t));
        other_columns = λ c t. not_true (writes (at (pr plan proc ok there) y) c) (λ w. false≢true (sym (no_meeting less) ∙ in_conflict_of y x c w t));
        names = λ n k. not_true (binds_in (at (pr plan proc ok there) x) n) (λ e. elim (used_or_bound (at (pr plan proc ok there) y) n k) [ inl u ↦ no_use n u e | inr f ↦ same_piece (binder (pr plan proc ok there) (has_names plan proc ok there) x y n e f) ]);
        other_names = λ n k. not_true (binds_in (at (pr plan proc ok there) y) n) (λ e. elim (used_or_bound (at (pr plan proc ok there) x) n k) [
          | inl u ↦ backward n u e less
          | inr f ↦ same_piece (binder (pr plan proc ok there) (has_names plan proc ok there) x y n f e)
        ]);
      },
    )
      where
        -- data flows forward alone
        backward : (n : ℕ) → piece_uses (at (pr plan proc ok there) x) n ≡ true → binds_in (at (pr plan proc ok there) y) n ≡ true → x < y → ⊥
        backward n u e less =
            let named = name_has (bindings_of (at (pr plan proc ok there) y)) n (sym (bound_named (at (pr plan proc ok there) y) n) ∙ e) in
            elim (forward plan.program ok.well_formed proc y x (has_any (piece_uses (at (pr plan proc ok there) x)) (bindings_of (at (pr plan proc ok there) y)) n named u)) [
              | inl same ↦ same_piece (sym same)
              | inr l ↦ (let k = l.0 in omega (arith, k, less))
            ]

  -- the pieces of the groups in turn
  pub stand : MayStand (at (pr plan proc ok there)) (flat_map (pieces_of plan proc ok there) order)
  stand = stand_all (at (pr plan proc ok there)) (pieces_of plan proc ok there) order (group_rising plan proc ok there) (λ g h b y x i j. may_follow g h b y x i j)

  pub all_pieces_in : (k : ℕ) → k < length (pr plan proc ok there).pieces → Has k (flat_map (pieces_of plan proc ok there) order)
  all_pieces_in k l = let g = in_a_group plan proc ok there k l in has_flat_map (pieces_of plan proc ok there) k g.0 order (has_listed order g.0 ((turn.members g.0).0 g.1)) g.2

  pub only_pieces_in : (k : ℕ) → Has k (flat_map (pieces_of plan proc ok there) order) → k < length (pr plan proc ok there).pieces
  only_pieces_in k h = let r = from_has_flat_map (pieces_of plan proc ok there) k order h in is_piece plan proc ok there r.0 k r.2
