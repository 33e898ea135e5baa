-- The plan of accepted groups is accepted
use Rattle.std.proofs.Common.{◌≡◌, ◌∙◌, ℕ, ◌<◌, ◌≤◌, Bool, true, ◌&&◌, ◌==◌, List, [], ◌∷◌, length, map, get_or, refl, sym, ap, subst, inl, inr, arith}
use Rattle.std.proofs.lemmas.Bool.{cases_eq, cases_lt, and_parts, and_from, eqb-true, eq-eqb, false_from_ne_true}
use Rattle.std.proofs.lemmas.List.{length-map, get_or_past}
use Rattle.std.proofs.lemmas.List.FromFn.{length-map-range_with_len, get_or-map-range_with_len}
use Rattle.std.specs.List.{list_any, range_with_len}
use Rattle.roc_sequence.specs.Lists.{Has}
use Rattle.roc_sequence.proofs.Holds.{any_has, has_any, same_tests}
use Rattle.roc_sequence.proofs.Members.{has_map, from_has_map}
use Rattle.roc_program.specs.Program.{Workload}
use Rattle.roc_program.specs.WellFormed.{IsProgram}
use Rattle.roc_program.specs.declared.piece_id.PieceId.{PieceId}
use Rattle.roc_program.proofs.Ranges.{map_map}
use Rattle.roc_conflict.proofs.Least.{present_from_immediate}
use Rattle.roc_merge_groups.specs.Groups.{piece_numbered, groups_in}
use Rattle.roc_merge_groups.specs.Accepted.{IsAcceptedGrouping}
use Rattle.roc_merge_groups.proofs.Elements.{same_at_each}
use Rattle.roc_plan.specs.Groups.{Group, groups_of}
use Rattle.roc_plan.specs.Accepted.{group_with, grouped_plan, grouping_of, is_piece_immediate, IsAccepted}

pub pieces_again : (is_immediate : PieceId → Bool) (proc : ℕ) (gs : List (List ℕ)) → map (λ g. g.pieces) (map (group_with is_immediate proc) gs) ≡ gs
pieces_again is_immediate proc [] = refl
pieces_again is_immediate proc (g ∷ gs) = ap (λ hs. g ∷ hs) (pieces_again is_immediate proc gs)

module _ (program : Workload) (is_immediate : PieceId → Bool) (groups : List (List (List ℕ))) where
  abbrev row : ℕ → List Group
  row proc = map (group_with is_immediate proc) (groups_in groups proc)

  pub row_at : (proc : ℕ) → proc < length program.procedures → groups_of (grouped_plan program is_immediate groups) proc ≡ map (group_with is_immediate proc) (groups_in groups proc)
  row_at proc l = get_or-map-range_with_len (λ proc. map (group_with is_immediate proc) (groups_in groups proc)) 0 (length program.procedures) proc proc [] l (omega arith)

  no_row : (proc : ℕ) → length program.procedures ≤ proc → groups_of (grouped_plan program is_immediate groups) proc ≡ []
  no_row proc past =
      get_or_past (map (λ proc. map (group_with is_immediate proc) (groups_in groups proc)) (range_with_len 0 (length program.procedures))) proc []
      (subst (λ n. n ≤ proc) (sym (length-map-range_with_len (λ proc. map (group_with is_immediate proc) (groups_in groups proc)) 0 (length program.procedures))) past)

  same_grouping : length groups ≡ length program.procedures → grouping_of (grouped_plan program is_immediate groups) ≡ groups
  same_grouping even =
      same_at_each (grouping_of (grouped_plan program is_immediate groups)) groups [] (long ∙ sym even)
      (λ i l. let below : i < length program.procedures = subst (λ n. i < n) long l in
      ap (λ (rows : List (List (List ℕ))). get_or rows i []) (map_map (map (λ g. g.pieces)) (λ proc. map (group_with is_immediate proc) (groups_in groups proc)) (range_with_len 0 (length program.procedures)))
      ∙ get_or-map-range_with_len (λ proc. map (λ g. g.pieces) (map (group_with is_immediate proc) (groups_in groups proc))) 0 (length program.procedures) i i [] below (omega arith)
      ∙ pieces_again is_immediate i (groups_in groups i))
    where
      long : length (grouping_of (grouped_plan program is_immediate groups)) ≡ length program.procedures
      long =
          length-map (map (λ proc. map (group_with is_immediate proc) (groups_in groups proc)) (range_with_len 0 (length program.procedures))) (map (λ g. g.pieces))
          ∙ length-map-range_with_len (λ proc. map (group_with is_immediate proc) (groups_in groups proc)) 0 (length program.procedures)

  module _ (is : IsAcceptedGrouping program is_immediate groups) where
    -- an immediate piece of a group makes each of its pieces immediate
    alike : (proc z x : ℕ) (g : List ℕ) → proc < length program.procedures → Has g (groups_in groups proc) → Has z g → Has x g → is_immediate (piece_numbered proc z) ≡ true → is_immediate (piece_numbered proc x) ≡ true
    alike proc z x g l gs zg xg h =
        elim (cases_eq x z) [
          | inl e ↦ ap (λ n. is_immediate (piece_numbered proc n)) e ∙ h
          | inr n ↦ (is.each proc l).immediate x z n (record { group = g; is = gs; one = xg; other = zg })
        ]

    same_class : (id : PieceId) → is_piece_immediate (grouped_plan program is_immediate groups) id ≡ is_immediate id
    same_class id =
        elim (cases_lt id.proc (length program.procedures)) [
          | inr past ↦ ap (list_any marked) (no_row id.proc past)
              ∙ sym (false_from_ne_true (is_immediate id) (λ h. let l = (present_from_immediate program id ((is.least id).0 h)).procedure in absurd (omega arith)))
          | inl l ↦ ap (list_any marked) (row_at id.proc l) ∙ same_tests (list_any marked (row id.proc)) (is_immediate id) (forth l) (back l)
        ]
      where
        marked : Group → Bool
        marked g = g.is_immediate && list_any (λ x. x == id.piece) g.pieces

        forth : id.proc < length program.procedures → list_any marked (row id.proc) ≡ true → is_immediate id ≡ true
        forth l h =
            let g = any_has marked (row id.proc) h in
            let k = from_has_map (group_with is_immediate id.proc) g.0 (groups_in groups id.proc) g.1 in
            let m = subst (λ (o : Group). marked o ≡ true) k.2 g.2 in
            let parts = and_parts (list_any (λ x. is_immediate (piece_numbered id.proc x)) k.0) (list_any (λ x. x == id.piece) k.0) m in
            let z = any_has (λ x. is_immediate (piece_numbered id.proc x)) k.0 parts.0 in
            let x = any_has (λ x. x == id.piece) k.0 parts.1 in
            alike id.proc z.0 id.piece k.0 l k.1 z.1 (subst (λ n. Has n k.0) (eqb-true x.0 id.piece x.2) x.1) z.2

        back : id.proc < length program.procedures → is_immediate id ≡ true → list_any marked (row id.proc) ≡ true
        back l h =
            let t = ((is.each id.proc l).grouping.whole id.piece).0 (present_from_immediate program id ((is.least id).0 h)).piece in
            has_any marked (row id.proc) (group_with is_immediate id.proc t.group) (has_map (group_with is_immediate id.proc) t.group (groups_in groups id.proc) t.is)
            (and_from (list_any (λ x. is_immediate (piece_numbered id.proc x)) t.group) (list_any (λ x. x == id.piece) t.group)
            (has_any (λ x. is_immediate (piece_numbered id.proc x)) t.group id.piece t.one h)
            (has_any (λ x. x == id.piece) t.group id.piece t.one (eq-eqb id.piece id.piece refl)))

    pub plan_accepted : IsProgram program → IsAccepted (grouped_plan program is_immediate groups)
    plan_accepted well =
        let classes : is_piece_immediate (grouped_plan program is_immediate groups) ≡ is_immediate = λ i id. same_class id i in
        let P : (PieceId → Bool) → Type 0 = λ f. IsAcceptedGrouping program f groups in
        let Q : List (List (List ℕ)) → Type 0 = λ gs. IsAcceptedGrouping program (is_piece_immediate (grouped_plan program is_immediate groups)) gs in
        record { well_formed = well; grouping = subst Q (sym (same_grouping is.procedures)) (subst P (sym classes) is) }
