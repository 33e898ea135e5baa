-- A program has a plan or a line that refuses it
use Rattle.std.proofs.Common.{ℕ, Bool, List, [], length, map, refl, sym, subst, ◌⊎◌, inl, inr, arith}
use Rattle.std.proofs.lemmas.List.FromFn.{length-map-range_with_len, get_or-map-range_with_len}
use Rattle.std.specs.List.{range_with_len}
use Rattle.roc_program.specs.Program.{Workload}
use Rattle.roc_program.specs.WellFormed.{IsProgram}
use Rattle.roc_program.specs.Pieces.{pieces_in}
use Rattle.roc_program.specs.declared.piece_id.PieceId.{PieceId}
use Rattle.roc_merge_groups.specs.Core.{InCore, IsAcceptable}
use Rattle.roc_merge_groups.specs.Grouping.{IsMergedIn, IsMerged}
use Rattle.roc_merge.specs.Grouped.{grouped}
use Rattle.roc_merge.proofs.Flows.{core_there}
use Rattle.roc_merge.proofs.Grouped.{grouped_merged}
use Rattle.roc_plan.specs.Groups.{Plan}
use Rattle.roc_plan.specs.Accepted.{grouped_plan}
use Rattle.roc_report.specs.Checked.{CheckedLine, Apart, Blocked}
use Rattle.roc_check.specs.Checked.{AreImmediate, IsPlanOf, IsRefusedBy, apart, blocked}
use Rattle.roc_check.proofs.Searches.{test_of, test_tells}
use Rattle.roc_check.proofs.Promoted.{set_of}
use Rattle.roc_check.proofs.Refused.{core_known, FirstApart, apart_or_none, FirstBlocked, blocked_or_acceptable}
use Rattle.roc_check.proofs.Shortest.{shortest_from}
use Rattle.roc_check.proofs.Witnessed.{apart_cycle, blocked_cycle}

module _ (program : Workload) (well : IsProgram program) where
  abbrev pub Chosen : Type 0
  Chosen = ((plan : Plan) × IsPlanOf program plan) ⊎ ((line : CheckedLine) × IsRefusedBy program line)

  module _ (is_immediate : PieceId → Bool) (are : AreImmediate program is_immediate) where
    -- whether a piece is in the core of its procedure
    core : ℕ → ℕ → Bool
    core proc x = test_of (InCore program is_immediate proc x) (core_known program well is_immediate are proc x)

    groups_of : (proc : ℕ) → List (List ℕ)
    groups_of proc = grouped (core proc) (length (pieces_in program proc))

    merged_in : (proc : ℕ) → IsMergedIn program is_immediate proc (groups_of proc)
    unfolding core groups_of
    merged_in proc =
        grouped_merged program is_immediate proc (core proc) (λ x. test_tells (InCore program is_immediate proc x) (core_known program well is_immediate are proc x))
        (core_there program is_immediate proc)

    all_groups : List (List (List ℕ))
    all_groups = map groups_of (range_with_len 0 (length program.procedures))

    merged : IsMerged program is_immediate all_groups
    unfolding all_groups
    merged = record {
      procedures = length-map-range_with_len groups_of 0 (length program.procedures);
      each = λ proc below.
          let P : List (List ℕ) → Type 0 = IsMergedIn program is_immediate proc in
          subst P (sym (get_or-map-range_with_len groups_of 0 (length program.procedures) proc proc [] below (omega arith))) (merged_in proc);
    }

    plan_from : IsAcceptable program is_immediate → (plan : Plan) × IsPlanOf program plan
    plan_from acceptable =
        (grouped_plan program is_immediate all_groups, record { immediate = is_immediate; groups = all_groups; are_immediate = are; acceptable = acceptable; merged = merged; is = refl })

    apart_line : FirstApart program well is_immediate are → (line : CheckedLine) × IsRefusedBy program line
    apart_line f =
        let p : PieceId = f.0 in
        let q : PieceId = f.1.0 in
        let there = apart_cycle program is_immediate are p q f.1.1.is in
        let cycle = shortest_from program is_immediate p q there.0 there.1 in
        (Apart p q cycle.0, apart is_immediate p q cycle.0 are f.1.1 cycle.1)

    blocked_line : FirstBlocked program well is_immediate are → (line : CheckedLine) × IsRefusedBy program line
    blocked_line f =
        let p : PieceId = f.0 in
        let q : PieceId = f.1.0 in
        let x : PieceId = f.1.1.0 in
        let there = blocked_cycle program is_immediate are well p q x f.1.1.1.is in
        let cycle = shortest_from program is_immediate p q there.0 there.1 in
        (Blocked p q x cycle.0, blocked is_immediate p q x cycle.0 are f.1.1.1 cycle.1)

    chosen_by : Chosen
    chosen_by = elim (apart_or_none program well is_immediate are) [
      | inl f ↦ inr (apart_line f)
      | inr none ↦ elim (blocked_or_acceptable program well is_immediate are none) [
        | inl f ↦ inr (blocked_line f)
        | inr acceptable ↦ inl (plan_from acceptable)
      ]
    ]

  pub plan_or_refusal : Chosen
  plan_or_refusal = let s = set_of program well in chosen_by s.0 s.1
