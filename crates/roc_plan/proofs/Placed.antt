-- The groups of an accepted plan, and the place of one
use Rattle.std.proofs.Common.{◌≡◌, ◌∙◌, ℕ, ◌-◌, ◌<◌, ℤ, pos, List, [], length, map, get_or, replicate, sym, ap, subst, inl, inr, arith, length-append}
use Rattle.std.proofs.lemmas.Bool.{cases_lt}
use Rattle.std.proofs.lemmas.List.{length-map, get_or-map, get_or_past, length-replicate}
use Rattle.std.specs.List.{AllByRecursion, range_with_len}
use Rattle.roc_sequence.proofs.Holds.{all_at, all_weaker, has_all, all_has}
use Rattle.roc_sequence.proofs.Members.{from_has_filter}
use Rattle.roc_sequence.proofs.Ranges.{range_below}
use Rattle.roc_program.specs.LookUps.{no_piece, no_procedure}
use Rattle.roc_program.specs.Program.{Procedure, Expression}
use Rattle.roc_program.specs.Values.{with_arguments, value}
use Rattle.roc_program.specs.WellFormed.{IsProcedure}
use Rattle.roc_merge_groups.specs.Groups.{groups_in, group_at}
use Rattle.roc_merge_groups.specs.Accepted.{IsAcceptedIn}
use Rattle.roc_merge_groups.specs.Parts.{IsPart}
use Rattle.roc_merge_groups.proofs.Parts.{parts_of_grouping}
use Rattle.roc_plan.specs.Groups.{Plan, no_group, pieces_at, inputs_in, environment_in, place_in, with_values, procedure_of, groups_of, group_of}
use Rattle.roc_plan.specs.Accepted.{grouping_of, is_piece_immediate, IsAccepted}
use Rattle.roc_plan.specs.Sized.{piece_at, IsSized}
use Rattle.roc_plan.specs.Inner.Agreeing.{IsValueWith}
use Rattle.roc_plan.proofs.Rows.{read_any}
use Rattle.roc_plan.proofs.Sized.{sized}
use Rattle.roc_plan.proofs.Values.{zeros_behind}

-- ---- accepted plans

module _ (plan : Plan) (is : IsAccepted plan) where
  -- the groups of a procedure by their pieces
  pub groups_again : (proc : ℕ) → groups_in (grouping_of plan) proc ≡ map (λ g. g.pieces) (groups_of plan proc)
  groups_again proc = read_any (map (λ g. g.pieces)) plan.groups proc []

  pub group_again : (proc g : ℕ) → group_at (groups_in (grouping_of plan) proc) g ≡ (group_of plan proc g).pieces
  group_again proc g = ap (λ (gs : List (List ℕ)). get_or gs g []) (groups_again proc) ∙ read_any (λ h. h.pieces) (groups_of plan proc) g no_group

  pub count_again : (proc : ℕ) → length (groups_in (grouping_of plan) proc) ≡ length (groups_of plan proc)
  count_again proc = ap length (groups_again proc) ∙ length-map (groups_of plan proc) (λ g. g.pieces)

  pub procedure_there : (proc g : ℕ) → g < length (groups_of plan proc) → proc < length plan.program.procedures
  procedure_there proc g l =
      elim (cases_lt proc (length plan.program.procedures)) [
        | inl there ↦ there
        | inr past ↦ absurd (omega (arith, l, ap length (get_or_past plan.groups proc [] (omega (arith, past, is.grouping.procedures, length-map plan.groups (map (λ g. g.pieces)))))))
      ]

  pub accepted_at : (proc : ℕ) → proc < length plan.program.procedures → IsAcceptedIn plan.program (is_piece_immediate plan) proc (groups_in (grouping_of plan) proc)
  accepted_at proc l = is.grouping.each proc l

  pub part_of : (proc g : ℕ) → g < length (groups_of plan proc) → IsPart (length (procedure_of plan proc).pieces) (group_of plan proc g).pieces
  part_of proc g l =
      let there = procedure_there proc g l in
      subst (IsPart (length (procedure_of plan proc).pieces)) (group_again proc g)
      (all_at (IsPart (length (procedure_of plan proc).pieces)) (groups_in (grouping_of plan) proc) g [] (parts_of_grouping (length (procedure_of plan proc).pieces) (groups_in (grouping_of plan) proc) (accepted_at proc there).grouping)
      (omega (arith, l, count_again proc)))

  pub sized_of : (proc : ℕ) → proc < length plan.program.procedures → IsSized (procedure_of plan proc)
  sized_of proc l = sized plan.program.tables (procedure_of plan proc) (all_at (IsProcedure plan.program.tables) plan.program.procedures proc no_procedure is.well_formed.procedures l)

-- ---- the place of a group

-- the names that a group takes are names of the procedure
pub inputs_known : (p : Procedure) (group : List ℕ) → IsSized p → AllByRecursion (λ n. n < p.names) (inputs_in p group)
inputs_known p group is =
    let below : AllByRecursion (λ n. n < p.names) (range_with_len p.arguments (p.names - p.arguments)) = range_below p.arguments (p.names - p.arguments) p.names (omega (arith, is.some_names)) in
    let all = subst (λ (ns : List ℕ). AllByRecursion (λ n. n < p.names) ns) (sym is.numbers) below in
    has_all (λ n. n < p.names) (inputs_in p group) (λ n h. all_has (λ m. m < p.names) n _ all (from_has_filter _ n _ h).0)

long_known : (p : Procedure) (arguments : List ℤ) → IsSized p → length arguments ≡ p.arguments → length (with_arguments p arguments) ≡ p.names
long_known p arguments is e =
    omega (arith, length-append arguments (replicate (p.names - length arguments) (pos 0)), length-replicate (p.names - length arguments) (pos 0), e, is.some_names)

pub first_place : (p : Procedure) (group : List ℕ) → 0 < length group → get_or (pieces_at p group) 0 no_piece ≡ piece_at p (get_or group 0 0)
first_place p group l = get_or-map (piece_at p) group 0 0 no_piece l

pub placed : (p : Procedure) (group : List ℕ) (arguments inputs : List ℤ) (names : List ℕ) (place : Expression) (v : ℤ) → IsSized p → length arguments ≡ p.arguments
    → names ≡ inputs_in p group → IsValueWith place arguments names inputs v → place ≡ (get_or (pieces_at p group) 0 no_piece).place → v ≡ place_in p group arguments inputs
placed p group arguments inputs names place v is count e gives at =
    let known = with_arguments p arguments in
    let within : AllByRecursion (λ n. n < length known) names =
    subst (λ (ns : List ℕ). AllByRecursion (λ n. n < length known) ns) (sym e)
    (all_weaker (λ n. n < p.names) (λ n. n < length known) (λ n l. omega (arith, l, long_known p arguments is count)) (inputs_in p group) (inputs_known p group is)) in
    gives known (λ n. zeros_behind arguments (p.names - length arguments) n) within
    ∙ ap (λ ns. value place (with_values ns inputs known)) e ∙ ap (λ x. value x (environment_in p group arguments inputs)) at
