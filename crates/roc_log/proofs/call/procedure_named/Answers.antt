use Rattle.std.proofs.Common.{◌≡◌, ◌∙◌, ℕ, List, map, sym, ap}
use Rattle.std.specs.List.{position}
use Rattle.std.specs.Str.{bytes_eq}
use Rattle.std.specs.String.{string_bytes}
use Rattle.roc_program.specs.Program.{Workload}
use Rattle.roc_program.specs.LookUps.{procedure_named}
use Rattle.roc_program.specs.Parts.{procedure}
use Rattle.roc_program.specs.declared.parts.Procedure.{Procedure}
use Rattle.roc_program.proofs.Firsts.{position-map}
use Rattle.roc_log.proofs.call.procedure_named.Goals as goal

-- the place among the code's procedures is that among the program's
same_place : (lent : List Procedure) (program : Workload) (name : List ℕ) → map procedure lent ≡ program.procedures → position (λ p. bytes_eq (string_bytes p.name) name) lent ≡ procedure_named program name
same_place lent program name is =
    sym (position-map (λ p. bytes_eq p.name name) procedure lent) ∙ ap (λ all. position (λ p. bytes_eq p.name name) all) is

pub returns-in-Some-clause-place : goal.returns-in-Some-clause-place
returns-in-Some-clause-place c = sym c.in-Some.is ∙ c.place_named.ensures ∙ same_place c.procedures.result.now c.args.workload.now c.args.name.now c.procedures.ensures.value

pub returns-in-None-clause-place : goal.returns-in-None-clause-place
returns-in-None-clause-place c = sym c.in-None.is ∙ c.place_named.ensures ∙ same_place c.procedures.result.now c.args.workload.now c.args.name.now c.procedures.ensures.value
