use Rattle.std.proofs.Common.{◌≡◌, ◌∙◌, ℕ, ◌&&◌, not, List, map, sym, ap}
use Rattle.std.specs.List.{position}
use Rattle.std.specs.Str.{bytes_eq}
use Rattle.std.specs.String.{string_bytes}
use Rattle.roc_program.specs.LookUps.{transaction_named}
use Rattle.roc_program.specs.Parts.{procedure}
use Rattle.roc_program.specs.declared.parts.Procedure.{Procedure}
use Rattle.roc_program.proofs.Firsts.{position-map}
use Rattle.roc_plan.specs.Groups.{Plan}
use Rattle.roc_plan.proofs.plan.Plan.transaction_named.Goals as goal

-- the place among the code's procedures is that among the program's
same_place : (lent : List Procedure) (plan inside : Plan) (name : List ℕ) → inside ≡ plan → map procedure lent ≡ inside.program.procedures → position (λ p. bytes_eq (string_bytes p.name) name && not p.is_view) lent ≡ transaction_named plan.program name
same_place lent plan inside name view is =
    sym (position-map (λ p. bytes_eq p.name name && not p.is_view) procedure lent)
    ∙ ap (λ all. position (λ p. bytes_eq p.name name && not p.is_view) all) is
    ∙ ap (λ p. transaction_named p.program name) view

pub returns-in-Some : goal.returns-in-Some
returns-in-Some c =
    sym c.in-Some.is ∙ c.transaction_place.ensures ∙ same_place c.procedures.result.now c.args.self.now _ c.args.name.now c.self.view_is c.procedures.ensures.value

pub returns-in-None : goal.returns-in-None
returns-in-None c =
    sym c.in-None.is ∙ c.transaction_place.ensures ∙ same_place c.procedures.result.now c.args.self.now _ c.args.name.now c.self.view_is c.procedures.ensures.value
