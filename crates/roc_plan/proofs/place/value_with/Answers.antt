use Rattle.std.proofs.Common.{◌≡◌, ◌∙◌, length, w64, FitsSigned, rules}
use Rattle.std.proofs.lemmas.Int.{to_z-of_z}
use Rattle.roc_program.specs.Parts as view
use Rattle.roc_plan.proofs.Values.{value_of_arguments}
use Rattle.roc_plan.proofs.place.value_with.Goals as goal

pub returns-then-is_empty : goal.returns-then-is_empty
returns-then-is_empty c known agree within =
    let fits : FitsSigned w64 c.value.result = search rules in
    let none : length c.args.names.now ≡ 0 = search rules in
    to_z-of_z w64 c.value.result fits ∙ c.value.ensures
    ∙ value_of_arguments (view.expression c.args.place.now) c.args.args.now known c.args.names.now c.args.values.now none agree
