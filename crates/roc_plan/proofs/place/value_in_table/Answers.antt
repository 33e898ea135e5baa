use Rattle.std.proofs.Common.{◌∙◌, w64, FitsSigned, rules}
use Rattle.std.proofs.lemmas.Int.{to_z-of_z}
use Rattle.roc_program.specs.Parts as view
use Rattle.roc_plan.proofs.Values.{value_in_table}
use Rattle.roc_plan.proofs.place.value_in_table.Goals as goal

pub returns : goal.returns
returns c known agree within =
    let fits : FitsSigned w64 c.value.result = search rules in
    to_z-of_z w64 c.value.result fits ∙ c.value.ensures
    ∙ value_in_table (view.expression c.args.place.now) c.args.args.now c.copy_from_slice.new.self c.set_values.new.known known c.args.names.now c.args.values.now 1032
    c.copy_from_slice.ensures.after c.set_values.ensures c.requires.few c.requires.known agree within
