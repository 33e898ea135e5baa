use Rattle.std.proofs.Common.{◌∙◌, ◌<◌, List, ℕ, length, sym, subst}
use Rattle.std.specs.List.{AllByRecursion, flat_map}
use Rattle.roc_program.specs.Parts as pure
use Rattle.roc_plan.specs.Groups.{pieces_at}
use Rattle.roc_group.specs.GroupRun.{call}
use Rattle.roc_group.specs.Inner.Steady.{uses_with}
use Rattle.roc_group.proofs.Read.{procedure_there, read, pieces_there, keys_read}
use Rattle.roc_group.proofs.Steady.{uses_deferrable}
use Rattle.roc_group.proofs.uses.cells.Goals as goal

pub uses_of_pieces-requires-clause-there : goal.uses_of_pieces-requires-clause-there
uses_of_pieces-requires-clause-there c =
    let P : List ℕ → Type 0 = AllByRecursion (λ k. k < length (pure.procedure c.index-procedures-proc.result).pieces) in
    subst P (sym c.pieces.ensures) (pieces_there c.workload.result.now c.procedures.result.now c.args.plan.now c.args.proc c.args.group c.index-procedures-proc.result c.workload.ensures.program c.procedures.ensures.value c.workload.ensures.accepted c.requires.exists c.index-procedures-proc.is)

pub uses_of_pieces-requires-clause-keys : goal.uses_of_pieces-requires-clause-keys
uses_of_pieces-requires-clause-keys c = keys_read c.workload.result.now c.procedures.result.now c.args.plan.now c.args.proc c.args.group c.index-procedures-proc.result c.workload.ensures.program c.procedures.ensures.value c.workload.ensures.accepted c.requires.exists c.index-procedures-proc.is

pub returns : goal.returns
returns c =
    let names = c.as_slice.ensures.value ∙ c.in_ok-names.ensures in
    let named = read c.workload.result.now c.procedures.result.now c.args.plan.now c.args.proc c.args.group c.index-procedures-proc.result c.workload.ensures.program c.procedures.ensures.value c.workload.ensures.accepted c.requires.exists c.index-procedures-proc.is in
    uses_deferrable c.uses_of_pieces.result c.args.plan.now (call c.args.proc c.args.group c.args.known.now.args c.args.known.now.inputs) c.workload.ensures.accepted (procedure_there c.args.plan.now c.args.proc c.args.group c.workload.ensures.accepted c.requires.exists) c.requires.deferrable
    (λ store. λ i. flat_map (uses_with (names i)) (pieces_at (sym named i) (c.pieces.ensures i))) c.uses_of_pieces.ensures
