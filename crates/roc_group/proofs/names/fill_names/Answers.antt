use Rattle.std.proofs.Common.{◌≡◌, ◌∙◌, ◌++◌, ◌<◌, List, ℕ, ℤ, length, sym, ap, subst, arith}
use Rattle.std.specs.Prelude.{vec_len}
use Rattle.std.specs.List.{AllByRecursion}
use Rattle.roc_plan.specs.Groups.{procedure_of}
use Rattle.roc_program.specs.Values.{with_arguments}
use Rattle.roc_group.proofs.Read.{names_read, taken_within}
use Rattle.roc_group.proofs.names.fill_names.Goals as goal

-- the names' values before any is taken
filled : (c : goal.After-as_slice-2) → c.resize.new.self.items ≡ with_arguments (procedure_of c.args.plan.now c.args.proc) c.args.known.now.args
filled c =
    names_read c.workload.result.now c.procedures.result.now c.args.plan.now c.args.proc c.args.group c.index-procedures-proc.result c.workload.ensures.program c.procedures.ensures.value c.workload.ensures.accepted c.requires.exists c.index-procedures-proc.is
    c.args.known.now.args c.extend_from_slice.new.self.items c.resize.new.self.items (vec_len c.extend_from_slice.new.self) c.requires.args
    (c.in_ok-extend_from_slice.ensures.items ∙ (λ i. c.clear.ensures.items i ++ c.as_slice.ensures i)) (let long = ap (λ xs. length xs) c.as_slice.ensures in omega (arith, c.in_ok-extend_from_slice.ensures.len, c.clear.ensures.len, long)) c.in_ok-resize.ensures.items

pub set_values-requires-clause-known : goal.set_values-requires-clause-known
set_values-requires-clause-known c =
    let P : List ℤ → List ℕ → Type 0 = λ values names. AllByRecursion (λ name. name < length values) names in
    subst (λ values. P values c.input_names.result.now) (sym c.as_mut_slice.ensures.value)
    (subst (P c.resize.new.self.items) (sym c.input_names.ensures)
    (taken_within c.workload.result.now c.procedures.result.now c.args.plan.now c.args.proc c.args.group c.index-procedures-proc.result c.workload.ensures.program c.procedures.ensures.value c.workload.ensures.accepted c.requires.exists c.index-procedures-proc.is
    c.args.known.now.args c.resize.new.self.items (filled c)))
