use Rattle.std.proofs.Common.{◌≡◌, ◌∙◌, ap, length, sym}
use Rattle.std.proofs.lemmas.List.{length-map}
use Rattle.roc_program.specs.Parts as pure
use Rattle.roc_audit_witness.proofs.Words.{names_from_test, test_from_names}
use Rattle.roc_audit_witness.proofs.submissions.names_procedures.Goals as goal

pub returns : goal.returns
returns c =
    let count : length c.procedures.result.now ≡ length c.args.workload.now.procedures = sym (length-map c.procedures.result.now pure.procedure) ∙ ap length c.procedures.ensures.value in (
      λ e. names_from_test c.args.workload.now c.args.history.now (length c.procedures.result.now) count (sym c.all_name_below.ensures ∙ e),
      λ names. c.all_name_below.ensures ∙ test_from_names c.args.workload.now c.args.history.now (length c.procedures.result.now) count names,
    )
