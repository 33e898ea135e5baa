use Rattle.std.proofs.Common.{◌≡◌, ◌∙◌, Some, Option, OnOk, ap, find, length, refl, subst, sym}
use Rattle.std.specs.Option.{option_copied}
use Rattle.roc_whole.specs.Serial.{Call}
use Rattle.roc_audit_witness.specs.Inner.Tests.{RunsOne, submits}
use Rattle.roc_audit_witness.proofs.Steps.{call_is, entry_there, no_call, runs_none}
use Rattle.roc_audit_witness.proofs.Words.{name_below}
use Rattle.roc_audit_witness.proofs.runs.run_one.Goals as goal

pub returns-in-None : goal.returns-in-None
returns-in-None c =
    runs_none c.args.workload.now _ c.args.rows.now.store c.args.replies.now.items
    (no_call c.args.id c.args.history.now (sym c.submission.ensures ∙ ap option_copied c.in-None.is))

pub run_entry-requires : goal.run_entry-requires
run_entry-requires c =
    let found : find (submits c.args.id) c.args.history.now ≡ Some c.in-Some.entry.now = sym c.submission.ensures ∙ ap option_copied c.in-Some.is in
    name_below c.args.workload.now c.args.history.now (length c.args.workload.now.procedures) c.in-Some.entry.now refl c.requires (entry_there c.args.id c.in-Some.entry.now c.args.history.now found)

pub returns-in-Some : goal.returns-in-Some
returns-in-Some c =
    let found : find (submits c.args.id) c.args.history.now ≡ Some c.in-Some.entry.now = sym c.submission.ensures ∙ ap option_copied c.in-Some.is in
    subst (λ (o : Option Call). OnOk c.run_entry.result (RunsOne c.args.workload.now o c.args.rows.now.store c.args.replies.now.items c.run_entry.new.rows.store c.run_entry.new.replies.items))
    (sym (call_is c.args.id c.in-Some.entry.now c.args.history.now found)) c.run_entry.ensures
