use Rattle.std.proofs.Common.{◌+◌, Option, [], ◌∷◌, refl, sym, subst, append-nil}
use Rattle.std.specs.Option.{option_to_list}
use Rattle.roc_sequence.proofs.Found.{found_holds}
use Rattle.roc_msg.specs.Outbox.{HasRun}
use Rattle.roc_step.specs.declared.started.StartedGroup.{StartedGroup}
use Rattle.roc_step.specs.Fits.{IsCallOf}
use Rattle.roc_server_groups.specs.Inner.Runs.{buffered}
use Rattle.roc_step.specs.Runs.{accesses_of, group_call}
use Rattle.roc_step.specs.State.{is_group, find_group}
use Rattle.roc_server_groups.proofs.Accesses.{notes_more, number_parts}
use Rattle.roc_server_groups.proofs.GroupRuns.{groups_from}
use Rattle.roc_server_groups.proofs.ran.note_transaction.Goals as goal
use Rattle.roc_server_groups.proofs.ran.note_transaction.Goals.{in-Some+in_ok-note_if_buffered, in_default}

pub note_if_buffered-requires : goal.note_if_buffered-requires
note_if_buffered-requires c =
    (found_holds (λ e. IsCallOf c.args.plan.now (group_call e)) (is_group c.args.id c.loop-number.number) c.args.started.now.groups c.in-Some.group.now c.requires (sym c.in-Some.ensures)).group

pub loop-number-preserved : goal.loop-number-preserved
loop-number-preserved c =
    let plan = c.args.plan.now in
    let started = c.args.started.now.groups in
    let number = c.loop-number.number in
    let count = c.count_of_groups-count.result in
    let Noted : Option StartedGroup → Type 0 = λ o. HasRun c.loop-number.outbox c.match-find_group.outbox (accesses_of (buffered plan (option_to_list o))) in
    let noted : Noted (find_group c.args.id number started) =
    elim c.match-find_group.branch [
      | in-Some+in_ok-note_if_buffered w ↦ subst Noted w.in-Some.ensures (subst (λ out. HasRun c.loop-number.outbox out (accesses_of (buffered plan (w.in-Some.group.now ∷ [])))) (sym w.outbox-is) w.in_ok-note_if_buffered.ensures)
      | in_default w ↦ subst Noted w.in_default.ensures (subst (λ out. HasRun c.loop-number.outbox out []) (sym w.outbox-is) (refl, refl, sym (append-nil c.loop-number.outbox.ran)))
    ] in
    notes_more c.args.outbox.now c.loop-number.outbox c.match-find_group.outbox (accesses_of (buffered plan (option_to_list (find_group c.args.id number started)))) (accesses_of (buffered plan (groups_from c.args.id started (number + 1) count)))
    (accesses_of (buffered plan (groups_from c.args.id started number count))) (accesses_of (buffered plan (groups_from c.args.id started 0 count))) c.loop-number.invariant noted (number_parts plan c.args.id started number count c.loop-number-test.true)
