-- No name, no call. A call's step tells what it submits; one that is refused changes nothing. All leave a coordinator that fits.
use Rattle.std.proofs.Common.{rules, List, take, drop, length, ◌-◌, ap, ◌∙◌}
use Rattle.roc_msg.specs.declared.outbox.Outgoing.{Outgoing}
use Rattle.roc_node_submit.proofs.CoordNodes.{refuses_nameless, submits_call, refuses, items_are}
use Rattle.roc_node_submit.proofs.coord_node.submit_one.Goals as goal

pub returns-in-None-clause-submits : goal.returns-in-None-clause-submits
returns-in-None-clause-submits c = refuses_nameless _ _ _ _ c.as_bytes.result.now c.as_bytes.ensures c.in-None.ensures

pub returns-in_ok-log_submission-in-Ok-clause-submits : goal.returns-in_ok-log_submission-in-Ok-clause-submits
returns-in_ok-log_submission-in-Ok-clause-submits c =
    let had = length c.messages-had.result.now in
    let all = c.messages.result.now in
    submits_call _ _ _ c.in-Some.proc c.in-Ok.id _ _ _ _ _ _ _ _ c.as_bytes.result.now c.as_slice.result.now (take (length all - had) (drop had all)) c.as_bytes.ensures c.in-Some.ensures c.as_slice.ensures c.in-Ok.ensures.step (search rules)
    (items_are all had ∙ ap (λ (l : List Outgoing). drop (length l) all) c.messages-had.ensures ∙ ap (drop (length c.args.outbox.now.messages)) c.messages.ensures) c.in_ok-log_submission-in-Ok.ensures

pub returns-in-None-clause-fits : goal.returns-in-None-clause-fits
returns-in-None-clause-fits c = c.requires.fits

pub returns-in_ok-log_submission-in-Ok-clause-fits : goal.returns-in_ok-log_submission-in-Ok-clause-fits
returns-in_ok-log_submission-in-Ok-clause-fits c = c.submit.ensures.fits

pub returns-in_err-log_submission-in-Ok-clause-fits : goal.returns-in_err-log_submission-in-Ok-clause-fits
returns-in_err-log_submission-in-Ok-clause-fits c = c.submit.ensures.fits

pub returns-in_err-append-in-Ok-clause-fits : goal.returns-in_err-append-in-Ok-clause-fits
returns-in_err-append-in-Ok-clause-fits c = c.submit.ensures.fits

pub returns-in-Err-NoMemory : goal.returns-in-Err-NoMemory
returns-in-Err-NoMemory c = record { submits = tt; fits = c.submit.ensures.fits }

pub returns-in-Err-NoProc : goal.returns-in-Err-NoProc
returns-in-Err-NoProc c = record {
  submits = refuses _ c.args.request.now c.in-Some.proc c.in-Err-NoProc.field-0 _ _ _ c.args.outbox.now c.submit.new.outbox _ _ c.as_bytes.result.now c.as_slice.result.now c.as_bytes.ensures c.in-Some.ensures c.as_slice.ensures c.in-Err-NoProc.field-0-is c.in-Err-NoProc.ensures.step (λ h. h);
  fits = c.submit.ensures.fits;
}

pub returns-in-Err-Args : goal.returns-in-Err-Args
returns-in-Err-Args c = record {
  submits = refuses _ c.args.request.now c.in-Some.proc c.in-Err-Args.field-0 _ _ _ c.args.outbox.now c.submit.new.outbox _ _ c.as_bytes.result.now c.as_slice.result.now c.as_bytes.ensures c.in-Some.ensures c.as_slice.ensures c.in-Err-Args.field-0-is c.in-Err-Args.ensures.step (λ h. h);
  fits = c.submit.ensures.fits;
}

pub returns-in-Err-Spent : goal.returns-in-Err-Spent
returns-in-Err-Spent c = record {
  submits = refuses _ c.args.request.now c.in-Some.proc c.in-Err-Spent.field-0 _ _ _ c.args.outbox.now c.submit.new.outbox _ _ c.as_bytes.result.now c.as_slice.result.now c.as_bytes.ensures c.in-Some.ensures c.as_slice.ensures c.in-Err-Spent.field-0-is c.in-Err-Spent.ensures.step (λ h. h);
  fits = c.submit.ensures.fits;
}

pub returns-in-Err-Busy : goal.returns-in-Err-Busy
returns-in-Err-Busy c = record {
  submits = refuses _ c.args.request.now c.in-Some.proc c.in-Err-Busy.field-0 _ _ _ c.args.outbox.now c.submit.new.outbox _ _ c.as_bytes.result.now c.as_slice.result.now c.as_bytes.ensures c.in-Some.ensures c.as_slice.ensures c.in-Err-Busy.field-0-is c.in-Err-Busy.ensures.step (λ h. h);
  fits = c.submit.ensures.fits;
}
