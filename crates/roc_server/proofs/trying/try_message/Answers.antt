use Rattle.std.proofs.Common.{IfOk, refl, subst}
use Rattle.std.proofs.lemmas.Result.{IfOk-weaker}
use Rattle.roc_server.specs.declared.starts.Request.{Request}
use Rattle.roc_step.specs.Fits.{AreGroupsOf}
use Rattle.roc_step.specs.Lists.{after_ended}
use Rattle.roc_server.specs.Inner.Parts.{state_behind, state_of}
use Rattle.roc_server.specs.Inner.Shown.{ShowsStep}
use Rattle.roc_server.specs.Inner.Starts.{asked, StartTaken}
use Rattle.roc_server_lists.specs.ListsNow.{over_of}
use Rattle.roc_server.proofs.MessageSteps.{start_comes, commit_comes, known_comes, fetch_comes, ended_comes, settled_comes, read_comes}
use Rattle.roc_server.proofs.PartSteps.{idle_behind, idle_can}
use Rattle.roc_server.proofs.TriedSteps.{fits_behind, heard_fits, on_any}
use Rattle.roc_server.proofs.trying.try_message.Goals as goal

pub returns-in_ok-request-in-Start-clause-step : goal.returns-in_ok-request-in-Start-clause-step
returns-in_ok-request-in-Start-clause-step c =
    let k = c.args.parts.now in
    let s = state_of c.args.shard k in
    let state = state_behind c.args.shard c.try_start.new.parts in
    let P : Request → Type 0 = λ r. IfOk c.try_start.result (StartTaken c.args.plan.now k.lists.decided s state c.args.sends.now c.try_start.new.sends r.id (asked r)) in
    start_comes c.args.plan.now s state k.lists.decided c.requires.sound.lists.decided c.args.sends.now c.try_start.new.sends c.try_start.result c.args.msg.now
    c.in-Start.id c.in-Start.proc c.in-Start.group c.in-Start.args c.in-Start.inputs c.in-Start.args c.in-Start.inputs c.in-Start.is refl refl
    (subst P c.in_ok-request-in-Start.ensures c.try_start.ensures.step)

pub returns-in-Commit-clause-step : goal.returns-in-Commit-clause-step
returns-in-Commit-clause-step c =
    let k = c.args.parts.now in
    commit_comes c.args.plan.now (state_of c.args.shard k) (state_behind c.args.shard c.try_commit.new.parts) k.lists.decided c.requires.sound.lists.decided c.args.sends.now c.try_commit.new.sends c.try_commit.result c.args.msg.now
    c.in-Commit.id c.in-Commit.edges c.in-Commit.facts c.as_slice.result.now c.in-Commit.is c.as_slice.ensures.lists c.try_commit.ensures.step

pub returns-in-Fetch-clause-step : goal.returns-in-Fetch-clause-step
returns-in-Fetch-clause-step c =
    let k = c.args.parts.now in
    fetch_comes c.args.plan.now (state_of c.args.shard k) (state_behind c.args.shard c.try_fetch.new.parts) k.lists.decided c.requires.sound.lists.decided c.args.sends.now c.try_fetch.new.sends c.try_fetch.result c.args.msg.now
    c.in-Fetch.id c.in-Fetch.asker c.in-Fetch.is c.try_fetch.ensures.step

pub returns-in-Known-clause-step : goal.returns-in-Known-clause-step
returns-in-Known-clause-step c =
    let k = c.args.parts.now in
    known_comes c.args.plan.now (state_of c.args.shard k) (state_behind c.args.shard c.try_known.new.parts) k.lists.decided c.requires.sound.lists.decided c.args.sends.now c.try_known.new.sends c.try_known.result c.args.msg.now
    c.in-Known.id c.in-Known.edges c.in-Known.is c.try_known.ensures.step

pub returns-in-Ended-clause-step : goal.returns-in-Ended-clause-step
returns-in-Ended-clause-step c =
    let k = c.args.parts.now in
    let sends = c.args.sends.now in
    ended_comes c.args.plan.now (state_of c.args.shard k) (state_behind c.args.shard c.try_ended.new.parts) k.lists.decided c.requires.sound.lists.decided sends sends c.try_ended.result c.args.msg.now
    c.in-Ended.coord c.in-Ended.below c.in-Ended.is
    (IfOk-weaker c.try_ended.result _ (λ a. ShowsStep (after_ended (state_of c.args.shard k) c.in-Ended.coord c.in-Ended.below) a (state_behind c.args.shard c.try_ended.new.parts) sends sends)
    (λ a h. h sends) c.try_ended.ensures.step)

pub returns-in-Ended-clause-fits : goal.returns-in-Ended-clause-fits
returns-in-Ended-clause-fits c =
    let state = state_behind c.args.shard c.try_ended.new.parts in
    IfOk-weaker c.try_ended.result _ (λ a. AreGroupsOf c.args.plan.now state.started)
    (λ a h. heard_fits c.args.plan.now (state_of c.args.shard c.args.parts.now) state c.in-Ended.coord c.in-Ended.below a c.args.sends.now c.args.sends.now (h c.args.sends.now) c.requires.fits)
    c.try_ended.ensures.step

pub returns-in-Settled-clause-step : goal.returns-in-Settled-clause-step
returns-in-Settled-clause-step c =
    let k = c.args.parts.now in
    settled_comes c.args.plan.now (state_of c.args.shard k) (state_behind c.args.shard c.try_settled.new.parts) k.lists.decided c.requires.sound.lists.decided c.args.sends.now c.try_settled.new.sends c.try_settled.result c.args.msg.now
    c.in-Settled.id c.in-Settled.below c.in-Settled.is c.try_settled.ensures.step

pub returns-in-Read-clause-step : goal.returns-in-Read-clause-step
returns-in-Read-clause-step c =
    let k = c.args.parts.now in
    let s = state_of c.args.shard k in
    read_comes c.args.plan.now s (state_behind c.args.shard k) k.lists.decided c.requires.sound.lists.decided c.args.sends.now c.judge_read.result c.args.msg.now
    c.in-Read.id c.in-Read.round c.in-Read.proc c.in-Read.group c.in-Read.args (idle_behind k c.requires.idle c.args.shard) c.in-Read.is
    (IfOk-weaker c.judge_read.result _ _ (λ a h. h s c.in-Read.round refl refl) c.judge_read.ensures)

pub returns-in-Read-clause-fits : goal.returns-in-Read-clause-fits
returns-in-Read-clause-fits c =
    let k = c.args.parts.now in
    on_any c.judge_read.result (fits_behind c.args.plan.now (over_of k.lists.tried) k.groups c.requires.sound.groups.same c.requires.idle.groups.starting c.requires.fits)

pub returns-in-Read-clause-can : goal.returns-in-Read-clause-can
returns-in-Read-clause-can c = on_any c.judge_read.result (idle_can c.args.parts.now c.requires.idle c.requires.sound)
