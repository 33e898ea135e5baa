use Rattle.std.proofs.Common.{◌∙◌, List, map, sym, subst}
use Rattle.std.specs.Prelude.{OnOk}
use Rattle.roc_msg.specs.Outbox.{HasSent}
use Rattle.roc_rows.specs.Store.{Store}
use Rattle.roc_step.specs.declared.kept_read.KeptRead.{KeptRead}
use Rattle.roc_step.specs.Fits.{AreReadsOf, IsReadOf}
use Rattle.roc_server_reads.specs.Answering.{readok_over}
use Rattle.roc_step.specs.Reads.{in_turn, with_accesses}
use Rattle.roc_server_reads.proofs.ReadsOfPlan.{turn_holds}
use Rattle.roc_server_reads.proofs.answering.answer_free.Goals as goal

pub send_readoks-requires : goal.send_readoks-requires
send_readoks-requires g c = subst (AreReadsOf c.args.plan.now) (sym (c.as_slice.ensures.value ∙ c.in_ok-turn.ensures)) (turn_holds (IsReadOf c.args.plan.now) c.args.free.items c.requires)

pub returns : goal.returns
returns g c =
    let plan = c.args.plan.now in
    let counts = with_accesses c.args.versions.now.counts c.args.sends.now.ran in
    let Sent : Store → List KeptRead → Type 0 = λ store qs. OnOk c.send_readoks.result (HasSent c.args.sends.now c.send_readoks.new.sends (map (readok_over plan c.args.shard store counts) qs)) in
    subst (λ store. Sent store (in_turn c.args.free.items)) c.rows.ensures (subst (Sent c.rows.result.now.store) (c.as_slice.ensures.value ∙ c.in_ok-turn.ensures) c.send_readoks.ensures)
