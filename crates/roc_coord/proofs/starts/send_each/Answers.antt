use Rattle.std.proofs.Common.{◌<◌, length, refl, get_or, ap, subst, sym, ℕ}
use Rattle.roc_base.specs.declared.node.Node.TheVariants.{Server}
use Rattle.roc_plan.specs.Groups.{groups_of}
use Rattle.roc_coord.specs.declared.transaction.Transaction.{Transaction}
use Rattle.roc_coord.proofs.StartRound.{kept_more, sent_more, fits_more}
use Rattle.roc_coord.proofs.starts.send_each.Goals as goal

pub loop-group-preserved : goal.loop-group-preserved
loop-group-preserved c =
    let i = c.loop-group.group-index in
    let g = get_or c.args.ready.now i 0 in
    let h = c.loop-group.invariant in
    let proc = ap (λ (v : Transaction). v.proc) h.kept in
    let is_group : ℕ → Type 0 = λ p. g < length (groups_of c.args.plan.now p) in
    record {
      kept = kept_more c.args.plan.now c.args.x.now c.loop-group.x c.args.ready.now i g c.loop-group-test.true refl h.kept c.in_ok-shard.shard c.push.new.self c.in_ok-shard.ensures.shard c.in_ok-push.ensures.ok;
      sent = sent_more c.args.plan.now c.args.x.now c.loop-group.x c.args.ready.now i g c.loop-group-test.true refl h.kept c.args.outbox.now c.loop-group.outbox c.send.new.self (record { to = Server c.in_ok-shard.shard; msg = c.in_ok-shard.start }) h.sent c.in_ok-shard.ensures.start c.in_ok-send.ensures.ok;
      fits = fits_more c.args.plan.now c.loop-group.x (record { group = g; shard = c.in_ok-shard.shard }) c.push.new.self h.fits (subst is_group (sym proc) (c.requires.groups i 0 c.loop-group-test.true)) c.in_ok-push.ensures.ok;
    }
