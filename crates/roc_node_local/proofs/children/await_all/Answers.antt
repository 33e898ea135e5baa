-- One more child was awaited.
use Rattle.std.proofs.Common.{◌≡◌, sym, ◌∙◌, ap, subst, arith}
use Rattle.std.specs.Option.{option_or}
use Rattle.std.specs.Prelude.{is_none}
use Rattle.roc_io.proofs.Causes.{never_falls}
use Rattle.roc_node_local.proofs.Awaiting.{AwaitsAll-next, bad_cause_next, none_bad_next, bad_at, sent_again}
use Rattle.roc_node_local.proofs.children.await_all.Goals as goal

pub loop-child-preserved : goal.loop-child-preserved
loop-child-preserved g c =
    let so_far = c.loop-child.invariant in
    let cause = c.wait.ensures.cause in
    let rises = never_falls (is_none c.wait.result) _ _ cause in
    let first = c.or-first.ensures ∙ ap (option_or c.loop-child.first) c.bad_end.ensures in
    let here = subst (λ n. c.or-first.result ≡ option_or c.loop-child.first (bad_at n (record { child = c.child-item.result; status = c.wait.result }))) so_far.1 first in (
      AwaitsAll-next c.args.children.now c.loop-child.child-index c.child-item.result c.wait.result _ _ _ _ _ c.loop-child-test.true c.child-item.is so_far.0 c.wait.ensures.awaited here,
      omega (arith, so_far.1),
      rw first (bad_cause_next c.loop-child.first c.loop-child.shard c.child-item.result c.wait.result _ _ _ so_far.2 so_far.4 cause),
      λ none. none_bad_next c.loop-child.first c.loop-child.shard c.child-item.result c.wait.result _ _ _ so_far.3 cause (sym first ∙ none),
      omega arith,
      c.wait.ensures.started ∙ so_far.5,
      sent_again _ _ _ c.loop-child.child-index _ so_far.6 c.wait.ensures.sent_at_waits,
    )
