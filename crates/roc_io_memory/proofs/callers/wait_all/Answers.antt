-- One more child was awaited.
use Rattle.std.proofs.Common.{sym, ◌∙◌, ap, arith}
use Rattle.std.specs.Option.{option_or}
use Rattle.std.specs.Prelude.{is_none}
use Rattle.roc_io.proofs.Causes.{never_falls}
use Rattle.roc_io_memory.proofs.Waits.{WaitsAll-next, cause_next, same_next}
use Rattle.roc_io_memory.proofs.callers.wait_all.Goals as goal

pub loop-child-preserved : goal.loop-child-preserved
loop-child-preserved g c =
    let so_far = c.loop-child.invariant in
    let cause = c.wait.ensures.cause in
    let rises = never_falls (is_none c.wait.result) _ _ cause in
    let first = c.or-first.ensures ∙ ap (option_or c.loop-child.first) c.failure.ensures in (
      WaitsAll-next c.args.children.now _ c.child-item.result c.wait.result _ _ _ _ _ c.loop-child-test.true c.child-item.is so_far.0 c.wait.ensures.awaited first,
      rw first (cause_next c.loop-child.first c.child-item.result c.wait.result _ _ _ so_far.1 so_far.3 cause),
      λ none. same_next c.loop-child.first c.child-item.result c.wait.result _ _ _ so_far.2 cause (sym first ∙ none),
      omega arith,
      c.wait.ensures.started ∙ so_far.4,
    )
