use Rattle.std.proofs.Common.{[], length, sym, ap, subst, arith}
use Rattle.std.proofs.lemmas.List.{length-map}
use Rattle.roc_io.specs.Spawner.{command_words}
use Rattle.roc_node_local.specs.declared.local.LocalEnd.{LocalEnd}
use Rattle.roc_node_local.specs.Local.{BlamesChild, local_ask}
use Rattle.roc_node_local.proofs.Ends.{few_run, blamed}
use Rattle.roc_node_local.proofs.local.run_servers.Goals as goal

pub overflow_cast-running : goal.overflow_cast-running
overflow_cast-running g c =
    let all = length-map c.deref.result.now command_words in
    let listed = ap length c.deref.ensures.value in
    let few = few_run 255 c.start_all-starts.ensures.started c.requires.children (omega (arith, all, listed, c.requires.few)) in
    let same = ap length c.as_slice.ensures.value in
    omega (arith, few, same)

pub await_all-bad-requires : goal.await_all-bad-requires
await_all-bad-requires g c =
    let all = length-map c.deref.result.now command_words in
    let listed = ap length c.deref.ensures.value in
    let few = few_run 255 c.start_all-starts.ensures.started c.requires.children (omega (arith, all, listed, c.requires.few)) in
    let same = ap length c.deref-4.ensures.value in
    omega (arith, few, same)

pub returns-clause-child_cause : goal.returns-clause-child_cause
returns-clause-child_cause g c =
    let asked = local_ask c.args.plan.now c.args.tag c.args.cluster.now c.args.requests.now [] [] c.args.turns in
    let failures = c.await_all-bad.ensures in
    subst (λ (end : LocalEnd). BlamesChild end (g.P.Spawner.faults c.args.spawner.now) (g.P.Spawner.faults c.await_all-bad.new.spawner)) (sym c.with_child.ensures)
    (blamed asked _ _ _ c.work-first.result c.await_all-bad.result _ _ _ _ _ _ c.start_all-starts.ensures.cause (c.work-first.ensures.works [] []) failures.awaited failures.failed failures.succeeded failures.never_falls)
