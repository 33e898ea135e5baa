-- The outbox gains the commit to one more shard
use Rattle.std.proofs.Common.{List, ap, refl, get_or, ◌∙◌}
use Rattle.roc_base.specs.Edge.{Dependency}
use Rattle.roc_base.specs.declared.node.Shard.{Shard}
use Rattle.roc_depgraph.specs.declared.known.KnownList.{KnownList}
use Rattle.roc_msg.proofs.Sent.{sent_none}
use Rattle.roc_msg.specs.declared.outbox.Outgoing.{Outgoing}
use Rattle.roc_coord.specs.Inner.CommitWith.{commit_with}
use Rattle.roc_readonly.proofs.Sends.{sent_one_more, sent_all}
use Rattle.roc_coord.proofs.commits.send_each.Goals as goal

pub loop-shard-init : goal.loop-shard-init
loop-shard-init c = sent_none c.args.outbox.now

pub loop-shard-preserved : goal.loop-shard-preserved
loop-shard-preserved c =
    let i = c.loop-shard.shard-index in
    let none : Shard = record { 0 = 0 } in
    let shard : Shard = get_or c.args.shards.now i none in
    let with_edges : List Dependency → Outgoing = λ edges. commit_with c.args.id edges c.in_ok-clone-2.field-0 shard in
    let with_facts : List KnownList → Outgoing = λ facts. commit_with c.args.id c.args.edges.now facts shard in
    sent_one_more (commit_with c.args.id c.args.edges.now c.args.facts.now) c.args.shards.now i shard none c.args.outbox.now c.loop-shard.outbox c.send.new.self (commit_with c.args.id c.in_ok-clone.field-0 c.in_ok-clone-2.field-0 shard)
    c.loop-shard-test.true refl c.loop-shard.invariant (ap with_edges c.in_ok-clone.ensures.cases ∙ ap with_facts c.in_ok-clone-2.ensures.cases) c.in_ok-send.ensures.ok

pub returns : goal.returns
returns c = sent_all (commit_with c.args.id c.args.edges.now c.args.facts.now) c.args.shards.now c.loop-shard.shard-index c.args.outbox.now c.loop-shard.outbox c.loop-shard-test.false c.loop-shard.invariant
