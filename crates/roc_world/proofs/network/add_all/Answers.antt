use Rattle.std.proofs.Common.{length, sym, ap, ◌∙◌, arith, rules}
use Rattle.std.specs.Vec.Iter.{into_iter_items}
use Rattle.roc_sequence.proofs.Fronts.{no_elements}
use Rattle.roc_two_files.specs.Sealed.{sealed_by}
use Rattle.roc_world.specs.Inner.Messages.{sealed_all}
use Rattle.roc_world.proofs.Sending.{sent_turn, numbers_turn, all_sent, all_numbered}
use Rattle.roc_world.proofs.network.add_all.Goals as goal

pub loop-message-preserved : goal.loop-message-preserved
loop-message-preserved c =
    let l = c.loop-message in
    let left = into_iter_items l.message-iterator in
    let rest = into_iter_items c.next.new.self in
    let steps = c.in-Some.ensures.steps in
    let long = ap length steps.0 in
    let one_less = steps.1 in
    let before = l.invariant.left in
    let added = c.in_ok-add_one.ensures in
    record {
      sealed = added.sealed;
      left = omega arith;
      sent =
          sent_turn (sealed_by c.args.switched c.args.from) left rest c.in-Some.message steps.0 (sealed_all l.files.items l.sent.items) (sealed_all c.add_one.new.files.items c.add_one.new.sent.items) _ added.sent l.invariant.sent;
      undelivered =
          numbers_turn (sealed_by c.args.switched c.args.from) left rest c.in-Some.message steps.0 (length l.sent.items) (length c.add_one.new.sent.items) l.undelivered.items c.add_one.new.undelivered.items _ added.count
          added.undelivered l.invariant.undelivered;
    }

pub returns-clause-sent : goal.returns-clause-sent
returns-clause-sent c =
    let l = c.loop-message in
    all_sent (sealed_by c.args.switched c.args.from) (into_iter_items l.message-iterator) (into_iter_items c.into_iter-message-iterator.result) c.args.messages.items (sealed_all l.files.items l.sent.items)
    (sealed_all c.args.files.now.items c.args.sent.now.items) (no_elements (into_iter_items l.message-iterator) (sym l.invariant.left ∙ c.in-None.ensures.steps.0)) (search rules) l.invariant.sent

pub returns-clause-undelivered : goal.returns-clause-undelivered
returns-clause-undelivered c =
    let l = c.loop-message in
    all_numbered (into_iter_items l.message-iterator) (into_iter_items c.into_iter-message-iterator.result) c.args.messages.items l.undelivered.items c.args.undelivered.now.items _ _
    (no_elements (into_iter_items l.message-iterator) (sym l.invariant.left ∙ c.in-None.ensures.steps.0)) (search rules) l.invariant.undelivered
