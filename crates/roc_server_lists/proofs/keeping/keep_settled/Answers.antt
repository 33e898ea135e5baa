use Rattle.std.proofs.Common.{◌≢◌, [], ap, ◌∙◌}
use Rattle.roc_sequence.proofs.Holds.{has_all}
use Rattle.roc_server_lists.specs.Inner.Trials.{lists_forgetting}
use Rattle.roc_server_lists.proofs.SettledSteps.{can_decide, settled_kept, settled_one, settled_over, settled_rising}
use Rattle.roc_server_lists.proofs.keeping.keep_settled.Goals as goal

pub settle_all-requires : goal.settle_all-requires
settle_all-requires c = settled_one c.args.parts.now c.args.settling c.requires c.deref.result.now c.deref.ensures.value

pub decide-requires : goal.decide-requires
decide-requires c =
    can_decide c.args.parts.now c.args.settling c.requires c.settle_all.new.table c.deref.result.now c.deref-2.result.now
    c.deref.ensures.value c.deref-2.ensures.value c.settle_all.ensures.links c.settle_all.ensures.decided

pub add-requires-clause-some : goal.add-requires-clause-some
add-requires-clause-some c = has_all (λ m. m ≢ []) c.args.settling.components.items c.requires.found.chosen.taken.some

pub drop_unless-requires : goal.drop_unless-requires
drop_unless-requires c = settled_rising c.args.parts.now c.args.settling c.requires c.deref-3.result.now c.deref-3.ensures.value

pub forget_ended-requires : goal.forget_ended-requires
forget_ended-requires c =
    settled_over c.args.parts.now c.args.settling c.requires c.settle_all.new.table c.decide.new.self c.drop_unless.new.waits
    c.add.new.self c.deref.result.now c.deref-2.result.now c.deref-3.result.now
    c.deref.ensures.value c.deref-2.ensures.value c.deref-3.ensures.value c.settle_all.ensures.known c.settle_all.ensures.links
    c.settle_all.ensures.decided c.decide.ensures.known c.decide.ensures.links c.decide.ensures.decided c.add.ensures
    c.drop_unless.ensures.waiting c.drop_unless.ensures.fetches c.deref-4.result.now c.deref-4.ensures.value

pub returns-clause-kept : goal.returns-clause-kept
returns-clause-kept c =
    c.forget_ended.ensures.kept
    ∙ ap lists_forgetting
    (settled_kept c.args.parts.now c.args.settling c.requires c.settle_all.new.table c.decide.new.self c.drop_unless.new.waits
    c.add.new.self c.deref.result.now c.deref-2.result.now c.deref-3.result.now
    c.deref.ensures.value c.deref-2.ensures.value c.deref-3.ensures.value c.settle_all.ensures.known c.settle_all.ensures.links
    c.settle_all.ensures.decided c.decide.ensures.known c.decide.ensures.links c.decide.ensures.decided c.add.ensures
    c.drop_unless.ensures.waiting c.drop_unless.ensures.fetches)

pub returns-clause-sound : goal.returns-clause-sound
returns-clause-sound c = c.forget_ended.ensures.sound
