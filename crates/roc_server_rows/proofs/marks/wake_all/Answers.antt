use Rattle.std.proofs.Common.{get_or}
use Rattle.std.proofs.lemmas.List.{get_or_default}
use Rattle.roc_sequence.proofs.Fronts.{front_whole}
use Rattle.roc_server_rows.specs.Inner.Marks.{IsAwake}
use Rattle.roc_server_rows.proofs.Walked.{all_awake, awake_then, visited_more, visited_none}
use Rattle.roc_server_rows.proofs.marks.wake_all.Goals as goal

pub loop-place-init : goal.loop-place-init
loop-place-init c = visited_none IsAwake c.args.marks.now

pub loop-place-preserved : goal.loop-place-preserved
loop-place-preserved c =
    let ns = c.args.undecided.now in
    let i = c.loop-place.place-index in
    visited_more IsAwake awake_then c.args.marks.now c.loop-place.marks c.awaken.new.marks ns i (get_or ns i 0) c.loop-place-test.true
    (get_or_default ns i 0 (get_or ns i 0) c.loop-place-test.true) c.loop-place.invariant c.awaken.ensures

pub returns : goal.returns
returns c =
    all_awake c.args.marks.now c.loop-place.marks c.args.undecided.now c.loop-place.place-index c.requires c.loop-place.invariant
    (front_whole c.args.undecided.now c.loop-place.place-index c.loop-place-test.false)
