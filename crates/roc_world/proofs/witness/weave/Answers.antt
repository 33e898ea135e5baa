use Rattle.std.proofs.Common.{◌∙◌, ◌++◌, ap}
use Rattle.std.proofs.lemmas.List.{take_rest}
use Rattle.roc_world.proofs.Woven.{woven_more, woven_end}
use Rattle.roc_world.proofs.witness.weave.Goals as goal

pub loop-look-preserved : goal.loop-look-preserved
loop-look-preserved c = record {
  within = c.taken_before-until.ensures.within;
  left =
      woven_more c.args.order.now c.args.looks.now c.loop-look.look-index c.loop-look-test.true c.loop-look.taken c.taken_before-until.result c.taken_before-until.ensures.from c.taken_before-until.ensures.within
      c.taken_before-until.ensures.no_further c.taken_before-until.ensures.far c.loop-look.ids.items c.extend_from_slice.new.self.items c.push.new.self.items _ c.in_ok-extend_from_slice.ensures.items c.in_ok-push.ensures.items c.loop-look.invariant.left;
}

pub returns : goal.returns
returns c =
    woven_end c.args.order.now c.args.looks.now c.loop-look.look-index c.loop-look.taken c.loop-look.ids.items c.extend_from_slice-2.new.self.items _ c.loop-look-test.false
    (c.in_ok-extend_from_slice-2.ensures.items ∙ ap (λ l. c.loop-look.ids.items ++ l) (take_rest c.args.order.now c.loop-look.taken)) c.loop-look.invariant.left
