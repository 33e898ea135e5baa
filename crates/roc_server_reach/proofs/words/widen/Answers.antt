use Rattle.std.proofs.Common.{ap, ◌∙◌, arith, length, length-append}
use Rattle.roc_server_reach.specs.Inner.Words.{words_but}
use Rattle.roc_server_reach.proofs.StaleBits.{wider_but}
use Rattle.roc_server_reach.proofs.words.widen.Goals as goal

pub widen-preserved : goal.widen-preserved
widen-preserved c =
    let was = c.widen.invariant in
    let more = simp length-append at (ap length c.in_ok-push.ensures.items) in
    record {
      same = λ words. ap (words_but words) c.in_ok-push.ensures.items ∙ (wider_but words c.widen.set.items ∙ was.same words);
      no_fewer = omega arith;
      at_most = omega arith;
    }
