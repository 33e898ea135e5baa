use Rattle.std.proofs.Common.{sym, ◌∙◌}
use Rattle.roc_log.specs.declared.line.LogLine.TheVariants.{In}
use Rattle.roc_fold.specs.Fold.{coordinating}
use Rattle.roc_fold.specs.Inner.Steps.{folding_of}
use Rattle.roc_fold.proofs.Taking.{takes_by_event}
use Rattle.roc_fold.proofs.coordinating.datagram.Goals as goal

pub returns-clause-steps : goal.returns-clause-steps
returns-clause-steps c =
    let g = c.in_ok-message.ensures.gives in
    takes_by_event c.args.plan.now c.args.header.now (folding_of (coordinating c.args.coord.now) c.args.gathered.now) (In c.args.bytes.now) _ g.0 c.requires.none
    (c.in-Some.msg, sym c.in_ok-msg.ensures ∙ c.in-Some.is, g.1) g.2
