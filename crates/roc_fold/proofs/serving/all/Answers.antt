use Rattle.std.proofs.Common.{◌+◌, suc, [], take, drop, Some, sym, subst, arith}
use Rattle.roc_fold.specs.Fold.{serving, FoldsTo, begins}
use Rattle.roc_fold.specs.Inner.Steps.{EndsBy, StepsBy, folding_of}
use Rattle.std.proofs.lemmas.List.{length-take-le}
use Rattle.roc_sequence.proofs.Fronts.{parts_at}
use Rattle.roc_fold.proofs.Taking.{folds_more}
use Rattle.roc_fold.proofs.serving.all.Goals as goal

pub loop-index-init : goal.loop-index-init
loop-index-init c = record {
  folds = subst (FoldsTo c.args.plan.now c.args.header.now (serving c.args.server.now.state c.args.server.now.viewing) []) (sym c.requires.begins) begins;
  fits = c.requires.fits;
}

pub returns-then-not-branch-clause-ends : goal.returns-then-not-branch-clause-ends
returns-then-not-branch-clause-ends c =
    let lines = c.args.lines.now in
    let i = c.loop-index.index in
    let x = c.index-lines-index.result in
    let f = folding_of (serving c.loop-index.server.state c.loop-index.server.viewing) c.loop-index.gathered in
    let refuses = subst (StepsBy c.args.plan.now c.args.header.now f x (folding_of (serving c.next.new.server.state c.next.new.server.viewing) c.next.new.gathered)) c.if-not-branch.true
    c.in_ok-next.ensures.steps in
    let l = length-take-le i lines (omega (arith, c.loop-index-test.true)) in
    let found : EndsBy c.args.plan.now c.args.header.now (serving c.args.server.now.state c.args.server.now.viewing) lines
    (folding_of (serving c.next.new.server.state c.next.new.server.viewing) c.next.new.gathered) (Some (i + 2)) = (
      take i lines,
      x,
      drop (suc i) lines,
      f,
      sym (parts_at lines i x c.loop-index-test.true c.index-lines-index.is),
      omega (arith, l),
      c.loop-index.invariant.folds,
      refuses,
    ) in
    found

pub loop-index-preserved : goal.loop-index-preserved
loop-index-preserved c =
    let f = folding_of (serving c.loop-index.server.state c.loop-index.server.viewing) c.loop-index.gathered in
    let h = folding_of (serving c.next.new.server.state c.next.new.server.viewing) c.next.new.gathered in
    let takes = subst (StepsBy c.args.plan.now c.args.header.now f c.index-lines-index.result h) c.if-not-branch.false c.in_ok-next.ensures.steps in
    record {
      folds = folds_more c.args.plan.now c.args.header.now (serving c.args.server.now.state c.args.server.now.viewing) c.args.lines.now c.loop-index.index c.index-lines-index.result f h
          c.loop-index-test.true c.index-lines-index.is c.loop-index.invariant.folds takes;
      fits = c.in_ok-next.ensures.fits;
    }
