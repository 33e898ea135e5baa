use Rattle.std.proofs.Common.{subst}
use Rattle.roc_kept.specs.Kept.{IsSyncedBy}
use Rattle.roc_kept.proofs.keeper.keep.Goals as goal

pub returns-in-Some-clause-any_moment : goal.returns-in-Some-clause-any_moment
returns-in-Some-clause-any_moment g c = λ tells is name tag records k same.
    c.append.ensures.any_moment tells name tag records (subst (λ keeper. IsSyncedBy g.D.Disk c.args.disk.now name tag records keeper) c.in-Some.is k) same
