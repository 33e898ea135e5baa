use Rattle.std.proofs.Common.{arith}
use Rattle.roc_rows.proofs.Counts.{version-unwritten}
use Rattle.roc_law_world.proofs.beginnings.first_worlds_begin.Goals as goal

pub returns : goal.returns
returns c plan =
    record {
      of_transactions = c.first_worlds_begin.ensures plan;
      versions = λ n x. (let e = version-unwritten x in omega (arith, e));
    }
