-- What a run with views asks of its beginning: docs/PROOF.md, "Beginnings"
use Rattle.std.specs.Prelude.{ℕ, ◌≤◌, ◌-◌, ◌^◌}
use Rattle.roc_rows.specs.declared.cell.Cell.{Cell}
use Rattle.roc_rows.specs.Versions.{version}
use Rattle.roc_plan.specs.Groups.{Plan}
use Rattle.roc_law_protocol.specs.Beginnings.{IsBeginning}
use Rattle.roc_law_world.specs.World.{Beginning}

-- it is a beginning of transactions, and no cell was written more often than a version can tell
pub record IsViewBeginning (plan : Plan) (b : Beginning) : Type 0 where
  pub of_transactions : IsBeginning plan b.of_transactions
  pub versions : (n : ℕ) (x : Cell) → version (b.versions n) x ≤ 2 ^ 64 - 1
