use Rattle.std.proofs.Common.{ap}
use Rattle.roc_server_reads.specs.Behind.{LeftBehind}
use Rattle.roc_server_reads.proofs.behind.Behind.rows.Goals as goal

pub returns : goal.returns
returns g c = ap (λ (b : LeftBehind). b.store) c.self.view_is
