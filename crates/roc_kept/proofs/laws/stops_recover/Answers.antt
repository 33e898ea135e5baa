use Rattle.roc_kept.proofs.Keeping.{stops_here}
use Rattle.roc_kept.proofs.laws.stops_recover.Goals as goal

pub returns : goal.returns
returns g c = λ now plan name tag s v keeper k. stops_here g.D.Disk now plan name tag s v keeper k
