use Rattle.roc_law_world.proofs.Runs.{beside}
use Rattle.roc_law_world.proofs.laws.runs_are_beside.Goals as goal

pub returns : goal.returns
returns c plan b coords is_view steps w run tells = let r = beside plan b coords is_view steps w run tells in (r.others, r.world, r.run, r.holds.beside, r.stepped)
