-- What a node holds is of the plan of its own file
use Rattle.std.specs.Prelude.{Option}
use Rattle.roc_plan.specs.Groups.{Plan}
use Rattle.roc_epoch.specs.declared.next.Next.{Next}
use Rattle.roc_epoch.specs.Files.{own_plan}
use Rattle.roc_step.specs.Fits.{AreReadsOf, ServerFits}
use Rattle.roc_coord.specs.Fits.{CoordFits}
use Rattle.roc_grown.specs.Server.{GrownServerState}
use Rattle.roc_grown.specs.Coord.{GrownCoordState}

abbrev pub GrownServerFits : Plan → Option Next → GrownServerState → Type 0
GrownServerFits plan next s = ServerFits (own_plan plan next s.switched) s.core × AreReadsOf (own_plan plan next s.switched) s.viewing.reads

abbrev pub GrownCoordFits : Plan → Option Next → GrownCoordState → Type 0
GrownCoordFits plan next s = CoordFits (own_plan plan next s.switched) s.core
