-- Whose message comes where: docs/PROTOCOL.md, "Growth"
use Rattle.std.specs.Prelude.{◌≡◌, Bool, Some, slice_get}
use Rattle.roc_base.specs.declared.node.Node.{Node}
use Rattle.roc_base.specs.declared.node.Node.TheVariants.{Server, Coord}
use Rattle.roc_grown.specs.Server.{GrownServerState}
use Rattle.roc_grown.specs.Coord.{GrownCoordState}
use Rattle.roc_growth.specs.World.{GrownWorld}

-- the node is there, and has switched or not
abbrev pub StandsAs : GrownWorld → Node → (switched : Bool) → Type 0
StandsAs w (Server shard) switched = (s : GrownServerState) × (slice_get w.servers shard.0 ≡ Some s) × (s.switched ≡ switched)
StandsAs w (Coord number) switched = (c : GrownCoordState) × (slice_get w.coords number ≡ Some c) × (c.switched ≡ switched)
