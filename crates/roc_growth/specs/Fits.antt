-- What a world of two files holds is of the plans of its nodes' own files, and names only nodes that are there: docs/PROTOCOL.md, "Growth"
use Rattle.std.specs.Prelude.{◌≡◌, ℕ, ◌<◌, ◌≤◌, Option, Some, length, slice_get, IfSome}
use Rattle.std.specs.List.{AllByRecursion}
use Rattle.roc_plan.specs.Groups.{Plan}
use Rattle.roc_law_protocol.specs.Fits.{IsServerHere}
use Rattle.roc_law_world.specs.Fits.{IsSentHere, IsViewingHere, IsCoordHere}
use Rattle.roc_epoch.specs.declared.next.Next.{Next}
use Rattle.roc_grown.specs.Server.{GrownServerState}
use Rattle.roc_grown.specs.Fits.{GrownServerFits, GrownCoordFits}
use Rattle.roc_growth.specs.World.{GrownWorld}
use Rattle.roc_growth.specs.Run.{AreCoordsOf}

-- so many servers and coordinators are there: and what a server keeps is of these
pub record IsGrownServerHere (servers coords : ℕ) (s : GrownServerState) : Type 0 where
  pub core : IsServerHere servers coords s.core
  pub viewing : IsViewingHere servers coords s.viewing
  pub drained : AllByRecursion (λ told. IfSome told (λ upto. upto.coord < coords)) s.drained

-- each node fits the plan of its own file, there is a server for each shard, and just the coordinators of the next file, if there is one; all that is named
-- is there, and what was not delivered was sent
pub record FitsGrown (plan : Plan) (next : Option Next) (w : GrownWorld) : Type 0 where
  pub some_server : 0 < length w.servers
  pub shards : length w.servers ≡ plan.program.shards
  pub counted : AreCoordsOf next (length w.coords)
  -- the server at a place has its number
  pub numbers : (n : ℕ) (s : GrownServerState) → slice_get w.servers n ≡ Some s → s.core.shard.0 ≡ n
  pub servers : AllByRecursion (GrownServerFits plan next) w.servers
  pub coords : AllByRecursion (GrownCoordFits plan next) w.coords
  pub undelivered : AllByRecursion (λ k. (0 < k) × (k ≤ length w.sent)) w.undelivered
  pub sent_here : AllByRecursion (λ m. IsSentHere (length w.servers) (length w.coords) m.message) w.sent
  pub servers_here : AllByRecursion (IsGrownServerHere (length w.servers) (length w.coords)) w.servers
  pub coords_here : AllByRecursion (λ c. IsCoordHere (length w.servers) (length w.coords) c.core) w.coords
