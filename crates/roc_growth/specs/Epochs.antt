-- A run of two files is two runs of one, side by side: docs/PROOF.md, "Two files"
use Rattle.std.specs.Prelude.{◌≡◌, ◌≢◌, ◌⊎◌, ℕ, suc, ◌<◌, true, false, List, [], ◌∷◌, ◌++◌, Option, Some, length, map, slice_get}
use Rattle.roc_base.specs.declared.node.Shard.{Shard}
use Rattle.roc_plan.specs.Groups.{Plan}
use Rattle.roc_step.specs.Renewed.{renewed, renewed_viewing}
use Rattle.roc_coord.specs.State.{CoordState}
use Rattle.roc_coord.specs.Submit.{next_id}
use Rattle.roc_coord.specs.Renewed.{renewed_coord}
use Rattle.roc_law_protocol.specs.declared.event.Event.TheVariants as one
use Rattle.roc_law_protocol.specs.declared.event.Kept.{Kept}
use Rattle.roc_law_world.specs.World.{World, first_beginning, begun_world}
use Rattle.roc_law_world.specs.Run as views
use Rattle.roc_epoch.specs.declared.file.File.{File}
use Rattle.roc_epoch.specs.declared.file.File.TheVariants.{First, Second}
use Rattle.roc_epoch.specs.declared.next.Next.{Next}
use Rattle.roc_epoch.specs.Files.{last_plan}
use Rattle.roc_two_files.specs.Left.{AreDrained, left_behind}
use Rattle.roc_two_files.specs.Orders.{later_by}
use Rattle.roc_two_files.specs.Sealed.{Sealed, is_of, of_file, place_in_file}
use Rattle.roc_grown.specs.Server.{GrownServerState}
use Rattle.roc_grown.specs.Coord.{GrownCoordState}
use Rattle.roc_growth.specs.declared.event.Event.TheVariants.{Deliver, Stop}
use Rattle.roc_growth.specs.declared.event.Seen.TheVariants as seen
use Rattle.roc_growth.specs.World.{GrownWorld}
use Rattle.roc_growth.specs.Run.{Stepped}
use Rattle.roc_growth.specs.Told.{AreTold}
use Rattle.roc_growth.specs.Without.{same_seen}

-- each node is that of the world of its own file, and what was sent, told and ordered is theirs, the first world's first. In the second world a node that has
-- not switched stands as it would begin there
pub record AreTwo (g : GrownWorld) (w v : World) : Type 0 where
  pub servers : length w.servers ≡ length g.servers
  pub coords : length w.coords ≡ length g.coords
  pub first_servers : (n : ℕ) (s : GrownServerState) → slice_get g.servers n ≡ Some s → s.switched ≡ false → (slice_get w.servers n ≡ Some s.core) × (slice_get w.viewing n ≡ Some s.viewing)
  pub second_servers : (n : ℕ) (s : GrownServerState) → slice_get g.servers n ≡ Some s → s.switched ≡ true → (slice_get v.servers n ≡ Some s.core) × (slice_get v.viewing n ≡ Some s.viewing)
  pub awaited_servers :
      (n : ℕ) (s : GrownServerState) → slice_get g.servers n ≡ Some s → s.switched ≡ false
      → (slice_get v.servers n ≡ Some (renewed s.core)) × (slice_get v.viewing n ≡ Some (renewed_viewing s.viewing))
  pub first_coords : (n : ℕ) (c : GrownCoordState) → slice_get g.coords n ≡ Some c → c.switched ≡ false → slice_get w.coords n ≡ Some c.core
  pub second_coords : (n : ℕ) (c : GrownCoordState) → slice_get g.coords n ≡ Some c → c.switched ≡ true → slice_get v.coords n ≡ Some c.core
  pub awaited_coords : (n : ℕ) (c : GrownCoordState) → slice_get g.coords n ≡ Some c → c.switched ≡ false → slice_get v.coords n ≡ Some (renewed_coord c.core)
  pub first_sent : w.sent ≡ of_file First g.sent
  pub second_sent : v.sent ≡ of_file Second g.sent
  pub history : g.history ≡ w.history ++ v.history
  pub order : g.order ≡ w.order ++ v.order
  pub looks : g.looks ≡ w.looks ++ map (later_by (length w.order)) v.looks

-- ---- step by step

-- y is what a step is in the world of a file
pub record IsAlong (f : File) (sent : List Sealed) (x : Stepped) (y : views.Stepped) : Type 0 where
  -- what came had been sent
  pub sent_before : (k : ℕ) → x.event ≡ Some (Deliver (suc k)) → k < length sent
  -- a message of the file that was not skipped came there too, by the number that it has there, and the same was seen
  pub comes :
      (k : ℕ) (m : Sealed) → x.event ≡ Some (Deliver (suc k)) → slice_get sent k ≡ Some m → is_of f m ≡ true → x.outcome.seen ≢ seen.Skipped
      → (y.event ≡ Some (one.Deliver (suc (place_in_file f sent k)))) × (x.outcome.seen ≡ same_seen y.outcome.seen)
  -- a server stops there only where it stops
  pub stops : (shard : Shard) (during : Option (ℕ × Kept)) → y.event ≡ Some (one.Stop shard during) → (own : Option (ℕ × Kept)) × (x.event ≡ Some (Stop shard own))

-- step by step
pub data AreAlong (f : File) (sent : List Sealed) : List Stepped → List views.Stepped → Type 0 where
  none_along : AreAlong f sent [] []
  one_more_along : {steps : List Stepped} {others : List views.Stepped} (x : Stepped) (y : views.Stepped) → AreAlong f sent steps others → IsAlong f sent x y
      → AreAlong f sent (steps ++ x ∷ []) (others ++ y ∷ [])

-- ---- two runs

-- the second begins where the first stands
abbrev pub second_begun : Plan → Option Next → (coords : ℕ) → World → World
second_begun plan next coords w = begun_world (last_plan plan next) (left_behind plan (first_beginning plan) w) coords

pub record AreEpochs (plan : Plan) (next : Option Next) (coords : ℕ) (steps : List Stepped) (g : GrownWorld) : Type 0 where
  pub first_steps : List views.Stepped
  pub w : World
  pub first : views.IsRun plan coords first_steps w
  pub second_steps : List views.Stepped
  pub v : World
  pub second : views.IsRunFrom (last_plan plan next) (left_behind plan (first_beginning plan) w) coords second_steps v
  pub two : AreTwo g w v
  pub along_first : AreAlong First g.sent steps first_steps
  pub along_second : AreAlong Second g.sent steps second_steps
  pub told : AreTold g
  -- nothing happens in the second world before all servers have switched
  pub begun : (v ≡ second_begun plan next coords w) ⊎ ((n : ℕ) (s : GrownServerState) → slice_get g.servers n ≡ Some s → s.switched ≡ true)
  -- where a server has switched nothing of the first world is unanswered, so all of it is answered, and it left a beginning
  pub drained : (n : ℕ) (s : GrownServerState) → slice_get g.servers n ≡ Some s → s.switched ≡ true → AreDrained w.coords
  -- what a coordinator told that has switched is the next id that it had in the first world
  pub upto : (n : ℕ) (c : GrownCoordState) → slice_get g.coords n ≡ Some c → c.switched ≡ true → (d : CoordState) × (slice_get w.coords n ≡ Some d) × (c.upto ≡ Some (next_id d))
