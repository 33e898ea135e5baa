-- What a world holds is of a plan, and names only nodes that are there: docs/PROTOCOL.md, "World"
use Rattle.std.specs.Prelude.{◌≡◌, ℕ, ◌<◌, ◌≤◌, Some, length, slice_get}
use Rattle.std.specs.List.{AllByRecursion}
use Rattle.roc_msg.specs.declared.msg.Msg.{Msg}
use Rattle.roc_msg.specs.declared.msg.Msg.TheVariants.{Read, ReadOk}
use Rattle.roc_msg.specs.declared.msg.Envelope.{Envelope}
use Rattle.roc_plan.specs.Groups.{Plan}
use Rattle.roc_step.specs.State.{ServerState, Viewing}
use Rattle.roc_step.specs.Fits.{AreReadsOf, ServerFits}
use Rattle.roc_coord.specs.State.{CoordState}
use Rattle.roc_coord.specs.Fits.{CoordFits}
use Rattle.roc_law_protocol.specs.Fits as transactions
use Rattle.roc_law_protocol.specs.Fits.{IsNode, IsServerHere, IsTransactionHere}
use Rattle.roc_law_world.specs.World.{World}

-- ---- so many servers and coordinators are there

module _ (servers coords : ℕ) where
  -- what a message names is there
  abbrev pub NamesNodes : Msg → Type 0
  NamesNodes (Read id round proc group args) = id.coord < coords
  NamesNodes (ReadOk id round group shard versions outs) = Unit {0}
  NamesNodes msg = transactions.NamesNodes servers coords msg

  -- it goes to a node that is there
  pub record IsSentHere (m : Envelope) : Type 0 where
    pub to : IsNode servers coords m.to
    pub names : NamesNodes m.msg

  -- each read that is kept is of a coordinator that is there
  pub record IsViewingHere (v : Viewing) : Type 0 where
    pub reads : AllByRecursion (λ q. q.id.coord < coords) v.reads

  pub record IsCoordHere (c : CoordState) : Type 0 where
    pub number : c.number < coords
    pub pending : AllByRecursion (IsTransactionHere servers coords) c.pending
    pub views : AllByRecursion (λ v. v.id.coord < coords) c.views

-- each node fits the plan, there is a server for each shard with what it keeps for views, all that is named is there, and what was not delivered was sent
pub record FitsWorld (plan : Plan) (w : World) : Type 0 where
  pub some_server : 0 < length w.servers
  pub shards : length w.servers ≡ plan.program.shards
  pub each_views : length w.viewing ≡ length w.servers
  -- the server at a place has its number
  pub numbers : (n : ℕ) (s : ServerState) → slice_get w.servers n ≡ Some s → s.shard.0 ≡ n
  pub servers : AllByRecursion (ServerFits plan) w.servers
  pub viewing : AllByRecursion (λ v. AreReadsOf plan v.reads) w.viewing
  pub coords : AllByRecursion (CoordFits plan) w.coords
  pub undelivered : AllByRecursion (λ k. (0 < k) × (k ≤ length w.sent)) w.undelivered
  pub sent_here : AllByRecursion (IsSentHere (length w.servers) (length w.coords)) w.sent
  pub servers_here : AllByRecursion (IsServerHere (length w.servers) (length w.coords)) w.servers
  pub viewing_here : AllByRecursion (IsViewingHere (length w.servers) (length w.coords)) w.viewing
  pub coords_here : AllByRecursion (IsCoordHere (length w.servers) (length w.coords)) w.coords
