-- Where a run begins: docs/PROOF.md, "Beginnings"
use Rattle.std.specs.Prelude.{◌≡◌, ◌≢◌, ℕ, pos, ◌<◌, ◌≤◌, ◌==◌, true, List, [], Option, Some, None, length, map, filter, slice_get}
use Rattle.std.specs.List.{range_with_len}
use Rattle.roc_base.specs.declared.id.TxnId.{TxnId}
use Rattle.roc_rows.specs.declared.cell.Cell.{Cell}
use Rattle.roc_rows.specs.Store.{Store, read, empty}
use Rattle.roc_plan.specs.Groups.{Plan, shard_of}
use Rattle.roc_whole.specs.Serial.{after_inits, start_store}
use Rattle.roc_step.specs.Waits.{none_waiting}
use Rattle.roc_step.specs.Below.{none_below, is_ended}
use Rattle.roc_step.specs.State.{ServerState}
use Rattle.roc_coord.specs.State.{CoordState}
use Rattle.roc_coord.specs.Submit.{most_transactions}
use Rattle.roc_law_protocol.specs.World.{World}

pub record Beginning : Type 0 where
  -- what all cells hold
  pub store : Store
  -- what each shard's server holds of it
  pub stores : ℕ → Store
  -- the next sequence of each coordinator
  pub nexts : ℕ → ℕ
  -- the watermarks that each shard's server has heard
  pub below : ℕ → List ℕ

-- a server holds the cells of its places and no others, and keeps a watermark of each of sixteen coordinators; what it has heard of as ended is below its
-- coordinator's next sequence; and a coordinator used no more sequences than it may
pub record IsBeginning (plan : Plan) (b : Beginning) : Type 0 where
  pub cells : (n : ℕ) (x : Cell) → shard_of plan x.place ≡ n → read (b.stores n) x ≡ read b.store x
  pub elsewhere : (n : ℕ) (x : Cell) → shard_of plan x.place ≢ n → read (b.stores n) x ≡ pos 0
  pub marks : (n : ℕ) → length (b.below n) ≡ 16
  pub ended : (n : ℕ) (t : TxnId) → is_ended (b.below n) t ≡ true → t.seq < b.nexts t.coord
  pub few : (coord : ℕ) → b.nexts coord ≤ most_transactions

abbrev pub begun_server : Beginning → (shard : ℕ) → ServerState
begun_server b shard =
    record { shard = record { 0 = shard }; store = b.stores shard; started = []; lists = record { known = []; links = []; waiting = none_waiting; taken = [] }; below = b.below shard }

abbrev pub begun_coord : Beginning → (number : ℕ) → CoordState
begun_coord b number = record { number = number; next = b.nexts number; pending = []; views = []; unanswered = [] }

-- nothing is sent, started or pending
abbrev pub begun_world : Plan → Beginning → (coords : ℕ) → World
begun_world plan b coords =
    record {
      servers = map (begun_server b) (range_with_len 0 plan.program.shards);
      coords = map (begun_coord b) (range_with_len 0 coords);
      sent = [];
      undelivered = [];
      history = [];
      order = [];
    }

-- where the first world begins: each cell as the workload says, nothing submitted and nothing heard
abbrev pub first_beginning : Plan → Beginning
first_beginning plan =
    record {
      store = start_store plan.program;
      stores = λ n. after_inits empty (filter (λ i. shard_of plan i.place == n) plan.program.inits);
      nexts = λ n. 0;
      below = λ n. none_below;
    }

-- ---- where a world stands

-- what a node has, or else this
abbrev pub store_in : Store → Option ServerState → Store
store_in other (Some s) = s.store
store_in other None = other

abbrev pub below_in : List ℕ → Option ServerState → List ℕ
below_in other (Some s) = s.below
below_in other None = other

abbrev pub next_in : ℕ → Option CoordState → ℕ
next_in other (Some c) = c.next
next_in other None = other

-- each server's cells and watermarks and each coordinator's next sequence, as a run from b left them; and these cells in all
abbrev pub left_by : Beginning → World → Store → Beginning
left_by b w store =
    record {
      store = store;
      stores = λ n. store_in (b.stores n) (slice_get w.servers n);
      nexts = λ n. next_in (b.nexts n) (slice_get w.coords n);
      below = λ n. below_in (b.below n) (slice_get w.servers n);
    }
