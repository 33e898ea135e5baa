-- What the world keeps for views says of the log
use Rattle.std.proofs.Common.{◌≡◌, ◌≢◌, ℕ, ℤ, ◌<◌, ◌≤◌, Bool, true, List, [], ◌∷◌, ◌++◌, Some, length, take}
use Rattle.std.specs.Prelude.{slice_get, flat_map}
use Rattle.std.specs.List.{range_with_len}
use Rattle.roc_sequence.specs.Lists.{Has}
use Rattle.roc_base.specs.declared.id.TxnId.{TxnId}
use Rattle.roc_base.specs.declared.node.Node.{Node}
use Rattle.roc_base.specs.declared.node.Node.TheVariants.{Server, Coord}
use Rattle.roc_base.specs.declared.node.Shard.{Shard}
use Rattle.roc_msg.specs.declared.msg.Msg.{Msg}
use Rattle.roc_msg.specs.declared.msg.Msg.TheVariants.{Read, ReadOk}
use Rattle.roc_msg.specs.declared.msg.Envelope.{Envelope}
use Rattle.roc_rows.specs.Versions.{Counts}
use Rattle.roc_plan.specs.Groups.{Plan, groups_of, is_view_of, shard_of, group_place}
use Rattle.roc_whole.specs.Serial as whole
use Rattle.roc_group.specs.GroupRun.{call, group_run}
use Rattle.roc_law_orders.specs.Runs.{stage_behind}
use Rattle.roc_law_orders.specs.Orders.{one_by_one}
use Rattle.roc_law_log.specs.Scheme.{Scheme}
use Rattle.roc_law_log.specs.Log.{Log}
use Rattle.roc_law_log.specs.Steps.{LogSteps}
use Rattle.roc_law_log.specs.Invariants.{LogInvariants}
use Rattle.roc_step.specs.State.{Viewing}
use Rattle.roc_step.specs.declared.kept_read.KeptRead.{KeptRead}
use Rattle.roc_readonly.specs.declared.view.TakenRead.{TakenRead}
use Rattle.roc_readonly.specs.declared.view.View.{View}
use Rattle.roc_coord.specs.State.{CoordState}
use Rattle.roc_audit.specs.declared.entry.Entry.{Entry}
use Rattle.roc_audit.specs.declared.entry.Entry.TheVariants.{Submitted, Answered}
use Rattle.roc_audit.specs.History.{WasSubmitted}
use Rattle.roc_audit.specs.Woven.{Look}
use Rattle.roc_law_protocol.specs.Beginnings as protocol
use Rattle.roc_law_world.specs.World.{World}
use Rattle.roc_law_world.proofs.Readings.{AreVersions, IsReading}

-- ---- looks

-- l is the last look of its view
pub record IsLastLook (looks : List Look) (id : TxnId) (behind : ℕ) : Type 0 where
  pub front : List Look
  pub back : List Look
  pub is : looks ≡ front ++ record { id = id; behind = behind } ∷ back
  pub none : (k : Look) → Has k back → k.id ≢ id

-- what calls a view makes, by the history
abbrev pub TellsCalls : (TxnId → whole.Call) → List Entry → Type 0
TellsCalls calls history = (t : TxnId) (proc : ℕ) (args : List ℤ) → Has (Submitted t proc args) history → (proc ≡ (calls t).procedure) × (args ≡ (calls t).arguments)

module _ (plan : Plan) (calls : TxnId → whole.Call) where
  abbrev pub proc_of : TxnId → ℕ
  proc_of t = (calls t).procedure

  abbrev pub args_of : TxnId → List ℤ
  args_of t = (calls t).arguments

  abbrev pub is_view_id : TxnId → Bool
  is_view_id t = is_view_of plan (proc_of t)

  abbrev pub read_place : TxnId → ℕ → ℕ
  read_place t group = shard_of plan (group_place plan (proc_of t) group (args_of t) [])

  -- a group of a submitted view is read for
  pub record IsReadFor (history : List Entry) (id : TxnId) (proc group : ℕ) (args : List ℤ) (n : ℕ) : Type 0 where
    pub submitted : WasSubmitted history id
    pub view : is_view_id id ≡ true
    pub procedure : proc ≡ proc_of id
    pub arguments : args ≡ args_of id
    pub there : group < length (groups_of plan (proc_of id))
    pub here : read_place id group ≡ n

  -- and what was read is told
  pub record IsOkFor (history : List Entry) (id : TxnId) (group : ℕ) (shard : Shard) : Type 0 where
    pub submitted : WasSubmitted history id
    pub view : is_view_id id ≡ true
    pub there : group < length (groups_of plan (proc_of id))
    pub here : read_place id group ≡ shard.0

  abbrev pub MessageIsFor : List Entry → Msg → Node → Type 0
  MessageIsFor history (Read id round proc group args) to = (n : ℕ) × (to ≡ Server (record { 0 = n })) × IsReadFor history id proc group args n
  MessageIsFor history (ReadOk id round group shard vs outs) to = IsOkFor history id group shard × (to ≡ Coord id.coord)
  MessageIsFor history msg to = Unit {0}

  -- messages and kept reads are for submitted views
  pub record AreFor (w : World) : Type 0 where
    pub messages : (m : Envelope) → Has m w.sent → MessageIsFor w.history m.msg m.to
    pub kept : (n : ℕ) (v : Viewing) → slice_get w.viewing n ≡ Some v → (q : KeptRead) → Has q v.reads → IsReadFor w.history q.id q.proc q.group q.args n

  -- ---- rounds

  module _ (asked : TxnId → whole.Call) (S : Scheme) (start : protocol.Beginning) (before : ℕ → Counts) where
    abbrev pub Reading : Log → TxnId → ℕ → List ℕ → List ℤ → Type 0
    Reading log id group vs outs = IsReading plan asked S start before log (proc_of id) group (args_of id) vs outs

    -- it was read between two logs
    pub record IsReadBetween (from to : Log) (id : TxnId) (group : ℕ) (vs : List ℕ) (outs : List ℤ) : Type 0 where
      pub log : Log
      pub since : LogSteps S start.store from log
      pub until : LogSteps S start.store log to
      pub reading : Reading log id group vs outs

    -- or before one
    pub record IsReadUntil (to : Log) (id : TxnId) (group : ℕ) (vs : List ℕ) (outs : List ℤ) : Type 0 where
      pub log : Log
      pub until : LogSteps S start.store log to
      pub reading : Reading log id group vs outs

    -- no message or kept read of the view is of a later round, and what was told of this one was read since it began
    pub record IsOfRounds (w : World) (since log : Log) (id : TxnId) (round : ℕ) : Type 0 where
      pub reads : (m : Envelope) → Has m w.sent → (r proc group : ℕ) (args : List ℤ) → m.msg ≡ Read id r proc group args → r ≤ round
      pub kept : (n : ℕ) (v : Viewing) → slice_get w.viewing n ≡ Some v → (q : KeptRead) → Has q v.reads → q.id ≡ id → q.round ≤ round
      pub oks : (m : Envelope) → Has m w.sent → (r group : ℕ) (shard : Shard) (vs : List ℕ) (outs : List ℤ) → m.msg ≡ ReadOk id r group shard vs outs
          → (r ≤ round) × (r ≡ round → IsReadBetween since log id group vs outs)

    -- what a coordinator keeps of a view
    pub record IsViewKept (w : World) (log : Log) (v : View) : Type 0 where
      pub since : Log
      pub reached : LogInvariants S start.store since
      pub grows : LogSteps S start.store since log
      pub last_look : IsLastLook w.looks v.id (length since.order)
      pub submitted : WasSubmitted w.history v.id
      pub unanswered : (reply : List ℤ) → ¬ Has (Answered v.id reply) w.history
      pub view : is_view_id v.id ≡ true
      pub procedure : v.proc ≡ proc_of v.id
      pub arguments : v.args ≡ args_of v.id
      pub rounds : IsOfRounds w since log v.id v.round
      pub got : (ok : TakenRead) → Has ok v.got → IsReadBetween since log v.id ok.group ok.versions ok.outs
      pub last : (ok : TakenRead) → Has ok v.last → IsReadUntil since v.id ok.group ok.versions ok.outs

    -- the reply of a view where it runs behind these transactions
    abbrev pub reply_behind : List TxnId → TxnId → List ℤ
    reply_behind order id =
        flat_map (λ g. (group_run plan (call (proc_of id) g (args_of id) []) (stage_behind S.behaviour start.store (one_by_one S.behaviour order)).store).reply) (range_with_len 0 (length (groups_of plan (proc_of id))))

    -- an answered view read behind so many transactions as its last look says
    pub record IsViewAnswered (w : World) (id : TxnId) (reply : List ℤ) : Type 0 where
      pub behind : ℕ
      pub last_look : IsLastLook w.looks id behind
      pub few : behind ≤ length w.order
      pub is : reply ≡ reply_behind (take behind w.order) id

    pub record ViewsMean (w : World) (log : Log) : Type 0 where
      pub versions : (n : ℕ) (v : Viewing) → slice_get w.viewing n ≡ Some v → AreVersions plan asked S start before log n v.versions
      pub are_for : AreFor w
      pub views : (n : ℕ) (c : CoordState) → slice_get w.coords n ≡ Some c → (v : View) → Has v c.views → IsViewKept w log v
      pub answered : (id : TxnId) (reply : List ℤ) → is_view_id id ≡ true → Has (Answered id reply) w.history → IsViewAnswered w id reply
      -- what was submitted was given by its coordinator
      pub given : (t : TxnId) → WasSubmitted w.history t → (c : CoordState) × (slice_get w.coords t.coord ≡ Some c) × (c.number ≡ t.coord) × (t.seq < c.next)
      pub numbers : (n : ℕ) (c : CoordState) → slice_get w.coords n ≡ Some c → c.number ≡ n
      -- who was answered was submitted
      pub told : (t : TxnId) (reply : List ℤ) → Has (Answered t reply) w.history → WasSubmitted w.history t
      -- a coordinator keeps its own views, each once
      pub own : (n : ℕ) (c : CoordState) → slice_get w.coords n ≡ Some c → (v : View) → Has v c.views → v.id.coord ≡ n
      pub one : (n : ℕ) (c : CoordState) → slice_get w.coords n ≡ Some c → (v x : View) → Has v c.views → Has x c.views → v.id ≡ x.id → v ≡ x
