-- What a server keeps, and what comes of a message: docs/PROTOCOL.md, "Server"
use Rattle.std.specs.Prelude.{ℕ, Bool, ◌&&◌, ◌==◌, List, [], ◌∷◌, Option, Some, None, find, if◌then◌else◌}
use Rattle.std.specs.List.{list_any}
use Rattle.roc_base.specs.declared.id.TxnId.{TxnId}
use Rattle.roc_base.specs.declared.node.Shard.{Shard}
use Rattle.roc_base.specs.TxnId.{is_txn}
use Rattle.roc_depgraph.specs.declared.known.KnownList.{KnownList}
use Rattle.roc_step.specs.Waits.{Waiting}
use Rattle.roc_msg.specs.declared.outbox.Outgoing.{Outgoing}
use Rattle.roc_msg.specs.declared.reason.Reason.{Reason}
use Rattle.roc_rows.specs.Store.{Store}
use Rattle.roc_rows.specs.Versions.{Counts}
use Rattle.roc_step.specs.declared.handled.Handled.{Handled}
use Rattle.roc_step.specs.declared.handled.Handled.TheVariants.{Done, Ignored}
use Rattle.roc_step.specs.declared.kept_read.KeptRead.{KeptRead}
use Rattle.roc_step.specs.Below.{raised}
use Rattle.roc_step.specs.declared.started.StartedGroup.{StartedGroup}

pub record Lists : Type 0 where
  -- the dependency lists that a server knows, as it learnt them and in that order
  pub known : List KnownList
  -- what it follows of each of them: the same, less the entries that are done
  pub links : List KnownList
  -- what it asked for, and who asked it
  pub waiting : Waiting
  -- the components that it has taken and not forgotten, in the order in which it took them, each in its order inside
  pub taken : List (List TxnId)

pub record ServerState : Type 0 where
  pub shard : Shard
  pub store : Store
  -- the groups that started here, in the order in which they arrived
  pub started : List StartedGroup
  pub lists : Lists
  -- the watermarks of coordinators, by number
  pub below : List ℕ

-- what a server keeps for views, beside its state
pub record Viewing : Type 0 where
  -- how often each cell was written here
  pub versions : Counts
  -- the reads that wait, in the order in which they came
  pub reads : List KeptRead

-- what comes of a message: the answer, the state after it, what is sent, the components newly decided, as they were taken, and the
-- transactions in them, one after another, and the groups that ran, in the order in which they did
pub record ServerStep : Type 0 where
  pub answer : Handled
  pub state : ServerState
  pub sends : List Outgoing
  pub components : List (List TxnId)
  pub decided : List TxnId
  pub ran : List StartedGroup

-- a message of which nothing comes but its answer
abbrev pub refused : ServerState → Handled → ServerStep
refused s answer = record { answer = answer; state = s; sends = []; components = []; decided = []; ran = [] }

-- an ignored message changes nothing and sends nothing
abbrev pub ignored : ServerState → Reason → ServerStep
ignored s reason = refused s (Ignored reason)

-- a message that changes nothing, and what is sent
abbrev pub answered : ServerState → List Outgoing → ServerStep
answered s sends = record { answer = Done; state = s; sends = sends; components = []; decided = []; ran = [] }

-- the first answer whose condition holds
abbrev pub first_answer : List (Bool × Handled) → Option Handled
first_answer [] = None
first_answer (c ∷ cs) = if c.0 then Some c.1 else first_answer cs

-- the watermark of a coordinator is heard
abbrev pub hearing : ServerState → (coord mark : ℕ) → ServerState
hearing s coord mark = record s { below = raised s.below coord mark }

-- this group of this transaction
abbrev pub is_group : TxnId → ℕ → StartedGroup → Bool
is_group id group e = is_txn e.id id && e.group == group

abbrev pub find_group : TxnId → ℕ → List StartedGroup → Option StartedGroup
find_group id group started = find (is_group id group) started

-- a group of the transaction started here
abbrev pub is_here : TxnId → List StartedGroup → Bool
is_here id started = list_any (λ e. is_txn e.id id) started

-- a group without what it gave
abbrev pub unrun : StartedGroup → StartedGroup
unrun e = record e { later = None }
