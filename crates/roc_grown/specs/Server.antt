-- A server that may go over to a grown workload, and what comes of a message there: docs/PROTOCOL.md, "Growth"
use Rattle.std.specs.Prelude.{◌≡◌, ◌≢◌, ℕ, Bool, true, false, nat_lt, List, [], ◌∷◌, ◌++◌, Option, Some, None, is_some, is_none, map, take, replicate, slice_set, slice_index_or, if◌then◌else◌}
use Rattle.std.specs.List.{list_all, filter_map}
use Rattle.roc_base.specs.declared.id.TxnId.{TxnId}
use Rattle.roc_base.specs.declared.node.Shard.{Shard}
use Rattle.roc_base.specs.declared.node.Node.TheVariants.{Coord}
use Rattle.roc_msg.specs.declared.msg.Msg.{Msg}
use Rattle.roc_msg.specs.declared.msg.Msg.TheVariants.{Drained, Switched}
use Rattle.roc_msg.specs.declared.outbox.Outgoing.{Outgoing}
use Rattle.roc_msg.specs.declared.reason.Reason.TheVariants.{Foreign}
use Rattle.roc_msg.specs.Outbox.{Collected}
use Rattle.roc_plan.specs.Groups.{Plan}
use Rattle.roc_epoch.specs.declared.file.File.{File}
use Rattle.roc_epoch.specs.declared.next.Next.{Next}
use Rattle.roc_epoch.specs.Files.{is_between, own_file, own_plan}
use Rattle.roc_step.specs.declared.handled.Handled.{Handled}
use Rattle.roc_step.specs.declared.handled.Handled.TheVariants as core
use Rattle.roc_step.specs.declared.started.StartedGroup.{StartedGroup}
use Rattle.roc_step.specs.First.{first_server}
use Rattle.roc_step.specs.Reads.{first_viewing, AnswersReads, ReadStep}
use Rattle.roc_step.specs.Renewed.{renewed, renewed_viewing}
use Rattle.roc_step.specs.Restarts.{without_reads}
use Rattle.roc_step.specs.Runs.{accesses_of}
use Rattle.roc_step.specs.State.{ServerState, ServerStep, Viewing}
use Rattle.roc_step.specs.Step as step
use Rattle.roc_grown.specs.declared.handled.GrownHandled.{GrownHandled}
use Rattle.roc_grown.specs.declared.handled.GrownHandled.TheVariants.{Done, Gone, Skipped, Ignored}

pub record GrownServerState : Type 0 where
  pub core : ServerState
  pub viewing : Viewing
  -- what each coordinator told first as drained, by number
  pub drained : List (Option TxnId)
  -- its own file is the second
  pub switched : Bool

-- of each of sixteen coordinators, as there are no more
abbrev pub none_drained : List (Option TxnId)
none_drained = replicate 16 None

-- before any message
abbrev pub first_grown_server : Plan → Shard → GrownServerState
first_grown_server plan shard = record { core = first_server plan shard; viewing = first_viewing; drained = none_drained; switched = false }

-- what comes of a message: the answer, the state after it, what is sent, the components newly decided, as they were taken, and the transactions in
-- them, one after another, and the groups that ran, in the order in which they did
pub record GrownStep : Type 0 where
  pub answer : GrownHandled
  pub state : GrownServerState
  pub sends : List Outgoing
  pub components : List (List TxnId)
  pub decided : List TxnId
  pub ran : List StartedGroup

-- a message of which nothing comes but its answer
abbrev pub unchanged : GrownServerState → GrownHandled → GrownStep
unchanged s answer = record { answer = answer; state = s; sends = []; components = []; decided = []; ran = [] }

abbrev pub foreign_at : GrownServerState → GrownStep
foreign_at s = unchanged s (Ignored Foreign)

-- one of another file
abbrev pub skip_at : GrownServerState → GrownStep
skip_at s = unchanged s Skipped

-- one that was taken, and of which nothing is decided
abbrev pub taken_at : GrownServerState → List Outgoing → GrownStep
taken_at s sends = record { answer = Done; state = s; sends = sends; components = []; decided = []; ran = [] }

-- ---- a drained

-- of two of a coordinator the first stands
abbrev pub with_drained : TxnId → List (Option TxnId) → List (Option TxnId)
with_drained upto drained = if is_none (slice_index_or drained upto.coord None) then slice_set drained upto.coord (Some upto) else drained

-- each of the first coordinators has told
abbrev pub have_all_drained : (coords : ℕ) → List (Option TxnId) → Bool
have_all_drained coords drained = list_all is_some (take coords drained)

abbrev pub switched_to : Shard → TxnId → Outgoing
switched_to shard upto = record { to = Coord upto.coord; msg = Switched upto shard }

-- each of the first coordinators is told, by number, what it had told
abbrev pub switched_sends : Shard → (coords : ℕ) → List (Option TxnId) → List Outgoing
switched_sends shard coords drained = map (switched_to shard) (filter_map (λ told. told) (take coords drained))

-- it goes over to the second file: it keeps cells, versions and watermarks
abbrev pub gone_over : GrownServerState → GrownServerState
gone_over s = record s { core = renewed s.core; viewing = renewed_viewing s.viewing; switched = true }

-- it goes over once all have told
abbrev pub over_if_all : Next → GrownServerState → GrownStep
over_if_all next s = if have_all_drained next.coords s.drained then taken_at (gone_over s) (switched_sends s.core.shard next.coords s.drained) else taken_at s []

-- what a coordinator tells is kept; one that has gone over tells it so again, and no other
abbrev pub told_drained : Next → GrownServerState → TxnId → GrownStep
told_drained next s upto = if s.switched then taken_at s (switched_to s.core.shard upto ∷ []) else over_if_all next (record s { drained = with_drained upto s.drained })

-- it is foreign where nothing comes next, or it is of none of the first coordinators
abbrev pub after_drained : Option Next → GrownServerState → TxnId → GrownStep
after_drained None s upto = foreign_at s
after_drained (Some next) s upto = if nat_lt upto.coord next.coords then told_drained next s upto else foreign_at s

-- ---- any message

abbrev pub handled_so : Handled → GrownHandled
handled_so core.Done = Done
handled_so core.Gone = Gone
handled_so (core.Ignored why) = Ignored why

-- what a server of its own file makes of it, with what comes of it for reads
abbrev pub of_core : GrownServerState → ServerStep → ReadStep → GrownStep
of_core s r q =
    record {
      answer = handled_so r.answer;
      state = record s { core = r.state; viewing = q.viewing };
      sends = r.sends ++ q.sends;
      components = r.components;
      decided = r.decided;
      ran = r.ran;
    }

-- g is what comes of a message of a file: a switched is foreign, one of another file than the server's own is skipped, and one of its own is handled
-- as by a server of it
pub data GrownHandles (plan : Plan) (next : Option Next) (s : GrownServerState) (file : File) : Msg → GrownStep → Type 0 where
  of_drained : (upto : TxnId) (g : GrownStep) → g ≡ after_drained next s upto → GrownHandles plan next s file (Drained upto) g
  of_switched : (upto : TxnId) (shard : Shard) (g : GrownStep) → g ≡ foreign_at s → GrownHandles plan next s file (Switched upto shard) g
  of_other : (msg : Msg) (g : GrownStep) → is_between msg ≡ false → file ≢ own_file s.switched → g ≡ skip_at s → GrownHandles plan next s file msg g
  of_own : (msg : Msg) (r : ServerStep) (q : ReadStep) (g : GrownStep) → is_between msg ≡ false → file ≡ own_file s.switched
      → step.Handles (own_plan plan next s.switched) s.core msg r → AnswersReads (own_plan plan next s.switched) s.viewing msg r q
      → g ≡ of_core s r q → GrownHandles plan next s file msg g

-- g is what was answered, what is kept, and what was added to an outbox
pub record ShowsGrown (g : GrownStep) (answer : GrownHandled) (state : GrownServerState) (old new : Collected) : Type 0 where
  pub answers : g.answer ≡ answer
  pub keeps : g.state ≡ state
  pub sends : new.messages ≡ old.messages ++ g.sends
  pub decides : new.decided ≡ old.decided ++ g.decided
  pub ran : new.ran ≡ old.ran ++ accesses_of g.ran

-- ---- a tick changes nothing; what it sends
abbrev pub grown_server_tick : GrownServerState → List Outgoing
grown_server_tick s = step.tick_sends s.core

-- ---- what is kept over a stop: all but the reads of views that wait
abbrev pub restarted : GrownServerState → GrownServerState
restarted s = record s { viewing = without_reads s.viewing }
