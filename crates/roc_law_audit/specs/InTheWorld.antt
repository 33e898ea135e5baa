-- What the folds of all logs of one run tell of the run's world: docs/PROTOCOL.md, "Auditing"
use Rattle.std.specs.Prelude.{◌≡◌, ◌↔◌, ℕ, ℤ, ◌==◌, false, List, [], ◌∷◌, Some, slice_get, if◌then◌else◌}
use Rattle.std.specs.List.{flat_map}
use Rattle.roc_sequence.specs.Lists.{Has}
use Rattle.roc_sequence.specs.Places.{IsListed}
use Rattle.roc_base.specs.declared.id.TxnId.{TxnId}
use Rattle.roc_base.specs.TxnId.{is_txn}
use Rattle.roc_depgraph.specs.Deps.{IsDecided}
use Rattle.roc_msg.specs.declared.outbox.Ran.{Ran}
use Rattle.roc_plan.specs.Groups.{Plan, is_immediate_of, is_view_of}
use Rattle.roc_step.specs.State.{ServerState}
use Rattle.roc_step.specs.declared.started.StartedGroup.{StartedGroup}
use Rattle.roc_step.specs.Runs.{accesses_of}
use Rattle.roc_audit.specs.declared.entry.Entry.{Entry}
use Rattle.roc_audit.specs.declared.entry.Entry.TheVariants.{Submitted}
use Rattle.roc_audit.specs.History.{IsAnsweredBefore}
use Rattle.roc_law_protocol.specs.Happens.{RanAt}
use Rattle.roc_law_world.specs.Run.{Stepped}
use Rattle.roc_judge.specs.declared.folded.Folded.{Folded}
use Rattle.roc_judge.specs.Before as before

-- the groups that ran on a shard, in the order in which they did
abbrev pub ran_on : ℕ → List RanAt → List StartedGroup
ran_on shard [] = []
ran_on shard (r ∷ rs) = if r.shard == shard then r.group ∷ ran_on shard rs else ran_on shard rs

-- one of these servers keeps a group that is yet to run: it is deferrable, and its transaction is not decided there
pub record StillWaits (plan : Plan) (servers : List ServerState) (shard : ℕ) (e : StartedGroup) : Type 0 where
  pub server : ServerState
  pub there : slice_get servers shard ≡ Some server
  pub here : Has e server.started
  pub deferrable : is_immediate_of plan e.proc e.group ≡ false
  pub undecided : ¬ IsDecided server.lists.links e.id

-- a fold tells what ran on a shard, and what is yet to run there: nothing, where it is a coordinator's, of no shard
pub record TellsShard (plan : Plan) (ran : List RanAt) (servers : List ServerState) (history : List Entry) (shard : ℕ) (f : Folded) : Type 0 where
  pub ran_there : f.ran ≡ accesses_of (ran_on shard ran)
  pub waits : (e : StartedGroup) → StillWaits plan servers shard e → (b : Ran) → Has b (accesses_of (e ∷ [])) → Has b f.waits
  pub waits_only : (b : Ran) → Has b f.waits → (e : StartedGroup) × StillWaits plan servers shard e × Has b (accesses_of (e ∷ []))
  -- and of submissions and answers what the history tells, in the history's order
  pub in_time : (t u : TxnId) → IsAnsweredBefore f.told t u → IsAnsweredBefore history t u

-- the folds are those of all nodes of a run in which these groups ran, which has come to these servers, this history and this serial order
pub record AreOfRun (plan : Plan) (ran : List RanAt) (servers : List ServerState) (history : List Entry) (order : List TxnId) (folds : List Folded) : Type 0 where
  -- what servers decided is the serial order's
  pub decided : (t : TxnId) → IsListed is_txn (before.candidates folds) t ↔ IsListed is_txn order t
  -- what the history tells, the logs tell
  pub told : (e : Entry) → Has e history ↔ Has e (before.told folds)
  pub each : (f : Folded) → Has f folds → (shard : ℕ) × TellsShard plan ran servers history shard f
  -- each shard on which something ran has a log
  pub logged : (q : RanAt) → Has q ran → (f : Folded) × Has f folds × TellsShard plan ran servers history q.shard f

-- all groups that ran in a run of the world with views
abbrev pub all_ran : List Stepped → List RanAt
all_ran steps = flat_map (λ s. s.outcome.ran) steps

-- no view was submitted
abbrev pub SubmitsNoView : Plan → List Entry → Type 0
SubmitsNoView plan history = (t : TxnId) (proc : ℕ) (args : List ℤ) → Has (Submitted t proc args) history → is_view_of plan proc ≡ false
