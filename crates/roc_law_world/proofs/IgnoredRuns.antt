-- Where a server ignores a message nothing runs
use Rattle.std.proofs.Common.{◌≡◌, refl, ℕ, ◌&&◌, Bool, true, false, not, List, [], ◌∷◌, Option, Some, None, sym}
use Rattle.std.specs.Prelude.{if◌then◌else◌}
use Rattle.roc_base.specs.declared.id.TxnId.{TxnId}
use Rattle.roc_base.specs.declared.node.Shard.{Shard}
use Rattle.roc_base.specs.Edge.{Dependency}
use Rattle.roc_depgraph.specs.declared.known.KnownList.{KnownList}
use Rattle.roc_depgraph.specs.Deps.{list_of}
use Rattle.roc_step.specs.Waits.{was_asked_for}
use Rattle.roc_msg.specs.declared.msg.Msg.{Msg}
use Rattle.roc_msg.specs.declared.msg.Msg.TheVariants.{Start, Commit, Fetch, Known, Settled, Read}
use Rattle.roc_msg.specs.declared.reason.Reason.TheVariants.{NotHere}
use Rattle.roc_plan.specs.Groups.{Plan}
use Rattle.roc_group.specs.GroupRun.{GroupCall, call}
use Rattle.roc_step.specs.declared.started.StartedGroup.{StartedGroup}
use Rattle.roc_step.specs.State.{refused, ignored, answered, hearing, is_here, find_group, ServerState, ServerStep}
use Rattle.roc_step.specs.declared.handled.Handled.{Handled}
use Rattle.roc_step.specs.declared.handled.Handled.TheVariants.{Gone}
use Rattle.roc_step.specs.Below.{is_ended}
use Rattle.roc_step.specs.Forgets.{forgetting}
use Rattle.roc_step.specs.Start.{start_refusal, start_taken, start_judged}
use Rattle.roc_step.specs.Lists.{decides, commit_refusal, after_commit, fetch_taken, settled_to, after_fetch, known_refusal, after_known, lists_settled, after_settled}
use Rattle.std.proofs.lemmas.Bool.{false≢true}
use Rattle.roc_step.specs.Reads.{is_taken, read_refusal, read_judged}
use Rattle.roc_step.specs.Step.{Findings, after_message}

-- where a message is ignored, nothing runs
abbrev RunsNone : ServerStep → Type 0
RunsNone r = is_taken r.answer ≡ false → r.ran ≡ []

module _ (plan : Plan) (s : ServerState) where
  start_runs : (f : Findings) (id : TxnId) (c : GroupCall) → (x : Option Handled) → RunsNone (start_judged plan f.before f.reached s id c x)
  start_runs f id c (Some answer) k = refl
  start_runs f id c None k = taken (find_group id c.group s.started) k
    where
      taken : (x : Option StartedGroup) → RunsNone (start_taken plan f.before f.reached s id c x)
      taken (Some e) k = refl
      taken None k = absurd (false≢true (sym k))

  commit_runs : (before : List TxnId) (components : List (List TxnId)) (id : TxnId) (edges : List Dependency) (facts : List KnownList) → (x : Option Handled) → RunsNone (after_commit plan before components s id edges facts x)
  commit_runs before components id edges facts (Some answer) k = refl
  commit_runs before components id edges facts None k = absurd (false≢true (sym k))

  fetch_runs : (id : TxnId) (asker : Shard) → RunsNone (after_fetch s id asker)
  fetch_runs id asker k = ended (not (is_here id s.started) && is_ended s.below id)
    where
      taken : (x : Option (List Dependency)) → (fetch_taken s id asker x).ran ≡ []
      taken (Some edges) = refl
      taken None = refl

      here : (b : Bool) → (if b then fetch_taken s id asker (list_of id s.lists.known) else ignored s NotHere).ran ≡ []
      here true = taken (list_of id s.lists.known)
      here false = refl

      ended : (b : Bool) → (if b then answered s (settled_to s id asker ∷ []) else (if is_here id s.started then fetch_taken s id asker (list_of id s.lists.known) else ignored s NotHere)).ran ≡ []
      ended true = refl
      ended false = here (is_here id s.started)

  known_runs : (components : List (List TxnId)) (id : TxnId) (edges : List Dependency) → (x : Option Handled) → RunsNone (after_known plan components s id edges x)
  known_runs components id edges (Some answer) k = refl
  known_runs components id edges None k = absurd (false≢true (sym k))

  settled_runs : (components : List (List TxnId)) (id : TxnId) (mark : ℕ) → RunsNone (after_settled plan components s id mark)
  settled_runs components id mark k = go (was_asked_for id s.lists.waiting.asked) k
    where
      v : ServerState
      v = hearing s id.coord mark

      go : (b : Bool) → RunsNone (forgetting (if b then decides plan (hearing s id.coord mark) (lists_settled s id mark components) components [] [] else refused (hearing s id.coord mark) Gone))
      go true k = absurd (false≢true (sym k))
      go false k = refl

  read_runs : (x : Option Handled) → (read_judged s x).ran ≡ []
  read_runs (Some answer) = refl
  read_runs None = refl

  pub ignored_runs : (f : Findings) (msg : Msg) → RunsNone (after_message plan s f msg)
  ignored_runs f (Start id proc group args inputs) k = start_runs f id (call proc group args inputs) (start_refusal plan s id (call proc group args inputs)) k
  ignored_runs f (Commit id edges facts) k = commit_runs f.before f.components id edges facts (commit_refusal s id edges facts) k
  ignored_runs f (Fetch id asker) k = fetch_runs id asker k
  ignored_runs f (Known id edges) k = known_runs f.components id edges (known_refusal s id edges) k
  ignored_runs f (Settled id mark) k = settled_runs f.components id mark k
  ignored_runs f (Read id round proc group args) k = read_runs (read_refusal plan s (record { id = id; round = round; proc = proc; group = group; args = args }))
  ignored_runs f msg k = refl
