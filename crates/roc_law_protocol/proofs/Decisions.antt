-- What a server's step decides is what it takes, one component after another
use Rattle.std.proofs.Common.{◌≡◌, ℕ, ◌&&◌, Bool, true, false, not, List, [], ◌∷◌, Option, Some, None, refl, sym, subst}
use Rattle.std.specs.Prelude.{flat_map, if◌then◌else◌}
use Rattle.roc_base.specs.declared.id.TxnId.{TxnId}
use Rattle.roc_base.specs.declared.node.Shard.{Shard}
use Rattle.roc_base.specs.Edge.{Dependency}
use Rattle.roc_depgraph.specs.declared.known.KnownList.{KnownList}
use Rattle.roc_depgraph.specs.Deps.{list_of}
use Rattle.roc_step.specs.Waits.{was_asked_for}
use Rattle.roc_msg.specs.declared.msg.Msg.{Msg}
use Rattle.roc_msg.specs.declared.msg.Msg.TheVariants.{Start, Commit, Fetch, Known, Settled, Read}
use Rattle.roc_msg.specs.declared.reason.Reason.TheVariants.{NotHere}
use Rattle.roc_plan.specs.Groups.{Plan}
use Rattle.roc_group.specs.GroupRun.{GroupCall, call}
use Rattle.roc_step.specs.declared.handled.Handled.{Handled}
use Rattle.roc_step.specs.declared.handled.Handled.TheVariants.{Gone}
use Rattle.roc_step.specs.declared.started.StartedGroup.{StartedGroup}
use Rattle.roc_step.specs.Below.{is_ended}
use Rattle.roc_step.specs.Forgets.{forgetting}
use Rattle.roc_step.specs.State.{refused, ignored, answered, hearing, is_here, find_group, ServerState, ServerStep}
use Rattle.roc_step.specs.Start.{start_refusal, start_taken, start_judged}
use Rattle.roc_step.specs.Lists.{commit_refusal, after_commit, fetch_taken, settled_to, after_fetch, known_refusal, after_known, decides, lists_settled, after_settled}
use Rattle.roc_step.specs.Step.{Findings, Handles, after_message}
use Rattle.roc_law_protocol.proofs.ReadsHere.{for_read}

abbrev AreOne : ServerStep → Type 0
AreOne r = r.decided ≡ flat_map (λ c. c) r.components

module _ (plan : Plan) (s : ServerState) where
  start_one : (f : Findings) (id : TxnId) (c : GroupCall) (x : Option Handled) → AreOne (start_judged plan f.before f.reached s id c x)
  start_one f id c (Some answer) = refl
  start_one f id c None = go (find_group id c.group s.started)
    where
      go : (x : Option StartedGroup) → AreOne (start_taken plan f.before f.reached s id c x)
      go (Some e) = refl
      go None = refl

  commit_one : (before : List TxnId) (components : List (List TxnId)) (id : TxnId) (edges : List Dependency) (facts : List KnownList) (x : Option Handled) → AreOne (after_commit plan before components s id edges facts x)
  commit_one before components id edges facts (Some answer) = refl
  commit_one before components id edges facts None = refl

  fetch_one : (id : TxnId) (asker : Shard) → AreOne (after_fetch s id asker)
  fetch_one id asker = ended (not (is_here id s.started) && is_ended s.below id)
    where
      taken : (x : Option (List Dependency)) → AreOne (fetch_taken s id asker x)
      taken (Some edges) = refl
      taken None = refl

      here : (b : Bool) → AreOne (if b then fetch_taken s id asker (list_of id s.lists.known) else ignored s NotHere)
      here true = taken (list_of id s.lists.known)
      here false = refl

      ended : (b : Bool) → AreOne (if b then answered s (settled_to s id asker ∷ []) else (if is_here id s.started then fetch_taken s id asker (list_of id s.lists.known) else ignored s NotHere))
      ended true = refl
      ended false = here (is_here id s.started)

  known_one : (components : List (List TxnId)) (id : TxnId) (edges : List Dependency) (x : Option Handled) → AreOne (after_known plan components s id edges x)
  known_one components id edges (Some answer) = refl
  known_one components id edges None = refl

  settled_one : (components : List (List TxnId)) (id : TxnId) (mark : ℕ) → AreOne (after_settled plan components s id mark)
  settled_one components id mark = go (was_asked_for id s.lists.waiting.asked)
    where
      go : (b : Bool) → AreOne (forgetting (if b then decides plan (hearing s id.coord mark) (lists_settled s id mark components) components [] [] else refused (hearing s id.coord mark) Gone))
      go true = refl
      go false = refl

  message_one : (f : Findings) (msg : Msg) → AreOne (after_message plan s f msg)
  message_one f (Start id proc group args inputs) = start_one f id (call proc group args inputs) (start_refusal plan s id (call proc group args inputs))
  message_one f (Commit id edges facts) = commit_one f.before f.components id edges facts (commit_refusal s id edges facts)
  message_one f (Fetch id asker) = fetch_one id asker
  message_one f (Known id edges) = known_one f.components id edges (known_refusal s id edges)
  message_one f (Settled id mark) = settled_one f.components id mark
  message_one f (Read id round proc group args) = for_read plan s (record { id = id; round = round; proc = proc; group = group; args = args }) AreOne (λ a. refl)
  message_one f msg = refl

  pub decided_are : (msg : Msg) (r : ServerStep) → Handles plan s msg r → r.decided ≡ flat_map (λ c. c) r.components
  decided_are msg r h = subst AreOne (sym h.is) (message_one h.findings msg)
