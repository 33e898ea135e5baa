-- Lists are taught
use Rattle.std.specs.Prelude.{◌++◌, ◌∷◌, [], List, Option, Some, None, filter, map}
use Rattle.roc_base.specs.declared.id.TxnId.{TxnId}
use Rattle.roc_base.specs.declared.node.Shard.{Shard}
use Rattle.roc_base.specs.Edge.{Dependency}
use Rattle.roc_step.specs.declared.waits.OpenFetch.{OpenFetch}
use Rattle.roc_depgraph.specs.declared.known.KnownList.{KnownList}
use Rattle.roc_depgraph.specs.Deps.{IsDecided}
use Rattle.roc_msg.specs.declared.msg.Msg.TheVariants.{Commit, Known}
use Rattle.roc_msg.specs.declared.outbox.Outgoing.{Outgoing}
use Rattle.roc_msg.specs.Outbox.{Collected}
use Rattle.roc_plan.specs.Groups.{Plan}
use Rattle.roc_step.specs.declared.handled.Handled.{Handled}
use Rattle.roc_step.specs.declared.started.StartedGroup.{StartedGroup}
use Rattle.roc_step.specs.Forgets.{forgetting}
use Rattle.roc_step.specs.Runs.{commitok}
use Rattle.roc_step.specs.New.{AreNewTaken}
use Rattle.roc_step.specs.Asking.{fetch_from}
use Rattle.roc_step.specs.Lists.{links_of, taught, commit_refusal, after_commit, known_refusal, after_known}
use Rattle.roc_step.specs.State.{is_here, ServerState, ServerStep}
use Rattle.roc_step.specs.Step.{links_after}
use Rattle.roc_server.specs.Inner.Shown.{ShowsStep}

-- the commitok of one that was decided before
abbrev pub own_again : Plan → Shard → List StartedGroup → Option TxnId → List Outgoing
own_again plan shard started None = []
own_again plan shard started (Some id) = commitok plan shard started id ∷ []

-- what is told of transactions that are newly decided, of what is asked for, and of one that was decided before
abbrev pub newly_told : Plan → Shard → List StartedGroup → (again : Option TxnId) → (ids : List TxnId) → List OpenFetch → List Outgoing
newly_told plan shard started again ids asks =
    (map (commitok plan shard started) (filter (λ t. is_here t started) ids) ++ map (fetch_from shard) asks) ++ own_again plan shard started again

-- a step that ends with the commitok of one that was decided before
abbrev pub with_own : Plan → (again : Option TxnId) → ServerStep → ServerStep
with_own plan again r = record r { sends = r.sends ++ own_again plan r.state.shard r.state.started again }

-- new lists are taught, with all that comes of it
pub record Teaches (plan : Plan) (s state : ServerState) (before after : Collected) (news : List KnownList) (again : Option TxnId) (answer : Handled) : Type 0 where
  pub components : List (List TxnId)
  pub are_new : AreNewTaken (IsDecided s.lists.links) (s.lists.links ++ links_of s news) components
  pub shown : ShowsStep (forgetting (with_own plan again (taught plan s news components))) answer state before after

-- a commit was taken, or refused
pub record Commits (plan : Plan) (decided : List TxnId) (s state : ServerState) (before after : Collected) (id : TxnId) (edges : List Dependency) (facts : List KnownList) (answer : Handled) : Type 0 where
  pub components : List (List TxnId)
  pub are_new : AreNewTaken (IsDecided s.lists.links) (links_after s (Commit id edges facts)) components
  pub shown : ShowsStep (after_commit plan decided components s id edges facts (commit_refusal s id edges facts)) answer state before after

-- a list that was asked for was taken, or refused
pub record Knows (plan : Plan) (s state : ServerState) (before after : Collected) (id : TxnId) (edges : List Dependency) (answer : Handled) : Type 0 where
  pub components : List (List TxnId)
  pub are_new : AreNewTaken (IsDecided s.lists.links) (links_after s (Known id edges)) components
  pub shown : ShowsStep (after_known plan components s id edges (known_refusal s id edges)) answer state before after
