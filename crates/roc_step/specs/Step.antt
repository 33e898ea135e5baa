-- What comes of a message at a server: docs/PROTOCOL.md, "Server"
use Rattle.std.specs.Prelude.{◌≡◌, ◌&&◌, List, [], ◌∷◌, ◌++◌, map, Option, Some, None, is_none, if◌then◌else◌}
use Rattle.roc_base.specs.declared.id.TxnId.{TxnId}
use Rattle.roc_base.specs.Edge.{Dependency}
use Rattle.roc_depgraph.specs.declared.known.KnownList.{KnownList}
use Rattle.roc_depgraph.specs.Deps.{IsDecided}
use Rattle.roc_step.specs.Waits.{was_asked_for}
use Rattle.roc_msg.specs.declared.msg.Msg.{Msg}
use Rattle.roc_msg.specs.declared.msg.Msg.TheVariants.{Start, Commit, Fetch, Known, Ended, Settled, Read}
use Rattle.roc_msg.specs.Outbox.{Collected}
use Rattle.roc_msg.specs.declared.outbox.Outgoing.{Outgoing}
use Rattle.roc_msg.specs.declared.reason.Reason.TheVariants.{Foreign}
use Rattle.roc_plan.specs.Groups.{Plan}
use Rattle.roc_group.specs.GroupRun.{GroupCall}
use Rattle.roc_step.specs.declared.handled.Handled.{Handled}
use Rattle.roc_step.specs.New.{AreNewTaken, AreDecided, AreLedTo}
use Rattle.roc_step.specs.Carried.{list_with, carried, unknown_of}
use Rattle.roc_step.specs.Links.{without_links}
use Rattle.roc_step.specs.Start.{start_refusal, edges_for, after_start}
use Rattle.roc_step.specs.Lists.{links_of, commit_refusal, after_commit, after_fetch, known_refusal, after_known, after_ended, is_settled, after_settled, fetched_again}
use Rattle.roc_step.specs.Runs.{accesses_of}
use Rattle.roc_step.specs.Reads.{after_read, ReadStep}
use Rattle.roc_step.specs.State.{ignored, find_group, ServerState, ServerStep, Viewing}

-- ---- what a step finds in the lists

-- what was decided before the message, by id rising; what the entries of a group that starts lead to; and the components that the message
-- newly decides, as they are taken
pub record Findings : Type 0 where
  pub before : List TxnId
  pub reached : List TxnId
  pub components : List (List TxnId)

-- the entries of the group that a message starts: none where it is not taken, or the group is here
abbrev pub edges_of_new : Plan → (left_out : List TxnId) → ServerState → TxnId → GroupCall → List Dependency
edges_of_new plan left_out s id c = if is_none (start_refusal plan s id c) && is_none (find_group id c.group s.started) then edges_for plan left_out s id c else []

abbrev pub edges_told : Plan → (left_out : List TxnId) → ServerState → Msg → List Dependency
edges_told plan left_out s (Start id proc group args inputs) = edges_of_new plan left_out s id (record { proc = proc; group = group; args = args; inputs = inputs })
edges_told plan left_out s msg = []

-- the lists that a message teaches: none where it is not taken
abbrev pub unless_refused : Option Handled → List KnownList → List KnownList
unless_refused (Some answer) lists = []
unless_refused None lists = lists

abbrev pub lists_taught : ServerState → Msg → List KnownList
lists_taught s (Commit id edges facts) = unless_refused (commit_refusal s id edges facts) (unknown_of s.lists.known (carried id edges facts))
lists_taught s (Known id edges) = unless_refused (known_refusal s id edges) (unknown_of s.lists.known (list_with id edges ∷ []))
lists_taught s msg = []

-- what is followed behind a message, before anything is forgotten
abbrev pub links_after : ServerState → Msg → List KnownList
links_after s (Settled id mark) = if was_asked_for id s.lists.waiting.asked then map (without_links (is_settled s id mark)) s.lists.links else s.lists.links
links_after s msg = s.lists.links ++ links_of s (lists_taught s msg)

-- these are the findings: there is exactly one of them
pub record AreFindings (plan : Plan) (s : ServerState) (msg : Msg) (f : Findings) : Type 0 where
  pub before : AreDecided s.lists.links f.before
  pub reached : AreLedTo s.lists.links (edges_told plan f.before s msg) f.reached
  pub components : AreNewTaken (IsDecided s.lists.links) (links_after s msg) f.components

-- ---- the step

-- what comes of a message, with what was found. A group that starts leaves out exactly what is decided here. A kind that no server takes
-- is foreign
abbrev pub after_message : Plan → ServerState → Findings → Msg → ServerStep
after_message plan s f (Start id proc group args inputs) = after_start plan f.before f.reached s id (record { proc = proc; group = group; args = args; inputs = inputs })
after_message plan s f (Commit id edges facts) = after_commit plan f.before f.components s id edges facts (commit_refusal s id edges facts)
after_message plan s f (Fetch id asker) = after_fetch s id asker
after_message plan s f (Known id edges) = after_known plan f.components s id edges (known_refusal s id edges)
after_message plan s f (Ended coord mark) = after_ended s coord mark
after_message plan s f (Settled id mark) = after_settled plan f.components s id mark
after_message plan s f (Read id round proc group args) = after_read plan s (record { id = id; round = round; proc = proc; group = group; args = args })
after_message plan s f msg = ignored s Foreign

-- r is what comes of a message
pub record Handles (plan : Plan) (s : ServerState) (msg : Msg) (r : ServerStep) : Type 0 where
  pub findings : Findings
  pub found : AreFindings plan s msg findings
  pub is : r ≡ after_message plan s findings msg

-- r, with what comes of it for reads, is what was answered, what is kept, and what was added to an outbox
pub record Shows (r : ServerStep) (q : ReadStep) (answer : Handled) (state : ServerState) (viewing : Viewing) (old new : Collected) : Type 0 where
  pub answers : r.answer ≡ answer
  pub keeps : r.state ≡ state
  pub views : q.viewing ≡ viewing
  pub sends : new.messages ≡ old.messages ++ (r.sends ++ q.sends)
  pub decides : new.decided ≡ old.decided ++ r.decided
  pub ran : new.ran ≡ old.ran ++ accesses_of r.ran

-- ---- a tick changes nothing; what it sends
abbrev pub tick_sends : ServerState → List Outgoing
tick_sends s = fetched_again s
