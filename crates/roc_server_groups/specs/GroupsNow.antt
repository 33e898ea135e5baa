-- The groups of a server, as they are kept and behind a step that is tried
use Rattle.std.specs.Prelude.{◌≡◌, ◌&&◌, ◌||◌, ◌++◌, false, not, List, [], None, filter}
use Rattle.roc_sequence.specs.Lists.{Has}
use Rattle.roc_sequence.specs.Places.{is_listed, IsListed, NoneTwice}
use Rattle.roc_base.specs.declared.id.TxnId.{TxnId}
use Rattle.roc_base.specs.TxnId.{is_txn}
use Rattle.roc_msg.specs.Outbox.{Collected}
use Rattle.roc_plan.specs.Groups.{Plan}
use Rattle.roc_rows.specs.declared.cell.Cell.{Cell}
use Rattle.roc_rows.specs.Store.{Store}
use Rattle.roc_server_index.specs.GroupRefs.{CellRefs}
use Rattle.roc_step.specs.declared.started.StartedGroup.{StartedGroup}
use Rattle.roc_step.specs.Runs.{accesses_of, all_buffered, take_all}
use Rattle.roc_step.specs.State.{find_group, ServerState}
use Rattle.roc_server_groups.specs.Groups.{holding, is_same_group, AreSameGroups}

-- the groups before the step that is tried, or as they are where none is; the same with what those that ran in it gave; the group that starts in it, where one
-- does; and at each cell the references of the undecided groups before it
pub record GroupsNow : Type 0 where
  pub kept : List StartedGroup
  pub ran : List StartedGroup
  pub starting : List StartedGroup
  pub index : List (Cell × CellRefs)

-- nothing is tried
pub record IsUntried (g : GroupsNow) : Type 0 where
  pub ran : g.ran ≡ g.kept
  pub starting : g.starting ≡ []

-- each group of a transaction is there once, those that ran are the same ones, and the one that starts is not among them
pub record AreOnce (g : GroupsNow) : Type 0 where
  pub once : NoneTwice is_same_group g.kept
  pub same : AreSameGroups g.kept g.ran
  pub absent : (e : StartedGroup) → Has e g.starting → find_group e.id e.group g.kept ≡ None

-- the groups of other transactions than these
abbrev pub groups_without : (over : List TxnId) → List StartedGroup → List StartedGroup
groups_without over es = filter (λ e. not (is_listed is_txn over e.id)) es

-- the groups behind the step, which forgets those of these transactions
abbrev pub groups_behind : (over : List TxnId) → GroupsNow → List StartedGroup
groups_behind over g = groups_without over (g.ran ++ g.starting)

-- of these groups no transaction is decided
abbrev pub AreUndecided : (decided : List TxnId) → List StartedGroup → Type 0
AreUndecided decided es = (e : StartedGroup) → Has e es → is_listed is_txn decided e.id ≡ false

-- what is decided behind a step: what was before it and what it newly decides, less what it forgets, all of which is decided then
pub record AreDecidedBehind (before newly over after : List TxnId) : Type 0 where
  pub is : (t : TxnId) → is_listed is_txn after t ≡ ((is_listed is_txn before t || is_listed is_txn newly t) && not (is_listed is_txn over t))
  pub gone : (t : TxnId) → IsListed is_txn over t → IsListed is_txn (before ++ newly) t

-- these are decided, and what was buffered of them ran
pub record RunsDecided (plan : Plan) (old new : List StartedGroup) (store after : Store) (sends more : Collected) (ids : List TxnId) : Type 0 where
  pub runs : (s : ServerState) → take_all plan (holding s store old) ids ≡ holding s after new
  pub groups : AreSameGroups old new
  pub messages : more.messages ≡ sends.messages
  pub told : more.decided ≡ sends.decided ++ ids
  pub ran : more.ran ≡ sends.ran ++ accesses_of (all_buffered plan old ids)
