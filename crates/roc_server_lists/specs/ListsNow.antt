-- The lists of a server, as they are kept and behind a step that is tried
use Rattle.std.specs.Prelude.{◌≡◌, ◌&&◌, ◌++◌, not, false, ℕ, Bool, List, [], Option, Some, None, map}
use Rattle.std.specs.List.{AllByRecursion, flat_map}
use Rattle.std.specs.List.Sorted.{IsStrictlySortedBy}
use Rattle.roc_sequence.specs.Places.{IsListed}
use Rattle.roc_base.specs.declared.id.TxnId.{TxnId}
use Rattle.roc_base.specs.TxnId.{is_txn, txn_cmp}
use Rattle.roc_base.specs.Edge.{Dependency}
use Rattle.roc_depgraph.specs.declared.known.KnownList.{KnownList}
use Rattle.roc_depgraph.specs.Deps.{is_known}
use Rattle.roc_step.specs.declared.started.StartedGroup.{StartedGroup}
use Rattle.roc_step.specs.declared.waits.Asker.{Asker}
use Rattle.roc_step.specs.declared.waits.OpenFetch.{OpenFetch}
use Rattle.roc_step.specs.Below.{none_below}
use Rattle.roc_step.specs.Forgets.{forget}
use Rattle.roc_step.specs.Links.{all_entries, without_links}
use Rattle.roc_step.specs.Lists.{is_settled, links_of, lists_after, lists_settled, missing_after}
use Rattle.roc_step.specs.New.{AreDecided, AreNewTaken}
use Rattle.roc_step.specs.State.{hearing, is_here, Lists, ServerState}
use Rattle.roc_step.specs.Waits.{none_waiting, was_asked_for, with_asker}
use Rattle.roc_server_taken.specs.Components.{AreOver}
use Rattle.roc_server_groups.specs.GroupsNow.{groups_without, AreDecidedBehind}

-- ---- what is kept, and what is tried

-- the lists of a server's state, and its watermarks
pub record KeptLists : Type 0 where
  pub lists : Lists
  pub below : List ℕ

-- what a step leaves of them; what it newly decides, one component after another as they are taken; what it asks for; and what it forgets, by id rising
pub record TriedLists : Type 0 where
  pub kept : KeptLists
  pub newly : List TxnId
  pub asks : List OpenFetch
  pub over : List TxnId

-- the lists before the step that is tried, or as they are where none is; what is decided by them, by id rising; and the step, where one is tried
pub record ListsNow : Type 0 where
  pub kept : KeptLists
  pub decided : List TxnId
  pub tried : Option TriedLists

abbrev pub newly_of : Option TriedLists → List TxnId
newly_of None = []
newly_of (Some t) = t.newly

abbrev pub asks_of : Option TriedLists → List OpenFetch
asks_of None = []
asks_of (Some t) = t.asks

abbrev pub over_of : Option TriedLists → List TxnId
over_of None = []
over_of (Some t) = t.over

abbrev pub tried_or : Option TriedLists → KeptLists → KeptLists
tried_or None k = k
tried_or (Some t) k = t.kept

-- what the step leaves
abbrev pub lists_behind : ListsNow → KeptLists
lists_behind l = tried_or l.tried l.kept

-- what is so of them: lists are followed of exactly those that are known; what is decided before the step, and what is decided behind it, each by id rising;
-- and what is forgotten rises
pub record AreSound (l : ListsNow) : Type 0 where
  pub same_ids : map (λ k. k.of) l.kept.lists.links ≡ map (λ k. k.of) l.kept.lists.known
  pub decided : AreDecided l.kept.lists.links l.decided
  pub later : List TxnId
  pub are_later : AreDecided (lists_behind l).lists.links later
  pub behind : AreDecidedBehind l.decided (newly_of l.tried) (over_of l.tried) later
  pub over : IsStrictlySortedBy txn_cmp (over_of l.tried)

-- no lists, and no watermark
abbrev pub no_lists : Lists
no_lists = record { known = []; links = []; waiting = none_waiting; taken = [] }

abbrev pub none_kept : KeptLists
none_kept = record { lists = no_lists; below = none_below }

-- ---- what steps are tried

-- the lists and watermarks of a state
abbrev pub lists_of : ServerState → KeptLists
lists_of s = record { lists = s.lists; below = s.below }

-- new lists are taught
pub record IsTaught (s : ServerState) (decided : List TxnId) (news : List KnownList) (t : TriedLists) : Type 0 where
  pub components : List (List TxnId)
  pub chosen : AreNewTaken (IsListed is_txn decided) (s.lists.links ++ links_of s news) components
  pub kept : t.kept ≡ lists_of (forget (record s { lists = lists_after s news components }))
  pub newly : t.newly ≡ flat_map (λ c. c) components
  pub asks : t.asks ≡ missing_after s news
  pub over : AreOver s.below (s.lists.taken ++ components) t.over

-- nobody has to wait for a transaction any more
pub record IsSettledBy (s : ServerState) (decided : List TxnId) (id : TxnId) (mark : ℕ) (t : TriedLists) : Type 0 where
  pub components : List (List TxnId)
  pub chosen : AreNewTaken (IsListed is_txn decided) (map (without_links (is_settled s id mark)) s.lists.links) components
  pub kept : t.kept ≡ lists_of (forget (record (hearing s id.coord mark) { lists = lists_settled s id mark components }))
  pub newly : t.newly ≡ flat_map (λ c. c) components
  pub asks : t.asks ≡ []
  pub over : AreOver (hearing s id.coord mark).below (s.lists.taken ++ components) t.over

-- a watermark is heard
pub record IsHeard (s : ServerState) (coord mark : ℕ) (t : TriedLists) : Type 0 where
  pub kept : t.kept ≡ lists_of (forget (hearing s coord mark))
  pub newly : t.newly ≡ []
  pub asks : t.asks ≡ []
  pub over : AreOver (hearing s coord mark).below s.lists.taken t.over

-- the lists where one more shard waits
abbrev pub with_one_asking : Asker → KeptLists → KeptLists
with_one_asking asker k = record k { lists = record k.lists { waiting = record k.lists.waiting { askers = with_asker asker k.lists.waiting.askers } } }

-- what is tried is a step by this
abbrev pub IsTried : (TriedLists → Type 0) → Option TriedLists → Type 0
IsTried P None = ⊥
IsTried P (Some t) = P t

-- ---- what is missing

-- what an entry names is unknown, has no group here and was not asked for
abbrev pub is_missing_at : List StartedGroup → (links : List KnownList) → (asked : List OpenFetch) → Dependency → Bool
is_missing_at started links asked d = not (is_known links d.from) && (not (is_here d.from started) && not (was_asked_for d.from asked))

-- nothing that is followed names such a one
abbrev pub IsNoneLeft : List StartedGroup → Lists → Type 0
IsNoneLeft started l = AllByRecursion (λ d. is_missing_at started l.links l.waiting.asked d ≡ false) (all_entries l.links)

-- behind the step nothing more is left, whichever groups started
abbrev pub LeavesNone : (old new : ListsNow) → Type 0
LeavesNone old new = (started : List StartedGroup) → IsNoneLeft started old.kept.lists → IsNoneLeft (groups_without (over_of new.tried) started) (lists_behind new).lists
