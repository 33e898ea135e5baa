-- The parts of a server, as nothing is tried, as something is, and as it is kept
use Rattle.std.proofs.Common.{◌≡◌, ◌++◌, ℕ, not, List, [], filter, refl, sym, ap, subst, ◌∙◌, append-nil}
use Rattle.roc_sequence.specs.Lists.{Has}
use Rattle.roc_sequence.specs.Places.{is_listed}
use Rattle.roc_sequence.proofs.Holds.{same_tests}
use Rattle.roc_sequence.proofs.Places.{listed_test, listed_true}
use Rattle.roc_base.specs.declared.id.TxnId.{TxnId}
use Rattle.roc_base.specs.declared.node.Shard.{Shard}
use Rattle.roc_base.specs.TxnId.{is_txn}
use Rattle.roc_depgraph.specs.Deps.{IsDecided}
use Rattle.roc_depgraph.proofs.RisingLists.{rising_one}
use Rattle.roc_step.specs.declared.started.StartedGroup.{StartedGroup}
use Rattle.roc_step.specs.Forgets.{over}
use Rattle.roc_step.specs.New.{AreDecided}
use Rattle.roc_server.specs.declared.parts.ServerParts.{ServerParts}
use Rattle.roc_server.specs.Inner.Parts.{state_behind, state_of, CanRelease, IsIdle, IsSound}
use Rattle.roc_server_groups.specs.GroupsNow.{groups_behind, groups_without, AreDecidedBehind, GroupsNow, IsUntried}
use Rattle.roc_server_groups.proofs.IndexSteps.{filter_all}
use Rattle.roc_server_lists.specs.ListsNow.{lists_behind, newly_of, over_of, tried_or, AreSound, IsNoneLeft, KeptLists, ListsNow}
use Rattle.roc_server_taken.specs.Components.{AreOver}

-- ---- nothing is tried

pub others_none : (es : List StartedGroup) → groups_without [] es ≡ es
others_none es = filter_all (λ (e : StartedGroup). not (is_listed is_txn [] e.id)) es (λ e h. refl)

-- behind what was not tried the groups are those that were kept
pub all_idle : (g : GroupsNow) → IsUntried g → g.ran ++ g.starting ≡ g.kept
all_idle g idle = (λ i. idle.ran i ++ idle.starting i) ∙ append-nil g.kept

pub groups_idle : (g : GroupsNow) → IsUntried g → groups_behind [] g ≡ g.kept
groups_idle g idle = others_none (g.ran ++ g.starting) ∙ all_idle g idle

module _ (k : ServerParts) (idle : IsIdle k) where
  pub started_idle : groups_behind (over_of k.lists.tried) k.groups ≡ k.groups.kept
  started_idle = ap (λ t. groups_behind (over_of t) k.groups) idle.lists ∙ groups_idle k.groups idle.groups

  pub lists_idle : lists_behind k.lists ≡ k.lists.kept
  lists_idle = ap (λ t. tried_or t k.lists.kept) idle.lists

  pub idle_behind : (shard : Shard) → state_behind shard k ≡ state_of shard k
  idle_behind shard i = record {
    shard = shard;
    store = sym idle.store i;
    started = started_idle i;
    lists = (lists_idle i).lists;
    below = (lists_idle i).below;
  }

  pub idle_can : IsSound k → CanRelease k
  idle_can sound = record {
    left = subst (λ (l : KeptLists). IsNoneLeft (groups_behind (over_of k.lists.tried) k.groups) l.lists) (sym lists_idle) (subst (λ es. IsNoneLeft es k.lists.kept.lists) (sym started_idle) sound.left);
    starting = λ e has. absurd (subst (Has e) idle.groups.starting has);
  }

-- ---- what is forgotten

-- the groups that stay, by either list of what is over
pub others_over : (below : List ℕ) (taken : List (List TxnId)) (ids : List TxnId) → AreOver below taken ids → (es : List StartedGroup)
    → filter (λ e. not (is_listed is_txn (over below taken) e.id)) es ≡ groups_without ids es
others_over below taken ids are es i = filter (λ e. not (tests e.id i)) es
  where
    tests : (t : TxnId) → is_listed is_txn (over below taken) t ≡ is_listed is_txn ids t
    tests t =
        same_tests (is_listed is_txn (over below taken) t) (is_listed is_txn ids t)
        (λ e. listed_test is_txn ids t (are.complete t (listed_true is_txn (over below taken) t e)))
        (λ e. listed_test is_txn (over below taken) t (are.sound t (listed_true is_txn ids t e)))

-- ---- it is released

module _ (k : ServerParts) (sound : IsSound k) (new_lists : ListsNow) (kept : new_lists.kept ≡ lists_behind k.lists) (lists : AreSound new_lists) where
  -- what is decided then is what is decided behind the step
  pub decided_then : AreDecidedBehind k.lists.decided (newly_of k.lists.tried) (over_of k.lists.tried) new_lists.decided
  decided_then =
      subst (AreDecidedBehind k.lists.decided (newly_of k.lists.tried) (over_of k.lists.tried))
      (rising_one (IsDecided (lists_behind k.lists).lists.links) sound.lists.later new_lists.decided sound.lists.are_later
      (subst (λ (l : KeptLists). AreDecided l.lists.links new_lists.decided) kept lists.decided))
      sound.lists.behind
