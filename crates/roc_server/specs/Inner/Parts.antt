-- What the parts of a server hold, as the definitions see it
use Rattle.std.specs.Prelude.{◌≡◌, None, unwrap_or}
use Rattle.roc_base.specs.declared.node.Shard.{Shard}
use Rattle.roc_server.specs.declared.parts.ServerParts.{ServerParts}
use Rattle.roc_server_groups.specs.GroupsNow.{groups_behind, AreOnce, AreUndecided, IsUntried}
use Rattle.roc_server_groups.specs.Indexed.{IsIndexOf}
use Rattle.roc_server_lists.specs.ListsNow.{lists_behind, over_of, AreSound, IsNoneLeft}
use Rattle.roc_step.specs.State.{ServerState}

-- before the step that is tried, or as it is where none is
abbrev pub state_of : Shard → ServerParts → ServerState
state_of shard k =
    record {
      shard = shard;
      store = unwrap_or k.rows.saved k.rows.store;
      started = k.groups.kept;
      lists = k.lists.kept.lists;
      below = k.lists.kept.below;
    }

-- behind it
abbrev pub state_behind : Shard → ServerParts → ServerState
state_behind shard k =
    record {
      shard = shard;
      store = k.rows.store;
      started = groups_behind (over_of k.lists.tried) k.groups;
      lists = (lists_behind k.lists).lists;
      below = (lists_behind k.lists).below;
    }

-- The parts fit: the groups are found by the cells that they use where they are not decided, and all that is followed is known, here or asked for
pub record IsSound (k : ServerParts) : Type 0 where
  pub groups : AreOnce k.groups
  pub lists : AreSound k.lists
  pub index : IsIndexOf k.groups.index k.lists.decided k.groups.kept
  pub left : IsNoneLeft k.groups.kept k.lists.kept.lists

-- nothing is tried
pub record IsIdle (k : ServerParts) : Type 0 where
  pub store : unwrap_or k.rows.saved k.rows.store ≡ k.rows.store
  pub groups : IsUntried k.groups
  pub lists : k.lists.tried ≡ None

-- what is tried can be kept: the parts will fit
pub record CanRelease (k : ServerParts) : Type 0 where
  pub left : IsNoneLeft (groups_behind (over_of k.lists.tried) k.groups) (lists_behind k.lists).lists
  pub starting : AreUndecided k.lists.decided k.groups.starting

-- what was kept before the step still is
pub record Keeps (old new : ServerParts) : Type 0 where
  pub saved : new.rows.saved ≡ old.rows.saved
  pub groups : new.groups.kept ≡ old.groups.kept
  pub lists : new.lists.kept ≡ old.lists.kept
  pub decided : new.lists.decided ≡ old.lists.decided
