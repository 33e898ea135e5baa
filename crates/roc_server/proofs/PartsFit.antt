-- The parts fit: of a server that holds nothing, and behind a step that is kept
use Rattle.std.proofs.Common.{◌≡◌, ◌∙◌, List, [], Some, unwrap_or, sym, ap, subst}
use Rattle.roc_base.specs.declared.id.TxnId.{TxnId}
use Rattle.roc_base.specs.declared.node.Shard.{Shard}
use Rattle.roc_server.specs.declared.parts.ServerParts.{ServerParts}
use Rattle.roc_server.specs.Inner.Parts.{state_of, CanRelease, IsIdle, IsSound}
use Rattle.roc_server_groups.specs.GroupsNow.{groups_behind, AreDecidedBehind, AreOnce, AreUndecided}
use Rattle.roc_server_groups.specs.Indexed.{IsIndexOf}
use Rattle.roc_server_lists.specs.ListsNow.{lists_behind, newly_of, no_lists, over_of, AreSound, IsNoneLeft, KeptLists}
use Rattle.roc_server.proofs.PartSteps.{decided_then}

-- no groups, and no lists
pub nothing_sound : (k : ServerParts) → AreOnce k.groups → AreSound k.lists → k.groups.kept ≡ [] → ((decided : List TxnId) → IsIndexOf k.groups.index decided []) → k.lists.kept.lists ≡ no_lists → IsSound k
nothing_sound k once lists kept index none = record {
  groups = once;
  lists = lists;
  index = subst (IsIndexOf k.groups.index k.lists.decided) (sym kept) (index k.lists.decided);
  left = subst (IsNoneLeft k.groups.kept) (sym none) tt;
}

-- what the step left is kept
pub released_sound : (k new : ServerParts) → IsSound k → CanRelease k → (newly over : List TxnId) → newly ≡ newly_of k.lists.tried → over ≡ over_of k.lists.tried → new.lists.kept ≡ lists_behind k.lists → AreSound new.lists
    → new.groups.kept ≡ groups_behind over k.groups → AreOnce new.groups
    → ((before after : List TxnId) → IsIndexOf k.groups.index before k.groups.kept → AreDecidedBehind before newly over after
    → AreUndecided before k.groups.starting → IsIndexOf new.groups.index after new.groups.kept)
    → IsSound new
released_sound k new sound can newly over newly_is over_is kept lists groups once index =
    let behind = decided_then k sound new.lists kept lists in
    let behind : AreDecidedBehind k.lists.decided newly over new.lists.decided =
    subst (λ ids. AreDecidedBehind k.lists.decided newly ids new.lists.decided) (sym over_is)
    (subst (λ ids. AreDecidedBehind k.lists.decided ids (over_of k.lists.tried) new.lists.decided) (sym newly_is) behind) in
    record {
      groups = once;
      lists = lists;
      index = index k.lists.decided new.lists.decided sound.index behind can.starting;
      left = subst (λ (l : KeptLists). IsNoneLeft new.groups.kept l.lists) (sym kept)
          (subst (λ es. IsNoneLeft es (lists_behind k.lists).lists) (sym (groups ∙ ap (λ ids. groups_behind ids k.groups) over_is)) can.left);
    }

-- behind a savepoint, where nothing was tried, the state is what it was
pub saved_state : (k mid : ServerParts) → IsIdle k → mid.rows.saved ≡ Some k.rows.store → mid.groups ≡ k.groups → mid.lists ≡ k.lists → (shard : Shard) → state_of shard mid ≡ state_of shard k
saved_state k mid idle saved groups lists shard i = record {
  shard = shard;
  store = (ap (λ o. unwrap_or o mid.rows.store) saved ∙ sym idle.store) i;
  started = (groups i).kept;
  lists = (lists i).kept.lists;
  below = (lists i).kept.below;
}
