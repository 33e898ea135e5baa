-- What is followed names nothing that is left out, once what is over is forgotten
use Rattle.std.proofs.Common.{◌≡◌, ◌&&◌, Bool, false, not, List, filter, subst, ◌∙◌}
use Rattle.std.proofs.lemmas.Bool.{not-true}
use Rattle.roc_sequence.specs.Lists.{Has}
use Rattle.roc_sequence.specs.Places.{is_listed}
use Rattle.roc_sequence.proofs.Holds.{all_has, has_all}
use Rattle.roc_sequence.proofs.Members.{from_has_filter, from_has_flat_map, has_flat_map}
use Rattle.roc_base.specs.declared.id.TxnId.{TxnId}
use Rattle.roc_base.specs.TxnId.{is_txn}
use Rattle.roc_base.specs.Edge.{Dependency}
use Rattle.roc_depgraph.specs.declared.known.KnownList.{KnownList}
use Rattle.roc_step.specs.declared.started.StartedGroup.{StartedGroup}
use Rattle.roc_step.specs.declared.waits.OpenFetch.{OpenFetch}
use Rattle.roc_step.specs.Forgets.{over}
use Rattle.roc_step.specs.Links.{all_entries}
use Rattle.roc_step.specs.State.{Lists}
use Rattle.roc_step.proofs.WithoutLinks.{entries_left}
use Rattle.roc_server_groups.specs.GroupsNow.{groups_without}
use Rattle.roc_server_lists.specs.ListsNow.{is_missing_at, IsNoneLeft, KeptLists}
use Rattle.roc_server_taken.specs.Components.{AreOver}
use Rattle.roc_server_lists.specs.Inner.Trials.{lists_forgetting}
use Rattle.roc_server_lists.proofs.LeftSteps.{still_known}
use Rattle.roc_server_lists.proofs.SomeLeft.{any_some, rising_lists}

-- what is forgotten is named no more, and about all others each of the three tests says the same
pub left_forgetting : (started : List StartedGroup) (k : KeptLists) (ids : List TxnId) → AreOver k.below k.lists.taken ids → IsNoneLeft started k.lists
    → IsNoneLeft (groups_without ids started) (lists_forgetting k).lists
left_forgetting started k ids are none = has_all (λ d. is_missing_at (groups_without ids started) after.links after.waiting.asked d ≡ false) (all_entries after.links) one
  where
    gone : List TxnId
    gone = over k.below k.lists.taken

    forgotten : TxnId → Bool
    forgotten t = is_listed is_txn gone t

    after : Lists
    after = (lists_forgetting k).lists

    lists : List KnownList
    lists = filter (λ l. not (forgotten l.of)) k.lists.links

    one : (d : Dependency) → Has d (all_entries after.links) → is_missing_at (groups_without ids started) after.links after.waiting.asked d ≡ false
    one d h =
        let p = from_has_filter (λ (x : Dependency). not (forgotten x.from)) d (all_entries lists) (subst (Has d) (entries_left forgotten lists) h) in
        let l = from_has_flat_map (λ (x : KnownList). x.edges) d lists p.0 in
        let named = has_flat_map (λ (x : KnownList). x.edges) d l.0 k.lists.links (from_has_filter (λ (x : KnownList). not (forgotten x.of)) l.0 k.lists.links l.1).0 l.2 in
        let n = not-true (forgotten d.from) p.1 in
        let here = any_some (λ (e : StartedGroup). e.id) (is_listed is_txn ids) d.from (rising_lists gone ids are d.from ∙ n) started in
        let asked = any_some (λ (a : OpenFetch). a.id) forgotten d.from n k.lists.waiting.asked in
        (λ i. not (still_known k.lists.links gone d.from n i) && (not (here i) && not (asked i))) ∙ all_has (λ d. is_missing_at started k.lists.links k.lists.waiting.asked d ≡ false) d (all_entries k.lists.links) none named
