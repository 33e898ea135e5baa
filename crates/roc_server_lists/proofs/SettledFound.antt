-- What comes of a settled transaction
use Rattle.std.proofs.Common.{◌≡◌, ◌≤◌, ◌&&◌, ◌∙◌, ◌++◌, ℕ, Bool, true, false, not, List, if◌then◌else◌, length, map, refl, sym, ap, subst}
use Rattle.std.proofs.lemmas.Bool.{not-true}
use Rattle.std.specs.List.{AllByRecursion}
use Rattle.roc_sequence.specs.Lists.{Has}
use Rattle.roc_sequence.specs.Places.{is_listed, IsListed}
use Rattle.roc_sequence.proofs.Holds.{all_has, has_all}
use Rattle.roc_sequence.proofs.Members.{from_has_filter}
use Rattle.roc_base.specs.declared.id.TxnId.{TxnId}
use Rattle.roc_base.specs.TxnId.{is_txn}
use Rattle.roc_base.specs.Edge.{Dependency}
use Rattle.roc_depgraph.specs.declared.known.KnownList.{KnownList}
use Rattle.roc_step.specs.declared.started.StartedGroup.{StartedGroup}
use Rattle.roc_step.specs.declared.waits.OpenFetch.{OpenFetch}
use Rattle.roc_step.specs.Below.{is_ended, raised}
use Rattle.roc_step.specs.Links.{all_entries, without_links}
use Rattle.roc_step.specs.New.{AreNewTaken}
use Rattle.roc_step.specs.State.{is_here, ServerState}
use Rattle.roc_step.specs.Waits.{was_asked_for, without_asked, Waiting}
use Rattle.roc_step.proofs.WithoutLinks.{entries_left}
use Rattle.roc_server_groups.specs.GroupsNow.{groups_without}
use Rattle.roc_server_table.specs.Kept.{TableLists}
use Rattle.roc_server_lists.specs.declared.parts.ListParts.{ListParts}
use Rattle.roc_server_lists.specs.declared.trial.Settling.{Settling}
use Rattle.roc_server_lists.specs.declared.trial.Trial.TheVariants.{Settled}
use Rattle.roc_server_lists.specs.ListsNow.{is_missing_at, lists_of, IsNoneLeft, IsSettledBy}
use Rattle.roc_server_taken.specs.Components.{AreOver}
use Rattle.roc_server_lists.specs.Inner.Finding.{AreAlike}
use Rattle.roc_server_lists.specs.Inner.Parts.{kept_in, AreConsistent}
use Rattle.roc_server_lists.specs.Inner.Trials.{after, links_settled, lists_forgetting, tried_of, with_settled, IsSettledTried, IsSettling}
use Rattle.roc_server_lists.proofs.MarkedLinks.{marked_known}
use Rattle.roc_server_lists.proofs.NoneLeft.{left_forgetting}
use Rattle.roc_server_lists.proofs.OneSettled.{one_listed}
use Rattle.roc_server_lists.proofs.RoomAside.{alike_kept}
use Rattle.roc_server_lists.proofs.SomeLeft.{any_some}

module _ (k : ListParts) (id : TxnId) (mark : ℕ) (x : Settling) (f : IsSettling k id mark x) where
  abbrev components : List (List TxnId)
  components = x.components.items

  -- the test that is made
  abbrev done : TxnId → Bool
  done t = is_listed is_txn x.settled.items t

  -- ---- it is what the definitions say

  -- the test that the definitions make
  abbrev settled : TxnId → Bool
  settled t = is_txn t id && is_ended (raised k.marks id.coord mark) t

  tests : done ≡ settled
  tests = λ i t. (one_listed x.marks id x.settled.items f.settled t ∙ ap (λ below. is_txn t id && is_ended below t) f.marks) i

  links_are : links_settled k.table.links x.settled.items ≡ map (without_links settled) k.table.links
  links_are = ap (λ p. map (without_links p) k.table.links) tests

  -- a state with these lists and watermarks
  abbrev at : ServerState → ServerState
  at s = record s { lists = (kept_in k).lists; below = k.marks }

  at_settles : (s : ServerState) → IsSettledBy (at s) k.table.decided id mark (tried_of k (Settled x))
  at_settles s = record {
    components = components;
    chosen = subst (λ links. AreNewTaken (IsListed is_txn k.table.decided) links components) links_are f.chosen;
    kept = λ i. lists_forgetting (record {
      lists = record {
        known = k.table.known;
        links = links_are i;
        waiting = if f.is_known i then k.waits.waiting else without_asked (tests i) k.waits.waiting;
        taken = k.taken.components ++ components;
      };
      below = f.marks i;
    });
    newly = f.ids;
    asks = refl;
    over = subst (λ marks. AreOver marks (k.taken.components ++ components) x.over.items) f.marks f.over;
  }

  settles : (s : ServerState) → lists_of s ≡ kept_in k → IsSettledBy s k.table.decided id mark (tried_of k (Settled x))
  settles s is =
      let same : at s ≡ s = λ i. record s { lists = (sym is i).lists; below = (sym is i).below } in
      subst (λ s. IsSettledBy s k.table.decided id mark (tried_of k (Settled x))) same (at_settles s)

  pub settled_tried : AreConsistent k → length components ≤ k.taken.spare → IsSettledTried k x
  settled_tried sound room = record { sound = sound; id = id; mark = mark; found = f; room = room }

  -- ---- nothing is left behind it

  abbrev waiting : Waiting
  waiting = if x.is_known then k.waits.waiting else without_asked done k.waits.waiting

  asked_same : (t : TxnId) → done t ≡ false → was_asked_for t waiting.asked ≡ was_asked_for t k.waits.waiting.asked
  asked_same t n = go x.is_known
    where
      go : (b : Bool) → was_asked_for t (if b then k.waits.waiting else without_asked done k.waits.waiting).asked ≡ was_asked_for t k.waits.waiting.asked
      go true = refl
      go false = any_some (λ (a : OpenFetch). a.id) done t n k.waits.waiting.asked

  module _ (started : List StartedGroup) (none : IsNoneLeft started (kept_in k).lists) where
    abbrev links : List KnownList
    links = links_settled k.table.links x.settled.items

    none_behind : AllByRecursion (λ d. is_missing_at started links waiting.asked d ≡ false) (all_entries links)
    none_behind = has_all (λ d. is_missing_at started links waiting.asked d ≡ false) (all_entries links) each
      where
        each : (d : Dependency) → Has d (all_entries links) → is_missing_at started links waiting.asked d ≡ false
        each d h =
            let e = from_has_filter (λ (x : Dependency). not (done x.from)) d (all_entries k.table.links) (subst (Has d) (entries_left done k.table.links) h) in
            let known = marked_known done k.table.links d.from in
            let asked = asked_same d.from (not-true (done d.from) e.1) in
            (λ i. not (known i) && (not (is_here d.from started) && not (asked i)))
            ∙ all_has (λ d. is_missing_at started k.table.links k.waits.waiting.asked d ≡ false) d (all_entries k.table.links) none e.0

    pub settled_left : IsNoneLeft (groups_without x.over.items started) (after k (Settled x)).lists
    settled_left = left_forgetting started (with_settled k x) x.over.items f.over none_behind

-- it comes of what was kept before there was room for it, too
pub settles_from : (old new : ListParts) → AreAlike old new → (id : TxnId) (mark : ℕ) (x : Settling) → IsSettling new id mark x → (s : ServerState) → lists_of s ≡ kept_in old
    → IsSettledBy s old.table.decided id mark (tried_of new (Settled x))
settles_from old new alike id mark x f s is =
    subst (λ (t : TableLists). IsSettledBy s t.decided id mark (tried_of new (Settled x))) alike.table (settles new id mark x f s (is ∙ sym (alike_kept old new alike)))
