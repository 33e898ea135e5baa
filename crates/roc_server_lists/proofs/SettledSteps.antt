-- Watermarks are heard, and transactions are settled
use Rattle.std.proofs.Common.{◌≡◌, ◌≤◌, ◌++◌, ◌&&◌, ℕ, Bool, true, false, not, if◌then◌else◌, List, length, filter, sym, ap, subst, ◌∙◌, ◌⊎◌, inl, inr}
use Rattle.std.proofs.Math.Bool.{and_comm}
use Rattle.std.proofs.lemmas.Bool.{and_parts}
use Rattle.std.specs.List.{flat_map}
use Rattle.std.specs.List.Sorted.{IsStrictlySortedBy}
use Rattle.roc_sequence.specs.Lists.{Has}
use Rattle.roc_sequence.specs.Places.{is_listed, IsListed, NoneTwice}
use Rattle.roc_sequence.proofs.Appended.{listed_front, listed_behind, listed_either}
use Rattle.roc_sequence.proofs.Places.{listed_or_not}
use Rattle.roc_base.specs.declared.id.TxnId.{TxnId}
use Rattle.roc_base.specs.TxnId.{is_txn, txn_cmp}
use Rattle.roc_step.specs.declared.waits.OpenFetch.{OpenFetch}
use Rattle.roc_step.specs.Waits.{Awaited, Waiting, without_asked}
use Rattle.roc_depgraph.specs.declared.known.KnownList.{KnownList}
use Rattle.roc_depgraph.specs.Closure.{IsRisingListOf}
use Rattle.roc_depgraph.specs.Deps.{is_known, IsDecided}
use Rattle.roc_step.specs.Below.{is_ended}
use Rattle.roc_step.specs.New.{AreAllNew, AreNewTaken}
use Rattle.roc_step.proofs.Raised.{ended_still}
use Rattle.roc_server_table.specs.Kept.{TableLists}
use Rattle.roc_server_groups.proofs.IndexSteps.{filter_both}
use Rattle.roc_server_lists.specs.declared.parts.ListParts.{ListParts}
use Rattle.roc_server_lists.specs.declared.trial.Heard.{Heard}
use Rattle.roc_server_lists.specs.declared.trial.Settling.{Settling}
use Rattle.roc_server_taken.specs.Components.{AreOver, TakenComponents}
use Rattle.roc_server_lists.specs.Inner.Keeping.{IsOverOf}
use Rattle.roc_server_lists.specs.Inner.Parts.{kept_in, AreRightParts}
use Rattle.roc_server_lists.specs.Inner.Trials.{links_settled, with_settled, AreMarksTried, IsSettledTried}
use Rattle.roc_server_news.proofs.FollowedLinks.{links_later, links_marked}
use Rattle.roc_server_lists.proofs.LessonSteps.{once_more, some_more}
use Rattle.roc_server_lists.proofs.MarkedLinks.{marked_known, still_decided}
use Rattle.roc_server_lists.proofs.OneSettled as one
use Rattle.roc_server_lists.proofs.SomeLeft.{among_more, members, more_among}

-- ---- watermarks

-- by higher watermarks what is kept is right, too
marks_right : (k : ListParts) (marks : List ℕ) → ((t : TxnId) → is_ended k.marks t ≡ true → is_ended marks t ≡ true) → AreRightParts k → AreRightParts (record k { marks = marks })
marks_right k marks risen right = record {
  decided = right.decided;
  open_unknown = right.open_unknown;
  linked = links_later (is_ended k.marks) (is_ended marks) risen k.table.known k.table.links right.linked;
  taken_decided = right.taken_decided;
  decided_taken = right.decided_taken;
  taken_once = right.taken_once;
  taken_some = right.taken_some;
}

pub marks_heard : (k : ListParts) (h : Heard) (ids : List TxnId) → AreMarksTried k h → ids ≡ h.over.items → IsOverOf (record k { marks = h.marks }) ids
marks_heard k h ids p is = record {
  right = marks_right k h.marks p.risen p.sound.right;
  over = subst (AreOver h.marks k.taken.components) (sym is) p.over;
}

-- ---- a settled transaction

module _ (k : ListParts) (s : Settling) (p : IsSettledTried k s) where
  abbrev settled : List TxnId
  settled = s.settled.items

  abbrev done : TxnId → Bool
  done t = is_listed is_txn settled t

  abbrev links : List KnownList
  links = links_settled k.table.links settled

  abbrev ids : List TxnId
  ids = s.ids.items

  abbrev components : List (List TxnId)
  components = s.components.items

  abbrev before : List TxnId
  before = k.table.decided

  sound : AreRightParts k
  sound = p.sound.right

  -- ---- what its parts need

  pub settled_one : (given : List TxnId) → given ≡ settled → length given ≤ 1
  settled_one given is = one.at_most_one s.marks p.id given (is ∙ p.found.settled)

  pub settled_rising : (given : List TxnId) → given ≡ settled → IsStrictlySortedBy txn_cmp given
  settled_rising given is = one.settled_rise s.marks p.id given (is ∙ p.found.settled)

  chosen : AreNewTaken (IsListed is_txn before) links components
  chosen = p.found.chosen

  all_new : AreAllNew (IsListed is_txn before) links ids
  all_new = subst (AreAllNew (IsListed is_txn before) links) (sym p.found.ids) chosen.members

  pub can_decide : (mid : TableLists) (first second : List TxnId) → first ≡ settled → second ≡ ids → mid.links ≡ links_settled k.table.links first → mid.decided ≡ before
      → AreAllNew (IsListed is_txn mid.decided) mid.links second
  can_decide mid first second first_is second_is links_are decided_are =
      subst (λ ts. AreAllNew (IsListed is_txn ts) mid.links second) (sym decided_are)
      (subst (λ ks. AreAllNew (IsListed is_txn before) ks second) (sym (links_are ∙ ap (links_settled k.table.links) first_is))
      (subst (AreAllNew (IsListed is_txn before) links) (sym second_is) all_new))

  -- ---- what is decided then is what was, and what newly is

  members_ids : (t : TxnId) → IsListed is_txn (members components) t → IsListed is_txn ids t
  members_ids t l = subst (λ ts. IsListed is_txn ts t) (sym p.found.ids) l

  ids_members : (t : TxnId) → IsListed is_txn ids t → IsListed is_txn (members components) t
  ids_members t l = subst (λ ts. IsListed is_txn ts t) p.found.ids l

  module _ (after : List TxnId) (rising : IsRisingListOf (IsListed is_txn (before ++ ids)) after) where
    was_or_new : (t : TxnId) → IsListed is_txn after t → IsListed is_txn before t ⊎ IsListed is_txn (members components) t
    was_or_new t l = elim (listed_either is_txn before ids t (rising.sound t l)) [ inl a ↦ inl a | inr a ↦ inr (ids_members t a.1) ]

    before_still : (t : TxnId) → IsListed is_txn before t → IsListed is_txn after t
    before_still t l = rising.complete t (listed_front is_txn before ids t l)

    new_decided : (t : TxnId) → IsListed is_txn (members components) t → IsListed is_txn after t
    new_decided t l = rising.complete t (listed_behind is_txn before ids t (members_ids t l))

    after_decided : (t : TxnId) → IsListed is_txn after t → IsDecided links t
    after_decided t l = elim (was_or_new t l) [
      | inl a ↦ still_decided done k.table.links t (sound.decided.sound t a)
      | inr a ↦ (chosen.members.only t a).0
    ]

    decided_after : (t : TxnId) → IsDecided links t → IsListed is_txn after t
    decided_after t d = elim (listed_or_not is_txn before t) [
      | inl a ↦ before_still t a
      | inr a ↦ new_decided t (chosen.members.all t (d, a))
    ]

  -- ---- what is kept is right but for what is over

  module _ (mid table : TableLists) (waits : Awaited) (taken : TakenComponents)
      (first second third : List TxnId) (first_is : first ≡ settled) (second_is : second ≡ ids) (third_is : third ≡ settled)
      (mid_known : mid.known ≡ k.table.known) (mid_links : mid.links ≡ links_settled k.table.links first) (mid_decided : mid.decided ≡ before)
      (known_by : table.known ≡ mid.known) (links_by : table.links ≡ mid.links) (decided_by : IsRisingListOf (IsListed is_txn (mid.decided ++ second)) table.decided)
      (taken_are : taken.components ≡ k.taken.components ++ components)
      (waiting_by : waits.waiting ≡ (if s.is_known then k.waits.waiting else without_asked (is_listed is_txn third) k.waits.waiting))
      (fetches_by : waits.fetches ≡ (if s.is_known then k.waits.fetches else filter (λ a. not (is_listed is_txn third a.id)) k.waits.fetches)) where
    known_are : table.known ≡ k.table.known
    known_are = known_by ∙ mid_known

    links_are : table.links ≡ links
    links_are = links_by ∙ mid_links ∙ ap (links_settled k.table.links) first_is

    rising : IsRisingListOf (IsListed is_txn (before ++ ids)) table.decided
    rising = subst (λ ts. IsRisingListOf (IsListed is_txn ts) table.decided) (λ i. mid_decided i ++ second_is i) decided_by

    waiting_is : waits.waiting ≡ (if s.is_known then k.waits.waiting else without_asked done k.waits.waiting)
    waiting_is = waiting_by ∙ (λ i. if s.is_known then k.waits.waiting else without_asked (is_listed is_txn (third_is i)) k.waits.waiting)

    fetches_are : waits.fetches ≡ (if s.is_known then k.waits.fetches else filter (λ a. not (done a.id)) k.waits.fetches)
    fetches_are = fetches_by ∙ (λ i. if s.is_known then k.waits.fetches else filter (λ (a : OpenFetch). not (is_listed is_txn (third_is i) a.id)) k.waits.fetches)

    -- with the table as it is said to be
    abbrev kept_with : TableLists → ListParts
    kept_with t = record k { table = t; waits = waits; marks = s.marks; taken = taken }

    abbrev plain : TableLists
    plain = record { known = k.table.known; links = links; decided = table.decided }

    table_is : plain ≡ table
    table_is i = record { known = sym known_are i; links = sym links_are i; decided = table.decided }

    abbrev unknown : List KnownList → OpenFetch → Bool
    unknown ks a = not (is_known ks a.id)

    abbrev both : OpenFetch → Bool
    both a = not (done a.id) && unknown k.table.links a

    open_now : waits.fetches ≡ filter (unknown links) waits.waiting.asked
    open_now = fetches_are ∙ go s.is_known ∙ ap (λ (w : Waiting). filter (unknown links) w.asked) (sym waiting_is)
      where
        go : (b : Bool) → (if b then k.waits.fetches else filter (λ a. not (done a.id)) k.waits.fetches)
            ≡ filter (unknown links) (if b then k.waits.waiting else without_asked done k.waits.waiting).asked
        go true = sound.open_unknown ∙ (λ i. filter (λ (a : OpenFetch). not (sym (marked_known done k.table.links a.id) i)) k.waits.waiting.asked)
        go false =
            ap (filter (λ (a : OpenFetch). not (done a.id))) sound.open_unknown
            ∙ filter_both (unknown k.table.links) (λ a. not (done a.id)) both (λ a. and_comm (unknown k.table.links a) (not (done a.id))) k.waits.waiting.asked
            ∙ sym (filter_both (λ (a : OpenFetch). not (done a.id)) (unknown links) both (λ a i. not (done a.id) && not (marked_known done k.table.links a.id i))
            k.waits.waiting.asked)

    -- the watermark ends what is settled, and what was ended before
    risen : (t : TxnId) → is_ended k.marks t ≡ true → is_ended s.marks t ≡ true
    risen t e = subst (λ marks. is_ended marks t ≡ true) (sym p.found.marks) (ended_still k.marks p.id.coord p.mark t e)

    done_ended : (t : TxnId) → done t ≡ true → is_ended s.marks t ≡ true
    done_ended t e = (and_parts (is_txn t p.id) (is_ended s.marks t) (sym (one.one_listed s.marks p.id settled p.found.settled t) ∙ e)).1

    right_now : AreRightParts (kept_with plain)
    right_now =
        let Members : List (List TxnId) → TxnId → Type 0 = λ cs t. IsListed is_txn (flat_map (λ c. c) cs) t in
        let now : List TxnId = table.decided in
        record {
          decided = record { rising = rising.rising; sound = after_decided now rising; complete = decided_after now rising };
          open_unknown = open_now;
          linked =
              links_marked (is_ended s.marks) done done_ended k.table.known k.table.links
              (links_later (is_ended k.marks) (is_ended s.marks) risen k.table.known k.table.links sound.linked);
          taken_decided = λ t l. elim (among_more k.taken.components components t (subst (λ cs. Members cs t) taken_are l)) [
            | inl a ↦ before_still now rising t (sound.taken_decided t a)
            | inr a ↦ new_decided now rising t a
          ];
          decided_taken = λ t l.
              subst (λ cs. Members cs t) (sym taken_are)
              (more_among k.taken.components components t (elim (was_or_new now rising t l) [ inl a ↦ inl (sound.decided_taken t a) | inr a ↦ inr a ]));
          taken_once =
              subst (λ cs. NoneTwice is_txn (flat_map (λ c. c) cs)) (sym taken_are)
              (once_more k.taken.components components before links sound.taken_once sound.taken_decided chosen);
          taken_some = λ c has. some_more k.taken.components components before links sound.taken_some chosen c (subst (Has c) taken_are has);
        }

    pub settled_over : (fourth : List TxnId) → fourth ≡ s.over.items → IsOverOf (kept_with table) fourth
    settled_over fourth fourth_is = record {
      right = subst (λ t. AreRightParts (kept_with t)) table_is right_now;
      over = subst (AreOver s.marks taken.components) (sym fourth_is) (subst (λ cs. AreOver s.marks cs s.over.items) (sym taken_are) p.found.over);
    }

    -- and what is kept is what the trial leaves before anything is forgotten
    pub settled_kept : kept_in (kept_with table) ≡ with_settled k s
    settled_kept i = record {
      lists = record { known = known_are i; links = links_are i; waiting = waiting_is i; taken = taken_are i };
      below = s.marks;
    }
