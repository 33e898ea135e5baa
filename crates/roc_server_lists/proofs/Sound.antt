-- What is decided, before a step and behind it
use Rattle.std.proofs.Common.{◌≡◌, ◌++◌, ◌&&◌, ◌||◌, ◌⊎◌, inl, inr, ℕ, Bool, true, false, not, List, [], filter, map, Option, Some, None, refl, sym, ap, subst, ◌∙◌}
use Rattle.std.proofs.lemmas.Bool.{and_from, and_parts, not-true, not_from_false, or_cases, or_left, or_right}
use Rattle.roc_sequence.specs.Places.{is_listed, IsListed}
use Rattle.roc_sequence.proofs.Appended.{listed_behind, listed_either, listed_front}
use Rattle.roc_sequence.proofs.Holds.{same_tests}
use Rattle.roc_sequence.proofs.Places.{listed_or_not, listed_test, listed_true}
use Rattle.roc_base.specs.declared.id.TxnId.{TxnId}
use Rattle.roc_base.specs.TxnId.{is_txn}
use Rattle.roc_base.proofs.Ids.{none_rise}
use Rattle.roc_depgraph.specs.declared.known.KnownList.{KnownList}
use Rattle.roc_depgraph.specs.Closure.{IsRisingListOf}
use Rattle.roc_depgraph.specs.Deps.{IsDecided}
use Rattle.roc_depgraph.proofs.Laws.{decided_stays}
use Rattle.roc_depgraph.proofs.RisingIds as rising_ids
use Rattle.roc_depgraph.proofs.RisingLists.{none_listed}
use Rattle.roc_step.specs.Below.{is_ended}
use Rattle.roc_step.specs.Forgets.{is_over, over}
use Rattle.roc_step.specs.New.{AreDecided}
use Rattle.roc_step.proofs.ForgottenLinks.{decided_left, left_decided}
use Rattle.roc_server_groups.specs.GroupsNow.{AreDecidedBehind}
use Rattle.roc_server_lists.specs.declared.parts.ListParts.{ListParts}
use Rattle.roc_server_lists.specs.declared.trial.Heard.{Heard}
use Rattle.roc_server_lists.specs.declared.trial.Lesson.{Lesson}
use Rattle.roc_server_lists.specs.declared.trial.Settling.{Settling}
use Rattle.roc_server_lists.specs.declared.trial.Trial.{Trial}
use Rattle.roc_server_lists.specs.declared.trial.Trial.TheVariants.{Asker, Lists, Marks, Settled}
use Rattle.roc_server_lists.specs.ListsNow.{AreSound}
use Rattle.roc_server_taken.specs.Components.{AreOver}
use Rattle.roc_server_lists.specs.Inner.Parts.{AreRightParts}
use Rattle.roc_server_lists.specs.Inner.Trials.{links_settled, lists_now, unlearnt, AreHeld, AreListsTried, AreMarksTried, IsSettledTried}
use Rattle.roc_server_news.proofs.FollowedLinks.{links_ids}
use Rattle.roc_server_news.proofs.Learning.{keeps_front}
use Rattle.roc_server_lists.proofs.LeftSteps.{left_decide, links_left}
use Rattle.roc_server_lists.proofs.MarkedLinks.{still_decided}
use Rattle.roc_server_lists.proofs.SomeLeft.{among_more, member_all, members, rising_lists}

-- ---- where nothing is newly decided and nothing forgotten

-- a rising list of what is decided by some links, and what that is made of
record Later (links : List KnownList) (before new forgotten : List TxnId) : Type 0 where
  later : List TxnId
  are : AreDecided links later
  behind : AreDecidedBehind before new forgotten later

same_later : (k : ListParts) → AreRightParts k → Later k.table.links k.table.decided [] []
same_later k right = record {
  later = k.table.decided;
  are = right.decided;
  behind = record { is = λ t. alone (is_listed is_txn k.table.decided t); gone = λ t l. absurd (none_listed t l) };
}
  where
    alone : (b : Bool) → b ≡ ((b || false) && true)
    alone true = refl
    alone false = refl

-- ---- where what is over is forgotten

module _ (before new : List TxnId) (links : List KnownList) (marks : List ℕ) (taken : List (List TxnId)) (before_decided : (t : TxnId) → IsListed is_txn before t → IsDecided links t)
    (new_decided : (t : TxnId) → IsListed is_txn new t → IsDecided links t) (all_decided : (t : TxnId) → IsDecided links t → IsListed is_txn before t ⊎ IsListed is_txn new t)
    (taken_decided : (t : TxnId) → IsListed is_txn (members taken) t → IsListed is_txn before t ⊎ IsListed is_txn new t) (ids : List TxnId) (are_over : AreOver marks taken ids) where
  abbrev gone : List TxnId
  gone = over marks taken

  abbrev forgotten : TxnId → Bool
  forgotten t = is_listed is_txn gone t

  abbrev test : TxnId → Bool
  test t = is_listed is_txn before t || is_listed is_txn new t

  gone_either : (t : TxnId) → IsListed is_txn gone t → IsListed is_txn before t ⊎ IsListed is_txn new t
  gone_either t l = taken_decided t (member_all (is_over marks) taken t l)

  are_gone : (t : TxnId) → forgotten t ≡ true → IsDecided links t
  are_gone t e = elim (gone_either t (listed_true is_txn gone t e)) [ inl a ↦ before_decided t a | inr a ↦ new_decided t a ]

  is_forgotten : (t : TxnId) → is_listed is_txn ids t ≡ forgotten t
  is_forgotten t = rising_lists gone ids are_over t

  passes : (t : TxnId) → IsDecided links t → test t ≡ true
  passes t d =
      elim (all_decided t d) [
        | inl a ↦ or_left (is_listed is_txn before t) (is_listed is_txn new t) (listed_test is_txn before t a)
        | inr a ↦ or_right (is_listed is_txn before t) (is_listed is_txn new t) (listed_test is_txn new t a)
      ]

  passed : (t : TxnId) → test t ≡ true → IsDecided links t
  passed t e =
      elim (or_cases (is_listed is_txn before t) (is_listed is_txn new t) e) [
        | inl a ↦ before_decided t (listed_true is_txn before t a)
        | inr a ↦ new_decided t (listed_true is_txn new t a)
      ]

  -- what is left of what was decided and is decided newly
  abbrev all : List TxnId
  all = before ++ new

  abbrev stays : TxnId → Bool
  stays t = not (forgotten t)

  either_all : (t : TxnId) → IsListed is_txn before t ⊎ IsListed is_txn new t → IsListed is_txn all t
  either_all t l = elim l [ inl a ↦ listed_front is_txn before new t a | inr a ↦ listed_behind is_txn before new t a ]

  all_are_decided : (t : TxnId) → IsListed is_txn all t → IsDecided links t
  all_are_decided t l = elim (listed_either is_txn before new t l) [ inl a ↦ before_decided t a | inr a ↦ new_decided t a.1 ]

  rising_left : (left : List TxnId) × IsRisingListOf (IsListed is_txn (filter stays all)) left
  rising_left =
      let some : List TxnId = filter stays all in
      (rising_ids.ids some, record { rising = rising_ids.ids_rise some; sound = rising_ids.ids_sound some; complete = rising_ids.ids_complete some })

  left_behind : (left : List TxnId) → IsRisingListOf (IsListed is_txn (filter stays all)) left → Later (links_left links gone) before new ids
  left_behind left rising = record {
    later = left;
    are = are;
    behind = record {
      is = λ t. same_tests (is_listed is_txn left t) (test t && not (is_listed is_txn ids t)) (there t) (back t);
      gone = λ t l. either_all t (gone_either t (are_over.sound t l));
    };
  }
    where
      are : AreDecided (links_left links gone) left
      are = left_decide links (links_left links gone) gone all refl all_are_decided (λ t d. either_all t (all_decided t d)) (λ t l. are_gone t (listed_test is_txn gone t l)) left rising

      there : (t : TxnId) → is_listed is_txn left t ≡ true → (test t && not (is_listed is_txn ids t)) ≡ true
      there t e =
          let d = left_decided forgotten links are_gone t (are.sound t (listed_true is_txn left t e)) in
          and_from (test t) (not (is_listed is_txn ids t)) (passes t d.0) (not_from_false (is_listed is_txn ids t) (is_forgotten t ∙ d.1))

      back : (t : TxnId) → (test t && not (is_listed is_txn ids t)) ≡ true → is_listed is_txn left t ≡ true
      back t e =
          let p = and_parts (test t) (not (is_listed is_txn ids t)) e in
          listed_test is_txn left t (are.complete t (decided_left forgotten links t (passed t p.0) (sym (is_forgotten t) ∙ not-true (is_listed is_txn ids t) p.1)))

  forgotten_later : Later (links_left links gone) before new ids
  forgotten_later = left_behind rising_left.0 rising_left.1

-- ---- lists that are taught

module _ (k : ListParts) (l : Lesson) (p : AreListsTried k l) where
  abbrev was : ListParts
  was = unlearnt k l

  lists_before : (t : TxnId) → IsListed is_txn k.table.decided t → IsDecided k.table.links t
  lists_before t a =
      subst (λ ks. IsDecided ks t) (sym (p.learnt.links.links_are ∙ ap (λ ks. ks ++ p.learnt.links.linked) p.links_before))
      (decided_stays was.table.links (was.table.links ++ p.learnt.links.linked) (keeps_front was.table.links p.learnt.links.linked) t (p.sound.right.decided.sound t a))

  lists_new : (t : TxnId) → IsListed is_txn l.found.ids.items t → IsDecided k.table.links t
  lists_new t a = (p.chosen.members.only t (subst (λ ts. IsListed is_txn ts t) p.ids a)).0

  lists_all : (t : TxnId) → IsDecided k.table.links t → IsListed is_txn k.table.decided t ⊎ IsListed is_txn l.found.ids.items t
  lists_all t d = elim (listed_or_not is_txn k.table.decided t) [ inl a ↦ inl a | inr a ↦ inr (subst (λ ts. IsListed is_txn ts t) (sym p.ids) (p.chosen.members.all t (d, a))) ]

  lists_taken : (t : TxnId) → IsListed is_txn (members (k.taken.components ++ l.found.components.items)) t → IsListed is_txn k.table.decided t ⊎ IsListed is_txn l.found.ids.items t
  lists_taken t m =
      elim (among_more k.taken.components l.found.components.items t m) [
        | inl a ↦ inl (p.sound.right.taken_decided t a)
        | inr a ↦ inr (subst (λ ts. IsListed is_txn ts t) (sym p.ids) a)
      ]

  lists_later : Later (links_left k.table.links (over k.marks (k.taken.components ++ l.found.components.items))) k.table.decided l.found.ids.items l.over.items
  lists_later =
      forgotten_later k.table.decided l.found.ids.items k.table.links k.marks (k.taken.components ++ l.found.components.items) lists_before lists_new lists_all lists_taken
      l.over.items p.over

-- ---- a transaction that is settled

module _ (k : ListParts) (s : Settling) (p : IsSettledTried k s) where
  abbrev settled : List KnownList
  settled = links_settled k.table.links s.settled.items

  settled_before : (t : TxnId) → IsListed is_txn k.table.decided t → IsDecided settled t
  settled_before t a = still_decided (is_listed is_txn s.settled.items) k.table.links t (p.sound.right.decided.sound t a)

  settled_new : (t : TxnId) → IsListed is_txn s.ids.items t → IsDecided settled t
  settled_new t a = (p.found.chosen.members.only t (subst (λ ts. IsListed is_txn ts t) p.found.ids a)).0

  settled_all : (t : TxnId) → IsDecided settled t → IsListed is_txn k.table.decided t ⊎ IsListed is_txn s.ids.items t
  settled_all t d = elim (listed_or_not is_txn k.table.decided t) [ inl a ↦ inl a | inr a ↦ inr (subst (λ ts. IsListed is_txn ts t) (sym p.found.ids) (p.found.chosen.members.all t (d, a))) ]

  settled_taken : (t : TxnId) → IsListed is_txn (members (k.taken.components ++ s.components.items)) t → IsListed is_txn k.table.decided t ⊎ IsListed is_txn s.ids.items t
  settled_taken t m =
      elim (among_more k.taken.components s.components.items t m) [
        | inl a ↦ inl (p.sound.right.taken_decided t a)
        | inr a ↦ inr (subst (λ ts. IsListed is_txn ts t) (sym p.found.ids) a)
      ]

  settled_later : Later (links_left settled (over s.marks (k.taken.components ++ s.components.items))) k.table.decided s.ids.items s.over.items
  settled_later =
      forgotten_later k.table.decided s.ids.items settled s.marks (k.taken.components ++ s.components.items) settled_before settled_new settled_all settled_taken
      s.over.items p.found.over

-- ---- a watermark that is heard

marks_later : (k : ListParts) (m : Heard) → AreMarksTried k m → Later (links_left k.table.links (over m.marks k.taken.components)) k.table.decided [] m.over.items
marks_later k m p =
    let right = p.sound.right in
    forgotten_later k.table.decided [] k.table.links m.marks k.taken.components right.decided.sound (λ t a. absurd (none_listed t a)) (λ t d. inl (right.decided.complete t d))
    (λ t a. inl (right.taken_decided t a)) m.over.items p.over

-- ---- whatever is tried

ids_right : (k : ListParts) → AreRightParts k → map (λ (l : KnownList). l.of) k.table.links ≡ map (λ (l : KnownList). l.of) k.table.known
ids_right k right = links_ids (is_ended k.marks) k.table.known k.table.links right.linked

pub sound_of : (k : ListParts) (trial : Option Trial) → AreHeld k trial → AreSound (lists_now k trial)
sound_of k None h = let l = same_later k h.right in record { same_ids = ids_right k h.right; decided = h.right.decided; later = l.later; are_later = l.are; behind = l.behind; over = none_rise }
sound_of k (Some (Asker asker)) h = let l = same_later k h.0.right in record { same_ids = ids_right k h.0.right; decided = h.0.right.decided; later = l.later; are_later = l.are; behind = l.behind; over = none_rise }
sound_of k (Some (Lists t)) h =
    let l = lists_later k t h in
    record { same_ids = ids_right (unlearnt k t) h.sound.right; decided = h.sound.right.decided; later = l.later; are_later = l.are; behind = l.behind; over = h.over.rising }
sound_of k (Some (Marks m)) h =
    let l = marks_later k m h in
    record { same_ids = ids_right k h.sound.right; decided = h.sound.right.decided; later = l.later; are_later = l.are; behind = l.behind; over = h.over.rising }
sound_of k (Some (Settled s)) h =
    let l = settled_later k s h in
    record { same_ids = ids_right k h.sound.right; decided = h.sound.right.decided; later = l.later; are_later = l.are; behind = l.behind; over = h.found.over.rising }
