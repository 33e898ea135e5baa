-- What is over is forgotten
use Rattle.std.proofs.Common.{◌≡◌, ◌&&◌, Bool, true, false, not, List, map, filter, refl, sym, ap, subst, ◌∙◌}
use Rattle.std.proofs.Math.Bool.{and_comm}
use Rattle.std.proofs.lemmas.Bool.{false≢true, not-true, not_from_false}
use Rattle.roc_sequence.specs.Lists.{Has}
use Rattle.roc_sequence.specs.Places.{is_listed, IsListed, NoneTwice}
use Rattle.roc_sequence.proofs.Holds.{every_has}
use Rattle.roc_sequence.proofs.Members.{from_has_filter, from_has_flat_map, has_flat_map}
use Rattle.roc_sequence.proofs.Places.{listed_test, listed_true}
use Rattle.roc_base.specs.declared.id.TxnId.{TxnId}
use Rattle.roc_base.specs.TxnId.{is_txn}
use Rattle.roc_step.specs.Waits.{Awaited, Waiting, without_asked}
use Rattle.roc_step.specs.declared.waits.OpenFetch.{OpenFetch}
use Rattle.roc_depgraph.specs.declared.known.KnownList.{KnownList}
use Rattle.roc_depgraph.specs.Closure.{IsRisingListOf}
use Rattle.roc_depgraph.specs.Deps.{is_known, IsDecided}
use Rattle.roc_depgraph.proofs.Listed.{has_listed, listed_has}
use Rattle.roc_step.specs.Links.{without_links, AreLinksOf}
use Rattle.roc_step.specs.Below.{is_ended}
use Rattle.roc_step.specs.Forgets.{is_over, over}
use Rattle.roc_step.proofs.ForgottenLinks.{decided_left, left_decided}
use Rattle.roc_server_table.specs.Kept.{TableLists}
use Rattle.roc_server_groups.proofs.IndexSteps.{filter_both}
use Rattle.roc_server_lists.specs.declared.parts.ListParts.{ListParts}
use Rattle.roc_server_lists.specs.Inner.Keeping.{Forgets, IsOverOf}
use Rattle.roc_server_taken.specs.Components.{TakenComponents}
use Rattle.roc_server_lists.specs.Inner.Parts.{kept_in, AreConsistent, AreRightParts}
use Rattle.roc_server_lists.specs.Inner.Trials.{lists_forgetting}
use Rattle.roc_server_news.proofs.FollowedLinks.{links_left}
use Rattle.roc_server_lists.proofs.LeftSteps.{still_known}
use Rattle.roc_server_lists.proofs.SomeLeft.{members, member_all, member_some, members_once, none_of_others, not_in_two, rising_lists, some_member}

module _ (was : ListParts) (gone : List TxnId) (o : IsOverOf was gone) where
  abbrev components : List (List TxnId)
  components = was.taken.components

  abbrev passes : List TxnId → Bool
  passes c = is_over was.marks c

  abbrev forgotten : TxnId → Bool
  forgotten t = is_listed is_txn gone t

  abbrev stays : TxnId → Bool
  stays t = not (forgotten t)

  right : AreRightParts was
  right = o.right

  are : IsRisingListOf (IsListed is_txn (over was.marks components)) gone
  are = o.over

  is_forgotten : (t : TxnId) → forgotten t ≡ is_listed is_txn (over was.marks components) t
  is_forgotten t = rising_lists (over was.marks components) gone are t

  -- exactly the members of components that are over are forgotten
  in_over : (t : TxnId) → forgotten t ≡ true → (c : List TxnId) × Has c components × Has t c × (passes c ≡ true)
  in_over t e = some_member passes components t (are.sound t (listed_true is_txn gone t e))

  over_gone : (c : List TxnId) (t : TxnId) → Has c components → Has t c → passes c ≡ true → forgotten t ≡ true
  over_gone c t h k e = listed_test is_txn gone t (are.complete t (member_some passes components c t h k e))

  open_stays : (c : List TxnId) (t : TxnId) → Has c components → Has t c → passes c ≡ false → forgotten t ≡ false
  open_stays c t h k n = go (forgotten t) refl
    where
      go : (b : Bool) → forgotten t ≡ b → b ≡ false
      go true e = let d = in_over t e in absurd (not_in_two passes components right.taken_once d.0 c t d.1 h d.2 k d.3 n)
      go false e = refl

  -- they are decided, and are ended
  pub over_decided : (t : TxnId) → IsListed is_txn gone t → IsListed is_txn was.table.decided t
  over_decided t l = right.taken_decided t (member_all passes components t (are.sound t l))

  were_listed : (t : TxnId) → forgotten t ≡ true → IsListed is_txn was.table.decided t
  were_listed t e = over_decided t (listed_true is_txn gone t e)

  were_decided : (t : TxnId) → forgotten t ≡ true → IsDecided was.table.links t
  were_decided t e = right.decided.sound t (were_listed t e)

  were_ended : (t : TxnId) → forgotten t ≡ true → is_ended was.marks t ≡ true
  were_ended t e = let c = in_over t e in every_has (is_ended was.marks) c.0 c.3 t c.2

  -- ---- about all others nothing changes

  -- what is followed of what stays
  abbrev left_links : List KnownList
  left_links = map (without_links forgotten) (filter (λ k. stays k.of) was.table.links)

  -- what is open of what is left is what was asked for and is unknown
  abbrev unknown : List KnownList → OpenFetch → Bool
  unknown ks a = not (is_known ks a.id)

  abbrev some_asked : List OpenFetch
  some_asked = filter (λ a. stays a.id) was.waits.waiting.asked

  abbrev both : OpenFetch → Bool
  both a = stays a.id && unknown was.table.links a

  open_now : filter (λ a. stays a.id) was.waits.fetches ≡ filter (unknown left_links) some_asked
  open_now =
      ap (filter (λ (a : OpenFetch). stays a.id)) right.open_unknown
      ∙ filter_both (unknown was.table.links) (λ a. stays a.id) both (λ a. and_comm (unknown was.table.links a) (stays a.id)) was.waits.waiting.asked
      ∙ sym (filter_both (λ (a : OpenFetch). stays a.id) (unknown left_links) both (λ a. alike a (forgotten a.id) refl) was.waits.waiting.asked)
    where
      alike : (a : OpenFetch) (b : Bool) → forgotten a.id ≡ b → (not b && unknown left_links a) ≡ (not b && unknown was.table.links a)
      alike a true e = refl
      alike a false e = ap not (still_known was.table.links gone a.id e)

  -- ---- what is left is consistent

  module _ (table : TableLists) (waits : Awaited) (taken : TakenComponents)
      (known_are : table.known ≡ filter (λ k. stays k.of) was.table.known) (links_are : table.links ≡ left_links)
      (decided_are : IsRisingListOf (λ t. IsListed is_txn was.table.decided t × (is_listed is_txn gone t ≡ false)) table.decided)
      (waiting_is : waits.waiting ≡ without_asked forgotten was.waits.waiting) (fetches_are : waits.fetches ≡ filter (λ a. stays a.id) was.waits.fetches)
      (taken_are : taken.components ≡ filter (λ c. not (passes c)) components) where
    abbrev new : ListParts
    new = record was { table = table; waits = waits; taken = taken }

    still_decided : (t : TxnId) → IsListed is_txn table.decided t → IsDecided table.links t
    still_decided t l =
        let p = decided_are.sound t l in
        subst (λ ks. IsDecided ks t) (sym links_are) (decided_left forgotten was.table.links t (right.decided.sound t p.0) p.1)

    decided_still : (t : TxnId) → IsDecided table.links t → IsListed is_txn table.decided t
    decided_still t d =
        let p = left_decided forgotten was.table.links were_decided t (subst (λ ks. IsDecided ks t) links_are d) in
        decided_are.complete t (right.decided.complete t p.0, p.1)

    asked_are : waits.waiting.asked ≡ some_asked
    asked_are = ap (λ (w : Waiting). w.asked) waiting_is

    open_members : (t : TxnId) → IsListed is_txn (members taken.components) t → IsListed is_txn (members components) t × (forgotten t ≡ false)
    open_members t l =
        let p = some_member (λ c. not (passes c)) components t (subst (λ cs. IsListed is_txn (members cs) t) taken_are l) in
        (has_listed (members components) t (has_flat_map (λ c. c) t p.0 components p.1 p.2), open_stays p.0 t p.1 p.2 (not-true (passes p.0) p.3))

    members_open : (t : TxnId) → IsListed is_txn (members components) t → forgotten t ≡ false → IsListed is_txn (members taken.components) t
    members_open t l n =
        let c = from_has_flat_map (λ c. c) t components (listed_has (members components) t l) in
        subst (λ cs. IsListed is_txn (members cs) t) (sym taken_are)
        (member_some (λ c. not (passes c)) components c.0 t c.1 c.2 (not_from_false (passes c.0) (go c.0 c.1 c.2 (passes c.0) refl)))
      where
        go : (c : List TxnId) → Has c components → Has t c → (b : Bool) → passes c ≡ b → b ≡ false
        go c h k true e = absurd (false≢true (sym n ∙ over_gone c t h k e))
        go c h k false e = refl

    linked_now : AreLinksOf (is_ended was.marks) table.known table.links
    linked_now =
        subst (λ ks. AreLinksOf (is_ended was.marks) ks table.links) (sym known_are)
        (subst (AreLinksOf (is_ended was.marks) (filter (λ k. stays k.of) was.table.known)) (sym links_are)
        (links_left (is_ended was.marks) forgotten were_ended stays was.table.known was.table.links right.linked))

    right_now : AreRightParts new
    right_now = record {
      decided = record { rising = decided_are.rising; sound = still_decided; complete = decided_still };
      open_unknown = fetches_are ∙ open_now ∙ (λ i. filter (unknown (sym links_are i)) (sym asked_are i));
      linked = linked_now;
      taken_decided = λ t l. let p = open_members t l in decided_are.complete t (right.taken_decided t p.0, p.1);
      decided_taken = λ t l. let p = decided_are.sound t l in members_open t (right.decided_taken t p.0) p.1;
      taken_once = subst (λ cs. NoneTwice is_txn (members cs)) (sym taken_are) (members_once (λ c. not (passes c)) components right.taken_once);
      taken_some = λ c h. right.taken_some c (from_has_filter (λ c. not (passes c)) c components (subst (Has c) taken_are h)).0;
    }

    forgotten_now : AreConsistent new
    forgotten_now = record { right = right_now; none_over = ap (over was.marks) taken_are ∙ ap members (none_of_others passes components) }

    kept_now : kept_in new ≡ lists_forgetting (kept_in was)
    kept_now i = record {
      lists = record {
        known = (known_are ∙ (λ j. filter (λ (k : KnownList). not (is_forgotten k.of j)) was.table.known)) i;
        links = (links_are ∙ (λ j. map (without_links (λ t. is_forgotten t j)) (filter (λ (k : KnownList). not (is_forgotten k.of j)) was.table.links))) i;
        waiting = (waiting_is ∙ (λ j. without_asked (λ t. is_forgotten t j) was.waits.waiting)) i;
        taken = taken_are i;
      };
      below = was.marks;
    }

    pub forgets : Forgets was new
    forgets = record { kept = kept_now; sound = forgotten_now }
