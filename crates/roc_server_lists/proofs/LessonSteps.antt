-- What was found of lists that are taught is kept
use Rattle.std.proofs.Common.{◌≡◌, ◌≢◌, Bool, true, List, [], ◌++◌, not, filter, sym, ap, subst, ◌∙◌, ◌⊎◌, inl, inr}
use Rattle.std.proofs.lemmas.Grind.{flat_map-append}
use Rattle.std.specs.List.{list_any, flat_map, AllByRecursion}
use Rattle.roc_sequence.specs.Lists.{Has}
use Rattle.roc_sequence.specs.Places.{IsListed, NoneTwice}
use Rattle.roc_sequence.proofs.Holds.{any_seen}
use Rattle.roc_sequence.proofs.Members.{has_append}
use Rattle.roc_sequence.proofs.Places.{listed_or_not}
use Rattle.roc_sequence.proofs.Appended.{listed_front, listed_behind, listed_either, NoneTwice-append}
use Rattle.roc_base.specs.declared.id.TxnId.{TxnId}
use Rattle.roc_base.specs.TxnId.{is_txn}
use Rattle.roc_base.specs.Equalities.{is_txn-same}
use Rattle.roc_step.specs.Waits.{with_all_asked}
use Rattle.roc_step.specs.declared.waits.OpenFetch.{OpenFetch}
use Rattle.roc_await.proofs.OpenFetches.{some_all_asked}
use Rattle.roc_depgraph.specs.declared.known.KnownList.{KnownList}
use Rattle.roc_depgraph.specs.Deps.{is_known, IsDecided}
use Rattle.roc_depgraph.proofs.Laws.{decided_stays}
use Rattle.roc_step.specs.Asking.{open_after}
use Rattle.roc_step.specs.Below.{is_ended}
use Rattle.roc_step.specs.Links.{AreLinksOf}
use Rattle.roc_step.specs.New.{AreNewTaken}
use Rattle.roc_server_lists.specs.declared.parts.ListParts.{ListParts}
use Rattle.roc_server_lists.specs.declared.trial.Lesson.{Lesson}
use Rattle.roc_server_taken.specs.Components.{AreOver}
use Rattle.roc_server_lists.specs.Inner.Keeping.{IsOverOf, KeepsFound}
use Rattle.roc_server_lists.specs.Inner.Parts.{kept_in, AreRightParts}
use Rattle.roc_server_lists.specs.Inner.Trials.{unlearnt, with_lists, AreListsTried}
use Rattle.roc_server_news.proofs.Learning.{keeps_front}
use Rattle.roc_server_news.proofs.NotOfNews.{unknown_not_of}
use Rattle.roc_server_lists.proofs.AlikeTests.{filter_alike}
use Rattle.roc_server_lists.proofs.SomeLeft.{among_more, more_among}

-- components that are newly decided stand beside those that were taken
pub once_more : (old more : List (List TxnId)) (decided : List TxnId) (links : List KnownList) → NoneTwice is_txn (flat_map (λ c. c) old) → ((t : TxnId) → IsListed is_txn (flat_map (λ c. c) old) t → IsListed is_txn decided t)
    → AreNewTaken (IsListed is_txn decided) links more → NoneTwice is_txn (flat_map (λ c. c) (old ++ more))
once_more old more decided links once were new =
    subst (NoneTwice is_txn) (sym (flat_map-append (λ c. c) old more))
    (NoneTwice-append is_txn is_txn-same (flat_map (λ c. c) old) (flat_map (λ c. c) more) once new.taken.order.once (λ t m l. (new.members.only t m).1 (were t l)))

pub some_more : (old more : List (List TxnId)) (decided : List TxnId) (links : List KnownList) → ((c : List TxnId) → Has c old → c ≢ []) → AreNewTaken (IsListed is_txn decided) links more → (c : List TxnId) → Has c (old ++ more) → c ≢ []
some_more old more decided links some new c has = elim (has_append c old more has) [ inl k ↦ some c k | inr k ↦ new.taken.some c k ]

module _ (k new : ListParts) (l : Lesson) (p : AreListsTried k l) (n : KeepsFound k new l.news.items l.found) where
  abbrev was : ListParts
  was = unlearnt k l

  abbrev news : List KnownList
  news = l.news.items

  abbrev linked : List KnownList
  linked = p.learnt.links.linked

  abbrev all : List KnownList
  all = was.table.links ++ linked

  abbrev ids : List TxnId
  ids = l.found.ids.items

  abbrev components : List (List TxnId)
  components = l.found.components.items

  abbrev asks : List OpenFetch
  asks = l.found.asks.items

  sound : AreRightParts was
  sound = p.sound.right

  all_is : k.table.links ≡ all
  all_is = p.learnt.links.links_are ∙ ap (λ ks. ks ++ linked) p.links_before

  links_is : all ≡ new.table.links
  links_is = sym all_is ∙ sym n.links

  chosen : AreNewTaken (IsListed is_txn was.table.decided) all components
  chosen = subst (λ (ks : List KnownList). AreNewTaken (IsListed is_txn k.table.decided) ks components) all_is p.chosen

  stays : (t : TxnId) → IsDecided was.table.links t → IsDecided all t
  stays t d = decided_stays was.table.links all (keeps_front was.table.links linked) t d

  -- what is asked for is unknown, so what is open is all that was asked for and is unknown
  abbrev unknown : List KnownList → OpenFetch → Bool
  unknown ks a = not (is_known ks a.id)

  -- the new lists and what is followed of them are of the same transactions
  of_news : (t : TxnId) → list_any (λ (k : KnownList). is_txn k.of t) news ≡ list_any (λ (k : KnownList). is_txn k.of t) linked
  of_news t = sym (any_seen (λ u. is_txn u t) (λ (k : KnownList). k.of) news) ∙ ap (list_any (λ u. is_txn u t)) (sym p.learnt.links.of) ∙ any_seen (λ u. is_txn u t) (λ (k : KnownList). k.of) linked

  unknown_asks : AllByRecursion (λ a. not (is_known all a.id) ≡ true) asks
  unknown_asks = subst (λ (ks : List KnownList). AllByRecursion (λ a. not (is_known ks a.id) ≡ true) asks) all_is p.unknown

  open_now : new.waits.fetches ≡ filter (unknown new.table.links) new.waits.waiting.asked
  open_now =
      let old = filter (unknown was.table.links) was.waits.waiting.asked in
      n.fetches
      ∙ (λ i. open_after (sound.open_unknown i) news asks)
      ∙ ap (with_all_asked asks) (filter_alike (λ (a : OpenFetch). not (list_any (λ (k : KnownList). is_txn k.of a.id) news)) (λ (a : OpenFetch). not (list_any (λ (k : KnownList). is_txn k.of a.id) linked)) old (λ a has. ap not (of_news a.id)))
      ∙ ap (with_all_asked asks) (unknown_not_of (λ (a : OpenFetch). a.id) was.table.links linked was.waits.waiting.asked)
      ∙ sym (some_all_asked (unknown all) asks was.waits.waiting.asked unknown_asks)
      ∙ (λ i. filter (unknown (links_is i)) (sym n.waiting i).asked)

  linked_now : AreLinksOf (is_ended new.marks) new.table.known new.table.links
  linked_now =
      subst (λ marks. AreLinksOf (is_ended marks) new.table.known new.table.links) (sym n.marks)
      (subst (λ ks. AreLinksOf (is_ended k.marks) ks new.table.links) (sym n.known) (subst (AreLinksOf (is_ended k.marks) k.table.known) (sym n.links) p.linked))

  decided_is : (t : TxnId) → IsListed is_txn (was.table.decided ++ ids) t → IsListed is_txn was.table.decided t ⊎ IsListed is_txn (flat_map (λ c. c) components) t
  decided_is t l = elim (listed_either is_txn was.table.decided ids t l) [ inl a ↦ inl a | inr a ↦ inr (subst (λ ts. IsListed is_txn ts t) p.ids a.1) ]

  is_decided : (t : TxnId) → IsListed is_txn was.table.decided t ⊎ IsListed is_txn (flat_map (λ c. c) components) t → IsListed is_txn (was.table.decided ++ ids) t
  is_decided t l = elim l [ inl a ↦ listed_front is_txn was.table.decided ids t a | inr a ↦ listed_behind is_txn was.table.decided ids t (subst (λ ts. IsListed is_txn ts t) (sym p.ids) a) ]

  -- so all is right
  right_after : AreRightParts new
  right_after =
      let Decided : (t : TxnId) → List KnownList → Type 0 = λ t k. IsDecided k t in
      let Members : List (List TxnId) → TxnId → Type 0 = λ cs t. IsListed is_txn (flat_map (λ c. c) cs) t in
      record {
        decided = record {
          rising = n.decided.rising;
          sound = λ t l.
              subst (Decided t) links_is
              (elim (decided_is t (n.decided.sound t l)) [ inl a ↦ stays t (sound.decided.sound t a) | inr a ↦ (chosen.members.only t a).0 ]);
          complete = λ t d.
              let now = subst (Decided t) (sym links_is) d in
              n.decided.complete t
              (is_decided t (elim (listed_or_not is_txn was.table.decided t) [ inl a ↦ inl a | inr a ↦ inr (chosen.members.all t (now, a)) ]));
        };
        open_unknown = open_now;
        linked = linked_now;
        taken_decided = λ t l.
            n.decided.complete t
            (is_decided t (elim (among_more was.taken.components components t (subst (λ cs. Members cs t) n.taken l)) [ inl a ↦ inl (sound.taken_decided t a) | inr a ↦ inr a ]));
        decided_taken = λ t l.
            subst (λ cs. Members cs t) (sym n.taken)
            (more_among was.taken.components components t (elim (decided_is t (n.decided.sound t l)) [ inl a ↦ inl (sound.decided_taken t a) | inr a ↦ inr a ]));
        taken_once = subst (λ cs. NoneTwice is_txn (flat_map (λ c. c) cs)) (sym n.taken) (once_more was.taken.components components was.table.decided all sound.taken_once sound.taken_decided chosen);
        taken_some = λ c has. some_more was.taken.components components was.table.decided all sound.taken_some chosen c (subst (Has c) n.taken has);
      }

  -- what is over is to be forgotten
  pub is_over : IsOverOf new l.over.items
  is_over = record {
    right = right_after;
    over = subst (λ marks. AreOver marks new.taken.components l.over.items) (sym n.marks) (subst (λ cs. AreOver k.marks cs l.over.items) (sym n.taken) p.over);
  }

  -- and what is kept is what the trial leaves before anything is forgotten
  pub lists_kept : kept_in new ≡ with_lists k l
  lists_kept i = record {
    lists = record { known = n.known i; links = n.links i; waiting = n.waiting i; taken = n.taken i };
    below = n.marks i;
  }
