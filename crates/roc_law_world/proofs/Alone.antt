-- One transaction that nothing precedes: what is found of it in lists, and the order in which it is taken
use Rattle.std.proofs.Common.{◌≡◌, ◌≢◌, ◌↔◌, Bool, true, false, cond, List, [], ◌∷◌, Some, None, refl, sym, subst, ◌∙◌, arith, inl, inr}
use Rattle.std.specs.List.{list_any}
use Rattle.std.specs.Prelude.{unwrap_or, is_some}
use Rattle.std.proofs.lemmas.Bool.{false≢true}
use Rattle.roc_sequence.specs.Lists.{Has}
use Rattle.roc_sequence.specs.Places.{IsListed}
use Rattle.roc_sequence.proofs.Listed.{listed_one, in_one}
use Rattle.roc_base.specs.declared.id.TxnId.{TxnId}
use Rattle.roc_base.specs.TxnId.{is_txn, txn_lt}
use Rattle.roc_base.specs.Equalities.{is_txn-true, is_txn-same}
use Rattle.std.specs.List.Sorted.{IsStrictlySortedBy}
use Rattle.roc_base.proofs.Ids.{txn_lt-itself, none_rise}
use Rattle.roc_base.specs.Edge.{Dependency}
use Rattle.roc_depgraph.specs.declared.known.KnownList.{KnownList}
use Rattle.roc_depgraph.specs.Deps.{is_known, entries_of, Precedes, PrecedesNow, IsDecided}
use Rattle.roc_depgraph.specs.Reach.{Reaches, direct, through}
use Rattle.roc_component.specs.Components.{Mates, among, IsComponentOrder}
use Rattle.roc_step.specs.New.{AreNewTaken, AreDecided, AreLedTo}

-- ---- no edges

module _ (E I : TxnId → TxnId → Type 0) (no_edge : (u t : TxnId) → ¬ E u t) (no_now : (u t : TxnId) → ¬ I u t) where
  no_chain : (M : List TxnId) (u t : TxnId) → ¬ Reaches (among M E) u t
  no_chain M u _ (direct {t = t} e) = no_edge u t e.2
  no_chain M u _ (through {s = s} {t = t} r e) = no_edge s t e.2

  its_mate : (M : List TxnId) (a z : TxnId) → Mates (among M E) a z → a ≡ z
  its_mate M a z (inl e) = e
  its_mate M a z (inr r) = absurd (no_chain M a z r.0)

  pub none_ordered : IsComponentOrder E I [] []
  none_ordered = record { once = tt; from = λ x h. h; all = λ x h. h; next = λ x h. absurd (omega arith) }

  pub one_ordered : (t : TxnId) → IsComponentOrder E I (t ∷ []) (t ∷ [])
  one_ordered t =
      record {
        once = (λ h. absurd (omega arith), tt);
        from = λ x h. h;
        all = λ x h. h;
        next = λ x h. record {
          ready = λ p y m e n. absurd (no_edge p y e.2);
          ends = λ y z k m l n. absurd (omega arith);
          least = λ z k l n r. (x, h, inl refl, λ b. not_less z x (only z l ∙ sym (only x h)) b);
          inside = inl (λ p m i. absurd (no_now p x i.2), λ z m n f b. not_less z x (sym (its_mate (t ∷ []) x z m)) b);
        };
      }
    where
      only : (u : TxnId) → IsListed is_txn (t ∷ []) u → u ≡ t
      only u h = listed_one is_txn is_txn-true is_txn-same t u h

      not_less : (z x : TxnId) → z ≡ x → ¬ (txn_lt z x ≡ true)
      not_less z x e b = false≢true (sym (txn_lt-itself x) ∙ subst (λ u. txn_lt u x ≡ true) e b)

-- ---- no lists are known

none_decided : (u : TxnId) → ¬ IsDecided [] u
none_decided u d = false≢true d.own

pub decided_of_none : AreDecided [] []
decided_of_none = record { rising = none_rise; sound = λ u h. absurd (omega arith); complete = λ u d. absurd (none_decided u d) }

pub led_to_none : (known : List KnownList) → AreLedTo known [] []
led_to_none known = record { rising = none_rise; sound = λ u h. absurd (omega arith); complete = λ u l. absurd (l.1.is) }

pub new_of_none : AreNewTaken (IsDecided []) [] []
new_of_none =
    record {
      members = record { only = λ u h. absurd (omega arith); all = λ u n. absurd (none_decided u n.0) };
      taken = record {
        order = none_ordered (Precedes []) (PrecedesNow []) (λ u t e. false≢true e) (λ u t e. false≢true e);
        some = λ c h. absurd h;
        mates = λ c h. absurd h;
      };
    }

-- nothing is newly taken where what is followed stays
pub none_new : (links : List KnownList) → AreNewTaken (IsDecided links) links []
none_new links =
    record {
      members = record { only = λ u h. absurd (omega arith); all = λ u n. absurd (n.1 n.0) };
      taken = record {
        order = record { once = tt; from = λ x h. h; all = λ x h. h; next = λ x h. absurd (omega arith) };
        some = λ c h. absurd h;
        mates = λ c h. absurd h;
      };
    }

-- ---- one list is known, and has no entries

module _ (id : TxnId) where
  abbrev lists : List KnownList
  lists = record { of = id; edges = [] } ∷ []

  empty : (p : Dependency → Bool) (t : TxnId) → ¬ (list_any p (entries_of lists t) ≡ true)
  empty p t = go (is_txn id t)
    where
      go : (b : Bool) → ¬ (list_any p (unwrap_or (cond b (Some []) None) []) ≡ true)
      go true e = false≢true e
      go false e = false≢true e

  no_chain_there : (u t : TxnId) → ¬ Reaches (Precedes lists) u t
  no_chain_there u _ (direct {t = t} e) = empty _ t e
  no_chain_there u _ (through {s = s} {t = t} r e) = empty _ t e

  known_one : (u : TxnId) → is_known lists u ≡ true → u ≡ id
  known_one u h = go (is_txn id u) refl h
    where
      go : (b : Bool) → is_txn id u ≡ b → is_some {T = List Dependency} (cond b (Some []) None) ≡ true → u ≡ id
      go true e k = sym (is_txn-true id u e)
      go false e k = absurd (false≢true k)

  it_is_known : is_known lists id ≡ true
  it_is_known = subst (λ b. is_some {T = List Dependency} (cond b (Some []) None) ≡ true) (sym (is_txn-same id)) refl

  it_is_decided : IsDecided lists id
  it_is_decided = record { own = it_is_known; ancestors = λ u r. absurd (no_chain_there u id r) }

  no_edge_there : (u t : TxnId) → ¬ Precedes lists u t
  no_edge_there u t = empty _ t

  no_now_there : (u t : TxnId) → ¬ PrecedesNow lists u t
  no_now_there u t = empty _ t

  in_alone : (t : TxnId) → Has t (id ∷ []) → t ≡ id
  in_alone t (inl e) = e
  in_alone t (inr h) = absurd h

  mates_alone : (c : List TxnId) → c ≡ id ∷ [] → (t u : TxnId) → Has t c → Mates (among (id ∷ []) (Precedes lists)) t u ↔ Has u c
  mates_alone c is t u h =
      let t_is = in_alone t (subst (Has t) is h) in (
        λ m. subst (Has u) (sym is) (inl (sym (its_mate (Precedes lists) (PrecedesNow lists) no_edge_there no_now_there (id ∷ []) t u m) ∙ t_is)),
        λ k. inl (t_is ∙ sym (in_alone u (subst (Has u) is k))),
      )

  some_alone : (c : List TxnId) → c ≡ id ∷ [] → c ≢ []
  some_alone c is e = let none : id ∷ [] ≡ [] = sym is ∙ e in absurd (cc)

  of_alone : (c : List TxnId) → Has c ((id ∷ []) ∷ []) → c ≡ id ∷ []
  of_alone c (inl e) = e
  of_alone c (inr h) = absurd h

  pub decided_alone : AreDecided lists (id ∷ [])
  unfolding IsStrictlySortedBy
  decided_alone =
      record {
        rising = (tt, tt);
        sound = λ u h. subst (IsDecided lists) (sym (listed_one is_txn is_txn-true is_txn-same id u h)) it_is_decided;
        complete = λ u d. subst (IsListed is_txn (id ∷ [])) (sym (known_one u d.own)) (in_one is_txn is_txn-true is_txn-same id);
      }

  pub new_alone : AreNewTaken (IsDecided []) lists ((id ∷ []) ∷ [])
  new_alone =
      record {
        members = record {
          only = λ u h. (subst (IsDecided lists) (sym (listed_one is_txn is_txn-true is_txn-same id u h)) it_is_decided, none_decided u);
          all = λ u n. subst (IsListed is_txn (id ∷ [])) (sym (known_one u n.0.own)) (in_one is_txn is_txn-true is_txn-same id);
        };
        taken = record {
          order = one_ordered (Precedes lists) (PrecedesNow lists) no_edge_there no_now_there id;
          some = λ c h. some_alone c (of_alone c h);
          mates = λ c h. mates_alone c (of_alone c h);
        };
      }
