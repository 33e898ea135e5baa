-- Lacks, once one more list is known
use Rattle.std.proofs.Common.{◌≡◌, ◌⊎◌, inl, inr, ◌<◌, Bool, true, false, not, List, [], ◌∷◌, ◌++◌, length, map, filter, None, is_some, refl, sym, ap, subst, ◌∙◌, arith}
use Rattle.std.proofs.lemmas.Bool.{false≢true, not-true, eqb-true, eqb-false}
use Rattle.roc_sequence.specs.Lists.{Has}
use Rattle.roc_sequence.specs.Places.{IsListed, is_listed}
use Rattle.roc_sequence.proofs.Appended.{listed_front, listed_behind, listed_either}
use Rattle.roc_sequence.proofs.Filtered.{listed_filter, from_listed_filter}
use Rattle.roc_sequence.proofs.Holds.{all_has, has_all}
use Rattle.roc_sequence.proofs.Members.{has_filter, from_has_filter}
use Rattle.roc_sequence.proofs.Places.{listed_true, listed_test, listed_head}
use Rattle.roc_base.specs.declared.id.TxnId.{TxnId}
use Rattle.roc_base.specs.TxnId.{is_txn}
use Rattle.roc_base.specs.Equalities.{is_txn-true, is_txn-same}
use Rattle.roc_base.specs.Edge.{Dependency}
use Rattle.roc_depgraph.specs.declared.known.KnownList.{KnownList}
use Rattle.roc_depgraph.specs.Closure.{IsRisingListOf}
use Rattle.roc_depgraph.specs.Deps.{list_of, is_known, IsKnown, IsDecided, learnt}
use Rattle.roc_depgraph.proofs.Decided.{known_of_decided}
use Rattle.roc_depgraph.proofs.Laws.{learnt_keeps, list_of-learnt_other, known_stays, decided_stays}
use Rattle.roc_depgraph.proofs.Listed.{has_under, under_has}
use Rattle.roc_await.specs.declared.lack.Lack.{Lack}
use Rattle.roc_await.specs.Lacks.{IsMissing, IsLack, AreLacks, AreDecidedBy}
use Rattle.roc_await.specs.Inner.Grown.{IsGrown, Grows, AreGrown, GrewFrom, others, lacks_none}
use Rattle.roc_await.specs.Inner.Taken.{AreLacksNow, AreLacksSince}
use Rattle.roc_await.proofs.OneMore.{u_known, u_unknown, unknown_other, missing_stays, missing_through, missing_split}
use Rattle.roc_await.proofs.NamedMissing.{other_test, test_other}

-- ---- what is missing, and what is decided

none_decided : (known : List KnownList) (l : Lack) → IsLack known l → lacks_none l ≡ true → IsDecided known l.of
none_decided known l lack none = record { own = lack.known_of; ancestors = λ v p. go v (is_known known v) refl (λ n. lack.missing.complete v (inr p, n)) }
  where
    empty : length l.missing ≡ 0
    empty = eqb-true (length l.missing) 0 none

    go : (v : TxnId) (b : Bool) → is_known known v ≡ b → ((IsKnown known v → ⊥) → IsListed is_txn l.missing v) → IsKnown known v
    go v true e listed = e
    go v false e listed = let h = listed (λ k. false≢true (sym e ∙ k)) in absurd (omega (arith, h, empty))

pub some_undecided : (known : List KnownList) (l : Lack) → IsLack known l → 0 < length l.missing → ¬ IsDecided known l.of
some_undecided known l lack some d = go l.missing refl some
  where
    go : (ids : List TxnId) → l.missing ≡ ids → 0 < length ids → ⊥
    go [] e h = absurd (omega arith)
    go (v ∷ vs) e h =
        let m : IsMissing known l.of v = lack.missing.sound v (subst (λ ids. IsListed is_txn ids v) (sym e) (listed_head is_txn v vs (is_txn-same v))) in
        m.1 (known_of_decided known l.of d v m.0)

some_of_test : (l : Lack) → lacks_none l ≡ false → 0 < length l.missing
some_of_test l e = let n = eqb-false (length l.missing) 0 e in omega arith

module _ (known : List KnownList) (u : TxnId) (edges : List Dependency) (none : list_of u known ≡ None) (fresh : List TxnId) (are_fresh : IsRisingListOf (IsMissing (learnt known u edges) u) fresh) where
  abbrev more : List KnownList
  more = learnt known u edges

  -- ---- one lack

  module _ (old new : Lack) (lack : IsLack known old) where
    placed : IsListed is_txn old.missing u → IsRisingListOf (IsListed is_txn (others u old.missing ++ fresh)) new.missing → IsRisingListOf (IsMissing more old.of) new.missing
    placed waits m = record {
      rising = m.rising;
      sound = λ v l. from_either v (listed_either is_txn (others u old.missing) fresh v (m.sound v l));
      complete = λ v h. m.complete v (elim (missing_split known u edges none old.of v h) [
        | inl k ↦ listed_front is_txn (others u old.missing) fresh v (listed_filter is_txn is_txn-true (λ v. not (is_txn v u)) old.missing v (other_test u v (unknown_other known u edges none v h.1)) (lack.missing.complete v k))
        | inr w ↦ listed_behind is_txn (others u old.missing) fresh v (are_fresh.complete v w.1)
      ]);
    }
      where
        from_either : (v : TxnId) → IsListed is_txn (others u old.missing) v ⊎ ((¬ IsListed is_txn (others u old.missing) v) × IsListed is_txn fresh v) → IsMissing more old.of v
        from_either v (inl l) =
            let f = from_listed_filter is_txn is_txn-true (λ v. not (is_txn v u)) old.missing v l in
            missing_stays known u edges none old.of v (lack.missing.sound v f.1) (test_other u v f.0)
        from_either v (inr l) = missing_through known u edges none old.of v (lack.missing.sound u waits) (are_fresh.sound v l.1)

    kept : is_listed is_txn old.missing u ≡ false → new.missing ≡ old.missing → IsRisingListOf (IsMissing more old.of) new.missing
    kept absent same = subst (IsRisingListOf (IsMissing more old.of)) (sym same) (record {
      rising = lack.missing.rising;
      sound = λ v l. missing_stays known u edges none old.of v (lack.missing.sound v l) (λ e. never (subst (IsListed is_txn old.missing) e l));
      complete = λ v h. elim (missing_split known u edges none old.of v h) [
        | inl k ↦ lack.missing.complete v k
        | inr w ↦ absurd (never (lack.missing.complete u w.0))
      ];
    })
      where
        never : IsListed is_txn old.missing u → ⊥
        never l = false≢true (sym absent ∙ listed_test is_txn old.missing u l)

    grown_missing : (b : Bool) → is_listed is_txn old.missing u ≡ b → Grows old.missing u fresh new.missing b → IsRisingListOf (IsMissing more old.of) new.missing
    grown_missing true e g = placed (listed_true is_txn old.missing u e) g
    grown_missing false e g = kept e g

    lack_grows : IsGrown u fresh old new → IsLack more new
    lack_grows g = record {
      known_of = subst (IsKnown more) (sym g.of) (known_stays known more (learnt_keeps known u edges) old.of lack.known_of);
      missing = subst (λ t. IsRisingListOf (IsMissing more t) new.missing) (sym g.of) (grown_missing (is_listed is_txn old.missing u) refl g.missing);
    }

  -- ---- all lacks

  own_lack : IsLack more (record { of = u; missing = fresh })
  own_lack = record { known_of = u_known known u edges none; missing = are_fresh }

  module _ (before : List KnownList) (olds news : List Lack) (since : AreLacksSince before known olds) (g : AreGrown u fresh olds news) where
    still_lack : (l : Lack) → GrewFrom u fresh olds l → IsLack more l
    still_lack l w = lack_grows w.old l (since.each w.old w.there) w.grown

    -- u was unknown even before
    u_undecided : ¬ IsDecided before u
    u_undecided d = u_unknown known u edges none (known_stays before known since.keeps u d.own)

    of_known : (t : TxnId) → IsKnown more t → IsDecided before t ⊎ ((l : Lack) × Has l news × (l.of ≡ t))
    of_known t k = go (is_txn u t) refl
      where
        go : (b : Bool) → is_txn u t ≡ b → IsDecided before t ⊎ ((l : Lack) × Has l news × (l.of ≡ t))
        go true e = inr (record { of = u; missing = fresh }, g.own, is_txn-true u t e)
        go false e =
            let back : IsKnown known t = subst (λ o. is_some o ≡ true) (list_of-learnt_other known u edges t e) k in
            elim (since.all t back) [
              | inl d ↦ inl d
              | inr w ↦ (let n = g.each w.0 w.1 in inr (n.new, n.there, n.of ∙ w.2))
            ]

    pub grown_since : AreLacksSince before more news
    grown_since = record {
      keeps = λ t k. learnt_keeps known u edges t (known_stays before known since.keeps t k) ∙ since.keeps t k;
      each = λ l h. elim (g.only l h) [ inl w ↦ still_lack l w | inr e ↦ subst (IsLack more) (sym e) own_lack ];
      undecided = λ l h d. elim (g.only l h) [
        | inl w ↦ since.undecided w.old w.there (subst (IsDecided before) w.grown.of d)
        | inr e ↦ u_undecided (subst (λ (x : Lack). IsDecided before x.of) e d)
      ];
      all = of_known;
    }

-- ---- from what was lacking before to what is lacking now

pub lacks_since : (before : List KnownList) (lacks : List Lack) → AreLacks before lacks → AreLacksSince before before lacks
lacks_since before lacks are = record {
  keeps = λ t k. refl;
  each = λ l h. all_has (IsLack before) l lacks are.each h;
  undecided = λ l h. some_undecided before l (all_has (IsLack before) l lacks are.each h) (all_has (λ (x : Lack). 0 < length x.missing) l lacks are.some h);
  all = λ t k. elim (are.all t k) [ inl d ↦ inl d | inr l ↦ inr (has_under (λ (x : Lack). x.of) lacks t l) ];
}

-- where lists were only learnt, what was decided stays so
pub since_now : (before known : List KnownList) (lacks : List Lack) → AreLacksSince before known lacks → AreLacksNow before known lacks
since_now before known lacks since = record { stays = decided_stays before known since.keeps; each = since.each; undecided = since.undecided; all = since.all }

module _ (before known : List KnownList) (lacks : List Lack) (now : AreLacksNow before known lacks) where
  abbrev lacks_some : Lack → Bool
  lacks_some l = not (lacks_none l)

  pub some_left : AreLacks known (filter lacks_some lacks)
  some_left = record {
    each = has_all (IsLack known) (filter lacks_some lacks) (λ l h. now.each l (from_has_filter lacks_some l lacks h).0);
    some = has_all (λ (l : Lack). 0 < length l.missing) (filter lacks_some lacks) (λ l h. some_of_test l (not-true (lacks_none l) (from_has_filter lacks_some l lacks h).1));
    all = λ t k. elim (now.all t k) [ inl d ↦ inl (now.stays t d) | inr w ↦ go t w.0 w.1 w.2 (lacks_none w.0) refl ];
  }
    where
      go : (t : TxnId) (l : Lack) → Has l lacks → l.of ≡ t → (b : Bool) → lacks_none l ≡ b → IsDecided known t ⊎ IsListed is_txn (map (λ l. l.of) (filter lacks_some lacks)) t
      go t l h e true n = inl (subst (IsDecided known) e (none_decided known l (now.each l h) n))
      go t l h e false n =
          inr (subst (IsListed is_txn (map (λ l. l.of) (filter lacks_some lacks))) e
          (under_has (λ (x : Lack). x.of) (filter lacks_some lacks) l (has_filter lacks_some l lacks h (ap not n))))

  pub newly : AreDecidedBy before known (map (λ l. l.of) (filter lacks_none lacks))
  newly = record {
    only = λ t h.
        let w = has_under (λ (x : Lack). x.of) (filter lacks_none lacks) t h in
        let f = from_has_filter lacks_none w.0 lacks w.1 in
        (subst (IsDecided known) w.2 (none_decided known w.0 (now.each w.0 f.0) f.1), λ d. now.undecided w.0 f.0 (subst (IsDecided before) (sym w.2) d));
    all = λ t d n. elim (now.all t d.own) [ inl was ↦ absurd (n was) | inr w ↦ go t w.0 w.1 w.2 d (lacks_none w.0) refl ];
  }
    where
      go : (t : TxnId) (l : Lack) → Has l lacks → l.of ≡ t → IsDecided known t → (b : Bool) → lacks_none l ≡ b → IsListed is_txn (map (λ l. l.of) (filter lacks_none lacks)) t
      go t l h e d true n = subst (IsListed is_txn (map (λ l. l.of) (filter lacks_none lacks))) e (under_has (λ (x : Lack). x.of) (filter lacks_none lacks) l (has_filter lacks_none l lacks h n))
      go t l h e d false n = absurd (some_undecided known l (now.each l h) (some_of_test l n) (subst (IsDecided known) (sym e) d))

-- the same ids in another order, and each once
pub same_decided : (before known : List KnownList) (ids rising : List TxnId) → AreDecidedBy before known ids → IsRisingListOf (IsListed is_txn ids) rising → AreDecidedBy before known rising
same_decided before known ids rising d r = record { only = λ t l. d.only t (r.sound t l); all = λ t k n. r.complete t (d.all t k n) }
