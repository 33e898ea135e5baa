-- Who is on a cycle: members of components with several, and who precedes itself
use Rattle.std.proofs.Common.{◌≡◌, ◌≢◌, ℕ, suc, Bool, true, false, cond, nat_lt, List, [], ◌∷◌, ◌++◌, length, filter, refl, sym, subst, ◌∙◌, inl, inr, ◌⊎◌, arith}
use Rattle.std.proofs.lemmas.Bool.{false≢true}
use Rattle.std.proofs.lemmas.Bool.Decides.{nat_tests}
use Rattle.std.specs.List.{flat_map}
use Rattle.roc_sequence.specs.Lists.{Has}
use Rattle.roc_sequence.specs.Places.{IsListed, NoneTwice}
use Rattle.roc_sequence.proofs.Members.{has_left, has_right, has_append, has_flat_map, from_has_flat_map, has_filter, from_has_filter}
use Rattle.roc_sequence.proofs.Places.{listed_head}
use Rattle.roc_base.specs.declared.id.TxnId.{TxnId}
use Rattle.roc_base.specs.TxnId.{is_txn}
use Rattle.roc_base.specs.Equalities.{is_txn-same, is_txn-true}
use Rattle.roc_depgraph.specs.declared.known.KnownList.{KnownList}
use Rattle.roc_depgraph.specs.Closure.{IsRisingListOf}
use Rattle.roc_depgraph.specs.Deps.{Precedes}
use Rattle.roc_depgraph.specs.Reach.{Reaches, direct, through}
use Rattle.roc_depgraph.proofs.Chains.{joined_chain, weaker_chain}
use Rattle.roc_depgraph.proofs.Listed.{has_listed, listed_has}
use Rattle.roc_component.specs.Components.{among, Mates, AreComponentsOf}
use Rattle.roc_component.proofs.ListsWithin.{once_from_rising}
use Rattle.roc_precedence.specs.declared.pair.Pair.{Pair}
use Rattle.roc_precedence.specs.Inner.Lists.{AreListsFor, members_of_several, precedes_itself}
use Rattle.roc_precedence.specs.Pairs.{IsPaired}

-- two of a list
two_members : (c : List TxnId) (a b : TxnId) → Has a c → Has b c → a ≢ b → nat_lt 1 (length c) ≡ true
two_members [] a b p q n = elim p [ ]
two_members (x ∷ []) a b (inl e) (inl f) n = absurd (n (e ∙ sym f))
two_members (x ∷ []) a b (inl e) (inr q) n = elim q [ ]
two_members (x ∷ []) a b (inr p) q n = elim p [ ]
two_members (x ∷ y ∷ xs) a b p q n = more (length xs)
  where
    more : (n : ℕ) → nat_lt 1 (suc (suc n)) ≡ true
    more n = grind (arith, nat_tests)

-- another one of a list with several, of which none stands twice
another : (c : List TxnId) (a : TxnId) → Has a c → nat_lt 1 (length c) ≡ true
    → ((x y : TxnId) (xs : List TxnId) → c ≡ x ∷ y ∷ xs → x ≢ y) → (b : TxnId) × Has b c × (a ≢ b)
another [] a h l once = elim h [ ]
another (x ∷ []) a h l once = absurd (false≢true l)
another (x ∷ y ∷ xs) a (inl e) l once = (y, inr (inl refl), λ s. once x y xs refl (sym e ∙ s))
another (x ∷ y ∷ xs) a (inr h) l once = go (decide a x)
  where
    decide : (a x : TxnId) → (a ≡ x) ⊎ (a ≢ x)
    decide a x = at (is_txn a x) refl
      where
        at : (t : Bool) → is_txn a x ≡ t → (a ≡ x) ⊎ (a ≢ x)
        at true e = inl (is_txn-true a x e)
        at false e = inr (λ s. false≢true (sym e ∙ subst (λ v. is_txn a v ≡ true) s (is_txn-same a)))

    go : (a ≡ x) ⊎ (a ≢ x) → (b : TxnId) × Has b (x ∷ y ∷ xs) × (a ≢ b)
    go (inl e) = (y, inr (inl refl), λ s. once x y xs refl (sym e ∙ s))
    go (inr n) = (x, inl refl, n)

module _ (known : List KnownList) (set : List TxnId) (lists : List (List TxnId)) (are : AreComponentsOf known set lists) where
  abbrev E : TxnId → TxnId → Type 0
  E = among set (Precedes known)

  abbrev members : List TxnId
  members = flat_map members_of_several lists ++ filter (precedes_itself known) set

  in_several : (x : TxnId) (c : List TxnId) → Has c lists → Has x (members_of_several c) → Reaches E x x
  in_several x c has h = go (nat_lt 1 (length c)) refl h
    where
      go : (t : Bool) → nat_lt 1 (length c) ≡ t → Has x (cond t c []) → Reaches E x x
      go false e h = elim h [ ]
      go true e h =
          let is = are.each c has in
          let once = once_from_rising c is.rising in
          let other = another c x h e (λ a b xs same s. (
          let o : NoneTwice is_txn (a ∷ b ∷ xs) = subst (λ (l : List TxnId). NoneTwice is_txn l) same once in
          o.0 (subst (λ v. IsListed is_txn (b ∷ xs) v) (sym s) (listed_head is_txn b xs (is_txn-same b))))) in
          elim (is.sound x other.0 h other.1) [
            | inl s ↦ absurd (other.2 s)
            | inr p ↦ joined_chain E x other.0 x p.0 p.1
          ]

  pub from_members : (x : TxnId) → Has x members → Reaches E x x
  from_members x h =
      elim (has_append x (flat_map members_of_several lists) (filter (precedes_itself known) set) h) [
        | inl i ↦ (let r = from_has_flat_map members_of_several x lists i in in_several x r.0 r.1 r.2)
        | inr i ↦ (let r = from_has_filter (precedes_itself known) x set i in let l = has_listed set x r.0 in direct (l, l, r.1))
      ]

  mates_several : (x s : TxnId) → Mates E x s → IsListed is_txn set x → x ≢ s → Has x (flat_map members_of_several lists)
  mates_several x s m l n =
      let c = are.all x (listed_has set x l) in
      let is = are.each c.0 c.1 in
      let two = two_members c.0 x s c.2 (is.complete x s c.2 m) n in
      has_flat_map members_of_several x c.0 lists c.1 (subst (λ (t : Bool). Has x (cond t c.0 [])) (sym two) c.2)

  own_member : (u : TxnId) → E u u → Has u members
  own_member u e = has_right u (flat_map members_of_several lists) (filter (precedes_itself known) set) (has_filter (precedes_itself known) u set (listed_has set u e.0) e.2)

  by_mate : (u s : TxnId) → Reaches E u s → E s u → (t : Bool) → is_txn u s ≡ t → Has u members
  by_mate u s p e true k = let same = is_txn-true u s k in own_member u (subst (λ v. E v u) (sym same) e)
  by_mate u s p e false k =
      has_left u (flat_map members_of_several lists) (filter (precedes_itself known) set)
      (mates_several u s (inr (p, direct e)) e.1 (λ same. false≢true (sym k ∙ subst (λ v. is_txn u v ≡ true) same (is_txn-same u))))

  around_member : (u t : TxnId) → Reaches E u t → t ≡ u → Has u members
  around_member u t (direct e) same = own_member u (subst (λ v. E u v) same e)
  around_member u t (through {s} p e) same = by_mate u s p (subst (λ v. E s v) same e) (is_txn u s) refl

  pub to_members : (x : TxnId) → Reaches E x x → Has x members
  to_members x r = around_member x x r refl

  pub around_for : (met found : List TxnId) → met ≡ members → IsRisingListOf (IsListed is_txn met) found → IsRisingListOf (λ x. Reaches E x x) found
  around_for met found same h = record {
    rising = h.rising;
    sound = λ u l. from_members u (subst (λ (xs : List TxnId). Has u xs) same (listed_has met u (h.sound u l)));
    complete = λ u r. h.complete u (has_listed met u (subst (λ (xs : List TxnId). Has u xs) (sym same) (to_members u r)));
  }

-- by other words for the same edges and the same members
module _ (ids set met : List TxnId) (pairs : List Pair) (known : List KnownList) (all : IsRisingListOf (IsListed is_txn ids) set) (seen : met ≡ set) (are : AreListsFor pairs met known) where
  member : (t : TxnId) → IsListed is_txn met t → IsListed is_txn ids t
  member t l = all.sound t (subst (λ xs. IsListed is_txn xs t) seen l)

  met_member : (t : TxnId) → IsListed is_txn ids t → IsListed is_txn met t
  met_member t l = subst (λ xs. IsListed is_txn xs t) (sym seen) (all.complete t l)

  pub circles_for : (found : List TxnId) → IsRisingListOf (λ x. Reaches (among met (Precedes known)) x x) found → IsRisingListOf (λ x. Reaches (among ids (IsPaired pairs)) x x) found
  circles_for found h = record {
    rising = h.rising;
    sound = λ u l. weaker_chain (among met (Precedes known)) (among ids (IsPaired pairs)) (λ a b e. (member a e.0, member b e.1, (are.each b e.1 a).0 e.2)) u u (h.sound u l);
    complete = λ u r. h.complete u (weaker_chain (among ids (IsPaired pairs)) (among met (Precedes known)) (λ a b e. (met_member a e.0, met_member b e.1, (are.each b (met_member b e.1) a).1 e.2)) u u r);
  }
