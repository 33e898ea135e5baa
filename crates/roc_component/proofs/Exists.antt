-- Every set has a component order
use Rattle.std.proofs.Common.{◌≡◌, ℕ, zero, suc, ◌-◌, ◌≤◌, Bool, true, ◌&&◌, ◌||◌, not, List, [], ◌∷◌, map, filter, length, Option, Some, None, refl, sym, ap, subst, ◌∙◌, inl, inr, IsTrue, arith}
use Rattle.std.proofs.lemmas.Bool.{false≢true, or_cases, or_left, or_right, and_parts, and_from, not-true, not_from_false, false_from_ne_true}
use Rattle.std.specs.List.{list_any}
use Rattle.std.specs.List.Sorted.{IsStrictlySortedBy}
use Rattle.roc_sequence.specs.Lists.{Has}
use Rattle.roc_sequence.specs.Places.{IsListed, is_listed}
use Rattle.roc_sequence.proofs.Members.{has_map, from_has_map}
use Rattle.roc_sequence.proofs.Places.{listed_true, listed_test}
use Rattle.roc_sequence.proofs.Filtered.{listed_filter, from_listed_filter}
use Rattle.roc_base.specs.declared.id.TxnId.{TxnId}
use Rattle.roc_base.specs.TxnId.{is_txn, txn_cmp}
use Rattle.roc_base.specs.Equalities.{is_txn-true}
use Rattle.roc_base.proofs.Ids.{is_txn-eq}
use Rattle.roc_depgraph.specs.declared.known.KnownList.{KnownList}
use Rattle.roc_depgraph.specs.Deps.{entries_of, Precedes, PrecedesNow}
use Rattle.roc_depgraph.specs.Reach.{Reaches}
use Rattle.roc_depgraph.proofs.Chains.{weaker_chain}
use Rattle.roc_depgraph.proofs.Listed.{has_listed, listed_has}
use Rattle.roc_depgraph.proofs.RisingIds.{ids, ids_sound, ids_complete, ids_rise}
use Rattle.roc_component.proofs.Member.{Member, next_of}
use Rattle.roc_component.specs.Components.{Mates, among, IsComponentOrderOf}
use Rattle.roc_component.proofs.Front.{front_none, front_next, front_done}
use Rattle.roc_component.proofs.MembersOf.{IsMember, AreMembers}
use Rattle.roc_component.proofs.NextMember.{IsFront}
use Rattle.roc_component.proofs.Paths.{path, path_chain, chain_path}
use Rattle.roc_component.proofs.Relations.{chain_starts, mate_in}

-- ---- what tests say of edges, chains and components

module _ (known : List KnownList) (M : List TxnId) where
  abbrev A : TxnId → TxnId → Type 0
  A = among M (Precedes known)

  abbrev J : TxnId → TxnId → Type 0
  J = among M (PrecedesNow known)

  abbrev inside : Bool → TxnId → TxnId → Bool
  inside b u t = is_listed is_txn M u && (is_listed is_txn M t && b)

  abbrev edge : TxnId → TxnId → Bool
  edge u t = inside (list_any (λ d. is_txn d.from u) (entries_of known t)) u t

  abbrev now : TxnId → TxnId → Bool
  now u t = inside (list_any (λ d. is_txn d.from u && d.imm) (entries_of known t)) u t

  inside_from : (b : Bool) (u t : TxnId) → inside b u t ≡ true → IsListed is_txn M u × IsListed is_txn M t × (b ≡ true)
  inside_from b u t h =
      let p = and_parts (is_listed is_txn M u) (is_listed is_txn M t && b) h in
      let q = and_parts (is_listed is_txn M t) b p.1 in
      (listed_true is_txn M u p.0, listed_true is_txn M t q.0, q.1)

  inside_to : (b : Bool) (u t : TxnId) → IsListed is_txn M u × IsListed is_txn M t × (b ≡ true) → inside b u t ≡ true
  inside_to b u t h = and_from (is_listed is_txn M u) (is_listed is_txn M t && b) (listed_test is_txn M u h.0) (and_from (is_listed is_txn M t) b (listed_test is_txn M t h.1) h.2)

  edge_from : (u t : TxnId) → edge u t ≡ true → A u t
  edge_from u t = inside_from (list_any (λ d. is_txn d.from u) (entries_of known t)) u t

  edge_to : (u t : TxnId) → A u t → edge u t ≡ true
  edge_to u t = inside_to (list_any (λ d. is_txn d.from u) (entries_of known t)) u t

  abbrev reach : TxnId → TxnId → Bool
  reach = path edge M

  reach_from : (u t : TxnId) → reach u t ≡ true → Reaches A u t
  reach_from u t h = weaker_chain (λ a b. IsTrue (edge a b)) A edge_from u t (path_chain edge M u t h)

  reach_to : (u t : TxnId) → Reaches A u t → reach u t ≡ true
  reach_to u t p = chain_path edge M (λ a b e. (edge_from a b e).1) u t (weaker_chain A (λ a b. IsTrue (edge a b)) edge_to u t p)

  abbrev mate : TxnId → TxnId → Bool
  mate t u = is_txn t u || (reach t u && reach u t)

  mate_from : (t u : TxnId) → mate t u ≡ true → Mates A t u
  mate_from t u h =
      elim (or_cases (is_txn t u) (reach t u && reach u t) h) [
        | inl e ↦ inl (is_txn-true t u e)
        | inr k ↦ (let p = and_parts (reach t u) (reach u t) k in inr (reach_from t u p.0, reach_from u t p.1))
      ]

  mate_to : (t u : TxnId) → Mates A t u → mate t u ≡ true
  mate_to t u (inl e) = or_left (is_txn t u) (reach t u && reach u t) (is_txn-eq t u e)
  mate_to t u (inr p) = or_right (is_txn t u) (reach t u && reach u t) (and_from (reach t u) (reach u t) (reach_to t u p.0) (reach_to u t p.1))

  -- ---- the members

  abbrev S : List TxnId
  S = ids M

  abbrev described : TxnId → Member
  described t = record {
    id = t;
    mates = filter (λ u. mate t u) S;
    before = filter (λ u. reach u t && not (mate t u)) S;
    immediate = filter (λ u. now u t && mate t u) S;
  }

  module _ (t : TxnId) (h : IsListed is_txn M t) where
    mates_are : (u : TxnId) → (IsListed is_txn (described t).mates u → Mates A t u) × (Mates A t u → IsListed is_txn (described t).mates u)
    mates_are u = (
      λ l. mate_from t u (from_listed_filter is_txn is_txn-true (λ v. mate t v) S u l).0,
      λ k. listed_filter is_txn is_txn-true (λ v. mate t v) S u (mate_to t u k) (ids_complete M u (mate_in (Precedes known) M t u h k)),
    )

    before_are : (u : TxnId) → (IsListed is_txn (described t).before u → Reaches A u t × ¬ Mates A t u) × (Reaches A u t × ¬ Mates A t u → IsListed is_txn (described t).before u)
    before_are u = (
      λ l. let p = and_parts (reach u t) (not (mate t u)) (from_listed_filter is_txn is_txn-true (λ v. reach v t && not (mate t v)) S u l).0 in
          (reach_from u t p.0, λ k. false≢true (sym (not-true (mate t u) p.1) ∙ mate_to t u k)),
      λ k. listed_filter is_txn is_txn-true (λ v. reach v t && not (mate t v)) S u
          (and_from (reach u t) (not (mate t u)) (reach_to u t k.0) (not_from_false (mate t u) (false_from_ne_true (mate t u) (λ m. k.1 (mate_from t u m)))))
          (ids_complete M u (chain_starts (Precedes known) M u t k.0)),
    )

    immediate_are : (u : TxnId) → (IsListed is_txn (described t).immediate u → J u t × Mates A t u) × (J u t × Mates A t u → IsListed is_txn (described t).immediate u)
    immediate_are u = (
      λ l. let p = and_parts (now u t) (mate t u) (from_listed_filter is_txn is_txn-true (λ v. now v t && mate t v) S u l).0 in
          (inside_from (list_any (λ d. is_txn d.from u && d.imm) (entries_of known t)) u t p.0, mate_from t u p.1),
      λ k. listed_filter is_txn is_txn-true (λ v. now v t && mate t v) S u
          (and_from (now u t) (mate t u) (inside_to (list_any (λ d. is_txn d.from u && d.imm) (entries_of known t)) u t k.0) (mate_to t u k.1))
          (ids_complete M u k.0.0),
    )

    is_member : IsMember A J (described t)
    is_member = record { mates = mates_are; before = before_are; immediate = immediate_are }

  described_ids : (us : List TxnId) → map (λ (m : Member). m.id) (map described us) ≡ us
  described_ids [] = refl
  described_ids (u ∷ us) = ap (λ l. u ∷ l) (described_ids us)

  abbrev pub members : List Member
  members = map described S

  in_ids : (u : TxnId) → Has u S → IsListed is_txn M u
  in_ids u h = ids_sound M u (has_listed S u h)

  pub are_described : AreMembers (Precedes known) (PrecedesNow known) M members
  are_described =
      record {
        rising = subst (IsStrictlySortedBy txn_cmp) (sym (described_ids S)) (ids_rise M);
        sound = λ m h. let r = from_has_map described m S h in subst (λ (v : Member). IsListed is_txn M v.id) (sym r.2) (in_ids r.0 r.1);
        complete = λ u h. (described u, has_map described u S (listed_has S u (ids_complete M u h)), refl);
        each = λ m h. let r = from_has_map described m S h in subst (IsMember A J) (sym r.2) (is_member r.0 (in_ids r.0 r.1));
      }

  -- ---- taking them one by one

  abbrev count : ℕ
  count = length (map (λ (m : Member). m.id) members)

  grown : (n : ℕ) (xs : List TxnId) → IsFront (Precedes known) (PrecedesNow known) M xs → count - length xs ≤ n → (ys : List TxnId) × IsComponentOrderOf known M ys
  grown zero xs f less = go (next_of xs members) refl
    where
      go : (o : Option TxnId) → next_of xs members ≡ o → (ys : List TxnId) × IsComponentOrderOf known M ys
      go None e = (xs, front_done (Precedes known) (PrecedesNow known) M members are_described xs f (sym e))
      go (Some x) e = (let p = (front_next (Precedes known) (PrecedesNow known) M members are_described xs _ x f (sym e) refl).1 in absurd (omega arith))
  grown (suc n) xs f less = go (next_of xs members) refl (grown n)
    where
      go : (o : Option TxnId) → next_of xs members ≡ o → ((ys : List TxnId) → IsFront (Precedes known) (PrecedesNow known) M ys → count - length ys ≤ n → (zs : List TxnId) × IsComponentOrderOf known M zs) → (ys : List TxnId) × IsComponentOrderOf known M ys
      go None e ih = (xs, front_done (Precedes known) (PrecedesNow known) M members are_described xs f (sym e))
      go (Some x) e ih = (let p = front_next (Precedes known) (PrecedesNow known) M members are_described xs _ x f (sym e) refl in let l = p.1 in ih _ p.0 (omega arith))

  pub order_of : (xs : List TxnId) × IsComponentOrderOf known M xs
  order_of = grown count [] (front_none (Precedes known) (PrecedesNow known) M) (omega arith)
