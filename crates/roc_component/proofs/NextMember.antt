-- The member that comes next is the one that the rule names
use Rattle.std.proofs.Common.{◌≡◌, not, true, List, filter, find, Option, Some, None, refl, sym, ◌∙◌, subst, ◌⊎◌, inl, inr}
use Rattle.std.proofs.lemmas.Bool.{false≢true, and_parts, and_from, not-true, not_from_false, cases_order, false_from_ne_true}
use Rattle.std.specs.List.{list_any, list_all}
use Rattle.std.specs.Option.{option_or, option_map}
use Rattle.roc_sequence.specs.Lists.{Has}
use Rattle.roc_sequence.specs.Places.{place_of, IsListed, IsListedBefore, NoneTwice, is_listed}
use Rattle.roc_sequence.proofs.Found.{found_has, none_passes}
use Rattle.roc_sequence.proofs.Holds.{any_has, has_any, every_has, has_every}
use Rattle.roc_depgraph.proofs.Listed.{has_listed, listed_has}
use Rattle.roc_sequence.proofs.Places.{listed_true, listed_test, listed_or_not, listed_by_before, same_place}
use Rattle.roc_sequence.proofs.Filtered.{listed_filter, from_listed_filter}
use Rattle.roc_base.specs.declared.id.TxnId.{TxnId}
use Rattle.roc_base.specs.TxnId.{is_txn, txn_lt}
use Rattle.roc_base.specs.Equalities.{is_txn-true}
use Rattle.roc_depgraph.specs.Reach.{Reaches, direct, through, ReachesOrIs}
use Rattle.roc_depgraph.proofs.Chains.{chain_before}
use Rattle.roc_component.proofs.Member.{Member}
use Rattle.roc_component.specs.Components.{Mates, IsFree, IsNextInside, IsReady, IsNext, among}
use Rattle.roc_component.proofs.Member.{is_left, is_begun, is_ready, is_left_of, is_free, next_component, next_inside, next_of}
use Rattle.roc_component.proofs.Least.{some_low, found_least}
use Rattle.roc_component.proofs.MembersOf.{AreMembers}
use Rattle.roc_component.proofs.Relations.{chain_starts, mate_in, mates_sym, mates_trans, mates_reach, mates_from, reach_trans, ready_mate}

-- some members of M, each at the place at which the rule takes it
pub record IsFront (E I : TxnId → TxnId → Type 0) (M xs : List TxnId) : Type 0 where
  pub once : NoneTwice is_txn xs
  pub from : (x : TxnId) → IsListed is_txn xs x → IsListed is_txn M x
  pub next : (x : TxnId) → IsListed is_txn xs x → IsNext (among M E) (among M I) M (λ u. IsListedBefore is_txn xs u x) x

-- what the tests of a member say
module _ (xs : List TxnId) where
  abbrev T : TxnId → Type 0
  T = IsListed is_txn xs

  left_to : (m : Member) → is_left xs m ≡ true → ¬ T m.id
  left_to m h t = false≢true (sym (not-true (is_listed is_txn xs m.id) h) ∙ listed_test is_txn xs m.id t)

  left_from : (m : Member) → ¬ T m.id → is_left xs m ≡ true
  left_from m n = not_from_false (is_listed is_txn xs m.id) (false_from_ne_true (is_listed is_txn xs m.id) (λ h. n (listed_true is_txn xs m.id h)))

  all_to : (ids : List TxnId) → list_all (is_listed is_txn xs) ids ≡ true → (u : TxnId) → IsListed is_txn ids u → T u
  all_to ids h u l = listed_true is_txn xs u (every_has (is_listed is_txn xs) ids h u (listed_has ids u l))

  all_from : (ids : List TxnId) → ((u : TxnId) → IsListed is_txn ids u → T u) → list_all (is_listed is_txn xs) ids ≡ true
  all_from ids h = has_every (is_listed is_txn xs) ids (λ u k. listed_test is_txn xs u (h u (has_listed ids u k)))

  pub begun_to : (m : Member) → is_begun xs m ≡ true → (¬ T m.id) × ((u : TxnId) × IsListed is_txn m.mates u × T u)
  begun_to m h =
      let q = and_parts (is_left xs m) (list_any (is_listed is_txn xs) m.mates) h in
      let u = any_has (is_listed is_txn xs) m.mates q.1 in
      (left_to m q.0, (u.0, has_listed m.mates u.0 u.1, listed_true is_txn xs u.0 u.2))

  begun_from : (m : Member) → ¬ T m.id → (u : TxnId) → IsListed is_txn m.mates u → T u → is_begun xs m ≡ true
  begun_from m n u l t = and_from (is_left xs m) (list_any (is_listed is_txn xs) m.mates) (left_from m n) (has_any (is_listed is_txn xs) m.mates u (listed_has m.mates u l) (listed_test is_txn xs u t))

  pub ready_to : (m : Member) → is_ready xs m ≡ true → (¬ T m.id) × ((u : TxnId) → IsListed is_txn m.before u → T u)
  ready_to m h = let q = and_parts (is_left xs m) (list_all (is_listed is_txn xs) m.before) h in (left_to m q.0, all_to m.before q.1)

  ready_from : (m : Member) → ¬ T m.id → ((u : TxnId) → IsListed is_txn m.before u → T u) → is_ready xs m ≡ true
  ready_from m n h = and_from (is_left xs m) (list_all (is_listed is_txn xs) m.before) (left_from m n) (all_from m.before h)

  left_of_to : (c m : Member) → is_left_of xs c m ≡ true → (¬ T m.id) × IsListed is_txn c.mates m.id
  left_of_to c m h = let q = and_parts (is_left xs m) (is_listed is_txn c.mates m.id) h in (left_to m q.0, listed_true is_txn c.mates m.id q.1)

  left_of_from : (c m : Member) → ¬ T m.id → IsListed is_txn c.mates m.id → is_left_of xs c m ≡ true
  left_of_from c m n l = and_from (is_left xs m) (is_listed is_txn c.mates m.id) (left_from m n) (listed_test is_txn c.mates m.id l)

  free_to : (c m : Member) → is_free xs c m ≡ true → (is_left_of xs c m ≡ true) × ((u : TxnId) → IsListed is_txn m.immediate u → T u)
  free_to c m h = let q = and_parts (is_left_of xs c m) (list_all (is_listed is_txn xs) m.immediate) h in (q.0, all_to m.immediate q.1)

  free_from : (c m : Member) → is_left_of xs c m ≡ true → ((u : TxnId) → IsListed is_txn m.immediate u → T u) → is_free xs c m ≡ true
  free_from c m h k = and_from (is_left_of xs c m) (list_all (is_listed is_txn xs) m.immediate) h (all_from m.immediate k)

module _ (E I : TxnId → TxnId → Type 0) (M : List TxnId) (members : List Member) (ms : AreMembers E I M members) where
  abbrev A : TxnId → TxnId → Type 0
  A = among M E

  abbrev J : TxnId → TxnId → Type 0
  J = among M I

  mates_or_not : (t u : TxnId) → IsListed is_txn M t → Mates A t u ⊎ (¬ Mates A t u)
  mates_or_not t u h =
      let m = ms.complete t h in
      let i = (ms.each m.0 m.1).mates u in
      elim (listed_or_not is_txn m.0.mates u) [
        | inl l ↦ inl (subst (λ v. Mates A v u) m.2 (i.0 l))
        | inr n ↦ inr (λ k. n (i.1 (subst (λ v. Mates A v u) (sym m.2) k)))
      ]

  reach_or_not : (u t : TxnId) → IsListed is_txn M t → ReachesOrIs A u t ⊎ (¬ ReachesOrIs A u t)
  reach_or_not u t h =
      elim (mates_or_not t u h) [
        | inl k ↦ inl (mates_reach A u t (mates_sym A t u k))
        | inr n ↦
            (let m = ms.complete t h in
            let i = (ms.each m.0 m.1).before u in
            elim (listed_or_not is_txn m.0.before u) [
              | inl l ↦ inl (inr (subst (Reaches A u) m.2 (i.0 l).0))
              | inr o ↦ inr (λ p. elim p [
                | inl e ↦ n (inl (sym e))
                | inr q ↦ o (i.1 (subst (Reaches A u) (sym m.2) q, λ k. n (subst (λ v. Mates A v u) m.2 k)))
              ])
            ])
      ]

  module _ (xs : List TxnId) (f : IsFront E I M xs) where
    taken_ready : (y : TxnId) → T xs y → IsReady A (T xs) y
    taken_ready y h p z m e n = listed_by_before is_txn xs p y ((f.next y h).ready p z m e n)

    -- only one component is begun and not ended
    one_open : (y z a b : TxnId) → T xs y → T xs z → Mates A y a → IsListed is_txn M a → ¬ T xs a → Mates A z b → IsListed is_txn M b → ¬ T xs b → Mates A y z
    one_open y z a b hy hz ma la na mb lb nb =
        elim (cases_order (place_of (is_txn y) xs) (place_of (is_txn z) xs)) [
          | inl e ↦ inl (same_place is_txn is_txn-true xs y z hy e)
          | inr c ↦ elim c [
            | inl l ↦ (f.next z hz).ends y a l ma la (λ k. na (listed_by_before is_txn xs a z k))
            | inr l ↦ mates_sym A z y ((f.next y hy).ends z b l mb lb (λ k. nb (listed_by_before is_txn xs b y k)))
          ]
        ]

    -- where no component is begun and not ended, all that leads to a ready one was taken
    led_from : ((y z : TxnId) → T xs y → Mates A y z → IsListed is_txn M z → T xs z) → (u t : TxnId) → IsListed is_txn M t → Reaches A u t → IsReady A (T xs) t → Mates A t u ⊎ T xs u
    led_from ended u t h (direct e) r =
        elim (mates_or_not t u h) [ inl k ↦ inl k | inr n ↦ inr (r u t (inl refl) e n) ]
    led_from ended u t h (through {s = s} p e) r =
        elim (mates_or_not t s h) [
          | inl k ↦ elim (led_from ended u s e.0 p (ready_mate A (T xs) t s k r)) [ inl m ↦ inl (mates_trans A t s u k m) | inr i ↦ inr i ]
          | inr n ↦
              (let i = r s t (inl refl) e n in
              elim (led_from ended u s e.0 p (taken_ready s i)) [ inl m ↦ inr (ended s u i m (chain_starts E M u s p)) | inr j ↦ inr j ])
        ]

    -- a member by which the rule names a component
    record IsChosen (c : Member) : Type 0 where
      has : Has c members
      left : ¬ T xs c.id
      ready : IsReady A (T xs) c.id
      ends : (y z : TxnId) → T xs y → Mates A y z → IsListed is_txn M z → ¬ T xs z → Mates A y c.id
      least : (z : TxnId) → ((y : TxnId) → T xs y → ¬ Mates A y c.id) → IsListed is_txn M z → ¬ T xs z → IsReady A (T xs) z → ¬ (txn_lt z c.id ≡ true)

    chosen_begun : (c : Member) → Has c members → is_begun xs c ≡ true → IsChosen c
    chosen_begun c h b =
        let q = begun_to xs c b in
        let u = q.1 in
        let k = ((ms.each c h).mates u.0).0 u.1 in
        record {
          has = h;
          left = q.0;
          ready = ready_mate A (T xs) u.0 c.id (mates_sym A c.id u.0 k) (taken_ready u.0 u.2);
          ends = λ y z t m l n. mates_trans A y u.0 c.id (one_open y u.0 z c.id t u.2 m l n (mates_sym A c.id u.0 k) (ms.sound c h) q.0) (mates_sym A c.id u.0 k);
          least = λ z no l n r. absurd (no u.0 u.2 (mates_sym A c.id u.0 k));
        }

    module _ (no : (m : Member) → Has m members → ¬ (is_begun xs m ≡ true)) where
      ended : (y z : TxnId) → T xs y → Mates A y z → IsListed is_txn M z → T xs z
      ended y z t k l =
          elim (listed_or_not is_txn xs z) [
            | inl i ↦ i
            | inr n ↦
                (let m = ms.complete z l in
                absurd (no m.0 m.1 (begun_from xs m.0 (λ i. n (subst (T xs) m.2 i)) y (((ms.each m.0 m.1).mates y).1 (subst (λ v. Mates A v y) (sym m.2) (mates_sym A y z k))) t)))
          ]

      -- a member whose component is ready passes the test
      ready_passes : (m : Member) → Has m members → ¬ T xs m.id → IsReady A (T xs) m.id → is_ready xs m ≡ true
      ready_passes m h n r =
          ready_from xs m n (λ u l.
          let i = ((ms.each m h).before u).0 l in
          elim (led_from ended u m.id (ms.sound m h) i.0 r) [ inl k ↦ absurd (i.1 k) | inr t ↦ t ])

      chosen_ready : (c : Member) → find (is_ready xs) members ≡ Some c → IsChosen c
      chosen_ready c e =
          let h = found_has (is_ready xs) members c e in
          let q = ready_to xs c h.1 in
          record {
            has = h.0;
            left = q.0;
            ready = λ p y m i n. q.1 p (((ms.each c h.0).before p).1 (chain_before A p y c.id i (mates_reach A y c.id (mates_sym A c.id y m)), n));
            ends = λ y z t m l n. absurd (n (ended y z t m l));
            least = λ z _ l n r.
                let m = ms.complete z l in
                let P : TxnId → Type 0 = λ v. ¬ (txn_lt v c.id ≡ true) in
                subst P m.2 (found_least (λ m. m.id) (is_ready xs) members ms.rising c e m.0 m.1 (ready_passes m.0 m.1 (λ i. n (subst (T xs) m.2 i)) (subst (IsReady A (T xs)) (sym m.2) r)));
          }

      -- where a member is left, one is ready
      pub some_ready : (x : TxnId) → IsListed is_txn M x → ¬ T xs x → (m : Member) × Has m members × (is_ready xs m ≡ true)
      some_ready x l n =
          let z = some_low (ReachesOrIs A) (λ a. inl refl) (reach_trans A) left_ids x (in_left x l n) (λ a b h k. reach_or_not a b (left_in b k).0) in
          let o = left_in z.0 z.1 in
          let m = ms.complete z.0 o.0 in (
            m.0,
            m.1,
            ready_from xs m.0 (λ i. o.1 (subst (T xs) m.2 i)) (λ u i.
                let b = ((ms.each m.0 m.1).before u).0 i in
                let p : Reaches A u z.0 = subst (Reaches A u) m.2 b.0 in
                elim (listed_or_not is_txn xs u) [
                  | inl t ↦ t
                  | inr k ↦ absurd (b.1 (subst (λ v. Mates A v u) (sym m.2) (mates_from A z.0 u (z.2 u (in_left u (chain_starts E M u z.0 p) k) (inr p)) (inr p))))
                ]),
          )
        where
          left_ids : List TxnId
          left_ids = filter (λ u. not (is_listed is_txn xs u)) M

          in_left : (u : TxnId) → IsListed is_txn M u → ¬ T xs u → IsListed is_txn left_ids u
          in_left u h k = listed_filter is_txn is_txn-true (λ u. not (is_listed is_txn xs u)) M u (not_from_false (is_listed is_txn xs u) (false_from_ne_true (is_listed is_txn xs u) (λ i. k (listed_true is_txn xs u i)))) h

          left_in : (u : TxnId) → IsListed is_txn left_ids u → IsListed is_txn M u × (¬ T xs u)
          left_in u h =
              let i = from_listed_filter is_txn is_txn-true (λ u. not (is_listed is_txn xs u)) M u h in
              (i.1, λ t. false≢true (sym (not-true (is_listed is_txn xs u) i.0) ∙ listed_test is_txn xs u t))

    module _ (c : Member) (k : IsChosen c) where
      mates_c : (u : TxnId) → IsListed is_txn c.mates u → Mates A c.id u
      mates_c u l = ((ms.each c k.has).mates u).0 l

      -- the component's member that is named next
      next_from : (x : Member) → Has x members → is_left_of xs c x ≡ true → IsNextInside A J (T xs) x.id → IsNext A J M (T xs) x.id
      next_from x h l i =
          let q = left_of_to xs c x l in
          let m = mates_c x.id q.1 in
          record {
            ready = ready_mate A (T xs) c.id x.id m k.ready;
            ends = λ y z t n o p. mates_trans A y c.id x.id (k.ends y z t n o p) m;
            least = λ z no o n r. (c.id, ms.sound c k.has, mates_sym A c.id x.id m, k.least z (λ y t n. no y t (mates_trans A y c.id x.id n m)) o n r);
            inside = i;
          }

      -- what is left and free of the component passes the tests
      left_passes : (x : Member) → IsListed is_txn c.mates x.id → (z : TxnId) → Mates A x.id z → ¬ T xs z → (m : Member) × Has m members × (m.id ≡ z) × (is_left_of xs c m ≡ true)
      left_passes x l z n o =
          let i = mates_trans A c.id x.id z (mates_c x.id l) n in
          let m = ms.complete z (mate_in E M c.id z (ms.sound c k.has) i) in
          (m.0, m.1, m.2, left_of_from xs c m.0 (λ t. o (subst (T xs) m.2 t)) (((ms.each c k.has).mates m.0.id).1 (subst (Mates A c.id) (sym m.2) i)))

      free_passes : (x m : Member) → Has m members → Mates A x.id m.id → is_left_of xs c m ≡ true → IsFree A J (T xs) x.id m.id → is_free xs c m ≡ true
      free_passes x m h n l g =
          free_from xs c m l (λ u i. let q = ((ms.each m h).immediate u).0 i in g u (mates_trans A x.id m.id u n q.1) q.0)

      passes_free : (x m : Member) → Has m members → Mates A x.id m.id → ((u : TxnId) → IsListed is_txn m.immediate u → T xs u) → IsFree A J (T xs) x.id m.id
      passes_free x m h n t p i j = t p (((ms.each m h).immediate p).1 (j, mates_trans A m.id x.id p (mates_sym A x.id m.id n) i))

      next_free : (x : Member) → find (is_free xs c) members ≡ Some x → IsNext A J M (T xs) x.id × (¬ T xs x.id) × IsListed is_txn M x.id
      next_free x e =
          let h = found_has (is_free xs c) members x e in
          let q = free_to xs c x h.1 in
          let l = left_of_to xs c x q.0 in (
            next_from x h.0 q.0 (inl (
              passes_free x x h.0 (inl refl) q.1,
              λ z n o g.
                  let m = left_passes x l.1 z n o in
                  let P : TxnId → Type 0 = λ v. ¬ (txn_lt v x.id ≡ true) in
                  subst P m.2 (found_least (λ m. m.id) (is_free xs c) members ms.rising x e m.0 m.1 (free_passes x m.0 m.1 (subst (Mates A x.id) (sym m.2) n) m.3 (subst (IsFree A J (T xs) x.id) (sym m.2) g))),
            )),
            l.0,
            ms.sound x h.0,
          )

      next_left : find (is_free xs c) members ≡ None → (x : Member) → find (is_left_of xs c) members ≡ Some x → IsNext A J M (T xs) x.id × (¬ T xs x.id) × IsListed is_txn M x.id
      next_left none x e =
          let h = found_has (is_left_of xs c) members x e in
          let l = left_of_to xs c x h.1 in (
            next_from x h.0 h.1 (inr (
              λ z n o g.
                  let m = left_passes x l.1 z n o in
                  none_passes (is_free xs c) members none m.0 m.1 (free_passes x m.0 m.1 (subst (Mates A x.id) (sym m.2) n) m.3 (subst (IsFree A J (T xs) x.id) (sym m.2) g)),
              λ z n o g.
                  let m = left_passes x l.1 z n o in
                  let P : TxnId → Type 0 = λ v. ¬ (txn_lt v x.id ≡ true) in
                  subst P m.2 (found_least (λ m. m.id) (is_left_of xs c) members ms.rising x e m.0 m.1 m.3),
            )),
            l.0,
            ms.sound x h.0,
          )

      -- one is left in the component, the chosen member itself
      some_left : ¬ (find (is_left_of xs c) members ≡ None)
      some_left e = none_passes (is_left_of xs c) members e c k.has (left_of_from xs c c k.left (((ms.each c k.has).mates c.id).1 (inl refl)))

    -- a component is chosen, where a member is left
    chosen : (c : Member) → next_component xs members ≡ Some c → IsChosen c
    chosen c e = go (find (is_begun xs) members) refl e
      where
        go : (o : Option Member) → find (is_begun xs) members ≡ o → option_or o (find (is_ready xs) members) ≡ Some c → IsChosen c
        go (Some b) i j =
            let same : b ≡ c = cc in
            let h = found_has (is_begun xs) members b i in
            subst IsChosen same (chosen_begun b h.0 h.1)
        go None i j = chosen_ready (none_passes (is_begun xs) members i) c j

    none_chosen : next_component xs members ≡ None → (x : TxnId) → IsListed is_txn M x → T xs x
    none_chosen e x l = go (find (is_begun xs) members) refl e
      where
        go : (o : Option Member) → find (is_begun xs) members ≡ o → option_or o (find (is_ready xs) members) ≡ None → T xs x
        go (Some b) i j = cc
        go None i j =
            elim (listed_or_not is_txn xs x) [
              | inl t ↦ t
              | inr n ↦ (let m = some_ready (none_passes (is_begun xs) members i) x l n in absurd (none_passes (is_ready xs) members j m.0 m.1 m.2))
            ]

    -- what is named next is what the rule names
    pub next_is : (x : TxnId) → next_of xs members ≡ Some x → IsNext A J M (T xs) x × (¬ T xs x) × IsListed is_txn M x
    next_is x e = component (next_component xs members) refl e
      where
        named : TxnId → Type 0
        named v = IsNext A J M (T xs) v × (¬ T xs v) × IsListed is_txn M v

        left : (c : Member) → IsChosen c → find (is_free xs c) members ≡ None → (o : Option Member) → find (is_left_of xs c) members ≡ o → option_map (λ m. m.id) o ≡ Some x → named x
        left c k none None i j = cc
        left c k none (Some m) i j = let same : m.id ≡ x = cc in subst named same (next_left c k none m i)

        inside : (c : Member) → IsChosen c → (o : Option Member) → find (is_free xs c) members ≡ o → option_map (λ m. m.id) (option_or o (find (is_left_of xs c) members)) ≡ Some x → named x
        inside c k (Some m) i j = let same : m.id ≡ x = cc in subst named same (next_free c k m i)
        inside c k None i j = left c k i (find (is_left_of xs c) members) refl j

        component : (o : Option Member) → next_component xs members ≡ o → option_map (λ m. m.id) (next_inside xs members o) ≡ Some x → named x
        component None i j = cc
        component (Some c) i j = inside c (chosen c i) (find (is_free xs c) members) refl j

    pub none_is : next_of xs members ≡ None → (x : TxnId) → IsListed is_txn M x → T xs x
    none_is e = component (next_component xs members) refl e
      where
        left : (c : Member) → IsChosen c → (o : Option Member) → find (is_left_of xs c) members ≡ o → option_map (λ m. m.id) o ≡ None → ⊥
        left c k None i j = some_left c k i
        left c k (Some m) i j = cc

        inside : (c : Member) → IsChosen c → (o : Option Member) → find (is_free xs c) members ≡ o → option_map (λ m. m.id) (option_or o (find (is_left_of xs c) members)) ≡ None → ⊥
        inside c k (Some m) i j = cc
        inside c k None i j = left c k (find (is_left_of xs c) members) refl j

        component : (o : Option Member) → next_component xs members ≡ o → option_map (λ m. m.id) (next_inside xs members o) ≡ None → (x : TxnId) → IsListed is_txn M x → T xs x
        component None i j = none_chosen i
        component (Some c) i j = λ x l. absurd (inside c (chosen c i) (find (is_free xs c) members) refl j)
