-- The search for components: the last two parts are joined
use Rattle.std.proofs.Common.{◌≡◌, ℕ, ◌<◌, ◌≤◌, List, [], ◌∷◌, ◌++◌, Option, Some, refl, sym, ap, subst, ◌⊎◌, inl, inr, arith}
use Rattle.roc_sequence.specs.Lists.{Has}
use Rattle.roc_sequence.proofs.Members.{has_left, has_right, has_more}
use Rattle.roc_base.specs.declared.id.TxnId.{TxnId}
use Rattle.roc_depgraph.specs.Reach.{ReachesOrIs}
use Rattle.roc_component.specs.declared.search.Part.{Part}
use Rattle.roc_component.specs.Inner.Search.{IsOn, IsSearch, IsUnited}
use Rattle.roc_component.proofs.Relations.{reach_trans}
use Rattle.roc_component.proofs.SearchPath.{path_more, path_front, path_last}

module _ (E : TxnId → TxnId → Type 0) (S : List TxnId) where
  -- the last two parts are joined, where one before holds what leads to the last
  module _
      (met : TxnId → Option ℕ) (count : ℕ) (lower : List Part) (q p r : Part) (done : List TxnId) (components : List (List TxnId))
      (s : IsSearch E S met count ((lower ++ q ∷ []) ++ p ∷ []) done components)
      (x : TxnId) (todo : Has x p.todo.items) (in_lower : (a : Part) × Has a (lower ++ q ∷ []) × Has x a.members.items)
      (start : r.start ≡ q.start) (members : IsUnited q.members.items p.members.items r.members.items) (todos : IsUnited q.todo.items p.todo.items r.todo.items) where
    abbrev two : List Part
    two = (lower ++ q ∷ []) ++ p ∷ []

    abbrev one : List Part
    one = lower ++ r ∷ []

    p_in : Has p two
    p_in = has_right p (lower ++ q ∷ []) (p ∷ []) (inl refl)

    q_in : Has q two
    q_in = has_left q (lower ++ q ∷ []) (p ∷ []) (has_right q lower (q ∷ []) (inl refl))

    is_lower : (a : Part) → Has a lower → Has a two
    is_lower a h = has_left a (lower ++ q ∷ []) (p ∷ []) (has_left a lower (q ∷ []) h)

    q_below : q.start < p.start
    q_below = path_last (lower ++ q ∷ []) p s.rising q (has_right q lower (q ∷ []) (inl refl))

    lower_below : (a : Part) → Has a lower → a.start < q.start
    lower_below a h = path_last lower q (path_front (lower ++ q ∷ []) p s.rising) a h

    -- all leads from both parts to the members of both
    to_x : (u : TxnId) → Has u q.members.items ⊎ Has u q.todo.items → ReachesOrIs E u x
    to_x u h =
        let a = in_lower in
        s.joined a.0 q (has_left a.0 (lower ++ q ∷ []) (p ∷ []) a.1) q_in
        (elim (has_more a.0 q lower a.1) [
          | inl i ↦ (let c = lower_below a.0 i in omega arith)
          | inr i ↦ (let d = ap (λ (v : Part). v.start) i in omega arith)
        ])
        u x h a.2

    from_either : (a : Part) → Has a lower ⊎ ((a ≡ q) ⊎ (a ≡ p)) → (u t : TxnId) → (Has u q.members.items ⊎ Has u q.todo.items) ⊎ (Has u p.members.items ⊎ Has u p.todo.items) → Has t a.members.items → ReachesOrIs E u t
    from_either a (inl h) u t (inl k) m = (let c = lower_below a h in s.joined a q (is_lower a h) q_in (omega arith) u t k m)
    from_either a (inl h) u t (inr k) m = (let c = lower_below a h in let d = q_below in s.joined a p (is_lower a h) p_in (omega arith) u t k m)
    from_either a (inr (inl e)) u t (inl k) m = s.joined q q q_in q_in (omega arith) u t k (subst (λ (v : Part). Has t v.members.items) e m)
    from_either a (inr (inl e)) u t (inr k) m = (let d = q_below in s.joined q p q_in p_in (omega arith) u t k (subst (λ (v : Part). Has t v.members.items) e m))
    from_either a (inr (inr e)) u t (inl k) m = reach_trans E u x t (to_x u k) (s.joined p p p_in p_in (omega arith) x t (inr todo) (subst (λ (v : Part). Has t v.members.items) e m))
    from_either a (inr (inr e)) u t (inr k) m = s.joined p p p_in p_in (omega arith) u t k (subst (λ (v : Part). Has t v.members.items) e m)

    split : (u : TxnId) → Has u r.members.items ⊎ Has u r.todo.items → (Has u q.members.items ⊎ Has u q.todo.items) ⊎ (Has u p.members.items ⊎ Has u p.todo.items)
    split u (inl h) = elim (members.only u h) [ inl k ↦ inl (inl k) | inr k ↦ inr (inl k) ]
    split u (inr h) = elim (todos.only u h) [ inl k ↦ inl (inr k) | inr k ↦ inr (inr k) ]

    joined : (a b : Part) → Has a one → Has b one → a.start ≤ b.start → (u t : TxnId) → Has u b.members.items ⊎ Has u b.todo.items → Has t a.members.items → ReachesOrIs E u t
    joined a b h k l u t m n = go (has_more a r lower h) (has_more b r lower k)
      where
        go : Has a lower ⊎ (a ≡ r) → Has b lower ⊎ (b ≡ r) → ReachesOrIs E u t
        go (inl i) (inl j) = s.joined a b (is_lower a i) (is_lower b j) l u t m n
        go (inl i) (inr j) = from_either a (inl i) u t (split u (subst (λ (v : Part). Has u v.members.items ⊎ Has u v.todo.items) j m)) n
        go (inr i) (inl j) = (let c = lower_below b j in let d = ap (λ (v : Part). v.start) i in absurd (omega arith))
        go (inr i) (inr j) =
            (let w = split u (subst (λ (v : Part). Has u v.members.items ⊎ Has u v.todo.items) j m) in
            elim (members.only t (subst (λ (v : Part). Has t v.members.items) i n)) [
              | inl k ↦ from_either q (inr (inl refl)) u t w k
              | inr k ↦ from_either p (inr (inr refl)) u t w k
            ])

    -- where what was on the path is now
    now_on : (n : ℕ) (u : TxnId) → n ≤ q.start → IsOn two n u → IsOn one n u
    now_on n u l w = go (has_more w.0 p (lower ++ q ∷ []) w.1)
      where
        both : Has u r.members.items → IsOn one n u
        both h = (r, has_right r lower (r ∷ []) (inl refl), omega arith, h)

        below : Has w.0 lower ⊎ (w.0 ≡ q) → IsOn one n u
        below (inl i) = (w.0, has_left w.0 lower (r ∷ []) i, w.2, w.3)
        below (inr i) = both (members.left u (subst (λ (v : Part). Has u v.members.items) i w.3))

        go : Has w.0 (lower ++ q ∷ []) ⊎ (w.0 ≡ p) → IsOn one n u
        go (inl i) = below (has_more w.0 q lower i)
        go (inr i) = both (members.right u (subst (λ (v : Part). Has u v.members.items) i w.3))

    led : (a : Part) → Has a one → (u t : TxnId) → Has t a.members.items → E u t → Has u a.todo.items ⊎ (Has u done ⊎ IsOn one a.start u)
    led a h u t m e = go (has_more a r lower h)
      where
        moved : (n : ℕ) → n ≤ q.start → Has u done ⊎ IsOn two n u → Has u done ⊎ IsOn one n u
        moved n l (inl k) = inl k
        moved n l (inr w) = inr (now_on n u l w)

        of_both : a ≡ r → Has u r.todo.items ⊎ (Has u done ⊎ IsOn one q.start u) → Has u a.todo.items ⊎ (Has u done ⊎ IsOn one a.start u)
        of_both i w =
            (let P : Part → Type 0 = λ v. Has u v.todo.items ⊎ (Has u done ⊎ IsOn one v.start u) in
            subst P (sym i) (subst (λ n. Has u r.todo.items ⊎ (Has u done ⊎ IsOn one n u)) (sym start) w))

        of_q : Has u q.todo.items ⊎ (Has u done ⊎ IsOn two q.start u) → Has u r.todo.items ⊎ (Has u done ⊎ IsOn one q.start u)
        of_q (inl k) = inl (todos.left u k)
        of_q (inr w) = inr (moved q.start (omega arith) w)

        of_p : Has u p.todo.items ⊎ (Has u done ⊎ IsOn two p.start u) → Has u r.todo.items ⊎ (Has u done ⊎ IsOn one q.start u)
        of_p (inl k) = inl (todos.right u k)
        of_p (inr (inl k)) = inr (inl k)
        of_p (inr (inr w)) = (let d = q_below in let c = w.2 in inr (inr (now_on q.start u (omega arith) (w.0, w.1, omega arith, w.3))))

        early : Has a lower → Has u a.todo.items ⊎ (Has u done ⊎ IsOn two a.start u) → Has u a.todo.items ⊎ (Has u done ⊎ IsOn one a.start u)
        early i (inl k) = inl k
        early i (inr w) = (let c = lower_below a i in inr (moved a.start (omega arith) w))

        go : Has a lower ⊎ (a ≡ r) → Has u a.todo.items ⊎ (Has u done ⊎ IsOn one a.start u)
        go (inl i) = early i (s.led a (is_lower a i) u t m e)
        go (inr i) = elim (members.only t (subst (λ (v : Part). Has t v.members.items) i m)) [
          | inl k ↦ of_both i (of_q (s.led q q_in u t k e))
          | inr k ↦ of_both i (of_p (s.led p p_in u t k e))
        ]

    numbered : (a : Part) → Has a one → (u : TxnId) → Has u a.members.items → (n : ℕ) × (met u ≡ Some n) × (a.start ≤ n) × ((b : Part) → Has b one → a.start < b.start → n < b.start)
    numbered a h u m = go (has_more a r lower h)
      where
        early : Has a lower → (n : ℕ) → ((b : Part) → Has b two → a.start < b.start → n < b.start) → (b : Part) → Has b lower ⊎ (b ≡ r) → a.start < b.start → n < b.start
        early i n f b (inl j) l = f b (is_lower b j) l
        early i n f b (inr j) l = (let c = lower_below a i in let d = ap (λ (v : Part). v.start) j in let g = f q q_in (omega arith) in omega arith)

        last : (n : ℕ) → a ≡ r → (b : Part) → Has b lower ⊎ (b ≡ r) → a.start < b.start → n < b.start
        last n i b (inl j) l = (let c = lower_below b j in let d = ap (λ (v : Part). v.start) i in absurd (omega arith))
        last n i b (inr j) l = (let c = ap (λ (v : Part). v.start) j in let d = ap (λ (v : Part). v.start) i in absurd (omega arith))

        go : Has a lower ⊎ (a ≡ r) → (n : ℕ) × (met u ≡ Some n) × (a.start ≤ n) × ((b : Part) → Has b one → a.start < b.start → n < b.start)
        go (inl i) = (let w = s.numbered a (is_lower a i) u m in (w.0, w.1, w.2, λ b k l. early i w.0 w.3 b (has_more b r lower k) l))
        go (inr i) = elim (members.only u (subst (λ (v : Part). Has u v.members.items) i m)) [
          | inl k ↦ (let w = s.numbered q q_in u k in let c = w.2 in let d = ap (λ (v : Part). v.start) i in (w.0, w.1, omega arith, λ b k l. last w.0 i b (has_more b r lower k) l))
          | inr k ↦ (let w = s.numbered p p_in u k in let c = w.2 in let e = q_below in let d = ap (λ (v : Part). v.start) i in (w.0, w.1, omega arith, λ b k l. last w.0 i b (has_more b r lower k) l))
        ]

    pub merges : IsSearch E S met count (lower ++ r ∷ []) done components
    merges =
        record {
          rising = path_more lower r (path_front lower q (path_front (lower ++ q ∷ []) p s.rising)) (λ a h. let c = lower_below a h in omega arith);
          starts = λ a h. elim (has_more a r lower h) [ inl i ↦ s.starts a (is_lower a i) | inr i ↦ (let c = s.starts q q_in in let d = ap (λ (v : Part). v.start) i in omega arith) ];
          joined = joined;
          led = led;
          numbered = numbered;
          bounded = s.bounded;
          known = λ u n h. elim (s.known u n h) [ inl k ↦ inl k | inr w ↦ inr (now_on 0 u (omega arith) w) ];
          over = s.over;
          alive = λ a h u m. elim (has_more a r lower h) [
            | inl i ↦ s.alive a (is_lower a i) u m
            | inr i ↦ elim (members.only u (subst (λ (v : Part). Has u v.members.items) i m)) [ inl k ↦ s.alive q q_in u k | inr k ↦ s.alive p p_in u k ]
          ];
          within = s.within;
          todo_within = λ a h u m. elim (has_more a r lower h) [
            | inl i ↦ s.todo_within a (is_lower a i) u m
            | inr i ↦ elim (todos.only u (subst (λ (v : Part). Has u v.todo.items) i m)) [ inl k ↦ s.todo_within q q_in u k | inr k ↦ s.todo_within p p_in u k ]
          ];
          closed = s.closed;
          each = s.each;
          apart = s.apart;
          told = s.told;
          placed = s.placed;
        }
