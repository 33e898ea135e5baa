-- The search for components: what is looked at at the last part, and its end
use Rattle.std.proofs.Common.{◌≡◌, ℕ, ◌<◌, ◌≤◌, List, [], ◌∷◌, ◌++◌, Option, Some, None, refl, sym, ◌∙◌, ap, subst, ◌⊎◌, inl, inr, arith}
use Rattle.roc_sequence.specs.Lists.{Has}
use Rattle.roc_sequence.specs.Places.{IsListed}
use Rattle.roc_sequence.proofs.Members.{has_left, has_right, has_append, has_more}
use Rattle.roc_base.specs.declared.id.TxnId.{TxnId}
use Rattle.roc_base.specs.TxnId.{is_txn}
use Rattle.roc_depgraph.specs.Closure.{IsRisingListOf}
use Rattle.roc_depgraph.proofs.Chains.{closed_from}
use Rattle.roc_depgraph.proofs.Listed.{has_listed, listed_has}
use Rattle.roc_component.specs.Components.{Mates, IsComponent}
use Rattle.roc_component.specs.declared.search.Part.{Part}
use Rattle.roc_component.specs.Inner.Search.{IsOn, IsSearch, IsOpenable}
use Rattle.roc_component.proofs.Relations.{mates_sym, mates_reach, mates_from}
use Rattle.roc_component.proofs.SearchPath.{path_more, path_front, path_last, apart_more}

module _ (E : TxnId → TxnId → Type 0) (S : List TxnId) where
  module _ (met : TxnId → Option ℕ) (count : ℕ) (below : List Part) (p : Part) (done : List TxnId) (components : List (List TxnId)) (s : IsSearch E S met count (below ++ p ∷ []) done components) where
    abbrev path : List Part
    path = below ++ p ∷ []

    last_in : Has p path
    last_in = has_right p below (p ∷ []) (inl refl)

    is_below : (q : Part) → Has q below → Has q path
    is_below q h = has_left q below (p ∷ []) h

    -- what is still to be looked at at the last part can be met next, where it was not met
    pub openable : (u : TxnId) → Has u p.todo.items → met u ≡ None → IsOpenable E S met path u
    openable u h e =
        record {
          new = e;
          within = s.todo_within p last_in u h;
          leads = λ q k t m. s.joined q p k last_in (elim (has_more q p below k) [
            | inl i ↦ (let c = path_last below p s.rising q i in omega arith)
            | inr i ↦ (let d = ap (λ (v : Part). v.start) i in omega arith)
          ]) u t (inr h) m;
        }

    -- an id that was met late enough is of the last part
    pub of_last : (u : TxnId) (n : ℕ) → met u ≡ Some n → p.start ≤ n → Has u done ⊎ IsOn path p.start u
    of_last u n e l = go (s.known u n e)
      where
        here : (q : Part) → Has q path → Has u q.members.items → Has q below ⊎ (q ≡ p) → IsOn path p.start u
        here q h m (inl i) =
            (let w = s.numbered q h u m in
            let c = w.3 p last_in (path_last below p s.rising q i) in
            let f : Some w.0 ≡ Some n = sym w.1 ∙ e in
            let g : w.0 ≡ n = cc in
            absurd (omega arith))
        here q h m (inr i) = (let d = ap (λ (v : Part). v.start) i in (q, h, omega arith, m))

        go : Has u done ⊎ IsOn path 0 u → Has u done ⊎ IsOn path p.start u
        go (inl k) = inl k
        go (inr w) = inr (here w.0 w.1 w.3 (has_more w.0 p below w.1))

    -- one that was met before is of an earlier part, or done
    pub of_earlier : (u : TxnId) (n : ℕ) → met u ≡ Some n → n < p.start → Has u done ⊎ ((q : Part) × Has q below × Has u q.members.items)
    of_earlier u n e l = go (s.known u n e)
      where
        here : (q : Part) → Has q path → Has u q.members.items → Has q below ⊎ (q ≡ p) → (q : Part) × Has q below × Has u q.members.items
        here q h m (inl i) = (q, i, m)
        here q h m (inr i) =
            (let d = ap (λ (v : Part). v.start) i in
            let w = s.numbered q h u m in
            let c = w.2 in
            let f : Some w.0 ≡ Some n = sym w.1 ∙ e in
            let g : w.0 ≡ n = cc in
            absurd (omega arith))

        go : Has u done ⊎ IsOn path 0 u → Has u done ⊎ ((q : Part) × Has q below × Has u q.members.items)
        go (inl k) = inl k
        go (inr w) = inr (here w.0 w.1 w.3 (has_more w.0 p below w.1))

    -- the last part with other ids to look at
    module _
        (r : Part) (start : r.start ≡ p.start) (members : r.members.items ≡ p.members.items)
        (fewer : (u : TxnId) → Has u r.todo.items → Has u p.todo.items) (rest : (u : TxnId) → Has u p.todo.items → Has u r.todo.items ⊎ (Has u done ⊎ IsOn path p.start u)) where
      abbrev changed : List Part
      changed = below ++ r ∷ []

      -- the part of the old path at the same place
      old : (a : Part) → Has a changed → (b : Part) × Has b path × (b.start ≡ a.start) × (b.members.items ≡ a.members.items) × ((u : TxnId) → Has u a.todo.items → Has u b.todo.items)
      old a h = elim (has_more a r below h) [
        | inl i ↦ (a, is_below a i, refl, refl, λ u k. k)
        | inr i ↦ (p, last_in, sym start ∙ ap (λ (v : Part). v.start) (sym i), sym members ∙ ap (λ (v : Part). v.members.items) (sym i), λ u k. fewer u (subst (λ (v : Part). Has u v.todo.items) i k))
      ]

      new : (a : Part) → Has a path → (b : Part) × Has b changed × (b.start ≡ a.start) × (b.members.items ≡ a.members.items)
      new a h = elim (has_more a p below h) [
        | inl i ↦ (a, has_left a below (r ∷ []) i, refl, refl)
        | inr i ↦ (r, has_right r below (r ∷ []) (inl refl), start ∙ ap (λ (v : Part). v.start) (sym i), members ∙ ap (λ (v : Part). v.members.items) (sym i))
      ]

      still_on : (n : ℕ) (u : TxnId) → IsOn path n u → IsOn changed n u
      still_on n u w = let b = new w.0 w.1 in let e = b.2 in let l = w.2 in (b.0, b.1, omega arith, subst (Has u) (sym b.3) w.3)

      led : (a : Part) → Has a changed → (u t : TxnId) → Has t a.members.items → E u t → Has u a.todo.items ⊎ (Has u done ⊎ IsOn changed a.start u)
      led a h u t m e = go (has_more a r below h)
        where
          same : (n : ℕ) → n ≡ a.start → Has u done ⊎ IsOn path n u → Has u a.todo.items ⊎ (Has u done ⊎ IsOn changed a.start u)
          same n f (inl k) = inr (inl k)
          same n f (inr w) = inr (inr (subst (λ k. IsOn changed k u) f (still_on n u w)))

          early : Has u a.todo.items ⊎ (Has u done ⊎ IsOn path a.start u) → Has u a.todo.items ⊎ (Has u done ⊎ IsOn changed a.start u)
          early (inl k) = inl k
          early (inr w) = same a.start refl w

          late : a ≡ r → Has u r.todo.items ⊎ (Has u done ⊎ IsOn path p.start u) → Has u a.todo.items ⊎ (Has u done ⊎ IsOn changed a.start u)
          late i (inl k) = inl (subst (λ (v : Part). Has u v.todo.items) (sym i) k)
          late i (inr w) = same p.start (sym start ∙ ap (λ (v : Part). v.start) (sym i)) w

          first : a ≡ r → Has u p.todo.items ⊎ (Has u done ⊎ IsOn path p.start u) → Has u a.todo.items ⊎ (Has u done ⊎ IsOn changed a.start u)
          first i (inl k) = late i (rest u k)
          first i (inr w) = late i (inr w)

          go : Has a below ⊎ (a ≡ r) → Has u a.todo.items ⊎ (Has u done ⊎ IsOn changed a.start u)
          go (inl i) = early (s.led a (is_below a i) u t m e)
          go (inr i) = first i (s.led p last_in u t (subst (Has t) members (subst (λ (v : Part). Has t v.members.items) i m)) e)

      numbered : (a : Part) → Has a changed → (u : TxnId) → Has u a.members.items → (n : ℕ) × (met u ≡ Some n) × (a.start ≤ n) × ((q : Part) → Has q changed → a.start < q.start → n < q.start)
      numbered a h u m =
          let b = old a h in
          let w = s.numbered b.0 b.1 u (subst (Has u) (sym b.3) m) in
          let e : b.0.start ≡ a.start = b.2 in
          let l = w.2 in
          (w.0, w.1, omega arith, λ q k j. let c = old q k in let f : c.0.start ≡ q.start = c.2 in let g = w.3 c.0 c.1 (omega arith) in omega arith)

      pub changes : IsSearch E S met count (below ++ r ∷ []) done components
      changes =
          record {
            rising = path_more below r (path_front below p s.rising) (λ q h. let c = path_last below p s.rising q h in omega arith);
            starts = λ a h. let b = old a h in let c = s.starts b.0 b.1 in let e = b.2 in omega arith;
            joined = λ a b h k l u t m n.
                let c = old a h in
                let d = old b k in
                let e = c.2 in
                let f = d.2 in
                s.joined c.0 d.0 c.1 d.1 (omega arith) u t (elim m [ inl i ↦ inl (subst (Has u) (sym d.3) i) | inr i ↦ inr (d.4 u i) ]) (subst (Has t) (sym c.3) n);
            led = led;
            numbered = numbered;
            bounded = s.bounded;
            known = λ u n h. elim (s.known u n h) [ inl k ↦ inl k | inr w ↦ inr (still_on 0 u w) ];
            over = s.over;
            alive = λ a h u m. let b = old a h in s.alive b.0 b.1 u (subst (Has u) (sym b.3) m);
            within = s.within;
            todo_within = λ a h u m. let b = old a h in s.todo_within b.0 b.1 u (b.4 u m);
            closed = s.closed;
            each = s.each;
            apart = s.apart;
            told = s.told;
            placed = s.placed;
          }

    -- the last part has nothing to look at, and becomes a component
    module _ (ended : (u : TxnId) → ¬ Has u p.todo.items) (c : List TxnId) (all : IsRisingListOf (IsListed is_txn p.members.items) c) where
      abbrev finished : List TxnId
      finished = done ++ c

      of_part : (u : TxnId) → Has u c → Has u p.members.items
      of_part u h = listed_has p.members.items u (all.sound u (has_listed c u h))

      to_part : (u : TxnId) → Has u p.members.items → Has u c
      to_part u h = listed_has c u (all.complete u (has_listed p.members.items u h))

      either : (u : TxnId) → Has u finished → Has u done ⊎ Has u p.members.items
      either u h = elim (has_append u done c h) [ inl k ↦ inl k | inr k ↦ inr (of_part u k) ]

      to_finished : (u : TxnId) → Has u done ⊎ Has u p.members.items → Has u finished
      to_finished u (inl h) = has_left u done c h
      to_finished u (inr h) = has_right u done c (to_part u h)

      own : (u : TxnId) → IsOn path p.start u → Has u p.members.items
      own u w = elim (has_more w.0 p below w.1) [
        | inl i ↦ (let d = path_last below p s.rising w.0 i in let l = w.2 in absurd (omega arith))
        | inr i ↦ subst (λ (v : Part). Has u v.members.items) i w.3
      ]

      closed : (u t : TxnId) → Has t finished → E u t → Has u finished
      closed u t h e = elim (either t h) [
        | inl k ↦ to_finished u (inl (s.closed u t k e))
        | inr k ↦ elim (s.led p last_in u t k e) [
          | inl i ↦ absurd (ended u i)
          | inr i ↦ elim i [ inl j ↦ to_finished u (inl j) | inr w ↦ to_finished u (inr (own u w)) ]
        ]
      ]

      complete : (x u : TxnId) → Has x c → Mates E x u → Has u c
      complete x u h m = go (either u (closed_from E (λ v. Has v finished) closed u x (to_finished x (inr (of_part x h))) (mates_reach E u x (mates_sym E x u m))))
        where
          go : Has u done ⊎ Has u p.members.items → Has u c
          go (inl k) = absurd (s.alive p last_in x (of_part x h) (closed_from E (λ v. Has v done) s.closed x u k (mates_reach E x u m)))
          go (inr k) = to_part u k

      component : IsComponent E c
      component =
          record {
            rising = all.rising;
            sound = λ x u h k. mates_from E x u (s.joined p p last_in last_in (omega arith) x u (inl (of_part x h)) (of_part u k)) (s.joined p p last_in last_in (omega arith) u x (inl (of_part u k)) (of_part x h));
            complete = complete;
          }

      -- a part before has none of the members of the last one
      alive : (a : Part) → Has a below → (u : TxnId) → Has u a.members.items → ¬ Has u finished
      alive a h u m k = elim (either u k) [
        | inl i ↦ s.alive a (is_below a h) u m i
        | inr i ↦
            (let v = s.numbered a (is_below a h) u m in
            let w = s.numbered p last_in u i in
            let d = v.3 p last_in (path_last below p s.rising a h) in
            let l = w.2 in
            let f : Some v.0 ≡ Some w.0 = sym v.1 ∙ w.1 in
            let g : v.0 ≡ w.0 = cc in
            absurd (omega arith))
      ]

      on_below : (n : ℕ) (u : TxnId) → IsOn path n u → Has u finished ⊎ IsOn below n u
      on_below n u w = elim (has_more w.0 p below w.1) [
        | inl i ↦ inr (w.0, i, w.2, w.3)
        | inr i ↦ inl (to_finished u (inr (subst (λ (v : Part). Has u v.members.items) i w.3)))
      ]

      on_or_done : (n : ℕ) (u : TxnId) → Has u done ⊎ IsOn path n u → Has u finished ⊎ IsOn below n u
      on_or_done n u (inl k) = inl (to_finished u (inl k))
      on_or_done n u (inr w) = on_below n u w

      led_below : (a : Part) → Has a below → (u t : TxnId) → Has t a.members.items → E u t → Has u a.todo.items ⊎ (Has u finished ⊎ IsOn below a.start u)
      led_below a h u t m e = elim (s.led a (is_below a h) u t m e) [ inl k ↦ inl k | inr k ↦ inr (on_or_done a.start u k) ]

      pub closes : IsSearch E S met count below (done ++ c) (components ++ c ∷ [])
      closes =
          record {
            rising = path_front below p s.rising;
            starts = λ a h. s.starts a (is_below a h);
            joined = λ a b h k. s.joined a b (is_below a h) (is_below b k);
            led = led_below;
            numbered = λ a h u m. let w = s.numbered a (is_below a h) u m in (w.0, w.1, w.2, λ q k. w.3 q (is_below q k));
            bounded = s.bounded;
            known = λ u n h. on_or_done 0 u (s.known u n h);
            over = λ u h. elim (either u h) [ inl k ↦ s.over u k | inr k ↦ (let w = s.numbered p last_in u k in (w.0, w.1)) ];
            alive = alive;
            within = s.within;
            todo_within = λ a h. s.todo_within a (is_below a h);
            closed = closed;
            each = λ d h. elim (has_more d c components h) [ inl i ↦ s.each d i | inr i ↦ subst (IsComponent E) (sym i) component ];
            apart = apart_more components c s.apart (λ d h u i j. s.alive p last_in u (of_part u j) (s.told d h u i));
            told = λ d h u i. elim (has_more d c components h) [
              | inl j ↦ has_left u done c (s.told d j u i)
              | inr j ↦ has_right u done c (subst (Has u) j i)
            ];
            placed = λ u h. elim (has_append u done c h) [
              | inl k ↦ (let w = s.placed u k in (w.0, has_left w.0 components (c ∷ []) w.1, w.2))
              | inr k ↦ (c, has_right c components (c ∷ []) (inl refl), k)
            ];
          }
