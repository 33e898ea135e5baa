-- The search for components: its start, an id that is met, and its end
use Rattle.std.proofs.Common.{◌≡◌, ℕ, suc, ◌<◌, ◌≤◌, cond, List, [], ◌∷◌, ◌++◌, Option, Some, None, refl, sym, ◌∙◌, ap, subst, ◌⊎◌, inl, inr, arith}
use Rattle.std.specs.Ordering.{is_eq}
use Rattle.roc_sequence.specs.Lists.{Has}
use Rattle.roc_sequence.proofs.Members.{has_one, has_left, has_right, has_more}
use Rattle.roc_base.specs.declared.id.TxnId.{TxnId}
use Rattle.roc_base.specs.TxnId.{txn_cmp}
use Rattle.roc_depgraph.specs.Reach.{direct, ReachesOrIs}
use Rattle.roc_component.specs.declared.search.Part.{Part}
use Rattle.roc_component.specs.Components.{AreComponents}
use Rattle.roc_component.specs.Inner.Search.{IsOn, WasNumbered, IsSearch, IsOpenable}
use Rattle.roc_component.proofs.Relations.{reach_trans}
use Rattle.roc_component.proofs.OneChange.{at_same, at_other}
use Rattle.roc_component.proofs.OneOrder.{cases_txn}
use Rattle.roc_component.proofs.SearchPath.{path_more}

module _ (E : TxnId → TxnId → Type 0) (S : List TxnId) where
  pub search_start : (met : TxnId → Option ℕ) (count : ℕ) → ((u : TxnId) → met u ≡ None) → IsSearch E S met count [] [] []
  search_start met count e =
      record {
        rising = tt;
        starts = λ p h. absurd h;
        joined = λ p q h. absurd h;
        led = λ p h. absurd h;
        numbered = λ p h. absurd h;
        bounded = λ u n h. absurd (no u n h);
        known = λ u n h. absurd (no u n h);
        over = λ u h. absurd h;
        alive = λ p h. absurd h;
        within = λ u n h. absurd (no u n h);
        todo_within = λ p h. absurd h;
        closed = λ u t h. absurd h;
        each = λ c h. absurd h;
        apart = tt;
        told = λ c h. absurd h;
        placed = λ u h. absurd h;
      }
    where
      no : (u : TxnId) (n : ℕ) → met u ≡ Some n → ⊥
      no u n h = let f : None ≡ Some n = sym (e u) ∙ h in cc

  -- an id is met: what was met before stays
  module _ (met more : TxnId → Option ℕ) (count : ℕ) (x : TxnId) (new : met x ≡ None) (at : (q : TxnId) → more q ≡ cond (is_eq (txn_cmp x q)) (Some count) (met q)) where
    pub at_x : more x ≡ Some count
    at_x = at_same x (Some count) met more at

    pub kept : (u : TxnId) (n : ℕ) → met u ≡ Some n → more u ≡ Some n
    kept u n h = elim (cases_txn u x) [
      | inl e ↦ absurd (let f : None ≡ Some n = sym new ∙ (ap met (sym e) ∙ h) in cc)
      | inr o ↦ at_other x (Some count) met more at u o ∙ h
    ]

    back : (u : TxnId) (n : ℕ) → more u ≡ Some n → (u ≡ x) ⊎ (met u ≡ Some n)
    back u n h = elim (cases_txn u x) [ inl e ↦ inl e | inr o ↦ inr (sym (at_other x (Some count) met more at u o) ∙ h) ]

  module _
      (met more : TxnId → Option ℕ) (count next : ℕ) (parts : List Part) (done : List TxnId) (components : List (List TxnId)) (x : TxnId) (p : Part)
      (s : IsSearch E S met count parts done components) (o : IsOpenable E S met parts x)
      (start : p.start ≡ count) (members : p.members.items ≡ x ∷ []) (todo : (u : TxnId) → (Has u p.todo.items → E u x) × (E u x → Has u p.todo.items))
      (at : (q : TxnId) → more q ≡ cond (is_eq (txn_cmp x q)) (Some count) (met q)) (one : next ≡ suc count) (inside : (u t : TxnId) → E u t → Has u S) where
    at_new : more x ≡ Some count
    at_new = at_x met more count x o.new at

    still : (u : TxnId) (n : ℕ) → met u ≡ Some n → more u ≡ Some n
    still = kept met more count x o.new at

    before : (u : TxnId) (n : ℕ) → more u ≡ Some n → (u ≡ x) ⊎ (met u ≡ Some n)
    before = back met more count x o.new at

    abbrev longer : List Part
    longer = parts ++ p ∷ []

    -- the members of the new part, and what comes before them
    is_x : (q : Part) → q ≡ p → (u : TxnId) → Has u q.members.items → u ≡ x
    is_x q e u h = has_one u x (subst (Has u) members (subst (λ (v : Part). Has u v.members.items) e h))

    x_in : Has x p.members.items
    x_in = subst (Has x) (sym members) (inl refl)

    x_on : IsOn longer count x
    x_on = (p, has_right p parts (p ∷ []) (inl refl), omega arith, x_in)

    to_x : (q : Part) → q ≡ p → (u : TxnId) → Has u q.members.items ⊎ Has u q.todo.items → ReachesOrIs E u x
    to_x q e u (inl h) = inl (is_x q e u h)
    to_x q e u (inr h) = inr (direct ((todo u).0 (subst (λ (v : Part). Has u v.todo.items) e h)))

    late : (q : Part) → q ≡ p → q.start ≡ count
    late q e = ap (λ (v : Part). v.start) e ∙ start

    on_more : (n : ℕ) (u : TxnId) → IsOn parts n u → IsOn longer n u
    on_more n u w = (w.0, has_left w.0 parts (p ∷ []) w.1, w.2, w.3)

    joined : (a b : Part) → Has a longer → Has b longer → a.start ≤ b.start → (u t : TxnId) → Has u b.members.items ⊎ Has u b.todo.items → Has t a.members.items → ReachesOrIs E u t
    joined a b h k l u t m n = go (has_more a p parts h) (has_more b p parts k)
      where
        go : Has a parts ⊎ (a ≡ p) → Has b parts ⊎ (b ≡ p) → ReachesOrIs E u t
        go (inl i) (inl j) = s.joined a b i j l u t m n
        go (inl i) (inr j) = reach_trans E u x t (to_x b j u m) (o.leads a i t n)
        go (inr i) (inl j) = (let c = s.starts b j in let d = late a i in absurd (omega arith))
        go (inr i) (inr j) = subst (ReachesOrIs E u) (sym (is_x a i t n)) (to_x b j u m)

    led : (a : Part) → Has a longer → (u t : TxnId) → Has t a.members.items → E u t → Has u a.todo.items ⊎ (Has u done ⊎ IsOn longer a.start u)
    led a h u t m e = go (has_more a p parts h)
      where
        old : Has u a.todo.items ⊎ (Has u done ⊎ IsOn parts a.start u) → Has u a.todo.items ⊎ (Has u done ⊎ IsOn longer a.start u)
        old (inl k) = inl k
        old (inr (inl k)) = inr (inl k)
        old (inr (inr k)) = inr (inr (on_more a.start u k))

        go : Has a parts ⊎ (a ≡ p) → Has u a.todo.items ⊎ (Has u done ⊎ IsOn longer a.start u)
        go (inl i) = old (s.led a i u t m e)
        go (inr i) = inl (subst (λ (v : Part). Has u v.todo.items) (sym i) ((todo u).1 (subst (E u) (is_x a i t m) e)))

    numbered : (a : Part) → Has a longer → (u : TxnId) → Has u a.members.items → (n : ℕ) × (more u ≡ Some n) × (a.start ≤ n) × ((q : Part) → Has q longer → a.start < q.start → n < q.start)
    numbered a h u m = go (has_more a p parts h)
      where
        old : (n : ℕ) → met u ≡ Some n → ((q : Part) → Has q parts → a.start < q.start → n < q.start) → (q : Part) → Has q parts ⊎ (q ≡ p) → a.start < q.start → n < q.start
        old n e f q (inl i) l = f q i l
        old n e f q (inr i) l = (let c = s.bounded u n e in let d = late q i in omega arith)

        new : a.start ≡ count → (q : Part) → Has q parts ⊎ (q ≡ p) → a.start < q.start → count < q.start
        new e q (inl i) l = (let c = s.starts q i in absurd (omega arith))
        new e q (inr i) l = (let d = late q i in absurd (omega arith))

        go : Has a parts ⊎ (a ≡ p) → (n : ℕ) × (more u ≡ Some n) × (a.start ≤ n) × ((q : Part) → Has q longer → a.start < q.start → n < q.start)
        go (inl i) = (let w = s.numbered a i u m in (w.0, still u w.0 w.1, w.2, λ q k l. old w.0 w.1 w.3 q (has_more q p parts k) l))
        go (inr i) = (let d = late a i in (count, subst (λ v. more v ≡ Some count) (sym (is_x a i u m)) at_new, omega arith, λ q k l. new d q (has_more q p parts k) l))

    known : (u : TxnId) (n : ℕ) → more u ≡ Some n → Has u done ⊎ IsOn longer 0 u
    known u n h = go (before u n h)
      where
        old : Has u done ⊎ IsOn parts 0 u → Has u done ⊎ IsOn longer 0 u
        old (inl k) = inl k
        old (inr k) = inr (on_more 0 u k)

        go : (u ≡ x) ⊎ (met u ≡ Some n) → Has u done ⊎ IsOn longer 0 u
        go (inl e) = inr (subst (IsOn longer 0) (sym e) (x_on.0, x_on.1, omega arith, x_on.3))
        go (inr e) = old (s.known u n e)

    alive : (a : Part) → Has a longer → (u : TxnId) → Has u a.members.items → ¬ Has u done
    alive a h u m k = go (has_more a p parts h)
      where
        go : Has a parts ⊎ (a ≡ p) → ⊥
        go (inl i) = s.alive a i u m k
        go (inr i) = (let w = s.over u k in let f : None ≡ Some w.0 = sym o.new ∙ (ap met (sym (is_x a i u m)) ∙ w.1) in cc)

    starts : (a : Part) → Has a longer → a.start < next
    starts a h = elim (has_more a p parts h) [ inl i ↦ (let c = s.starts a i in omega arith) | inr i ↦ (let d = late a i in omega arith) ]

    bounded : (u : TxnId) (n : ℕ) → more u ≡ Some n → n < next
    bounded u n h = elim (before u n h) [
      | inl e ↦ (let f : Some n ≡ Some count = sym h ∙ (ap more e ∙ at_new) in let g : n ≡ count = cc in omega arith)
      | inr e ↦ (let c = s.bounded u n e in omega arith)
    ]

    pub opened : IsSearch E S more next longer done components
    opened =
        record {
          rising = path_more parts p s.rising (λ q h. let c = s.starts q h in omega arith);
          starts = starts;
          joined = joined;
          led = led;
          numbered = numbered;
          bounded = bounded;
          known = known;
          over = λ u h. let w = s.over u h in (w.0, still u w.0 w.1);
          alive = alive;
          within = λ u n h. elim (before u n h) [ inl e ↦ subst (λ v. Has v S) (sym e) o.within | inr e ↦ s.within u n e ];
          todo_within = λ a h u m. elim (has_more a p parts h) [
            | inl i ↦ s.todo_within a i u m
            | inr i ↦ inside u x ((todo u).0 (subst (λ (v : Part). Has u v.todo.items) i m))
          ];
          closed = s.closed;
          each = s.each;
          apart = s.apart;
          told = s.told;
          placed = s.placed;
        }

  -- all is done where the path has ended
  pub search_ended : (met : TxnId → Option ℕ) (count : ℕ) (done : List TxnId) (components : List (List TxnId)) → IsSearch E S met count [] done components → ((u : TxnId) → Has u S → WasNumbered met u) → AreComponents E S components
  search_ended met count done components s all =
      record {
        each = s.each;
        apart = s.apart;
        all = λ u h. let w = all u h in elim (s.known u w.0 w.1) [ inl k ↦ s.placed u k | inr k ↦ absurd k.1 ];
        only = λ c h u i. let w = s.over u (s.told c h u i) in s.within u w.0 w.1;
      }
