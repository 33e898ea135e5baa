-- The steps of turns that wait for one another
use Rattle.std.proofs.Common.{◌≡◌, ◌++◌, Bool, true, false, cond, List, [], ◌∷◌, Option, Some, None, refl, sym, ◌∙◌, ap, subst, ◌⊎◌, inl, inr, arith}
use Rattle.std.proofs.lemmas.Bool.{false≢true}
use Rattle.std.proofs.lemmas.Bool.Decides.{nat_tests}
use Rattle.std.specs.Ordering.{is_eq, is_gt}
use Rattle.roc_sequence.specs.Lists.{Has}
use Rattle.roc_sequence.specs.Places.{IsListed}
use Rattle.roc_sequence.proofs.Appended.{listed_front, listed_behind, listed_either}
use Rattle.roc_sequence.proofs.Members.{has_left, has_right, has_more}
use Rattle.roc_base.specs.declared.id.TxnId.{TxnId}
use Rattle.roc_base.specs.TxnId.{is_txn, txn_cmp, txn_lt}
use Rattle.roc_depgraph.proofs.Listed.{has_listed, listed_has}
use Rattle.roc_component.specs.declared.turn.Turn.{Turn}
use Rattle.roc_component.specs.declared.queue.Waiting.{Waiting}
use Rattle.roc_component.specs.Inner.Turns.{AreTurns, IsLeft, IsDue, IsNextTurn}
use Rattle.roc_component.specs.Inner.Queue.{IsFor, IsHeld, IsOfTurn, IsQueue}
use Rattle.roc_component.proofs.OneChange.{at_same, at_other}
use Rattle.roc_component.proofs.OneOrder.{cases_txn}

pub is_gt-txn_cmp : (a b : TxnId) → is_gt (txn_cmp a b) ≡ txn_lt b a
is_gt-txn_cmp a b = grind (arith, nat_tests)

same_key : (turns : List Turn) → AreTurns turns → (t o : Turn) → Has t turns → Has o turns → t.key ≡ o.key → t ≡ o
same_key turns a t o h k e = a.own t o h k (subst (IsListed is_txn t.ids) e (a.key t h))

pub turns_behind : (xs ys : List Turn) → AreTurns (xs ++ ys) → AreTurns ys
turns_behind xs ys a = record { key = λ t h. a.key t (has_right t xs ys h); own = λ t o h k. a.own t o (has_right t xs ys h) (has_right o xs ys k) }

pub queue_start : (left : TxnId → Option (List TxnId)) (ready : TxnId → Bool) (waiting : TxnId → Option (List Waiting)) → ((k : TxnId) → left k ≡ None) → ((k : TxnId) → ready k ≡ false) → ((k : TxnId) → waiting k ≡ None) → IsQueue [] [] [] [] left ready waiting
queue_start left ready waiting l r w =
    record {
      here = λ t h. absurd h;
      from = λ k ids e. absurd (let f : None ≡ Some ids = sym (l k) ∙ e in cc);
      free = λ k e. absurd (false≢true (sym (r k) ∙ e));
      placed = λ t h. absurd h;
      held = λ u ws e. absurd (let f : None ≡ Some ws = sym (w u) ∙ e in cc);
      pends = λ w h. absurd h;
      ended = λ u h. absurd h;
    }

-- one more turn, before any was taken
module _
    (filed : List Turn) (t : Turn) (a : AreTurns (t ∷ filed)) (left more : TxnId → Option (List TxnId)) (ready : TxnId → Bool) (waiting : TxnId → Option (List Waiting))
    (s : IsQueue filed [] [] [] left ready waiting) (at : (q : TxnId) → more q ≡ cond (is_eq (txn_cmp t.key q)) (Some t.ids) (left q))
    (w : Waiting) (key : w.key ≡ t.key) (rest : w.rest.items ≡ t.before) where
  abbrev longer : List Turn
  longer = t ∷ filed

  here_filed : (o : Turn) → Has o filed → (o.key ≡ t.key) ⊎ (¬ (o.key ≡ t.key)) → IsLeft [] o → more o.key ≡ Some o.ids
  here_filed o h (inl e) l =
      subst (λ (v : Turn). more v.key ≡ Some v.ids) (same_key longer a t o (inl refl) (inr h) (sym e)) (at_same t.key (Some t.ids) left more at)
  here_filed o h (inr n) l = at_other t.key (Some t.ids) left more at o.key n ∙ s.here o h l

  from : (k : TxnId) (ids : List TxnId) → (k ≡ t.key) ⊎ (¬ (k ≡ t.key)) → more k ≡ Some ids → (o : Turn) × Has o longer × (o.key ≡ k) × (o.ids ≡ ids) × IsLeft [] o
  from k ids (inl e) m =
      (let f : Some t.ids ≡ Some ids = sym (at_same t.key (Some t.ids) left more at) ∙ (ap more (sym e) ∙ m) in
      let g : t.ids ≡ ids = cc in
      (t, inl refl, sym e, g, λ l. absurd (omega arith)))
  from k ids (inr n) m = (let o = s.from k ids (sym (at_other t.key (Some t.ids) left more at k n) ∙ m) in (o.0, inr o.1, o.2, o.3, o.4))

  of_longer : (but : TxnId → Type 0) (v : Waiting) → IsOfTurn filed [] but v → IsOfTurn longer [] but v
  of_longer but v o = (o.0, inr o.1, o.2, o.3, o.4)

  placed : (o : Turn) → Has o longer → IsLeft [] o → (ready o.key ≡ true) ⊎ (IsFor (w ∷ []) o ⊎ IsHeld [] [] waiting o)
  placed o (inl e) l = inr (inl (w, inl refl, key ∙ ap (λ (v : Turn). v.key) (sym e)))
  placed o (inr h) l = elim (s.placed o h l) [
    | inl r ↦ inl r
    | inr r ↦ elim r [ inl p ↦ absurd p.1 | inr p ↦ inr (inr p) ]
  ]

  pub files : IsQueue (t ∷ filed) [] [] ([] ++ w ∷ []) more ready waiting
  files =
      record {
        here = λ o h l. elim h [
          | inl e ↦ subst (λ (v : Turn). more v.key ≡ Some v.ids) (sym e) (at_same t.key (Some t.ids) left more at)
          | inr i ↦ here_filed o i (cases_txn o.key t.key) l
        ];
        from = λ k ids m. from k ids (cases_txn k t.key) m;
        free = λ k r. let o = s.free k r in (o.0, inr o.1, o.2, o.3, o.4);
        placed = placed;
        held = λ u ws e v h. of_longer (λ p. p ≡ u) v (s.held u ws e v h);
        pends = λ v h. elim h [
          | inl e ↦ subst (IsOfTurn longer [] (λ p. ⊥)) (sym e) (t, inl refl, sym key, λ p l. inr (inr (subst (Has p) (sym rest) (listed_has t.before p l))), λ p l. has_listed t.before p (subst (Has p) rest l))
          | inr i ↦ absurd i
        ];
        ended = λ u h. absurd h;
      }

  pub files_key : more w.key ≡ Some t.ids
  files_key = ap more key ∙ at_same t.key (Some t.ids) left more at

module _ (turns : List Turn) (a : AreTurns turns) (taken due : List TxnId) (left : TxnId → Option (List TxnId)) (ready : TxnId → Bool) (waiting : TxnId → Option (List Waiting)) where
  -- one that waits is settled
  module _ (pending : List Waiting) (w : Waiting) (s : IsQueue turns taken due (pending ++ w ∷ []) left ready waiting) where
    w_in : Has w (pending ++ w ∷ [])
    w_in = has_right w pending (w ∷ []) (inl refl)

    its : IsOfTurn turns taken (λ p. ⊥) w
    its = s.pends w w_in

    is_its : (o : Turn) → Has o turns → o.key ≡ w.key → its.0 ≡ o
    is_its o h e = same_key turns a its.0 o its.1 h (its.2 ∙ sym e)

    -- it is not left
    pub skips : left w.key ≡ None → IsQueue turns taken due pending left ready waiting
    skips none =
        record {
          here = s.here;
          from = s.from;
          free = s.free;
          placed = λ o h l. elim (s.placed o h l) [
            | inl r ↦ inl r
            | inr r ↦ elim r [
              | inl p ↦ elim (has_more p.0 w pending p.1) [
                | inl i ↦ inr (inl (p.0, i, p.2))
                | inr i ↦ absurd (let f : None ≡ Some o.ids = sym none ∙ (ap left (ap (λ (v : Waiting). v.key) (sym i) ∙ p.2) ∙ s.here o h l) in cc)
              ]
              | inr p ↦ inr (inr p)
            ]
          ];
          held = s.held;
          pends = λ v h. s.pends v (has_left v pending (w ∷ []) h);
          ended = s.ended;
        }

    -- all that comes before it was taken
    module _ (ids : List TxnId) (is_left : left w.key ≡ Some ids) (all : (p : TxnId) → Has p w.rest.items → IsListed is_txn taken p) (more : TxnId → Bool) (at : (q : TxnId) → more q ≡ cond (is_eq (txn_cmp w.key q)) true (ready q)) where
      free_key : (t : Turn) × Has t turns × (t.key ≡ w.key) × IsLeft taken t × IsDue taken t
      free_key =
          let o = s.from w.key ids is_left in
          let e = is_its o.0 o.1 o.2 in
          (its.0, its.1, its.2, subst (IsLeft taken) (sym e) o.4, λ p l. elim (its.3 p l) [ inl k ↦ k | inr k ↦ elim k [ inl f ↦ absurd f | inr r ↦ all p r ] ])

      stays : (q : TxnId) → ready q ≡ true → more q ≡ true
      stays q r = elim (cases_txn q w.key) [
        | inl e ↦ ap more e ∙ at_same w.key true ready more at
        | inr n ↦ at_other w.key true ready more at q n ∙ r
      ]

      pub readies : IsQueue turns taken due pending left more waiting
      readies =
          record {
            here = s.here;
            from = s.from;
            free = λ k r. elim (cases_txn k w.key) [
              | inl e ↦ (let o = free_key in (o.0, o.1, o.2 ∙ sym e, o.3, o.4))
              | inr n ↦ s.free k (sym (at_other w.key true ready more at k n) ∙ r)
            ];
            placed = λ o h l. elim (s.placed o h l) [
              | inl r ↦ inl (stays o.key r)
              | inr r ↦ elim r [
                | inl p ↦ elim (has_more p.0 w pending p.1) [
                  | inl i ↦ inr (inl (p.0, i, p.2))
                  | inr i ↦ inl (ap more (sym (ap (λ (v : Waiting). v.key) (sym i) ∙ p.2)) ∙ at_same w.key true ready more at)
                ]
                | inr p ↦ inr (inr p)
              ]
            ];
            held = s.held;
            pends = λ v h. s.pends v (has_left v pending (w ∷ []) h);
            ended = s.ended;
          }

    -- something that comes before it was not taken
    module _
        (u : TxnId) (x : Waiting) (key : x.key ≡ w.key) (open_now : ¬ IsListed is_txn taken u) (in_rest : Has u w.rest.items)
        (looked : (p : TxnId) → Has p w.rest.items → IsListed is_txn taken p ⊎ ((p ≡ u) ⊎ Has p x.rest.items)) (fewer : (p : TxnId) → Has p x.rest.items → Has p w.rest.items)
        (under : List Waiting) (more : TxnId → Option (List Waiting)) (same : more u ≡ Some under) (other : (q : TxnId) → ¬ (q ≡ u) → more q ≡ waiting q)
        (new : Has x under) (kept : (ws : List Waiting) → waiting u ≡ Some ws → (v : Waiting) → Has v ws → Has v under)
        (only : (v : Waiting) → Has v under → (v ≡ x) ⊎ ((ws : List Waiting) × (waiting u ≡ Some ws) × Has v ws)) where
      x_of_turn : IsOfTurn turns taken (λ p. p ≡ u) x
      x_of_turn =
          (its.0, its.1, its.2 ∙ sym key, λ p l. elim (its.3 p l) [ inl k ↦ inl k | inr k ↦ elim k [ inl f ↦ absurd f | inr r ↦ looked p r ] ], λ p h. its.4 p (fewer p h))

      held_here : (o : Turn) → Has o turns → o.key ≡ w.key → IsHeld taken due more o
      held_here o h e = (u, under, same, (x, new, key ∙ sym e), subst (λ (v : Turn). IsListed is_txn v.before u) (is_its o h e) (its.4 u in_rest), λ l. absurd (open_now l))

      held_still : (o : Turn) → IsHeld taken due waiting o → IsHeld taken due more o
      held_still o p = elim (cases_txn p.0 u) [
        | inl e ↦ (u, under, same, (p.3.0, kept p.1 (ap waiting (sym e) ∙ p.2) p.3.0 p.3.1, p.3.2), subst (IsListed is_txn o.before) e p.4, λ l. absurd (open_now l))
        | inr n ↦ (p.0, p.1, other p.0 n ∙ p.2, p.3, p.4, p.5)
      ]

      held_under : (v : Waiting) → Has v under → IsOfTurn turns taken (λ p. p ≡ u) v
      held_under v h = elim (only v h) [
        | inl e ↦ subst (IsOfTurn turns taken (λ p. p ≡ u)) (sym e) x_of_turn
        | inr o ↦ s.held u o.0 o.1 v o.2
      ]

      held : (q : TxnId) (ws : List Waiting) → more q ≡ Some ws → (v : Waiting) → Has v ws → IsOfTurn turns taken (λ p. p ≡ q) v
      held q ws m v h = elim (cases_txn q u) [
        | inl e ↦
            (let f : Some ws ≡ Some under = sym m ∙ (ap more e ∙ same) in
            let g : ws ≡ under = cc in
            subst (λ k. IsOfTurn turns taken (λ p. p ≡ k) v) (sym e) (held_under v (subst (Has v) g h)))
        | inr n ↦ s.held q ws (sym (other q n) ∙ m) v h
      ]

      pub waits : IsQueue turns taken due pending left ready more
      waits =
          record {
            here = s.here;
            from = s.from;
            free = s.free;
            placed = λ o h l. elim (s.placed o h l) [
              | inl r ↦ inl r
              | inr r ↦ elim r [
                | inl p ↦ elim (has_more p.0 w pending p.1) [
                  | inl i ↦ inr (inl (p.0, i, p.2))
                  | inr i ↦ inr (inr (held_here o h (sym (ap (λ (v : Waiting). v.key) (sym i) ∙ p.2))))
                ]
                | inr p ↦ inr (inr (held_still o p))
              ]
            ];
            held = held;
            pends = λ v h. s.pends v (has_left v pending (w ∷ []) h);
            ended = s.ended;
          }

  -- those held back by an id that was taken are to be settled
  module _ (u : TxnId) (s : IsQueue turns taken (u ∷ due) [] left ready waiting) (more : TxnId → Option (List Waiting)) (at : (q : TxnId) → more q ≡ cond (is_eq (txn_cmp u q)) None (waiting q)) where
    other_held : (o : Turn) (p : IsHeld taken (u ∷ due) waiting o) → ¬ (p.0 ≡ u) → IsHeld taken due more o
    other_held o p n = (p.0, p.1, at_other u None waiting more at p.0 n ∙ p.2, p.3, p.4, λ l. elim (p.5 l) [ inl e ↦ absurd (n e) | inr k ↦ k ])

    still_held : (q : TxnId) (ws : List Waiting) → more q ≡ Some ws → (v : Waiting) → Has v ws → IsOfTurn turns taken (λ p. p ≡ q) v
    still_held q ws m v h = elim (cases_txn q u) [
      | inl e ↦ absurd (let f : None ≡ Some ws = sym (at_same u None waiting more at) ∙ (ap more (sym e) ∙ m) in cc)
      | inr n ↦ s.held q ws (sym (at_other u None waiting more at q n) ∙ m) v h
    ]

    placed_by : (now : List Waiting) → ((ws : List Waiting) → waiting u ≡ Some ws → ws ≡ now) → (o : Turn) → Has o turns → IsLeft taken o → (ready o.key ≡ true) ⊎ (IsFor now o ⊎ IsHeld taken due more o)
    placed_by now is_now o h l = elim (s.placed o h l) [
      | inl r ↦ inl r
      | inr r ↦ elim r [
        | inl p ↦ absurd p.1
        | inr p ↦ elim (cases_txn p.0 u) [
          | inl e ↦ inr (inl (subst (λ ws. IsFor ws o) (is_now p.1 (ap waiting (sym e) ∙ p.2)) p.3))
          | inr n ↦ inr (inr (other_held o p n))
        ]
      ]
    ]

    pub releases : (ws : List Waiting) → waiting u ≡ Some ws → IsQueue turns taken due ws left ready more
    releases ws e =
        record {
          here = s.here;
          from = s.from;
          free = s.free;
          placed = placed_by ws (λ vs f. let g : Some vs ≡ Some ws = sym f ∙ e in cc);
          held = still_held;
          pends = λ v h. let o = s.held u ws e v h in
              (o.0, o.1, o.2, λ p l. elim (o.3 p l) [ inl k ↦ inl k | inr k ↦ elim k [ inl f ↦ inl (subst (IsListed is_txn taken) (sym f) (s.ended u (inl refl))) | inr r ↦ inr (inr r) ] ], o.4);
          ended = λ q h. s.ended q (inr h);
        }

    pub releases_none : waiting u ≡ None → IsQueue turns taken due [] left ready more
    releases_none e =
        record {
          here = s.here;
          from = s.from;
          free = s.free;
          placed = placed_by [] (λ vs f. absurd (let g : None ≡ Some vs = sym e ∙ f in cc));
          held = still_held;
          pends = λ v h. absurd h;
          ended = λ q h. s.ended q (inr h);
        }

-- ---- what comes next, where none is to be settled

module _ (turns : List Turn) (a : AreTurns turns) (taken : List TxnId) (left : TxnId → Option (List TxnId)) (ready : TxnId → Bool) (waiting : TxnId → Option (List Waiting)) (s : IsQueue turns taken [] [] left ready waiting) where
  due_ready : (o : Turn) → Has o turns → IsLeft taken o → IsDue taken o → ready o.key ≡ true
  due_ready o h l d = elim (s.placed o h l) [
    | inl r ↦ r
    | inr r ↦ elim r [ inl p ↦ absurd p.1 | inr p ↦ absurd (p.5 (d p.0 p.4)) ]
  ]

  abbrev IsNextTurnOfKey : TxnId → Type 0
  IsNextTurnOfKey k = (t : Turn) × Has t turns × (t.key ≡ k) × IsLeft taken t × IsNextTurn turns taken t

  pub next_ready : (k : TxnId) → ready k ≡ true → ((q : TxnId) → ready q ≡ true → is_gt (txn_cmp k q) ≡ false) → IsNextTurnOfKey k
  next_ready k r least =
      let t = s.free k r in
      (t.0, t.1, t.2, t.3, inl (t.4, λ o h l d lt. false≢true (sym (least o.key (due_ready o h l d)) ∙ (is_gt-txn_cmp k o.key ∙ subst (λ v. txn_lt o.key v ≡ true) t.2 lt))))

  pub next_left : ((q : TxnId) → ready q ≡ true → ⊥) → (k : TxnId) (ids : List TxnId) → left k ≡ Some ids → ((q : TxnId) (other : List TxnId) → left q ≡ Some other → is_gt (txn_cmp k q) ≡ false) → IsNextTurnOfKey k
  next_left none k ids e least =
      let t = s.from k ids e in
      (t.0, t.1, t.2, t.4, inr (λ o h l d. none o.key (due_ready o h l d), λ o h l d lt. false≢true (sym (least o.key o.ids (s.here o h l)) ∙ (is_gt-txn_cmp k o.key ∙ subst (λ v. txn_lt o.key v ≡ true) t.2 lt))))

  pub all_taken : ((q : TxnId) → left q ≡ None) → (t : Turn) → Has t turns → ¬ IsLeft taken t
  all_taken none t h l = let f : None ≡ Some t.ids = sym (none t.key) ∙ s.here t h l in cc

  -- it was taken
  module _
      (t : Turn) (h : Has t turns) (is_left : IsLeft taken t) (less : TxnId → Option (List TxnId)) (other : (q : TxnId) → ¬ (q ≡ t.key) → less q ≡ left q) (same : less t.key ≡ None)
      (fewer : TxnId → Bool) (kept : (q : TxnId) → ¬ (q ≡ t.key) → ready q ≡ true → fewer q ≡ true) (only : (q : TxnId) → fewer q ≡ true → (ready q ≡ true) × ¬ (q ≡ t.key)) where
    abbrev taken_more : List TxnId
    taken_more = taken ++ t.ids

    not_taken : (o : Turn) → IsLeft taken_more o → IsLeft taken o
    not_taken o l k = l (listed_front is_txn taken t.ids o.key k)

    not_it : (o : Turn) → IsLeft taken_more o → ¬ (o.key ≡ t.key)
    not_it o l e = l (subst (IsListed is_txn taken_more) (sym e) (listed_behind is_txn taken t.ids t.key (a.key t h)))

    still_left : (o : Turn) → Has o turns → IsLeft taken o → ¬ (o.key ≡ t.key) → IsLeft taken_more o
    still_left o i l n k = elim (listed_either is_txn taken t.ids o.key k) [
      | inl j ↦ l j
      | inr j ↦ n (ap (λ (v : Turn). v.key) (sym (a.own t o h i j.1)))
    ]

    of_more : (but : TxnId → Type 0) (v : Waiting) → IsOfTurn turns taken but v → IsOfTurn turns taken_more but v
    of_more but v o = (o.0, o.1, o.2, λ p l. elim (o.3 p l) [ inl k ↦ inl (listed_front is_txn taken t.ids p k) | inr k ↦ inr k ], o.4)

    held_by : (o : Turn) → IsHeld taken [] waiting o → IsHeld taken_more t.ids waiting o
    held_by o p = (p.0, p.1, p.2, p.3, p.4, λ l. elim (listed_either is_txn taken t.ids p.0 l) [ inl k ↦ absurd (p.5 k) | inr k ↦ listed_has t.ids p.0 k.1 ])

    pub takes : IsQueue turns (taken ++ t.ids) t.ids [] less fewer waiting
    takes =
        record {
          here = λ o i l. other o.key (not_it o l) ∙ s.here o i (not_taken o l);
          from = λ k ids e. elim (cases_txn k t.key) [
            | inl f ↦ absurd (let g : None ≡ Some ids = sym same ∙ (ap less (sym f) ∙ e) in cc)
            | inr n ↦ (let o = s.from k ids (sym (other k n) ∙ e) in (o.0, o.1, o.2, o.3, still_left o.0 o.1 o.4 (λ f. n (sym o.2 ∙ f))))
          ];
          free = λ k r.
              let f = only k r in
              let o = s.free k f.0 in
              (o.0, o.1, o.2, still_left o.0 o.1 o.3 (λ g. f.1 (sym o.2 ∙ g)), λ p l. listed_front is_txn taken t.ids p (o.4 p l));
          placed = λ o i l. elim (s.placed o i (not_taken o l)) [
            | inl r ↦ inl (kept o.key (not_it o l) r)
            | inr r ↦ elim r [ inl p ↦ absurd p.1 | inr p ↦ inr (inr (held_by o p)) ]
          ];
          held = λ u ws e v i. of_more (λ p. p ≡ u) v (s.held u ws e v i);
          pends = λ v i. absurd i;
          ended = λ u i. listed_behind is_txn taken t.ids u (has_listed t.ids u i);
        }
