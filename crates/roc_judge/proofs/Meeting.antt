-- The pairs of one server's accesses lead where accesses that meet do, and nowhere else
use Rattle.std.proofs.Common.{◌≡◌, ◌≢◌, Bool, true, false, if◌then◌else◌, ◌&&◌, ◌||◌, List, [], ◌∷◌, Option, Some, None, refl, sym, ap, subst, ◌∙◌, ◌⊎◌, inl, inr}
use Rattle.std.proofs.lemmas.Bool.{and_parts}
use Rattle.std.specs.List.{flat_map}
use Rattle.roc_sequence.specs.Lists.{Has}
use Rattle.roc_sequence.proofs.Members.{has_left, has_right, has_append, has_more, has_flat_map, from_has_flat_map}
use Rattle.roc_base.specs.declared.id.TxnId.{TxnId}
use Rattle.roc_base.specs.TxnId.{is_txn}
use Rattle.roc_base.specs.Equalities.{is_txn-true}
use Rattle.roc_base.proofs.Ids.{is_txn-false}
use Rattle.roc_rows.specs.declared.cell.Cell.{Cell}
use Rattle.roc_rows.specs.Cells.{is_cell}
use Rattle.roc_rows.proofs.CellLaws.{is_cell-true, is_cell-same}
use Rattle.roc_depgraph.specs.Reach.{ReachesOrIs, direct}
use Rattle.roc_depgraph.proofs.Chains.{joined_chain}
use Rattle.roc_msg.specs.declared.outbox.Ran.{Ran}
use Rattle.roc_precedence.specs.declared.pair.Pair.{Pair}
use Rattle.roc_judge.specs.Before.{StandsBefore, do_meet}
use Rattle.roc_judge.specs.Inner.Uses.{Last, nobody, pair_with, pair_writer, pair_readers, pairs_for, last_after, step, walk}

joined_or : (E : TxnId → TxnId → Type 0) (a b c : TxnId) → ReachesOrIs E a b → ReachesOrIs E b c → ReachesOrIs E a c
joined_or E a b c (inl e) q = subst (λ x. ReachesOrIs E x c) (sym e) q
joined_or E a b c (inr p) (inl e) = subst (λ x. ReachesOrIs E a x) e (inr p)
joined_or E a b c (inr p) (inr q) = inr (joined_chain E a b c p q)

-- ---- they lead

module _ (E : TxnId → TxnId → Type 0) where
  -- all of these are edges
  abbrev AreEdges : List Pair → Type 0
  AreEdges pairs = (p : Pair) → Has p pairs → E p.earlier p.later

  -- the last writer is id, or id leads to it
  abbrev LeadsToWriter : Option TxnId → TxnId → Type 0
  LeadsToWriter None id = ⊥
  LeadsToWriter (Some w) id = ReachesOrIs E id w

  -- what an access has left at its cell
  abbrev IsKept : Last → Bool → TxnId → Type 0
  IsKept l true id = LeadsToWriter l.writer id
  IsKept l false id = Has id l.readers ⊎ LeadsToWriter l.writer id

  with_leads : (later earlier : TxnId) → AreEdges (pair_with later earlier) → ReachesOrIs E earlier later
  with_leads later earlier edges = go (is_txn earlier later) refl edges
    where
      go : (t : Bool) → is_txn earlier later ≡ t → AreEdges (if t then [] else record { later = later; earlier = earlier } ∷ []) → ReachesOrIs E earlier later
      go true e edges = inl (is_txn-true earlier later e)
      go false e edges = inr (direct (edges (record { later = later; earlier = earlier }) (inl refl)))

  writer_leads : (later id : TxnId) (w : Option TxnId) → AreEdges (pair_writer later w) → LeadsToWriter w id → ReachesOrIs E id later
  writer_leads later id None edges h = elim h [ ]
  writer_leads later id (Some w) edges h = joined_or E id w later h (with_leads later w edges)

  reader_leads : (later id : TxnId) (readers : List TxnId) → AreEdges (flat_map (pair_with later) readers) → Has id readers → ReachesOrIs E id later
  reader_leads later id [] edges h = elim h [ ]
  reader_leads later id (r ∷ rs) edges (inl e) = with_leads later id (λ p h. edges p (has_left p (pair_with later r) (flat_map (pair_with later) rs) (subst (λ x. Has p (pair_with later x)) e h)))
  reader_leads later id (r ∷ rs) edges (inr h) = reader_leads later id rs (λ p k. edges p (has_right p (pair_with later r) (flat_map (pair_with later) rs) k)) h

  -- an access leads to a later one that it meets
  kept_leads : (l : Last) (writes : Bool) (id : TxnId) (b : Ran) → AreEdges (pairs_for l b) → IsKept l writes id → (writes || b.writes) ≡ true → ReachesOrIs E id b.id
  kept_leads l true id b edges k e = writer_leads b.id id l.writer (λ p h. edges p (has_left p (pair_writer b.id l.writer) (pair_readers b.writes b.id l.readers) h)) k
  kept_leads l false id b edges (inr k) e = writer_leads b.id id l.writer (λ p h. edges p (has_left p (pair_writer b.id l.writer) (pair_readers b.writes b.id l.readers) h)) k
  kept_leads l false id b edges (inl k) e =
      reader_leads b.id id l.readers (λ p h. edges p (has_right p (pair_writer b.id l.writer) (pair_readers b.writes b.id l.readers)
      (subst (λ t. Has p (pair_readers t b.id l.readers)) (sym e) h))) k

  -- and is kept behind any access of its cell
  kept_after : (l : Last) (writes : Bool) (id : TxnId) (b : Ran) → AreEdges (pairs_for l b) → IsKept l writes id → IsKept (last_after b.writes b.id l) writes id
  kept_after l writes id b edges k = go b.writes writes refl k
    where
      go : (t w : Bool) → b.writes ≡ t → IsKept l w id → IsKept (last_after t b.id l) w id
      go true true e k = kept_leads l true id b edges k refl
      go true false e k = inr (kept_leads l false id b edges k e)
      go false true e k = k
      go false false e (inl k) = inl (has_left id l.readers (b.id ∷ []) k)
      go false false e (inr k) = inr k

  kept_there : (at : Cell → Last) (a b : Ran) → AreEdges (pairs_for (at b.cell) b) → IsKept (at a.cell) a.writes a.id → IsKept (step at b a.cell) a.writes a.id
  kept_there at a b edges k = go (is_cell b.cell a.cell) refl
    where
      go : (t : Bool) → is_cell b.cell a.cell ≡ t → IsKept (if t then last_after b.writes b.id (at a.cell) else at a.cell) a.writes a.id
      go true e =
          let same : b.cell ≡ a.cell = is_cell-true b.cell a.cell e in
          kept_after (at a.cell) a.writes a.id b (subst (λ c. AreEdges (pairs_for (at c) b)) same edges) k
      go false e = k

  -- an access is kept behind itself
  kept_own : (at : Cell → Last) (a : Ran) → IsKept (step at a a.cell) a.writes a.id
  kept_own at a = subst (λ t. IsKept (if t then last_after a.writes a.id (at a.cell) else at a.cell) a.writes a.id) (sym (is_cell-same a.cell)) (go a.writes)
    where
      go : (t : Bool) → IsKept (last_after t a.id (at a.cell)) t a.id
      go true = inl refl
      go false = inl (has_right a.id (at a.cell).readers (a.id ∷ []) (inl refl))

  meets_at : (at : Cell → Last) (a b : Ran) → AreEdges (pairs_for (at b.cell) b) → IsKept (at a.cell) a.writes a.id → do_meet a b ≡ true → ReachesOrIs E a.id b.id
  meets_at at a b edges k e =
      let same : a.cell ≡ b.cell = is_cell-true a.cell b.cell (and_parts (is_cell a.cell b.cell) (a.writes || b.writes) e).0 in
      kept_leads (at b.cell) a.writes a.id b edges (subst (λ c. IsKept (at c) a.writes a.id) same k) (and_parts (is_cell a.cell b.cell) (a.writes || b.writes) e).1

  waits_lead : (at : Cell → Last) (ws : List Ran) (a b : Ran) → AreEdges (flat_map (λ b. pairs_for (at b.cell) b) ws) → IsKept (at a.cell) a.writes a.id → Has b ws → do_meet a b ≡ true
      → ReachesOrIs E a.id b.id
  waits_lead at ws a b edges k h e = meets_at at a b (λ p i. edges p (has_flat_map (λ b. pairs_for (at b.cell) b) p b ws h i)) k e

  -- what is kept leads to all behind that it meets
  kept_meets : (at : Cell → Last) (bs ws : List Ran) (a b : Ran) → AreEdges (walk at bs ws) → IsKept (at a.cell) a.writes a.id → Has b bs ⊎ Has b ws → do_meet a b ≡ true → ReachesOrIs E a.id b.id
  kept_meets at [] ws a b edges k (inl h) e = elim h [ ]
  kept_meets at [] ws a b edges k (inr h) e = waits_lead at ws a b edges k h e
  kept_meets at (x ∷ bs) ws a b edges k h e =
      let here : AreEdges (pairs_for (at x.cell) x) = λ p i. edges p (has_left p (pairs_for (at x.cell) x) (walk (step at x) bs ws) i) in
      let behind : AreEdges (walk (step at x) bs ws) = λ p i. edges p (has_right p (pairs_for (at x.cell) x) (walk (step at x) bs ws) i) in
      go here (λ j. kept_meets (step at x) bs ws a b behind (kept_there at a x here k) j e) h
    where
      go : AreEdges (pairs_for (at x.cell) x) → (Has b bs ⊎ Has b ws → ReachesOrIs E a.id b.id) → Has b (x ∷ bs) ⊎ Has b ws → ReachesOrIs E a.id b.id
      go here rest (inl (inl i)) = meets_at at a b (subst (λ y. AreEdges (pairs_for (at y.cell) y)) (sym i) here) k e
      go here rest (inl (inr h)) = rest (inl h)
      go here rest (inr h) = rest (inr h)

  pub walk_leads : (at : Cell → Last) (bs ws : List Ran) (a b : Ran) → AreEdges (walk at bs ws) → StandsBefore a b bs ⊎ (Has a bs × Has b ws) → do_meet a b ≡ true → ReachesOrIs E a.id b.id
  walk_leads at [] ws a b edges (inl h) e = elim h [ ]
  walk_leads at [] ws a b edges (inr h) e = elim h.0 [ ]
  walk_leads at (x ∷ bs) ws a b edges h e =
      let behind : AreEdges (walk (step at x) bs ws) = λ p i. edges p (has_right p (pairs_for (at x.cell) x) (walk (step at x) bs ws) i) in
      go (λ own j. kept_meets (step at x) bs ws a b behind own j e) (λ j. walk_leads (step at x) bs ws a b behind j e) h
    where
      own : a ≡ x → IsKept (step at x a.cell) a.writes a.id
      own i = subst (λ y. IsKept (step at y a.cell) a.writes a.id) i (kept_own at a)

      go : (IsKept (step at x a.cell) a.writes a.id → Has b bs ⊎ Has b ws → ReachesOrIs E a.id b.id) → (StandsBefore a b bs ⊎ (Has a bs × Has b ws) → ReachesOrIs E a.id b.id)
          → StandsBefore a b (x ∷ bs) ⊎ (Has a (x ∷ bs) × Has b ws) → ReachesOrIs E a.id b.id
      go first rest (inl (inl (i, h))) = first (own i) (inl h)
      go first rest (inl (inr h)) = rest (inl h)
      go first rest (inr (inl i, h)) = first (own i) (inr h)
      go first rest (inr (inr i, h)) = rest (inr (i, h))

-- ---- and each is of two that meet

-- an access of u before one of t that it meets
pub record IsOfTwo (Stands : Ran → Ran → Type 0) (u t : TxnId) : Type 0 where
  pub first : Ran
  pub second : Ran
  pub stands : Stands first second
  pub meets : do_meet first second ≡ true
  pub first_is : first.id ≡ u
  pub second_is : second.id ≡ t
  pub others : u ≢ t

-- what is at a cell was left by accesses there
pub record IsLeft (Earlier : Ran → Type 0) (c : Cell) (l : Last) : Type 0 where
  pub writer : (w : TxnId) → l.writer ≡ Some w → (x : Ran) × Earlier x × (x.cell ≡ c) × (x.id ≡ w) × (x.writes ≡ true)
  pub readers : (r : TxnId) → Has r l.readers → (x : Ran) × Earlier x × (x.cell ≡ c) × (x.id ≡ r)

pub from_with : (later earlier : TxnId) (p : Pair) → Has p (pair_with later earlier) → (p.later ≡ later) × (p.earlier ≡ earlier) × (earlier ≢ later)
from_with later earlier p h = go (is_txn earlier later) refl h
  where
    go : (t : Bool) → is_txn earlier later ≡ t → Has p (if t then [] else record { later = later; earlier = earlier } ∷ []) → (p.later ≡ later) × (p.earlier ≡ earlier) × (earlier ≢ later)
    go true e h = elim h [ ]
    go false e (inl i) = (ap (λ (q : Pair). q.later) i, ap (λ (q : Pair). q.earlier) i, is_txn-false earlier later e)
    go false e (inr h) = elim h [ ]

meeting : (x b : Ran) → x.cell ≡ b.cell → (x.writes || b.writes) ≡ true → do_meet x b ≡ true
meeting x b same e = ap (λ t. t && (x.writes || b.writes)) (subst (λ c. is_cell x.cell c ≡ true) same (is_cell-same x.cell)) ∙ e

or_true : (a : Bool) → (a || true) ≡ true
or_true true = refl
or_true false = refl

module _ (Earlier : Ran → Type 0) (l : Last) (b : Ran) (left : IsLeft Earlier b.cell l) where
  abbrev Two : TxnId → TxnId → Type 0
  Two u t = IsOfTwo (λ x y. Earlier x × (y ≡ b)) u t

  from_writer : (w : Option TxnId) → l.writer ≡ w → (p : Pair) → Has p (pair_writer b.id w) → Two p.earlier p.later
  from_writer None e p h = elim h [ ]
  from_writer (Some w) e p h =
      let k = from_with b.id w p h in
      let x = left.writer w e in
      record {
        first = x.0;
        second = b;
        stands = (x.1, refl);
        meets = meeting x.0 b x.2 (ap (λ t. t || b.writes) x.4);
        first_is = x.3 ∙ sym k.1;
        second_is = sym k.0;
        others = λ s. k.2 (sym k.1 ∙ (s ∙ k.0));
      }

  from_readers : (t : Bool) → b.writes ≡ t → (p : Pair) → Has p (pair_readers t b.id l.readers) → Two p.earlier p.later
  from_readers false e p h = elim h [ ]
  from_readers true e p h =
      let r = from_has_flat_map (pair_with b.id) p l.readers h in
      let k = from_with b.id r.0 p r.2 in
      let x = left.readers r.0 r.1 in
      record {
        first = x.0;
        second = b;
        stands = (x.1, refl);
        meets = meeting x.0 b x.2 (ap (λ t. x.0.writes || t) e ∙ or_true x.0.writes);
        first_is = x.3 ∙ sym k.1;
        second_is = sym k.0;
        others = λ s. k.2 (sym k.1 ∙ (s ∙ k.0));
      }

  pub from_pairs : (p : Pair) → Has p (pairs_for l b) → Two p.earlier p.later
  from_pairs p h =
      elim (has_append p (pair_writer b.id l.writer) (pair_readers b.writes b.id l.readers) h) [
        | inl i ↦ from_writer l.writer refl p i
        | inr i ↦ from_readers b.writes refl p i
      ]

  left_after : IsLeft (λ x. Earlier x ⊎ (x ≡ b)) b.cell (last_after b.writes b.id l)
  left_after = go b.writes refl
    where
      go : (t : Bool) → b.writes ≡ t → IsLeft (λ x. Earlier x ⊎ (x ≡ b)) b.cell (last_after t b.id l)
      go true e = record {
        writer = λ w k. (b, inr refl, refl, (let s : b.id ≡ w = cc in s), e);
        readers = λ r h. elim h [ ];
      }
      go false e = record {
        writer = λ w k. (let x = left.writer w k in (x.0, inl x.1, x.2, x.3, x.4));
        readers = λ r h. elim (has_more r b.id l.readers h) [
          | inl i ↦ (let x = left.readers r i in (x.0, inl x.1, x.2, x.3))
          | inr i ↦ (b, inr refl, refl, sym i)
        ];
      }

left_more : (Earlier : Ran → Type 0) (b : Ran) (c : Cell) (l : Last) → IsLeft Earlier c l → IsLeft (λ x. Earlier x ⊎ (x ≡ b)) c l
left_more Earlier b c l left = record {
  writer = λ w k. (let x = left.writer w k in (x.0, inl x.1, x.2, x.3, x.4));
  readers = λ r h. (let x = left.readers r h in (x.0, inl x.1, x.2, x.3));
}

left_step : (Earlier : Ran → Type 0) (at : Cell → Last) (b : Ran) → ((c : Cell) → IsLeft Earlier c (at c)) → (c : Cell) → IsLeft (λ x. Earlier x ⊎ (x ≡ b)) c (step at b c)
left_step Earlier at b left c = go (is_cell b.cell c) refl
  where
    go : (t : Bool) → is_cell b.cell c ≡ t → IsLeft (λ x. Earlier x ⊎ (x ≡ b)) c (if t then last_after b.writes b.id (at c) else at c)
    go true e = subst (λ d. IsLeft (λ x. Earlier x ⊎ (x ≡ b)) d (last_after b.writes b.id (at d))) (is_cell-true b.cell c e) (left_after Earlier (at b.cell) b (left b.cell))
    go false e = left_more Earlier b c (at c) (left c)

-- the first ran before all of these, or stands before the second among them, which may wait
abbrev pub Stand : (Earlier : Ran → Type 0) → (bs ws : List Ran) → Ran → Ran → Type 0
Stand Earlier bs ws x y = (Earlier x × (Has y bs ⊎ Has y ws)) ⊎ (StandsBefore x y bs ⊎ (Has x bs × Has y ws))

of_two_by : (P Q : Ran → Ran → Type 0) (u t : TxnId) → ((x y : Ran) → P x y → Q x y) → IsOfTwo P u t → IsOfTwo Q u t
of_two_by P Q u t f o = record { first = o.first; second = o.second; stands = f o.first o.second o.stands; meets = o.meets; first_is = o.first_is; second_is = o.second_is; others = o.others }

pub from_walk : (Earlier : Ran → Type 0) (at : Cell → Last) (bs ws : List Ran) → ((c : Cell) → IsLeft Earlier c (at c)) → (p : Pair) → Has p (walk at bs ws)
    → IsOfTwo (Stand Earlier bs ws) p.earlier p.later
from_walk Earlier at [] ws left p h =
    let w = from_has_flat_map (λ b. pairs_for (at b.cell) b) p ws h in
    of_two_by _ (Stand Earlier [] ws) p.earlier p.later (λ x y s. inl (s.0, inr (subst (λ z. Has z ws) (sym s.1) w.1))) (from_pairs Earlier (at w.0.cell) w.0 (left w.0.cell) p w.2)
from_walk Earlier at (b ∷ bs) ws left p h =
    elim (has_append p (pairs_for (at b.cell) b) (walk (step at b) bs ws) h) [
      | inl i ↦ of_two_by _ (Stand Earlier (b ∷ bs) ws) p.earlier p.later (λ x y s. inl (s.0, inl (inl s.1))) (from_pairs Earlier (at b.cell) b (left b.cell) p i)
      | inr i ↦ of_two_by _ (Stand Earlier (b ∷ bs) ws) p.earlier p.later behind (from_walk (λ x. Earlier x ⊎ (x ≡ b)) (step at b) bs ws (left_step Earlier at b left) p i)
    ]
  where
    behind : (x y : Ran) → Stand (λ z. Earlier z ⊎ (z ≡ b)) bs ws x y → Stand Earlier (b ∷ bs) ws x y
    behind x y (inl (inl s, inl h)) = inl (s, inl (inr h))
    behind x y (inl (inl s, inr h)) = inl (s, inr h)
    behind x y (inl (inr e, inl h)) = inr (inl (inl (e, h)))
    behind x y (inl (inr e, inr h)) = inr (inr (inl e, h))
    behind x y (inr (inl s)) = inr (inl (inr s))
    behind x y (inr (inr (s, h))) = inr (inr (inr s, h))

-- where nobody used a cell before
pub none_left : (c : Cell) → IsLeft (λ x. ⊥) c nobody
none_left c = record { writer = λ w e. absurd (cc); readers = λ r h. elim h [ ] }
