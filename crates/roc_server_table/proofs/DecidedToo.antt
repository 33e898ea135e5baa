-- Transactions are decided too: their rows are marked
use Rattle.std.proofs.Common.{◌≡◌, ◌≢◌, ◌⊎◌, ◌<◌, ◌+◌, inl, inr, ℕ, Bool, true, false, List, [], ◌∷◌, ◌++◌, length, filter, take, get_or, set, Option, Some, None, refl, sym, ap, ◌∙◌, subst, arith}
use Rattle.std.proofs.lemmas.Bool.{false≢true, cases_eq}
use Rattle.std.proofs.lemmas.Bool.Decides.{nat_tests}
use Rattle.std.proofs.lemmas.List.{get_or-set_same, get_or-set_other}
use Rattle.std.specs.Prelude.{nat_lt}
use Rattle.std.specs.Map.{lookup}
use Rattle.roc_sequence.specs.Lists.{Has}
use Rattle.roc_sequence.specs.Places.{IsListed, is_listed}
use Rattle.roc_sequence.proofs.Fronts.{front_more}
use Rattle.roc_sequence.proofs.Holds.{same_tests}
use Rattle.roc_sequence.proofs.Members.{has_append, has_left, has_right, has_one}
use Rattle.roc_sequence.proofs.Places.{listed_test, listed_true, listed_false}
use Rattle.roc_base.specs.declared.id.TxnId.{TxnId}
use Rattle.roc_base.specs.TxnId.{is_txn}
use Rattle.roc_depgraph.specs.Deps.{IsDecided}
use Rattle.roc_depgraph.specs.Reach.{direct}
use Rattle.roc_depgraph.proofs.Laws.{ancestor_decided}
use Rattle.roc_depgraph.proofs.Listed.{has_listed, listed_has}
use Rattle.roc_step.specs.New.{AreAllNew}
use Rattle.roc_server_rows.specs.declared.rows.Link.{Link}
use Rattle.roc_server_rows.specs.declared.rows.Row.{Row}
use Rattle.roc_server_rows.specs.declared.rows.Parts.{Parts}
use Rattle.roc_server_rows.specs.declared.marks.Mark.{Mark}
use Rattle.roc_server_rows.specs.Rows.{row_in, is_alive, is_told, row_links, AreWhole}
use Rattle.roc_server_rows.specs.Marks.{no_mark, mark_in, is_open, AreMarked, AreOpen, WaitsOn}
use Rattle.roc_server_table.specs.Inner.Kept.{decided_of, AreDecidedToo, IsDecidedAt, IsKept}
use Rattle.roc_server_rows.proofs.Alive.{alive_live, row_within}
use Rattle.roc_server_table.proofs.DecidedIds.{decided_at, decided_listed, listed_decided, mark_within}
use Rattle.roc_server_rows.proofs.OpenRows.{open_fewer}
use Rattle.roc_server_rows.proofs.DecidedRows.{closed_decided, link_named, waits_undecided}
use Rattle.roc_server_table.proofs.KnownRows.{absent_links_known, links_told}

-- ---- one row is marked

module _ (at : ℕ) (ms : List Mark) (within : at < length ms) where
  abbrev too : Mark
  too = record { decided = true; waits = (mark_in ms at).waits }

  own : mark_in (set ms at too) at ≡ too
  own = get_or-set_same ms at too no_mark within

  other : (n : ℕ) → n ≢ at → mark_in (set ms at too) n ≡ mark_in ms n
  other n d = get_or-set_other ms at n too no_mark d

  pub set_decided : IsDecidedAt at ms (set ms at (record { decided = true; waits = (mark_in ms at).waits }))
  set_decided =
      record {
        waits = λ n. elim (cases_eq n at) [
          | inl e ↦ subst (λ j. (mark_in (set ms at too) j).waits ≡ (mark_in ms j).waits) (sym e) (ap (λ (m : Mark). m.waits) own)
          | inr d ↦ ap (λ (m : Mark). m.waits) (other n d)
        ];
        own = λ h. ap (λ (m : Mark). m.decided) own;
        others = λ n d. ap (λ (m : Mark). m.decided) (other n d);
      }

module _ (numbers : List (TxnId × ℕ)) where
  pub none_too : (ms : List Mark) → AreDecidedToo numbers [] ms ms
  none_too ms = record { each = refl; waits = λ n. refl; stay = λ n h. h; too = λ t n h here w. absurd h; only = λ n d. inl d }

  pub absent_too : (id : TxnId) (ms : List Mark) → lookup (is_txn id) numbers ≡ None → AreDecidedToo numbers (id ∷ []) ms ms
  absent_too id ms absent =
      record {
        each = refl;
        waits = λ n. refl;
        stay = λ n h. h;
        too = λ t n h here w.
            let no : None ≡ Some n = sym absent ∙ (ap (λ q. lookup (is_txn q) numbers) (sym (has_one t id h)) ∙ here) in
            absurd (cc);
        only = λ n d. inl d;
      }

  pub one_too : (id : TxnId) (at : ℕ) (old new : List Mark) → lookup (is_txn id) numbers ≡ Some at → length new ≡ length old → IsDecidedAt at old new → AreDecidedToo numbers (id ∷ []) old new
  one_too id at old new there each d =
      record {
        each = each;
        waits = d.waits;
        stay = λ n h. elim (cases_eq n at) [
          | inl e ↦ subst (λ j. (mark_in new j).decided ≡ true) (sym e) (d.own (mark_within old at (ap (λ j. (mark_in old j).decided) (sym e) ∙ h)))
          | inr x ↦ d.others n x ∙ h
        ];
        too = λ t n h here w.
            let two : Some at ≡ Some n = sym there ∙ (ap (λ q. lookup (is_txn q) numbers) (sym (has_one t id h)) ∙ here) in
            let one : at ≡ n = cc in
            subst (λ j. (mark_in new j).decided ≡ true) one (d.own (omega (arith, one, w)));
        only = λ n h. elim (cases_eq n at) [
          | inl e ↦ inr (id, inl refl, there ∙ ap Some (sym e))
          | inr x ↦ inl (sym (d.others n x) ∙ h)
        ];
      }

  both_too : (xs ys : List TxnId) (old mid new : List Mark) → AreDecidedToo numbers xs old mid → AreDecidedToo numbers ys mid new → AreDecidedToo numbers (xs ++ ys) old new
  both_too xs ys old mid new f g =
      record {
        each = g.each ∙ f.each;
        waits = λ n. g.waits n ∙ f.waits n;
        stay = λ n h. g.stay n (f.stay n h);
        too = λ t n h here w. elim (has_append t xs ys h) [
          | inl k ↦ g.stay n (f.too t n k here w)
          | inr k ↦ g.too t n k here (omega (arith, w, f.each))
        ];
        only = λ n d. elim (g.only n d) [
          | inl k ↦ elim (f.only n k) [ inl j ↦ inl j | inr w ↦ inr (w.0, has_left w.0 xs ys w.1, w.2) ]
          | inr w ↦ inr (w.0, has_right w.0 xs ys w.1, w.2)
        ];
      }

  pub next_too : (ids : List TxnId) (i : ℕ) (id : TxnId) (old now new : List Mark) → i < length ids → id ≡ get_or ids i id → AreDecidedToo numbers (take i ids) old now
      → AreDecidedToo numbers (id ∷ []) now new
      → AreDecidedToo numbers (take (i + 1) ids) old new
  next_too ids i id old now new within is so_far one =
      subst (λ l. AreDecidedToo numbers l old new) (front_more ids i id within is) (both_too (take i ids) (id ∷ []) old now new so_far one)

-- ---- all that the links decide newly

module _ (p : Parts) (marks marks2 : List Mark) (ids : List TxnId) (k : IsKept p marks) (new : AreAllNew (IsListed is_txn (decided_of p.rows.items marks)) (row_links p.rows.items) ids)
    (too : AreDecidedToo p.numbers.entries ids marks marks2) where
  abbrev numbers : List (TxnId × ℕ)
  numbers = p.numbers.entries

  abbrev rows : List Row
  rows = p.rows.items

  abbrev id_at : ℕ → TxnId
  id_at n = (row_in rows n).id

  new_decided : (t : TxnId) → Has t ids → IsDecided (row_links rows) t
  new_decided t h = (new.only t (has_listed ids t h)).0

  was_decided : (n : ℕ) → (mark_in marks n).decided ≡ true → IsDecided (row_links rows) (id_at n)
  was_decided n d = closed_decided numbers rows p.stamp k.whole (λ j. (mark_in marks j).decided ≡ true) k.marked.decided_told k.marked.closed n d

  is_decided : (n : ℕ) → (mark_in marks2 n).decided ≡ true → IsDecided (row_links rows) (id_at n)
  is_decided n d = elim (too.only n d) [
    | inl was ↦ was_decided n was
    | inr w ↦ subst (IsDecided (row_links rows)) (sym (k.whole.found w.0 n w.2).is) (new_decided w.0 w.1)
  ]

  told : (n : ℕ) → (mark_in marks2 n).decided ≡ true → is_told (row_in rows n) ≡ true
  told n d = elim (too.only n d) [
    | inl was ↦ k.marked.decided_told n was
    | inr w ↦ sym (links_told numbers rows p.stamp k.whole w.0 n w.2) ∙ (new_decided w.0 w.1).own
  ]

  free : (n : ℕ) → (mark_in marks2 n).decided ≡ true → (mark_in marks n).waits.birth ≡ 0
  free n d = go (nat_lt 0 (mark_in marks n).waits.birth) refl
    where
      go : (b : Bool) → nat_lt 0 (mark_in marks n).waits.birth ≡ b → (mark_in marks n).waits.birth ≡ 0
      go true e =
          let some : 0 < (mark_in marks n).waits.birth = grind (arith, nat_tests) in
          absurd (waits_undecided numbers rows p.stamp k.whole n (mark_in marks n).waits (k.marked.waits n some) (is_decided n d))
      go false e = grind (arith, nat_tests)

  closed : (n : ℕ) → (mark_in marks2 n).decided ≡ true → (l : Link) → Has l (row_in rows n).names → is_alive rows l ≡ true → (mark_in marks2 l.at).decided ≡ true
  closed n d l has alive = go (mark_in marks l.at).decided refl
    where
      here : lookup (is_txn (id_at l.at)) numbers ≡ Some l.at
      here = k.whole.each l.at (alive_live rows l alive)

      next : IsDecided (row_links rows) (id_at l.at)
      next = ancestor_decided (row_links rows) (id_at l.at) (id_at n) (is_decided n d) (direct (link_named numbers rows p.stamp k.whole n (told n d) l has alive))

      within : l.at < length marks
      within = let row : l.at < length rows = row_within rows l.at (alive_live rows l alive) in omega (arith, row, k.each)

      go : (b : Bool) → (mark_in marks l.at).decided ≡ b → (mark_in marks2 l.at).decided ≡ true
      go true e = too.stay l.at e
      go false e =
          let unlisted : is_listed is_txn (decided_of rows marks) (id_at l.at) ≡ false = decided_at numbers rows p.stamp k.whole marks k.marked (id_at l.at) l.at here ∙ e in
          let listed : IsListed is_txn ids (id_at l.at) = new.all (id_at l.at) (next, listed_false is_txn (decided_of rows marks) (id_at l.at) unlisted) in
          too.too (id_at l.at) l.at (listed_has ids (id_at l.at) listed) here within

  marked : AreMarked rows marks2
  marked =
      record {
        decided_told = told;
        decided_free = λ n d. ap (λ (l : Link). l.birth) (too.waits n) ∙ free n d;
        closed = closed;
        waits = λ n w. subst (WaitsOn rows n) (sym (too.waits n)) (k.marked.waits n (subst (λ (l : Link). 0 < l.birth) (too.waits n) w));
      }

  pub too_kept : (q : Parts) → AreWhole q → q.rows.items ≡ rows → q.undecided.items ≡ filter (is_open rows marks2) p.undecided.items → IsKept q marks2
  too_kept q whole same is =
      record {
        whole = whole;
        marked = subst (λ (rs : List Row). AreMarked rs marks2) (sym same) marked;
        each = too.each ∙ (k.each ∙ ap length (sym same));
        undecided = subst (λ (ns : List ℕ). AreOpen q.rows.items marks2 ns) (sym is) (subst (λ (rs : List Row). AreOpen rs marks2 (filter (is_open rows marks2) p.undecided.items)) (sym same) left);
      }
    where
      was : (n : ℕ) (b : Bool) → (mark_in marks n).decided ≡ b → (mark_in marks2 n).decided ≡ false → (mark_in marks n).decided ≡ false
      was n true e f = absurd (false≢true (sym f ∙ too.stay n e))
      was n false e f = e

      still : (n : ℕ) → 0 < (mark_in marks2 n).waits.birth → (b : Bool) → (mark_in marks2 n).decided ≡ b → (mark_in marks2 n).decided ≡ false
      still n w true e = absurd (let z = free n e in omega (arith, z, ap (λ (l : Link). l.birth) (too.waits n), w))
      still n w false e = e

      left : AreOpen rows marks2 (filter (is_open rows marks2) p.undecided.items)
      left =
          open_fewer rows rows marks marks2 p.undecided.items k.undecided (omega (arith, too.each)) (λ n t. t) (λ n u. was n (mark_in marks n).decided refl u)
          (λ n w.
          let h = k.undecided.waiting n (subst (λ (l : Link). 0 < l.birth) (too.waits n) w) in
          (h, (k.undecided.only n h).told, still n w (mark_in marks2 n).decided refl))

  pub too_decided : (t : TxnId) → is_listed is_txn (decided_of rows marks2) t ≡ is_listed is_txn (decided_of rows marks ++ ids) t
  too_decided t =
      same_tests (is_listed is_txn (decided_of rows marks2) t) (is_listed is_txn (decided_of rows marks ++ ids) t)
      (λ e.
      let w = listed_decided numbers rows p.stamp k.whole marks2 marked t (listed_true is_txn (decided_of rows marks2) t e) in
      let has : Has t (decided_of rows marks ++ ids) = there w.0 w.1 (too.only w.0 w.2) in
      listed_test is_txn (decided_of rows marks ++ ids) t (has_listed (decided_of rows marks ++ ids) t has))
      (λ e. listed_test is_txn (decided_of rows marks2) t
      (back (has_append t (decided_of rows marks) ids (listed_has (decided_of rows marks ++ ids) t (listed_true is_txn (decided_of rows marks ++ ids) t e)))))
    where
      there : (n : ℕ) → lookup (is_txn t) numbers ≡ Some n → ((mark_in marks n).decided ≡ true) ⊎ ((q : TxnId) × Has q ids × (lookup (is_txn q) numbers ≡ Some n))
          → Has t (decided_of rows marks ++ ids)
      there n here (inl was) =
          let listed : IsListed is_txn (decided_of rows marks) t
          = subst (IsListed is_txn (decided_of rows marks)) (k.whole.found t n here).is (decided_listed numbers rows p.stamp k.whole marks k.marked n was) in
          has_left t (decided_of rows marks) ids (listed_has (decided_of rows marks) t listed)
      there n here (inr w) =
          let same : w.0 ≡ t = sym (k.whole.found w.0 n w.2).is ∙ (k.whole.found t n here).is in
          has_right t (decided_of rows marks) ids (subst (λ q. Has q ids) same w.1)

      marked_listed : (n : ℕ) → lookup (is_txn t) numbers ≡ Some n → (mark_in marks2 n).decided ≡ true → IsListed is_txn (decided_of rows marks2) t
      marked_listed n here d = subst (IsListed is_txn (decided_of rows marks2)) (k.whole.found t n here).is (decided_listed numbers rows p.stamp k.whole marks2 marked n d)

      found : Has t ids → (o : Option ℕ) → lookup (is_txn t) numbers ≡ o → IsListed is_txn (decided_of rows marks2) t
      found h None e = absurd (false≢true (sym (absent_links_known numbers rows p.stamp k.whole t e) ∙ (new_decided t h).own))
      found h (Some n) e =
          let row : n < length rows = row_within rows n (k.whole.found t n e).live in
          marked_listed n e (too.too t n h e (omega (arith, row, k.each)))

      back : Has t (decided_of rows marks) ⊎ Has t ids → IsListed is_txn (decided_of rows marks2) t
      back (inl h) =
          let w = listed_decided numbers rows p.stamp k.whole marks k.marked t (has_listed (decided_of rows marks) t h) in
          marked_listed w.0 w.1 (too.stay w.0 w.2)
      back (inr h) = found h (lookup (is_txn t) numbers) refl
