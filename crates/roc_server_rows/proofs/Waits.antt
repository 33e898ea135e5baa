-- Rows that are marked as waiting, one after another
use Rattle.std.proofs.Common.{◌≡◌, ◌≢◌, ◌<◌, ◌≤◌, ◌+◌, ◌||◌, inl, inr, ℕ, zero, suc, Bool, true, false, cond, List, [], ◌∷◌, ◌++◌, length, get_or, set, take, refl, sym, ap, ◌∙◌, subst, arith}
use Rattle.std.proofs.lemmas.Bool.{false≢true, cases_eq}
use Rattle.std.proofs.lemmas.Bool.Decides.{nat_tests}
use Rattle.std.proofs.lemmas.List.{get_or-set_same, get_or-set_other, length-set, take_more}
use Rattle.std.specs.Prelude.{nat_lt}
use Rattle.std.specs.List.{AllByRecursion}
use Rattle.roc_sequence.specs.Lists.{Has}
use Rattle.roc_sequence.proofs.Holds.{all_append, all_weaker}
use Rattle.roc_server_rows.specs.declared.rows.Link.{Link}
use Rattle.roc_server_rows.specs.declared.rows.Row.{Row}
use Rattle.roc_server_rows.specs.declared.marks.Mark.{Mark}
use Rattle.roc_server_rows.specs.Rows.{row_in, is_alive, is_told}
use Rattle.roc_server_rows.specs.Inner.Marks.{Holds, HoldsSome, IsFreeRow, IsHeldBy}
use Rattle.roc_server_rows.specs.Marks.{no_mark, mark_in, at_end, by_link, AreMarked, AreSameDecided}
use Rattle.roc_server_rows.specs.Inner.Marks.{IsHeldThrough, IsSettled, KeepsWaits, WaitsNewly, count_free}
use Rattle.roc_server_rows.specs.Marks.{IsOpen, WaitsOn}
use Rattle.roc_server_rows.proofs.Alive.{alive_live}

-- ---- one row waits

module _ (rows : List Row) (marks : List Mark) (n : ℕ) (m : Mark) (a : AreMarked rows marks) (o : IsOpen rows marks n)
    (same : m.decided ≡ (mark_in marks n).decided) (waits : WaitsOn rows n m.waits) where
  abbrev new : List Mark
  new = set marks n m

  within : n < length marks
  within = o.within

  mark_own : mark_in new n ≡ m
  mark_own = get_or-set_same marks n m no_mark within

  mark_other : (k : ℕ) → k ≢ n → mark_in new k ≡ mark_in marks k
  mark_other k d = get_or-set_other marks n k m no_mark d

  decided_stays : (k : ℕ) → (mark_in new k).decided ≡ (mark_in marks k).decided
  decided_stays k = elim (cases_eq k n) [
    | inl e ↦ ap (λ j. (mark_in new j).decided) e ∙ (ap (λ (x : Mark). x.decided) mark_own ∙ (same ∙ ap (λ j. (mark_in marks j).decided) (sym e)))
    | inr d ↦ ap (λ (x : Mark). x.decided) (mark_other k d)
  ]

  marked_more : AreMarked rows new
  marked_more =
      record {
        decided_told = λ k h. a.decided_told k (sym (decided_stays k) ∙ h);
        decided_free = λ k h. elim (cases_eq k n) [
          | inl e ↦
              let z : (mark_in marks n).decided ≡ true = ap (λ j. (mark_in marks j).decided) (sym e) ∙ (sym (decided_stays k) ∙ h) in
              absurd (false≢true (sym o.undecided ∙ z))
          | inr d ↦ ap (λ (x : Mark). x.waits.birth) (mark_other k d) ∙ a.decided_free k (sym (decided_stays k) ∙ h)
        ];
        closed = λ k h l has alive. decided_stays l.at ∙ a.closed k (sym (decided_stays k) ∙ h) l has alive;
        waits = λ k h. elim (cases_eq k n) [
          | inl e ↦ subst (λ j. WaitsOn rows j (mark_in new j).waits) (sym e) (subst (λ (x : Mark). WaitsOn rows n x.waits) (sym mark_own) waits)
          | inr d ↦ subst (λ (x : Mark). WaitsOn rows k x.waits) (sym (mark_other k d)) (a.waits k (subst (λ (x : Mark). 0 < x.waits.birth) (mark_other k d) h))
        ];
      }

  fewer_free : (ms : List Mark) (k : ℕ) → k < length ms → (mark_in ms k).waits.birth ≡ 0 → 0 < m.waits.birth → count_free (set ms k m) < count_free ms
  fewer_free [] k h z p = absurd (omega arith)
  fewer_free (x ∷ xs) zero h z p = go (nat_lt 0 m.waits.birth) (nat_lt 0 x.waits.birth) refl refl
    where
      go : (b c : Bool) → nat_lt 0 m.waits.birth ≡ b → nat_lt 0 x.waits.birth ≡ c → cond b (count_free xs) (suc (count_free xs)) < cond c (count_free xs) (suc (count_free xs))
      go true true e f = absurd (let q : 0 < x.waits.birth = grind (arith, nat_tests) in omega (arith, q, z))
      go true false e f = omega arith
      go false c e f = absurd (let q : m.waits.birth ≤ 0 = grind (arith, nat_tests) in omega (arith, q, p))
  fewer_free (x ∷ xs) (suc k) h z p = go (nat_lt 0 x.waits.birth) (fewer_free xs k (omega arith) z p)
    where
      go : (b : Bool) → count_free (set xs k m) < count_free xs → cond b (count_free (set xs k m)) (suc (count_free (set xs k m))) < cond b (count_free xs) (suc (count_free xs))
      go true i = i
      go false i = omega (arith, i)

  pub holds_now : (mark_in marks n).waits.birth ≡ 0 → 0 < m.waits.birth → Holds rows marks (set marks n m) n true
  holds_now z p =
      record {
        marked = marked_more;
        same = decided_stays;
        each = length-set marks n m;
        newly = λ k h. elim (cases_eq k n) [
          | inl e ↦ inr (ap (λ j. is_told (row_in rows j)) e ∙ o.told, ap (λ j. (mark_in marks j).decided) e ∙ o.undecided)
          | inr d ↦ inl (subst (λ (x : Mark). 0 < x.waits.birth) (mark_other k d) h)
        ];
        keeps = λ k h. elim (cases_eq k n) [
          | inl e ↦ absurd (let q : (mark_in marks k).waits.birth ≡ 0 = ap (λ j. (mark_in marks j).waits.birth) e ∙ z in omega (arith, q, h))
          | inr d ↦ subst (λ (x : Mark). 0 < x.waits.birth) (sym (mark_other k d)) h
        ];
        none = λ e. absurd (false≢true (sym e));
        settled = λ e. absurd (false≢true (sym e));
        fewer = λ e. fewer_free marks n within z p;
      }

-- ---- nothing changed

pub holds_none : (rows : List Row) (marks : List Mark) (n : ℕ) → AreMarked rows marks → IsSettled rows marks n → Holds rows marks marks n false
holds_none rows marks n a s =
    record { marked = a; same = λ k. refl; each = refl; keeps = λ k h. h; newly = λ k p. inl p; none = λ e. refl; settled = λ e. s; fewer = λ e. absurd (false≢true e) }

-- ---- what a link leads to

-- a link that is alive, to a row without a list
pub through_untold : (rows : List Row) (marks : List Mark) (l : Link) → is_alive rows l ≡ true → (row_in rows l.at).turn ≡ 0 → 0 < l.birth → IsHeldThrough rows marks l l
through_untold rows marks l alive z p =
    record {
      held = λ h. (alive, record { leads = at_end; live = alive_live rows l alive; untold = z });
      free = λ e. absurd (omega (arith, e, p));
    }

-- to one with a list
pub through_told : (rows : List Row) (marks : List Mark) (l w : Link) → AreMarked rows marks → is_alive rows l ≡ true → is_told (row_in rows l.at) ≡ true → w ≡ (mark_in marks l.at).waits
    → IsHeldThrough rows marks l w
through_told rows marks l w a alive told is =
    subst (IsHeldThrough rows marks l) (sym is)
    (record {
      held = λ h. (alive, a.waits l.at h);
      free = λ e h. record { told = told; free = e };
    })

-- ---- all links of a row

abbrev pub AreFreeLinks : List Row → List Mark → List Link → Type 0
AreFreeLinks rows marks ls = AllByRecursion (λ l. is_alive rows l ≡ true → IsFreeRow rows marks l.at) ls

pub free_links_more : (rows : List Row) (marks : List Mark) (ls : List Link) (i : ℕ) (l w : Link) → AreFreeLinks rows marks (take i ls) → i < length ls → l ≡ get_or ls i l
    → IsHeldThrough rows marks l w → w.birth ≡ 0
    → AreFreeLinks rows marks (take (i + 1) ls)
free_links_more rows marks ls i l w a below is h z =
    subst (AreFreeLinks rows marks) (sym (take_more ls i l below ∙ ap (λ x. take i ls ++ x ∷ []) (sym is)))
    (all_append (λ x. is_alive rows x ≡ true → IsFreeRow rows marks x.at) (take i ls) (l ∷ []) a (h.free z, tt))

has_free : (rows : List Row) (marks : List Mark) (ls : List Link) → AreFreeLinks rows marks ls → (l : Link) → Has l ls → is_alive rows l ≡ true → IsFreeRow rows marks l.at
has_free rows marks [] a l h e = absurd h
has_free rows marks (x ∷ xs) a l (inl is) e = subst (λ y. is_alive rows y ≡ true → IsFreeRow rows marks y.at) (sym is) a.0 e
has_free rows marks (x ∷ xs) a l (inr h) e = has_free rows marks xs a.1 l h e

pub held_none : (rows : List Row) (marks : List Mark) (n : ℕ) (ls : List Link) (w : Link) → ls ≡ (row_in rows n).names → AreFreeLinks rows marks ls → w.birth ≡ 0 → IsHeldBy rows marks n w
held_none rows marks n ls w is a z =
    record {
      held = λ h. absurd (omega (arith, h, z));
      free = λ e l has alive. has_free rows marks ls a l (subst (Has l) (sym is) has) alive;
    }

pub has_at : {A : Type 0} (xs : List A) (i : ℕ) (x : A) → i < length xs → x ≡ get_or xs i x → Has x xs
has_at [] i x h is = absurd (omega arith)
has_at (y ∷ ys) zero x h is = inl is
has_at (y ∷ ys) (suc i) x h is = inr (has_at ys i x (omega arith) is)

pub held_one : (rows : List Row) (marks : List Mark) (n : ℕ) (ls : List Link) (i : ℕ) (l w : Link) → ls ≡ (row_in rows n).names → is_told (row_in rows n) ≡ true → i < length ls → l ≡ get_or ls i l
    → IsHeldThrough rows marks l w → 0 < w.birth → IsHeldBy rows marks n w
held_one rows marks n ls i l w is told below at h p =
    let own = h.held p in
    record {
      held = λ q. record { leads = by_link l told (subst (Has l) is (has_at ls i l below at)) own.0 own.1.leads; live = own.1.live; untold = own.1.untold };
      free = λ e. absurd (omega (arith, e, p));
    }

-- ---- several rows

pub open_stays : (rows : List Row) (old new : List Mark) (n : ℕ) → AreSameDecided old new → length new ≡ length old → IsOpen rows old n → IsOpen rows new n
open_stays rows old new n same each o = record { within = omega (arith, o.within, each); told = o.told; undecided = same n ∙ o.undecided }

pub all_open_stay : (rows : List Row) (old new : List Mark) (ns : List ℕ) → AreSameDecided old new → length new ≡ length old → AllByRecursion (IsOpen rows old) ns → AllByRecursion (IsOpen rows new) ns
all_open_stay rows old new ns same each a = all_weaker (IsOpen rows old) (IsOpen rows new) (λ n o. open_stays rows old new n same each o) ns a

newly_then : (rows : List Row) (first old new : List Mark) → AreSameDecided first old → WaitsNewly rows first old → WaitsNewly rows old new → WaitsNewly rows first new
newly_then rows first old new same f g k p = elim (g k p) [ inl q ↦ f k q | inr w ↦ inr (w.0, sym (same k) ∙ w.1) ]

pub some_none : (rows : List Row) (marks : List Mark) → AreMarked rows marks → HoldsSome rows marks marks [] false
some_none rows marks a =
    record { marked = a; same = λ n. refl; each = refl; keeps = λ n h. h; newly = λ n p. inl p; none = λ e. refl; settled = λ e. tt; no_more = omega arith; fewer = λ e. absurd (false≢true e) }

module _ (rows : List Row) (first old new : List Mark) (ns : List ℕ) (i n : ℕ) (h : Holds rows old new n true) where
  pub some_more : (changed : Bool) → HoldsSome rows first old (take i ns) changed → HoldsSome rows first new (take (i + 1) ns) true
  some_more changed s =
      record {
        marked = h.marked;
        same = λ k. h.same k ∙ s.same k;
        each = h.each ∙ s.each;
        keeps = λ k p. h.keeps k (s.keeps k p);
        newly = λ k p. newly_then rows first old new s.same s.newly h.newly k p;
        none = λ e. absurd (false≢true (sym e));
        settled = λ e. absurd (false≢true (sym e));
        no_more = omega (arith, h.fewer refl, s.no_more);
        fewer = λ e. omega (arith, h.fewer refl, s.no_more);
      }

pub some_same : (rows : List Row) (first old new : List Mark) (ns : List ℕ) (i n : ℕ) (changed : Bool) → i < length ns → n ≡ get_or ns i n → Holds rows old new n false
    → HoldsSome rows first old (take i ns) changed → HoldsSome rows first new (take (i + 1) ns) changed
some_same rows first old new ns i n changed below is h s =
    record {
      marked = h.marked;
      same = λ k. h.same k ∙ s.same k;
      each = h.each ∙ s.each;
      keeps = λ k p. h.keeps k (s.keeps k p);
      newly = λ k p. newly_then rows first old new s.same s.newly h.newly k p;
      none = λ e. h.none refl ∙ s.none e;
      settled = λ e.
          subst (AllByRecursion (IsSettled rows first)) (sym (take_more ns i n below ∙ ap (λ x. take i ns ++ x ∷ []) (sym is)))
          (all_append (IsSettled rows first) (take i ns) (n ∷ []) (s.settled e) (subst (λ ms. IsSettled rows ms n) (s.none e) (h.settled refl), tt));
      no_more = omega (arith, ap count_free (h.none refl), s.no_more);
      fewer = λ e. omega (arith, ap count_free (h.none refl), s.fewer e);
    }

pub some_next : (rows : List Row) (first old new : List Mark) (ns : List ℕ) (i n : ℕ) (held changed : Bool) → i < length ns → n ≡ get_or ns i n → Holds rows old new n held
    → HoldsSome rows first old (take i ns) changed → HoldsSome rows first new (take (i + 1) ns) (held || changed)
some_next rows first old new ns i n true changed below is h s = some_more rows first old new ns i n h changed s
some_next rows first old new ns i n false changed below is h s = some_same rows first old new ns i n changed below is h s

-- ---- until none changes

-- all in question were looked at since the last change
pub record IsTurning (rows : List Row) (first marks : List Mark) (ns : List ℕ) (changed : Bool) : Type 0 where
  pub marked : AreMarked rows marks
  pub same : AreSameDecided first marks
  pub each : length marks ≡ length first
  pub keeps : KeepsWaits first marks
  pub newly : WaitsNewly rows first marks
  pub settled : changed ≡ false → AllByRecursion (IsSettled rows marks) ns

pub turning_more : (rows : List Row) (first old next : List Mark) (ns : List ℕ) (before changed : Bool) → IsTurning rows first old ns before → HoldsSome rows old next ns changed
    → IsTurning rows first next ns changed
turning_more rows first old next ns before changed t s =
    record {
      marked = s.marked;
      same = λ k. s.same k ∙ t.same k;
      each = s.each ∙ t.each;
      keeps = λ k h. s.keeps k (t.keeps k h);
      newly = λ k p. newly_then rows first old next t.same t.newly s.newly k p;
      settled = λ e. subst (λ ms. AllByRecursion (IsSettled rows ms) ns) (sym (s.none e)) (s.settled e);
    }

-- what is left to be looked at
abbrev pub to_look : List Mark → Bool → ℕ
to_look marks changed = count_free marks + cond changed 1 0
