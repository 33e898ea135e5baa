-- Marks where the links to one row are not followed
use Rattle.std.proofs.Common.{◌≡◌, ◌≢◌, ◌<◌, ◌≤◌, ◌⊎◌, inl, inr, ◌+◌, ◌==◌, ℕ, Bool, true, false, List, length, get_or, map, take, Option, Some, None, refl, sym, ap, ◌∙◌, subst, arith}
use Rattle.std.proofs.lemmas.Bool.{false≢true, eqb-true}
use Rattle.std.proofs.lemmas.Bool.Decides.{nat_tests}
use Rattle.std.proofs.lemmas.List.{get_or-map, length-map, take_all}
use Rattle.std.specs.Prelude.{nat_lt}
use Rattle.roc_server_rows.specs.declared.rows.Link.{Link}
use Rattle.roc_server_rows.specs.declared.rows.Row.{Row}
use Rattle.roc_server_rows.specs.declared.marks.Mark.{Mark}
use Rattle.roc_server_rows.specs.Rows.{row_in, is_alive, is_told}
use Rattle.roc_server_rows.specs.Except.{is_except, link_but, rows_but}
use Rattle.roc_server_rows.specs.Inner.Marks.{IsHeldBy, IsHeldThrough, WakesFor}
use Rattle.roc_server_rows.specs.Marks.{mark_in, at_end, by_link, AreMarked, AreSameDecided, RowLeads, WaitsOn, WakesAll}
use Rattle.roc_server_rows.proofs.Alive.{alive_born}
use Rattle.roc_server_rows.proofs.Waits.{free_links_more, held_none, held_one, through_told, through_untold, AreFreeLinks}
use Rattle.roc_server_rows.proofs.Excepted.{row_at_but, told_but, alive_but, but_alive, has_but, but_has}

no_turn : (k : ℕ) → nat_lt 0 k ≡ false → k ≡ 0
no_turn k h = grind (arith, nat_tests)

-- ---- marks that fall away

-- those that stay wait at the same
pub marks_left : (rows : List Row) (old new : List Mark) → AreMarked rows old → AreSameDecided old new
    → ((k : ℕ) → ((mark_in new k).waits.birth ≡ 0) ⊎ ((mark_in new k).waits ≡ (mark_in old k).waits)) → AreMarked rows new
marks_left rows old new a same left =
    record {
      decided_told = λ n d. a.decided_told n (sym (same n) ∙ d);
      decided_free = λ n d. free n (sym (same n) ∙ d) (left n);
      closed = λ n d l has alive. same l.at ∙ a.closed n (sym (same n) ∙ d) l has alive;
      waits = λ n p. waits n p (left n);
    }
  where
    free : (n : ℕ) → (mark_in old n).decided ≡ true → ((mark_in new n).waits.birth ≡ 0) ⊎ ((mark_in new n).waits ≡ (mark_in old n).waits) → (mark_in new n).waits.birth ≡ 0
    free n d (inl z) = z
    free n d (inr s) = ap (λ (l : Link). l.birth) s ∙ a.decided_free n d

    waits : (n : ℕ) → 0 < (mark_in new n).waits.birth → ((mark_in new n).waits.birth ≡ 0) ⊎ ((mark_in new n).waits ≡ (mark_in old n).waits) → WaitsOn rows n (mark_in new n).waits
    waits n p (inl z) = absurd (omega (arith, p, z))
    waits n p (inr s) = subst (WaitsOn rows n) (sym s) (a.waits n (subst (λ (l : Link). 0 < l.birth) s p))

pub marks_awake : (rows : List Row) (old new : List Mark) → AreMarked rows old → WakesAll old new → AreMarked rows new
marks_awake rows old new a w = marks_left rows old new a w.same (λ k. inl (w.awake k))

module _ (except : Option ℕ) (rows : List Row) where
  -- ---- what leads somewhere without those links leads there

  leads_back : (n m : ℕ) → RowLeads (rows_but except rows) n m → RowLeads rows n m
  leads_back n m at_end = at_end
  leads_back n m (by_link l told has alive rest) =
      let w = has_but except rows n l has alive in
      by_link l (sym (told_but except rows n) ∙ told) w.0 w.1 (leads_back l.at m rest)

  waits_back : (n : ℕ) (w : Link) → WaitsOn (rows_but except rows) n w → WaitsOn rows n w
  waits_back n w o =
      record {
        leads = leads_back n w.at o.leads;
        live = subst (λ (r : Row). 0 < r.birth) (row_at_but except rows w.at) o.live;
        untold = sym (ap (λ (r : Row). r.turn) (row_at_but except rows w.at)) ∙ o.untold;
      }

  -- marks that are right there are right here, where the same are decided
  pub marked_back : (old new : List Mark) → AreMarked rows old → AreSameDecided old new → AreMarked (rows_but except rows) new → AreMarked rows new
  marked_back old new a same b =
      record {
        decided_told = λ n d. a.decided_told n (sym (same n) ∙ d);
        decided_free = b.decided_free;
        closed = λ n d l has alive. same l.at ∙ a.closed n (sym (same n) ∙ d) l has alive;
        waits = λ n p. waits_back n (mark_in new n).waits (b.waits n p);
      }

  -- ---- where that row has no list, it is not led over

  module _ (untold : (m : ℕ) → is_except except m ≡ true → is_told (row_in rows m) ≡ false) where
    leads_aside : (n m : ℕ) → RowLeads rows n m → is_except except m ≡ false → (is_except except n ≡ false) × RowLeads (rows_but except rows) n m
    leads_aside n m at_end e = (e, at_end)
    leads_aside n m (by_link l told has alive rest) e =
        let w = leads_aside l.at m rest e in
        (here (is_except except n) refl, by_link l (told_but except rows n ∙ told) (but_has except rows n l has w.0) (alive_but except rows l ∙ alive) w.1)
      where
        here : (b : Bool) → is_except except n ≡ b → b ≡ false
        here true q = absurd (false≢true (sym (untold n q) ∙ told))
        here false q = refl

    pub waits_aside : (n : ℕ) (w : Link) → is_except except w.at ≡ false → WaitsOn rows n w → WaitsOn (rows_but except rows) n w
    waits_aside n w e o =
        record {
          leads = (leads_aside n w.at o.leads e).1;
          live = subst (λ (r : Row). 0 < r.birth) (sym (row_at_but except rows w.at)) o.live;
          untold = ap (λ (r : Row). r.turn) (row_at_but except rows w.at) ∙ o.untold;
        }

  -- marks that wait aside of that row
  pub marked_but : (marks : List Mark) → AreMarked rows marks → ((n : ℕ) → 0 < (mark_in marks n).waits.birth → WaitsOn (rows_but except rows) n (mark_in marks n).waits)
      → AreMarked (rows_but except rows) marks
  marked_but marks a waits =
      record {
        decided_told = λ n d. told_but except rows n ∙ a.decided_told n d;
        decided_free = a.decided_free;
        closed = λ n d l has alive. let w = has_but except rows n l has alive in a.closed n d l w.0 w.1;
        waits = waits;
      }

  -- ---- what one link leads to

  module _ (marks : List Mark) where
    pub but_through_untold : (l : Link) → is_alive rows (link_but except l) ≡ true → is_told (row_in rows l.at) ≡ false → IsHeldThrough (rows_but except rows) marks (link_but except l) l
    but_through_untold l h z =
        let same : link_but except l ≡ l = (but_alive except rows l h).1 in
        let was : is_alive rows l ≡ true = subst (λ (x : Link). is_alive rows x ≡ true) same h in
        subst (λ (x : Link). IsHeldThrough (rows_but except rows) marks x l) (sym same)
        (through_untold (rows_but except rows) marks l (alive_but except rows l ∙ was) (ap (λ (r : Row). r.turn) (row_at_but except rows l.at) ∙ no_turn (row_in rows l.at).turn z)
        (alive_born rows l was))

    pub but_through_told : (l w : Link) → AreMarked (rows_but except rows) marks → is_alive rows (link_but except l) ≡ true → is_told (row_in rows l.at) ≡ true → w ≡ (mark_in marks l.at).waits
        → IsHeldThrough (rows_but except rows) marks (link_but except l) w
    but_through_told l w a h t is =
        let same : link_but except l ≡ l = (but_alive except rows l h).1 in
        let was : is_alive rows l ≡ true = subst (λ (x : Link). is_alive rows x ≡ true) same h in
        subst (λ (x : Link). IsHeldThrough (rows_but except rows) marks x w) (sym same)
        (through_told (rows_but except rows) marks l w a (alive_but except rows l ∙ was) (told_but except rows l.at ∙ t) is)

    pub but_through_none : (l w : Link) → is_alive rows (link_but except l) ≡ false → w.birth ≡ 0 → IsHeldThrough (rows_but except rows) marks (link_but except l) w
    but_through_none l w h z =
        record {
          held = λ p. absurd (omega (arith, p, z));
          free = λ e alive. absurd (false≢true (sym h ∙ (sym (alive_but except rows (link_but except l)) ∙ alive)));
        }

    -- ---- what several lead to

    pub but_links_more : (ls : List Link) (i : ℕ) (l w : Link) → AreFreeLinks (rows_but except rows) marks (take i (map (link_but except) ls)) → i < length ls → l ≡ get_or ls i l
        → IsHeldThrough (rows_but except rows) marks (link_but except l) w → w.birth ≡ 0 → AreFreeLinks (rows_but except rows) marks (take (i + 1) (map (link_but except) ls))
    but_links_more ls i l w a below is h z = free_links_more (rows_but except rows) marks (map (link_but except) ls) i (link_but except l) w a (within ls i below) (at_but ls i l below is) h z
      where
        within : (ls : List Link) (i : ℕ) → i < length ls → i < length (map (link_but except) ls)
        within ls i b = omega (arith, b, length-map ls (link_but except))

        at_but : (ls : List Link) (i : ℕ) (l : Link) → i < length ls → l ≡ get_or ls i l → link_but except l ≡ get_or (map (link_but except) ls) i (link_but except l)
        at_but ls i l b e = ap (link_but except) e ∙ sym (get_or-map (link_but except) ls i l (link_but except l) b)

    pub but_held_one : (n : ℕ) (ls : List Link) (i : ℕ) (l w : Link) → ls ≡ (row_in rows n).names → is_told (row_in rows n) ≡ true → i < length ls → l ≡ get_or ls i l
        → IsHeldThrough (rows_but except rows) marks (link_but except l) w → 0 < w.birth → IsHeldBy (rows_but except rows) marks n w
    but_held_one n ls i l w is told below at h p =
        held_one (rows_but except rows) marks n (map (link_but except) ls) i (link_but except l) w (names_are ls n is) (told_but except rows n ∙ told)
        (omega (arith, below, length-map ls (link_but except))) (ap (link_but except) at ∙ sym (get_or-map (link_but except) ls i l (link_but except l) below)) h p
      where
        names_are : (ls : List Link) (n : ℕ) → ls ≡ (row_in rows n).names → map (link_but except) ls ≡ (row_in (rows_but except rows) n).names
        names_are ls n e = ap (map (link_but except)) e ∙ sym (ap (λ (r : Row). r.names) (row_at_but except rows n))

    pub but_held_none : (n : ℕ) (ls : List Link) (i : ℕ) (w : Link) → ls ≡ (row_in rows n).names → AreFreeLinks (rows_but except rows) marks (take i (map (link_but except) ls))
        → length ls ≤ i → w.birth ≡ 0
        → IsHeldBy (rows_but except rows) marks n w
    but_held_none n ls i w is a all z =
        held_none (rows_but except rows) marks n (map (link_but except) ls) w (ap (map (link_but except)) is ∙ sym (ap (λ (r : Row). r.names) (row_at_but except rows n)))
        (subst (AreFreeLinks (rows_but except rows) marks) (take_all i (map (link_but except) ls) (omega (arith, all, length-map ls (link_but except)))) a) z

-- ---- before a search: what waits at that row, or over it, is in question

pub aside_none : (rows : List Row) (marks : List Mark) → AreMarked rows marks → AreMarked (rows_but None rows) marks
aside_none rows marks a = marked_but None rows marks a (λ n p. waits_aside None rows (λ m e. absurd (false≢true e)) n (mark_in marks n).waits refl (a.waits n p))

pub aside_of : (rows : List Row) (old new : List Mark) (at : ℕ) → AreMarked rows old → WakesFor rows at old new → AreMarked (rows_but (Some at) rows) new
aside_of rows old new at a w =
    marked_but (Some at) rows new (marks_left rows old new a w.same (λ k. left k (w.woken k))) (λ n p. waits n p (w.woken n))
  where
    left : (k : ℕ) → ((mark_in new k).waits.birth ≡ 0) ⊎ (((mark_in new k).waits ≡ (mark_in old k).waits) × ((mark_in old k).waits.at ≢ at) × (is_told (row_in rows at) ≡ false))
        → ((mark_in new k).waits.birth ≡ 0) ⊎ ((mark_in new k).waits ≡ (mark_in old k).waits)
    left k (inl z) = inl z
    left k (inr s) = inr s.0

    other : (x : ℕ) → x ≢ at → (b : Bool) → (x == at) ≡ b → b ≡ false
    other x d true e = absurd (d (eqb-true x at e))
    other x d false e = refl

    waits : (n : ℕ) → 0 < (mark_in new n).waits.birth
        → ((mark_in new n).waits.birth ≡ 0) ⊎ (((mark_in new n).waits ≡ (mark_in old n).waits) × ((mark_in old n).waits.at ≢ at) × (is_told (row_in rows at) ≡ false))
        → WaitsOn (rows_but (Some at) rows) n (mark_in new n).waits
    waits n p (inl z) = absurd (omega (arith, p, z))
    waits n p (inr s) =
        let was : WaitsOn rows n (mark_in new n).waits = subst (WaitsOn rows n) (sym s.0) (a.waits n (subst (λ (l : Link). 0 < l.birth) s.0 p)) in
        let apart : (mark_in new n).waits.at ≢ at = λ e. s.1 (sym (ap (λ (l : Link). l.at) s.0) ∙ e) in
        waits_aside (Some at) rows (λ m e. ap (λ k. is_told (row_in rows k)) (eqb-true m at e) ∙ s.2) n (mark_in new n).waits
        (other (mark_in new n).waits.at apart ((mark_in new n).waits.at == at) refl) was
