-- Rows that came get marks
use Rattle.std.proofs.Common.{◌≡◌, ◌≢◌, ◌<◌, ◌≤◌, ◌⊎◌, inl, inr, ℕ, zero, suc, Bool, true, false, List, [], ◌∷◌, ◌++◌, length, take, drop, append-nil, refl, sym, ap, ◌∙◌, subst, arith}
use Rattle.std.proofs.lemmas.Bool.{false≢true}
use Rattle.roc_sequence.proofs.Fronts.{front_whole, no_rest}
use Rattle.roc_sequence.specs.Lists.{Has}
use Rattle.roc_server_rows.specs.declared.rows.Link.{Link}
use Rattle.roc_server_rows.specs.declared.rows.Row.{Row}
use Rattle.roc_server_rows.specs.declared.rows.Parts.{Parts}
use Rattle.roc_server_rows.specs.declared.marks.Mark.{Mark}
use Rattle.roc_server_rows.specs.Rows.{row_in, is_told, Grows, AreWhole}
use Rattle.roc_server_rows.specs.Marks.{no_mark, mark_in, AreMarked, AreOpen, HasWaiting, IsLearnt, WaitsOn, Wakes}
use Rattle.roc_server_table.specs.Inner.Kept.{decided_of, IsFilled, IsKept}
use Rattle.roc_server_rows.proofs.Alive.{row_within}
use Rattle.roc_server_rows.proofs.InQuestion.{told_within}
use Rattle.roc_server_rows.proofs.OpenRows.{grown_told, open_alike, open_more}
use Rattle.roc_server_rows.proofs.KeptMarks.{marks_grow, marks_told}
use Rattle.roc_server_table.proofs.DecidedIds.{decided_live, decided_same}

-- a list that was written whole
pub refilled : {A : Type 0} (n : ℕ) (xs ys : List A) → length xs ≡ length ys → n ≡ length ys → take n (xs ++ drop (length xs) ys) ≡ xs
refilled {A} n xs ys same e = ap (λ (rest : List A). take n (xs ++ rest)) (no_rest ys (length xs) (omega arith)) ∙ (ap (take n) (append-nil xs) ∙ front_whole xs n (omega arith))

-- a mark behind the others that says nothing changes nothing
pub mark_more : (ms : List Mark) (n : ℕ) → mark_in (ms ++ no_mark ∷ []) n ≡ mark_in ms n
mark_more [] zero = refl
mark_more [] (suc n) = refl
mark_more (m ∷ ms) zero = refl
mark_more (m ∷ ms) (suc n) = mark_more ms n

pub marks_alike : (rows : List Row) (old new : List Mark) → ((n : ℕ) → mark_in new n ≡ mark_in old n) → AreMarked rows old → AreMarked rows new
marks_alike rows old new same a =
    record {
      decided_told = λ n d. a.decided_told n (sym (decided n) ∙ d);
      decided_free = λ n d. ap (λ (m : Mark). m.waits.birth) (same n) ∙ a.decided_free n (sym (decided n) ∙ d);
      closed = λ n d l has alive. decided l.at ∙ a.closed n (sym (decided n) ∙ d) l has alive;
      waits = λ n p. subst (λ (m : Mark). WaitsOn rows n m.waits) (sym (same n)) (a.waits n (subst (λ (m : Mark). 0 < m.waits.birth) (same n) p));
    }
  where
    decided : (n : ℕ) → (mark_in new n).decided ≡ (mark_in old n).decided
    decided n = ap (λ (m : Mark). m.decided) (same n)

pub filled_waiting : (old new : List Mark) (ns : List ℕ) → ((n : ℕ) → mark_in new n ≡ mark_in old n) → HasWaiting old ns → HasWaiting new ns
filled_waiting old new ns same waiting n h = waiting n (subst (λ (m : Mark). 0 < m.waits.birth) (same n) h)

-- ---- rows came, and maybe one of them got a list

module _ (p q : Parts) (marks filled : List Mark) (k : IsKept p marks) (whole : AreWhole q) (f : IsFilled q.rows.items marks filled) where
  abbrev old : List Row
  old = p.rows.items

  abbrev new : List Row
  new = q.rows.items

  live : (n : ℕ) → (mark_in marks n).decided ≡ true → 0 < (row_in old n).birth
  live = decided_live p.numbers.entries old p.stamp k.whole marks k.marked

  pub grown_kept : Grows old new p.stamp q.stamp → q.undecided.items ≡ p.undecided.items → length old ≤ length new → IsKept q filled
  grown_kept g same more =
      record {
        whole = whole;
        marked = marks_alike new marks filled f.same (marks_grow p.numbers.entries old new p.stamp q.stamp k.whole g marks k.marked);
        each = f.each;
        undecided = subst (AreOpen new filled) (sym same)
            (open_alike old new marks filled p.undecided.items k.undecided (omega (arith, k.each, f.each, more)) (grown_told p.numbers.entries old new p.stamp q.stamp k.whole g)
            (λ n. ap (λ (m : Mark). m.decided) (f.same n)) (filled_waiting marks filled p.undecided.items f.same k.undecided.waiting));
      }

  pub grown_decided : Grows old new p.stamp q.stamp → decided_of new filled ≡ decided_of old marks
  grown_decided g =
      decided_same old new marks filled (λ n. ap (λ (m : Mark). m.decided) (f.same n))
      (λ n d.
      let row : row_in new n ≡ row_in old n = g.rows n (live n d) in
      (ap (λ (r : Row). r.id) row, row_within old n (live n d), row_within new n (subst (λ (r : Row). 0 < r.birth) (sym row) (live n d))))

  module _ (at : ℕ) (woken : List Mark) (l : IsLearnt p q at) (w : Wakes at filled woken) where
    mid_marked : AreMarked l.mid filled
    mid_marked = marks_alike l.mid marks filled f.same (marks_grow p.numbers.entries old l.mid p.stamp l.stamp k.whole l.grows marks k.marked)

    pub learnt_kept : q.undecided.items ≡ p.undecided.items ++ at ∷ [] → length old ≤ length new → IsKept q woken
    learnt_kept more longer =
        record {
          whole = whole;
          marked = marks_told at l.mid new l.told filled woken mid_marked w;
          each = w.each ∙ f.each;
          undecided = subst (AreOpen new woken) (sym more)
              (open_more l.mid new marks woken p.undecided.items
              (open_alike old l.mid marks marks p.undecided.items k.undecided (omega arith) (grown_told p.numbers.entries old l.mid p.stamp l.stamp k.whole l.grows) (λ n. refl) k.undecided.waiting)
              (omega (arith, k.each, f.each, w.each, longer)) at (let b = told_within new at l.told.told in omega (arith, b, f.each, w.each)) l.told.untold l.told.told
              (same at ∙ fresh (mark_in marks at).decided refl) (λ n d. ap is_told (l.told.others n d)) same waiting);
        }
      where
        same : (n : ℕ) → (mark_in woken n).decided ≡ (mark_in marks n).decided
        same n = w.decided n ∙ ap (λ (m : Mark). m.decided) (f.same n)

        fresh : (b : Bool) → (mark_in marks at).decided ≡ b → b ≡ false
        fresh true e =
            absurd (false≢true (sym l.told.untold ∙ (grown_told p.numbers.entries old l.mid p.stamp l.stamp k.whole l.grows at ∙ k.marked.decided_told at e)))
        fresh false e = refl

        waiting : HasWaiting woken p.undecided.items
        waiting n h = go (w.woken n)
          where
            go : ((mark_in woken n).waits.birth ≡ 0) ⊎ (((mark_in woken n).waits ≡ (mark_in filled n).waits) × ((mark_in filled n).waits.at ≢ at)) → Has n p.undecided.items
            go (inl z) = absurd (omega (arith, h, z))
            go (inr s) = k.undecided.waiting n (subst (λ (m : Mark). 0 < m.waits.birth) (f.same n) (subst (λ (x : Link). 0 < x.birth) s.0 h))

    pub learnt_decided : decided_of new woken ≡ decided_of old marks
    learnt_decided =
        decided_same old new marks woken (λ n. w.decided n ∙ ap (λ (m : Mark). m.decided) (f.same n))
        (λ n d.
        let was : row_in l.mid n ≡ row_in old n = l.grows.rows n (live n d) in
        let told : is_told (row_in l.mid n) ≡ true = ap is_told was ∙ k.marked.decided_told n d in
        let row : row_in new n ≡ row_in old n = l.told.others n (λ e. false≢true (sym l.told.untold ∙ (ap (λ j. is_told (row_in l.mid j)) (sym e) ∙ told))) ∙ was in
        (ap (λ (r : Row). r.id) row, row_within old n (live n d), row_within new n (subst (λ (r : Row). 0 < r.birth) (sym row) (live n d))))
