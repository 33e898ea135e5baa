-- The items of lines one after the other, as a loop reads them.
use Rattle.std.proofs.Common.{◌≡◌, ℕ, zero, suc, ◌+◌, ◌<◌, true, cond, List, [], ◌∷◌, ◌++◌, append_assoc, take, Some, None, Result, Ok, Err, refl, sym, ap, ◌∙◌, arith}
use Rattle.std.specs.Prelude.{nat_lt}
use Rattle.std.proofs.lemmas.Bool.{lt-ltb}
use Rattle.std.proofs.lemmas.List.{append-nil}
use Rattle.roc_sched.specs.declared.fault.What.{What}
use Rattle.roc_sched.specs.declared.fault.What.TheVariants.{Limit}
use Rattle.roc_sched.specs.Words.{words_of, is_skipped}
use Rattle.roc_sched.specs.Schedule.{most_lines, Reader}
use Rattle.roc_sched.specs.Inner.Reading.{some_at, line_item, before_items, line_items}

-- what was read before, and what is still read
abbrev pub with_items : {B : Type 0} → List B → Result (List B) (ℕ × What) → Result (List B) (ℕ × What)
with_items front (Ok items) = Ok (front ++ items)
with_items front (Err fault) = Err fault

pub items_first : {B : Type 0} (behind : Result (List B) (ℕ × What)) → with_items [] behind ≡ behind
items_first (Ok items) = refl
items_first (Err fault) = refl

regroup : {B : Type 0} (front : List B) (item : B) (behind : Result (List B) (ℕ × What)) → with_items front (before_items (Ok (Some item)) behind) ≡ with_items (front ++ item ∷ []) behind
regroup front item (Ok items) = ap (λ (xs : List _). Ok xs) (sym (append_assoc front (item ∷ []) items))
regroup front item (Err fault) = refl

module _ {B : Type 0} (read : Reader B) (front : List B) (number : ℕ) (line : List ℕ) (lines : List (List ℕ)) (total : Result (List B) (ℕ × What))
    (so_far : with_items front (line_items read number (line ∷ lines)) ≡ total) where
  pub skipped_goes_on : line_item read number line ≡ Ok None → with_items front (line_items read (number + 1) lines) ≡ total
  skipped_goes_on e = sym (ap (λ item. with_items front (before_items item (line_items read (number + 1) lines))) e) ∙ so_far

  pub item_goes_on : (item : B) → line_item read number line ≡ Ok (Some item) → with_items (front ++ item ∷ []) (line_items read (number + 1) lines) ≡ total
  item_goes_on item e =
      sym (regroup front item (line_items read (number + 1) lines))
      ∙ sym (ap (λ one. with_items front (before_items one (line_items read (number + 1) lines))) e) ∙ so_far

  pub fault_stops : (fault : ℕ × What) → line_item read number line ≡ Err fault → total ≡ Err fault
  fault_stops fault e = sym so_far ∙ ap (λ item. with_items front (before_items item (line_items read (number + 1) lines))) e

pub items_end : {B : Type 0} (read : Reader B) (front : List B) (number : ℕ) (total : Result (List B) (ℕ × What)) → with_items front (line_items read number []) ≡ total → total ≡ Ok front
items_end read front number total so_far = sym so_far ∙ ap (λ (xs : List _). Ok xs) (append-nil front)

-- ---- the first lines

-- one line more than there may be is as good as all lines
pub first_lines : {B : Type 0} (read : Reader B) (count number : ℕ) (lines : List (List ℕ)) → count + number ≡ most_lines + 2 → 0 < count → line_items read number (take count lines) ≡ line_items read number lines
first_lines read zero number lines sum some = absurd (omega arith)
first_lines read (suc count) number [] sum some = refl
first_lines read (suc zero) number (line ∷ lines) sum some =
    let past : nat_lt most_lines number ≡ true = lt-ltb most_lines number (omega arith) in
    let fault : line_item read number line ≡ Err (number, Limit) = ap (λ b. cond b (Err (number, Limit)) (cond (is_skipped line) (Ok None) (some_at number (read number (words_of line))))) past in
    ap (λ item. before_items item (Ok [])) fault ∙ sym (ap (λ item. before_items item (line_items read (number + 1) lines)) fault)
first_lines read (suc (suc count)) number (line ∷ lines) sum some =
    ap (before_items (line_item read number line)) (first_lines read (suc count) (number + 1) lines (omega arith) (omega arith))
