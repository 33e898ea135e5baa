-- The counter is lawful
use Rattle.std.proofs.Common.{◌≡◌, ◌≢◌, ℕ, ◌==◌, ℤ, ◌+ℤ◌, Bool, true, false, cond, ◌&&◌, List, [], ◌∷◌, refl, sym, ap, subst, ◌∙◌, arith, inl, inr}
use Rattle.std.proofs.lemmas.Bool.{or_left, or_cases, and_parts, and_from, eqb-true, false≢true}
use Rattle.std.specs.List.{AllByRecursion}
use Rattle.roc_sequence.specs.Places.{IsListedBefore}
use Rattle.roc_rows.specs.declared.cell.Cell.{Cell}
use Rattle.roc_rows.specs.Cells.{is_cell}
use Rattle.roc_rows.specs.Store.{Store, read, write}
use Rattle.roc_rows.proofs.CellLaws.{is_cell-same, is_cell-true}
use Rattle.roc_law_orders.specs.Behaviour.{TxnGroup, is_group_number, is_written, Yield, DoesSame, IsLawful}
use Rattle.roc_law_orders.specs.Counter.{counted_cell, one_use, added, counter}

-- what is written is the one cell
pub is_the_cell : (c x : Cell) → is_written x (one_use c) ≡ true → c ≡ x
is_the_cell c x w =
    elim (or_cases (true && is_cell c x) false w) [
      | inl h ↦ is_cell-true c x (and_parts true (is_cell c x) h).1
      | inr h ↦ absurd (false≢true h)
    ]

other_is_not : (c x : Cell) → is_written x (one_use c) ≡ false → c ≢ x
other_is_not c x n e = false≢true (sym n ∙ or_left (true && is_cell c x) false (and_from true (is_cell c x) refl (subst (λ y. is_cell c y ≡ true) e (is_cell-same c))))

-- the second needs the first
needed : (g : ℕ) → AllByRecursion (λ h. IsListedBefore is_group_number (0 ∷ 1 ∷ []) h g) (cond (g == 1) (0 ∷ []) [])
needed g = go (g == 1) refl
  where
    go : (b : Bool) → (g == 1) ≡ b → AllByRecursion (λ h. IsListedBefore is_group_number (0 ∷ 1 ∷ []) h g) (cond b (0 ∷ []) [])
    go true e = (subst (λ n. IsListedBefore is_group_number (0 ∷ 1 ∷ []) 0 n) (sym (eqb-true g 1 e)) (omega arith), tt)
    go false e = tt

module _ (same : (s : Store) (c : Cell) (v : ℤ) → read (write s c v) c ≡ v) (other : (s : Store) (c : Cell) (v : ℤ) (d : Cell) → c ≢ d → read (write s c v) d ≡ read s d) where
  does_same : (r : TxnGroup) (given : List (List ℤ)) (s t : Store) → read s (counted_cell r.group) ≡ read t (counted_cell r.group) → DoesSame counter r given s t
  does_same r given s t e =
      let c = counted_cell r.group in
      record {
        uses = refl;
        yields = ap (λ v. let y : Yield = record { bound = v ∷ []; outs = [] } in y) e;
        written = λ x w. subst (λ y. read (write s c (read s c +ℤ added given)) y ≡ read (write t c (read t c +ℤ added given)) y) (is_the_cell c x w)
            (same s c (read s c +ℤ added given) ∙ (ap (λ v. v +ℤ added given) e ∙ sym (same t c (read t c +ℤ added given))));
      }

  pub lawful : IsLawful counter
  lawful =
      record {
        once = λ t. (λ i. absurd (omega arith), (λ i. absurd (omega arith), tt));
        needed_first = λ r h. needed r.group;
        local = λ r given s t h. does_same r given s t (h (counted_cell r.group) (or_left (is_cell (counted_cell r.group) (counted_cell r.group)) false (is_cell-same (counted_cell r.group))));
        declared = λ r given s x n. other s (counted_cell r.group) (read s (counted_cell r.group) +ℤ added given) x (other_is_not (counted_cell r.group) x n);
      }
