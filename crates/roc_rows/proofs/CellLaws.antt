-- What the test of cells decides, and that their order tells apart what it does
use Rattle.std.proofs.Common.{◌≡◌, ◌≢◌, ℕ, Bool, true, false, ◌&&◌, ◌==◌, refl, sym, ap, subst, ◌∙◌, arith}
use Rattle.std.proofs.lemmas.Bool.{false≢true}
use Rattle.std.proofs.lemmas.Bool.Decides.{nat_tests}
use Rattle.std.proofs.lemmas.Map.Lookups.{CmpEqualImpliesEq, exact_pairs, exact_unsigned, exact_signed}
use Rattle.std.specs.Cmp.{IsEquivalence, Equal-is, eq_by_cmp_equiv}
use Rattle.std.specs.Ordering.{nat_cmp, ordering_then, eq_by_cmp, is_eq}
use Rattle.std.specs.declared.cmp.Ordering.{Ordering}
use Rattle.std.specs.declared.cmp.Ordering.TheVariants.{Less, Equal, Greater}
use Rattle.roc_base.specs.KeyOrder.{key_cmp-exact, is_nums-by_cmp}
use Rattle.roc_rows.specs.declared.cell.Cell.{Cell}
use Rattle.roc_rows.specs.Cells.{is_cell, cell_cmp}
use Rattle.roc_rows.specs.Codes.{parts_of, cell_of}
use Rattle.roc_rows.specs.Inner.Cells.{cell_cmp-total}

-- cells that compare alike are one
pub cell_cmp-exact : CmpEqualImpliesEq cell_cmp
cell_cmp-exact a b h = ap cell_of (exact_pairs _ _ exact_unsigned (exact_pairs _ _ exact_signed (exact_pairs _ _ key_cmp-exact exact_unsigned)) (parts_of a) (parts_of b) h)

is_eq-then : (o p : Ordering) → is_eq (ordering_then o p) ≡ (is_eq o && is_eq p)
is_eq-then Less p = refl
is_eq-then Equal p = refl
is_eq-then Greater p = refl

is_eq-nat_cmp : (x y : ℕ) → is_eq (nat_cmp x y) ≡ (x == y)
is_eq-nat_cmp x y = grind (arith, nat_tests)

both_alike : {a b c d : Bool} → a ≡ c → b ≡ d → (a && b) ≡ (c && d)
both_alike p q = λ i. p i && q i

-- the test says that the order does not tell the two apart
pub is_cell-by_cmp : (a b : Cell) → eq_by_cmp cell_cmp a b ≡ is_cell a b
is_cell-by_cmp a b =
    is_eq-then _ _ ∙ both_alike (is_eq-nat_cmp a.table b.table) (is_eq-then _ _ ∙ both_alike refl (is_eq-then _ _ ∙ both_alike (sym (is_nums-by_cmp a.id b.id)) (is_eq-nat_cmp a.column b.column)))

pub is_cell-equivalence : IsEquivalence is_cell
is_cell-equivalence = subst IsEquivalence (λ i a b. is_cell-by_cmp a b i) (eq_by_cmp_equiv cell_cmp-total)

pub is_cell-true : (a b : Cell) → is_cell a b ≡ true → a ≡ b
is_cell-true a b h = cell_cmp-exact a b ((Equal-is (cell_cmp a b)).0 (is_cell-by_cmp a b ∙ h))

pub is_cell-same : (a : Cell) → is_cell a a ≡ true
is_cell-same a = is_cell-equivalence.refl a

pub is_cell-swap : (a b : Cell) → is_cell a b ≡ is_cell b a
is_cell-swap a b = is_cell-equivalence.symm a b

pub is_cell-false : (a b : Cell) → is_cell a b ≡ false → a ≢ b
is_cell-false a b h e = false≢true (sym h ∙ subst (λ x. is_cell a x ≡ true) e (is_cell-same a))

pub is_cell-ne : (a b : Cell) → a ≢ b → is_cell a b ≡ false
is_cell-ne a b n = go (is_cell a b) refl
  where
    go : (t : Bool) → is_cell a b ≡ t → t ≡ false
    go true h = absurd (n (is_cell-true a b h))
    go false h = refl
