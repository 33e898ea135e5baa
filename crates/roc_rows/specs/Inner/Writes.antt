-- The map of the cells that are not 0, after a write
use Rattle.std.proofs.Common.{◌≡◌, ◌≢◌, ℤ, pos, Bool, true, false, if◌then◌else◌, Option, Some, None, unwrap_or, is_some, refl, sym, ap, subst, ◌∙◌}
use Rattle.std.proofs.lemmas.Bool.{false≢true}
use Rattle.std.specs.Cmp.{signed_Decides}
use Rattle.std.specs.FinMap as map
use Rattle.std.specs.FinMap.{FinMap}
use Rattle.std.specs.Ordering.{int_eq, eq_by_cmp}
use Rattle.roc_rows.specs.declared.cell.Cell.{Cell}
use Rattle.roc_rows.specs.Cells.{cell_cmp}
use Rattle.roc_rows.specs.Written.{written}
use Rattle.roc_rows.specs.Inner.Cells.{cell_cmp-total}

pub none≢some : {A : Type 0} {x : A} → None ≢ Some x
none≢some e = false≢true (ap is_some e)

pub empty-no_zero : (c : Cell) → (let none : FinMap cell_cmp ℤ = map.empty in map.get none c) ≢ Some (pos 0)
empty-no_zero c e = none≢some (sym (map.get-empty cell_cmp c) ∙ e)

-- what stands for a number in the map
abbrev pub kept : ℤ → Option ℤ
kept v = if int_eq v (pos 0) then None else Some v

pub get-written : (m : FinMap cell_cmp ℤ) (c : Cell) (v : ℤ) (d : Cell) → map.get (written m c v) d ≡ (if eq_by_cmp cell_cmp d c then kept v else map.get m d)
unfolding written
get-written m c v d = go (int_eq v (pos 0)) refl
  where
    go : (t : Bool) → int_eq v (pos 0) ≡ t → map.get (if t then map.remove m c else map.insert m c v) d ≡ (if eq_by_cmp cell_cmp d c then (if t then None else Some v) else map.get m d)
    go true h = map.get-remove cell_cmp-total m c d
    go false h = map.get-insert cell_cmp-total m c v d

pub same_option : (o p : Option ℤ) → o ≢ Some (pos 0) → p ≢ Some (pos 0) → unwrap_or o (pos 0) ≡ unwrap_or p (pos 0) → o ≡ p
same_option None None h k e = refl
same_option None (Some y) h k e = absurd (k (ap Some (sym e)))
same_option (Some x) None h k e = absurd (h (ap Some e))
same_option (Some x) (Some y) h k e = ap Some e

kept-no_zero : (v : ℤ) → kept v ≢ Some (pos 0)
kept-no_zero v = go (int_eq v (pos 0)) refl
  where
    go : (t : Bool) → int_eq v (pos 0) ≡ t → (if t then None else Some v) ≢ Some (pos 0)
    go true h e = none≢some e
    go false h e = false≢true (sym h ∙ (signed_Decides v (pos 0)).1 (ap (λ o. unwrap_or o v) e))

pub unwrap_or-kept : (v : ℤ) → unwrap_or (kept v) (pos 0) ≡ v
unwrap_or-kept v = go (int_eq v (pos 0)) refl
  where
    go : (t : Bool) → int_eq v (pos 0) ≡ t → unwrap_or (if t then None else Some v) (pos 0) ≡ v
    go true h = sym ((signed_Decides v (pos 0)).0 h)
    go false h = refl

pub written-no_zero : (m : FinMap cell_cmp ℤ) (none : (c : Cell) → map.get m c ≢ Some (pos 0)) (c : Cell) (v : ℤ) (d : Cell) → map.get (written m c v) d ≢ Some (pos 0)
written-no_zero m none c v d = subst (λ o. o ≢ Some (pos 0)) (sym (get-written m c v d)) (go (eq_by_cmp cell_cmp d c))
  where
    go : (t : Bool) → (if t then kept v else map.get m d) ≢ Some (pos 0)
    go true = kept-no_zero v
    go false = none d
