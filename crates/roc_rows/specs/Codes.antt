-- Cells as tuples and stores as finite maps, by which contracts tell them apart
use Rattle.std.proofs.Common.{◌≡◌, ◌≢◌, ℕ, ℤ, pos, List, Some, refl}
use Rattle.std.specs.Coded.{Coded, code_by, coded×, coded_ℕ, coded_ℤ, coded_list}
use Rattle.std.specs.FinMap as map
use Rattle.std.specs.FinMap.{FinMap}
use base.Stored.{coded_via}
use mathlib.Core.HLevel.{Π_prop, ⊥_prop, Σ_prop_path}
use Rattle.roc_rows.specs.declared.cell.Cell.{Cell}
use Rattle.roc_rows.specs.Cells.{cell_cmp}
use Rattle.roc_rows.specs.Store.{Store}

-- a cell as the tuple of its parts
abbrev pub Parts : Type 0
Parts = ℕ × (ℤ × (List ℤ × ℕ))

abbrev pub parts_of : Cell → Parts
parts_of c = (c.table, (c.place, (c.id, c.column)))

abbrev pub cell_of : Parts → Cell
cell_of p = record { table = p.0; place = p.1.0; id = p.1.1.0; column = p.1.1.1 }

abbrev pub coded_cell : Coded Cell
coded_cell = code_by Parts (coded× coded_ℕ (coded× coded_ℤ (coded× (coded_list coded_ℤ) coded_ℕ))) parts_of cell_of (λ _. refl)

-- stores of the same map are one
pub same_numbers : (s t : Store) → s.numbers ≡ t.numbers → s ≡ t
same_numbers s t e =
    let pairs : ◌≡◌ {A = (m : FinMap cell_cmp ℤ) × ((c : Cell) → map.get m c ≢ Some (pos 0))} (s.numbers, s.no_zero) (t.numbers, t.no_zero) =
    Σ_prop_path (λ m. Π_prop (λ c. Π_prop (λ e. ⊥_prop))) e in
    λ i. record { numbers = (pairs i).0; no_zero = (pairs i).1 }

abbrev pub coded_store : Coded Store
coded_store = coded_via (map.code coded_cell coded_ℤ) (λ s. s.numbers) same_numbers
