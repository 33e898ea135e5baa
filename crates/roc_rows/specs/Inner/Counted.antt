-- How counts are kept: as a table of cells with their counts
use Rattle.std.proofs.Common.{ℕ, List, [], ◌∷◌, refl}
use Rattle.std.specs.Coded.{Coded, code_by, coded×, coded_ℕ}
use Rattle.std.specs.FinMap as map
use Rattle.roc_rows.specs.declared.cell.Cell.{Cell}
use Rattle.roc_rows.specs.Versions.{Counts, unwritten, Versioned}
use Rattle.roc_rows.specs.Codes.{coded_cell}

-- what a list of cells with their counts holds: the first count of each cell
unfoldable pub counts_of : List (Cell × ℕ) → Counts
counts_of [] = unwritten
counts_of (e ∷ es) = map.insert (counts_of es) e.0 e.1

-- as a pair
abbrev pub coded_versions : Coded Versioned
coded_versions = code_by (Counts × ℕ) (coded× (map.code coded_cell coded_ℕ) coded_ℕ) (λ h. (h.counts, h.spare)) (λ p. record { counts = p.0; spare = p.1 }) (λ _. refl)
