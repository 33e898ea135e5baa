-- Which rows lead to which, and bits that say so
use Rattle.std.specs.Prelude.{◌≡◌, ◌≢◌, ℕ, true, List, [], ◌∷◌, ◌++◌, Option, Some, None, map, filter}
use Rattle.std.specs.Map.{lookup}
use Rattle.roc_sequence.specs.Lists.{Has}
use Rattle.roc_base.specs.declared.id.TxnId.{TxnId}
use Rattle.roc_base.specs.TxnId.{is_txn}
use Rattle.roc_base.specs.Edge.{Dependency}
use Rattle.roc_server_reach.specs.Bits.{bit_at, BitTable}
use Rattle.roc_server_rows.specs.declared.rows.Link.{Link}
use Rattle.roc_server_rows.specs.declared.rows.Row.{Row}
use Rattle.roc_server_rows.specs.declared.rows.Parts.{Parts}
use Rattle.roc_server_rows.specs.declared.marks.Mark.{Mark}
use Rattle.roc_server_rows.specs.Rows.{row_in, is_alive, is_told}
use Rattle.roc_server_table.specs.Inner.Kept.{IsKept}

-- a row with a list has a link to another that is there
pub record LeadsTo (rows : List Row) (n m : ℕ) : Type 0 where
  pub told : is_told (row_in rows n) ≡ true
  pub link : Link
  pub has : Has link (row_in rows n).names
  pub alive : is_alive rows link ≡ true
  pub is : link.at ≡ m

-- a bit for each
pub record AreBits (rows : List Row) (bits : BitTable) : Type 0 where
  pub only : (n m : ℕ) → bit_at bits n m ≡ true → LeadsTo rows n m
  pub all : (n m : ℕ) → LeadsTo rows n m → bit_at bits n m ≡ true

-- rows, their marks and their bits are kept right
pub record AreKept (parts : Parts) (marks : List Mark) (noted : BitTable) : Type 0 where
  pub kept : IsKept parts marks
  pub bits : AreBits parts.rows.items noted

-- what led to one row does no longer, and all else stays
pub record LeadsBut (n : ℕ) (old new : List Row) : Type 0 where
  pub only : (k m : ℕ) → LeadsTo new k m → (m ≢ n) × LeadsTo old k m
  pub all : (k m : ℕ) → m ≢ n → LeadsTo old k m → LeadsTo new k m

-- the numbers to which links lead that are alive
abbrev pub live_numbers : List Row → List Link → List ℕ
live_numbers rows ls = map (λ l. l.at) (filter (is_alive rows) ls)

-- the number of a row, where there is one
abbrev pub start_of : Option ℕ → List ℕ
start_of None = []
start_of (Some n) = n ∷ []

-- the numbers of the rows of those that entries name
abbrev pub starts_of : List (TxnId × ℕ) → List Dependency → List ℕ
starts_of numbers [] = []
starts_of numbers (d ∷ ds) = start_of (lookup (is_txn d.from) numbers) ++ starts_of numbers ds

-- the transactions of those rows of some that have lists
abbrev pub told_ids : List Row → List ℕ → List TxnId
told_ids rows ns = map (λ n. (row_in rows n).id) (filter (λ n. is_told (row_in rows n)) ns)
