-- Rows by number, and the lists that they hold
use Rattle.std.specs.Prelude.{◌≡◌, ◌<◌, ◌≤◌, ◌==◌, ◌&&◌, ℕ, Bool, true, nat_lt, List, [], ◌∷◌, Some, map, slice_index_or, if◌then◌else◌}
use Rattle.std.specs.Map.{lookup}
use Rattle.roc_base.specs.declared.id.TxnId.{TxnId}
use Rattle.roc_base.specs.TxnId.{is_txn}
use Rattle.roc_base.specs.Edge.{Dependency}
use Rattle.roc_depgraph.specs.declared.known.KnownList.{KnownList}
use Rattle.roc_step.specs.Carried.{list_with}
use Rattle.roc_server_rows.specs.declared.rows.Link.{Link}
use Rattle.roc_server_rows.specs.declared.rows.Row.{Row}
use Rattle.roc_server_rows.specs.declared.rows.Parts.{Parts}
use Rattle.roc_server_rows.specs.Changes.{RowLists}

-- ---- a row

-- what stands at a number that no row has
abbrev pub no_row : Row
no_row = record { id = record { coord = 0; seq = 0 }; birth = 0; turn = 0; edges = []; names = []; next = 0 }

abbrev pub row_in : List Row → ℕ → Row
row_in rows n = slice_index_or rows n no_row

-- the list of its transaction is known
abbrev pub is_told : Row → Bool
is_told r = nat_lt 0 r.turn

-- what the link names is there still
abbrev pub is_alive : List Row → Link → Bool
is_alive rows l = nat_lt 0 l.birth && (row_in rows l.at).birth == l.birth

-- the entries whose links are alive
abbrev pub followed : List Row → List Dependency → List Link → List Dependency
followed rows [] ls = []
followed rows (d ∷ ds) [] = []
followed rows (d ∷ ds) (l ∷ ls) = if is_alive rows l then d ∷ followed rows ds ls else followed rows ds ls

-- ---- the lists

-- before the first that has a later turn
abbrev pub put_row : Row → List Row → List Row
put_row r [] = r ∷ []
put_row r (s ∷ ss) = if nat_lt r.turn s.turn then r ∷ s ∷ ss else s ∷ put_row r ss

-- the rows that have lists, by turn
abbrev pub rows_in_turn : List Row → List Row
rows_in_turn [] = []
rows_in_turn (r ∷ rs) = if is_told r then put_row r (rows_in_turn rs) else rows_in_turn rs

-- its list as it came
abbrev pub known_in : Row → KnownList
known_in r = list_with r.id r.edges

-- what is followed of it
abbrev pub links_in : List Row → Row → KnownList
links_in rows r = list_with r.id (followed rows r.edges r.names)

-- the lists of all rows, in the order in which they came
abbrev pub known_of : List Row → List KnownList
known_of rows = map known_in (rows_in_turn rows)

-- what is followed of them, in the same order
abbrev pub row_links : List Row → List KnownList
row_links rows = map (links_in rows) (rows_in_turn rows)

-- both
abbrev pub lists_by : List Row → RowLists
lists_by rows = record { known = known_of rows; links = row_links rows }

-- ---- what is kept right

-- the row at a number is that of a transaction
pub record IsRowOf (rows : List Row) (n : ℕ) (id : TxnId) : Type 0 where
  pub live : 0 < (row_in rows n).birth
  pub is : (row_in rows n).id ≡ id

-- the link was made before, and what it names, if it is there still, is what the entry names
pub record IsRowName (rows : List Row) (stamp : ℕ) (d : Dependency) (l : Link) : Type 0 where
  pub born : l.birth < stamp
  pub right : is_alive rows l ≡ true → (row_in rows l.at).id ≡ d.from

-- one for each entry
abbrev pub AreNamed : List Row → (stamp : ℕ) → List Dependency → List Link → Type 0
AreNamed rows stamp [] [] = Unit {0}
AreNamed rows stamp [] (l ∷ ls) = ⊥
AreNamed rows stamp (d ∷ ds) [] = ⊥
AreNamed rows stamp (d ∷ ds) (l ∷ ls) = IsRowName rows stamp d l × AreNamed rows stamp ds ls

-- each row is found by its transaction, what has a list is there, births and turns are past ones, and each link names what its entry does
pub record IsRowTable (numbers : List (TxnId × ℕ)) (rows : List Row) (stamp : ℕ) : Type 0 where
  pub some : 0 < stamp
  pub found : (id : TxnId) (n : ℕ) → lookup (is_txn id) numbers ≡ Some n → IsRowOf rows n id
  pub each : (n : ℕ) → 0 < (row_in rows n).birth → lookup (is_txn (row_in rows n).id) numbers ≡ Some n
  pub told_live : (n : ℕ) → 0 < (row_in rows n).turn → 0 < (row_in rows n).birth
  pub births : (n : ℕ) → (row_in rows n).birth < stamp
  pub turns : (n : ℕ) → (row_in rows n).turn < stamp
  pub names : (n : ℕ) → AreNamed rows stamp (row_in rows n).edges (row_in rows n).names

-- so it is of the rows, the numbers and the stamp of these
abbrev pub AreWhole : Parts → Type 0
AreWhole p = IsRowTable p.numbers.entries p.rows.items p.stamp

-- ---- changes

-- each row that was there stays as it was, each that came has no list, and what each link names that was made before stays
pub record Grows (old new : List Row) (was stamp : ℕ) : Type 0 where
  pub later : was ≤ stamp
  pub rows : (n : ℕ) → 0 < (row_in old n).birth → row_in new n ≡ row_in old n
  pub told : (n : ℕ) → is_told (row_in new n) ≡ true → row_in new n ≡ row_in old n
  pub links : (l : Link) → l.birth < was → is_alive new l ≡ is_alive old l
