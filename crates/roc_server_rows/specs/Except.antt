-- Rows where the links to one of them are not followed
use Rattle.std.specs.Prelude.{◌<◌, ◌==◌, ℕ, Bool, false, List, map, Option, Some, None, IfSome, if◌then◌else◌}
use Rattle.roc_server_rows.specs.declared.rows.Link.{Link}
use Rattle.roc_server_rows.specs.declared.rows.Row.{Row}
use Rattle.roc_server_rows.specs.Rows.{row_in}

-- the row is the one to which no link is followed
abbrev pub is_except : Option ℕ → ℕ → Bool
is_except None n = false
is_except (Some m) n = n == m

-- a link of nothing
abbrev pub no_link : Link
no_link = record { at = 0; birth = 0 }

-- a link to that row is done
abbrev pub link_but : Option ℕ → Link → Link
link_but except l = if is_except except l.at then no_link else l

-- the row with its links to that row done
abbrev pub row_but : Option ℕ → Row → Row
row_but except r = record { id = r.id; birth = r.birth; turn = r.turn; edges = r.edges; names = map (link_but except) r.names; next = r.next }

-- all rows so
abbrev pub rows_but : Option ℕ → List Row → List Row
rows_but except rows = map (row_but except) rows

-- that row is there
abbrev pub IsExceptLive : Option ℕ → List Row → Type 0
IsExceptLive except rows = IfSome except (λ m. 0 < (row_in rows m).birth)
