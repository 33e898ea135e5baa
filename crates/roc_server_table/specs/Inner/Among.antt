-- Entries that are followed from one of some transactions to another
use Rattle.std.specs.Prelude.{ℕ, Bool, false, not, List, [], Option, Some, None, map, filter, if◌then◌else◌}
use Rattle.roc_sequence.specs.Places.{is_listed}
use Rattle.roc_base.specs.declared.id.TxnId.{TxnId}
use Rattle.roc_base.specs.TxnId.{is_txn}
use Rattle.roc_base.specs.Edge.{Dependency}
use Rattle.roc_depgraph.specs.declared.known.KnownList.{KnownList}
use Rattle.roc_depgraph.specs.Deps.{entries_of}
use Rattle.roc_step.specs.Links.{without_links}
use Rattle.roc_server_rows.specs.declared.rows.Row.{Row}
use Rattle.roc_server_rows.specs.Rows.{row_in, followed, is_told}

-- the transaction to which no link is followed
abbrev pub skipped_at : Option ℕ → List Row → Option TxnId
skipped_at None rows = None
skipped_at (Some m) rows = Some (row_in rows m).id

abbrev pub is_skipped : Option TxnId → TxnId → Bool
is_skipped None t = false
is_skipped (Some id) t = is_txn t id

-- lists without the entries that name it
abbrev pub links_past : Option TxnId → List KnownList → List KnownList
links_past None links = links
links_past (Some id) links = map (without_links (λ t. is_txn t id)) links

-- the row, where it has a list
abbrev pub told_row : Row → Option Row
told_row r = if is_told r then Some r else None

-- what is followed of the list of a row; nothing where there is none
abbrev pub followed_from : List Row → Option Row → List Dependency
followed_from rows None = []
followed_from rows (Some r) = followed rows r.edges r.names

-- the entries that name one of these, and not the one that is skipped
abbrev pub among : (ids : List TxnId) → Option TxnId → List Dependency → List Dependency
among ids skipped es = filter (λ d. is_listed is_txn ids d.from) (filter (λ d. not (is_skipped skipped d.from)) es)

-- the lists of ids, each without the entries that lead out of M
abbrev pub links_within : List KnownList → (M ids : List TxnId) → List KnownList
links_within links M ids = map (λ t. record { of = t; edges = filter (λ d. is_listed is_txn M d.from) (entries_of links t) }) ids
