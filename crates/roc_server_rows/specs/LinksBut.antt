-- What is followed where the links that lead to one row are left out
use Rattle.std.specs.Prelude.{ℕ, List, Option, Some, None, map}
use Rattle.roc_base.specs.TxnId.{is_txn}
use Rattle.roc_depgraph.specs.declared.known.KnownList.{KnownList}
use Rattle.roc_step.specs.Links.{without_links}
use Rattle.roc_server_rows.specs.declared.rows.Row.{Row}
use Rattle.roc_server_rows.specs.Rows.{row_in, row_links}

-- by no number all links are followed
abbrev pub links_but : Option ℕ → List Row → List KnownList
links_but None rows = row_links rows
links_but (Some m) rows = map (without_links (λ t. is_txn t (row_in rows m).id)) (row_links rows)
