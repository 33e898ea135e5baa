-- What is followed of the list of a transaction
use Rattle.std.proofs.Common.{◌≡◌, ◌∙◌, ℕ, Bool, true, false, cond, List, [], Option, Some, None, unwrap_or, refl, ap}
use Rattle.std.specs.Map.{lookup}
use Rattle.roc_base.specs.declared.id.TxnId.{TxnId}
use Rattle.roc_base.specs.TxnId.{is_txn}
use Rattle.roc_base.specs.Edge.{Dependency}
use Rattle.roc_depgraph.specs.Deps.{entries_of}
use Rattle.roc_server_rows.specs.declared.rows.Row.{Row}
use Rattle.roc_server_table.specs.Inner.Among.{followed_from, told_row}
use Rattle.roc_server_rows.specs.Rows.{row_in, followed, is_told, row_links, IsRowTable}
use Rattle.roc_server_rows.proofs.Looked.{absent_made, here_made}

abbrev or_none : Option (List Dependency) → List Dependency
or_none o = unwrap_or o []

module _ (numbers : List (TxnId × ℕ)) (rs : List Row) (stamp : ℕ) (t : IsRowTable numbers rs stamp) (id : TxnId) where
  abbrev made_at : Row → List Dependency
  made_at r = followed rs r.edges r.names

  pub links_absent : lookup (is_txn id) numbers ≡ None → entries_of (row_links rs) id ≡ []
  links_absent absent = ap or_none (absent_made made_at numbers rs stamp t id absent)

  pub links_here : (n : ℕ) → lookup (is_txn id) numbers ≡ Some n → entries_of (row_links rs) id ≡ followed_from rs (told_row (row_in rs n))
  links_here n here = ap or_none (here_made made_at numbers rs stamp t id n here) ∙ go (is_told (row_in rs n))
    where
      go : (b : Bool) → or_none (cond b (Some (made_at (row_in rs n))) None) ≡ followed_from rs (cond b (Some (row_in rs n)) None)
      go true = refl
      go false = refl
