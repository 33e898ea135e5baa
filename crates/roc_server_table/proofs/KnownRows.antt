-- Which lists rows have, by transaction
use Rattle.std.proofs.Common.{◌≡◌, ℕ, Bool, true, false, cond, List, [], ◌∷◌, map, Some, None, is_some, refl, ap, ◌∙◌}
use Rattle.std.specs.Map.{lookup}
use Rattle.roc_base.specs.declared.id.TxnId.{TxnId}
use Rattle.roc_base.specs.TxnId.{is_txn}
use Rattle.roc_base.specs.Edge.{Dependency}
use Rattle.roc_depgraph.specs.Deps.{is_known}
use Rattle.roc_step.proofs.SameIds.{ids_of, known_alike}
use Rattle.roc_server_rows.specs.declared.rows.Row.{Row}
use Rattle.roc_server_rows.specs.Rows.{row_in, is_told, rows_in_turn, known_in, links_in, known_of, row_links, IsRowTable}
use Rattle.roc_server_rows.proofs.Looked.{absent_list, here_list}

ids_alike : (all rs : List Row) → ids_of (map (links_in all) rs) ≡ ids_of (map known_in rs)
ids_alike all [] = refl
ids_alike all (r ∷ rs) = ap (λ us. r.id ∷ us) (ids_alike all rs)

-- what is known and what is followed are of the same transactions, in the same order
pub links_ids : (rows : List Row) → ids_of (row_links rows) ≡ ids_of (known_of rows)
links_ids rows = ids_alike rows (rows_in_turn rows)

module _ (numbers : List (TxnId × ℕ)) (rows : List Row) (stamp : ℕ) (t : IsRowTable numbers rows stamp) (id : TxnId) where
  some_told : (b : Bool) (es : List Dependency) → is_some (cond b (Some es) None) ≡ b
  some_told true es = refl
  some_told false es = refl

  pub known_told : (n : ℕ) → lookup (is_txn id) numbers ≡ Some n → is_known (known_of rows) id ≡ is_told (row_in rows n)
  known_told n here = ap is_some (here_list numbers rows stamp t id n here) ∙ some_told (is_told (row_in rows n)) (row_in rows n).edges

  pub links_told : (n : ℕ) → lookup (is_txn id) numbers ≡ Some n → is_known (row_links rows) id ≡ is_told (row_in rows n)
  links_told n here = known_alike (known_of rows) (row_links rows) (links_ids rows) id ∙ known_told n here

  pub absent_known : lookup (is_txn id) numbers ≡ None → is_known (known_of rows) id ≡ false
  absent_known absent = ap is_some (absent_list numbers rows stamp t id absent)

  pub absent_links_known : lookup (is_txn id) numbers ≡ None → is_known (row_links rows) id ≡ false
  absent_links_known absent = known_alike (known_of rows) (row_links rows) (links_ids rows) id ∙ absent_known absent
