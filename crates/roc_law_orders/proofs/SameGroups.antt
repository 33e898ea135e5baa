-- What the test of groups of transactions decides, and what is written is used
use Rattle.std.proofs.Common.{◌≡◌, ◌&&◌, ◌==◌, true, List, [], ◌∷◌, refl, inl, inr}
use Rattle.std.proofs.lemmas.Bool.{and_parts, and_from, eqb-true, eq-eqb, or_cases, or_left, or_right}
use Rattle.roc_base.specs.TxnId.{is_txn}
use Rattle.roc_base.specs.Equalities.{is_txn-true, is_txn-same}
use Rattle.roc_rows.specs.declared.cell.Cell.{Cell}
use Rattle.roc_rows.specs.Cells.{is_cell}
use Rattle.roc_law_orders.specs.Behaviour.{TxnGroup, is_txn_group, Use, is_used, is_written}

pub same_group : (a b : TxnGroup) → is_txn_group a b ≡ true → a ≡ b
same_group a b h =
    let p = and_parts (is_txn a.txn b.txn) (a.group == b.group) h in
    let t = is_txn-true a.txn b.txn p.0 in
    let g = eqb-true a.group b.group p.1 in
    λ i. record { txn = t i; group = g i }

pub is_group-same : (a : TxnGroup) → is_txn_group a a ≡ true
is_group-same a = and_from (is_txn a.txn a.txn) (a.group == a.group) (is_txn-same a.txn) (eq-eqb a.group a.group refl)

pub written_used : (x : Cell) (uses : List Use) → is_written x uses ≡ true → is_used x uses ≡ true
written_used x [] h = h
written_used x (u ∷ uses) h =
    elim (or_cases (u.writes && is_cell u.cell x) (is_written x uses) h) [
      | inl e ↦ or_left (is_cell u.cell x) (is_used x uses) (and_parts u.writes (is_cell u.cell x) e).1
      | inr e ↦ or_right (is_cell u.cell x) (is_used x uses) (written_used x uses e)
    ]
