-- What the groups of transactions do on one store: docs/PROOF.md, "The law about orders"
use Rattle.std.specs.Prelude.{◌≡◌, ℕ, ℤ, Bool, false, ◌&&◌, ◌||◌, ◌==◌, IsTrue, List}
use Rattle.std.specs.List.{AllByRecursion, list_any}
use Rattle.roc_sequence.specs.Places.{IsListed, IsListedBefore, NoneTwice}
use Rattle.roc_base.specs.declared.id.TxnId.{TxnId}
use Rattle.roc_base.specs.TxnId.{is_txn}
use Rattle.roc_rows.specs.declared.cell.Cell.{Cell}
use Rattle.roc_rows.specs.Cells.{is_cell}
use Rattle.roc_rows.specs.Store.{Store, read}

-- a group of a transaction, by its number
pub record TxnGroup : Type 0 where
  pub txn : TxnId
  pub group : ℕ

-- the two are one
abbrev pub is_txn_group : TxnGroup → TxnGroup → Bool
is_txn_group a b = is_txn a.txn b.txn && a.group == b.group

-- the two numbers are one
abbrev pub is_group_number : ℕ → ℕ → Bool
is_group_number a b = a == b

-- a cell that is used, and whether it may be written
pub record Use : Type 0 where
  pub cell : Cell
  pub writes : Bool

-- x is among the cells used
abbrev pub is_used : Cell → List Use → Bool
is_used x uses = list_any (λ u. is_cell u.cell x) uses

-- x is among the cells that may be written
abbrev pub is_written : Cell → List Use → Bool
is_written x uses = list_any (λ u. u.writes && is_cell u.cell x) uses

-- the two use one cell, and one of them may write it: docs/PROTOCOL.md, "Conflicts"
pub record Meet (a b : List Use) : Type 0 where
  pub cell : Cell
  pub first : IsTrue (is_used cell a)
  pub second : IsTrue (is_used cell b)
  pub one_writes : IsTrue (is_written cell a || is_written cell b)

-- what a group gives: the values that other groups of its transaction may need, and its part of the reply
pub record Yield : Type 0 where
  pub bound : List ℤ
  pub outs : List ℤ

-- What groups do. Of a transaction: its groups, in the order in which they run where it runs alone. Of a group: the groups of its
-- transaction whose bound values are its inputs. And at each value of its inputs and each store: the cells that it uses, what it
-- gives, and the store behind it
pub record Behaviour : Type 0 where
  pub groups : TxnId → List ℕ
  pub sources : TxnGroup → List ℕ
  pub uses : TxnGroup → List (List ℤ) → Store → List Use
  pub yields : TxnGroup → List (List ℤ) → Store → Yield
  pub after : TxnGroup → List (List ℤ) → Store → Store

-- with these inputs r does on one store what it does on the other: it uses the same cells, gives the same, and writes the same
pub record DoesSame (B : Behaviour) (r : TxnGroup) (given : List (List ℤ)) (s t : Store) : Type 0 where
  pub uses : B.uses r given s ≡ B.uses r given t
  pub yields : B.yields r given s ≡ B.yields r given t
  pub written : (x : Cell) → IsTrue (is_written x (B.uses r given s)) → read (B.after r given s) x ≡ read (B.after r given t) x

-- what is asked of a behaviour
pub record IsLawful (B : Behaviour) : Type 0 where
  -- a transaction's groups are listed once, each behind those that it needs
  pub once : (t : TxnId) → NoneTwice is_group_number (B.groups t)
  pub needed_first : (r : TxnGroup) → IsListed is_group_number (B.groups r.txn) r.group → AllByRecursion (λ g. IsListedBefore is_group_number (B.groups r.txn) g r.group) (B.sources r)
  -- what a group does depends on its inputs and on what the cells that it uses hold
  pub local : (r : TxnGroup) (given : List (List ℤ)) (s t : Store) → ((x : Cell) → IsTrue (is_used x (B.uses r given s)) → read s x ≡ read t x) → DoesSame B r given s t
  -- and it leaves each cell that it does not declare as written
  pub declared : (r : TxnGroup) (given : List (List ℤ)) (s : Store) (x : Cell) → is_written x (B.uses r given s) ≡ false → read (B.after r given s) x ≡ read s x
