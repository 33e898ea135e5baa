-- What the log machine asks of a plan, apart from its text: docs/PROOF.md, "The log machine"
use Rattle.std.specs.Prelude.{◌≡◌, ℕ, ℤ, Bool, false, IsTrue, List}
use Rattle.roc_rows.specs.declared.cell.Cell.{Cell}
use Rattle.roc_rows.specs.Store.{Store}
use Rattle.roc_law_orders.specs.Behaviour.{TxnGroup, is_used, Meet, Behaviour, IsLawful}

-- what groups do, when, and where
pub record Scheme : Type 0 where
  pub behaviour : Behaviour
  -- a group that runs when it starts; the others wait until their transaction is decided
  pub is_immediate : TxnGroup → Bool
  -- the shard of a cell, and of a group with its inputs
  pub cell_shard : Cell → ℕ
  pub group_shard : TxnGroup → List (List ℤ) → ℕ

pub record IsSoundScheme (S : Scheme) : Type 0 where
  pub lawful : IsLawful S.behaviour
  -- groups that conflict are of one class
  pub one_class :
      (q r : TxnGroup) (i j : List (List ℤ)) (s t : Store)
      → Meet (S.behaviour.uses q i s) (S.behaviour.uses r j t) → S.is_immediate q ≡ S.is_immediate r
  -- of the immediate groups of a transaction at most one conflicts with any group
  pub one_contended :
      (p q : TxnGroup) → p.txn ≡ q.txn → IsTrue (S.is_immediate p) → IsTrue (S.is_immediate q)
      → (r u : TxnGroup) (i j k l : List (List ℤ)) (a b c d : Store)
      → Meet (S.behaviour.uses p i a) (S.behaviour.uses r j b) → Meet (S.behaviour.uses q k c) (S.behaviour.uses u l d) → p ≡ q
  -- what a group that waits uses follows from its inputs alone
  pub steady : (r : TxnGroup) → S.is_immediate r ≡ false → (given : List (List ℤ)) (s t : Store) → S.behaviour.uses r given s ≡ S.behaviour.uses r given t
  -- a group's cells are on its shard
  pub placed : (r : TxnGroup) (given : List (List ℤ)) (s : Store) (x : Cell) → IsTrue (is_used x (S.behaviour.uses r given s)) → S.cell_shard x ≡ S.group_shard r given
