-- Cycles of a relation among transactions, and the least of them
use Rattle.std.specs.Prelude.{◌≡◌, ◌≤◌, Bool, true, false, ◌&&◌, ◌||◌, List, [], ◌∷◌, length, IsTrue}
use Rattle.roc_sequence.specs.Lists.{Has}
use Rattle.roc_base.specs.declared.id.TxnId.{TxnId}
use Rattle.roc_base.specs.TxnId.{is_txn, txn_lt}
use Rattle.roc_component.specs.Components.{among}

-- G leads from u to the first of the list, from each of it to the next, and from the last to t
abbrev pub LeadsAlong : (G : TxnId → TxnId → Type 0) → TxnId → List TxnId → TxnId → Type 0
LeadsAlong G u [] t = G u t
LeadsAlong G u (x ∷ xs) t = G u x × LeadsAlong G x xs t

-- G leads from each of the list to the next, and from the last to the first
abbrev pub IsCycle : (G : TxnId → TxnId → Type 0) → List TxnId → Type 0
IsCycle G [] = ⊥
IsCycle G (x ∷ xs) = LeadsAlong G x xs x

-- some members of M are a cycle
abbrev pub HasCycle : (G : TxnId → TxnId → Type 0) → (M : List TxnId) → Type 0
HasCycle G M = (c : List TxnId) × IsCycle (among M G) c

-- none of the list is below its first
abbrev pub BeginsWithLeast : List TxnId → Type 0
BeginsWithLeast [] = ⊥
BeginsWithLeast (x ∷ xs) = (y : TxnId) → Has y xs → ¬ IsTrue (txn_lt y x)

-- by the first place at which they differ; a list comes before one that begins with it
abbrev pub stands_before : List TxnId → List TxnId → Bool
stands_before [] [] = false
stands_before [] (b ∷ bs) = true
stands_before (a ∷ rest) [] = false
stands_before (a ∷ rest) (b ∷ bs) = txn_lt a b || (is_txn a b && stands_before rest bs)

-- c is a shortest cycle among the members of M, and of those that begin with their least id the least
pub record IsLeastCycle (G : TxnId → TxnId → Type 0) (M c : List TxnId) : Type 0 where
  pub is : IsCycle (among M G) c
  pub begins : BeginsWithLeast c
  -- no cycle at all is shorter
  pub shortest : (d : List TxnId) → IsCycle (among M G) d → length c ≤ length d
  -- and none of its length that begins with its least id comes before it
  pub least : (d : List TxnId) → IsCycle (among M G) d → BeginsWithLeast d → length d ≡ length c → ¬ IsTrue (stands_before d c)
