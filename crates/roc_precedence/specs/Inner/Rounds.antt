-- Chains by the number of their steps, and what a search back from a transaction meets, level by level
use Rattle.std.specs.Prelude.{◌≡◌, ◌+◌, ◌-◌, ◌<◌, ◌≤◌, ℕ, zero, suc, Bool, true, false, List, [], ◌∷◌, length, get_or, Option, Some, None, IsTrue, ◌⊎◌, Vec}
use Rattle.std.specs.declared.alloc.Global.{Global}
use Rattle.std.specs.List.Sorted.{IsStrictlySortedBy}
use Rattle.roc_sequence.specs.Places.{IsListed}
use Rattle.roc_base.specs.declared.id.TxnId.{TxnId}
use Rattle.roc_base.specs.TxnId.{is_txn, txn_cmp, txn_lt}
use Rattle.roc_precedence.specs.Cycles.{stands_before}
use Rattle.roc_precedence.specs.declared.rounds.Round.{Round}

-- E leads from u to t in n steps
abbrev pub Walks : (E : TxnId → TxnId → Type 0) → ℕ → TxnId → TxnId → Type 0
Walks E zero u t = u ≡ t
Walks E (suc n) u t = (s : TxnId) × E u s × Walks E n s t

-- E leads from u to t in fewer than n steps, at least one
abbrev pub IsNearer : (E : TxnId → TxnId → Type 0) → ℕ → TxnId → TxnId → Type 0
IsNearer E n u t = (j : ℕ) × (suc j < n) × Walks E (suc j) u t

-- all from which E leads to s in n steps, unless it leads there in fewer
pub record IsLevel (E : TxnId → TxnId → Type 0) (s : TxnId) (n : ℕ) (level : List TxnId) : Type 0 where
  pub sound : (u : TxnId) → IsListed is_txn level u → Walks E n u s
  pub complete : (u : TxnId) → Walks E n u s → IsListed is_txn level u ⊎ IsNearer E n u s

-- all from which E leads to s in n steps at most, at least one
pub record AreFound (E : TxnId → TxnId → Type 0) (s : TxnId) (n : ℕ) (found : List TxnId) : Type 0 where
  pub sound : (u : TxnId) → IsListed is_txn found u → IsNearer E (suc n) u s
  pub complete : (u : TxnId) → IsNearer E (suc n) u s → IsListed is_txn found u

-- some that E leads from to one of the level
abbrev pub LeadsInto : (E : TxnId → TxnId → Type 0) → (level : List TxnId) → TxnId → Type 0
LeadsInto E level u = (t : TxnId) × IsListed is_txn level t × E u t

-- what leads into a level was put among what was found, and what is new is the next level
pub record StepsBack (E : TxnId → TxnId → Type 0) (level found found2 next : List TxnId) : Type 0 where
  pub keeps : (u : TxnId) → IsListed is_txn found u → IsListed is_txn found2 u
  pub all : (u : TxnId) → LeadsInto E level u → IsListed is_txn found2 u
  pub only : (u : TxnId) → IsListed is_txn found2 u → IsListed is_txn found u ⊎ LeadsInto E level u
  pub new : (u : TxnId) → IsListed is_txn found2 u → ¬ IsListed is_txn found u → IsListed is_txn next u
  pub behind : (u : TxnId) → IsListed is_txn next u → LeadsInto E level u
  pub rising : IsStrictlySortedBy txn_cmp found → IsStrictlySortedBy txn_cmp found2
  pub count : length next + length found ≡ length found2

-- a number of steps is within a bound, where there is one
abbrev pub IsWithinMost : Option ℕ → ℕ → Type 0
IsWithinMost None n = Unit {0}
IsWithinMost (Some most) n = n ≤ most

-- a search ends where a level is empty, and at its bound
abbrev pub IsOver : (level : List TxnId) → ℕ → Option ℕ → Bool → Type 0
IsOver level n most false = (0 < length level) × IsWithinMost most (suc n)
IsOver level n most true = (length level ≡ 0) ⊎ (¬ IsWithinMost most (suc n))

-- a shorter round has fewer steps than the best
abbrev pub most_of : Option Round → Option ℕ
most_of None = None
most_of (Some round) = Some (length round.levels.items - 1)

-- a round that was found within the bound is shorter
abbrev pub better : TxnId → Option Round → Option (Vec (List TxnId) Global) → Option Round
better id best None = best
better id best (Some levels) = Some (record { of = id; levels = levels })

-- each list is the level at its place
abbrev pub AreLevels : (E : TxnId → TxnId → Type 0) → TxnId → List (List TxnId) → Type 0
AreLevels E s levels = (i : ℕ) → i < length levels → IsLevel E s i (get_or levels i [])

-- the levels behind s up to a shortest way from s to itself, which has a step for each level
pub record IsRound (E : TxnId → TxnId → Type 0) (s : TxnId) (levels : List (List TxnId)) : Type 0 where
  pub back : AreLevels E s levels
  pub some : 0 < length levels
  pub closes : Walks E (length levels) s s
  pub shortest : ¬ IsNearer E (length levels) s s

-- E leads from s to itself in no number of steps within the bound
abbrev pub HasNoRound : (E : TxnId → TxnId → Type 0) → Option ℕ → TxnId → Type 0
HasNoRound E most s = (j : ℕ) → IsWithinMost most (suc j) → ¬ Walks E (suc j) s s

-- a shortest round within the bound, or none
abbrev pub IsRoundWithin : (E : TxnId → TxnId → Type 0) → TxnId → Option ℕ → Option (List (List TxnId)) → Type 0
IsRoundWithin E s most None = HasNoRound E most s
IsRoundWithin E s most (Some levels) = IsRound E s levels × IsWithinMost most (length levels)

-- of the ids, in their order, the first with a shortest round
pub record IsFirstRound (E : TxnId → TxnId → Type 0) (ids : List TxnId) (s : TxnId) (levels : List (List TxnId)) : Type 0 where
  pub is : IsRound E s levels
  pub from : IsListed is_txn ids s
  pub shortest : (x : TxnId) → IsListed is_txn ids x → ¬ IsNearer E (length levels) x x
  pub least : (x : TxnId) → IsListed is_txn ids x → IsTrue (txn_lt x s) → ¬ Walks E (length levels) x x

abbrev pub IsBestRound : (E : TxnId → TxnId → Type 0) → (ids : List TxnId) → Option Round → Type 0
IsBestRound E ids None = (x : TxnId) → IsListed is_txn ids x → HasNoRound E None x
IsBestRound E ids (Some round) = IsFirstRound E ids round.of round.levels.items

-- E leads from u to the second of the list, from each of it to the next, and from the last to t; the list begins with u
abbrev pub IsWay : (E : TxnId → TxnId → Type 0) → TxnId → List TxnId → TxnId → Type 0
IsWay E u [] t = u ≡ t
IsWay E u (x ∷ xs) t = (x ≡ u) × ((s : TxnId) × E u s × IsWay E s xs t)

-- of the ways of n steps the least
pub record IsLeastWay (E : TxnId → TxnId → Type 0) (n : ℕ) (u t : TxnId) (xs : List TxnId) : Type 0 where
  pub is : IsWay E u xs t
  pub long : length xs ≡ n
  pub least : (ys : List TxnId) → IsWay E u ys t → length ys ≡ n → ¬ IsTrue (stands_before ys xs)

-- of those of a level that E leads to from u the least
pub record IsLeastBehind (E : TxnId → TxnId → Type 0) (u : TxnId) (level : List TxnId) (x : TxnId) : Type 0 where
  pub from : IsListed is_txn level x
  pub leads : E u x
  pub least : (y : TxnId) → IsListed is_txn level y → E u y → ¬ IsTrue (txn_lt y x)

-- the same, or there is none
abbrev pub IsLeastOrNone : (E : TxnId → TxnId → Type 0) → TxnId → (level : List TxnId) → Option TxnId → Type 0
IsLeastOrNone E u level None = (y : TxnId) → IsListed is_txn level y → ¬ E u y
IsLeastOrNone E u level (Some x) = IsLeastBehind E u level x

-- a least way along a first round, or none has a round
abbrev pub IsWayFound : (E : TxnId → TxnId → Type 0) → (ids : List TxnId) → Option (List TxnId) → Type 0
IsWayFound E ids None = (x : TxnId) → IsListed is_txn ids x → HasNoRound E None x
IsWayFound E ids (Some way) = (s : TxnId) × (levels : List (List TxnId)) × IsFirstRound E ids s levels × IsLeastWay E (length levels) s s way
