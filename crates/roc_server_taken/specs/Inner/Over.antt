-- The components that were taken, and how they stand
use Rattle.std.specs.Prelude.{◌≡◌, ◌≢◌, ◌<◌, ◌-◌, ◌&&◌, ◌==◌, ℕ, Bool, true, not, nat_lt, List, [], ◌∷◌, ◌++◌, ◌⊎◌, map, filter, if◌then◌else◌}
use Rattle.std.specs.List.{AllByRecursion}
use Rattle.roc_sequence.specs.Lists.{Has}
use Rattle.roc_base.specs.declared.id.TxnId.{TxnId}
use Rattle.roc_base.specs.TxnId.{txn_lt}
use Rattle.roc_step.specs.Below.{is_ended}
use Rattle.roc_step.specs.Forgets.{is_over, over}
use Rattle.roc_server_taken.specs.declared.components.Component.{Component}

-- ---- by turn

-- a component wherever it stands
pub record TurnedComponent : Type 0 where
  pub turn : ℕ
  pub members : List TxnId

abbrev pub turned_component : Component → TurnedComponent
turned_component c = record { turn = c.turn; members = c.members }

-- before the first that has a later turn
abbrev pub put_turned : TurnedComponent → List TurnedComponent → List TurnedComponent
put_turned x [] = x ∷ []
put_turned x (y ∷ ys) = if nat_lt x.turn y.turn then x ∷ y ∷ ys else y ∷ put_turned x ys

abbrev pub by_turn : List Component → List TurnedComponent
by_turn [] = []
by_turn (c ∷ cs) = put_turned (turned_component c) (by_turn cs)

-- the members of each, in the order in which they were taken
abbrev pub members_by_turn : List Component → List (List TxnId)
members_by_turn cs = map (λ x. x.members) (by_turn cs)

-- how many more turns there are
abbrev pub turns_left : ℕ → ℕ
turns_left turn = 18446744073709551615 - turn

-- ---- as they stand

-- b does not stand before a
abbrev pub is_not_ahead : Component → Component → Bool
is_not_ahead a b = not (txn_lt b.under a.under)

-- each has a turn of its own
abbrev pub HaveOwnTurns : List Component → Type 0
HaveOwnTurns [] = Unit {0}
HaveOwnTurns (c ∷ cs) = AllByRecursion (λ d. d.turn ≢ c.turn) cs × HaveOwnTurns cs

-- each under a member of its own
pub record AreStanding (cs : List Component) : Type 0 where
  pub among : AllByRecursion (λ c. Has c.under c.members) cs
  pub turns : HaveOwnTurns cs

abbrev pub AreBefore : (turn : ℕ) → List Component → Type 0
AreBefore turn cs = AllByRecursion (λ c. c.turn < turn) cs

-- ---- what is ended

-- it stands under an ended member of this coordinator
abbrev pub is_under : (below : List ℕ) → (coord : ℕ) → Component → Bool
is_under below coord c = c.under.coord == coord && is_ended below c.under

-- it stands under an ended member of a lower coordinator
abbrev pub is_under_lower : (below : List ℕ) → (coord : ℕ) → Component → Bool
is_under_lower below coord c = is_ended below c.under && nat_lt c.under.coord coord

abbrev pub is_not_over : (below : List ℕ) → TurnedComponent → Bool
is_not_over below x = not (is_over below x.members)

-- one component more, anywhere
pub record IsPutBetween (c : Component) (old new : List Component) : Type 0 where
  pub before : List Component
  pub behind : List Component
  pub was : old ≡ before ++ behind
  pub is : new ≡ before ++ c ∷ behind

-- some that are over are left out, and others stand under members that are not ended
pub record LeavesOpen (below : List ℕ) (old new : List Component) : Type 0 where
  pub left : filter (is_not_over below) (by_turn new) ≡ filter (is_not_over below) (by_turn old)
  pub standing : AreStanding new
  pub before : (turn : ℕ) → AreBefore turn old → AreBefore turn new
  pub ended : (c : Component) → Has c new → is_ended below c.under ≡ true → Has c old

-- exactly these were added to the ids, in any order
pub record AddsAll (added old new : List TxnId) : Type 0 where
  pub stay : (t : TxnId) → Has t old → Has t new
  pub only : (t : TxnId) → Has t new → Has t old ⊎ Has t added
  pub all : (t : TxnId) → Has t added → Has t new

-- transactions of those that are over were added to the ids, and nothing else: all of those that stand under lower coordinators
pub record AddsUpto (below : List ℕ) (upto : ℕ) (cs : List Component) (old new : List TxnId) : Type 0 where
  pub stay : (t : TxnId) → Has t old → Has t new
  pub only : (t : TxnId) → Has t new → Has t old ⊎ Has t (over below (members_by_turn cs))
  pub all : (c : Component) (t : TxnId) → Has c cs → c.under.coord < upto → is_over below c.members ≡ true → Has t c.members → Has t new
