-- Where components stand: each in the part of a coordinator, and each part has room for all that may come to stand there
use Rattle.std.specs.Prelude.{◌≡◌, ◌<◌, ◌≤◌, ◌+◌, ◌==◌, ℕ, Bool, List, [], length, filter, get_or, min}
use Rattle.std.specs.List.{flat_map, list_any, AllByRecursion}
use Rattle.roc_sequence.specs.Rising.{IsRising}
use Rattle.roc_base.specs.declared.id.TxnId.{TxnId}
use Rattle.roc_server_taken.specs.Inner.Over.{is_not_ahead, AreStanding}
use Rattle.roc_server_taken.specs.declared.components.Component.{Component}

-- the components of each part
pub record StandingComponents : Type 0 where
  pub parts : List (List Component)
  pub room : ℕ

abbrev pub components_of : StandingComponents → List Component
components_of s = flat_map (λ p. p) s.parts

-- the part of a transaction: there is one for each coordinator, and what has none goes with the last
abbrev pub part_of : TxnId → ℕ
part_of t = min t.coord 15

abbrev pub part_at : List (List Component) → ℕ → List Component
part_at parts at = get_or parts at []

-- some of these transactions are of this part
abbrev pub is_among : (at : ℕ) → List TxnId → Bool
is_among at members = list_any (λ t. part_of t == at) members

-- how many components have transactions of this part, and so may come to stand there
abbrev pub wanted_at : (at : ℕ) → List Component → ℕ
wanted_at at cs = length (filter (λ c. is_among at c.members) cs)

-- rising by members of one part
pub record StandAt (at : ℕ) (cs : List Component) : Type 0 where
  pub rising : IsRising is_not_ahead cs
  pub own : AllByRecursion (λ c. part_of c.under ≡ at) cs

-- no part has less room than components that may come to stand there, and this many more
pub record HaveRoom (cs : List Component) (wanted capacities : List ℕ) (more : ℕ) : Type 0 where
  pub counted : (at : ℕ) → at < 16 → wanted_at at cs ≤ get_or wanted at 0
  pub within : (at : ℕ) → at < 16 → get_or wanted at 0 + more ≤ get_or capacities at 0

pub record AreInParts (parts : List (List Component)) (wanted capacities : List ℕ) (more : ℕ) : Type 0 where
  pub each : (at : ℕ) → at < 16 → StandAt at (part_at parts at)
  pub standing : AreStanding (flat_map (λ p. p) parts)
  pub room : HaveRoom (flat_map (λ p. p) parts) wanted capacities more
  pub count : length parts ≡ 16
  pub counts : length wanted ≡ 16
