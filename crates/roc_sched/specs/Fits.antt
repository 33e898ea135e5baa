-- What each line of a schedule and each request keeps to: docs/FORMATS.md, "Schedule" and "Requests".
use Rattle.std.specs.Prelude.{ℕ, ℤ, ◌<◌, ◌^◌, FitsSigned, IsTrue, List, Option, Some, None, IfSome}
use Rattle.std.specs.List.{AllByRecursion}
use Rattle.std.specs.Int.{w64}
use Rattle.roc_base.specs.declared.node.Node.{Node}
use Rattle.roc_base.specs.declared.node.Node.TheVariants.{Server, Coord}
use Rattle.roc_sched.specs.declared.forms.Forms.{Forms}
use Rattle.roc_sched.specs.declared.line.Act.{Act}
use Rattle.roc_sched.specs.declared.line.Act.TheVariants.{Submit, Deliver, Any, Tick, Stop, Drain}
use Rattle.roc_sched.specs.Forms.{coordinators}
use Rattle.roc_sched.specs.Numbers.{is_name}

-- a name, and integers of 64 bits
abbrev pub IsWrittenCall : (name : List ℕ) → (args : List ℤ) → Type 0
IsWrittenCall name args = IsTrue (is_name name) × AllByRecursion (FitsSigned w64) args

-- one of the coordinators, or one of so many shards
abbrev pub IsNodeFor : Forms → (shards : ℕ) → Node → Type 0
IsNodeFor forms shards (Server shard) = shard.0 < shards
IsNodeFor forms shards (Coord number) = number < coordinators forms

-- a number of 32 bits, and not 0
abbrev pub IsMessageNumber : ℕ → Type 0
IsMessageNumber message = (0 < message) × (message < 2 ^ 32)

-- a message, and how many of those that come of it are sent
abbrev pub IsDuring : ℕ × Option ℕ → Type 0
IsDuring during = IsMessageNumber during.0 × IfSome during.1 (λ many. many < 2 ^ 32)

-- one of so many coordinators that may be drained
abbrev pub IsDrained : (coords : Option ℕ) → ℕ → Type 0
IsDrained None coord = ⊥
IsDrained (Some coords) coord = coord < coords

-- a line has only a form that is taken, and messages and places have numbers of 32 bits
abbrev pub IsActFor : Forms → (shards : ℕ) → Act → Type 0
IsActFor forms shards (Submit coord name args) = IsNodeFor forms shards (Coord coord) × IsWrittenCall name args
IsActFor forms shards (Deliver message) = IsMessageNumber message
IsActFor forms shards (Any place) = place < 2 ^ 32
IsActFor forms shards (Tick node) = IsNodeFor forms shards node
IsActFor forms shards (Stop shard during) = IsTrue forms.stops × (shard.0 < shards) × IfSome during IsDuring
IsActFor forms shards (Drain coord) = IsDrained forms.coords coord
