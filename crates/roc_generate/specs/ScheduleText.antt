-- The text of a generated schedule: docs/FORMATS.md, "Schedule" and "Generated load"
use Rattle.std.specs.Prelude.{ℕ, ◌+◌, List, [], ◌∷◌, ◌++◌, Option, Some, None}
use Rattle.std.specs.List.{flat_map}
use Rattle.std.specs.Fmt.{decimal, signed_decimal}
use lib.Chars.{codes}
use Rattle.roc_base.specs.declared.node.Node.TheVariants.{Server, Coord}
use Rattle.roc_sched.specs.declared.line.Act.{Act}
use Rattle.roc_sched.specs.declared.line.Act.TheVariants.{Submit, Deliver, Any, Tick, Stop, Drain}
use Rattle.roc_sched.specs.declared.line.Line.{Line}
use Rattle.roc_generate.specs.Drawn.{drawn_acts}

-- nothing, K none, or K J
abbrev pub during_words : Option (ℕ × Option ℕ) → List ℕ
during_words None = []
during_words (Some (message, None)) = codes " " ++ decimal message ++ codes " none"
during_words (Some (message, Some many)) = codes " " ++ decimal message ++ codes " " ++ decimal many

-- the line that asks for an act
abbrev pub act_line : Act → List ℕ
act_line (Submit coord name args) = codes "submit " ++ decimal coord ++ codes " " ++ name ++ flat_map (λ n. codes " " ++ signed_decimal n) args ++ codes "\n"
act_line (Deliver message) = codes "deliver " ++ decimal message ++ codes "\n"
act_line (Any place) = codes "any " ++ decimal place ++ codes "\n"
act_line (Tick (Server shard)) = codes "tick s" ++ decimal shard.0 ++ codes "\n"
act_line (Tick (Coord number)) = codes "tick c" ++ decimal number ++ codes "\n"
act_line (Stop shard during) = codes "stop s" ++ decimal shard.0 ++ during_words during ++ codes "\n"
act_line (Drain coord) = codes "drain c" ++ decimal coord ++ codes "\n"

unfoldable pub generated_schedule : (seed shards txns : ℕ) → List ℕ
generated_schedule seed shards txns = flat_map act_line (drawn_acts seed shards txns)

-- acts as lines, the first of which has this number
abbrev pub numbered_acts : (number : ℕ) → List Act → List Line
numbered_acts number [] = []
numbered_acts number (act ∷ acts) = record { number = number; act = act } ∷ numbered_acts (number + 1) acts

unfoldable pub generated_lines : (seed shards txns : ℕ) → List Line
generated_lines seed shards txns = numbered_acts 1 (drawn_acts seed shards txns)
