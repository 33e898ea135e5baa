-- What a turn that ends for want of memory may lose
use Rattle.std.specs.Prelude.{◌≤◌, List, length, map}
use Rattle.roc_io.specs.Call.{LinkView}
use Rattle.roc_io.specs.Link.{Reception, receiving}
use Rattle.roc_node.specs.Moves.{Moves}

-- at most one receive was made, and nothing came of it
abbrev pub LosesOne : LinkView → LinkView → Type 0
LosesOne old new = (last : List Reception) × (length last ≤ 1) × Moves old new (map receiving last)
