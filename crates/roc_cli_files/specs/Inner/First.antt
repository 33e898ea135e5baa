-- What the files of a command with nodes up to its requests hold, as the code has it
use Rattle.std.specs.Prelude.{List, ℕ, Option}
use Rattle.roc_cli_files.specs.declared.nodes.Nodes.{Nodes}
use Rattle.roc_cli_files.specs.Held.{NodeFiles}
use Rattle.roc_cli_files.specs.NodeNames.{HoldFirst}

abbrev pub HoldsFirst : (List ℕ → Option (List ℕ)) → NodeFiles → Nodes → Type 0
HoldsFirst content files nodes = HoldFirst content files nodes.plan nodes.tag nodes.cluster nodes.requests.items
