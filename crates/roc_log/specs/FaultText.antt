-- What is printed for each kind of fault
use Rattle.std.specs.Prelude.{ℕ, List, ◌++◌, codes}
use Rattle.roc_base.specs.Node.{node_text}
use Rattle.roc_log.specs.declared.fault.What.{What}
use Rattle.roc_log.specs.declared.fault.What.TheVariants.{Word, Node, Twice, Procedure, Arguments, View}

abbrev pub what_text : What → List ℕ
what_text Word = codes "word"
what_text Node = codes "node"
what_text (Twice node) = codes "twice " ++ node_text node
what_text Procedure = codes "procedure"
what_text Arguments = codes "arguments"
what_text View = codes "view"
