-- The word that is printed for each kind of fault.
use Rattle.std.specs.Prelude.{ℕ, List}
use lib.Chars.{codes}
use Rattle.roc_sched.specs.declared.fault.What.{What}
use Rattle.roc_sched.specs.declared.fault.What.TheVariants.{Word, Node, Limit, Message, Procedure, Arguments}

abbrev pub what_text : What → List ℕ
what_text Word = codes "word"
what_text Node = codes "node"
what_text Limit = codes "limit"
what_text Message = codes "message"
what_text Procedure = codes "procedure"
what_text Arguments = codes "arguments"
