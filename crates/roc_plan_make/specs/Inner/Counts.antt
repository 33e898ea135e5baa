-- What of a procedure is counted
use Rattle.std.specs.Prelude.{Bool, is_some}
use Rattle.roc_program.specs.Names.{output}
use Rattle.roc_program.specs.Parts as view
use Rattle.roc_program.specs.declared.parts.Statement.{Statement}

-- the statement adds to the reply
unfoldable pub is_out : Statement → Bool
is_out s = is_some (output (view.statement s))
