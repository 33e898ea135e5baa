-- A sum and a difference wrap as the code's do.
use Rattle.std.proofs.Common.{rules}
use Rattle.std.proofs.lemmas.Int.{wraps}
use Rattle.roc_program.proofs.parts.Expression.+value.Goals as goal

pub returns-in-Sum : goal.returns-in-Sum
returns-in-Sum t c = search (rules, wraps)

pub returns-in-Difference : goal.returns-in-Difference
returns-in-Difference t c = search (rules, wraps)
