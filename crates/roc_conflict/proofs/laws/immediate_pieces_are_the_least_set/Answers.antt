use Rattle.std.proofs.Common.{IsTrue}
use Rattle.roc_conflict.specs.Immediate.{declared, in_conflict}
use Rattle.roc_conflict.proofs.Least.{present_from_immediate, held_from_immediate}
use Rattle.roc_conflict.proofs.laws.immediate_pieces_are_the_least_set.Goals as goal

pub returns-clause-exist : goal.returns-clause-exist
returns-clause-exist c = present_from_immediate

pub returns-clause-declared : goal.returns-clause-declared
returns-clause-declared c = λ program id there now. declared there now

pub returns-clause-closed : goal.returns-clause-closed
returns-clause-closed c = λ program one other first h. in_conflict first h

pub returns-clause-least : goal.returns-clause-least
returns-clause-least c = λ program holds base step id h. held_from_immediate program (λ x. IsTrue (holds x)) base step id h
