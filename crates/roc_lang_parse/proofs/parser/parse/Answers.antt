use Rattle.std.proofs.Common.{arith}
use Rattle.roc_lang_parse.specs.Fault.{too_long}
use Rattle.roc_lang_parse.proofs.Answers.{found_in, only_in, fault_in}
use Rattle.roc_lang_parse.proofs.parser.parse.Goals as goal

pub returns-then-text-gt-TEXT_BYTES-clause-fault : goal.returns-then-text-gt-TEXT_BYTES-clause-fault
returns-then-text-gt-TEXT_BYTES-clause-fault c = too_long (omega (arith, c.if-text-gt-TEXT_BYTES.true))

pub returns-clause-found : goal.returns-clause-found
returns-clause-found c = found_in c.args.text.now _ _ c.answer_of.result c.if-text-gt-TEXT_BYTES.false c.in_ok-lexed.ensures c.answer_of.ensures

pub returns-clause-only : goal.returns-clause-only
returns-clause-only c = only_in c.args.text.now _ _ c.answer_of.result c.in_ok-lexed.ensures c.answer_of.ensures

pub returns-clause-fault : goal.returns-clause-fault
returns-clause-fault c = fault_in c.args.text.now _ _ c.answer_of.result c.if-text-gt-TEXT_BYTES.false c.in_ok-lexed.ensures c.answer_of.ensures
