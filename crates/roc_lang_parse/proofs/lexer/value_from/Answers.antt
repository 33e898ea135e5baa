use Rattle.std.proofs.Common.{sym}
use Rattle.roc_lang_parse.proofs.Runs.{value_goes, value_stops, value_ends}
use Rattle.roc_lang_parse.proofs.lexer.value_from.Goals as goal

pub returns-in-None : goal.returns-in-None
returns-in-None c = value_stops c.loop-byte.value c.args.bytes.now c.loop-byte.byte-index _ c.loop-byte-test.true (sym c.in-None.ensures) c.loop-byte.invariant

pub loop-byte-preserved : goal.loop-byte-preserved
loop-byte-preserved c = value_goes c.loop-byte.value c.in-Some.next c.args.bytes.now c.loop-byte.byte-index _ c.loop-byte-test.true (sym c.in-Some.ensures) c.loop-byte.invariant

pub returns : goal.returns
returns c = value_ends c.loop-byte.value c.args.bytes.now c.loop-byte.byte-index _ c.loop-byte-test.false c.loop-byte.invariant
