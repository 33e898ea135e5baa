use Rattle.std.proofs.Common.{arith}
use Rattle.roc_lang_parse.proofs.Runs.{line_goes, line_stops, line_ends}
use Rattle.roc_lang_parse.proofs.lexer.line_run.Goals as goal

pub returns-then-byte-eq10 : goal.returns-then-byte-eq10
returns-then-byte-eq10 c = line_stops c.args.bytes.now c.loop-i.i _ c.loop-i-test.true c.if-byte-eq10.true c.loop-i.invariant

pub loop-i-preserved : goal.loop-i-preserved
loop-i-preserved c = line_goes c.args.bytes.now c.loop-i.i _ c.loop-i-test.true c.if-byte-eq10.false c.loop-i.invariant

pub returns : goal.returns
returns c = line_ends c.args.bytes.now c.loop-i.i _ c.loop-i-test.false (omega (arith, c.loop-i.auto.i-end)) c.loop-i.invariant
