use Rattle.std.proofs.Common.{◌≡◌, true, false, get_or, arith}
use Rattle.roc_lang.specs.Tokens.{is_word_byte}
use Rattle.roc_lang_parse.proofs.Runs.{run_goes, run_stops, run_ends}
use Rattle.roc_lang_parse.proofs.lexer.word_run.Goals as goal

pub returns-then-not-is_word_byte : goal.returns-then-not-is_word_byte
returns-then-not-is_word_byte c =
    let e : is_word_byte (get_or c.args.bytes.now c.loop-i.i 0) ≡ false = cc c.if-not-is_word_byte.ensures in
    run_stops c.args.bytes.now c.loop-i.i _ c.loop-i-test.true e c.loop-i.invariant

pub loop-i-preserved : goal.loop-i-preserved
loop-i-preserved c =
    let e : is_word_byte (get_or c.args.bytes.now c.loop-i.i 0) ≡ true = cc c.if-not-is_word_byte.ensures in
    run_goes c.args.bytes.now c.loop-i.i _ c.loop-i-test.true e c.loop-i.invariant

pub returns : goal.returns
returns c = run_ends c.args.bytes.now c.loop-i.i _ c.loop-i-test.false (omega (arith, c.loop-i.auto.i-end)) c.loop-i.invariant
