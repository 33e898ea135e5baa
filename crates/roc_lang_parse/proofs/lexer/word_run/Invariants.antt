use Rattle.std.proofs.Common.{◌≡◌, ◌+◌, drop}
use Rattle.roc_lang_parse.specs.Scanning.{word_run}
use Rattle.roc_lang_parse.proofs.lexer.word_run.Given as goal

abbrev pub invariant-loop-i : goal.invariant-loop-i
invariant-loop-i l = l.i + word_run (drop l.i l.bytes) ≡ word_run l.bytes
