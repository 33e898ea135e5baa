use Rattle.std.proofs.Common.{◌≡◌, ◌+◌, drop}
use Rattle.roc_lang_parse.specs.Scanning.{line_run}
use Rattle.roc_lang_parse.proofs.lexer.line_run.Given as goal

abbrev pub invariant-loop-i : goal.invariant-loop-i
invariant-loop-i l = l.i + line_run (drop l.i l.bytes) ≡ line_run l.bytes
