use Rattle.std.proofs.Common.{◌≡◌, drop}
use Rattle.roc_lang_parse.specs.Scanning.{value_from}
use Rattle.roc_lang_parse.proofs.lexer.value_from.Given as goal

abbrev pub invariant-loop-byte : goal.invariant-loop-byte
invariant-loop-byte l = value_from l.value (drop l.byte-index l.bytes) ≡ value_from l.first l.bytes
