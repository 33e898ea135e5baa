use Rattle.std.proofs.Common.{◌≡◌, ◌+◌, ◌≤◌, take}
use Rattle.std.specs.List.{fold}
use Rattle.roc_lang.specs.Tokens.{line_after}
use Rattle.roc_lang_parse.proofs.parser.last_line.Given as goal

abbrev pub invariant-loop-byte : goal.invariant-loop-byte
invariant-loop-byte l = (l.line ≡ fold line_after 1 (take l.byte-index l.front)) × (l.line ≤ l.byte-index + 1)
