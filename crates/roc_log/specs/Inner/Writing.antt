-- What private functions add to a text
use Rattle.std.specs.Prelude.{ℕ, List, [], ◌∷◌, ◌++◌, codes, if◌then◌else◌}
use Rattle.hex.specs.Hex.{encode_lower}
use Rattle.roc_msg.specs.declared.outbox.Outgoing.{Outgoing}
use Rattle.roc_wire.specs.declared.header.Header.{Header}
use Rattle.roc_wire.specs.Spelling.{spelling}
use Rattle.roc_log.specs.LogLine.{spaced}
use Rattle.roc_log.specs.Spellable.{has_spelling}

-- the line of a message, if it has a spelling
abbrev pub out_text : Header → Outgoing → List ℕ
out_text header out = if has_spelling out.msg then spaced (codes "out") (encode_lower (spelling header out.msg) ∷ []) ++ 10 ∷ [] else []
