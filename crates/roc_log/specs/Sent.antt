-- The lines of what a node sends: docs/FORMATS.md, "Logs"
use Rattle.std.specs.Prelude.{List, map, filter}
use Rattle.roc_msg.specs.declared.outbox.Outgoing.{Outgoing}
use Rattle.roc_wire.specs.declared.header.Header.{Header}
use Rattle.roc_wire.specs.Spelling.{spelling}
use Rattle.roc_log.specs.declared.line.LogLine.{LogLine}
use Rattle.roc_log.specs.declared.line.LogLine.TheVariants.{Out}
use Rattle.roc_log.specs.Spellable.{has_spelling}

-- one line for each message that has a spelling, in order, also for one that goes nowhere
abbrev pub outs_logged : Header → List Outgoing → List LogLine
outs_logged header outs = map (λ out. Out (spelling header out.msg)) (filter (λ out. has_spelling out.msg) outs)
