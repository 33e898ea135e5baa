-- The lines that nodes write besides those of reports: docs/FORMATS.md, "Lines of nodes"
use Rattle.std.specs.Prelude.{ℕ, Bool, nat_lt, List, [], ◌∷◌, ◌++◌, codes, if◌then◌else◌}
use Rattle.std.specs.List.{flat_map}
use Rattle.std.specs.Fmt.{decimal}
use Rattle.roc_base.specs.declared.node.Shard.{Shard}
use Rattle.roc_base.specs.TxnId.{txn_text}
use Rattle.roc_msg.specs.Reason.{reason_text}
use Rattle.roc_msg.specs.declared.reason.Reason.TheVariants as reason
use Rattle.roc_wire.specs.Fault.{fault_text}
use Rattle.roc_wire.specs.declared.fault.WireFault.TheVariants as fault
use Rattle.roc_report.specs.Text.{spaced}
use Rattle.roc_node.specs.declared.judging.Skip.{Skip}
use Rattle.roc_node.specs.declared.judging.Skip.TheVariants.{Fault, Tag}
use Rattle.roc_node.specs.declared.counts.SkipCounts.{SkipCounts}
use Rattle.roc_node.specs.declared.counts.IgnoreCounts.{IgnoreCounts}
use Rattle.roc_node.specs.declared.counts.Counts.{Counts}
use Rattle.roc_node.specs.declared.lines.NodeLine.{NodeLine}
use Rattle.roc_node.specs.declared.lines.NodeLine.TheVariants.{Serving, EndServe, Skipped, Ignored, Unanswered, EndSubmit}

abbrev pub skip_text : Skip → List ℕ
skip_text (Fault fault) = fault_text fault
skip_text Tag = codes "tag"

-- what ended the turns of a server
abbrev pub ender_text : Bool → List ℕ
ender_text stopped = if stopped then codes "stop" else codes "turns"

-- a line without its end
abbrev pub node_line_words : NodeLine → List ℕ
node_line_words (Serving shard) = codes "serving " ++ decimal shard.0
node_line_words (EndServe shard stopped taken skipped) = codes "end " ++ decimal shard.0 ++ spaced (ender_text stopped) ++ codes " taken " ++ decimal taken ++ codes " skipped " ++ decimal skipped
node_line_words (Skipped skip count) = codes "skipped " ++ skip_text skip ++ spaced (decimal count)
node_line_words (Ignored reason count) = codes "ignored " ++ reason_text reason ++ spaced (decimal count)
node_line_words (Unanswered id) = codes "unanswered " ++ txn_text id
node_line_words (EndSubmit answered unanswered unsubmitted) =
    codes "end " ++ decimal answered ++ codes " answered " ++ decimal unanswered ++ codes " unanswered " ++ decimal unsubmitted ++ codes " unsubmitted"

-- a line, which ends with a line feed
abbrev pub node_line_text : NodeLine → List ℕ
node_line_text line = node_line_words line ++ 10 ∷ []

abbrev pub node_lines_text : List NodeLine → List ℕ
node_lines_text lines = flat_map node_line_text lines

-- ---- the lines of counts

-- a line, where the count in it is not 0
abbrev pub where_some : ℕ → NodeLine → List NodeLine
where_some count line = if nat_lt 0 count then line ∷ [] else []

-- in the order of the faults of a datagram, the tag last
abbrev pub skip_lines : SkipCounts → List NodeLine
skip_lines c =
    where_some c.short (Skipped (Fault fault.Short) c.short)
    ++ where_some c.magic (Skipped (Fault fault.Magic) c.magic)
    ++ where_some c.version (Skipped (Fault fault.Version) c.version)
    ++ where_some c.kind (Skipped (Fault fault.Kind) c.kind)
    ++ where_some c.count (Skipped (Fault fault.Count) c.count)
    ++ where_some c.order (Skipped (Fault fault.Order) c.order)
    ++ where_some c.rest (Skipped (Fault fault.Rest) c.rest)
    ++ where_some c.tag (Skipped Tag c.tag)

-- in the order in which reasons to ignore a message are judged
abbrev pub ignore_lines : IgnoreCounts → List NodeLine
ignore_lines c =
    where_some c.foreign (Ignored reason.Foreign c.foreign)
    ++ where_some c.bad_proc (Ignored reason.BadProc c.bad_proc)
    ++ where_some c.bad_group (Ignored reason.BadGroup c.bad_group)
    ++ where_some c.bad_inputs (Ignored reason.BadInputs c.bad_inputs)
    ++ where_some c.not_here (Ignored reason.NotHere c.not_here)
    ++ where_some c.late (Ignored reason.Late c.late)
    ++ where_some c.differs (Ignored reason.Differs c.differs)
    ++ where_some c.stale (Ignored reason.Stale c.stale)
    ++ where_some c.unfit (Ignored reason.Unfit c.unfit)

abbrev pub count_lines : Counts → List NodeLine
count_lines c = skip_lines c.skips ++ ignore_lines c.ignores

-- the lines at the end of a server's turns; those of its counts only where they were asked for
abbrev pub end_lines : Shard → (stopped : Bool) → (counts : Bool) → Counts → List NodeLine
end_lines shard stopped counts c = EndServe shard stopped c.taken c.skipped ∷ (if counts then count_lines c else [])
