-- What a server node counts: docs/PROTOCOL.md, "Running nodes". A count stays at its last value, which no run of turns reaches
use Rattle.roc_io.specs.Cause.{one_more}
use Rattle.roc_msg.specs.declared.reason.Reason.{Reason}
use Rattle.roc_msg.specs.declared.reason.Reason.TheVariants.{Foreign, BadProc, BadGroup, BadInputs, NotHere, Late, Differs, Stale, Unfit}
use Rattle.roc_wire.specs.declared.fault.WireFault.TheVariants.{Short, Magic, Version, Kind, Count, Order, Rest, NoMemory}
use Rattle.roc_node.specs.declared.judging.Skip.{Skip}
use Rattle.roc_node.specs.declared.judging.Skip.TheVariants.{Fault, Tag}
use Rattle.roc_node.specs.declared.counts.SkipCounts.{SkipCounts}
use Rattle.roc_node.specs.declared.counts.IgnoreCounts.{IgnoreCounts}
use Rattle.roc_node.specs.declared.counts.Counts.{Counts}

abbrev pub no_skips : SkipCounts
no_skips = record { short = 0; magic = 0; version = 0; kind = 0; count = 0; order = 0; rest = 0; tag = 0 }

abbrev pub no_ignores : IgnoreCounts
no_ignores = record { foreign = 0; bad_proc = 0; bad_group = 0; bad_inputs = 0; not_here = 0; late = 0; differs = 0; stale = 0; unfit = 0 }

abbrev pub no_counts : Counts
no_counts = record { taken = 0; skipped = 0; skips = no_skips; ignores = no_ignores }

-- a datagram more was skipped for this. No bytes are a fault of memory
abbrev pub one_skip_more : SkipCounts → Skip → SkipCounts
one_skip_more c (Fault Short) = record c { short = one_more c.short }
one_skip_more c (Fault Magic) = record c { magic = one_more c.magic }
one_skip_more c (Fault Version) = record c { version = one_more c.version }
one_skip_more c (Fault Kind) = record c { kind = one_more c.kind }
one_skip_more c (Fault Count) = record c { count = one_more c.count }
one_skip_more c (Fault Order) = record c { order = one_more c.order }
one_skip_more c (Fault Rest) = record c { rest = one_more c.rest }
one_skip_more c (Fault NoMemory) = c
one_skip_more c Tag = record c { tag = one_more c.tag }

-- a message more was ignored for this reason
abbrev pub one_ignore_more : IgnoreCounts → Reason → IgnoreCounts
one_ignore_more c Foreign = record c { foreign = one_more c.foreign }
one_ignore_more c BadProc = record c { bad_proc = one_more c.bad_proc }
one_ignore_more c BadGroup = record c { bad_group = one_more c.bad_group }
one_ignore_more c BadInputs = record c { bad_inputs = one_more c.bad_inputs }
one_ignore_more c NotHere = record c { not_here = one_more c.not_here }
one_ignore_more c Late = record c { late = one_more c.late }
one_ignore_more c Differs = record c { differs = one_more c.differs }
one_ignore_more c Stale = record c { stale = one_more c.stale }
one_ignore_more c Unfit = record c { unfit = one_more c.unfit }

abbrev pub with_skip : Counts → Skip → Counts
with_skip c skip = record c { skipped = one_more c.skipped; skips = one_skip_more c.skips skip }

-- a delivery more was taken
abbrev pub with_taken : Counts → Counts
with_taken c = record c { taken = one_more c.taken }
