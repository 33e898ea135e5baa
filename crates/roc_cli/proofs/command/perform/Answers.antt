use Rattle.std.proofs.Common.{inl, refl, sym, ◌∙◌}
use Rattle.roc_cli_nodes.proofs.Named.{needing_named, journal_unnamed, log_unnamed}
use Rattle.roc_cli.proofs.Loading.{launched}
use Rattle.roc_cli.proofs.Faults.{words_refused}
use Rattle.roc_cli.proofs.Counts.{none_counted, unlinked, undisked, unbooked, uncounted}
use Rattle.roc_cli.proofs.command.perform.Goals as goal

-- a command with nodes
pub returns-then-needs_nodes-clause-ends : goal.returns-then-needs_nodes-clause-ends
returns-then-needs_nodes-clause-ends g c = launched _ _ c.launch.ensures.failed (c.launch.ensures.ends _ c.in-Ok.ensures.answers)

pub returns-then-needs_nodes-clause-quiet : goal.returns-then-needs_nodes-clause-quiet
returns-then-needs_nodes-clause-quiet g c none = absurd (none (needing_named _ _ c.in-Ok.ensures.answers (sym c.needs_nodes.ensures ∙ c.if-needs_nodes.true)))

pub returns-then-needs_nodes-clause-untouched : goal.returns-then-needs_nodes-clause-untouched
returns-then-needs_nodes-clause-untouched g c = c.launch.ensures.untouched

pub returns-then-needs_nodes-clause-childless : goal.returns-then-needs_nodes-clause-childless
returns-then-needs_nodes-clause-childless g c = c.launch.ensures.childless

pub returns-then-needs_nodes-clause-failed : goal.returns-then-needs_nodes-clause-failed
returns-then-needs_nodes-clause-failed g c = c.launch.ensures.failed

pub returns-then-needs_nodes-clause-file_faults : goal.returns-then-needs_nodes-clause-file_faults
returns-then-needs_nodes-clause-file_faults g c = c.launch.ensures.file_faults

pub returns-then-needs_nodes-clause-sink_faults : goal.returns-then-needs_nodes-clause-sink_faults
returns-then-needs_nodes-clause-sink_faults g c = c.launch.ensures.sink_faults

pub returns-then-needs_nodes-clause-link_faults : goal.returns-then-needs_nodes-clause-link_faults
returns-then-needs_nodes-clause-link_faults g c = c.launch.ensures.link_faults

pub returns-then-needs_nodes-clause-content : goal.returns-then-needs_nodes-clause-content
returns-then-needs_nodes-clause-content g c = c.launch.ensures.content

pub returns-then-needs_nodes-clause-unspawned : goal.returns-then-needs_nodes-clause-unspawned
returns-then-needs_nodes-clause-unspawned g c = c.launch.ensures.unspawned _ c.in-Ok.ensures.answers

pub returns-then-needs_nodes-clause-disk_faults : goal.returns-then-needs_nodes-clause-disk_faults
returns-then-needs_nodes-clause-disk_faults g c = c.launch.ensures.disk_faults

pub returns-then-needs_nodes-clause-unopened : goal.returns-then-needs_nodes-clause-unopened
returns-then-needs_nodes-clause-unopened g c = c.launch.ensures.unopened

pub returns-then-needs_nodes-clause-unkept : goal.returns-then-needs_nodes-clause-unkept
returns-then-needs_nodes-clause-unkept g c none = c.launch.ensures.unkept (journal_unnamed _ _ c.in-Ok.ensures.answers none)

pub returns-then-needs_nodes-clause-book_faults : goal.returns-then-needs_nodes-clause-book_faults
returns-then-needs_nodes-clause-book_faults g c = c.launch.ensures.book_faults

pub returns-then-needs_nodes-clause-unbegun : goal.returns-then-needs_nodes-clause-unbegun
returns-then-needs_nodes-clause-unbegun g c = c.launch.ensures.unbegun

pub returns-then-needs_nodes-clause-unlogged : goal.returns-then-needs_nodes-clause-unlogged
returns-then-needs_nodes-clause-unlogged g c none = c.launch.ensures.unlogged (log_unnamed _ _ c.in-Ok.ensures.answers none)

-- one without
pub returns-else-needs_nodes-clause-book_faults : goal.returns-else-needs_nodes-clause-book_faults
returns-else-needs_nodes-clause-book_faults g c = unbooked _ _ _ (c.perform_alone.ensures.ends _ c.in-Ok.ensures.answers)

pub returns-else-needs_nodes-clause-unbegun : goal.returns-else-needs_nodes-clause-unbegun
returns-else-needs_nodes-clause-unbegun g c early = refl

pub returns-else-needs_nodes-clause-unlogged : goal.returns-else-needs_nodes-clause-unlogged
returns-else-needs_nodes-clause-unlogged g c none = refl

pub returns-else-needs_nodes-clause-disk_faults : goal.returns-else-needs_nodes-clause-disk_faults
returns-else-needs_nodes-clause-disk_faults g c = undisked _ _ _ (c.perform_alone.ensures.ends _ c.in-Ok.ensures.answers)

pub returns-else-needs_nodes-clause-unopened : goal.returns-else-needs_nodes-clause-unopened
returns-else-needs_nodes-clause-unopened g c early = refl

pub returns-else-needs_nodes-clause-unkept : goal.returns-else-needs_nodes-clause-unkept
returns-else-needs_nodes-clause-unkept g c none = refl

pub returns-else-needs_nodes-clause-unspawned : goal.returns-else-needs_nodes-clause-unspawned
returns-else-needs_nodes-clause-unspawned g c none = refl

pub returns-else-needs_nodes-clause-ends : goal.returns-else-needs_nodes-clause-ends
returns-else-needs_nodes-clause-ends g c = inl (c.perform_alone.ensures.ends _ c.in-Ok.ensures.answers)

pub returns-else-needs_nodes-clause-untouched : goal.returns-else-needs_nodes-clause-untouched
returns-else-needs_nodes-clause-untouched g c early = (refl, refl)

pub returns-else-needs_nodes-clause-quiet : goal.returns-else-needs_nodes-clause-quiet
returns-else-needs_nodes-clause-quiet g c none = (refl, refl)

pub returns-else-needs_nodes-clause-childless : goal.returns-else-needs_nodes-clause-childless
returns-else-needs_nodes-clause-childless g c = none_counted _ _

pub returns-else-needs_nodes-clause-failed : goal.returns-else-needs_nodes-clause-failed
returns-else-needs_nodes-clause-failed g c = c.perform_alone.ensures.failed

pub returns-else-needs_nodes-clause-file_faults : goal.returns-else-needs_nodes-clause-file_faults
returns-else-needs_nodes-clause-file_faults g c = c.perform_alone.ensures.file_faults

pub returns-else-needs_nodes-clause-sink_faults : goal.returns-else-needs_nodes-clause-sink_faults
returns-else-needs_nodes-clause-sink_faults g c = c.perform_alone.ensures.sink_faults

pub returns-else-needs_nodes-clause-content : goal.returns-else-needs_nodes-clause-content
returns-else-needs_nodes-clause-content g c = c.perform_alone.ensures.content

pub returns-else-needs_nodes-clause-link_faults : goal.returns-else-needs_nodes-clause-link_faults
returns-else-needs_nodes-clause-link_faults g c = unlinked _ _ _ (c.perform_alone.ensures.ends _ c.in-Ok.ensures.answers)

-- words that ask for nothing
pub returns-in-Err-clause-unspawned : goal.returns-in-Err-clause-unspawned
returns-in-Err-clause-unspawned g c none = refl

pub returns-in-Err-clause-ends : goal.returns-in-Err-clause-ends
returns-in-Err-clause-ends g c = words_refused _ c.in-Err.fault _ c.refusal.ensures.is refl c.in-Err.ensures.answers

pub returns-in-Err-clause-untouched : goal.returns-in-Err-clause-untouched
returns-in-Err-clause-untouched g c early = (refl, refl)

pub returns-in-Err-clause-quiet : goal.returns-in-Err-clause-quiet
returns-in-Err-clause-quiet g c none = (refl, refl)

pub returns-in-Err-clause-childless : goal.returns-in-Err-clause-childless
returns-in-Err-clause-childless g c = tt

pub returns-in-Err-clause-failed : goal.returns-in-Err-clause-failed
returns-in-Err-clause-failed g c = c.refusal.ensures.failed _

pub returns-in-Err-clause-file_faults : goal.returns-in-Err-clause-file_faults
returns-in-Err-clause-file_faults g c = uncounted _ _ c.refusal.ensures.no_file

pub returns-in-Err-clause-sink_faults : goal.returns-in-Err-clause-sink_faults
returns-in-Err-clause-sink_faults g c = uncounted _ _ c.refusal.ensures.no_sink

pub returns-in-Err-clause-link_faults : goal.returns-in-Err-clause-link_faults
returns-in-Err-clause-link_faults g c = uncounted _ _ c.refusal.ensures.no_link

pub returns-in-Err-clause-content : goal.returns-in-Err-clause-content
returns-in-Err-clause-content g c name = refl

pub returns-in-Err-clause-disk_faults : goal.returns-in-Err-clause-disk_faults
returns-in-Err-clause-disk_faults g c = uncounted _ _ c.refusal.ensures.no_disk

pub returns-in-Err-clause-unopened : goal.returns-in-Err-clause-unopened
returns-in-Err-clause-unopened g c early = refl

pub returns-in-Err-clause-unkept : goal.returns-in-Err-clause-unkept
returns-in-Err-clause-unkept g c none = refl

pub returns-in-Err-clause-book_faults : goal.returns-in-Err-clause-book_faults
returns-in-Err-clause-book_faults g c = uncounted _ _ c.refusal.ensures.no_book

pub returns-in-Err-clause-unbegun : goal.returns-in-Err-clause-unbegun
returns-in-Err-clause-unbegun g c early = refl

pub returns-in-Err-clause-unlogged : goal.returns-in-Err-clause-unlogged
returns-in-Err-clause-unlogged g c none = refl
