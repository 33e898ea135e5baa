use Rattle.std.proofs.Common.{refl}
use Rattle.roc_cli.proofs.Fits.{fitting}
use Rattle.roc_cli.proofs.Told.{fault_answers}
use Rattle.roc_cli.proofs.Finished.{done_answers}
use Rattle.roc_cli.proofs.Counts.{file_counted, sink_counted, link_counted, disk_counted, book_counted, quiet_done, quiet_told, unkept_done, unkept_told, unlogged_done, unlogged_told}
use Rattle.roc_cli.proofs.command.run.Goals as goal

pub returns-in-Ok-clause-answers : goal.returns-in-Ok-clause-answers
returns-in-Ok-clause-answers g c = done_answers _ _ (fitting c.texts_keep_laws.ensures _) c.in-Ok.ensures.ends c.in-Ok.ensures.failed c.in-Ok.ensures.childless

pub returns-in-Err-clause-answers : goal.returns-in-Err-clause-answers
returns-in-Err-clause-answers g c = fault_answers _ _ c.in-Err.fault _ (fitting c.texts_keep_laws.ensures _) c.in-Err.ensures.ends c.in-Err.ensures.failed c.tell.ensures.told

pub returns-in-Err-clause-quiet : goal.returns-in-Err-clause-quiet
returns-in-Err-clause-quiet g c = quiet_told _ c.in-Err.fault _ _ _ c.tell.ensures.told c.in-Err.ensures.quiet c.in-Err.ensures.untouched

pub returns-in-Ok-clause-silent : goal.returns-in-Ok-clause-silent
returns-in-Ok-clause-silent g c below = refl

pub returns-in-Ok-clause-unsaid : goal.returns-in-Ok-clause-unsaid
returns-in-Ok-clause-unsaid g c e = refl

pub returns-in-Ok-clause-file_faults : goal.returns-in-Ok-clause-file_faults
returns-in-Ok-clause-file_faults g c = c.in-Ok.ensures.file_faults

pub returns-in-Ok-clause-sink_faults : goal.returns-in-Ok-clause-sink_faults
returns-in-Ok-clause-sink_faults g c = c.in-Ok.ensures.sink_faults

pub returns-in-Ok-clause-link_faults : goal.returns-in-Ok-clause-link_faults
returns-in-Ok-clause-link_faults g c = c.in-Ok.ensures.link_faults

pub returns-in-Ok-clause-content : goal.returns-in-Ok-clause-content
returns-in-Ok-clause-content g c = c.in-Ok.ensures.content

pub returns-in-Ok-clause-quiet : goal.returns-in-Ok-clause-quiet
returns-in-Ok-clause-quiet g c = quiet_done _ _ c.in-Ok.ensures.quiet

pub returns-in-Err-clause-silent : goal.returns-in-Err-clause-silent
returns-in-Err-clause-silent g c = c.tell.ensures.silent

pub returns-in-Err-clause-unsaid : goal.returns-in-Err-clause-unsaid
returns-in-Err-clause-unsaid g c = c.tell.ensures.unsaid

pub returns-in-Err-clause-file_faults : goal.returns-in-Err-clause-file_faults
returns-in-Err-clause-file_faults g c = file_counted c.in-Err.fault _ _ _ _ c.tell.ensures.told c.in-Err.ensures.file_faults

pub returns-in-Err-clause-sink_faults : goal.returns-in-Err-clause-sink_faults
returns-in-Err-clause-sink_faults g c = sink_counted c.in-Err.fault _ _ _ _ c.tell.ensures.told c.in-Err.ensures.sink_faults

pub returns-in-Err-clause-link_faults : goal.returns-in-Err-clause-link_faults
returns-in-Err-clause-link_faults g c = link_counted c.in-Err.fault _ _ _ _ c.tell.ensures.told c.in-Err.ensures.link_faults

pub returns-in-Err-clause-content : goal.returns-in-Err-clause-content
returns-in-Err-clause-content g c = c.in-Err.ensures.content

pub returns-in-Ok-clause-unspawned : goal.returns-in-Ok-clause-unspawned
returns-in-Ok-clause-unspawned g c = c.in-Ok.ensures.unspawned

pub returns-in-Err-clause-unspawned : goal.returns-in-Err-clause-unspawned
returns-in-Err-clause-unspawned g c = c.in-Err.ensures.unspawned

pub returns-in-Ok-clause-disk_faults : goal.returns-in-Ok-clause-disk_faults
returns-in-Ok-clause-disk_faults g c = c.in-Ok.ensures.disk_faults

pub returns-in-Err-clause-disk_faults : goal.returns-in-Err-clause-disk_faults
returns-in-Err-clause-disk_faults g c = disk_counted c.in-Err.fault _ _ _ _ c.tell.ensures.told c.in-Err.ensures.disk_faults

pub returns-in-Ok-clause-undisked : goal.returns-in-Ok-clause-undisked
returns-in-Ok-clause-undisked g c = unkept_done _ _ c.in-Ok.ensures.unkept

pub returns-in-Err-clause-undisked : goal.returns-in-Err-clause-undisked
returns-in-Err-clause-undisked g c = unkept_told _ c.in-Err.fault _ _ _ c.tell.ensures.told c.in-Err.ensures.unkept c.in-Err.ensures.unopened

pub returns-in-Ok-clause-unexplained : goal.returns-in-Ok-clause-unexplained
returns-in-Ok-clause-unexplained g c e = refl

pub returns-in-Err-clause-unexplained : goal.returns-in-Err-clause-unexplained
returns-in-Err-clause-unexplained g c = c.tell.ensures.unexplained

pub returns-in-Ok-clause-book_faults : goal.returns-in-Ok-clause-book_faults
returns-in-Ok-clause-book_faults g c = c.in-Ok.ensures.book_faults

pub returns-in-Err-clause-book_faults : goal.returns-in-Err-clause-book_faults
returns-in-Err-clause-book_faults g c = book_counted c.in-Err.fault _ _ _ _ c.tell.ensures.told c.in-Err.ensures.book_faults

pub returns-in-Ok-clause-unbooked : goal.returns-in-Ok-clause-unbooked
returns-in-Ok-clause-unbooked g c = unlogged_done _ _ c.in-Ok.ensures.unlogged

pub returns-in-Err-clause-unbooked : goal.returns-in-Err-clause-unbooked
returns-in-Err-clause-unbooked g c = unlogged_told _ c.in-Err.fault _ _ _ c.tell.ensures.told c.in-Err.ensures.unlogged c.in-Err.ensures.unbegun
