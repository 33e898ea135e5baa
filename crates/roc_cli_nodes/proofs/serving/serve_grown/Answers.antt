-- The server ended so, and that is told
use Rattle.std.proofs.Common.{◌∙◌}
use Rattle.roc_cli_nodes.proofs.Telling.{grown_serve_told, no_journal_no_disk}
use Rattle.roc_cli_nodes.proofs.Reading.{caused}
use Rattle.roc_cli_nodes.proofs.serving.serve_grown.Goals as goal

pub returns-clause-ends : goal.returns-clause-ends
returns-clause-ends g c own address = grown_serve_told _ _ own _ _ _ _ _ (c.serve_growing-end.ensures.serves own address) c.told.ensures.told

pub returns-clause-late : goal.returns-clause-late
returns-clause-late g c = c.told.ensures.refused ∙ (no_journal_no_disk _ c.serve_growing-end.ensures.unkept).0

pub returns-clause-early : goal.returns-clause-early
returns-clause-early g c = c.told.ensures.late

pub returns-clause-sink_faults : goal.returns-clause-sink_faults
returns-clause-sink_faults g c = caused _ _ _ _ c.told.ensures.sink c.serve_growing-end.ensures.sink_cause

pub returns-clause-link_faults : goal.returns-clause-link_faults
returns-clause-link_faults g c = caused _ _ _ _ c.told.ensures.link c.serve_growing-end.ensures.link_cause

pub returns-clause-no_disk : goal.returns-clause-no_disk
returns-clause-no_disk g c = c.told.ensures.disk ∙ (no_journal_no_disk _ c.serve_growing-end.ensures.unkept).1

pub returns-clause-no_book : goal.returns-clause-no_book
returns-clause-no_book g c = c.told.ensures.book ∙ c.serve_growing-end.ensures.unlogged
