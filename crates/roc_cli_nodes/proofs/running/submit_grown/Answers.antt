-- The coordinator ended so, and that is told
use Rattle.std.proofs.Common.{◌∙◌}
use Rattle.roc_cli_nodes.proofs.Telling.{grown_submit_told}
use Rattle.roc_cli_nodes.proofs.Reading.{caused}
use Rattle.roc_cli_nodes.proofs.running.submit_grown.Goals as goal

pub returns-clause-ends : goal.returns-clause-ends
returns-clause-ends g c =
    grown_submit_told _ _ _ _ _ _ _ _ _ _ c.deref.ensures.value c.deref-2.ensures.value c.submit_growing-end.ensures.submits c.submission_told.ensures.told

pub returns-clause-sink_faults : goal.returns-clause-sink_faults
returns-clause-sink_faults g c = caused _ _ _ _ c.submission_told.ensures.sink c.submit_growing-end.ensures.sink_cause

pub returns-clause-link_faults : goal.returns-clause-link_faults
returns-clause-link_faults g c = caused _ _ _ _ c.submission_told.ensures.link c.submit_growing-end.ensures.link_cause

pub returns-clause-no_book : goal.returns-clause-no_book
returns-clause-no_book g c = c.submission_told.ensures.book ∙ c.submit_growing-end.ensures.unlogged
