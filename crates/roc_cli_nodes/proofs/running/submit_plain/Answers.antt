-- The coordinator ended so, and that is told
use Rattle.std.proofs.Common.{ap}
use Rattle.roc_book.specs.Call.{book_view}
use Rattle.roc_cli_nodes.proofs.Telling.{submit_told, unnamed}
use Rattle.roc_cli_nodes.proofs.Reading.{caused}
use Rattle.roc_cli_nodes.proofs.running.submit_plain.Goals as goal

pub returns-clause-ends : goal.returns-clause-ends
returns-clause-ends g c =
    submit_told _ _ _ _ _ _ _ _ _ _ _ c.deref.ensures.value c.name_of.ensures c.submit_all-end.ensures.submits
    c.submission_told.ensures.told

pub returns-clause-unlogged : goal.returns-clause-unlogged
returns-clause-unlogged g c none = ap (book_view g.B.Book) (c.submit_all-end.ensures.book_stays (unnamed _ _ none))

pub returns-clause-sink_faults : goal.returns-clause-sink_faults
returns-clause-sink_faults g c = caused _ _ _ _ c.submission_told.ensures.sink c.submit_all-end.ensures.sink_cause

pub returns-clause-link_faults : goal.returns-clause-link_faults
returns-clause-link_faults g c = caused _ _ _ _ c.submission_told.ensures.link c.submit_all-end.ensures.link_cause

pub returns-clause-book_faults : goal.returns-clause-book_faults
returns-clause-book_faults g c = caused _ _ _ _ c.submission_told.ensures.book c.submit_all-end.ensures.book_cause
