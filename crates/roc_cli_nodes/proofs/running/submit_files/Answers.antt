use Rattle.std.proofs.Common.{inl, refl}
use Rattle.roc_cli_words.specs.Commands.{submit}
use Rattle.roc_cli_nodes.proofs.Looping.{submit_ended, next_is_grown, submit_held, submit_fails}
use Rattle.roc_cli_nodes.proofs.Reading.{caused, files_undisked, files_unbooked}
use Rattle.roc_cli_nodes.proofs.running.submit_files.Goals as goal

-- what the workload grows to is a grown one
pub submit_nodes-requires-clause-grown : goal.submit_nodes-requires-clause-grown
submit_nodes-requires-clause-grown g c = next_is_grown _ _ c.in-Ok.nodes c.in-Ok.ensures.held

-- the files were read
pub returns-in-Ok-clause-ends : goal.returns-in-Ok-clause-ends
returns-in-Ok-clause-ends g c words given =
    submit_ended _ _ c.in-Ok.nodes _ c.in-Ok.ensures.untouched c.args.asked.workload.now c.args.asked.cluster.now c.args.asked.requests.now c.args.asked.turns c.args.asked.coord _ _ _
    c.requires.alone given (submit_held _ _ _ _ _ _ _ c.next_of.ensures c.requests_behind.ensures c.in-Ok.nodes c.in-Ok.ensures.held) _ c.submit_nodes.ensures.ends

-- they were not
pub returns-in-Err-clause-ends : goal.returns-in-Err-clause-ends
returns-in-Err-clause-ends g c words given =
    inl (
      _,
      (submit _ _ _ _ _ _ _, given, refl),
      submit_fails _ _ _ _ _ _ _ c.next_of.ensures c.requests_behind.ensures _ _ c.in-Err.fault c.in-Err.ensures.fails,
    )

pub returns-in-Err-clause-no_disk : goal.returns-in-Err-clause-no_disk
returns-in-Err-clause-no_disk g c = files_undisked _ _ _ _ c.in-Err.fault c.in-Err.ensures.fails

pub returns-in-Err-clause-book_faults : goal.returns-in-Err-clause-book_faults
returns-in-Err-clause-book_faults g c = caused _ _ _ _ (files_unbooked _ _ _ _ c.in-Err.fault c.in-Err.ensures.fails) refl
