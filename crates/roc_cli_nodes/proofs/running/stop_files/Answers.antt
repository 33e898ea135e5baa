use Rattle.std.proofs.Common.{inl, refl}
use Rattle.roc_cli_words.specs.Commands.{stop}
use Rattle.roc_cli_nodes.proofs.Looping.{stop_ended}
use Rattle.roc_cli_nodes.proofs.Reading.{files_undisked, files_unbooked}
use Rattle.roc_cli_nodes.proofs.running.stop_files.Goals as goal

-- the files were read
pub returns-in-Ok-clause-ends : goal.returns-in-Ok-clause-ends
returns-in-Ok-clause-ends g c words given =
    stop_ended _ _ c.in-Ok.nodes _ c.in-Ok.ensures.untouched c.args.workload.now c.args.cluster.now given c.in-Ok.ensures.held c.in-Ok.ensures.untouched _ c.stop_nodes.ensures.ends

-- they were not
pub returns-in-Err-clause-ends : goal.returns-in-Err-clause-ends
returns-in-Err-clause-ends g c words given = inl (_, (stop _ _, given, refl), c.in-Err.ensures.fails)

pub returns-in-Err-clause-no_disk : goal.returns-in-Err-clause-no_disk
returns-in-Err-clause-no_disk g c = files_undisked _ _ _ _ c.in-Err.fault c.in-Err.ensures.fails

pub returns-in-Err-clause-no_book : goal.returns-in-Err-clause-no_book
returns-in-Err-clause-no_book g c = files_unbooked _ _ _ _ c.in-Err.fault c.in-Err.ensures.fails
