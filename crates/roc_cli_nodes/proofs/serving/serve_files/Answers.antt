use Rattle.std.proofs.Common.{inl, refl}
use Rattle.roc_cli_words.specs.Commands.{serve}
use Rattle.roc_cli_nodes.proofs.Looping.{serve_ended}
use Rattle.roc_cli_nodes.proofs.Reading.{caused, files_undisked, files_unbooked}
use Rattle.roc_cli_nodes.proofs.serving.serve_files.Goals as goal

-- the files were read
pub returns-in-Ok-clause-ends : goal.returns-in-Ok-clause-ends
returns-in-Ok-clause-ends g c words given =
    serve_ended _ _ c.in-Ok.nodes _ c.in-Ok.ensures.untouched c.args.asked.workload.now c.args.asked.cluster.now _ _ c.args.asked.shard c.args.asked.turns c.args.asked.counts _ _ _
    c.requires.alone given c.in-Ok.ensures.held _ c.serve_nodes.ensures.ends

-- they were not
pub returns-in-Err-clause-ends : goal.returns-in-Err-clause-ends
returns-in-Err-clause-ends g c words given = inl (_, (serve _ _ _ _ _ _ _ _, given, refl), c.in-Err.ensures.fails)

pub returns-in-Err-clause-disk_faults : goal.returns-in-Err-clause-disk_faults
returns-in-Err-clause-disk_faults g c = caused _ _ _ _ (files_undisked _ _ _ _ c.in-Err.fault c.in-Err.ensures.fails) refl

pub returns-in-Err-clause-book_faults : goal.returns-in-Err-clause-book_faults
returns-in-Err-clause-book_faults g c = caused _ _ _ _ (files_unbooked _ _ _ _ c.in-Err.fault c.in-Err.ensures.fails) refl
