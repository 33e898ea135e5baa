use Rattle.roc_replay.proofs.OwnCells.{ReadLaws}
use Rattle.roc_replay.proofs.NamedParts.{report_parts}
use Rattle.roc_replay.proofs.laws.lines_name_parts.Goals as goal

pub returns : goal.returns
returns c plan next coords steps w accepted of run =
    let laws : ReadLaws = record { nothing = c.reads_after_writes.ensures.empty; other = c.reads_after_writes.ensures.other } in
    report_parts plan next laws c.entries_are_not_zero.ensures.exactly accepted of coords steps w run
