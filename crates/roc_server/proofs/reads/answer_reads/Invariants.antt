use Rattle.roc_server.proofs.reads.answer_reads.Given as goal

abbrev pub ghosts-answer_by_ledger : goal.ghosts-answer_by_ledger
ghosts-answer_by_ledger a = record { name = a.blank.name; parts = a.blank.parts }
