use Rattle.roc_test_cores.proofs.servers.precede.Given as goal

abbrev pub ghosts-counted_entries : goal.ghosts-counted_entries
ghosts-counted_entries a = record { name = a.blank.name; parts = a.blank.parts }
