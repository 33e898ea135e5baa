use Rattle.roc_server.proofs.started_now.edges_of.Given as goal

abbrev pub ghosts-edges_for : goal.ghosts-edges_for
ghosts-edges_for a = record { name = a.blank.name; parts = a.blank.parts }
