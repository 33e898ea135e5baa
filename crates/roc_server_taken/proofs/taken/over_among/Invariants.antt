use Rattle.roc_server_taken.proofs.taken.over_among.Given as goal

abbrev pub ghosts-over_with : goal.ghosts-over_with
ghosts-over_with a = record { name = a.blank.name; parts = a.blank.parts }
