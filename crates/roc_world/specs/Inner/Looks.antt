-- Looks as the code has them
use Rattle.roc_audit.specs.Woven as woven
use Rattle.roc_world.specs.declared.looks.Look.{Look}

abbrev pub looked : Look → woven.Look
looked l = record { id = l.id; behind = l.behind }
