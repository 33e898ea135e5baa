use Rattle.std.proofs.Common.{◌≡◌, drop, map}
use Rattle.roc_program.specs.Parts as pure
use Rattle.roc_whole.specs.Serial.{after_inits}
use Rattle.roc_whole.proofs.whole.start_rows.Given as goal

-- the lines that are left, from here, lead where all of them lead from the start
abbrev pub invariant-loop-init : goal.invariant-loop-init
invariant-loop-init l =
    after_inits l.rows.store (map pure.init (drop l.init-index l.init-items)) ≡ after_inits l.initial.rows.store (map pure.init l.init-items)
