use Rattle.roc_law_orders.proofs.Serial.{real, follows}
use Rattle.roc_law_orders.proofs.laws.serial_runs_follow.Goals as goal

pub returns-clause-real : goal.returns-clause-real
returns-clause-real c B O lawful once = real B lawful O once

pub returns-clause-follows : goal.returns-clause-follows
returns-clause-follows c B start O lawful once = follows B lawful O once start
