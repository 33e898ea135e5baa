use Rattle.std.proofs.Common.{◌≡◌, ◌≤◌, ◌++◌, ◌-◌, length, pos, replicate}
use Rattle.roc_whole.proofs.whole.start_names.Given as goal

-- a 0 for each name that was passed, and none past the last
abbrev pub invariant-loop : goal.invariant-loop
invariant-loop l = record {
  zeros : l.names.items ≡ l.args ++ replicate (l.counter - length l.args) (pos 0);
  within : l.counter - length l.args ≤ l.procedure.names - length l.args;
}
