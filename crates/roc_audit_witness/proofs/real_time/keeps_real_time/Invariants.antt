use Rattle.std.proofs.Common.{◌≡◌, drop}
use Rattle.roc_audit_witness.specs.Inner.Tests.{stands_behind}
use Rattle.roc_audit_witness.proofs.real_time.keeps_real_time.Given as goal

-- what is left, from here, says what all of it says from the start
abbrev pub invariant-loop-entry : goal.invariant-loop-entry
invariant-loop-entry l = stands_behind l.order l.latest (drop l.entry-index l.history) ≡ stands_behind l.order 0 l.history
