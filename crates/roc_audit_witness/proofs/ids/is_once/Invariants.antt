use Rattle.std.proofs.Common.{◌≡◌, [], take, drop}
use Rattle.roc_audit_witness.specs.Inner.Tests.{repeats_none}
use Rattle.roc_audit_witness.proofs.ids.is_once.Given as goal

abbrev pub invariant-loop-i : goal.invariant-loop-i
invariant-loop-i l = repeats_none (take l.i l.ids) (drop l.i l.ids) ≡ repeats_none [] l.ids
