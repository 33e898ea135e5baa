-- what is left, put in from here on, comes to the whole
use Rattle.std.proofs.Common.{◌≡◌, ◌≤◌, ◌++◌, length, map, drop}
use Rattle.roc_audit.specs.Woven.{woven}
use Rattle.roc_world.specs.Inner.Looks.{looked}
use Rattle.roc_world.proofs.witness.weave.Given as goal

abbrev pub invariant-loop-look : goal.invariant-loop-look
invariant-loop-look l = record {
  within : l.taken ≤ length l.order;
  left : l.ids.items ++ woven l.taken (drop l.taken l.order) (map looked (drop l.look-index l.looks)) ≡ woven 0 l.order (map looked l.looks);
}
