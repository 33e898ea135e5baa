use Rattle.std.proofs.Common.{◌≡◌, ◌≤◌, map, take, length}
use Rattle.roc_epoch.proofs.growth.is_front.Given as goal

-- those looked at so far are of one text
abbrev pub invariant-loop-at : goal.invariant-loop-at
invariant-loop-at g l = record {
  lengths : length l.front ≤ length l.whole;
  so_far : map g.T.Part.text (take l.at l.front) ≡ map g.T.Part.text (take l.at l.whole);
}
