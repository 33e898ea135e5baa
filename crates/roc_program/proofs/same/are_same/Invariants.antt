use Rattle.std.proofs.Common.{◌≡◌, map, take, length}
use Rattle.roc_program.proofs.same.are_same.Given as goal

-- those looked at so far are of one text
abbrev pub invariant-loop-at : goal.invariant-loop-at
invariant-loop-at g l = record {
  lengths : length l.some ≡ length l.others;
  so_far : map g.T.Compared.text (take l.at l.some) ≡ map g.T.Compared.text (take l.at l.others);
}
