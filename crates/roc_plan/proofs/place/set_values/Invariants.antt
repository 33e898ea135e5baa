use Rattle.std.proofs.Common.{◌≡◌, length, drop}
use Rattle.roc_plan.specs.Groups.{with_values}
use Rattle.roc_plan.proofs.place.set_values.Given as goal

-- setting what is left, from here, is setting all from the start
abbrev pub invariant-loop-at : goal.invariant-loop-at
invariant-loop-at l =
    record {
      set : with_values (drop l.at l.names) (drop l.at l.values) l.known ≡ with_values l.names l.values l.fn.known;
      long : length l.known ≡ length l.fn.known;
    }
