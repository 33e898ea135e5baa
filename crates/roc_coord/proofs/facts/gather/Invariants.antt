use Rattle.std.proofs.Common.{◌≡◌, ◌++◌, List, drop}
use Rattle.roc_depgraph.specs.declared.known.KnownList.{KnownList}
use Rattle.roc_msg.specs.Facts.{AreFacts}
use Rattle.roc_coord.specs.Starts.{gathered}
use Rattle.roc_coord.proofs.facts.gather.Given as goal

abbrev pub invariant-loop-at : goal.invariant-loop-at
invariant-loop-at l = record {
  rising : AreFacts l.facts.items;
  items : (rest : List KnownList) → l.initial.facts.items ≡ gathered rest → l.facts.items ≡ gathered (drop l.at l.told ++ rest);
}
