use Rattle.std.proofs.Common.{◌≡◌, drop}
use Rattle.std.specs.List.{flat_map}
use Rattle.roc_msg.specs.Facts.{AreFacts}
use Rattle.roc_coord.specs.Starts.{gathered}
use Rattle.roc_coord.proofs.facts.gathered.Given as goal

abbrev pub invariant-loop-at : goal.invariant-loop-at
invariant-loop-at l = record {
  rising : AreFacts l.facts.items;
  items : l.facts.items ≡ gathered (flat_map (λ ok. ok.facts) (drop l.at l.startoks));
}
