use Rattle.std.proofs.Common.{◌≡◌, ◌++◌, map, drop}
use Rattle.roc_depgraph.specs.Deps.{entries_of}
use Rattle.roc_msg.specs.Facts.{front_of_facts}
use Rattle.roc_step.specs.Piggyback.{facts_of}
use Rattle.roc_server_news.proofs.ToldFacts.{AreBehind}
use Rattle.roc_server_news.proofs.told.facts_of.Given as goal

abbrev pub invariant-loop-id : goal.invariant-loop-id
invariant-loop-id l = record {
  whole : facts_of l.table.known l.ids ≡ l.facts ++ front_of_facts l.room l.left (map (λ u. record { of = u; edges = entries_of l.table.known u }) (drop l.id-index l.ids));
  behind : AreBehind l.facts (drop l.id-index l.ids);
}
