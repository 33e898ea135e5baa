use Rattle.std.proofs.Common.{◌≡◌, true, List, [], ◌∷◌, ◌++◌, rules, sym, subst}
use Rattle.std.proofs.lemmas.Bool.{and_parts}
use Rattle.std.specs.List.{list_all, AllByRecursion}
use Rattle.roc_sequence.proofs.Rising.{rising_more}
use Rattle.roc_base.specs.declared.id.TxnId.{TxnId}
use Rattle.roc_base.specs.TxnId.{txn_lt}
use Rattle.roc_depgraph.specs.declared.known.KnownList.{KnownList}
use Rattle.roc_msg.specs.Facts.{is_fact_before, AreFacts, is_behind_facts}
use Rattle.roc_msg.proofs.facts.Facts.push.Goals as goal

all_before : (facts : List KnownList) (id : TxnId) → is_behind_facts facts id ≡ true → AllByRecursion (λ (fact : KnownList). txn_lt fact.of id ≡ true) facts
all_before [] id h = tt
all_before (fact ∷ facts) id h =
    let parts = and_parts (txn_lt fact.of id) (list_all (λ f. txn_lt f.of id) facts) h in
    (parts.0, all_before facts id parts.1)

pub invariant_of-self : goal.invariant_of-self
invariant_of-self c =
    let behind : is_behind_facts c.self.inside.lists c.args.fact.of ≡ true = subst (λ facts. is_behind_facts facts c.args.fact.of ≡ true) (sym c.self.view_is) c.requires in
    let is : c.from_vec.result ≡ c.self.inside.lists ++ c.args.fact ∷ [] = search rules in
    subst AreFacts (sym is) (rising_more is_fact_before c.args.fact c.self.inside.lists c.self.invariant (all_before c.self.inside.lists c.args.fact.of behind))
