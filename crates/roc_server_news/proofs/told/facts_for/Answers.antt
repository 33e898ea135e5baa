use Rattle.std.proofs.Common.{ap, sym, subst, ◌∙◌}
use Rattle.std.proofs.lemmas.Result.{IfOk-weaker}
use Rattle.std.specs.List.Sorted.{IsStrictlySortedBy}
use Rattle.roc_base.specs.TxnId.{txn_cmp}
use Rattle.roc_depgraph.specs.Deps.{entries_of}
use Rattle.roc_msg.specs.Facts.{most_facts, most_fact_edges}
use Rattle.roc_step.specs.Piggyback.{facts_of}
use Rattle.roc_server_news.proofs.ToldFacts.{front_of_front}
use Rattle.roc_server_news.proofs.told.facts_for.Goals as goal

pub facts_of-requires : goal.facts_of-requires
facts_of-requires c = subst (IsStrictlySortedBy txn_cmp) (sym c.deref.ensures.value) c.in_ok-least.ensures.rises

pub returns : goal.returns
returns c =
    let l = c.in_ok-least.ensures in
    IfOk-weaker c.facts_of.result _ _
    (λ facts is.
    record {
      reached = l.all;
      led = l.rising;
      are =
          is
          ∙ ap (facts_of c.args.table.now.known) (c.deref.ensures.value ∙ l.first)
          ∙ front_of_front (λ u. record { of = u; edges = entries_of c.args.table.now.known u }) most_facts most_fact_edges l.all;
    })
    c.facts_of.ensures
