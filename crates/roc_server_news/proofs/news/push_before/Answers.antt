use Rattle.std.proofs.Common.{List, Bool, ◌++◌, filter, sym, ap, ◌∙◌}
use Rattle.std.proofs.lemmas.List.{take_all}
use Rattle.roc_base.specs.TxnId.{txn_lt}
use Rattle.roc_depgraph.specs.declared.known.KnownList.{KnownList}
use Rattle.roc_step.specs.Carried.{unknown_of}
use Rattle.roc_server_news.proofs.NewsOfFacts.{news_more, news_same, before_is}
use Rattle.roc_server_news.proofs.news.push_before.Goals as goal
use Rattle.roc_server_news.proofs.news.push_before.Goals.{then-lt+in_ok-push_unknown, else-lt}

pub loop-fact-preserved : goal.loop-fact-preserved
loop-fact-preserved c =
    let passes : KnownList → Bool = λ (f : KnownList). txn_lt f.of c.args.id in
    let more = news_more passes c.args.table.now.known c.args.facts.now c.loop-fact.fact-index c.fact-item.result c.loop-fact-test.true c.fact-item.is c.args.news.now.items c.loop-fact.news.items c.if-lt.news.items c.loop-fact.invariant in
    let same = news_same passes c.args.table.now.known c.args.facts.now c.loop-fact.fact-index c.fact-item.result c.loop-fact-test.true c.fact-item.is c.args.news.now.items c.loop-fact.news.items c.if-lt.news.items c.loop-fact.invariant in
    let tested = before_is c.fact-item.result.of c.args.id in
    elim c.if-lt.branch [
      | then-lt+in_ok-push_unknown w ↦ more (sym tested ∙ sym c.lt.ensures ∙ w.if-lt.true) (ap (λ v. v.items) w.news-is ∙ w.in_ok-push_unknown.ensures)
      | else-lt w ↦ same (sym tested ∙ sym c.lt.ensures ∙ w.if-lt.false) (ap (λ v. v.items) w.news-is)
    ]

pub returns : goal.returns
returns c =
    let news : List KnownList → List KnownList = λ ks. c.args.news.now.items ++ unknown_of c.args.table.now.known (filter (λ (f : KnownList). txn_lt f.of c.args.id) ks) in
    c.loop-fact.invariant ∙ ap news (take_all c.loop-fact.fact-index c.args.facts.now c.loop-fact-test.false)
