use Rattle.std.proofs.Common.{◌≡◌, ◌+◌, ◌<◌, ◌++◌, ◌∷◌, [], length, not, filter, take, List, sym, ap, ◌∙◌, arith}
use Rattle.std.proofs.lemmas.List.{take_more}
use Rattle.roc_base.specs.TxnId.{is_txn}
use Rattle.roc_step.specs.declared.waits.Asker.{Asker}
use Rattle.roc_step.specs.declared.waits.OpenFetch.{OpenFetch}
use Rattle.roc_step.specs.Waits.{Waiting, without_askers_of}
use Rattle.roc_server_news.proofs.NotOfNews.{not_of_none, not_of_more}
use Rattle.roc_server_news.proofs.askers.drop_all.Goals as goal

pub loop-k-init : goal.loop-k-init
loop-k-init c =
    let P : List Asker → Waiting = λ xs. record c.args.waits.now.waiting { askers = xs } in
    record {
      waiting = ap P (sym (not_of_none (λ (a : Asker). a.id) c.args.waits.now.waiting.askers));
      fetches = sym (not_of_none (λ (a : OpenFetch). a.id) c.args.waits.now.fetches);
      spare = omega arith;
    }

pub loop-k-preserved : goal.loop-k-preserved
loop-k-preserved c =
    let news = c.args.news.now in
    let i = c.loop-k.k-index in
    let within : i < length news = omega arith in
    let more : take (i + 1) news ≡ take i news ++ c.k-item.result ∷ [] = take_more news i c.k-item.result within ∙ ap (λ x. take i news ++ x ∷ []) (sym c.k-item.is) in
    let P : List Asker → Waiting = λ xs. record c.args.waits.now.waiting { askers = xs } in
    let Q : Waiting → Waiting = λ w. record w { askers = without_askers_of c.k-item.result.of w.askers } in
    let R : List OpenFetch → List OpenFetch = λ xs. filter (λ a. not (is_txn a.id c.k-item.result.of)) xs in
    record {
      waiting =
          c.took.ensures.waiting ∙ c.drop_askers.ensures.waiting ∙ ap Q c.loop-k.invariant.waiting
          ∙ ap P (not_of_more (λ (a : Asker). a.id) (take i news) (take (i + 1) news) c.k-item.result c.args.waits.now.waiting.askers more);
      fetches =
          c.took.ensures.fetches ∙ ap R (c.drop_askers.ensures.fetches ∙ c.loop-k.invariant.fetches)
          ∙ not_of_more (λ (a : OpenFetch). a.id) (take i news) (take (i + 1) news) c.k-item.result c.args.waits.now.fetches more;
      spare =
          let a = c.took.ensures.spare in
          let b = c.drop_askers.ensures.spare in
          let d = c.loop-k.invariant.spare in
          omega (arith, a, b, d);
    }
