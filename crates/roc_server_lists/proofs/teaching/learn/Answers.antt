use Rattle.std.proofs.Common.{◌≡◌, ◌++◌, ◌∙◌, List, Bool, map, filter, sym, ap, subst}
use Rattle.std.specs.List.Sorted.{IsStrictlySortedBy}
use Rattle.roc_sequence.specs.Places.{is_listed}
use Rattle.roc_base.specs.declared.id.TxnId.{TxnId}
use Rattle.roc_base.specs.Edge.{Dependency}
use Rattle.roc_base.specs.TxnId.{is_txn, txn_cmp}
use Rattle.roc_base.specs.Edges.{united}
use Rattle.roc_step.specs.Links.{all_entries, without_links}
use Rattle.roc_step.proofs.WithoutLinks.{all_without_alike}
use Rattle.roc_server_lists.specs.Inner.Finding.{is_done_at, is_done_with}
use Rattle.roc_server_lists.proofs.DoneSteps.{done_rise, done_listed, done_with_news}
use Rattle.roc_server_lists.proofs.teaching.learn.Goals as goal

pub learn-requires-clause-rising : goal.learn-requires-clause-rising
learn-requires-clause-rising c =
    let k = c.args.parts.now in
    let es = c.args.started.now.groups in
    let known = k.table.known in
    let news = c.args.news.now in
    subst (IsStrictlySortedBy txn_cmp) (sym c.deref.ensures.value)
    (done_rise (is_done_at c.args.shard es k.marks (known ++ news)) (all_entries news) c.in_ok-done.done.items
    (c.in_ok-done.ensures ∙ ap (λ (ds : List Dependency). map (λ (d : Dependency). d.from) (filter (is_done_with c.args.shard es k.marks known) ds)) (c.as_slice.ensures.entries ∙ c.in_ok-edges.ensures)
    ∙ done_with_news c.args.shard es k.marks known news))

pub returns-clause-ok : goal.returns-clause-ok
returns-clause-ok c =
    let old = c.args.parts.now in
    let es = c.args.started.now.groups in
    let known = old.table.known in
    let news = c.args.news.now in
    let ids = c.in_ok-done.done.items in
    let done : TxnId → Bool = is_done_at c.args.shard es old.marks (known ++ news) in
    let are : ids ≡ map (λ (d : Dependency). d.from) (filter (λ (d : Dependency). done d.from) (united (all_entries news))) =
    c.in_ok-done.ensures
    ∙ ap (λ (ds : List Dependency). map (λ (d : Dependency). d.from) (filter (is_done_with c.args.shard es old.marks known) ds)) (c.as_slice.ensures.entries ∙ c.in_ok-edges.ensures)
    ∙ done_with_news c.args.shard es old.marks known news in
    let listed = done_listed done (all_entries news) ids are in
    let links =
    c.in_ok-learn.ensures.links ∙ ap (λ (ds : List TxnId). old.table.links ++ map (without_links (is_listed is_txn ds)) news) c.deref.ensures.value
    ∙ ap (λ ks. old.table.links ++ ks) (all_without_alike (is_listed is_txn ids) done news listed) in
    record {
      is = λ i. record old { table = record { known = c.in_ok-learn.ensures.known i; links = links i; decided = c.in_ok-learn.ensures.decided i } };
      edges = c.in_ok-edges.ensures;
      rising = done_rise done (all_entries news) ids are;
      done = listed;
    }
