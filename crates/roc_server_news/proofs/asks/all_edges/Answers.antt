-- The entries met so far are those of the lists so far
use Rattle.std.proofs.Common.{◌≡◌, ◌++◌, List, ap, ◌∙◌}
use Rattle.std.proofs.lemmas.List.{take_all}
use Rattle.std.specs.List.{flat_map}
use Rattle.roc_base.specs.Edge.{Dependency}
use Rattle.roc_base.specs.Edges.{united}
use Rattle.roc_depgraph.specs.declared.known.KnownList.{KnownList}
use Rattle.roc_await.proofs.InGroups.{flat_more}
use Rattle.roc_server_news.proofs.asks.all_edges.Goals as goal

pub loop-k-init : goal.loop-k-init
loop-k-init c = c.new-met.ensures.items

pub loop-k-preserved : goal.loop-k-preserved
loop-k-preserved c =
    let lists : List KnownList = c.args.lists.now in
    let own : KnownList → List Dependency = λ k. k.edges in
    let put : List Dependency → List Dependency = λ es. c.loop-k.met.items ++ es in
    flat_more own lists c.loop-k.k-index c.k-item.result c.loop-k.met.items _ c.loop-k-test.true c.k-item.is (c.in_ok-extend_from_slice.ensures.items ∙ ap put c.as_slice.ensures.entries) c.loop-k.invariant

pub returns : goal.returns
returns c =
    let met : List KnownList → List Dependency = λ ks. flat_map (λ (k : KnownList). k.edges) ks in
    let whole : c.loop-k.met.items ≡ met c.args.lists.now = c.loop-k.invariant ∙ ap met (take_all c.loop-k.k-index c.args.lists.now c.loop-k-test.false) in
    c.in_ok-unite.ensures.united ∙ (λ i. united (c.new-edges.ensures i ++ (c.deref.ensures.value ∙ whole) i))
