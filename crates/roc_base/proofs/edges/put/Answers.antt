use Rattle.std.proofs.Common.{◌∙◌, List, sym, subst}
use Rattle.roc_base.specs.Edge.{Dependency}
use Rattle.roc_base.specs.Edges.{IsEdgeList}
use Rattle.roc_base.proofs.Place.{unite_one-at, unite_one-gap}
use Rattle.roc_base.proofs.Union.{IsEdgeList-unite_one}
use Rattle.roc_base.proofs.edges.put.Goals as goal

pub returns-in-Ok-clause-items : goal.returns-in-Ok-clause-items
returns-in-Ok-clause-items c =
    let there = rw (c.from.ensures.value, c.deref.ensures.value) at c.in-Ok.ensures.found in
    unite_one-at c.args.edge c.index.result.now c.args.edges.now.items c.in-Ok.at c.joined.result c.requires.list.rising there c.index.ensures c.joined.ensures

pub returns-in-Ok-clause-list : goal.returns-in-Ok-clause-list
returns-in-Ok-clause-list c =
    let there = rw (c.from.ensures.value, c.deref.ensures.value) at c.in-Ok.ensures.found in
    let items = unite_one-at c.args.edge c.index.result.now c.args.edges.now.items c.in-Ok.at c.joined.result c.requires.list.rising there c.index.ensures c.joined.ensures in
    subst IsEdgeList (sym items) (IsEdgeList-unite_one c.args.edge c.args.edges.now.items c.from.ensures.tagged c.requires.list)

pub returns-in-Err-clause-items : goal.returns-in-Err-clause-items
returns-in-Err-clause-items c =
    let gap = rw (c.from.ensures.value, c.deref.ensures.value) at c.in-Err.ensures.absent in
    ◌∙◌ {A = List Dependency} (rw c.unwrap.ensures at c.insert.ensures.items) (unite_one-gap c.args.edge c.args.edges.now.items c.in-Err.at gap)

pub returns-in-Err-clause-list : goal.returns-in-Err-clause-list
returns-in-Err-clause-list c =
    let gap = rw (c.from.ensures.value, c.deref.ensures.value) at c.in-Err.ensures.absent in
    let items = ◌∙◌ {A = List Dependency} (rw c.unwrap.ensures at c.insert.ensures.items) (unite_one-gap c.args.edge c.args.edges.now.items c.in-Err.at gap) in
    subst IsEdgeList (sym items) (IsEdgeList-unite_one c.args.edge c.args.edges.now.items c.from.ensures.tagged c.requires.list)
