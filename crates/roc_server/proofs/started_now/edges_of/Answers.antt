use Rattle.std.proofs.Common.{◌≡◌, filter, map, sym, ap, subst, ◌∙◌, IfOk, List}
use Rattle.roc_base.specs.Edges.{united}
use Rattle.roc_step.specs.declared.started.StartedGroup.{StartedGroup}
use Rattle.roc_step.specs.Start.{conflicts_before, edge_to}
use Rattle.roc_server_groups.specs.Indexed.{group_refs_of, undecided_refs, IsIndexOf}
use Rattle.roc_server_index.specs.GroupRefs.{group_refs_at}
use Rattle.roc_server_groups.proofs.IndexSteps.{indexed_group_refs}
use Rattle.roc_server.proofs.started_now.edges_of.Goals as goal

pub edges_for-requires-clause-refs : goal.edges_for-requires-clause-refs
edges_for-requires-clause-refs c =
    let k = c.args.parts.now in
    let index : IsIndexOf c.index.result.now k.lists.decided c.started.result.now.groups =
    λ d. ap (group_refs_at d) c.index.ensures ∙ c.requires.index d ∙ sym (ap (λ es. undecided_refs k.lists.decided (group_refs_of d es)) c.started.ensures.groups) in
    indexed_group_refs c.index.result.now k.lists.decided c.started.result.now.groups index

pub returns : goal.returns
returns c =
    let k = c.args.parts.now in
    let index : IsIndexOf c.index.result.now k.lists.decided c.started.result.now.groups =
    λ d. ap (group_refs_at d) c.index.ensures ∙ c.requires.index d ∙ sym (ap (λ es. undecided_refs k.lists.decided (group_refs_of d es)) c.started.ensures.groups) in
    let start = c.args.starting in
    subst (λ (es : List StartedGroup). IfOk c.edges_for.result (λ edges. edges ≡ united (map (edge_to start.shard start.immediate) (filter (conflicts_before c.args.plan.now k.lists.decided start.id start.immediate c.args.cells.now) es))))
    c.started.ensures.groups (c.edges_for.ensures k.lists.decided index)
