use Rattle.std.proofs.Common.{Bool, sym, ap, subst, ◌∙◌}
use Rattle.std.specs.List.{list_any}
use Rattle.roc_sequence.specs.Lists.{Has}
use Rattle.roc_sequence.proofs.Fronts.{no_rest}
use Rattle.roc_group.specs.declared.access.Access.{Access}
use Rattle.roc_server_reads.specs.Inner.Holders.{is_held_at}
use Rattle.roc_server_reads.proofs.HeldByCell.{held_by_cell}
use Rattle.roc_server_reads.proofs.Holding.{has_place, indexed_holds}
use Rattle.roc_server_reads.proofs.held_up.started_holder.Goals as goal

pub returns-in-Some-clause-holder : goal.returns-in-Some-clause-holder
returns-in-Some-clause-holder g c =
    let uses = c.args.uses.now in
    let a = c.access-item.result in
    let used : Has a uses = subst (λ (x : Access). Has x uses) (sym c.access-item.is) (has_place uses c.loop-access.access-index a c.loop-access-test.true) in
    indexed_holds c.args.behind.now uses a c.in-Some.group_ref used c.in-Some.ensures.holder.0 c.in-Some.ensures.holder.1

pub returns-clause-holder : goal.returns-clause-holder
returns-clause-holder g c =
    let b = c.args.behind.now in
    let uses = c.args.uses.now in
    let held : Access → Bool = λ a. is_held_at b a.cell in
    sym (held_by_cell b.decided b.newly b.started uses c.has_each_once.ensures)
    ∙ (sym c.loop-access.invariant.none ∙ ap (list_any held) (no_rest uses c.loop-access.access-index c.loop-access-test.false))
