use Rattle.std.proofs.Common.{◌∷◌, [], refl, subst, sym}
use Rattle.roc_base.specs.declared.node.Node.TheVariants as node
use Rattle.roc_grown_node.specs.Setting.{grown_node_setting}
use Rattle.roc_grown_submit.specs.GrownEnd.{SubmitsGrowing, unbound, bound}
use Rattle.roc_grown_submit.proofs.submitting.submit_growing.Goals as goal
use Rattle.roc_io.specs.Call.{link_view}
use Rattle.roc_io.specs.Observed.{Adds}
use Rattle.roc_node.proofs.Moving.{Moves-none, same_view}
use Rattle.roc_node_submit.specs.SubmitEnd.{any_address}
use Rattle.roc_node_submit.specs.declared.ends.SubmitEnd.TheVariants as end
use Rattle.roc_grown_submit.proofs.Writing.{unbound_pieces}

pub returns-in-Failed-clause-submits : goal.returns-in-Failed-clause-submits
returns-in-Failed-clause-submits g c =
    let e = c.in-Failed.ensures in unbound (record { bound = e.bound; moves = Moves-none _ _ e.arrivals e.sent e.lost e.events; out = refl })

pub returns-in-Ok-clause-submits : goal.returns-in-Ok-clause-submits
returns-in-Ok-clause-submits g c =
    bound c.submit_growing_turns.result (subst (λ b. Adds (g.L.Link.bound c.args.link.now) b (any_address ∷ [])) (sym c.submit_growing_turns.ensures.bound) c.in-Ok.ensures.bound)
    (subst
    (λ v. SubmitsGrowing (grown_node_setting c.args.plan.now c.args.tag c.args.next.now (node.Coord c.args.coord) c.args.cluster.now) c.args.coord c.args.requests.now c.args.later.now c.args.turns
    (record { old = v; new = link_view g.L.Link c.submit_growing_turns.new.link; out = record { old = g.S.Sink.taken c.args.out.now; new = g.S.Sink.taken c.submit_growing_turns.new.out } })
    c.submit_growing_turns.result)
    (same_view _ _ _ _ _ _ _ _ c.in-Ok.ensures.arrivals c.in-Ok.ensures.sent c.in-Ok.ensures.lost c.in-Ok.ensures.events) c.submit_growing_turns.ensures.submits)

pub returns-in-Failed-clause-pieces : goal.returns-in-Failed-clause-pieces
returns-in-Failed-clause-pieces g c = unbound_pieces _ _ _ _ _ end.LinkFault refl
