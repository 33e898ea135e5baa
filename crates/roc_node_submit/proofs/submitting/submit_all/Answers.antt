use Rattle.std.proofs.Common.{◌∷◌, [], refl, subst, sym, ◌∙◌}
use Rattle.std.specs.Prelude.{option_map}
use Rattle.roc_base.specs.declared.node.Node.TheVariants as node
use Rattle.roc_book.specs.Call.{book_view}
use Rattle.roc_io.specs.Call.{link_view}
use Rattle.roc_io.specs.Observed.{Adds}
use Rattle.roc_node.proofs.Moving.{Moves-none, same_view}
use Rattle.roc_node.specs.NodeEvent.{node_setting}
use Rattle.roc_node_submit.specs.SubmitEnd.{Submits, unbound, bound, any_address}
use Rattle.roc_node_submit.proofs.Booked.{call}
use Rattle.roc_node_submit.proofs.Submitted.{begin_ends, name_is_given}
use Rattle.roc_node_submit.specs.declared.ends.SubmitEnd.TheVariants as end
use Rattle.roc_node_submit.proofs.Writing.{begin_pieces, unbound_pieces}
use Rattle.roc_node_submit.proofs.submitting.submit_all.Goals as goal

pub returns-in-Err-clause-submits : goal.returns-in-Err-clause-submits
returns-in-Err-clause-submits g c = begin_ends c.in-Err.end _ _ _ _ _ _ _ _ (record { bound = refl; moves = Moves-none _ _ refl refl refl refl; out = refl }) c.in-Err.ensures.begins

pub returns-in-Failed-clause-submits : goal.returns-in-Failed-clause-submits
returns-in-Failed-clause-submits g c =
    let e = c.in-Failed.ensures in
    unbound (record { bound = e.bound; moves = Moves-none _ _ e.arrivals e.sent e.lost e.events; out = refl }) c.in-Ok.ensures.begins

pub returns-in-Ok-bind-clause-submits : goal.returns-in-Ok-bind-clause-submits
returns-in-Ok-bind-clause-submits g c =
    let log = option_map (λ name. name.now) c.args.log in
    let begun = book_view g.B.Book c.args.book.now in
    let submits = c.submit_turns.ensures.submits log begun (record { asked = name_is_given _ c.args.log ∙ sym c.is_some.ensures; kept = c.in-Ok.ensures.begins }) in
    bound c.submit_turns.result (subst (λ b. Adds (g.L.Link.bound c.args.link.now) b (any_address ∷ [])) (sym c.submit_turns.ensures.bound) c.in-Ok-bind.ensures.bound)
    (subst (λ v. Submits (node_setting c.args.plan.now c.args.tag (node.Coord c.args.coord) c.args.cluster.now) c.args.coord c.args.requests.now c.args.turns log
    (record { old = v; new = link_view g.L.Link c.submit_turns.new.link; out = record { old = g.S.Sink.taken c.args.out.now; new = g.S.Sink.taken c.submit_turns.new.out } })
    (call begun (book_view g.B.Book c.submit_turns.new.book)) c.submit_turns.result)
    (same_view _ _ _ _ _ _ _ _ c.in-Ok-bind.ensures.arrivals c.in-Ok-bind.ensures.sent c.in-Ok-bind.ensures.lost c.in-Ok-bind.ensures.events) submits)

pub returns-in-Err-clause-pieces : goal.returns-in-Err-clause-pieces
returns-in-Err-clause-pieces g c = begin_pieces c.in-Err.end _ _ _ _ _ _ _ _ c.in-Err.ensures.begins

pub returns-in-Failed-clause-pieces : goal.returns-in-Failed-clause-pieces
returns-in-Failed-clause-pieces g c = unbound_pieces _ _ _ _ end.LinkFault refl
