use Rattle.std.proofs.Common.{List, map, subst}
use Rattle.roc_io.specs.Call.{link_view}
use Rattle.roc_io.specs.Link.{sending}
use Rattle.roc_io.specs.Packet.{Packet}
use Rattle.roc_node.proofs.Moving.{Moves-given}
use Rattle.roc_node.specs.Moves.{Moves}
use Rattle.roc_grown_serve.proofs.server_turns.give_out.Goals as goal

pub returns-then-output-clause-gives : goal.returns-then-output-clause-gives
returns-then-output-clause-gives g c = let given = c.send_all.ensures in (
  c.if-output.true,
  subst (λ (l : List Packet). Moves (link_view g.L.Link c.args.link.now) (link_view g.L.Link c.send_all.new.link) (map sending l)) c.deref.ensures.value
      (Moves-given _ _ _ given.arrivals given.lost given.taken given.events),
)

pub returns-else-output-clause-gives : goal.returns-else-output-clause-gives
returns-else-output-clause-gives g c = let given = c.send_all.ensures in (
  c.if-output.false,
  subst (λ (l : List Packet). Moves (link_view g.L.Link c.args.link.now) (link_view g.L.Link c.send_all.new.link) (map sending l)) c.deref.ensures.value
      (Moves-given _ _ _ given.arrivals given.lost given.taken given.events),
)
