use Rattle.std.proofs.Common.{◌∙◌, ℕ, List, map, subst}
use Rattle.roc_io.specs.Call.{link_view}
use Rattle.roc_io.specs.Link.{sending}
use Rattle.roc_io.specs.Observed.{Adds}
use Rattle.roc_io.specs.Sink.{text_piece}
use Rattle.roc_io.specs.Packet.{Packet}
use Rattle.roc_node.specs.Moves.{Moves}
use Rattle.roc_node.proofs.Moving.{Moves-given}
use Rattle.roc_node_submit.proofs.coord_turns.put_out.Goals as goal

pub returns-in-Ok-write_text-clause-puts : goal.returns-in-Ok-write_text-clause-puts
returns-in-Ok-write_text-clause-puts g c logs log is =
    let given = c.send_all.ensures in record {
      moves = subst (λ (l : List Packet). Moves (link_view g.L.Link c.args.link.now) (link_view g.L.Link c.send_all.new.link) (map sending l)) c.deref-in-Ok-write_text.ensures.value
          (Moves-given _ _ _ given.arrivals given.lost given.taken given.events);
      told = subst (Adds (g.S.Sink.taken c.args.out.now) (g.S.Sink.taken c.write_text.new.out)) c.deref-2.ensures.value c.in-Ok-write_text.ensures.taken;
      in_pieces = subst (λ (t : List ℕ). Adds (g.S.Sink.pieces c.args.out.now) (g.S.Sink.pieces c.write_text.new.out) (text_piece t)) c.deref-2.ensures.value c.in-Ok-write_text.ensures.pieces;
      kept = c.in-Ok.ensures.gains logs log (c.deref.ensures.value ∙ is);
    }
