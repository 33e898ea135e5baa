-- The writes of a coordinator's node.
use Rattle.std.proofs.Common.{◌≡◌, ℕ, Bool, true, false, List, [], refl, sym, subst, Option, Ok, Err}
use Rattle.roc_io.specs.Observed.{Adds}
use Rattle.roc_io.specs.Sink.{AddsCut}
use Rattle.roc_io.proofs.Pieces.{cut_behind, none_behind}
use Rattle.roc_io.proofs.Told.{Adds-nil, Adds-trans}
use Rattle.roc_book.specs.Call.{BookView}
use Rattle.roc_report.specs.Text.{lines_text as report_text}
use Rattle.roc_sched.specs.declared.line.Request.{Request}
use Rattle.roc_node.specs.NodeEvent.{NodeSetting}
use Rattle.roc_node_submit.specs.declared.coord_node.CoordNode.{CoordNode}
use Rattle.roc_node_submit.specs.declared.ends.SubmitEnd.{SubmitEnd}
use Rattle.roc_node_submit.specs.declared.ends.SubmitEnd.TheVariants as end
use Rattle.roc_node_submit.specs.CoordRun.{CoordNodeState, first_coord_node_state, is_answered, step_of_event, reply_lines}
use Rattle.roc_node_submit.specs.Pieces.{none_written, half_pieces, ends_in_turns, WritesTurnsInPieces, broken_off, cut_submissions, cut_reply, cut_end, over}
use Rattle.roc_node_submit.specs.Inner.CoordTurn.{coord_node_state_of, Seen, HalfSubmits, HalfTakes, CoordRanSo, ClosesSubmitInPiece, Begins}
use Rattle.roc_node_submit.proofs.Coords.{Halved, halved}

-- ---- the ends

module _ (S : NodeSetting) (logs : Bool) (number : ℕ) (requests : List Request) (a : Seen) where
  abbrev Writes : Seen → SubmitEnd → Type 0
  Writes b end = WritesTurnsInPieces S number requests a.pieces b.pieces end

  -- the submissions before a turn failed
  pub submit_half_pieces : (e : SubmitEnd) (count : ℕ) (old new : CoordNode) (b c : Seen) → CoordRanSo S logs number requests count old a b → HalfSubmits (Err e) S logs requests old new b c → Writes c e
  submit_half_pieces end.NoMemory count old new b c r h =
      broken_off end.NoMemory r.events _ false r.pieces refl r.written (let does = r.does in none_behind a.pieces b.pieces c.pieces r.pieces does.in_pieces h.in_pieces)
  submit_half_pieces end.SinkFault count old new b c r h =
      cut_submissions r.events _ r.pieces r.written (let does = r.does in cut_behind a.pieces b.pieces c.pieces r.pieces _ does.in_pieces h.in_pieces)
  submit_half_pieces end.BookFault count old new b c r h =
      broken_off end.BookFault r.events _ false r.pieces refl r.written (let does = r.does in subst (λ o. Adds a.pieces o r.pieces) (sym h.in_pieces) does.in_pieces)
  submit_half_pieces end.Done count old new b c r h = absurd h
  submit_half_pieces end.Unanswered count old new b c r h = absurd h
  submit_half_pieces end.LinkFault count old new b c r h = absurd h

  half_pieces_of : (e : SubmitEnd) (count : ℕ) (mid new : CoordNode) (c d : Seen) → Halved S logs number requests count mid a c → HalfTakes (Err e) S logs mid new c d → Writes d e
  half_pieces_of end.NoMemory count mid new c d h t =
      let does = h.does in let fails = t.2 in
      broken_off end.NoMemory h.events h.node true h.pieces refl h.written (none_behind a.pieces c.pieces d.pieces (half_pieces S h.node true h.pieces) does.in_pieces fails.in_pieces)
  half_pieces_of end.LinkFault count mid new c d h t =
      let does = h.does in
      broken_off end.LinkFault h.events h.node true h.pieces refl h.written (none_behind a.pieces c.pieces d.pieces (half_pieces S h.node true h.pieces) does.in_pieces t.in_pieces)
  half_pieces_of end.SinkFault count mid new c d h t =
      let does = h.does in let fails = t.1 in
      cut_reply h.events h.node t.0 h.pieces h.written
      (subst (λ (n : CoordNodeState). AddsCut a.pieces d.pieces (half_pieces S h.node true h.pieces) (report_text S.plan.program (reply_lines (step_of_event S n.state t.0).answer))) (sym h.is)
      (cut_behind a.pieces c.pieces d.pieces (half_pieces S h.node true h.pieces) _ does.in_pieces fails.in_pieces))
  half_pieces_of end.BookFault count mid new c d h t =
      let does = h.does in let fails = t.1 in
      broken_off end.BookFault h.events h.node true h.pieces refl h.written (subst (λ o. Adds a.pieces o (half_pieces S h.node true h.pieces)) (sym fails.in_pieces) does.in_pieces)
  half_pieces_of end.Done count mid new c d h t = absurd t
  half_pieces_of end.Unanswered count mid new c d h t = absurd t

  -- the receive of a turn failed, or what is due behind it
  pub take_half_pieces : (e : SubmitEnd) (count : ℕ) (old mid new : CoordNode) (b c d : Seen) → CoordRanSo S logs number requests count old a b
      → false ≡ is_answered (coord_node_state_of old requests [] [] [] []) → HalfSubmits (Ok tt) S logs requests old mid b c → HalfTakes (Err e) S logs mid new c d → Writes d e
  take_half_pieces e count old mid new b c d r goes s t = half_pieces_of e count mid new c d (halved S logs number requests count old mid a b c r goes s) t

  -- all are answered, or all turns were taken
  pub over_pieces : (e : SubmitEnd) (count : ℕ) (coord_node : CoordNode) (b : Seen) (out : Option (List (List ℕ))) → CoordRanSo S logs number requests count coord_node a b
      → ClosesSubmitInPiece e (coord_node_state_of coord_node requests [] [] [] []) b.pieces out → WritesTurnsInPieces S number requests a.pieces out e
  over_pieces end.Done count coord_node b out r last = over end.Done r.events _ r.pieces refl r.written (let does = r.does in Adds-trans a.pieces b.pieces out r.pieces _ does.in_pieces last)
  over_pieces end.Unanswered count coord_node b out r last =
      over end.Unanswered r.events _ r.pieces refl r.written (let does = r.does in Adds-trans a.pieces b.pieces out r.pieces _ does.in_pieces last)
  over_pieces end.SinkFault count coord_node b out r last = cut_end r.events _ r.pieces r.written (let does = r.does in cut_behind a.pieces b.pieces out r.pieces _ does.in_pieces last)
  over_pieces end.NoMemory count coord_node b out r last =
      broken_off end.NoMemory r.events _ false r.pieces refl r.written (let does = r.does in subst (λ o. Adds a.pieces o r.pieces) (sym last) does.in_pieces)
  over_pieces end.LinkFault count coord_node b out r last = absurd last
  over_pieces end.BookFault count coord_node b out r last = absurd last

-- ---- before any turn

pub unbound_pieces : (S : NodeSetting) (number : ℕ) (requests : List Request) (o : Option (List (List ℕ))) (e : SubmitEnd) → ends_in_turns e ≡ true → WritesTurnsInPieces S number requests o o e
unbound_pieces S number requests o e broken = broken_off e [] (first_coord_node_state number requests) false [] broken none_written (Adds-nil o)

-- a log could not be begun
pub begin_pieces : (e : SubmitEnd) (S : NodeSetting) (number : ℕ) (requests : List Request) (log : Option (List ℕ)) (first : List ℕ) (a b : BookView) (o : Option (List (List ℕ)))
    → Begins (Err e) log first a b → WritesTurnsInPieces S number requests o o e
begin_pieces end.NoMemory S number requests log first a b o h = unbound_pieces S number requests o end.NoMemory refl
begin_pieces end.BookFault S number requests log first a b o h = unbound_pieces S number requests o end.BookFault refl
begin_pieces end.Done S number requests log first a b o h = absurd h
begin_pieces end.Unanswered S number requests log first a b o h = absurd h
begin_pieces end.LinkFault S number requests log first a b o h = absurd h
begin_pieces end.SinkFault S number requests log first a b o h = absurd h
