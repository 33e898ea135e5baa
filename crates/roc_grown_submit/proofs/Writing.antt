-- The writes of a coordinator's node
use Rattle.std.proofs.Common.{◌≡◌, ℕ, Bool, true, false, List, [], ◌∷◌, ◌++◌, refl, sym, ap, subst, ◌∙◌, Option, Ok, Err}
use Rattle.roc_grown_node.specs.Setting.{GrownNodeSetting}
use Rattle.roc_grown_submit.specs.GrownCoordRun.{GrownCoordNodeState, first_grown_coord_node_state, grown_step_of_event, grown_reply_lines}
use Rattle.roc_grown_submit.specs.GrownEnd.{naming, grown_half, grown_closing_text}
use Rattle.roc_grown_submit.specs.GrownPieces.{AreGrownWritten, none_written, grown_half_pieces, WritesGrownInPieces, broken_off, cut_submissions, cut_reply, cut_end, over}
use Rattle.roc_grown_submit.specs.Inner.GrownTurn.{bare_node, Seen, HalfSubmits, HalfTakes, GrownRanSo, ClosesGrownInPiece}
use Rattle.roc_grown_submit.specs.declared.coord_node.CoordNode.{CoordNode}
use Rattle.roc_grown_submit.proofs.Turning.{Halved, halved}
use Rattle.roc_io.proofs.Pieces.{cut_behind, none_behind}
use Rattle.roc_io.proofs.Told.{Adds-nil, Adds-trans}
use Rattle.roc_io.specs.Observed.{Adds}
use Rattle.roc_io.specs.Sink.{AddsCut}
use Rattle.roc_node.specs.NodeEvent.{NodeEvent}
use Rattle.roc_node_submit.specs.Pieces.{ends_in_turns}
use Rattle.roc_node_submit.specs.declared.ends.SubmitEnd.{SubmitEnd}
use Rattle.roc_node_submit.specs.declared.ends.SubmitEnd.TheVariants as end
use Rattle.roc_report.specs.Text.{lines_text}
use Rattle.roc_sched.specs.declared.line.Request.{Request}

module _ (S : GrownNodeSetting) (number : ℕ) (requests later : List Request) (a : Seen) where
  abbrev Writes : Seen → SubmitEnd → Type 0
  Writes b e = WritesGrownInPieces S number requests later a.pieces b.pieces e

  -- the submissions before a turn failed
  pub submit_half_pieces : (e : SubmitEnd) (count : ℕ) (old new : CoordNode) (b c : Seen) → GrownRanSo S number requests later count old a b → HalfSubmits (Err e) S requests later old new b c → Writes c e
  submit_half_pieces end.NoMemory count old new b c r h =
      broken_off end.NoMemory r.events _ false r.pieces refl r.written (let does = r.does in none_behind a.pieces b.pieces c.pieces r.pieces does.in_pieces h.in_pieces)
  submit_half_pieces end.SinkFault count old new b c r h =
      cut_submissions r.events _ r.pieces r.written (let does = r.does in cut_behind a.pieces b.pieces c.pieces r.pieces _ does.in_pieces h.in_pieces)
  submit_half_pieces end.Done count old new b c r h = absurd h
  submit_half_pieces end.Unanswered count old new b c r h = absurd h
  submit_half_pieces end.LinkFault count old new b c r h = absurd h
  submit_half_pieces end.BookFault count old new b c r h = absurd h

  half_pieces_of : (e : SubmitEnd) (count : ℕ) (mid new : CoordNode) (c d : Seen) → Halved S number requests later count mid a c → HalfTakes (Err e) S mid new c d → Writes d e
  half_pieces_of end.NoMemory count mid new c d h t =
      let does = h.does in let fails = t.2 in
      broken_off end.NoMemory h.events h.node true h.pieces refl h.written (none_behind a.pieces c.pieces d.pieces (grown_half_pieces S h.node true h.pieces) does.in_pieces fails.in_pieces)
  half_pieces_of end.LinkFault count mid new c d h t =
      let does = h.does in
      broken_off end.LinkFault h.events h.node true h.pieces refl h.written (none_behind a.pieces c.pieces d.pieces (grown_half_pieces S h.node true h.pieces) does.in_pieces t.in_pieces)
  half_pieces_of end.SinkFault count mid new c d h t =
      let does = h.does in let fails = t.1 in
      cut_reply h.events h.node t.0 h.pieces h.written
      (subst (λ (n : GrownCoordNodeState). AddsCut a.pieces d.pieces (grown_half_pieces S h.node true h.pieces) (lines_text (naming S) (grown_reply_lines (grown_step_of_event S n.state t.0).answer))) (sym h.is)
      (cut_behind a.pieces c.pieces d.pieces (grown_half_pieces S h.node true h.pieces) _ does.in_pieces fails.in_pieces))
  half_pieces_of end.Done count mid new c d h t = absurd t
  half_pieces_of end.Unanswered count mid new c d h t = absurd t
  half_pieces_of end.BookFault count mid new c d h t = absurd t

  -- the receive of a turn failed, or what is due behind it
  pub take_half_pieces : (e : SubmitEnd) (count : ℕ) (old mid new : CoordNode) (b c d : Seen) → GrownRanSo S number requests later count old a b → HalfSubmits (Ok tt) S requests later old mid b c
      → HalfTakes (Err e) S mid new c d → Writes d e
  take_half_pieces e count old mid new b c d r s t = half_pieces_of e count mid new c d (halved S number requests later count old mid a b c r s) t

  -- ---- the turns are over

  -- whichever half the node is in, its last lines are these
  closes_so : (e : SubmitEnd) (events : List NodeEvent) (node : GrownCoordNodeState) (half : Bool) (pieces : List (List ℕ)) (b : Seen) (out : Option (List (List ℕ))) (last : List ℕ)
      → AreGrownWritten S number requests later events node pieces → Adds a.pieces b.pieces (grown_half_pieces S node half pieces) → last ≡ grown_closing_text (grown_half S node half)
      → (node_last : GrownCoordNodeState) → grown_closing_text node_last ≡ last → ClosesGrownInPiece e node_last b.pieces out → WritesGrownInPieces S number requests later a.pieces out e
  closes_so end.Done events node half pieces b out last written adds is at same closes =
      over end.Done events node half pieces refl written
      (subst (λ t. Adds a.pieces out (grown_half_pieces S node half pieces ++ t ∷ [])) (same ∙ is) (Adds-trans a.pieces b.pieces out (grown_half_pieces S node half pieces) (grown_closing_text at ∷ []) adds closes))
  closes_so end.Unanswered events node half pieces b out last written adds is at same closes =
      over end.Unanswered events node half pieces refl written
      (subst (λ t. Adds a.pieces out (grown_half_pieces S node half pieces ++ t ∷ [])) (same ∙ is) (Adds-trans a.pieces b.pieces out (grown_half_pieces S node half pieces) (grown_closing_text at ∷ []) adds closes))
  closes_so end.SinkFault events node half pieces b out last written adds is at same closes =
      cut_end events node half pieces written
      (subst (AddsCut a.pieces out (grown_half_pieces S node half pieces)) (same ∙ is) (cut_behind a.pieces b.pieces out (grown_half_pieces S node half pieces) (grown_closing_text at) adds closes))
  closes_so end.NoMemory events node half pieces b out last written adds is at same closes =
      broken_off end.NoMemory events node half pieces refl written (subst (λ o. Adds a.pieces o (grown_half_pieces S node half pieces)) (sym closes) adds)
  closes_so end.LinkFault events node half pieces b out last written adds is at same closes = absurd closes
  closes_so end.BookFault events node half pieces b out last written adds is at same closes = absurd closes

  -- all turns were taken
  pub turns_pieces : (e : SubmitEnd) (count : ℕ) (coord_node : CoordNode) (b : Seen) (out : Option (List (List ℕ))) → GrownRanSo S number requests later count coord_node a b
      → ClosesGrownInPiece e (bare_node coord_node requests later) b.pieces out → WritesGrownInPieces S number requests later a.pieces out e
  turns_pieces e count coord_node b out r closes =
      let does = r.does in closes_so e r.events _ false r.pieces b out _ r.written does.in_pieces refl (bare_node coord_node requests later) refl closes

  -- the drain and the submissions before a turn leave all answered
  pub answered_pieces : (e : SubmitEnd) (count : ℕ) (old mid : CoordNode) (b c : Seen) (out : Option (List (List ℕ))) → GrownRanSo S number requests later count old a b
      → HalfSubmits (Ok tt) S requests later old mid b c → ClosesGrownInPiece e (bare_node mid requests later) c.pieces out → WritesGrownInPieces S number requests later a.pieces out e
  answered_pieces e count old mid b c out r s closes =
      let h = halved S number requests later count old mid a b c r s in
      let does = h.does in
      closes_so e h.events h.node true h.pieces c out _ h.written does.in_pieces (ap grown_closing_text (sym h.is)) (bare_node mid requests later) refl closes

-- ---- before any turn

pub unbound_pieces : (S : GrownNodeSetting) (number : ℕ) (requests later : List Request) (o : Option (List (List ℕ))) (e : SubmitEnd) → ends_in_turns e ≡ true
    → WritesGrownInPieces S number requests later o o e
unbound_pieces S number requests later o e broken = broken_off e [] (first_grown_coord_node_state number requests later) false [] broken none_written (Adds-nil o)
