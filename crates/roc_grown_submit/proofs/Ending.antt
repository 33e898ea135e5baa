-- How submitting ends
use Rattle.std.proofs.Common.{◌≡◌, ℕ, ◌<◌, ◌≤◌, Bool, true, false, List, [], ◌∷◌, ◌++◌, length, map, sym, ◌∙◌, ap, subst, append-nil, arith, cond, refl, Option, Ok, Err}
use Rattle.roc_grown_node.specs.Posting.{Filed}
use Rattle.roc_grown_node.specs.Setting.{GrownNodeSetting}
use Rattle.roc_grown_submit.specs.GrownCoordRun.{GrownCoordNodeState, IsGrownCoordRun, as_plain, are_all_answered, grown_step_of_event, grown_reply_lines}
use Rattle.roc_grown_submit.specs.GrownEnd.{naming, grown_half, grown_written_text, grown_closing_text, AreGrownTurnsOver, SubmitsGrowing, cut_off, wanted, untold_submissions, untold_reply}
use Rattle.roc_grown_submit.specs.GrownEnd.{untold_end, over}
use Rattle.roc_grown_submit.specs.GrownPieces.{grown_half_pieces}
use Rattle.roc_grown_submit.specs.Inner.GrownTurn.{grown_node_of, bare_node, lines_from, lines_then, Seen, Does, HalfSubmits, HalfTakes, GrownRanSo, ClosesGrown}
use Rattle.roc_grown_submit.specs.declared.coord_node.CoordNode.{CoordNode}
use Rattle.roc_grown_submit.proofs.Runs.{NamesAlike, each_answered}
use Rattle.roc_grown_submit.proofs.Turning.{Halved, halved, goes, does_still}
use Rattle.roc_io.proofs.Told.{Adds-trans, AddsThenFront-behind}
use Rattle.roc_io.specs.Link.{LinkEvent, receiving, vain}
use Rattle.roc_io.specs.Observed.{Adds, AddsThenFront}
use Rattle.roc_node.proofs.Moving.{Moves-trans, Moves-before}
use Rattle.roc_node.specs.Moves.{Moves}
use Rattle.roc_node.specs.NodeEvent.{NodeEvent, receive_of}
use Rattle.roc_node_submit.specs.SubmitEnd.{TurnsCall, end_of}
use Rattle.roc_node_submit.specs.declared.ends.SubmitEnd.{SubmitEnd}
use Rattle.roc_node_submit.specs.declared.ends.SubmitEnd.TheVariants as end
use Rattle.roc_report.specs.Line.{Line}
use Rattle.roc_report.specs.Text.{lines_text}
use Rattle.roc_sched.specs.declared.line.Request.{Request}

abbrev pub call_of : Seen → Seen → TurnsCall
call_of a b = record { old = a.link; new = b.link; out = record { old = a.out; new = b.out } }

module _ (S : GrownNodeSetting) (number : ℕ) (requests later : List Request) (turns : ℕ) (a : Seen) where
  abbrev Ends : Seen → SubmitEnd → Type 0
  Ends b e = SubmitsGrowing S number requests later turns (call_of a b) e

  pub submit_half_ends : (e : SubmitEnd) (count : ℕ) (old new : CoordNode) (b c : Seen) → count < turns → GrownRanSo S number requests later count old a b → HalfSubmits (Err e) S requests later old new b c → Ends c e
  submit_half_ends end.NoMemory count old new b c below r h =
      let counted = r.counted in
      let all = does_still r.traffic [] (lines_text (naming S) r.lines) r.pieces a b c r.does h in
      wanted r.events (grown_node_of old requests later r.messages r.traffic r.lines) false [] r.run (omega arith) (omega arith) all.moves all.told
  submit_half_ends end.SinkFault count old new b c below r h =
      let counted = r.counted in
      let does = r.does in
      untold_submissions r.events (grown_node_of old requests later r.messages r.traffic r.lines) r.run (omega arith) (Moves-before a.link b.link c.link r.traffic does.moves h.moves)
      (AddsThenFront-behind a.out b.out c.out (lines_text (naming S) r.lines) (lines_text (naming S) (lines_from S requests later old)) does.told h.told)
  submit_half_ends end.Done count old new b c below r h = absurd h
  submit_half_ends end.Unanswered count old new b c below r h = absurd h
  submit_half_ends end.LinkFault count old new b c below r h = absurd h
  submit_half_ends end.BookFault count old new b c below r h = absurd h

  half_ends : (e : SubmitEnd) (count : ℕ) (mid new : CoordNode) (c d : Seen) → count < turns → Halved S number requests later count mid a c → false ≡ are_all_answered (bare_node mid requests later)
      → HalfTakes (Err e) S mid new c d → Ends d e
  half_ends end.NoMemory count mid new c d below h not t =
      let counted = h.counted in
      let few = t.1 in
      let all = does_still h.traffic (map receiving t.0) (lines_text (naming S) h.lines) (grown_half_pieces S h.node true h.pieces) a c d h.does t.2 in
      wanted h.events h.node true t.0 h.run few (omega arith)
      (subst (λ l. Moves a.link d.link (l ++ map receiving t.0)) (sym (ap (λ (n : GrownCoordNodeState). n.traffic) h.is)) all.moves)
      (subst (λ l. Adds a.out d.out (lines_text (naming S) l)) (sym (ap (λ (n : GrownCoordNodeState). n.lines) h.is)) all.told)
  half_ends end.LinkFault count mid new c d below h not t =
      let counted = h.counted in
      let all = does_still h.traffic (receiving vain ∷ []) (lines_text (naming S) h.lines) (grown_half_pieces S h.node true h.pieces) a c d h.does t in
      cut_off h.events h.node h.run (goes S number requests later count mid a c h false not) (omega arith)
      (subst (λ l. Moves a.link d.link (l ++ receiving vain ∷ [])) (sym (ap (λ (n : GrownCoordNodeState). n.traffic) h.is)) all.moves)
      (subst (λ l. Adds a.out d.out (lines_text (naming S) l)) (sym (ap (λ (n : GrownCoordNodeState). n.lines) h.is)) all.told)
  half_ends end.SinkFault count mid new c d below h not t =
      let counted = h.counted in
      let does = h.does in
      let fails = t.1 in
      untold_reply h.events h.node t.0 h.run (goes S number requests later count mid a c h false not) (omega arith)
      (subst (λ l. Moves a.link d.link (l ++ receive_of t.0 ∷ [])) (sym (ap (λ (n : GrownCoordNodeState). n.traffic) h.is)) (Moves-trans a.link c.link d.link h.traffic (receive_of t.0 ∷ []) does.moves fails.moves))
      (subst (λ (n : GrownCoordNodeState). AddsThenFront a.out d.out (lines_text (naming S) n.lines) (lines_text (naming S) (grown_reply_lines (grown_step_of_event S n.state t.0).answer))) (sym h.is)
      (AddsThenFront-behind a.out c.out d.out (lines_text (naming S) h.lines) (lines_text (naming S) (lines_then S mid.coord t.0)) does.told fails.told))
  half_ends end.Done count mid new c d below h not t = absurd t
  half_ends end.Unanswered count mid new c d below h not t = absurd t
  half_ends end.BookFault count mid new c d below h not t = absurd t

  pub take_half_ends : (e : SubmitEnd) (count : ℕ) (old mid new : CoordNode) (b c d : Seen) → count < turns → GrownRanSo S number requests later count old a b → HalfSubmits (Ok tt) S requests later old mid b c
      → false ≡ are_all_answered (bare_node mid requests later) → HalfTakes (Err e) S mid new c d → Ends d e
  take_half_ends e count old mid new b c d below r s not t = half_ends e count mid new c d below (halved S number requests later count old mid a b c r s) not t

  -- ---- the turns are over

  module _ (names : NamesAlike S.plan.program (naming S)) where
    -- whichever half the node is in, it is this one
    closes_so : (e : SubmitEnd) (events : List NodeEvent) (node : GrownCoordNodeState) (half : Bool) (coord_node : CoordNode) (messages : List Filed) (traffic : List LinkEvent) (lines : List Line)
        (pieces : List (List ℕ)) (b : Seen) (out : Option (List ℕ))
        → IsGrownCoordRun S number requests later events node → length events ≤ turns → AreGrownTurnsOver S turns events node half
        → grown_half S node half ≡ grown_node_of coord_node requests later messages traffic lines → Does traffic (lines_text (naming S) lines) pieces a b
        → ClosesGrown e (bare_node coord_node requests later) b.out out → Ends (record b { out = out }) e
    closes_so e events node half coord_node messages traffic lines pieces b out run few whole is does closes = go e closes
      where
        last : GrownCoordNodeState
        last = grown_node_of coord_node requests later messages traffic lines

        there : (P : GrownCoordNodeState → Type 0) → P last → P (grown_half S node half)
        there P p = subst P (sym is) p

        written : (text : List ℕ) → Adds b.out out text → Adds a.out out (lines_text (naming S) lines ++ text)
        written text more = Adds-trans a.out b.out out (lines_text (naming S) lines) text does.told more

        ended : (e : SubmitEnd) → end_of (as_plain last) ≡ e → (e ≡ end.Done → are_all_answered last ≡ true) → Adds b.out out (grown_closing_text last) → Ends (record b { out = out }) e
        ended e which all more =
            over events node half e (there (λ n. e ≡ end_of (as_plain n)) (sym which)) run whole
            (λ done. each_answered S number names requests later events node half run (there (λ n. are_all_answered n ≡ true) (all done)))
            (there (λ n. Moves a.link b.link n.traffic) does.moves)
            (there (λ n. Adds a.out out (grown_written_text S n ++ grown_closing_text n)) (written (grown_closing_text last) more))

        go : (e : SubmitEnd) → ClosesGrown e (bare_node coord_node requests later) b.out out → Ends (record b { out = out }) e
        go end.Done c = ended end.Done (ap (λ t. cond t end.Done end.Unanswered) c.0) (λ done. c.0) c.1
        go end.Unanswered c = ended end.Unanswered (ap (λ t. cond t end.Done end.Unanswered) c.0) (λ done. absurd (cc)) c.1
        go end.SinkFault c =
            untold_end events node half run whole (there (λ n. Moves a.link b.link n.traffic) does.moves)
            (there (λ n. AddsThenFront a.out out (grown_written_text S n) (grown_closing_text n)) (AddsThenFront-behind a.out b.out out (lines_text (naming S) lines) (grown_closing_text last) does.told c))
        go end.NoMemory c =
            wanted events node half [] run (omega arith) (omega (arith, few))
            (there (λ n. Moves a.link b.link (n.traffic ++ [])) (subst (Moves a.link b.link) (sym (append-nil traffic)) does.moves))
            (there (λ n. Adds a.out out (grown_written_text S n)) (subst (λ o. Adds a.out o (lines_text (naming S) lines)) (sym c) does.told))
        go end.LinkFault c = absurd c
        go end.BookFault c = absurd c

    -- all turns were taken
    pub turns_end : (e : SubmitEnd) (count : ℕ) (coord_node : CoordNode) (b : Seen) (out : Option (List ℕ)) → count ≡ turns → GrownRanSo S number requests later count coord_node a b
        → ClosesGrown e (bare_node coord_node requests later) b.out out → Ends (record b { out = out }) e
    turns_end e count coord_node b out all r closes =
        let whole : length r.events ≡ turns = r.counted ∙ all in
        closes_so e r.events (grown_node_of coord_node requests later r.messages r.traffic r.lines) false coord_node r.messages r.traffic r.lines r.pieces b out r.run (omega arith) whole refl r.does closes

    -- the drain and the submissions before a turn leave all answered
    pub answered_ends : (e : SubmitEnd) (count : ℕ) (old mid : CoordNode) (b c : Seen) (out : Option (List ℕ)) → count < turns → GrownRanSo S number requests later count old a b → HalfSubmits (Ok tt) S requests later old mid b c
        → true ≡ are_all_answered (bare_node mid requests later) → ClosesGrown e (bare_node mid requests later) c.out out → Ends (record c { out = out }) e
    answered_ends e count old mid b c out below r s met closes =
        let h = halved S number requests later count old mid a b c r s in
        let counted = h.counted in
        closes_so e h.events h.node true mid h.messages h.traffic h.lines (grown_half_pieces S h.node true h.pieces) c out h.run (omega arith) (omega arith, goes S number requests later count mid a c h true met) h.is h.does closes
