-- How submitting ends.
use Rattle.std.proofs.Common.{◌≡◌, ◌⊎◌, inl, inr, T, ℕ, ◌<◌, ◌≤◌, Bool, true, false, List, [], ◌∷◌, ◌++◌, length, map, sym, ◌∙◌, ap, subst, append-nil, arith, cond, refl, Option, Some, None, Ok, Err}
use Rattle.std.specs.Prelude.{is_some, option_map}
use Rattle.roc_io.specs.Link.{LinkEvent, receiving, vain}
use Rattle.roc_io.specs.Observed.{Adds, AddsThenFront}
use Rattle.roc_io.specs.Call.{NodeCall}
use Rattle.roc_io.proofs.Told.{Adds-trans, AddsThenFront-behind}
use Rattle.roc_report.specs.Text.{lines_text as report_text}
use Rattle.roc_sched.specs.declared.line.Request.{Request}
use Rattle.roc_book.specs.Call.{BookView, Keeps, KeepsFront}
use Rattle.roc_log.specs.declared.line.LogLine.{LogLine}
use Rattle.roc_log.specs.LogLine.{lines_text}
use Rattle.roc_node.specs.Moves.{Moves}
use Rattle.roc_node.proofs.Moving.{Moves-trans, Moves-before}
use Rattle.roc_node_submit.specs.declared.coord_node.CoordNode.{CoordNode}
use Rattle.roc_node_submit.specs.declared.ends.SubmitEnd.{SubmitEnd}
use Rattle.roc_node_submit.specs.declared.ends.SubmitEnd.TheVariants as end
use Rattle.roc_node.specs.NodeEvent.{receive_of, NodeSetting}
use Rattle.roc_node_submit.specs.CoordRun.{CoordNodeState, is_answered, step_of_event, reply_lines}
use Rattle.roc_node_submit.specs.SubmitEnd.{BeginsLog, TurnsCall, Submits, first_logged, cut_off, wanted, unlogged_submissions, unlogged_event, untold_submissions, untold_reply, untold_end, over, IsUnbound, BindsAndSubmits, unready, unopened, unlogged_node}
use Rattle.roc_node_submit.specs.Pieces.{half_pieces}
use Rattle.roc_node_submit.specs.Inner.CoordTurn.{coord_node_state_of, logged_of, submissions_from, Gains, Seen, Does, FailsSink, FailsBook, HalfSubmits, HalfTakes, CoordRanSo, ClosesSubmit, Begins}
use Rattle.roc_node_submit.proofs.Booked.{call, keeps, keeps_front, gains_more, logs_there, does_still}
use Rattle.roc_node_submit.proofs.Coords.{Halved, halved, logged_behind}
use Rattle.roc_node_submit.proofs.Runs.{each_answered}

abbrev pub call_of : Seen → Seen → TurnsCall
call_of a b = record { old = a.link; new = b.link; out = record { old = a.out; new = b.out } }

-- nothing more was written
still : (old mid new : Option (List ℕ)) (text : List ℕ) → Adds old mid text → Adds mid new [] → Adds old new text
still old mid new text p q = subst (Adds old new) (append-nil text) (Adds-trans old mid new text [] p q)

module _ (S : NodeSetting) (logs : Bool) (number : ℕ) (requests : List Request) (turns : ℕ) (log : Option (List ℕ)) (begun : BookView) (a : Seen) (begins : BeginsLog logs log (first_logged S) begun a.book) where
  abbrev Ends : Seen → SubmitEnd → Type 0
  Ends b end = Submits S number requests turns log (call_of a b) (call begun b.book) end

  -- the log has these lines
  kept : (traffic : List LinkEvent) (text : List ℕ) (pieces : List (List ℕ)) (logged : List LogLine) (b : Seen) → Does logs traffic text pieces (lines_text S.plan.program logged) a b
      → Keeps log (call begun b.book) (first_logged S ++ lines_text S.plan.program logged)
  kept traffic text pieces logged b does = keeps logs log (first_logged S) (lines_text S.plan.program logged) begun a.book b.book begins does.kept

  -- and a front of a text behind them
  kept_front : (traffic next : List LinkEvent) (text : List ℕ) (pieces : List (List ℕ)) (logged : List LogLine) (cut : List ℕ) (b c : Seen)
      → Does logs traffic text pieces (lines_text S.plan.program logged) a b → FailsBook logs next cut b c
      → KeepsFront log (call begun c.book) (first_logged S ++ lines_text S.plan.program logged) cut
  kept_front traffic next text pieces logged cut b c does fails = keeps_front logs log (first_logged S) begun a.book b.book c.book (lines_text S.plan.program logged) cut begins does.kept fails.kept

  -- a log is kept, where it fails
  log_there : (next : List LinkEvent) (cut : List ℕ) (b c : Seen) → FailsBook logs next cut b c → is_some log ≡ true
  log_there next cut b c fails = begins.asked ∙ logs_there logs b.book c.book cut fails.kept

  -- and these lines behind them
  kept_more : (traffic next : List LinkEvent) (text cut : List ℕ) (pieces : List (List ℕ)) (logged later : List LogLine) (b c : Seen) → Does logs traffic text pieces (lines_text S.plan.program logged) a b
      → FailsSink logs next cut (lines_text S.plan.program later) b c
      → Keeps log (call begun c.book) (first_logged S ++ lines_text S.plan.program (logged ++ later))
  kept_more traffic next text cut pieces logged later b c does fails =
      keeps logs log (first_logged S) (lines_text S.plan.program (logged ++ later)) begun a.book c.book begins
      (subst (Gains logs a.book c.book) (logged_behind S.plan.program logged later)
      (gains_more logs a.book b.book c.book (lines_text S.plan.program logged) (lines_text S.plan.program later) does.kept fails.kept))

  pub submit_half_ends : (e : SubmitEnd) (count : ℕ) (old new : CoordNode) (b c : Seen) → count < turns → CoordRanSo S logs number requests count old a b
      → false ≡ is_answered (coord_node_state_of old requests [] [] [] []) → HalfSubmits (Err e) S logs requests old new b c → Ends c e
  submit_half_ends end.NoMemory count old new b c below r goes h =
      let counted = r.counted in
      let all = does_still logs r.traffic [] (report_text S.plan.program r.lines) r.pieces (lines_text S.plan.program r.logged) a b c r.does h in
      wanted r.events (coord_node_state_of old requests r.messages r.traffic r.lines r.logged) false [] r.run (omega arith) (omega arith) all.moves all.told
      (kept (r.traffic ++ []) (report_text S.plan.program r.lines) r.pieces r.logged c all)
  submit_half_ends end.SinkFault count old new b c below r goes h =
      let counted = r.counted in
      let does = r.does in
      let s = submissions_from S requests old in
      untold_submissions r.events (coord_node_state_of old requests r.messages r.traffic r.lines r.logged) r.run (sym goes) (omega arith) (Moves-before a.link b.link c.link r.traffic does.moves h.moves)
      (AddsThenFront-behind a.out b.out c.out (report_text S.plan.program r.lines) (report_text S.plan.program s.lines) does.told h.told)
      (kept_more r.traffic [] (report_text S.plan.program r.lines) (report_text S.plan.program s.lines) r.pieces r.logged s.logged b c does h)
  submit_half_ends end.BookFault count old new b c below r goes h =
      let counted = r.counted in
      let does = r.does in
      let s = submissions_from S requests old in
      unlogged_submissions r.events (coord_node_state_of old requests r.messages r.traffic r.lines r.logged) (log_there [] (lines_text S.plan.program s.logged) b c h) r.run (sym goes) (omega arith) (Moves-before a.link b.link c.link r.traffic does.moves h.moves)
      (still a.out b.out c.out (report_text S.plan.program r.lines) does.told h.told)
      (kept_front r.traffic [] (report_text S.plan.program r.lines) r.pieces r.logged (lines_text S.plan.program s.logged) b c does h)
  submit_half_ends end.Done count old new b c below r goes h = absurd h
  submit_half_ends end.Unanswered count old new b c below r goes h = absurd h
  submit_half_ends end.LinkFault count old new b c below r goes h = absurd h

  half_ends : (e : SubmitEnd) (count : ℕ) (mid new : CoordNode) (c d : Seen) → count < turns → Halved S logs number requests count mid a c → HalfTakes (Err e) S logs mid new c d → Ends d e
  half_ends end.NoMemory count mid new c d below h t =
      let counted = h.counted in
      let few = t.1 in
      let all = does_still logs h.traffic (map receiving t.0) (report_text S.plan.program h.lines) (half_pieces S h.node true h.pieces) (lines_text S.plan.program h.logged) a c d h.does t.2 in
      wanted h.events h.node true t.0 h.run few (omega arith)
      (subst (λ l. Moves a.link d.link (l ++ map receiving t.0)) (sym (ap (λ (n : CoordNodeState). n.traffic) h.is)) all.moves)
      (subst (λ l. Adds a.out d.out (report_text S.plan.program l)) (sym (ap (λ (n : CoordNodeState). n.lines) h.is)) all.told)
      (subst (λ l. Keeps log (call begun d.book) (first_logged S ++ lines_text S.plan.program l)) (sym (ap (λ (n : CoordNodeState). n.logged) h.is))
      (kept (h.traffic ++ map receiving t.0) (report_text S.plan.program h.lines) (half_pieces S h.node true h.pieces) h.logged d all))
  half_ends end.LinkFault count mid new c d below h t =
      let counted = h.counted in
      let all = does_still logs h.traffic (receiving vain ∷ []) (report_text S.plan.program h.lines) (half_pieces S h.node true h.pieces) (lines_text S.plan.program h.logged) a c d h.does t in
      cut_off h.events h.node h.run h.goes (omega arith)
      (subst (λ l. Moves a.link d.link (l ++ receiving vain ∷ [])) (sym (ap (λ (n : CoordNodeState). n.traffic) h.is)) all.moves)
      (subst (λ l. Adds a.out d.out (report_text S.plan.program l)) (sym (ap (λ (n : CoordNodeState). n.lines) h.is)) all.told)
      (subst (λ l. Keeps log (call begun d.book) (first_logged S ++ lines_text S.plan.program l)) (sym (ap (λ (n : CoordNodeState). n.logged) h.is))
      (kept (h.traffic ++ receiving vain ∷ []) (report_text S.plan.program h.lines) (half_pieces S h.node true h.pieces) h.logged d all))
  half_ends end.SinkFault count mid new c d below h t =
      let counted = h.counted in
      let does = h.does in
      let fails = t.1 in
      let step = step_of_event S mid.coord t.0 in
      untold_reply h.events h.node t.0 h.run h.goes (omega arith)
      (subst (λ l. Moves a.link d.link (l ++ receive_of t.0 ∷ [])) (sym (ap (λ (n : CoordNodeState). n.traffic) h.is)) (Moves-trans a.link c.link d.link h.traffic (receive_of t.0 ∷ []) does.moves fails.moves))
      (subst (λ (n : CoordNodeState). AddsThenFront a.out d.out (report_text S.plan.program n.lines) (report_text S.plan.program (reply_lines (step_of_event S n.state t.0).answer))) (sym h.is)
      (AddsThenFront-behind a.out c.out d.out (report_text S.plan.program h.lines) (report_text S.plan.program (reply_lines step.answer)) does.told fails.told))
      (subst (λ (n : CoordNodeState). Keeps log (call begun d.book) (first_logged S ++ lines_text S.plan.program (n.logged ++ logged_of S n.state t.0))) (sym h.is)
      (kept_more h.traffic (receive_of t.0 ∷ []) (report_text S.plan.program h.lines) (report_text S.plan.program (reply_lines step.answer)) (half_pieces S h.node true h.pieces) h.logged (logged_of S mid.coord t.0) c d does fails))
  half_ends end.BookFault count mid new c d below h t =
      let counted = h.counted in
      let does = h.does in
      let fails = t.1 in
      unlogged_event h.events h.node t.0 (log_there (receive_of t.0 ∷ []) (lines_text S.plan.program (logged_of S mid.coord t.0)) c d fails) h.run h.goes (omega arith)
      (subst (λ l. Moves a.link d.link (l ++ receive_of t.0 ∷ [])) (sym (ap (λ (n : CoordNodeState). n.traffic) h.is)) (Moves-trans a.link c.link d.link h.traffic (receive_of t.0 ∷ []) does.moves fails.moves))
      (subst (λ l. Adds a.out d.out (report_text S.plan.program l)) (sym (ap (λ (n : CoordNodeState). n.lines) h.is)) (still a.out c.out d.out (report_text S.plan.program h.lines) does.told fails.told))
      (subst (λ (n : CoordNodeState). KeepsFront log (call begun d.book) (first_logged S ++ lines_text S.plan.program n.logged) (lines_text S.plan.program (logged_of S n.state t.0))) (sym h.is)
      (kept_front h.traffic (receive_of t.0 ∷ []) (report_text S.plan.program h.lines) (half_pieces S h.node true h.pieces) h.logged (lines_text S.plan.program (logged_of S mid.coord t.0)) c d does fails))
  half_ends end.Done count mid new c d below h t = absurd t
  half_ends end.Unanswered count mid new c d below h t = absurd t

  pub take_half_ends : (e : SubmitEnd) (count : ℕ) (old mid new : CoordNode) (b c d : Seen) → count < turns → CoordRanSo S logs number requests count old a b
      → false ≡ is_answered (coord_node_state_of old requests [] [] [] []) → HalfSubmits (Ok tt) S logs requests old mid b c → HalfTakes (Err e) S logs mid new c d → Ends d e
  take_half_ends e count old mid new b c d below r goes s t = half_ends e count mid new c d below (halved S logs number requests count old mid a b c r goes s) t

  -- all are answered, or all turns were taken
  pub submit_over : (e : SubmitEnd) (count : ℕ) (coord_node : CoordNode) (b : Seen) (out : Option (List ℕ)) → count ≤ turns → CoordRanSo S logs number requests count coord_node a b
      → (true ≡ is_answered (coord_node_state_of coord_node requests [] [] [] [])) ⊎ (count ≡ turns) → ClosesSubmit e (coord_node_state_of coord_node requests [] [] [] []) b.out out
      → Submits S number requests turns log (call_of a (record b { out = out })) (call begun b.book) e
  submit_over e count coord_node b out le r ends closes = go e closes
    where
      does : Does logs r.traffic (report_text S.plan.program r.lines) r.pieces (lines_text S.plan.program r.logged) a b
      does = r.does

      few : length r.events ≤ turns
      few = let counted = r.counted in omega arith

      last : (true ≡ is_answered (coord_node_state_of coord_node requests [] [] [] [])) ⊎ (count ≡ turns) → is_answered (coord_node_state_of coord_node requests [] [] [] []) ≡ false → count ≡ turns
      last (inl met) not = absurd (subst T (met ∙ not) tt)
      last (inr all) not = all

      whole : is_answered (coord_node_state_of coord_node requests r.messages r.traffic r.lines r.logged) ≡ false → length r.events ≡ turns
      whole not = r.counted ∙ last ends not

      in_log : Keeps log (call begun b.book) (first_logged S ++ lines_text S.plan.program r.logged)
      in_log = kept r.traffic (report_text S.plan.program r.lines) r.pieces r.logged b does

      go : (e : SubmitEnd) → ClosesSubmit e (coord_node_state_of coord_node requests [] [] [] []) b.out out → Submits S number requests turns log (call_of a (record b { out = out })) (call begun b.book) e
      go end.Done c =
          over r.events (coord_node_state_of coord_node requests r.messages r.traffic r.lines r.logged) end.Done (sym (ap (λ t. cond t end.Done end.Unanswered) c.0)) r.run few whole
          (λ done. each_answered S number requests r.events _ r.run c.0) does.moves (Adds-trans a.out b.out out _ _ does.told c.1) in_log
      go end.Unanswered c =
          over r.events (coord_node_state_of coord_node requests r.messages r.traffic r.lines r.logged) end.Unanswered (sym (ap (λ t. cond t end.Done end.Unanswered) c.0)) r.run few whole
          (λ done. absurd (cc)) does.moves (Adds-trans a.out b.out out _ _ does.told c.1) in_log
      go end.SinkFault c =
          untold_end r.events (coord_node_state_of coord_node requests r.messages r.traffic r.lines r.logged) r.run few whole does.moves (AddsThenFront-behind a.out b.out out _ _ does.told c) in_log
      go end.NoMemory c =
          wanted r.events (coord_node_state_of coord_node requests r.messages r.traffic r.lines r.logged) false [] r.run (omega arith) (omega (arith, few))
          (subst (Moves a.link b.link) (sym (append-nil r.traffic)) does.moves) (subst (λ o. Adds a.out o (report_text S.plan.program r.lines)) (sym c) does.told) in_log
      go end.LinkFault c = absurd c
      go end.BookFault c = absurd c

-- ---- behind a bind

-- a log could not be begun
pub begin_ends : (e : SubmitEnd) (S : NodeSetting) (number : ℕ) (requests : List Request) (turns : ℕ) (log : Option (List ℕ)) (node : NodeCall) (a b : BookView) → IsUnbound node → Begins (Err e) log (first_logged S) a b
    → BindsAndSubmits S number requests turns log node (call a b) e
begin_ends end.NoMemory S number requests turns log node a b none h = unready h.0 none h.1
begin_ends end.BookFault S number requests turns log node a b none (there, inl same) = unopened there none same
begin_ends end.BookFault S number requests turns log node a b none (there, inr front) = unlogged_node there none front
begin_ends end.Done S number requests turns log node a b none h = absurd h
begin_ends end.Unanswered S number requests turns log node a b none h = absurd h
begin_ends end.LinkFault S number requests turns log node a b none h = absurd h
begin_ends end.SinkFault S number requests turns log node a b none h = absurd h

-- a log is kept where a name is given
pub name_is_given : {X Y : Type 0} (f : X → Y) (o : Option X) → is_some (option_map f o) ≡ is_some o
name_is_given f None = refl
name_is_given f (Some x) = refl
