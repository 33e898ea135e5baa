-- One turn of a coordinator's node after another.
use Rattle.std.proofs.Common.{◌≡◌, ℕ, ◌+◌, Bool, true, false, List, [], ◌∷◌, ◌++◌, length, drop, map, refl, sym, ◌∙◌, ap, subst, append_assoc, length-append, Option, Result, Ok, Err}
use Rattle.roc_io.specs.declared.link.Addr.{Addr}
use Rattle.roc_io.specs.Link.{LinkEvent, sending, receiving, came, none_came, vain}
use Rattle.roc_io.specs.declared.sink.Written.TheVariants.{Failed}
use Rattle.roc_io.specs.Observed.{Adds, AddsFront}
use Rattle.roc_io.specs.Sink.{AddsCut, text_piece}
use Rattle.roc_io.proofs.Told.{Adds-nil}
use Rattle.roc_book.specs.Call.{BookView}
use Rattle.roc_log.specs.declared.line.LogLine.{LogLine}
use Rattle.roc_log.specs.LogLine.{log_line_text, lines_text}
use Rattle.std.proofs.lemmas.Grind.{flat_map-append}
use Rattle.roc_program.specs.Program.{Workload}
use Rattle.roc_coord.specs.State.{CoordState, first_coord}
use Rattle.roc_msg.specs.declared.outbox.Outgoing.{Outgoing}
use Rattle.roc_report.specs.Line.{Line}
use Rattle.roc_report.specs.Text.{line_text, lines_text as report_text}
use Rattle.roc_sched.specs.declared.line.Request.{Request}
use Rattle.roc_msg.specs.declared.msg.Msg.{Msg}
use Rattle.roc_wire.specs.declared.header.Header.{Header}
use Rattle.roc_node.specs.Judgement.{judged}
use Rattle.roc_node.specs.declared.judging.Judged.{Judged}
use Rattle.roc_node.specs.declared.judging.Judged.TheVariants.{Delivery}
use Rattle.std.specs.Prelude.{IfOk}
use Rattle.roc_io.specs.Call.{LinkView}
use Rattle.roc_node.specs.Moves.{Moves}
use Rattle.roc_node.specs.Posting.{none_heard, packets_for}
use Rattle.roc_node.proofs.Moving.{Moves-trans, Moves-before}
use Rattle.roc_node_submit.specs.declared.coord_node.CoordNode.{CoordNode}
use Rattle.roc_node_submit.specs.declared.coord_node.TurnOutput.{TurnOutput}
use Rattle.roc_node_submit.specs.declared.ends.SubmitEnd.{SubmitEnd}
use Rattle.roc_node_submit.specs.declared.ends.SubmitEnd.TheVariants as end
use Rattle.roc_node.specs.NodeEvent.{NodeEvent, took, silent, receive_of, NodeSetting}
use Rattle.roc_node_submit.specs.CoordRun.{CoordNodeState, Submissions, step_of_judged, step_of_event, reply_lines, datagram_logged, answered_then, with_submissions, IsCoordRun, begun, goes_on, is_answered, coord_submitted, coord_took, coord_turn}
use Rattle.roc_node_submit.specs.Pieces.{submissions_text, reply_text, AreWritten, none_written, turn_written, half_pieces}
use Rattle.roc_node_submit.specs.Inner.CoordTurn.{coord_node_state_of, if_logged, logged_of, submissions_from, Gains, GainsBy, Seen, Does, PutsOut, TakesStep, TakesHalf, SubmitsHalf, TakesEventDue, TakesOneHalf, HalfSubmits, HalfTakes, CoordRanSo}
use Rattle.roc_node_submit.proofs.Booked.{gains_nothing, does_nothing, does_more}

-- ---- one receive

-- a delivery was taken as its message
pub as_judged : {E : Type 0} (r : Result TurnOutput E) (S : NodeSetting) (logs : Bool) (old new : CoordNode) (bytes : List ℕ) (from : Header) (msg : Msg) (j : Judged) → Delivery from msg ≡ j
    → IfOk r (TakesStep S logs (step_of_judged S.plan old.coord (Delivery from msg)) (datagram_logged S.header bytes (step_of_judged S.plan old.coord (Delivery from msg)) (Delivery from msg)) old new)
    → IfOk r (TakesStep S logs (step_of_judged S.plan old.coord j) (datagram_logged S.header bytes (step_of_judged S.plan old.coord j) j) old new)
as_judged r S logs old new bytes from msg j is takes =
    subst (λ k. IfOk r (TakesStep S logs (step_of_judged S.plan old.coord k) (datagram_logged S.header bytes (step_of_judged S.plan old.coord k) k) old new)) is takes

pub due_packet : (S : NodeSetting) (logs : Bool) (old new : CoordNode) (output : TurnOutput) (from : Addr) (bytes taken : List ℕ) (a b : LinkView) → bytes ≡ taken
    → TakesStep S logs (step_of_judged S.plan old.coord (judged S.header.tag bytes)) (datagram_logged S.header bytes (step_of_judged S.plan old.coord (judged S.header.tag bytes)) (judged S.header.tag bytes)) old new output
    → Moves a b (receiving (came (record { address = from; bytes = taken })) ∷ []) → TakesEventDue S logs old new output a b
due_packet S logs old new output from bytes taken a b same takes moves = record {
  event = took (record { address = from; bytes = taken });
  takes = subst (λ l. TakesStep S logs (step_of_judged S.plan old.coord (judged S.header.tag l)) (datagram_logged S.header l (step_of_judged S.plan old.coord (judged S.header.tag l)) (judged S.header.tag l)) old new output) same takes;
  moves = moves;
}

pub due_silence : (S : NodeSetting) (logs : Bool) (old new : CoordNode) (output : TurnOutput) (a b : LinkView) → TakesHalf S logs silent old new output → Moves a b (receiving none_came ∷ []) → TakesEventDue S logs old new output a b
due_silence S logs old new output a b takes moves = record { event = silent; takes = takes; moves = moves }

-- the link moved alone
moved : (logs : Bool) (traffic : List LinkEvent) (a b : Seen) → Moves a.link b.link traffic → b.out ≡ a.out → b.pieces ≡ a.pieces → b.book ≡ a.book → Does logs traffic [] [] [] a b
moved logs traffic a b moves out pieces book = record {
  moves = moves;
  told = subst (λ o. Adds a.out o []) (sym out) (Adds-nil a.out);
  in_pieces = subst (λ o. Adds a.pieces o []) (sym pieces) (Adds-nil a.pieces);
  kept = subst (λ k. Gains logs a.book k []) (sym book) (gains_nothing logs a.book);
}

-- nothing came of it
pub half_fails : (e : SubmitEnd) (S : NodeSetting) (logs : Bool) (old new : CoordNode) (a b : LinkView) (out : Option (List ℕ)) (pieces : Option (List (List ℕ))) (book : BookView)
    → TakesOneHalf (Err e) S logs old new a b
    → HalfTakes (Err e) S logs old new (record { link = a; out = out; pieces = pieces; book = book }) (record { link = b; out = out; pieces = pieces; book = book })
half_fails end.NoMemory S logs old new a b out pieces book h =
    (h.0, h.1, moved logs (map receiving h.0) (record { link = a; out = out; pieces = pieces; book = book }) (record { link = b; out = out; pieces = pieces; book = book }) h.2 refl refl refl)
half_fails end.LinkFault S logs old new a b out pieces book h =
    moved logs (receiving vain ∷ []) (record { link = a; out = out; pieces = pieces; book = book }) (record { link = b; out = out; pieces = pieces; book = book }) h refl refl refl
half_fails end.Done S logs old new a b out pieces book h = absurd h
half_fails end.Unanswered S logs old new a b out pieces book h = absurd h
half_fails end.SinkFault S logs old new a b out pieces book h = absurd h
half_fails end.BookFault S logs old new a b out pieces book h = absurd h

-- what became of what was due for the submissions before a turn
pub half_submits : (r : Result (Unit {0}) SubmitEnd) (S : NodeSetting) (logs : Bool) (requests : List Request) (old new : CoordNode) (output : TurnOutput) (a b : Seen) → SubmitsHalf S logs requests old new output
    → ((log : List ℕ) → output.log.items ≡ if_logged logs log → PutsOut r logs output log a b) → HalfSubmits r S logs requests old new a b
half_submits r S logs requests old new output a b h puts = go r (puts (lines_text S.plan.program h.logged) h.keeps)
  where
    lines : report_text S.plan.program h.lines ≡ report_text S.plan.program (submissions_from S requests old).lines
    lines = ap (λ (s : Submissions). report_text S.plan.program s.lines) (sym h.is)

    logged : lines_text S.plan.program h.logged ≡ lines_text S.plan.program (submissions_from S requests old).logged
    logged = ap (λ (s : Submissions). lines_text S.plan.program s.logged) (sym h.is)

    go : (r : Result (Unit {0}) SubmitEnd) → PutsOut r logs output (lines_text S.plan.program h.logged) a b → HalfSubmits r S logs requests old new a b
    go (Ok u) p = (output, h, p)
    go (Err end.SinkFault) p = record {
      moves = p.moves;
      told = subst (AddsFront a.out b.out) (h.shows ∙ lines) p.told;
      in_pieces = subst (AddsCut a.pieces b.pieces []) (h.shows ∙ lines) p.in_pieces;
      kept = subst (Gains logs a.book b.book) logged p.kept;
    }
    go (Err end.BookFault) p = record { moves = p.moves; told = p.told; in_pieces = p.in_pieces; kept = subst (GainsBy Failed logs a.book b.book) logged p.kept }
    go (Err end.Done) p = absurd p
    go (Err end.Unanswered) p = absurd p
    go (Err end.LinkFault) p = absurd p
    go (Err end.NoMemory) p = absurd p

-- what became of what was due for an event
pub half_takes : (r : Result (Unit {0}) SubmitEnd) (S : NodeSetting) (logs : Bool) (old new : CoordNode) (output : TurnOutput) (m : LinkView) (a b : Seen) → TakesEventDue S logs old new output a.link m
    → ((log : List ℕ) → output.log.items ≡ if_logged logs log → PutsOut r logs output log (record a { link = m }) b) → HalfTakes r S logs old new a b
half_takes r S logs old new output m a b h puts = go r (puts (lines_text S.plan.program (logged_of S old.coord h.event)) takes.keeps)
  where
    takes : TakesHalf S logs h.event old new output
    takes = h.takes

    go : (r : Result (Unit {0}) SubmitEnd) → PutsOut r logs output (lines_text S.plan.program (logged_of S old.coord h.event)) (record a { link = m }) b → HalfTakes r S logs old new a b
    go (Ok u) p = (
      h.event,
      output,
      takes,
      record { moves = Moves-trans a.link m b.link (receive_of h.event ∷ []) (map sending output.sends.items) h.moves p.moves; told = p.told; in_pieces = p.in_pieces; kept = p.kept },
    )
    go (Err end.SinkFault) p = (
      h.event,
      record {
        moves = Moves-before a.link m b.link (receive_of h.event ∷ []) h.moves p.moves;
        told = subst (AddsFront a.out b.out) takes.shows p.told;
        in_pieces = subst (AddsCut a.pieces b.pieces []) takes.shows p.in_pieces;
        kept = p.kept;
      },
    )
    go (Err end.BookFault) p =
        (h.event, record { moves = Moves-before a.link m b.link (receive_of h.event ∷ []) h.moves p.moves; told = p.told; in_pieces = p.in_pieces; kept = p.kept })
    go (Err end.Done) p = absurd p
    go (Err end.Unanswered) p = absurd p
    go (Err end.LinkFault) p = absurd p
    go (Err end.NoMemory) p = absurd p

-- ---- a whole turn

abbrev made : CoordState → List Request → List Outgoing → List LinkEvent → List Line → List LogLine → ℕ → CoordNodeState
made state left messages traffic lines logged answered = record { state = state; left = left; messages = messages; traffic = traffic; lines = lines; logged = logged; answered = answered }

pub coord_ran_none : (S : NodeSetting) (logs : Bool) (number : ℕ) (requests : List Request) (coord_node : CoordNode) (a : Seen) → coord_node ≡ record { coord = first_coord number; next = 0; answered = 0 } → CoordRanSo S logs number requests 0 coord_node a a
coord_ran_none S logs number requests coord_node a is = record {
  events = [];
  messages = [];
  traffic = [];
  lines = [];
  logged = [];
  counted = refl;
  run = subst (λ d. IsCoordRun S number requests [] (coord_node_state_of d requests [] [] [] [])) (sym is) begun;
  pieces = [];
  written = subst (λ d. AreWritten S number requests [] (coord_node_state_of d requests [] [] [] []) []) (sym is) none_written;
  does = does_nothing logs a;
}

-- what a node is behind the submissions of a turn
submitted_node : (S : NodeSetting) (logs : Bool) (requests : List Request) (old new : CoordNode) (output : TurnOutput) (messages : List Outgoing) (traffic : List LinkEvent) (lines : List Line) (logged : List LogLine)
    → (h : SubmitsHalf S logs requests old new output)
    → coord_submitted S (coord_node_state_of old requests messages traffic lines logged)
    ≡ coord_node_state_of new requests (messages ++ h.messages) (traffic ++ map sending output.sends.items) (lines ++ h.lines) (logged ++ h.logged)
submitted_node S logs requests old new output messages traffic lines logged h =
    ap (λ (s : Submissions). with_submissions S (coord_node_state_of old requests messages traffic lines logged) s) h.is
    ∙ ap (λ p. made new.coord (drop new.next requests) (messages ++ h.messages) (traffic ++ map sending p) (lines ++ h.lines) (logged ++ h.logged) old.answered) (sym h.gives)
    ∙ ap (made new.coord (drop new.next requests) (messages ++ h.messages) (traffic ++ map sending output.sends.items) (lines ++ h.lines) (logged ++ h.logged)) (sym h.answered)

-- what a node is behind an event
took_node : (S : NodeSetting) (logs : Bool) (requests : List Request) (event : NodeEvent) (old new : CoordNode) (output : TurnOutput) (messages : List Outgoing) (traffic : List LinkEvent) (lines : List Line) (logged : List LogLine)
    → TakesHalf S logs event old new output
    → coord_took S (coord_node_state_of old requests messages traffic lines logged) event
    ≡ coord_node_state_of new requests (messages ++ (step_of_event S old.coord event).sends) ((traffic ++ receive_of event ∷ []) ++ map sending output.sends.items) (lines ++ reply_lines (step_of_event S old.coord event).answer)
    (logged ++ logged_of S old.coord event)
took_node S logs requests event old new output messages traffic lines logged h =
    let r = step_of_event S old.coord event in let asked = traffic ++ receive_of event ∷ [] in let all = logged ++ logged_of S old.coord event in
    ap (λ c. made c (drop old.next requests) (messages ++ r.sends) (asked ++ map sending (packets_for S.header S.cluster none_heard r.sends)) (lines ++ reply_lines r.answer) all (answered_then old.answered r.answer)) (sym h.state)
    ∙ ap (λ n. made new.coord (drop n requests) (messages ++ r.sends) (asked ++ map sending (packets_for S.header S.cluster none_heard r.sends)) (lines ++ reply_lines r.answer) all (answered_then old.answered r.answer)) (sym h.next)
    ∙ ap (λ p. made new.coord (drop new.next requests) (messages ++ r.sends) (asked ++ map sending p) (lines ++ reply_lines r.answer) all (answered_then old.answered r.answer)) (sym h.gives)
    ∙ ap (made new.coord (drop new.next requests) (messages ++ r.sends) (asked ++ map sending output.sends.items) (lines ++ reply_lines r.answer) all) (sym h.answered)

pub lines_behind : (program : Workload) (some more : List Line) → report_text program some ++ report_text program more ≡ report_text program (some ++ more)
lines_behind program some more = sym (flat_map-append (line_text program) some more)

pub logged_behind : (program : Workload) (some more : List LogLine) → lines_text program some ++ lines_text program more ≡ lines_text program (some ++ more)
logged_behind program some more = sym (flat_map-append (log_line_text program) some more)

-- lines behind others
told_more : (program : Workload) (logs : Bool) (traffic next : List LinkEvent) (lines more : List Line) (pieces others : List (List ℕ)) (logged later : List LogLine) (text : List ℕ) (a b c : Seen)
    → text ≡ report_text program more → Does logs traffic (report_text program lines) pieces (lines_text program logged) a b → Does logs next text others (lines_text program later) b c
    → Does logs (traffic ++ next) (report_text program (lines ++ more)) (pieces ++ others) (lines_text program (logged ++ later)) a c
told_more program logs traffic next lines more pieces others logged later text a b c shows p q =
    subst (λ t. Does logs (traffic ++ next) t (pieces ++ others) (lines_text program (logged ++ later)) a c) (ap (λ l. report_text program lines ++ l) shows ∙ lines_behind program lines more)
    (subst (λ l. Does logs (traffic ++ next) (report_text program lines ++ text) (pieces ++ others) l a c) (logged_behind program logged later)
    (does_more logs traffic next (report_text program lines) text pieces others (lines_text program logged) (lines_text program later) a b c p q))

-- behind the submissions of a turn: what the node is, and what was sent and written
pub record Halved (S : NodeSetting) (logs : Bool) (number : ℕ) (requests : List Request) (count : ℕ) (coord_node : CoordNode) (a b : Seen) : Type 0 where
  pub events : List NodeEvent
  pub node : CoordNodeState
  pub messages : List Outgoing
  pub traffic : List LinkEvent
  pub lines : List Line
  pub logged : List LogLine
  pub counted : length events ≡ count
  pub run : IsCoordRun S number requests events node
  pub goes : is_answered node ≡ false
  pub is : coord_submitted S node ≡ coord_node_state_of coord_node requests messages traffic lines logged
  pub pieces : List (List ℕ)
  pub written : AreWritten S number requests events node pieces
  pub does : Does logs traffic (report_text S.plan.program lines) (half_pieces S node true pieces) (lines_text S.plan.program logged) a b

pub halved : (S : NodeSetting) (logs : Bool) (number : ℕ) (requests : List Request) (count : ℕ) (old new : CoordNode) (a b c : Seen)
    → CoordRanSo S logs number requests count old a b → false ≡ is_answered (coord_node_state_of old requests [] [] [] []) → HalfSubmits (Ok tt) S logs requests old new b c
    → Halved S logs number requests count new a c
halved S logs number requests count old new a b c r goes h =
    let output = h.0 in let m = h.1 in record {
      events = r.events;
      node = coord_node_state_of old requests r.messages r.traffic r.lines r.logged;
      messages = r.messages ++ m.messages;
      traffic = r.traffic ++ map sending output.sends.items;
      lines = r.lines ++ m.lines;
      logged = r.logged ++ m.logged;
      counted = r.counted;
      run = r.run;
      goes = sym goes;
      is = submitted_node S logs requests old new output r.messages r.traffic r.lines r.logged m;
      pieces = r.pieces;
      written = r.written;
      does = subst (λ t. Does logs (r.traffic ++ map sending output.sends.items) (report_text S.plan.program (r.lines ++ m.lines)) (r.pieces ++ text_piece t) (lines_text S.plan.program (r.logged ++ m.logged)) a c)
          (m.shows ∙ ap (λ (s : Submissions). report_text S.plan.program s.lines) (sym m.is))
          (told_more S.plan.program logs r.traffic (map sending output.sends.items) r.lines m.lines r.pieces (text_piece output.text.items) r.logged m.logged output.text.items a b c m.shows r.does h.2);
    }

-- the node behind an event
turned : (S : NodeSetting) (logs : Bool) (number : ℕ) (requests : List Request) (count : ℕ) (mid new : CoordNode) (a c : Seen) (h : Halved S logs number requests count mid a c) (event : NodeEvent) (output : TurnOutput)
    → TakesHalf S logs event mid new output
    → coord_turn S h.node event
    ≡ coord_node_state_of new requests (h.messages ++ (step_of_event S mid.coord event).sends) ((h.traffic ++ receive_of event ∷ []) ++ map sending output.sends.items)
    (h.lines ++ reply_lines (step_of_event S mid.coord event).answer) (h.logged ++ logged_of S mid.coord event)
turned S logs number requests count mid new a c h event output takes =
    ap (λ n. coord_took S n event) h.is ∙ took_node S logs requests event mid new output h.messages h.traffic h.lines h.logged takes

-- a whole turn
pub coord_ran_more : (S : NodeSetting) (logs : Bool) (number : ℕ) (requests : List Request) (count : ℕ) (old mid new : CoordNode) (a b c d : Seen)
    → CoordRanSo S logs number requests count old a b → false ≡ is_answered (coord_node_state_of old requests [] [] [] []) → HalfSubmits (Ok tt) S logs requests old mid b c
    → HalfTakes (Ok tt) S logs mid new c d → CoordRanSo S logs number requests (count + 1) new a d
coord_ran_more S logs number requests count old mid new a b c d r goes s t =
    let h = halved S logs number requests count old mid a b c r goes s in
    let event = t.0 in let output = t.1 in let takes = t.2 in let step = step_of_event S mid.coord event in let sends = map sending output.sends.items in
    let before = text_piece (submissions_text S h.node) in
    let reply : output.text.items ≡ reply_text S h.node event =
    takes.shows ∙ ap (λ (n : CoordNodeState). report_text S.plan.program (reply_lines (step_of_event S n.state event).answer)) (sym h.is) in record {
      events = h.events ++ event ∷ [];
      messages = h.messages ++ step.sends;
      traffic = (h.traffic ++ receive_of event ∷ []) ++ sends;
      lines = h.lines ++ reply_lines step.answer;
      logged = h.logged ++ logged_of S mid.coord event;
      counted = let e = h.counted in length-append h.events (event ∷ []) ∙ ap (λ n. n + 1) e;
      run = subst (IsCoordRun S number requests (h.events ++ event ∷ [])) (turned S logs number requests count mid new a c h event output takes) (goes_on event h.run h.goes);
      pieces = h.pieces ++ (before ++ text_piece (reply_text S h.node event));
      written = subst (λ (n : CoordNodeState). AreWritten S number requests (h.events ++ event ∷ []) n (h.pieces ++ (before ++ text_piece (reply_text S h.node event))))
          (turned S logs number requests count mid new a c h event output takes) (turn_written event h.written h.goes);
      does = subst (λ l. Does logs l (report_text S.plan.program (h.lines ++ reply_lines step.answer)) (h.pieces ++ (before ++ text_piece (reply_text S h.node event)))
          (lines_text S.plan.program (h.logged ++ logged_of S mid.coord event)) a d)
          (sym (append_assoc h.traffic (receive_of event ∷ []) sends))
          (subst (λ w. Does logs (h.traffic ++ receive_of event ∷ sends) (report_text S.plan.program (h.lines ++ reply_lines step.answer)) w (lines_text S.plan.program (h.logged ++ logged_of S mid.coord event)) a d)
          (append_assoc h.pieces before (text_piece output.text.items) ∙ ap (λ t. h.pieces ++ (before ++ text_piece t)) reply)
          (told_more S.plan.program logs h.traffic (receive_of event ∷ sends) h.lines (reply_lines step.answer) (h.pieces ++ before) (text_piece output.text.items) h.logged (logged_of S mid.coord event)
          output.text.items a c d takes.shows h.does t.3));
    }
