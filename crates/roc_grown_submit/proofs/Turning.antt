-- One turn of a coordinator's node after another
use Rattle.std.proofs.Common.{◌≡◌, ℕ, ◌+◌, Bool, true, false, List, [], ◌∷◌, ◌++◌, length, drop, map, refl, sym, ◌∙◌, ap, subst, append-nil, append_assoc, length-append, Option, Result, Ok, Err}
use Rattle.std.specs.Prelude.{IfOk}
use Rattle.roc_epoch.specs.declared.file.File.{File}
use Rattle.roc_grown.specs.Coord.{GrownCoordState, first_grown_coord}
use Rattle.roc_grown_node.specs.Judgement.{grown_judged}
use Rattle.roc_grown_node.specs.Posting.{Filed, filed}
use Rattle.roc_grown_node.specs.Setting.{GrownNodeSetting}
use Rattle.roc_grown_node.specs.declared.judging.GrownJudged.{GrownJudged}
use Rattle.roc_grown_node.specs.declared.judging.GrownJudged.TheVariants.{Delivery}
use Rattle.roc_grown_submit.specs.GrownCoordRun.{GrownCoordNodeState, GrownSubmissions, IsGrownCoordRun, begun, goes_on, are_all_answered, grown_step_of_judged, grown_step_of_event}
use Rattle.roc_grown_submit.specs.GrownCoordRun.{grown_reply_lines, grown_answered_then}
use Rattle.roc_grown_submit.specs.GrownCoordRun.{with_grown_submissions, grown_submitted_node, grown_coord_took, grown_coord_turn}
use Rattle.roc_grown_submit.specs.GrownEnd.{naming}
use Rattle.roc_grown_submit.specs.GrownPieces.{grown_submissions_text, grown_reply_text, AreGrownWritten, none_written, turn_written, grown_half_pieces}
use Rattle.roc_grown_submit.specs.Inner.GrownTurn.{grown_node_of, bare_node, lines_then, Seen, Does, PutsOut, TakesStep, TakesHalf, SubmitsHalf, TakesEventDue, TakesOneHalf, HalfSubmits}
use Rattle.roc_grown_submit.specs.Inner.GrownTurn.{HalfTakes, GrownRanSo}
use Rattle.roc_grown_submit.specs.declared.coord_node.CoordNode.{CoordNode}
use Rattle.roc_grown_submit.specs.declared.coord_node.TurnOutput.{TurnOutput}
use Rattle.roc_io.proofs.Told.{Adds-nil, Adds-trans}
use Rattle.roc_io.specs.Call.{LinkView}
use Rattle.roc_io.specs.Link.{LinkEvent, sending, receiving, came, none_came, vain}
use Rattle.roc_io.specs.Observed.{Adds, AddsFront}
use Rattle.roc_io.specs.Sink.{AddsCut, text_piece}
use Rattle.roc_io.specs.declared.link.Addr.{Addr}
use Rattle.roc_msg.specs.declared.msg.Msg.{Msg}
use Rattle.roc_node.proofs.Moving.{Moves-trans, Moves-before, Moves-none}
use Rattle.roc_node.specs.Moves.{Moves}
use Rattle.roc_node.specs.NodeEvent.{NodeEvent, took, silent, receive_of}
use Rattle.roc_node_submit.specs.declared.ends.SubmitEnd.{SubmitEnd}
use Rattle.roc_node_submit.specs.declared.ends.SubmitEnd.TheVariants as end
use Rattle.roc_node_submit.proofs.Coords.{lines_behind}
use Rattle.roc_program.specs.Program.{Workload}
use Rattle.roc_report.specs.Line.{Line}
use Rattle.roc_report.specs.Text.{lines_text}
use Rattle.roc_sched.specs.declared.line.Request.{Request}
use Rattle.roc_wire.specs.declared.header.Header.{Header}

-- ---- all that is told

does_nothing : (a : Seen) → Does [] [] [] a a
does_nothing a = record { moves = Moves-none a.link a.link refl refl refl refl; told = Adds-nil a.out; in_pieces = Adds-nil a.pieces }

does_more : (traffic next : List LinkEvent) (text later : List ℕ) (pieces others : List (List ℕ)) (a b c : Seen) → Does traffic text pieces a b → Does next later others b c
    → Does (traffic ++ next) (text ++ later) (pieces ++ others) a c
does_more traffic next text later pieces others a b c p q = record {
  moves = Moves-trans a.link b.link c.link traffic next p.moves q.moves;
  told = Adds-trans a.out b.out c.out text later p.told q.told;
  in_pieces = Adds-trans a.pieces b.pieces c.pieces pieces others p.in_pieces q.in_pieces;
}

-- only the link moved behind it
pub does_still : (traffic next : List LinkEvent) (text : List ℕ) (pieces : List (List ℕ)) (a b c : Seen) → Does traffic text pieces a b → Does next [] [] b c → Does (traffic ++ next) text pieces a c
does_still traffic next text pieces a b c p q =
    subst (λ t. Does (traffic ++ next) t pieces a c) (append-nil text)
    (subst (λ w. Does (traffic ++ next) (text ++ []) w a c) (append-nil pieces) (does_more traffic next text [] pieces [] a b c p q))

-- ---- one receive

-- a delivery was taken as its message
pub as_judged : {E : Type 0} (r : Result TurnOutput E) (S : GrownNodeSetting) (old new : CoordNode) (from : Header) (file : File) (msg : Msg) (j : GrownJudged) → Delivery from file msg ≡ j
    → IfOk r (TakesStep S (grown_step_of_judged S old.coord (Delivery from file msg)) old new) → IfOk r (TakesStep S (grown_step_of_judged S old.coord j) old new)
as_judged r S old new from file msg j is takes = subst (λ k. IfOk r (TakesStep S (grown_step_of_judged S old.coord k) old new)) is takes

-- the same, where it is known of which switch
pub judged_at : {E : Type 0} (r : Result TurnOutput E) (S : GrownNodeSetting) (old new : CoordNode) (bytes : List ℕ) (switched : Bool) → switched ≡ old.coord.switched
    → IfOk r (TakesStep S (grown_step_of_judged S old.coord (grown_judged S switched bytes)) old new) → IfOk r (TakesStep S (grown_step_of_judged S old.coord (grown_judged S old.coord.switched bytes)) old new)
judged_at r S old new bytes switched is takes = subst (λ b. IfOk r (TakesStep S (grown_step_of_judged S old.coord (grown_judged S b bytes)) old new)) is takes

pub due_packet : (S : GrownNodeSetting) (old new : CoordNode) (output : TurnOutput) (from : Addr) (bytes taken : List ℕ) (a b : LinkView) → bytes ≡ taken
    → TakesStep S (grown_step_of_judged S old.coord (grown_judged S old.coord.switched bytes)) old new output
    → Moves a b (receiving (came (record { address = from; bytes = taken })) ∷ []) → TakesEventDue S old new output a b
due_packet S old new output from bytes taken a b same takes moves = record {
  event = took (record { address = from; bytes = taken });
  takes = subst (λ l. TakesStep S (grown_step_of_judged S old.coord (grown_judged S old.coord.switched l)) old new output) same takes;
  moves = moves;
}

pub due_silence : (S : GrownNodeSetting) (old new : CoordNode) (output : TurnOutput) (a b : LinkView) → TakesHalf S silent old new output → Moves a b (receiving none_came ∷ []) → TakesEventDue S old new output a b
due_silence S old new output a b takes moves = record { event = silent; takes = takes; moves = moves }

-- the link moved alone
moved : (traffic : List LinkEvent) (a b : Seen) → Moves a.link b.link traffic → b.out ≡ a.out → b.pieces ≡ a.pieces → Does traffic [] [] a b
moved traffic a b moves out pieces = record {
  moves = moves;
  told = subst (λ o. Adds a.out o []) (sym out) (Adds-nil a.out);
  in_pieces = subst (λ o. Adds a.pieces o []) (sym pieces) (Adds-nil a.pieces);
}

-- nothing came of it
pub half_fails : (e : SubmitEnd) (S : GrownNodeSetting) (old new : CoordNode) (a b : LinkView) (out : Option (List ℕ)) (pieces : Option (List (List ℕ))) → TakesOneHalf (Err e) S old new a b
    → HalfTakes (Err e) S old new (record { link = a; out = out; pieces = pieces }) (record { link = b; out = out; pieces = pieces })
half_fails end.NoMemory S old new a b out pieces h =
    (h.0, h.1, moved (map receiving h.0) (record { link = a; out = out; pieces = pieces }) (record { link = b; out = out; pieces = pieces }) h.2 refl refl)
half_fails end.LinkFault S old new a b out pieces h =
    moved (receiving vain ∷ []) (record { link = a; out = out; pieces = pieces }) (record { link = b; out = out; pieces = pieces }) h refl refl
half_fails end.Done S old new a b out pieces h = absurd h
half_fails end.Unanswered S old new a b out pieces h = absurd h
half_fails end.SinkFault S old new a b out pieces h = absurd h
half_fails end.BookFault S old new a b out pieces h = absurd h

-- what became of what was due for the submissions before a turn
pub half_submits : (r : Result (Unit {0}) SubmitEnd) (S : GrownNodeSetting) (requests later : List Request) (old new : CoordNode) (output : TurnOutput) (a b : Seen) → SubmitsHalf S requests later old new output
    → PutsOut r output a b → HalfSubmits r S requests later old new a b
half_submits (Ok u) S requests later old new output a b h p = (output, h, p)
half_submits (Err end.SinkFault) S requests later old new output a b h p =
    let shows = h.shows ∙ ap (λ (s : GrownSubmissions). lines_text (naming S) s.lines) (sym h.is) in
    record { moves = p.moves; told = subst (AddsFront a.out b.out) shows p.told; in_pieces = subst (AddsCut a.pieces b.pieces []) shows p.in_pieces }
half_submits (Err end.Done) S requests later old new output a b h p = absurd p
half_submits (Err end.Unanswered) S requests later old new output a b h p = absurd p
half_submits (Err end.LinkFault) S requests later old new output a b h p = absurd p
half_submits (Err end.BookFault) S requests later old new output a b h p = absurd p
half_submits (Err end.NoMemory) S requests later old new output a b h p = absurd p

-- what became of what was due for an event
pub half_takes : (r : Result (Unit {0}) SubmitEnd) (S : GrownNodeSetting) (old new : CoordNode) (output : TurnOutput) (m : LinkView) (a b : Seen) → TakesEventDue S old new output a.link m
    → PutsOut r output (record a { link = m }) b → HalfTakes r S old new a b
half_takes (Ok u) S old new output m a b h p =
    (h.event, output, h.takes, record { moves = Moves-trans a.link m b.link (receive_of h.event ∷ []) (map sending output.sends.items) h.moves p.moves; told = p.told; in_pieces = p.in_pieces })
half_takes (Err end.SinkFault) S old new output m a b h p =
    let takes = h.takes in
    (h.event, record { moves = Moves-before a.link m b.link (receive_of h.event ∷ []) h.moves p.moves; told = subst (AddsFront a.out b.out) takes.shows p.told; in_pieces = subst (AddsCut a.pieces b.pieces []) takes.shows p.in_pieces })
half_takes (Err end.Done) S old new output m a b h p = absurd p
half_takes (Err end.Unanswered) S old new output m a b h p = absurd p
half_takes (Err end.LinkFault) S old new output m a b h p = absurd p
half_takes (Err end.BookFault) S old new output m a b h p = absurd p
half_takes (Err end.NoMemory) S old new output m a b h p = absurd p

-- ---- a whole turn

abbrev node_at : GrownCoordState → (left later : List Request) → List Filed → List LinkEvent → List Line → ℕ → GrownCoordNodeState
node_at state left later messages traffic lines answered = record { state = state; left = left; later = later; messages = messages; traffic = traffic; lines = lines; answered = answered }

pub grown_ran_none : (S : GrownNodeSetting) (number : ℕ) (requests later : List Request) (coord_node : CoordNode) (a : Seen) → coord_node ≡ record { coord = first_grown_coord number; first = 0; second = 0; answered = 0 }
    → GrownRanSo S number requests later 0 coord_node a a
grown_ran_none S number requests later coord_node a is = record {
  events = [];
  messages = [];
  traffic = [];
  lines = [];
  counted = refl;
  run = subst (λ d. IsGrownCoordRun S number requests later [] (grown_node_of d requests later [] [] [])) (sym is) begun;
  pieces = [];
  written = subst (λ d. AreGrownWritten S number requests later [] (grown_node_of d requests later [] [] []) []) (sym is) none_written;
  does = does_nothing a;
}

-- what a node is behind the submissions of a turn
submitted_node : (S : GrownNodeSetting) (requests later : List Request) (old new : CoordNode) (output : TurnOutput) (messages : List Filed) (traffic : List LinkEvent) (lines : List Line)
    → (h : SubmitsHalf S requests later old new output)
    → grown_submitted_node S (grown_node_of old requests later messages traffic lines)
    ≡ grown_node_of new requests later (messages ++ map (filed new.coord.switched) h.messages) (traffic ++ map sending output.sends.items) (lines ++ h.lines)
submitted_node S requests later old new output messages traffic lines h =
    let sent = messages ++ map (filed new.coord.switched) h.messages in
    ap (λ (s : GrownSubmissions). with_grown_submissions S (grown_node_of old requests later messages traffic lines) s) h.is
    ∙ ap (λ p. node_at new.coord (drop new.first requests) (drop new.second later) sent (traffic ++ map sending p) (lines ++ h.lines) old.answered) (sym h.gives)
    ∙ ap (node_at new.coord (drop new.first requests) (drop new.second later) sent (traffic ++ map sending output.sends.items) (lines ++ h.lines)) (sym h.answered)

-- what a node is behind an event
took_node : (S : GrownNodeSetting) (requests later : List Request) (event : NodeEvent) (old new : CoordNode) (output : TurnOutput) (messages : List Filed) (traffic : List LinkEvent) (lines : List Line)
    → TakesHalf S event old new output
    → grown_coord_took S (grown_node_of old requests later messages traffic lines) event
    ≡ grown_node_of new requests later (messages ++ map (filed new.coord.switched) (grown_step_of_event S old.coord event).sends) ((traffic ++ receive_of event ∷ []) ++ map sending output.sends.items) (lines ++ lines_then S old.coord event)
took_node S requests later event old new output messages traffic lines h =
    let r = grown_step_of_event S old.coord event in
    let asked = traffic ++ receive_of event ∷ [] in
    let told = lines ++ grown_reply_lines r.answer in
    let count = grown_answered_then old.answered r.answer in
    let sent : GrownCoordState → List Filed = λ s. messages ++ map (filed s.switched) r.sends in
    ap (λ p. node_at r.state (drop old.first requests) (drop old.second later) (sent r.state) (asked ++ map sending p) told count) (sym h.gives)
    ∙ ap (λ c. node_at c (drop old.first requests) (drop old.second later) (sent c) (asked ++ map sending output.sends.items) told count) (sym h.state)
    ∙ ap (λ n. node_at new.coord (drop n requests) (drop old.second later) (sent new.coord) (asked ++ map sending output.sends.items) told count) (sym h.first)
    ∙ ap (λ n. node_at new.coord (drop new.first requests) (drop n later) (sent new.coord) (asked ++ map sending output.sends.items) told count) (sym h.second)
    ∙ ap (node_at new.coord (drop new.first requests) (drop new.second later) (sent new.coord) (asked ++ map sending output.sends.items) told) (sym h.answered)

-- lines behind others
told_more : (program : Workload) (traffic next : List LinkEvent) (lines more : List Line) (pieces others : List (List ℕ)) (text : List ℕ) (a b c : Seen) → text ≡ lines_text program more
    → Does traffic (lines_text program lines) pieces a b → Does next text others b c → Does (traffic ++ next) (lines_text program (lines ++ more)) (pieces ++ others) a c
told_more program traffic next lines more pieces others text a b c shows p q =
    subst (λ t. Does (traffic ++ next) t (pieces ++ others) a c) (ap (λ l. lines_text program lines ++ l) shows ∙ lines_behind program lines more)
    (does_more traffic next (lines_text program lines) text pieces others a b c p q)

-- behind the submissions of a turn: what the node is, and what was sent and written
pub record Halved (S : GrownNodeSetting) (number : ℕ) (requests later : List Request) (count : ℕ) (coord_node : CoordNode) (a b : Seen) : Type 0 where
  pub events : List NodeEvent
  pub node : GrownCoordNodeState
  pub messages : List Filed
  pub traffic : List LinkEvent
  pub lines : List Line
  pub counted : length events ≡ count
  pub run : IsGrownCoordRun S number requests later events node
  pub is : grown_submitted_node S node ≡ grown_node_of coord_node requests later messages traffic lines
  pub pieces : List (List ℕ)
  pub written : AreGrownWritten S number requests later events node pieces
  pub does : Does traffic (lines_text (naming S) lines) (grown_half_pieces S node true pieces) a b

pub halved : (S : GrownNodeSetting) (number : ℕ) (requests later : List Request) (count : ℕ) (old new : CoordNode) (a b c : Seen)
    → GrownRanSo S number requests later count old a b → HalfSubmits (Ok tt) S requests later old new b c → Halved S number requests later count new a c
halved S number requests later count old new a b c r h =
    let output = h.0 in let m = h.1 in record {
      events = r.events;
      node = grown_node_of old requests later r.messages r.traffic r.lines;
      messages = r.messages ++ map (filed new.coord.switched) m.messages;
      traffic = r.traffic ++ map sending output.sends.items;
      lines = r.lines ++ m.lines;
      counted = r.counted;
      run = r.run;
      is = submitted_node S requests later old new output r.messages r.traffic r.lines m;
      pieces = r.pieces;
      written = r.written;
      does = subst (λ t. Does (r.traffic ++ map sending output.sends.items) (lines_text (naming S) (r.lines ++ m.lines)) (r.pieces ++ text_piece t) a c)
          (m.shows ∙ ap (λ (s : GrownSubmissions). lines_text (naming S) s.lines) (sym m.is))
          (told_more (naming S) r.traffic (map sending output.sends.items) r.lines m.lines r.pieces (text_piece output.text.items) output.text.items a b c m.shows r.does h.2);
    }

-- it is not over, as the bare node tells
pub goes : (S : GrownNodeSetting) (number : ℕ) (requests later : List Request) (count : ℕ) (mid : CoordNode) (a c : Seen) (h : Halved S number requests later count mid a c) (over : Bool)
    → over ≡ are_all_answered (bare_node mid requests later) → are_all_answered (grown_submitted_node S h.node) ≡ over
goes S number requests later count mid a c h over is = ap are_all_answered h.is ∙ sym is

-- the node behind an event
turned : (S : GrownNodeSetting) (number : ℕ) (requests later : List Request) (count : ℕ) (mid new : CoordNode) (a c : Seen) (h : Halved S number requests later count mid a c) (event : NodeEvent) (output : TurnOutput)
    → TakesHalf S event mid new output
    → grown_coord_turn S h.node event
    ≡ grown_node_of new requests later (h.messages ++ map (filed new.coord.switched) (grown_step_of_event S mid.coord event).sends) ((h.traffic ++ receive_of event ∷ []) ++ map sending output.sends.items) (h.lines ++ lines_then S mid.coord event)
turned S number requests later count mid new a c h event output takes =
    ap (λ n. grown_coord_took S n event) h.is ∙ took_node S requests later event mid new output h.messages h.traffic h.lines takes

-- a whole turn
pub grown_ran_more : (S : GrownNodeSetting) (number : ℕ) (requests later : List Request) (count : ℕ) (old mid new : CoordNode) (a b c d : Seen)
    → GrownRanSo S number requests later count old a b → HalfSubmits (Ok tt) S requests later old mid b c → false ≡ are_all_answered (bare_node mid requests later)
    → HalfTakes (Ok tt) S mid new c d → GrownRanSo S number requests later (count + 1) new a d
grown_ran_more S number requests later count old mid new a b c d r s not t =
    let h = halved S number requests later count old mid a b c r s in
    let event = t.0 in let output = t.1 in let takes = t.2 in let step = grown_step_of_event S mid.coord event in let sends = map sending output.sends.items in
    let before = text_piece (grown_submissions_text S h.node) in
    let not_over = goes S number requests later count mid a c h false not in
    let reply : output.text.items ≡ grown_reply_text S h.node event =
    takes.shows ∙ ap (λ (n : GrownCoordNodeState). lines_text (naming S) (grown_reply_lines (grown_step_of_event S n.state event).answer)) (sym h.is) in record {
      events = h.events ++ event ∷ [];
      messages = h.messages ++ map (filed new.coord.switched) step.sends;
      traffic = (h.traffic ++ receive_of event ∷ []) ++ sends;
      lines = h.lines ++ lines_then S mid.coord event;
      counted = let e = h.counted in length-append h.events (event ∷ []) ∙ ap (λ n. n + 1) e;
      run = subst (IsGrownCoordRun S number requests later (h.events ++ event ∷ [])) (turned S number requests later count mid new a c h event output takes) (goes_on event h.run not_over);
      pieces = h.pieces ++ (before ++ text_piece (grown_reply_text S h.node event));
      written = subst (λ (n : GrownCoordNodeState). AreGrownWritten S number requests later (h.events ++ event ∷ []) n (h.pieces ++ (before ++ text_piece (grown_reply_text S h.node event))))
          (turned S number requests later count mid new a c h event output takes) (turn_written event h.written not_over);
      does = subst (λ l. Does l (lines_text (naming S) (h.lines ++ lines_then S mid.coord event)) (h.pieces ++ (before ++ text_piece (grown_reply_text S h.node event))) a d)
          (sym (append_assoc h.traffic (receive_of event ∷ []) sends))
          (subst (λ w. Does (h.traffic ++ receive_of event ∷ sends) (lines_text (naming S) (h.lines ++ lines_then S mid.coord event)) w a d)
          (append_assoc h.pieces before (text_piece output.text.items) ∙ ap (λ t. h.pieces ++ (before ++ text_piece t)) reply)
          (told_more (naming S) h.traffic (receive_of event ∷ sends) h.lines (lines_then S mid.coord event) (h.pieces ++ before) (text_piece output.text.items) output.text.items a c d takes.shows h.does t.3));
    }
