-- Submissions, one behind the other.
use Rattle.std.proofs.Common.{◌≡◌, ℕ, ◌+◌, ◌-◌, ◌<◌, ◌≤◌, ℤ, Bool, true, false, List, [], ◌∷◌, ◌++◌, length, length-drop, get_or, take, drop, refl, sym, ◌∙◌, ap, subst, append-nil, append_assoc, arith, Option, Some, None, Ok, Err, cond, if◌then◌else◌}
use Rattle.std.proofs.lemmas.Grind.{flat_map-append}
use Rattle.std.proofs.lemmas.List.{drop-drop}
use Rattle.std.proofs.Math.Seq.{drop-append_seam}
use Rattle.roc_sequence.proofs.Fronts.{rest_at, no_rest, front_whole}
use Rattle.std.specs.Result.{is_ok}
use Rattle.roc_base.specs.declared.id.TxnId.{TxnId}
use Rattle.roc_msg.specs.Outbox.{Collected}
use Rattle.roc_msg.specs.declared.outbox.Outgoing.{Outgoing}
use Rattle.roc_plan.specs.Groups.{Plan, is_view_of}
use Rattle.roc_program.specs.LookUps.{procedure_named}
use Rattle.roc_report.specs.Line.{Line, Submit}
use Rattle.roc_report.specs.Text.{line_text, lines_text as report_text}
use Rattle.roc_program.specs.Program.{Workload}
use Rattle.roc_log.specs.declared.line.LogLine.{LogLine}
use Rattle.roc_log.specs.declared.line.LogLine.TheVariants as log
use Rattle.roc_log.specs.LogLine.{log_line_text, lines_text}
use Rattle.roc_log.specs.Sent.{outs_logged}
use Rattle.roc_node.specs.NodeEvent.{NodeSetting}
use Rattle.roc_sched.specs.declared.line.Request.{Request}
use Rattle.roc_coord.specs.declared.handled.SubmitFault.{SubmitFault}
use Rattle.roc_coord.specs.State.{CoordState}
use Rattle.roc_coord.specs.Submit.{after_submit, refusal_of, refused_or_accepted, accepted, accepted_view, new_transaction, next_id, IsSubmitted, UnlessNoMemory}
use Rattle.roc_readonly.specs.Round.{first_round}
use Rattle.roc_node_submit.specs.declared.coord_node.CoordNode.{CoordNode}
use Rattle.roc_node_submit.specs.CoordRun.{Submissions, none_submitted, accepts, accepts_call, submitted, submitted_call, submitted_all, submit_lines, submission_logged}
use Rattle.roc_node_submit.specs.Inner.CoordTurn.{Gathered, gathered, Gathers, if_logged, SubmitsOne, SubmitsAccepted, RefusesOne, SubmitsSome}

-- ---- one request

pub refuses_nameless : (S : NodeSetting) (request : Request) (state : CoordState) (g : Gathered) (name : List ℕ) → name ≡ request.name → None ≡ procedure_named S.plan.program name → RefusesOne S request state state g g
refuses_nameless S request state g name same named = record {
  refused = ap (accepts_call S.plan state request.args) (ap (procedure_named S.plan.program) (sym same) ∙ sym named);
  state = refl;
  same = refl;
}

pub submits_call : (S : NodeSetting) (logs : Bool) (request : Request) (proc : ℕ) (id : TxnId) (old new : CoordState) (out_old out_new : Collected) (text_old text_new log_old log_new name : List ℕ) (args : List ℤ) (sends : List Outgoing)
    → name ≡ request.name → Some proc ≡ procedure_named S.plan.program name
    → args ≡ request.args → IsSubmitted (after_submit S.plan old proc args) (Ok id) new out_old out_new → text_new ≡ text_old ++ line_text S.plan.program (Submit id proc request.args)
    → sends ≡ drop (length out_old.messages) out_new.messages
    → log_new ≡ log_old ++ if_logged logs (lines_text S.plan.program (log.Submit proc request.args ∷ outs_logged S.header sends))
    → SubmitsAccepted S logs request old new (gathered out_old.messages text_old log_old) (gathered out_new.messages text_new log_new)
submits_call S logs request proc id old new out_old out_new text_old text_new log_old log_new name args sends same named given step text behind logged =
    let e : procedure_named S.plan.program request.name ≡ Some proc = ap (procedure_named S.plan.program) (sym same) ∙ sym named in
    let h = subst (λ a. IsSubmitted (after_submit S.plan old proc a) (Ok id) new out_old out_new) given step in
    let sub = after_submit S.plan old proc request.args in
    let lines : submit_lines proc request.args sub.answer ≡ Submit id proc request.args ∷ [] = ap (submit_lines proc request.args) (sym h.answer) in
    let sent : sends ≡ sub.sends = behind ∙ ap (drop (length out_old.messages)) h.sent.0 ∙ drop-append_seam out_old.messages sub.sends in
    let in_log : submission_logged S.header proc request.args sub.sends sub.answer ≡ log.Submit proc request.args ∷ outs_logged S.header sends =
    ap (submission_logged S.header proc request.args sub.sends) (sym h.answer) ∙ ap (λ l. log.Submit proc request.args ∷ outs_logged S.header l) (sym sent) in record {
      messages = sub.sends;
      lines = submit_lines proc request.args sub.answer;
      logged = submission_logged S.header proc request.args sub.sends sub.answer;
      accepted = ap (accepts_call S.plan old request.args) e ∙ ap is_ok (sym h.answer);
      is = ap (submitted_call S (none_submitted old) request.args) e
          ∙ ap (λ s. record { state = s; left = []; messages = sub.sends; lines = submit_lines proc request.args sub.answer; logged = submission_logged S.header proc request.args sub.sends sub.answer }) (sym h.state);
      gathers = record {
        outbox = h.sent.0;
        text = text ∙ ap (λ l. text_old ++ l) (sym (append-nil (line_text S.plan.program (Submit id proc request.args))) ∙ ap (report_text S.plan.program) (sym lines));
        log = logged ∙ ap (λ l. log_old ++ if_logged logs (lines_text S.plan.program l)) (sym in_log);
      };
    }

-- a call that is refused changes nothing
refused_stays : (plan : Plan) (s : CoordState) (proc : ℕ) (args : List ℤ) (fault : SubmitFault) (why : Option SubmitFault) → Err fault ≡ (refused_or_accepted plan s proc args why).answer
    → ((refused_or_accepted plan s proc args why).state ≡ s) × ((refused_or_accepted plan s proc args why).sends ≡ [])
refused_stays plan s proc args fault (Some other) e = (refl, refl)
refused_stays plan s proc args fault None e = absurd (given (is_view_of plan proc) e)
  where
    given : (b : Bool) → Err fault ≡ (if b then accepted_view plan s (first_round (next_id s) proc args) else accepted plan s (new_transaction s proc args)).answer → ⊥
    given true e = absurd (cc)
    given false e = absurd (cc)

refuses_call : (S : NodeSetting) (request : Request) (proc : ℕ) (fault : SubmitFault) (old new : CoordState) (out_old out_new : Collected) (text log name : List ℕ) (args : List ℤ) → name ≡ request.name → Some proc ≡ procedure_named S.plan.program name
    → args ≡ request.args → IsSubmitted (after_submit S.plan old proc args) (Err fault) new out_old out_new
    → RefusesOne S request old new (gathered out_old.messages text log) (gathered out_new.messages text log)
refuses_call S request proc fault old new out_old out_new text log name args same named given step =
    let e : procedure_named S.plan.program request.name ≡ Some proc = ap (procedure_named S.plan.program) (sym same) ∙ sym named in
    let h = subst (λ a. IsSubmitted (after_submit S.plan old proc a) (Err fault) new out_old out_new) given step in
    let stays = refused_stays S.plan old proc request.args fault (refusal_of S.plan old proc request.args) h.answer in record {
      refused = ap (accepts_call S.plan old request.args) e ∙ ap is_ok (sym h.answer);
      state = h.state ∙ stays.0;
      same = ap (λ l. gathered l text log) (h.sent.0 ∙ ap (λ l. out_old.messages ++ l) stays.1 ∙ append-nil out_old.messages);
    }

-- the same of a fault that is told by what it equals, where that fault promises the step
pub refuses : (S : NodeSetting) (request : Request) (proc : ℕ) (fault kind : SubmitFault) (old new : CoordState) (out_old out_new : Collected) (text log name : List ℕ) (args : List ℤ) → name ≡ request.name → Some proc ≡ procedure_named S.plan.program name
    → args ≡ request.args → fault ≡ kind → UnlessNoMemory (Err fault) (IsSubmitted (after_submit S.plan old proc args) (Err fault) new out_old out_new)
    → (UnlessNoMemory (Err kind) (IsSubmitted (after_submit S.plan old proc args) (Err kind) new out_old out_new) → IsSubmitted (after_submit S.plan old proc args) (Err kind) new out_old out_new)
    → RefusesOne S request old new (gathered out_old.messages text log) (gathered out_new.messages text log)
refuses S request proc fault kind old new out_old out_new text log name args same named given is step promised =
    refuses_call S request proc kind old new out_old out_new text log name args same named given
    (promised (subst (λ (f : SubmitFault). UnlessNoMemory (Err f) (IsSubmitted (after_submit S.plan old proc args) (Err f) new out_old out_new)) is step))

-- what one request did, once it is known which
accepted_one : (S : NodeSetting) (logs : Bool) (request : Request) (old new : CoordState) (g h : Gathered) (accepted : Bool) → SubmitsOne accepted S logs request old new g h → accepted ≡ true → SubmitsAccepted S logs request old new g h
accepted_one S logs request old new g h true one e = one
accepted_one S logs request old new g h false one e = absurd (cc)

refused_one : (S : NodeSetting) (logs : Bool) (request : Request) (old new : CoordState) (g h : Gathered) (accepted : Bool) → SubmitsOne accepted S logs request old new g h → accepted ≡ false → RefusesOne S request old new g h
refused_one S logs request old new g h false one e = one
refused_one S logs request old new g h true one e = absurd (cc)

-- ---- several

-- the same, with these before its own
abbrev pub submissions_behind : List Outgoing → List Line → List LogLine → Submissions → Submissions
submissions_behind messages lines logged s = record s { messages = messages ++ s.messages; lines = lines ++ s.lines; logged = logged ++ s.logged }

abbrev made : CoordState → List Request → List Outgoing → List Line → List LogLine → Submissions
made state left messages lines logged = record { state = state; left = left; messages = messages; lines = lines; logged = logged }

call_behind : (S : NodeSetting) (messages : List Outgoing) (lines : List Line) (logged : List LogLine) (state : CoordState) (args : List ℤ) (o : Option ℕ)
    → submitted_call S (made state [] messages lines logged) args o ≡ submissions_behind messages lines logged (submitted_call S (none_submitted state) args o)
call_behind S messages lines logged state args None =
    ap (λ l. made state [] l lines logged) (sym (append-nil messages))
    ∙ ap (λ l. made state [] (messages ++ []) l logged) (sym (append-nil lines))
    ∙ ap (made state [] (messages ++ []) (lines ++ [])) (sym (append-nil logged))
call_behind S messages lines logged state args (Some proc) = refl

if_logged-append : (logs : Bool) (some more : List ℕ) → if_logged logs some ++ if_logged logs more ≡ if_logged logs (some ++ more)
if_logged-append true some more = refl
if_logged-append false some more = refl

gathers_none : (program : Workload) (logs : Bool) (g : Gathered) → Gathers program logs [] [] [] g g
gathers_none program logs g = record { outbox = sym (append-nil g.messages); text = sym (append-nil g.text); log = sym (append-nil g.log) ∙ ap (λ l. g.log ++ l) (go logs) }
  where
    go : (logs : Bool) → [] ≡ if_logged logs []
    go true = refl
    go false = refl

gathers_more : (program : Workload) (logs : Bool) (messages more : List Outgoing) (lines next : List Line) (logged later : List LogLine) (g h i : Gathered)
    → Gathers program logs messages lines logged g h → Gathers program logs more next later h i → Gathers program logs (messages ++ more) (lines ++ next) (logged ++ later) g i
gathers_more program logs messages more lines next logged later g h i p q = record {
  outbox = q.outbox ∙ ap (λ l. l ++ more) p.outbox ∙ append_assoc g.messages messages more;
  text = q.text ∙ ap (λ l. l ++ report_text program next) p.text ∙ append_assoc g.text (report_text program lines) (report_text program next)
      ∙ ap (λ l. g.text ++ l) (sym (flat_map-append (line_text program) lines next));
  log = q.log ∙ ap (λ l. l ++ if_logged logs (lines_text program later)) p.log ∙ append_assoc g.log (if_logged logs (lines_text program logged)) (if_logged logs (lines_text program later))
      ∙ ap (λ l. g.log ++ l) (if_logged-append logs (lines_text program logged) (lines_text program later) ∙ ap (if_logged logs) (sym (flat_map-append (log_line_text program) logged later)));
}

-- so many requests were submitted, and what comes of all is what comes of those left, from here
pub record SubmittedSo (S : NodeSetting) (logs : Bool) (items : List Request) (count : ℕ) (start now : CoordState) (before after : Gathered) : Type 0 where
  pub messages : List Outgoing
  pub lines : List Line
  pub logged : List LogLine
  pub is : submitted_all S (none_submitted start) items ≡ submitted_all S (made now [] messages lines logged) (drop count items)
  pub gathers : Gathers S.plan.program logs messages lines logged before after

pub so_none : (S : NodeSetting) (logs : Bool) (items : List Request) (state : CoordState) (g : Gathered) → SubmittedSo S logs items 0 state state g g
so_none S logs items state g = record { messages = []; lines = []; logged = []; is = refl; gathers = gathers_none S.plan.program logs g }

all_step : (S : NodeSetting) (s : Submissions) (request : Request) (rest : List Request) (b : Bool) → accepts S.plan s.state request ≡ b
    → submitted_all S s (request ∷ rest) ≡ cond b (submitted_all S (submitted S s request) rest) (record s { left = request ∷ rest })
unfolding submitted_all
all_step S s request rest b e = ap (λ t. cond t (submitted_all S (submitted S s request) rest) (record s { left = request ∷ rest })) e

all_over : (S : NodeSetting) (s : Submissions) → submitted_all S s [] ≡ record s { left = [] }
unfolding submitted_all
all_over S s = refl

so_more : (S : NodeSetting) (logs : Bool) (items : List Request) (count : ℕ) (request : Request) (start now next : CoordState) (g h i : Gathered) → count < length items → request ≡ get_or items count request
    → SubmittedSo S logs items count start now g h → SubmitsAccepted S logs request now next h i → SubmittedSo S logs items (count + 1) start next g i
so_more S logs items count request start now next g h i below is so one =
    let s : Submissions = made now [] so.messages so.lines so.logged in
    let rest : drop count items ≡ request ∷ drop (count + 1) items = rest_at items count request below ∙ ap (λ r. r ∷ drop (count + 1) items) (sym is) in record {
      messages = so.messages ++ one.messages;
      lines = so.lines ++ one.lines;
      logged = so.logged ++ one.logged;
      is = so.is ∙ ap (submitted_all S s) rest ∙ all_step S s request (drop (count + 1) items) true one.accepted
          ∙ ap (λ t. submitted_all S t (drop (count + 1) items)) (call_behind S so.messages so.lines so.logged now request.args (procedure_named S.plan.program request.name) ∙ ap (submissions_behind so.messages so.lines so.logged) one.is);
      gathers = gathers_more S.plan.program logs so.messages one.messages so.lines one.lines so.logged one.logged g h i so.gathers one.gathers;
    }

-- the next request is refused, and so it is left with all behind it
so_refused : (S : NodeSetting) (logs : Bool) (items : List Request) (count : ℕ) (request : Request) (start now : CoordState) (g h : Gathered)
    → count < length items → request ≡ get_or items count request → accepts S.plan now request ≡ false → (so : SubmittedSo S logs items count start now g h)
    → submitted_all S (none_submitted start) items ≡ made now (drop count items) so.messages so.lines so.logged
so_refused S logs items count request start now g h below is refused so =
    let s : Submissions = made now [] so.messages so.lines so.logged in
    let rest : drop count items ≡ request ∷ drop (count + 1) items = rest_at items count request below ∙ ap (λ r. r ∷ drop (count + 1) items) (sym is) in
    so.is ∙ ap (submitted_all S s) rest ∙ all_step S s request (drop (count + 1) items) false refused ∙ ap (λ l. record s { left = l }) (sym rest)

so_all : (S : NodeSetting) (logs : Bool) (items : List Request) (count : ℕ) (start now : CoordState) (g h : Gathered)
    → length items ≤ count → (so : SubmittedSo S logs items count start now g h)
    → submitted_all S (none_submitted start) items ≡ made now (drop count items) so.messages so.lines so.logged
so_all S logs items count start now g h over so =
    let s : Submissions = made now [] so.messages so.lines so.logged in
    let none = no_rest items count over in
    so.is ∙ ap (submitted_all S s) none ∙ all_over S s ∙ ap (λ l. record s { left = l }) (sym none)

-- ---- the submissions before a turn

submits_some : (S : NodeSetting) (logs : Bool) (requests items : List Request) (count : ℕ) (old new : CoordNode) (g h : Gathered)
    → items ≡ drop old.next requests → new.next ≡ old.next + count → new.answered ≡ old.answered → (so : SubmittedSo S logs items count old.coord new.coord g h)
    → submitted_all S (none_submitted old.coord) items ≡ made new.coord (drop count items) so.messages so.lines so.logged
    → SubmitsSome S logs requests old new g h
submits_some S logs requests items count old new g h from next answered so all = record {
  messages = so.messages;
  lines = so.lines;
  logged = so.logged;
  is = ap (submitted_all S (none_submitted old.coord)) (sym from) ∙ all
      ∙ ap (λ l. made new.coord l so.messages so.lines so.logged)
      (ap (drop count) from ∙ drop-drop count old.next requests ∙ ap (λ n. drop n requests) (sym next));
  answered = answered;
  gathers = so.gathers;
}

pub some_refused : (S : NodeSetting) (logs : Bool) (requests items : List Request) (count : ℕ) (request : Request) (old now new : CoordNode) (g h i : Gathered)
    → items ≡ drop old.next requests → now.next ≡ old.next + count → now.answered ≡ old.answered → SubmittedSo S logs items count old.coord now.coord g h
    → count < length items → request ≡ get_or items count request
    → (accepted : Bool) → SubmitsOne accepted S logs request now.coord new.coord h i → accepted ≡ false
    → new.next ≡ now.next → new.answered ≡ now.answered
    → SubmitsSome S logs requests old new g i
some_refused S logs requests items count request old now new g h i from next answered so below is accepted some refused same_next same_answered =
    let one = refused_one S logs request now.coord new.coord h i accepted some refused in
    let stands : SubmittedSo S logs items count old.coord new.coord g i = record {
      messages = so.messages;
      lines = so.lines;
      logged = so.logged;
      is = so.is ∙ ap (λ c. submitted_all S (made c [] so.messages so.lines so.logged) (drop count items)) (sym one.state);
      gathers = subst (Gathers S.plan.program logs so.messages so.lines so.logged g) (sym one.same) so.gathers;
    } in
    submits_some S logs requests items count old new g i from (same_next ∙ next) (same_answered ∙ answered) stands
    (so_refused S logs items count request old.coord new.coord g i below is (ap (λ c. accepts S.plan c request) one.state ∙ one.refused) stands)

pub some_all : (S : NodeSetting) (logs : Bool) (requests items : List Request) (count : ℕ) (old new : CoordNode) (g h : Gathered)
    → items ≡ drop old.next requests → new.next ≡ old.next + count → new.answered ≡ old.answered → SubmittedSo S logs items count old.coord new.coord g h
    → length items ≤ count → SubmitsSome S logs requests old new g h
some_all S logs requests items count old new g h from next answered so over =
    submits_some S logs requests items count old new g h from next answered so (so_all S logs items count old.coord new.coord g h over so)

pub some_more : (S : NodeSetting) (logs : Bool) (items : List Request) (count : ℕ) (request : Request) (start now next : CoordState) (g h i : Gathered)
    → count < length items → request ≡ get_or items count request → SubmittedSo S logs items count start now g h
    → (accepted : Bool) → SubmitsOne accepted S logs request now next h i → accepted ≡ true → SubmittedSo S logs items (count + 1) start next g i
some_more S logs items count request start now next g h i below is so accepted some said =
    so_more S logs items count request start now next g h i below is so (accepted_one S logs request now next h i accepted some said)

-- what stands from a place on
pub items_are : {A : Type 0} (xs : List A) (n : ℕ) → take (length xs - n) (drop n xs) ≡ drop n xs
items_are xs n = front_whole (drop n xs) (length xs - n) (let l = length-drop n xs in omega arith)
