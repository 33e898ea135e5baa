-- A drain and submissions, one behind the other
use Rattle.std.proofs.Common.{◌≡◌, ℕ, ◌+◌, ◌-◌, ◌<◌, ◌≤◌, ℤ, Bool, true, false, ◌&&◌, ◌==◌, List, [], ◌∷◌, ◌++◌, length, get_or, drop, refl, sym, ◌∙◌, ap, subst, append-nil}
use Rattle.std.proofs.Common.{append_assoc, arith, Option, Some, None, Result, Ok, Err, cond, if◌then◌else◌}
use Rattle.std.proofs.lemmas.Bool.{eqb-true}
use Rattle.std.proofs.lemmas.List.{drop-drop}
use Rattle.std.specs.Prelude.{IfOk, OnOk}
use Rattle.std.specs.Result.{is_ok}
use Rattle.roc_base.specs.declared.id.TxnId.{TxnId}
use Rattle.roc_coord.specs.Submit.{refusal_of, refused_or_accepted, accepted, accepted_view, new_transaction, next_id, after_submit}
use Rattle.roc_coord.specs.declared.handled.SubmitFault.{SubmitFault}
use Rattle.roc_grown.specs.Coord.{GrownCoordState, GrownSubmission, IsGrownSubmission, IsDrainStep, after_drain, after_grown_submit, submitted_to_core, answered_so, wants_memory}
use Rattle.roc_grown.specs.declared.handled.GrownFault.{GrownFault}
use Rattle.roc_grown.specs.declared.handled.GrownFault.TheVariants.{Draining}
use Rattle.roc_grown_node.specs.Posting.{grown_packets_for}
use Rattle.roc_grown_node.specs.Setting.{GrownNodeSetting}
use Rattle.roc_grown_submit.specs.GrownCoordRun.{GrownSubmissions, plan_of_file, with_drain, drained_first, grown_submit_lines, grown_accepts, grown_accepts_call, grown_submitted}
use Rattle.roc_grown_submit.specs.GrownCoordRun.{grown_submitted_call, grown_submitted_all}
use Rattle.roc_grown_submit.specs.GrownCoordRun.{submitted_first, submitted_later, of_later}
use Rattle.roc_grown_submit.specs.GrownEnd.{naming}
use Rattle.roc_grown_submit.specs.Inner.GrownTurn.{made, Gathered, gathered, Gathers, DrainsFirst, SubmitsAccepted, RefusesOne, SubmitsOne, SubmitsSome, SubmitsFirst, SubmitsLater, GathersAll}
use Rattle.roc_grown_submit.specs.Inner.GrownTurn.{SubmitsHalf}
use Rattle.roc_grown_submit.specs.declared.coord_node.CoordNode.{CoordNode}
use Rattle.roc_grown_submit.specs.declared.coord_node.TurnOutput.{TurnOutput}
use Rattle.roc_msg.specs.Outbox.{Collected}
use Rattle.roc_msg.specs.declared.outbox.Outgoing.{Outgoing}
use Rattle.roc_node.specs.Posting.{none_heard}
use Rattle.roc_plan.specs.Groups.{Plan, is_view_of}
use Rattle.roc_program.specs.LookUps.{procedure_named}
use Rattle.roc_program.specs.Program.{Workload}
use Rattle.roc_readonly.specs.Round.{first_round}
use Rattle.roc_report.specs.Line.{Line, Submit}
use Rattle.roc_report.specs.Text.{line_text, lines_text}
use Rattle.roc_sched.specs.declared.line.Request.{Request}
use Rattle.roc_sequence.proofs.Fronts.{rest_at, no_rest}
use Rattle.roc_node_submit.proofs.Coords.{lines_behind}

-- ---- a drain

abbrev pub is_done : List Request → GrownCoordState → Bool
is_done left s = length left == 0 && length s.core.unanswered == 0

pub drains_not : (S : GrownNodeSetting) (left : List Request) (s : GrownCoordState) (out : List Outgoing) → is_done left s ≡ false → DrainsFirst S left s s out out
drains_not S left s out e = record {
  messages = [];
  is = λ later some lines.
      ap (λ b. cond b (with_drain (made s left later some lines) (after_drain S.plan s)) (made s left later some lines)) e ∙ ap (λ l. made s left later l lines) (sym (append-nil some));
  outbox = sym (append-nil out);
}

pub drains_now : (S : GrownNodeSetting) (left : List Request) (s new : GrownCoordState) (out_old out_new : Collected) → is_done left s ≡ true → IsDrainStep (after_drain S.plan s) new out_old out_new
    → DrainsFirst S left s new out_old.messages out_new.messages
drains_now S left s new out_old out_new e h =
    let d = after_drain S.plan s in record {
      messages = d.sends;
      is = λ later some lines.
          ap (λ b. cond b (with_drain (made s left later some lines) d) (made s left later some lines)) e ∙ ap (λ t. made t left later (some ++ d.sends) lines) (sym h.state);
      outbox = h.sent.0;
    }

pub both_none : (a b : Bool) → true ≡ a → true ≡ b → (a && b) ≡ true
both_none a b p q = ap (λ x. x && b) (sym p) ∙ sym q

-- ---- one request

named_so : (S : GrownNodeSetting) (s : GrownCoordState) (request : Request) (own : Plan) (name : List ℕ) (o : Option ℕ) → own ≡ plan_of_file S s → name ≡ request.name → o ≡ procedure_named own.program name
    → procedure_named (plan_of_file S s).program request.name ≡ o
named_so S s request own name o is same named = ap (λ (p : Plan). procedure_named p.program request.name) (sym is) ∙ ap (procedure_named own.program) (sym same) ∙ sym named

pub refuses_nameless : (S : GrownNodeSetting) (request : Request) (s : GrownCoordState) (g : Gathered) (own : Plan) (name : List ℕ) → own ≡ plan_of_file S s → name ≡ request.name → None ≡ procedure_named own.program name
    → RefusesOne S request s s g g
refuses_nameless S request s g own name is same named = record {
  refused = ap (grown_accepts_call S s request.args) (named_so S s request own name None is same named);
  state = refl;
  same = refl;
}

pub submits_call : (S : GrownNodeSetting) (request : Request) (proc : ℕ) (id : TxnId) (old new : GrownCoordState) (out_old out_new : Collected) (text_old text_new : List ℕ) (own : Plan) (name : List ℕ) (args : List ℤ)
    → own ≡ plan_of_file S old → name ≡ request.name → Some proc ≡ procedure_named own.program name
    → args ≡ request.args → IsGrownSubmission (after_grown_submit S.plan (Some S.next) old proc args) (Ok id) new out_old out_new → text_new ≡ text_old ++ line_text (naming S) (Submit id proc request.args)
    → SubmitsAccepted S request old new (gathered out_old.messages text_old) (gathered out_new.messages text_new)
submits_call S request proc id old new out_old out_new text_old text_new own name args is same named given step text =
    let e = named_so S old request own name (Some proc) is same named in
    let h = subst (λ a. IsGrownSubmission (after_grown_submit S.plan (Some S.next) old proc a) (Ok id) new out_old out_new) given step in
    let sub = after_grown_submit S.plan (Some S.next) old proc request.args in
    let lines : grown_submit_lines proc request.args sub.answer ≡ Submit id proc request.args ∷ [] = ap (grown_submit_lines proc request.args) (sym h.answer) in record {
      messages = sub.sends;
      lines = grown_submit_lines proc request.args sub.answer;
      accepted = ap (grown_accepts_call S old request.args) e ∙ ap is_ok (sym h.answer);
      is = λ left later some told.
          ap (grown_submitted_call S (made old left later some told) request.args) e
          ∙ ap (λ s. made s left later (some ++ sub.sends) (told ++ grown_submit_lines proc request.args sub.answer)) (sym h.state);
      gathers = record {
        outbox = h.sent.0;
        text = text ∙ ap (λ l. text_old ++ l) (sym (append-nil (line_text (naming S) (Submit id proc request.args))) ∙ ap (lines_text (naming S)) (sym lines));
      };
    }

-- a call that is refused changes nothing
core_stays : (plan : Plan) (s : GrownCoordState) (proc : ℕ) (args : List ℤ) (fault : GrownFault) (why : Option SubmitFault) → Err fault ≡ (submitted_to_core s (refused_or_accepted plan s.core proc args why)).answer
    → ((submitted_to_core s (refused_or_accepted plan s.core proc args why)).state ≡ s) × ((submitted_to_core s (refused_or_accepted plan s.core proc args why)).sends ≡ [])
core_stays plan s proc args fault (Some other) e = (refl, refl)
core_stays plan s proc args fault None e = absurd (given (is_view_of plan proc) e)
  where
    given : (b : Bool) → Err fault ≡ answered_so (if b then accepted_view plan s.core (first_round (next_id s.core) proc args) else accepted plan s.core (new_transaction s.core proc args)).answer → ⊥
    given true e = absurd (cc)
    given false e = absurd (cc)

refused_stays : (S : GrownNodeSetting) (s : GrownCoordState) (proc : ℕ) (args : List ℤ) (fault : GrownFault) → Err fault ≡ (after_grown_submit S.plan (Some S.next) s proc args).answer
    → ((after_grown_submit S.plan (Some S.next) s proc args).state ≡ s) × ((after_grown_submit S.plan (Some S.next) s proc args).sends ≡ [])
refused_stays S s proc args fault e = go s.draining e
  where
    either : Bool → GrownSubmission
    either d = if d then record { answer = Err Draining; state = s; sends = [] } else submitted_to_core s (after_submit (plan_of_file S s) s.core proc args)

    go : (d : Bool) → Err fault ≡ (either d).answer → ((either d).state ≡ s) × ((either d).sends ≡ [])
    go true e = (refl, refl)
    go false e = core_stays (plan_of_file S s) s proc args fault (refusal_of (plan_of_file S s) s.core proc args) e

refuses_call : (S : GrownNodeSetting) (request : Request) (proc : ℕ) (fault : GrownFault) (old new : GrownCoordState) (out_old out_new : Collected) (text : List ℕ) (own : Plan) (name : List ℕ) (args : List ℤ)
    → own ≡ plan_of_file S old → name ≡ request.name → Some proc ≡ procedure_named own.program name
    → args ≡ request.args → IsGrownSubmission (after_grown_submit S.plan (Some S.next) old proc args) (Err fault) new out_old out_new
    → RefusesOne S request old new (gathered out_old.messages text) (gathered out_new.messages text)
refuses_call S request proc fault old new out_old out_new text own name args is same named given step =
    let e = named_so S old request own name (Some proc) is same named in
    let h = subst (λ a. IsGrownSubmission (after_grown_submit S.plan (Some S.next) old proc a) (Err fault) new out_old out_new) given step in
    let stays = refused_stays S old proc request.args fault h.answer in record {
      refused = ap (grown_accepts_call S old request.args) e ∙ ap is_ok (sym h.answer);
      state = h.state ∙ stays.0;
      same = ap (λ l. gathered l text) (h.sent.0 ∙ ap (λ l. out_old.messages ++ l) stays.1 ∙ append-nil out_old.messages);
    }

-- what a fault means, where it promises the step unless memory is wanting
pub refuses : {E : Type 0} (r : Result Bool E) (S : GrownNodeSetting) (request : Request) (proc : ℕ) (fault : GrownFault) (old new : GrownCoordState) (out_old out_new : Collected) (text : List ℕ) (own : Plan) (name : List ℕ) (args : List ℤ)
    → own ≡ plan_of_file S old → name ≡ request.name → Some proc ≡ procedure_named own.program name
    → args ≡ request.args → IfOk r (λ accepted. accepted ≡ false) → OnOk r (wants_memory (Err fault) ≡ false)
    → (wants_memory (Err fault) ≡ false → IsGrownSubmission (after_grown_submit S.plan (Some S.next) old proc args) (Err fault) new out_old out_new)
    → IfOk r (λ accepted. SubmitsOne accepted S request old new (gathered out_old.messages text) (gathered out_new.messages text))
refuses (Err u) S request proc fault old new out_old out_new text own name args is same named given not refused step = tt
refuses (Ok accepted) S request proc fault old new out_old out_new text own name args is same named given not refused step =
    subst (λ b. SubmitsOne b S request old new (gathered out_old.messages text) (gathered out_new.messages text)) (sym not)
    (refuses_call S request proc fault old new out_old out_new text own name args is same named given (step refused))

-- what one request did, once it is known which
accepted_one : (S : GrownNodeSetting) (request : Request) (old new : GrownCoordState) (g h : Gathered) (accepted : Bool) → SubmitsOne accepted S request old new g h → accepted ≡ true → SubmitsAccepted S request old new g h
accepted_one S request old new g h true one e = one
accepted_one S request old new g h false one e = absurd (cc)

refused_one : (S : GrownNodeSetting) (request : Request) (old new : GrownCoordState) (g h : Gathered) (accepted : Bool) → SubmitsOne accepted S request old new g h → accepted ≡ false → RefusesOne S request old new g h
refused_one S request old new g h false one e = one
refused_one S request old new g h true one e = absurd (cc)

-- ---- several

gathers_none : (program : Workload) (g : Gathered) → Gathers program [] [] g g
gathers_none program g = record { outbox = sym (append-nil g.messages); text = sym (append-nil g.text) }

gathers_more : (program : Workload) (messages more : List Outgoing) (lines next : List Line) (g h i : Gathered) → Gathers program messages lines g h → Gathers program more next h i → Gathers program (messages ++ more) (lines ++ next) g i
gathers_more program messages more lines next g h i p q = record {
  outbox = q.outbox ∙ ap (λ l. l ++ more) p.outbox ∙ append_assoc g.messages messages more;
  text = q.text ∙ ap (λ l. l ++ lines_text program next) p.text ∙ append_assoc g.text (lines_text program lines) (lines_text program next) ∙ ap (λ l. g.text ++ l) (lines_behind program lines next);
}

-- what comes of all is what comes of those left, from here
pub record SubmittedSo (S : GrownNodeSetting) (items : List Request) (count : ℕ) (start now : GrownCoordState) (before after : Gathered) : Type 0 where
  pub messages : List Outgoing
  pub lines : List Line
  pub is : (left later : List Request) (some : List Outgoing) (told : List Line)
      → grown_submitted_all S (made start left later some told) items ≡ grown_submitted_all S (made now left later (some ++ messages) (told ++ lines)) (drop count items)
  pub gathers : Gathers (naming S) messages lines before after

longer : (state : GrownCoordState) (left later : List Request) (some : List Outgoing) (told : List Line) → made state left later some told ≡ made state left later (some ++ []) (told ++ [])
longer state left later some told = ap (λ l. made state left later l told) (sym (append-nil some)) ∙ ap (made state left later (some ++ [])) (sym (append-nil told))

pub so_none : (S : GrownNodeSetting) (items : List Request) (state : GrownCoordState) (g : Gathered) → SubmittedSo S items 0 state state g g
so_none S items state g = record {
  messages = [];
  lines = [];
  is = λ left later some told. ap (λ s. grown_submitted_all S s items) (longer state left later some told);
  gathers = gathers_none (naming S) g;
}

all_step : (S : GrownNodeSetting) (s : GrownSubmissions) (request : Request) (rest : List Request) (b : Bool) → grown_accepts S s.state request ≡ b
    → grown_submitted_all S s (request ∷ rest) ≡ cond b (grown_submitted_all S (grown_submitted S s request) rest) (record s { left = request ∷ rest })
unfolding grown_submitted_all
all_step S s request rest b e = ap (λ t. cond t (grown_submitted_all S (grown_submitted S s request) rest) (record s { left = request ∷ rest })) e

all_over : (S : GrownNodeSetting) (s : GrownSubmissions) → grown_submitted_all S s [] ≡ record s { left = [] }
unfolding grown_submitted_all
all_over S s = refl

assoc_made : (state : GrownCoordState) (left later : List Request) (a b c : List Outgoing) (x y z : List Line) → made state left later ((a ++ b) ++ c) ((x ++ y) ++ z) ≡ made state left later (a ++ (b ++ c)) (x ++ (y ++ z))
assoc_made state left later a b c x y z = ap (λ l. made state left later l ((x ++ y) ++ z)) (append_assoc a b c) ∙ ap (made state left later (a ++ (b ++ c))) (append_assoc x y z)

so_more : (S : GrownNodeSetting) (items : List Request) (count : ℕ) (request : Request) (start now next : GrownCoordState) (g h i : Gathered) → count < length items → request ≡ get_or items count request
    → SubmittedSo S items count start now g h → SubmitsAccepted S request now next h i → SubmittedSo S items (count + 1) start next g i
so_more S items count request start now next g h i below is so one = record {
  messages = so.messages ++ one.messages;
  lines = so.lines ++ one.lines;
  is = λ left later some told.
      let s = made now left later (some ++ so.messages) (told ++ so.lines) in
      so.is left later some told ∙ ap (grown_submitted_all S s) rest ∙ all_step S s request (drop (count + 1) items) true one.accepted
      ∙ ap (λ t. grown_submitted_all S t (drop (count + 1) items))
      (one.is left later (some ++ so.messages) (told ++ so.lines) ∙ assoc_made next left later some so.messages one.messages told so.lines one.lines);
  gathers = gathers_more (naming S) so.messages one.messages so.lines one.lines g h i so.gathers one.gathers;
}
  where
    rest : drop count items ≡ request ∷ drop (count + 1) items
    rest = rest_at items count request below ∙ ap (λ r. r ∷ drop (count + 1) items) (sym is)

pub some_more : (S : GrownNodeSetting) (items : List Request) (count : ℕ) (request : Request) (start now next : GrownCoordState) (g h i : Gathered)
    → count < length items → request ≡ get_or items count request → SubmittedSo S items count start now g h
    → (accepted : Bool) → SubmitsOne accepted S request now next h i → accepted ≡ true → SubmittedSo S items (count + 1) start next g i
some_more S items count request start now next g h i below is so accepted some said =
    so_more S items count request start now next g h i below is so (accepted_one S request now next h i accepted some said)

-- the next request is refused, and so it is left with all behind it
pub some_refused : (S : GrownNodeSetting) (items : List Request) (n count : ℕ) (request : Request) (start now next : GrownCoordState) (g h i : Gathered)
    → SubmittedSo S items count start now g h → count < length items → request ≡ get_or items count request
    → (accepted : Bool) → SubmitsOne accepted S request now next h i → accepted ≡ false → n ≡ count → SubmitsSome S items n start next g i
some_refused S items n count request start now next g h i so below is accepted some refused same = subst (λ k. SubmitsSome S items k start next g i) (sym same) (record {
  messages = so.messages;
  lines = so.lines;
  is = λ left later some told.
      let s = made now left later (some ++ so.messages) (told ++ so.lines) in
      so.is left later some told ∙ ap (grown_submitted_all S s) rest ∙ all_step S s request (drop (count + 1) items) false one.refused
      ∙ ap (λ l. made now l later (some ++ so.messages) (told ++ so.lines)) (sym rest)
      ∙ ap (λ t. made t (drop count items) later (some ++ so.messages) (told ++ so.lines)) (sym one.state);
  gathers = subst (Gathers (naming S) so.messages so.lines g) (sym one.same) so.gathers;
})
  where
    one : RefusesOne S request now next h i
    one = refused_one S request now next h i accepted some refused

    rest : drop count items ≡ request ∷ drop (count + 1) items
    rest = rest_at items count request below ∙ ap (λ r. r ∷ drop (count + 1) items) (sym is)

pub some_all : (S : GrownNodeSetting) (items : List Request) (n count : ℕ) (start now : GrownCoordState) (g h : Gathered) → SubmittedSo S items count start now g h → length items ≤ count → n ≡ count → SubmitsSome S items n start now g h
some_all S items n count start now g h so over same = subst (λ k. SubmitsSome S items k start now g h) (sym same) (record {
  messages = so.messages;
  lines = so.lines;
  is = λ left later some told.
      let s = made now left later (some ++ so.messages) (told ++ so.lines) in
      so.is left later some told ∙ ap (grown_submitted_all S s) none ∙ all_over S s ∙ ap (λ l. made now l later (some ++ so.messages) (told ++ so.lines)) (sym none);
  gathers = so.gathers;
})
  where
    none : drop count items ≡ []
    none = no_rest items count over

-- ---- those of each file

behind : (xs items : List Request) (n m count : ℕ) → items ≡ drop n xs → m ≡ n + count → drop count items ≡ drop m xs
behind xs items n m count from next = ap (drop count) from ∙ drop-drop count n xs ∙ ap (λ k. drop k xs) (sym next)

pub first_submitted : (S : GrownNodeSetting) (requests items : List Request) (count : ℕ) (old new : CoordNode) (g h : Gathered) → items ≡ drop old.first requests → new.first ≡ old.first + count → new.second ≡ old.second
    → new.answered ≡ old.answered → SubmitsSome S items count old.coord new.coord g h → SubmitsFirst S requests old new g h
first_submitted S requests items count old new g h from next second answered some = record {
  messages = some.messages;
  lines = some.lines;
  is = λ later out told.
      ap (grown_submitted_all S (made old.coord (drop old.first requests) later out told)) (sym from) ∙ some.is (drop old.first requests) later out told
      ∙ ap (λ l. made new.coord l later (out ++ some.messages) (told ++ some.lines)) (behind requests items old.first new.first count from next);
  second = second;
  answered = answered;
  gathers = some.gathers;
}

-- it is not their turn
pub later_wait : (S : GrownNodeSetting) (left later : List Request) (node : CoordNode) (g : Gathered) → (node.coord.switched && length left == 0) ≡ false → SubmitsLater S left later node node g g
later_wait S left later node g e = record {
  messages = [];
  lines = [];
  is = λ out told.
      let s = made node.coord left (drop node.second later) out told in
      ap (λ b. cond b (of_later (grown_submitted_all S s s.later)) s) e ∙ longer node.coord left (drop node.second later) out told;
  first = refl;
  answered = refl;
  gathers = gathers_none (naming S) g;
}

pub later_wait_plain : (S : GrownNodeSetting) (left later : List Request) (node : CoordNode) (g : Gathered) → false ≡ node.coord.switched → SubmitsLater S left later node node g g
later_wait_plain S left later node g e = later_wait S left later node g (ap (λ b. b && length left == 0) (sym e))

pub later_wait_left : (S : GrownNodeSetting) (left later : List Request) (node : CoordNode) (g : Gathered) → true ≡ node.coord.switched → false ≡ (length left == 0) → SubmitsLater S left later node node g g
later_wait_left S left later node g switched e = later_wait S left later node g (ap (λ b. b && length left == 0) (sym switched) ∙ sym e)

none_left : {A : Type 0} (xs : List A) → (length xs == 0) ≡ true → xs ≡ []
none_left [] e = refl
none_left (x ∷ xs) e = absurd (let n = eqb-true (length (x ∷ xs)) 0 e in omega arith)

pub later_submitted : (S : GrownNodeSetting) (left later items : List Request) (count : ℕ) (old new : CoordNode) (g h : Gathered) → old.coord.switched ≡ true → (length left == 0) ≡ true
    → items ≡ drop old.second later → new.second ≡ old.second + count → new.first ≡ old.first
    → new.answered ≡ old.answered → SubmitsSome S items count old.coord new.coord g h → SubmitsLater S left later old new g h
later_submitted S left later items count old new g h switched none from next first answered some = record {
  messages = some.messages;
  lines = some.lines;
  is = λ out told.
      let s = made old.coord left (drop old.second later) out told in
      ap (λ b. cond b (of_later (grown_submitted_all S s s.later)) s) (ap (λ b. b && length left == 0) switched ∙ none)
      ∙ ap (λ l. of_later (grown_submitted_all S s l)) (sym from) ∙ ap of_later (some.is left (drop old.second later) out told)
      ∙ ap (λ l. made new.coord l (drop count items) (out ++ some.messages) (told ++ some.lines)) (sym (none_left left none))
      ∙ ap (λ l. made new.coord left l (out ++ some.messages) (told ++ some.lines)) (behind later items old.second new.second count from next);
  first = first;
  answered = answered;
  gathers = some.gathers;
}

-- ---- all that is due before a turn

pub gathers_all : (S : GrownNodeSetting) (requests later left rest : List Request) (old one two new : CoordNode) (out : List Outgoing) (g h i : Gathered)
    → left ≡ drop old.first requests → DrainsFirst S left old.coord one.coord out g.messages → one.first ≡ old.first → one.second ≡ old.second → one.answered ≡ old.answered
    → SubmitsFirst S requests one two g h → rest ≡ drop two.first requests → SubmitsLater S rest later two new h i → GathersAll S requests later old new (gathered out g.text) i
gathers_all S requests later left rest old one two new out g h i is drains first second answered f from l = record {
  messages = drains.messages ++ (f.messages ++ l.messages);
  lines = f.lines ++ l.lines;
  is = ap (λ s. submitted_later S (submitted_first S s)) drained ∙ ap (submitted_later S) submitted ∙ put
      ∙ ap (λ m. made new.coord (drop new.first requests) (drop new.second later) m (f.lines ++ l.lines)) (append_assoc drains.messages f.messages l.messages);
  answered = l.answered ∙ f.answered ∙ answered;
  gathers =
      let more = gathers_more (naming S) f.messages l.messages f.lines l.lines g h i f.gathers l.gathers in record {
        outbox = more.outbox ∙ ap (λ m. m ++ (f.messages ++ l.messages)) drains.outbox ∙ append_assoc out drains.messages (f.messages ++ l.messages);
        text = more.text;
      };
}
  where
    drained : drained_first S (made old.coord (drop old.first requests) (drop old.second later) [] []) ≡ made one.coord (drop one.first requests) (drop one.second later) drains.messages []
    drained =
        ap (λ r. drained_first S (made old.coord r (drop old.second later) [] [])) (sym is) ∙ drains.is (drop old.second later) [] []
        ∙ ap (λ r. made one.coord r (drop old.second later) drains.messages []) (is ∙ ap (λ n. drop n requests) (sym first))
        ∙ ap (λ n. made one.coord (drop one.first requests) (drop n later) drains.messages []) (sym second)

    submitted : submitted_first S (made one.coord (drop one.first requests) (drop one.second later) drains.messages []) ≡ made two.coord rest (drop two.second later) (drains.messages ++ f.messages) f.lines
    submitted =
        f.is (drop one.second later) drains.messages [] ∙ ap (λ r. made two.coord r (drop one.second later) (drains.messages ++ f.messages) f.lines) (sym from)
        ∙ ap (λ n. made two.coord rest (drop n later) (drains.messages ++ f.messages) f.lines) (sym f.second)

    put : submitted_later S (made two.coord rest (drop two.second later) (drains.messages ++ f.messages) f.lines)
        ≡ made new.coord (drop new.first requests) (drop new.second later) ((drains.messages ++ f.messages) ++ l.messages) (f.lines ++ l.lines)
    put =
        l.is (drains.messages ++ f.messages) f.lines
        ∙ ap (λ r. made new.coord r (drop new.second later) ((drains.messages ++ f.messages) ++ l.messages) (f.lines ++ l.lines)) (from ∙ ap (λ n. drop n requests) (sym l.first))

pub gathers_told : {A E : Type 0} (r : Result A E) (S : GrownNodeSetting) (requests later left rest : List Request) (old one two new : CoordNode) (out : List Outgoing) (g h i : Gathered)
    → left ≡ drop old.first requests → DrainsFirst S left old.coord one.coord out g.messages → one.first ≡ old.first → one.second ≡ old.second → one.answered ≡ old.answered
    → SubmitsFirst S requests one two g h → rest ≡ drop two.first requests → OnOk r (SubmitsLater S rest later two new h i) → OnOk r (GathersAll S requests later old new (gathered out g.text) i)
gathers_told (Ok a) S requests later left rest old one two new out g h i is drains first second answered f from l =
    gathers_all S requests later left rest old one two new out g h i is drains first second answered f from l
gathers_told (Err e) S requests later left rest old one two new out g h i is drains first second answered f from l = tt

-- what is due for it
pub half_made : (S : GrownNodeSetting) (requests later : List Request) (old new : CoordNode) (output : TurnOutput) (before out : List Outgoing) (text : List ℕ) (switched : Bool)
    → GathersAll S requests later old new (gathered before text) (gathered out output.text.items) → before ≡ [] → text ≡ [] → switched ≡ new.coord.switched
    → output.sends.items ≡ grown_packets_for S switched none_heard out → SubmitsHalf S requests later old new output
half_made S requests later old new output before out text switched h none blank is sends = record {
  messages = h.messages;
  lines = h.lines;
  is = h.is;
  answered = h.answered;
  shows = h.gathers.text ∙ ap (λ t. t ++ lines_text (naming S) h.lines) blank;
  gives = sends ∙ ap (λ b. grown_packets_for S b none_heard out) is ∙ ap (grown_packets_for S new.coord.switched none_heard) (h.gathers.outbox ∙ ap (λ m. m ++ h.messages) none);
}
