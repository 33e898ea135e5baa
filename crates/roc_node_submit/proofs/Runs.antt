-- A run keeps each id that it gives until the id is answered, and at its end each was
use Rattle.std.proofs.Common.{◌≡◌, ℕ, ◌<◌, ℤ, Bool, true, false, not, ◌&&◌, ◌==◌, nat_lt, nat_le, List, [], ◌∷◌, ◌++◌, length, Option, Some, None, refl, sym, ◌∙◌, ap, subst, append-nil, append_assoc, arith}
use Rattle.std.proofs.lemmas.Bool.{false≢true, leb-false, lt-ltb, eq-eqb, eqb-true, and_parts}
use Rattle.std.proofs.lemmas.List.{map-append}
use Rattle.std.specs.Prelude.{filter, if◌then◌else◌}
use Rattle.std.specs.Result.{is_ok}
use Rattle.roc_base.specs.declared.id.TxnId.{TxnId}
use Rattle.roc_program.specs.LookUps.{procedure_named}
use Rattle.roc_plan.specs.Groups.{Plan, procedure_of, is_view_of}
use Rattle.roc_report.specs.Line.{Line, Submit}
use Rattle.roc_sched.specs.declared.line.Request.{Request}
use Rattle.roc_coord.specs.declared.transaction.Transaction.{Transaction}
use Rattle.roc_readonly.specs.declared.view.View.{View}
use Rattle.roc_readonly.specs.Round.{first_round}
use Rattle.roc_coord.specs.declared.handled.SubmitFault.{SubmitFault}
use Rattle.roc_coord.specs.declared.handled.SubmitFault.TheVariants.{NoProc, Args, Spent, Busy}
use Rattle.roc_coord.specs.Ids.{ids_of, view_ids}
use Rattle.roc_coord.specs.Starts.{with_starts}
use Rattle.roc_coord.specs.State.{CoordState}
use Rattle.roc_coord.specs.Submit.{accepted, accepted_view, new_transaction, next_id, most_transactions, most_pending, refusal_of, refused_or_accepted}
use Rattle.roc_node.specs.Judgement.{judged}
use Rattle.roc_node.specs.declared.judging.Judged.{Judged}
use Rattle.roc_node.specs.declared.judging.Judged.TheVariants.{Delivery, Skipped}
use Rattle.roc_node.specs.NodeEvent.{NodeEvent, took, silent, NodeSetting}
use Rattle.roc_node_submit.specs.CoordRun.{CoordNodeState, Submissions, accepts, accepts_call, with_submission, submitted, submitted_call, submitted_all, submissions_of, none_submitted, coord_submitted, step_of_judged, reply_lines, answered_then, coord_turn, IsCoordRun, begun, goes_on, is_answered}
use Rattle.roc_node_submit.specs.EachAnswered.{is_submission, is_answer_to, AreGivenIds, AreEachAnswered, none_given}
use Rattle.roc_node_submit.proofs.Counts.{one_if, waiting, AreShared, shared_more, shared_swap}
use Rattle.roc_node_submit.proofs.Keeping.{Kept, kept_given, none_below}
use Rattle.roc_node_submit.proofs.KeptSteps.{nothing_new, kept_message}

-- a submission that is not refused has a sequence number left
pub unspent : (plan : Plan) (s : CoordState) (proc : ℕ) (args : List ℤ) → refusal_of plan s proc args ≡ None → s.next < most_transactions
unspent plan s proc args e = leb-false most_transactions s.next
    (go (not (nat_lt proc (length plan.program.procedures))) (not (length args == (procedure_of plan proc).arguments))
    (nat_le most_transactions s.next) (nat_le most_pending (length s.unanswered)) e)
  where
    go : (a b c d : Bool) → (if a then Some NoProc else if b then Some Args else if c then Some Spent else if d then Some Busy else None) ≡ None → c ≡ false
    go true b c d e = absurd (cc)
    go false true c d e = absurd (cc)
    go false false true d e = absurd (cc)
    go false false false d e = refl

module _ (S : NodeSetting) (number : ℕ) (before : List Line) (answered : ℕ) where
  abbrev KeptBehind : List Request → Submissions → Type 0
  KeptBehind taken s = Kept S.plan.program number taken s.state (before ++ s.lines) answered

  kept_request : (taken : List Request) (s : Submissions) (request : Request) → KeptBehind taken s → (proc : Option ℕ) → procedure_named S.plan.program request.name ≡ proc
      → accepts_call S.plan s.state request.args proc ≡ true → KeptBehind (taken ++ request ∷ []) (submitted_call S s request.args proc)
  kept_request taken s request k None named e = absurd (false≢true e)
  kept_request taken s request k (Some proc) named e = go (refusal_of S.plan s.state proc request.args) refl e
    where
      go : (why : Option SubmitFault) → refusal_of S.plan s.state proc request.args ≡ why → is_ok (refused_or_accepted S.plan s.state proc request.args why).answer ≡ true
          → KeptBehind (taken ++ request ∷ []) (with_submission S s proc request.args (refused_or_accepted S.plan s.state proc request.args why))
      go (Some fault) is e = absurd (false≢true e)
      go None is e = given_as (is_view_of S.plan proc)
        where
          behind : CoordState → List Line → Type 0
          behind state lines = Kept S.plan.program number (taken ++ request ∷ []) state lines answered

          grown : List Line
          grown = before ++ (s.lines ++ Submit (next_id s.state) proc request.args ∷ [])

          same_lines : (before ++ s.lines) ++ Submit (next_id s.state) proc request.args ∷ [] ≡ grown
          same_lines = append_assoc before s.lines (Submit (next_id s.state) proc request.args ∷ [])

          shared : AreShared (ids_of s.state.pending) (view_ids s.state.views) s.state.unanswered
          shared = k.shared

          as_transaction : behind (accepted S.plan s.state (new_transaction s.state proc request.args)).state grown
          as_transaction =
              let x = with_starts S.plan (new_transaction s.state proc request.args) in
              let are_shared : List TxnId → Type 0 = λ ids. AreShared ids (view_ids s.state.views) (s.state.unanswered ++ next_id s.state ∷ []) in
              subst (behind (accepted S.plan s.state (new_transaction s.state proc request.args)).state) same_lines
              (kept_given S.plan.program number taken s.state (s.state.pending ++ x ∷ []) s.state.views (before ++ s.lines) answered request proc named (unspent S.plan s.state proc request.args is)
              (subst are_shared (sym (map-append (λ (y : Transaction). y.id) s.state.pending (x ∷ []))) (shared_more (ids_of s.state.pending) (view_ids s.state.views) s.state.unanswered (next_id s.state) shared)) k)

          as_view : behind (accepted_view S.plan s.state (first_round (next_id s.state) proc request.args)).state grown
          as_view =
              let v = first_round (next_id s.state) proc request.args in
              let ps = ids_of s.state.pending in
              let vs = view_ids s.state.views in
              let all = s.state.unanswered ++ next_id s.state ∷ [] in
              let are_shared : List TxnId → Type 0 = λ ids. AreShared ps ids all in
              subst (behind (accepted_view S.plan s.state v).state) same_lines
              (kept_given S.plan.program number taken s.state s.state.pending (s.state.views ++ v ∷ []) (before ++ s.lines) answered request proc named (unspent S.plan s.state proc request.args is)
              (subst are_shared (sym (map-append (λ (w : View). w.id) s.state.views (v ∷ [])))
              (shared_swap (vs ++ next_id s.state ∷ []) ps all (shared_more vs ps s.state.unanswered (next_id s.state) (shared_swap ps vs s.state.unanswered shared)))) k)

          given_as : (b : Bool)
              → KeptBehind (taken ++ request ∷ []) (with_submission S s proc request.args (if b then accepted_view S.plan s.state (first_round (next_id s.state) proc request.args) else accepted S.plan s.state (new_transaction s.state proc request.args)))
          given_as true = as_view
          given_as false = as_transaction

  -- more of the requests were given ids, and these are left
  record KeptMore (taken requests : List Request) (after : Submissions) : Type 0 where
    pub more : List Request
    pub parts : requests ≡ more ++ after.left
    pub kept : KeptBehind (taken ++ more) after

  kept_all : (requests taken : List Request) (s : Submissions) → KeptBehind taken s → KeptMore taken requests (submitted_all S s requests)
  unfolding submitted_all
  kept_all [] taken s k = record { more = []; parts = refl; kept = subst (λ l. KeptBehind l s) (sym (append-nil taken)) k }
  kept_all (request ∷ rest) taken s k =
      go (accepts S.plan s.state request)
      (λ e. kept_all rest (taken ++ request ∷ []) (submitted S s request) (kept_request taken s request k (procedure_named S.plan.program request.name) refl e)) refl
    where
      go : (b : Bool) → (accepts S.plan s.state request ≡ true → KeptMore (taken ++ request ∷ []) rest (submitted_all S (submitted S s request) rest)) → accepts S.plan s.state request ≡ b
          → KeptMore taken (request ∷ rest) (if b then submitted_all S (submitted S s request) rest else record s { left = request ∷ rest })
      go true then_rest e =
          let m = then_rest e in record {
            more = request ∷ m.more;
            parts = ap (λ (l : List Request). request ∷ l) m.parts;
            kept = subst (λ l. KeptBehind l (submitted_all S (submitted S s request) rest)) (append_assoc taken (request ∷ []) m.more) m.kept;
          }
      go false then_rest e = record { more = []; parts = refl; kept = subst (λ l. KeptBehind l s) (sym (append-nil taken)) k }

-- ---- events

kept_judged : (plan : Plan) (number : ℕ) (taken : List Request) (state : CoordState) (lines : List Line) (answered : ℕ) → Kept plan.program number taken state lines answered → (j : Judged)
    → Kept plan.program number taken (step_of_judged plan state j).state (lines ++ reply_lines (step_of_judged plan state j).answer) (answered_then answered (step_of_judged plan state j).answer)
kept_judged plan number taken state lines answered k (Delivery header msg) = kept_message plan plan.program number taken state lines answered k msg
kept_judged plan number taken state lines answered k (Skipped skip) = nothing_new plan plan.program number taken state lines answered k

-- ---- runs

module _ (S : NodeSetting) (number : ℕ) where
  record KeptRun (requests : List Request) (node : CoordNodeState) : Type 0 where
    pub taken : List Request
    pub parts : requests ≡ taken ++ node.left
    pub kept : Kept S.plan.program number taken node.state node.lines node.answered

  turned : (requests : List Request) (node : CoordNodeState) (event : NodeEvent) → KeptRun requests node → KeptRun requests (coord_turn S node event)
  turned requests node event r =
      let m = kept_all S number node.lines node.answered node.left r.taken (none_submitted node.state)
      (subst (λ l. Kept S.plan.program number r.taken node.state l node.answered) (sym (append-nil node.lines)) r.kept) in
      record {
        taken = r.taken ++ m.more;
        parts = r.parts ∙ ap (λ (l : List Request). r.taken ++ l) m.parts ∙ sym (append_assoc r.taken m.more (submissions_of S node).left);
        kept = took_event event m.more m.kept;
      }
    where
      took_event : (event : NodeEvent) (more : List Request) → Kept S.plan.program number (r.taken ++ more) (coord_submitted S node).state (coord_submitted S node).lines node.answered
          → Kept S.plan.program number (r.taken ++ more) (coord_turn S node event).state (coord_turn S node event).lines (coord_turn S node event).answered
      took_event (took packet) more k = kept_judged S.plan number (r.taken ++ more) (coord_submitted S node).state (coord_submitted S node).lines node.answered k (judged S.header.tag packet.bytes)
      took_event silent more k = nothing_new S.plan S.plan.program number (r.taken ++ more) (coord_submitted S node).state (coord_submitted S node).lines node.answered k

  kept_run : {requests : List Request} {events : List NodeEvent} {node : CoordNodeState} → IsCoordRun S number requests events node → KeptRun requests node
  kept_run begun = record {
    taken = [];
    parts = refl;
    kept = record { numbered = refl; next = refl; bounded = omega arith; given = none_given; each = none_below number; all = refl; shared = λ id. refl; counted = refl };
  }
  kept_run {requests} (goes_on {node = node} event run going) = turned requests node event (kept_run run)

  pub each_answered : (requests : List Request) (events : List NodeEvent) (node : CoordNodeState) → IsCoordRun S number requests events node → is_answered node ≡ true
      → AreEachAnswered S.plan.program number requests node
  each_answered requests events node run e =
      let both = and_parts (length node.left == 0) (length node.state.unanswered == 0) e in
      answers (kept_run run) (none_left node.left both.0) (none_left node.state.unanswered both.1)
    where
      none_left : {A : Type 0} (xs : List A) → (length xs == 0) ≡ true → xs ≡ []
      none_left [] e = refl
      none_left (x ∷ xs) e = absurd (let n = eqb-true (length (x ∷ xs)) 0 e in omega arith)

      answers : KeptRun requests node → node.left ≡ [] → node.state.unanswered ≡ [] → AreEachAnswered S.plan.program number requests node
      answers r left none_waits =
          let k = r.kept in
          let whole : requests ≡ r.taken = r.parts ∙ ap (λ (l : List Request). r.taken ++ l) left ∙ append-nil r.taken in
          let none = ap (λ (l : List TxnId). length l) none_waits in
          let total = k.all in let next = k.next in let count = ap (λ (l : List Request). length l) whole in record {
            given = subst (λ l. AreGivenIds S.plan.program number l (filter is_submission node.lines)) (sym whole) k.given;
            answers = λ seq below. once r.taken k none_waits seq (omega arith);
            all = omega arith;
            counted = let c = k.counted in omega arith;
          }
        where
          once : (taken : List Request) → Kept S.plan.program number taken node.state node.lines node.answered → node.state.unanswered ≡ [] → (seq : ℕ) → seq < length taken
              → length (filter (is_answer_to (record { coord = number; seq = seq })) node.lines) ≡ 1
          once taken k none_waits seq below =
              let id : TxnId = record { coord = number; seq = seq } in
              let each = k.each id in
              let none = ap (waiting id) none_waits in
              let given = ap (λ b. one_if (b && nat_lt seq node.state.next)) (eq-eqb number number refl) ∙ ap one_if (lt-ltb seq node.state.next (let n = k.next in omega arith)) in
              omega arith
