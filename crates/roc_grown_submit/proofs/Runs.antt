-- A run keeps each id that it gives until the id is answered, before and behind the moment when it goes over, and at its end each was
use Rattle.std.proofs.Common.{◌≡◌, ℕ, ◌<◌, Bool, true, false, not, ◌&&◌, ◌==◌, nat_lt, List, [], ◌∷◌, ◌++◌, length, Option, Some, None, Err, refl, sym, ◌∙◌, ap, subst, append-nil}
use Rattle.std.proofs.Common.{append_assoc, arith, cond}
use Rattle.std.proofs.lemmas.Bool.{false≢true, lt-ltb, eq-eqb, eqb-true, and_parts}
use Rattle.std.proofs.lemmas.List.{map-append}
use Rattle.std.specs.Prelude.{filter, if◌then◌else◌}
use Rattle.std.specs.Result.{is_ok}
use Rattle.roc_base.specs.declared.id.TxnId.{TxnId}
use Rattle.roc_plan.specs.Groups.{Plan, is_view_of}
use Rattle.roc_program.specs.LookUps.{procedure_named}
use Rattle.roc_program.specs.Program.{Workload}
use Rattle.roc_report.specs.Line.{Line, Submit}
use Rattle.roc_sched.specs.declared.line.Request.{Request}
use Rattle.roc_coord.specs.declared.handled.SubmitFault.{SubmitFault}
use Rattle.roc_coord.specs.declared.transaction.Transaction.{Transaction}
use Rattle.roc_coord.specs.Ids.{ids_of, view_ids}
use Rattle.roc_coord.specs.Starts.{with_starts}
use Rattle.roc_coord.specs.State.{CoordState}
use Rattle.roc_coord.specs.Submit.{accepted, accepted_view, new_transaction, next_id, refusal_of, refused_or_accepted, after_submit}
use Rattle.roc_readonly.specs.declared.view.View.{View}
use Rattle.roc_readonly.specs.Round.{first_round}
use Rattle.roc_epoch.specs.Files.{own_plan}
use Rattle.roc_grown.specs.Coord.{GrownSubmission, after_drain, submitted_to_core}
use Rattle.roc_grown.specs.declared.handled.GrownFault.TheVariants.{Draining}
use Rattle.roc_grown_node.specs.Setting.{GrownNodeSetting}
use Rattle.roc_node.specs.NodeEvent.{NodeEvent}
use Rattle.roc_node_submit.specs.EachAnswered.{is_submission, is_answer_to, AreGivenIds, AreEachAnswered, none_given}
use Rattle.roc_grown_submit.specs.GrownCoordRun.{GrownCoordNodeState, GrownSubmissions, as_plain, are_all_answered, none_grown_submitted, drained_first, with_drain, is_first_answered, plan_of_file}
use Rattle.roc_grown_submit.specs.GrownCoordRun.{with_grown_submission, grown_accepts, grown_accepts_call, grown_submitted, grown_submitted_call, grown_submitted_all, submitted_first}
use Rattle.roc_grown_submit.specs.GrownCoordRun.{submitted_later, of_later}
use Rattle.roc_grown_submit.specs.GrownCoordRun.{grown_submissions_of, grown_submitted_node, grown_coord_turn, IsGrownCoordRun, begun, goes_on}
use Rattle.roc_grown_submit.specs.GrownEnd.{naming}
use Rattle.roc_node_submit.proofs.Counts.{one_if, waiting, AreShared, shared_more, shared_swap}
use Rattle.roc_node_submit.proofs.Keeping.{Kept, kept_given, none_below}
use Rattle.roc_node_submit.proofs.Runs.{unspent}
use Rattle.roc_grown_submit.proofs.Lasting.{Lasts, lasts_drain, lasts_event}
use Rattle.roc_sequence.proofs.Fronts.{no_elements}

-- each name of a procedure of the one program means the same in the other
abbrev pub NamesAlike : (old new : Workload) → Type 0
NamesAlike old new = (name : List ℕ) (proc : ℕ) → procedure_named old name ≡ Some proc → procedure_named new name ≡ Some proc

-- ---- a core accepts a call, under any plan

module _ (plan : Plan) (program : Workload) (number : ℕ) (taken : List Request) (s : CoordState) (request : Request) (proc : ℕ) (named : procedure_named program request.name ≡ Some proc) (lines : List Line) (answered : ℕ)
    (k : Kept program number taken s lines answered) (free : refusal_of plan s proc request.args ≡ None) where
  abbrev KeptWith : CoordState → Type 0
  KeptWith state = Kept program number (taken ++ request ∷ []) state (lines ++ Submit (next_id s) proc request.args ∷ []) answered

  shared : AreShared (ids_of s.pending) (view_ids s.views) s.unanswered
  shared = k.shared

  as_transaction : KeptWith (accepted plan s (new_transaction s proc request.args)).state
  as_transaction =
      let x = with_starts plan (new_transaction s proc request.args) in
      let are_shared : List TxnId → Type 0 = λ ids. AreShared ids (view_ids s.views) (s.unanswered ++ next_id s ∷ []) in
      kept_given program number taken s (s.pending ++ x ∷ []) s.views lines answered request proc named (unspent plan s proc request.args free)
      (subst are_shared (sym (map-append (λ (y : Transaction). y.id) s.pending (x ∷ []))) (shared_more (ids_of s.pending) (view_ids s.views) s.unanswered (next_id s) shared)) k

  as_view : KeptWith (accepted_view plan s (first_round (next_id s) proc request.args)).state
  as_view =
      let v = first_round (next_id s) proc request.args in
      let ps = ids_of s.pending in
      let vs = view_ids s.views in
      let are_shared : List TxnId → Type 0 = λ ids. AreShared ps ids (s.unanswered ++ next_id s ∷ []) in
      kept_given program number taken s s.pending (s.views ++ v ∷ []) lines answered request proc named (unspent plan s proc request.args free)
      (subst are_shared (sym (map-append (λ (w : View). w.id) s.views (v ∷ [])))
      (shared_swap (vs ++ next_id s ∷ []) ps (s.unanswered ++ next_id s ∷ []) (shared_more vs ps s.unanswered (next_id s) (shared_swap ps vs s.unanswered shared)))) k

-- ---- before a turn

module _ (S : GrownNodeSetting) (number : ℕ) (names : NamesAlike S.plan.program (naming S)) (before : List Line) (answered : ℕ) where
  abbrev LastsBehind : List Request → GrownSubmissions → Type 0
  LastsBehind taken s = Lasts S.plan (naming S) number taken s.state (before ++ s.lines) answered

  own_names : (b : Bool) (name : List ℕ) (proc : ℕ) → procedure_named (own_plan S.plan (Some S.next) b).program name ≡ Some proc → procedure_named (naming S) name ≡ Some proc
  own_names true name proc e = e
  own_names false name proc e = names name proc e

  lasts_request : (taken : List Request) (s : GrownSubmissions) (request : Request) → LastsBehind taken s → (proc : Option ℕ) → procedure_named (plan_of_file S s.state).program request.name ≡ proc
      → grown_accepts_call S s.state request.args proc ≡ true → LastsBehind (taken ++ request ∷ []) (grown_submitted_call S s request.args proc)
  lasts_request taken s request k None named e = absurd (false≢true e)
  lasts_request taken s request k (Some proc) named e = go s.state.draining refl e
    where
      own : Plan
      own = plan_of_file S s.state

      c : CoordState
      c = s.state.core

      either : Bool → GrownSubmission
      either d = cond {A = GrownSubmission} d (record { answer = Err Draining; state = s.state; sends = [] }) (submitted_to_core s.state (after_submit own c proc request.args))

      plain : s.state.draining ≡ false → (why : Option SubmitFault) → refusal_of own c proc request.args ≡ why → is_ok (submitted_to_core s.state (refused_or_accepted own c proc request.args why)).answer ≡ true
          → LastsBehind (taken ++ request ∷ []) (with_grown_submission s proc request.args (submitted_to_core s.state (refused_or_accepted own c proc request.args why)))
      plain not (Some fault) is e = absurd (false≢true e)
      plain not None is e = given_as (is_view_of own proc)
        where
          same_lines : (before ++ s.lines) ++ Submit (next_id c) proc request.args ∷ [] ≡ before ++ (s.lines ++ Submit (next_id c) proc request.args ∷ [])
          same_lines = append_assoc before s.lines (Submit (next_id c) proc request.args ∷ [])

          lasting : (core : CoordState) → Kept (naming S) number (taken ++ request ∷ []) core ((before ++ s.lines) ++ Submit (next_id c) proc request.args ∷ []) answered
              → Lasts S.plan (naming S) number (taken ++ request ∷ []) (record s.state { core = core }) (before ++ (s.lines ++ Submit (next_id c) proc request.args ∷ [])) answered
          lasting core kept = record {
            kept = subst (λ l. Kept (naming S) number (taken ++ request ∷ []) core l answered) same_lines kept;
            rests = λ t told early. absurd (false≢true (sym not ∙ (k.rests t told early).0));
            over = k.over;
          }

          given_as : (b : Bool)
              → LastsBehind (taken ++ request ∷ []) (with_grown_submission s proc request.args (submitted_to_core s.state (if b then accepted_view own c (first_round (next_id c) proc request.args) else accepted own c (new_transaction c proc request.args))))
          given_as true = lasting (accepted_view own c (first_round (next_id c) proc request.args)).state
              (as_view own (naming S) number taken c request proc (own_names s.state.switched request.name proc named) (before ++ s.lines) answered k.kept is)
          given_as false = lasting (accepted own c (new_transaction c proc request.args)).state
              (as_transaction own (naming S) number taken c request proc (own_names s.state.switched request.name proc named) (before ++ s.lines) answered k.kept is)

      go : (d : Bool) → s.state.draining ≡ d → is_ok (either d).answer ≡ true → LastsBehind (taken ++ request ∷ []) (with_grown_submission s proc request.args (either d))
      go true is e = absurd (false≢true e)
      go false is e = plain is (refusal_of own c proc request.args) refl e

  -- more of the requests were given ids, and these are left
  record LastsMore (taken requests later : List Request) (after : GrownSubmissions) : Type 0 where
    pub more : List Request
    pub parts : requests ≡ more ++ after.left
    pub same : after.later ≡ later
    pub lasts : LastsBehind (taken ++ more) after

  lasts_all : (requests taken : List Request) (s : GrownSubmissions) → LastsBehind taken s → LastsMore taken requests s.later (grown_submitted_all S s requests)
  unfolding grown_submitted_all
  lasts_all [] taken s k = record { more = []; parts = refl; same = refl; lasts = subst (λ l. LastsBehind l s) (sym (append-nil taken)) k }
  lasts_all (request ∷ rest) taken s k =
      go (grown_accepts S s.state request)
      (λ e. subst (λ l. LastsMore (taken ++ request ∷ []) rest l (grown_submitted_all S (grown_submitted S s request) rest)) (unmoved (procedure_named (plan_of_file S s.state).program request.name))
      (lasts_all rest (taken ++ request ∷ []) (grown_submitted S s request) (lasts_request taken s request k (procedure_named (plan_of_file S s.state).program request.name) refl e))) refl
    where
      unmoved : (o : Option ℕ) → (grown_submitted_call S s request.args o).later ≡ s.later
      unmoved None = refl
      unmoved (Some proc) = refl

      go : (b : Bool) → (grown_accepts S s.state request ≡ true → LastsMore (taken ++ request ∷ []) rest s.later (grown_submitted_all S (grown_submitted S s request) rest)) → grown_accepts S s.state request ≡ b
          → LastsMore taken (request ∷ rest) s.later (if b then grown_submitted_all S (grown_submitted S s request) rest else record s { left = request ∷ rest })
      go true then_rest e =
          let m = then_rest e in record {
            more = request ∷ m.more;
            parts = ap (λ (l : List Request). request ∷ l) m.parts;
            same = m.same;
            lasts = subst (λ l. LastsBehind l (grown_submitted_all S (grown_submitted S s request) rest)) (append_assoc taken (request ∷ []) m.more) m.lasts;
          }
      go false then_rest e = record { more = []; parts = refl; same = refl; lasts = subst (λ l. LastsBehind l s) (sym (append-nil taken)) k }

  -- more of both lists were given ids
  record LastsOn (taken left : List Request) (after : GrownSubmissions) : Type 0 where
    pub more : List Request
    pub parts : left ≡ more ++ (after.left ++ after.later)
    pub lasts : LastsBehind (taken ++ more) after

  lasts_first : (taken : List Request) (s : GrownSubmissions) → LastsBehind taken s → LastsOn taken (s.left ++ s.later) (submitted_first S s)
  lasts_first taken s k =
      let m = lasts_all s.left taken s k in
      let after = submitted_first S s in record {
        more = m.more;
        parts = ap (λ (l : List Request). l ++ s.later) m.parts ∙ append_assoc m.more after.left s.later ∙ ap (λ (l : List Request). m.more ++ (after.left ++ l)) (sym m.same);
        lasts = m.lasts;
      }

  lasts_later : (taken : List Request) (s : GrownSubmissions) → LastsBehind taken s → LastsOn taken (s.left ++ s.later) (submitted_later S s)
  lasts_later taken s k = go (s.state.switched && length s.left == 0) refl
    where
      go : (b : Bool) → (s.state.switched && length s.left == 0) ≡ b → LastsOn taken (s.left ++ s.later) (cond b (of_later (grown_submitted_all S s s.later)) s)
      go true e =
          let m = lasts_all s.later taken s k in
          let none = no_elements s.left (eqb-true (length s.left) 0 (and_parts s.state.switched (length s.left == 0) e).1) in record {
            more = m.more;
            parts = ap (λ (l : List Request). l ++ s.later) none ∙ m.parts;
            lasts = m.lasts;
          }
      go false e = record { more = []; parts = refl; lasts = subst (λ l. LastsBehind l s) (sym (append-nil taken)) k }

  lasts_drained : (taken : List Request) (s : GrownSubmissions) → LastsBehind taken s → LastsBehind taken (drained_first S s)
  lasts_drained taken s k = go (is_first_answered s)
    where
      go : (b : Bool) → LastsBehind taken (cond b (with_drain s (after_drain S.plan s.state)) s)
      go true = lasts_drain S.plan (naming S) number taken (before ++ s.lines) answered s.state k
      go false = k

  undrained : (s : GrownSubmissions) → (drained_first S s).left ++ (drained_first S s).later ≡ s.left ++ s.later
  undrained s = go (is_first_answered s)
    where
      go : (b : Bool) → (cond b (with_drain s (after_drain S.plan s.state)) s).left ++ (cond b (with_drain s (after_drain S.plan s.state)) s).later ≡ s.left ++ s.later
      go true = refl
      go false = refl

  lasts_before : (taken : List Request) (s : GrownSubmissions) → LastsBehind taken s → LastsOn taken (s.left ++ s.later) (submitted_later S (submitted_first S (drained_first S s)))
  lasts_before taken s k =
      let drained = drained_first S s in
      let first = lasts_first taken drained (lasts_drained taken s k) in
      let second = lasts_later (taken ++ first.more) (submitted_first S drained) first.lasts in
      let end = submitted_later S (submitted_first S drained) in record {
        more = first.more ++ second.more;
        parts = sym (undrained s) ∙ first.parts ∙ ap (λ (l : List Request). first.more ++ l) second.parts ∙ sym (append_assoc first.more second.more (end.left ++ end.later));
        lasts = subst (λ l. LastsBehind l end) (append_assoc taken first.more second.more) second.lasts;
      }

-- ---- runs

module _ (S : GrownNodeSetting) (number : ℕ) (names : NamesAlike S.plan.program (naming S)) where
  record LastsRun (all : List Request) (node : GrownCoordNodeState) : Type 0 where
    pub taken : List Request
    pub parts : all ≡ taken ++ (node.left ++ node.later)
    pub lasts : Lasts S.plan (naming S) number taken node.state node.lines node.answered

  -- behind a drain and submissions
  lasts_submitted : (all : List Request) (node : GrownCoordNodeState) → LastsRun all node → LastsRun all (grown_submitted_node S node)
  lasts_submitted all node r =
      let m = lasts_before S number names node.lines node.answered r.taken (none_grown_submitted node)
      (subst (λ l. Lasts S.plan (naming S) number r.taken node.state l node.answered) (sym (append-nil node.lines)) r.lasts) in
      let after = grown_submissions_of S node in
      record {
        taken = r.taken ++ m.more;
        parts = r.parts ∙ ap (λ (l : List Request). r.taken ++ l) m.parts ∙ sym (append_assoc r.taken m.more (after.left ++ after.later));
        lasts = m.lasts;
      }

  lasts_turn : (all : List Request) (node : GrownCoordNodeState) (event : NodeEvent) → LastsRun all node → LastsRun all (grown_coord_turn S node event)
  lasts_turn all node event r =
      let m = lasts_submitted all node r in
      let mid = grown_submitted_node S node in record {
        taken = m.taken;
        parts = m.parts;
        lasts = lasts_event S (naming S) number m.taken mid.state mid.lines mid.answered m.lasts event;
      }

  lasts_run : {requests later : List Request} {events : List NodeEvent} {node : GrownCoordNodeState} → IsGrownCoordRun S number requests later events node → LastsRun (requests ++ later) node
  lasts_run begun = record {
    taken = [];
    parts = refl;
    lasts = record {
      kept = record { numbered = refl; next = refl; bounded = omega arith; given = none_given; each = none_below number; all = refl; shared = λ id. refl; counted = refl };
      rests = λ t told early. absurd (cc);
      over = λ now. absurd (false≢true now);
    };
  }
  lasts_run {requests} {later} (goes_on {node = node} event run going) = lasts_turn (requests ++ later) node event (lasts_run run)

  answers_of : (all : List Request) (node : GrownCoordNodeState) → LastsRun all node → are_all_answered node ≡ true → AreEachAnswered (naming S) number all (as_plain node)
  answers_of all node r e =
      let both = and_parts (length (node.left ++ node.later) == 0) (length node.state.core.unanswered == 0) e in
      answers (no_elements (node.left ++ node.later) (eqb-true (length (node.left ++ node.later)) 0 both.0)) (no_elements node.state.core.unanswered (eqb-true (length node.state.core.unanswered) 0 both.1))
    where
      once : (taken : List Request) → Kept (naming S) number taken node.state.core node.lines node.answered → node.state.core.unanswered ≡ [] → (seq : ℕ) → seq < length taken
          → length (filter (is_answer_to (record { coord = number; seq = seq })) node.lines) ≡ 1
      once taken k none_waits seq below =
          let id : TxnId = record { coord = number; seq = seq } in
          let each = k.each id in
          let none = ap (waiting id) none_waits in
          let given = ap (λ b. one_if (b && nat_lt seq node.state.core.next)) (eq-eqb number number refl) ∙ ap one_if (lt-ltb seq node.state.core.next (let n = k.next in omega arith)) in
          omega arith

      answers : node.left ++ node.later ≡ [] → node.state.core.unanswered ≡ [] → AreEachAnswered (naming S) number all (as_plain node)
      answers left none_waits =
          let k = r.lasts.kept in
          let whole : all ≡ r.taken = r.parts ∙ ap (λ (l : List Request). r.taken ++ l) left ∙ append-nil r.taken in
          let none = ap (λ (l : List TxnId). length l) none_waits in
          let total = k.all in let next = k.next in let count = ap (λ (l : List Request). length l) whole in record {
            given = subst (λ l. AreGivenIds (naming S) number l (filter is_submission node.lines)) (sym whole) k.given;
            answers = λ seq below. once r.taken k none_waits seq (omega arith);
            all = omega arith;
            counted = let c = k.counted in omega arith;
          }

  -- at the end of a turn, or behind the submissions before one
  pub each_answered : (requests later : List Request) (events : List NodeEvent) (node : GrownCoordNodeState) (half : Bool) → IsGrownCoordRun S number requests later events node
      → are_all_answered (cond half (grown_submitted_node S node) node) ≡ true → AreEachAnswered (naming S) number (requests ++ later) (as_plain (cond half (grown_submitted_node S node) node))
  each_answered requests later events node true run e = answers_of (requests ++ later) (grown_submitted_node S node) (lasts_submitted (requests ++ later) node (lasts_run run)) e
  each_answered requests later events node false run e = answers_of (requests ++ later) node (lasts_run run) e
