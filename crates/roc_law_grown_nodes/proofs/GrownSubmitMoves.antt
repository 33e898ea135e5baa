-- The drain and the submissions before a coordinator's receive are so many events of the world of two files
use Rattle.std.proofs.Common.{◌≡◌, ◌<◌, ℕ, ℤ, ◌==◌, ◌&&◌, ◌||◌, Bool, true, false, List, [], ◌∷◌, ◌++◌, Option, Some, None, Result, Ok, Err, length, map, refl, sym, ap, subst, ◌∙◌}
use Rattle.std.proofs.Common.{append-nil, append_assoc, arith}
use Rattle.std.proofs.lemmas.Bool.{false≢true}
use Rattle.std.proofs.lemmas.Grind.{flat_map-append}
use Rattle.std.proofs.lemmas.List.{map-append, length-append, get_or_append_left}
use Rattle.std.specs.Prelude.{slice_get, slice_set, slice_index_or, if◌then◌else◌}
use Rattle.std.specs.Result.{is_ok}
use Rattle.roc_base.specs.declared.id.TxnId.{TxnId}
use Rattle.roc_base.specs.declared.node.Node.TheVariants.{Coord}
use Rattle.roc_msg.specs.declared.outbox.Outgoing.{Outgoing}
use Rattle.roc_program.specs.LookUps.{procedure_named, no_procedure}
use Rattle.roc_program.specs.Program.{Procedure}
use Rattle.roc_plan.specs.Groups.{Plan}
use Rattle.roc_replay.specs.Readback.{entries_in, history_in}
use Rattle.roc_sched.specs.declared.line.Request.{Request}
use Rattle.roc_coord.specs.State.{CoordState}
use Rattle.roc_coord.specs.Submit.{next_id, after_submit, Submission}
use Rattle.roc_audit.specs.declared.entry.Entry.{Entry}
use Rattle.roc_audit.specs.declared.entry.Entry.TheVariants.{Submitted}
use Rattle.roc_law_protocol.proofs.Changed.{get-set_here}
use Rattle.roc_law_protocol.proofs.SubmissionEnds.{IsAnySubmission, any_submission_is, unknown, miscounted, spent, busy, taken}
use Rattle.roc_epoch.specs.declared.next.Next.{Next}
use Rattle.roc_epoch.specs.Grown.{IsGrownFrom}
use Rattle.roc_epoch.specs.Files.{own_plan}
use Rattle.roc_two_files.specs.Sealed.{Sealed, sealed_by}
use Rattle.roc_grown.specs.declared.handled.GrownFault.{GrownFault}
use Rattle.roc_grown.specs.declared.handled.GrownFault.TheVariants.{Draining}
use Rattle.roc_grown.specs.Server.{GrownServerState}
use Rattle.roc_grown.specs.Coord.{GrownCoordState, GrownSubmission, DrainStep, is_drained, telling, drained_sends, tell_if_drained, after_drain, submitted_to_core, after_grown_submit}
use Rattle.roc_growth.specs.Happens.{IsCallOf}
use Rattle.roc_growth.proofs.Submitting.{answered_ok}
use Rattle.roc_grown_node.specs.Setting.{GrownNodeSetting}
use Rattle.roc_grown_submit.specs.GrownCoordRun.{GrownCoordNodeState, GrownSubmissions, none_grown_submitted, with_drain, is_first_answered, drained_first, grown_submit_lines, grown_submitted_call}
use Rattle.roc_grown_submit.specs.GrownCoordRun.{grown_submitted, grown_accepts_call, grown_accepts, grown_submitted_all, submitted_first, of_later, submitted_later, grown_submissions_of}
use Rattle.roc_grown_submit.specs.GrownCoordRun.{grown_submitted_node, plan_of_file}
use Rattle.roc_law_nodes.proofs.NodeMoves.{line_in}
use Rattle.roc_law_nodes.proofs.SubmitMoves.{set_again}
use Rattle.roc_law_grown_nodes.specs.GrownInterleaved.{AllGrownSettings, grown_setting_at, between, within, AllGrownNodes, grown_coord_moved}
use Rattle.roc_law_grown_nodes.proofs.GrownNodeMoves.{Mirrors, core_there, coord_as}
use Rattle.roc_law_grown_nodes.proofs.GrownStands.{GrownStands, stands_as, coord_drains, coord_requests}
use Rattle.roc_law_protocol.proofs.Stops.{set_there}

-- ---- what is accepted

accepted_by_core : (plan : Plan) (s : CoordState) (proc : ℕ) (args : List ℤ) (id : TxnId) → (after_submit plan s proc args).answer ≡ Ok id → IsCallOf plan proc args
accepted_by_core plan s proc args id e = go (after_submit plan s proc args) (any_submission_is plan s proc args) e
  where
    go : (r : Submission) → IsAnySubmission plan s proc args r → r.answer ≡ Ok id → IsCallOf plan proc args
    go r (unknown not) f = absurd (cc)
    go r (miscounted not) f = absurd (cc)
    go r (spent known counted l) f = absurd (cc)
    go r (busy known counted l m) f = absurd (cc)
    go r (taken known counted l m) f = (known, counted)

module _ (plan : Plan) (next : Next) (grown : IsGrownFrom plan.program next.plan.program) where
  -- a call of a file's own is one of the last file's
  of_last : (switched : Bool) (proc : ℕ) (args : List ℤ) → IsCallOf (own_plan plan (Some next) switched) proc args → IsCallOf next.plan proc args
  of_last true proc args call = call
  of_last false proc args (known, counted) =
      let more = grown.procedures in (
        subst (λ (ps : List Procedure). proc < length ps) (sym more.1) (in_front plan.program.procedures more.0 proc known),
        counted ∙ ap (λ (p : Procedure). p.arguments)
            (sym (ap (λ (ps : List Procedure). slice_index_or ps proc no_procedure) more.1 ∙ get_or_append_left plan.program.procedures more.0 no_procedure proc known)),
      )
    where
      in_front : (xs ys : List Procedure) (n : ℕ) → n < length xs → n < length (xs ++ ys)
      in_front xs ys n l = subst (λ k. n < k) (sym (length-append xs ys)) (omega (arith, l))

  accepted_of_last : (c : GrownCoordState) (proc : ℕ) (args : List ℤ) (id : TxnId) → (after_grown_submit plan (Some next) c proc args).answer ≡ Ok id → IsCallOf next.plan proc args
  accepted_of_last c proc args id e = go c.draining e
    where
      core : Submission
      core = after_submit (own_plan plan (Some next) c.switched) c.core proc args

      go : (b : Bool) → (if◌then◌else◌ {A = GrownSubmission} b (record { answer = Err Draining; state = c; sends = [] }) (submitted_to_core c core)).answer ≡ Ok id → IsCallOf next.plan proc args
      go true f = absurd (cc)
      go false f = of_last c.switched proc args (accepted_by_core (own_plan plan (Some next) c.switched) c.core proc args id (answered_ok core.answer id f))

  -- neither goes over
  submits_in_file : (c : GrownCoordState) (proc : ℕ) (args : List ℤ) → (after_grown_submit plan (Some next) c proc args).state.switched ≡ c.switched
  submits_in_file c proc args = go c.draining
    where
      go : (b : Bool) → (if◌then◌else◌ {A = GrownSubmission} b (record { answer = Err Draining; state = c; sends = [] })
          (submitted_to_core c (after_submit (own_plan plan (Some next) c.switched) c.core proc args))).state.switched ≡ c.switched
      go true = refl
      go false = refl

tells_in_file : (plan : Plan) (c : GrownCoordState) → (tell_if_drained plan c).state.switched ≡ c.switched
tells_in_file plan c = go (is_drained c)
  where
    go : (b : Bool) → (if◌then◌else◌ {A = DrainStep} b (record { state = telling c; sends = drained_sends plan (next_id c.core) }) (record { state = c; sends = [] })).state.switched ≡ c.switched
    go true = refl
    go false = refl

drains_in_file : (plan : Plan) (c : GrownCoordState) → (after_drain plan c).state.switched ≡ c.switched
drains_in_file plan c = go (c.draining || c.switched)
  where
    go : (b : Bool) → (if◌then◌else◌ {A = DrainStep} b (record { state = c; sends = [] }) (tell_if_drained plan (record c { draining = true }))).state.switched ≡ c.switched
    go true = refl
    go false = tells_in_file plan (record c { draining = true })

has_id : (a : Result TxnId GrownFault) → is_ok a ≡ true → (id : TxnId) × (a ≡ Ok id)
has_id (Ok id) e = (id, refl)
has_id (Err fault) e = absurd (false≢true e)

-- ---- before a receive

module _ (N : AllGrownSettings) (grown : IsGrownFrom N.plan.program N.next.plan.program) (number : ℕ) (servers : List GrownServerState) (cores : List GrownCoordState)
    (sent : List Sealed) (history : List Entry) (c : GrownCoordState) (there : slice_get cores number ≡ Some c) where
  abbrev S : GrownNodeSetting
  S = grown_setting_at N (Coord number)

  abbrev seals : Bool → List Outgoing → List Sealed
  seals switched outs = map (sealed_by switched (Coord number)) outs

  -- events led to what comes of a drain and of submissions
  abbrev Stands : GrownSubmissions → Type 0
  Stands s = GrownStands N.plan N.next servers (slice_set cores number s.state) (sent ++ seals s.state.switched s.messages) (history ++ history_in s.lines)

  more_sent : (was is : Bool) (before outs : List Outgoing) → is ≡ was → (sent ++ seals was before) ++ seals is outs ≡ sent ++ seals is (before ++ outs)
  more_sent was is before outs e =
      append_assoc sent (seals was before) (seals is outs)
      ∙ ap (λ (l : List Sealed). sent ++ l)
      (ap (λ (b : Bool). seals b before ++ seals is outs) (sym e) ∙ sym (map-append (sealed_by is (Coord number)) before outs))

  state_there : (s : GrownSubmissions) → slice_get (slice_set cores number s.state) number ≡ Some s.state
  state_there s = get-set_here cores number c s.state there

  drain_stands : (s : GrownSubmissions) → Stands s → Stands (with_drain s (after_drain N.plan s.state))
  drain_stands s st =
      let d = after_drain N.plan s.state in
      stands_as N.plan N.next (coord_drains N.plan N.next st number s.state (state_there s)) refl (set_again cores number s.state d.state)
      (more_sent s.state.switched d.state.switched s.messages d.sends (drains_in_file N.plan s.state)) refl

  drained_stands : (s : GrownSubmissions) → Stands s → Stands (drained_first S s)
  drained_stands s st = go (is_first_answered s)
    where
      go : (b : Bool) → Stands (if b then with_drain s (after_drain N.plan s.state) else s)
      go true = drain_stands s st
      go false = st

  call_stands : (s : GrownSubmissions) (args : List ℤ) → Stands s → (proc : Option ℕ) → grown_accepts_call S s.state args proc ≡ true → Stands (grown_submitted_call S s args proc)
  call_stands s args st None e = absurd (false≢true e)
  call_stands s args st (Some proc) e =
      let sub = after_grown_submit N.plan (Some N.next) s.state proc args in
      let ok = has_id sub.answer e in
      let gains : List Entry = Submitted ok.0 proc args ∷ [] in
      let shown : history_in (grown_submit_lines proc args sub.answer) ≡ gains = ap (λ (a : Result TxnId GrownFault). history_in (grown_submit_lines proc args a)) ok.1 in
      let lines : history_in (s.lines ++ grown_submit_lines proc args sub.answer) ≡ history_in s.lines ++ gains =
      flat_map-append entries_in s.lines (grown_submit_lines proc args sub.answer) ∙ ap (λ (l : List Entry). history_in s.lines ++ l) shown in
      stands_as N.plan N.next
      (coord_requests N.plan N.next st number s.state (state_there s) proc args ok.0 (accepted_of_last N.plan N.next grown s.state proc args ok.0 ok.1) ok.1) refl
      (set_again cores number s.state sub.state)
      (more_sent s.state.switched sub.state.switched s.messages sub.sends (submits_in_file N.plan N.next grown s.state proc args))
      (append_assoc history (history_in s.lines) gains ∙ ap (λ (l : List Entry). history ++ l) (sym lines))

  all_stand : (requests : List Request) (s : GrownSubmissions) → Stands s → Stands (grown_submitted_all S s requests)
  unfolding grown_submitted_all
  all_stand [] s st = st
  all_stand (request ∷ rest) s st = go (grown_accepts S s.state request) refl (all_stand rest (grown_submitted S s request))
    where
      go : (b : Bool) → grown_accepts S s.state request ≡ b → (Stands (grown_submitted S s request) → Stands (grown_submitted_all S (grown_submitted S s request) rest))
          → Stands (if b then grown_submitted_all S (grown_submitted S s request) rest else record s { left = request ∷ rest })
      go true e more = more (call_stands s request.args st (procedure_named (plan_of_file S s.state).program request.name) e)
      go false e more = st

  later_stands : (s : GrownSubmissions) → Stands s → Stands (submitted_later S s)
  later_stands s st = go (s.state.switched && length s.left == 0)
    where
      go : (b : Bool) → Stands (if b then of_later (grown_submitted_all S s s.later) else s)
      go true = all_stand s.later s st
      go false = st

  pub before_stands : (node : GrownCoordNodeState) → Stands (none_grown_submitted node) → Stands (grown_submissions_of S node)
  before_stands node st =
      let first = drained_first S (none_grown_submitted node) in
      later_stands (submitted_first S first) (all_stand first.left first (drained_stands (none_grown_submitted node) st))

module _ (N : AllGrownSettings) (grown : IsGrownFrom N.plan.program N.next.plan.program) (all : AllGrownNodes) (r : Mirrors N all) (number : ℕ) (node : GrownCoordNodeState)
    (at : slice_get all.coords number ≡ Some (between node)) where
  pub submissions_made : Mirrors N (grown_coord_moved all number (between node) (within node (grown_submitted_node (grown_setting_at N (Coord number)) node)))
  submissions_made =
      let S = grown_setting_at N (Coord number) in
      let here = core_there N all r number (between node) at in
      let begins = stands_as N.plan N.next r refl (sym (set_there _ number node.state here)) (sym (append-nil all.sent)) (sym (append-nil (history_in (map line_in all.told)))) in
      let s = grown_submissions_of S node in
      coord_as N all r number (between node) at (within node (grown_submitted_node S node)) s.state s.state.switched s.messages s.lines (history_in s.lines) refl refl refl refl
      (before_stands N grown number _ _ all.sent (history_in (map line_in all.told)) node.state here node begins)
