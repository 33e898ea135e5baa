-- What a coordinator's node logs is its submissions and what its turns bring
use Rattle.std.proofs.Common.{◌≡◌, ℕ, ℤ, Bool, true, false, List, [], ◌∷◌, ◌++◌, Option, Some, None, Result, Ok, Err, refl, sym, ap, subst, ◌∙◌, inl, inr, append-nil, append_assoc}
use Rattle.std.proofs.lemmas.Bool.{false≢true}
use Rattle.std.specs.List.{cons_option}
use Rattle.std.specs.Prelude.{option_map, if◌then◌else◌}
use Rattle.std.specs.Result.{is_ok}
use Rattle.roc_base.specs.declared.id.TxnId.{TxnId}
use Rattle.roc_io.specs.Packet.{Packet}
use Rattle.roc_msg.specs.declared.msg.Msg.{Msg}
use Rattle.roc_program.specs.LookUps.{procedure_named}
use Rattle.roc_sched.specs.declared.line.Request.{Request}
use Rattle.roc_wire.specs.declared.header.Header.{Header}
use Rattle.roc_wire.specs.Laws.{Spells}
use Rattle.roc_wire.specs.Reading.{datagram, pair}
use Rattle.roc_coord.specs.declared.handled.Handled.{Handled}
use Rattle.roc_coord.specs.declared.handled.Handled.TheVariants as handled
use Rattle.roc_coord.specs.declared.handled.SubmitFault.{SubmitFault}
use Rattle.roc_coord.specs.State.{CoordState, first_coord}
use Rattle.roc_coord.specs.Step.{after_message}
use Rattle.roc_coord.specs.Submit.{after_submit}
use Rattle.roc_coord.specs.Tick.{tick_sends}
use Rattle.roc_log.specs.declared.line.LogLine.{LogLine}
use Rattle.roc_log.specs.declared.line.LogLine.TheVariants.{Submit, In, Tick}
use Rattle.roc_log.specs.Sent.{outs_logged}
use Rattle.roc_fold.specs.Sent as fold
use Rattle.roc_fold.specs.Fold.{coordinating, GivenByEvent}
use Rattle.roc_node.specs.Judgement.{judged}
use Rattle.roc_node.specs.declared.judging.Judged.{Judged}
use Rattle.roc_node.specs.declared.judging.Judged.TheVariants.{Delivery, Skipped}
use Rattle.roc_node.specs.NodeEvent.{NodeEvent, took, silent, NodeSetting}
use Rattle.roc_node_submit.specs.CoordRun.{CoordNodeState, Submissions, accepts, accepts_call, submitted, submitted_call, submitted_all, none_submitted}
use Rattle.roc_node_submit.specs.CoordRun.{submissions_of, submission_logged, first_coord_node_state}
use Rattle.roc_node_submit.specs.CoordRun.{coord_submitted, step_of_judged, step_of_event, reply_logged, datagram_logged, event_logged, coord_turn, IsCoordRun}
use Rattle.roc_law_audit.proofs.Stopped.{tagged_brings}
use Rattle.roc_law_nodes.specs.Own.{OwnEvent, delivered, ticked, requested}
use Rattle.roc_law_nodes.specs.Turns.{judged_brings, turn_brings, SpellsDelivery, own_request, own_requests, next_requests, coord_owns}
use Rattle.roc_law_nodes.specs.Interleaved.{CoordPlace, between, within, node_at, IsCoordAt}
use Rattle.roc_law_nodes.specs.WorldOf.{owns_to}
use Rattle.roc_law_nodes.proofs.CoordFolds.{later, taken_are, run_reaches}
use Rattle.roc_law_nodes.proofs.NodeLogs.{AreLogged, none_logged, logs_more, logged_as, AllSpell, SpellsWhatItBrings}

-- the line of an answer is one, whoever writes or folds it
same_answer : (answer : Handled) → reply_logged answer ≡ fold.answer_logged answer
same_answer handled.Done = refl
same_answer (handled.Answered id reply) = refl
same_answer (handled.Ignored reason) = refl

accepted_id : (answer : Result TxnId SubmitFault) → is_ok answer ≡ true → (id : TxnId) × (answer ≡ Ok id)
accepted_id (Ok id) e = (id, refl)
accepted_id (Err fault) e = absurd (false≢true e)

module _ (reads : (bytes : List ℕ) (header : Header) (msg : Msg) → Spells bytes header msg → datagram bytes ≡ Ok (pair header msg)) (S : NodeSetting) (number : ℕ) where
  abbrev tag : List ℕ
  tag = S.header.tag

  abbrev Leads : List OwnEvent → CoordState → List LogLine → Type 0
  Leads own c lines = AreLogged S.plan S.header (coordinating (first_coord number)) own (coordinating c) lines

  -- ---- submissions

  module _ (before : List LogLine) where
    -- one that is accepted
    call_logs : (own : List OwnEvent) (s : Submissions) (args : List ℤ) → Leads own s.state (before ++ s.logged) → (proc : Option ℕ) → accepts_call S.plan s.state args proc ≡ true
        → (let after = submitted_call S s args proc in Leads (own ++ cons_option (option_map (λ p. requested p args) proc) []) after.state (before ++ after.logged))
    call_logs own s args l None e = absurd (false≢true e)
    call_logs own s args l (Some proc) e =
        let sub = after_submit S.plan s.state proc args in
        let a = accepted_id sub.answer e in
        let due = outs_logged S.header sub.sends in
        let g : GivenByEvent = record { core = coordinating sub.state; due = due; decided = []; ran = [] } in
        let lines : before ++ (s.logged ++ submission_logged S.header proc args sub.sends sub.answer) ≡ (before ++ s.logged) ++ Submit proc args ∷ due =
        ap (λ (x : Result TxnId SubmitFault). before ++ (s.logged ++ submission_logged S.header proc args sub.sends x)) a.1 ∙ sym (append_assoc before s.logged (Submit proc args ∷ due)) in
        logged_as (logs_more (requested proc args) (Submit proc args) g l refl (a.0, a.1, refl)) refl refl lines

    -- of these requests the first were submitted
    record Made (own : List OwnEvent) (requests : List Request) (after : Submissions) : Type 0 where
      pub taken : List Request
      pub all : requests ≡ taken ++ after.left
      pub leads : Leads (own ++ own_requests S.plan taken) after.state (before ++ after.logged)

    made : (requests : List Request) (own : List OwnEvent) (s : Submissions) → Leads own s.state (before ++ s.logged) → Made own requests (submitted_all S s requests)
    unfolding submitted_all
    made [] own s l = record { taken = []; all = refl; leads = logged_as l (append-nil own) refl refl }
    made (request ∷ rest) own s l = go (accepts S.plan s.state request) refl (made rest (own ++ cons_option (own_request S.plan request) []) (submitted S s request))
      where
        go : (b : Bool) → accepts S.plan s.state request ≡ b
            → ((let after = submitted S s request in Leads (own ++ cons_option (own_request S.plan request) []) after.state (before ++ after.logged))
            → Made (own ++ cons_option (own_request S.plan request) []) rest (submitted_all S (submitted S s request) rest))
            → Made own (request ∷ rest) (if b then submitted_all S (submitted S s request) rest else record s { left = request ∷ rest })
        go true e more =
            let m = more (call_logs own s request.args l (procedure_named S.plan.program request.name) e) in
            record {
              taken = request ∷ m.taken;
              all = ap (λ (x : List Request). request ∷ x) m.all;
              leads = logged_as m.leads
                  (sym
                  (append_assoc own (cons_option (own_request S.plan request) []) (own_requests S.plan m.taken)
                  ∙ ap (λ x. own ++ x) (one (own_request S.plan request) (own_requests S.plan m.taken))))
                  refl refl;
            }
          where
            one : (p : Option OwnEvent) (x : List OwnEvent) → cons_option p [] ++ x ≡ cons_option p x
            one None x = refl
            one (Some p) x = refl
        go false e more = record { taken = []; all = refl; leads = logged_as l (append-nil own) refl refl }

  -- ---- turns

  module _ (own : List OwnEvent) (c : CoordState) (lines : List LogLine) (l : Leads own c lines) where
    judged_logs : (bytes : List ℕ) (j : Judged) → ((header : Header) (msg : Msg) → j ≡ Delivery header msg → SpellsDelivery tag bytes msg)
        → (let r = step_of_judged S.plan c j in Leads (own ++ judged_brings j) r.state (lines ++ datagram_logged S.header bytes r j))
    judged_logs bytes (Delivery header msg) spells =
        let s = spells header msg refl in
        let r = after_message S.plan c msg in
        let g : GivenByEvent = record { core = coordinating r.state; due = outs_logged S.header r.sends ++ fold.answer_logged r.answer; decided = []; ran = [] } in
        logged_as (logs_more (delivered msg) (In bytes) g l (bytes, s, refl) (msg, tagged_brings reads tag bytes s.header msg s.tagged s.spells, refl)) refl refl
        (ap (λ (x : List LogLine). lines ++ In bytes ∷ (outs_logged S.header r.sends ++ x)) (same_answer r.answer))
    judged_logs bytes (Skipped skip) spells = logged_as l (append-nil own) refl (append-nil lines)

    turn_logs : (event : NodeEvent) → ((packet : Packet) → took packet ≡ event → SpellsWhatItBrings tag packet.bytes)
        → (let r = step_of_event S c event in Leads (own ++ turn_brings tag event) r.state (lines ++ event_logged S.header event r))
    turn_logs (took packet) spells = judged_logs packet.bytes (judged tag packet.bytes) (spells packet refl)
    turn_logs silent spells =
        let g : GivenByEvent = record { core = coordinating c; due = outs_logged S.header (tick_sends S.plan c); decided = []; ran = [] } in
        logs_more ticked Tick g l refl refl

  -- the submissions before a turn
  submitted_logs : (node : CoordNodeState) (own : List OwnEvent) → Leads own node.state node.logged
      → (let after = coord_submitted S node in Leads (own ++ own_requests S.plan (next_requests S node)) after.state after.logged)
  submitted_logs node own l =
      let m = made node.logged node.left own (none_submitted node.state) (logged_as l refl refl (append-nil node.logged)) in
      let calls : next_requests S node ≡ m.taken = taken_are S number node.left m.taken (submissions_of S node).left m.all in
      logged_as m.leads (ap (λ (x : List Request). own ++ own_requests S.plan x) calls) refl refl

  -- the turns of a node, one after another
  turns_log : (events : List NodeEvent) (node : CoordNodeState) (own : List OwnEvent) → Leads own node.state node.logged → AllSpell tag events
      → (let after = later S number node events in Leads (own ++ coord_owns S node events) after.state after.logged)
  unfolding later
  turns_log [] node own l spell = logged_as l (append-nil own) refl refl
  turns_log (event ∷ events) node own l spell =
      let asked = own_requests S.plan (next_requests S node) in
      let brings = turn_brings tag event in
      let made_then = coord_submitted S node in
      let t = turn_logs (own ++ asked) made_then.state made_then.logged (submitted_logs node own l) event (λ packet e. spell packet (inl e)) in
      let rest = turns_log events (coord_turn S node event) ((own ++ asked) ++ brings) t (λ packet h. spell packet (inr h)) in
      let behind = coord_owns S (coord_turn S node event) events in
      logged_as rest (sym (append_assoc own asked (brings ++ behind)) ∙ sym (append_assoc (own ++ asked) brings behind)) refl refl

  pub coord_run_logs : {requests : List Request} {events : List NodeEvent} {node : CoordNodeState} → IsCoordRun S number requests events node → AllSpell tag events
      → Leads (coord_owns S (first_coord_node_state number requests) events) node.state node.logged
  coord_run_logs {requests} {events} {node} r spell =
      let first = first_coord_node_state number requests in
      subst (λ (n : CoordNodeState). Leads (coord_owns S first events) n.state n.logged) (run_reaches S number r) (turns_log events first [] none_logged spell)

  -- and of one that may be within a turn
  pub coord_place_logs : (requests : List Request) (events : List NodeEvent) (place : CoordPlace) → IsCoordAt S number requests events place → AllSpell tag events
      → Leads (owns_to S number requests events place) (node_at place).state (node_at place).logged
  coord_place_logs requests events (between node) r spell = coord_run_logs r spell
  coord_place_logs requests events (within before now) (r, going, is) spell =
      let first = first_coord_node_state number requests in
      subst (λ (n : CoordNodeState). Leads (coord_owns S first events ++ own_requests S.plan (next_requests S before)) n.state n.logged) (sym is)
      (submitted_logs before (coord_owns S first events) (coord_run_logs r spell))
