-- What is logged over a node's own events in a run of the world are its lines in that run
use Rattle.std.proofs.Common.{◌≡◌, ◌≢◌, ℕ, ℤ, ◌-◌, Bool, true, false, List, [], ◌∷◌, ◌++◌, Option, Some, None, Ok, refl, sym, ap, subst, ◌∙◌, append-nil, arith}
use Rattle.std.proofs.lemmas.Bool.{eq-eqb, false≢true}
use Rattle.std.specs.Option.{option_map, is_some}
use Rattle.std.specs.Prelude.{slice_get, if◌then◌else◌}
use Rattle.roc_sequence.proofs.Appended.{empty_more, same_more}
use Rattle.roc_sequence.proofs.Members.{same_there}
use Rattle.roc_base.specs.declared.node.Node.{Node}
use Rattle.roc_base.specs.declared.node.Node.TheVariants.{Server, Coord}
use Rattle.roc_base.specs.Node.{is_node}
use Rattle.roc_base.proofs.Nodes.{Decides-is_node}
use Rattle.roc_msg.specs.declared.msg.Msg.{Msg}
use Rattle.roc_msg.specs.declared.msg.Envelope.{Envelope}
use Rattle.roc_msg.specs.declared.outbox.Outgoing.{Outgoing}
use Rattle.roc_plan.specs.Groups.{Plan}
use Rattle.roc_wire.specs.declared.header.Header.{Header}
use Rattle.roc_wire.specs.Laws.{Spells}
use Rattle.roc_wire.specs.Reading.{datagram, pair}
use Rattle.roc_step.specs.First.{first_server}
use Rattle.roc_step.specs.Reads.{first_viewing}
use Rattle.roc_step.specs.State.{ServerState, Viewing}
use Rattle.roc_coord.specs.State.{first_coord, CoordState}
use Rattle.roc_coord.specs.Submit.{after_submit}
use Rattle.roc_law_protocol.proofs.Changed.{get-set_here, get-set_other}
use Rattle.roc_law_protocol.proofs.Firsts.{found_at}
use Rattle.roc_law_protocol.specs.declared.event.Event.{Event}
use Rattle.roc_law_protocol.specs.declared.event.Event.TheVariants as event
use Rattle.roc_law_protocol.specs.declared.event.Seen.{Seen}
use Rattle.roc_law_protocol.specs.declared.event.Seen.TheVariants as seen
use Rattle.roc_law_world.specs.World.{World, first_world}
use Rattle.roc_law_world.specs.Happens.{Outcome, Submits}
use Rattle.roc_law_world.specs.Run.{Stepped, Transition, IsRun, at_beginning, steps_on}
use Rattle.roc_log.specs.declared.line.LogLine.{LogLine}
use Rattle.roc_log.specs.declared.line.LogLine.TheVariants.{Submit}
use Rattle.roc_fold.specs.Fold.{Core, serving, coordinating, first_core, GivenByEvent, Gives}
use Rattle.roc_fold.proofs.OneFold.{one_event}
use Rattle.roc_law_audit.specs.LogsOfRuns.{node_of_event, is_step_of, outs_gained, answers_gained, LogsDelivery, LogsSubmission, LogsOwn, LogsWhere, LogsStep, AreLoggedFrom, AreStops, AreAllLogged}
use Rattle.roc_law_audit.proofs.Effects.{IsWhole, given_by, Effect, nobody, a_server, a_coord, effect}
use Rattle.roc_law_audit.proofs.Fronts.{behind, run_behind, logged_more, all_more}
use Rattle.roc_law_nodes.specs.Own.{OwnEvent, delivered, ticked, requested, stopped, stopped_at, heard_by, own_step, own_events}
use Rattle.roc_law_nodes.proofs.NodeLogs.{IsLineOf, AreLoggedAmid, none_amid, more_amid, IsNone}
use Rattle.roc_law_nodes.proofs.Stepping.{IsStepAt, IsStep, no_step, server_step, coord_step, stepping}
use Rattle.roc_law_nodes.proofs.Owned.{gains_here, gains_elsewhere, gains_nothing}

-- ---- whose an event is

is_some_if : {A : Type 0} (b : Bool) (a : A) → b ≡ is_some (if b then Some a else None)
is_some_if true a = refl
is_some_if false a = refl

-- the node of an event is the one whose own event it is
whose : (node : Node) (sent : List Envelope) (e : Option Event) → is_step_of node (node_of_event sent e) ≡ is_some (own_step node sent e)
whose node sent None = refl
whose node sent (Some (event.Submit number proc args)) = is_some_if (is_node (Coord number) node) (requested proc args)
whose node sent (Some (event.Tick other)) = is_some_if (is_node other node) ticked
whose node sent (Some (event.Stop shard during)) = is_some_if (is_node (Server shard) node) _
whose node sent (Some (event.Deliver k)) = go (slice_get sent (k - 1))
  where
    go : (m : Option Envelope) → is_step_of node (option_map (λ m. m.to) m) ≡ is_some (heard_by node m)
    go None = refl
    go (Some m) = is_some_if (is_node m.to node) (delivered m.msg)

-- with a step, a node has one own event more, or none
data IsOwn (node : Node) (w : World) (steps : List Stepped) (x : Stepped) : Type 0 where
  one_more : (own : OwnEvent) → own_step node w.sent x.event ≡ Some own → own_events node x.outcome.world.sent (steps ++ x ∷ []) ≡ own_events node w.sent steps ++ own ∷ [] → IsOwn node w steps x
  no_more : own_step node w.sent x.event ≡ None → own_events node x.outcome.world.sent (steps ++ x ∷ []) ≡ own_events node w.sent steps → IsOwn node w steps x

module _ {plan : Plan} {coords : ℕ} {steps : List Stepped} {w : World} (r : IsRun plan coords steps w) (x : Stepped) (node : Node) where
  abbrev Own : Type 0
  Own = IsOwn node w steps x

  own_by : (from : Node) (own : OwnEvent) (outs : List Outgoing) → IsStepAt w x.outcome.world x.event from own outs → (b : Bool) → is_node from node ≡ b → Own
  own_by from own outs at true e =
      let here : own_step node w.sent x.event ≡ Some own = ap (λ l. own_step node l x.event) (sym (append-nil w.sent)) ∙ (at.is node [] ∙ ap (λ (b : Bool). if b then Some own else None) e) in
      one_more own here (gains_here node r x x.outcome.world from own outs at e).events
  own_by from own outs at false e =
      let here : own_step node w.sent x.event ≡ None = ap (λ l. own_step node l x.event) (sym (append-nil w.sent)) ∙ (at.is node [] ∙ ap (λ (b : Bool). if b then Some own else None) e) in
      no_more here ((gains_elsewhere node r x x.outcome.world from own outs at e).events ∙ append-nil (own_events node w.sent steps))

  own_of : IsStep plan w x.outcome.world x.event → Own
  own_of (no_step same none) =
      no_more (ap (own_step node w.sent) none) ((gains_nothing node r x x.outcome.world same none).events ∙ append-nil (own_events node w.sent steps))
  own_of (server_step shard own s after views kept outs at there keeps goes servers viewing coordinators) = own_by (Server shard) own outs at (is_node (Server shard) node) refl
  own_of (coord_step number own c after outs at there goes coordinators servers viewing) = own_by (Coord number) own outs at (is_node (Coord number) node) refl

-- ---- the core that the world has of a node

abbrev pub IsCoreOf : World → Node → Core → Type 0
IsCoreOf w (Server shard) core = (s : ServerState) (v : Viewing) → slice_get w.servers shard.0 ≡ Some s → slice_get w.viewing shard.0 ≡ Some v → core ≡ serving s v
IsCoreOf w (Coord number) core = (c : CoordState) → slice_get w.coords number ≡ Some c → core ≡ coordinating c

first_is : (plan : Plan) (coords : ℕ) (node : Node) → IsCoreOf (first_world plan coords) node (first_core plan node)
first_is plan coords (Server shard) =
    λ s v there keeps.
    (let first : ℕ → ServerState = λ n. first_server plan (record { 0 = n }) in
    let views : ℕ → Viewing = λ n. first_viewing in
    let same : s ≡ first_server plan shard = found_at first 0 plan.program.shards shard.0 s there ∙ ap first (omega arith) in
    let none : v ≡ first_viewing = found_at views 0 plan.program.shards shard.0 v keeps in
    (λ i. serving (sym same i) (sym none i)))
first_is plan coords (Coord number) = λ c there. (let same : c ≡ first_coord number = found_at first_coord 0 coords number c there ∙ ap first_coord (omega arith) in ap coordinating (sym same))

-- ---- one step

module _ (reads : (bytes : List ℕ) (header : Header) (msg : Msg) → Spells bytes header msg → datagram bytes ≡ Ok (pair header msg)) (plan : Plan) (header : Header) (w : World) (x : Stepped)
    (goes : Transition plan w x.event x.outcome) where
  abbrev node : Node
  node = header.from

  abbrev v : World
  v = x.outcome.world

  -- ---- another's step

  rests : (core : Core) → IsCoreOf w node core → is_step_of node (node_of_event w.sent x.event) ≡ false → IsCoreOf v node core
  rests core was other = go node was other (effect reads plan w x.event x.outcome goes)
    where
      go : (at : Node) → IsCoreOf w at core → is_step_of at (node_of_event w.sent x.event) ≡ false → Effect plan w x.event x.outcome → IsCoreOf v at core
      go at was other (nobody same decided ran none) = subst (λ (u : World). IsCoreOf u at core) (sym same) was
      go (Server shard) was other (a_server moved s u r q is there keeps turn whole) =
          let unlike : is_node (Server moved) (Server shard) ≡ false = sym (ap (is_step_of (Server shard)) is) ∙ other in
          let apart : moved.0 ≢ shard.0 = λ same. false≢true (sym unlike ∙ eq-eqb moved.0 shard.0 same) in
          λ t k after kept.
          was t k (sym (ap (λ l. slice_get l shard.0) turn.servers ∙ get-set_other w.servers moved.0 shard.0 r.state apart) ∙ after)
          (sym (ap (λ l. slice_get l shard.0) turn.viewing ∙ get-set_other w.viewing moved.0 shard.0 q.viewing apart) ∙ kept)
      go (Coord number) was other (a_server moved s u r q is there keeps turn whole) = λ c after. was c (sym (ap (λ l. slice_get l number) turn.coords) ∙ after)
      go (Server shard) was other (a_coord moved c next told is there turn logs) =
          λ t k after kept. was t k (sym (ap (λ l. slice_get l shard.0) turn.servers) ∙ after) (sym (ap (λ l. slice_get l shard.0) turn.viewing) ∙ kept)
      go (Coord number) was other (a_coord moved c next told is there turn logs) =
          let unlike : is_node (Coord moved) (Coord number) ≡ false = sym (ap (is_step_of (Coord number)) is) ∙ other in
          let apart : moved ≢ number = λ same. false≢true (sym unlike ∙ eq-eqb moved number same) in
          λ d after. was d (sym (ap (λ l. slice_get l number) turn.coords ∙ get-set_other w.coords moved number next apart) ∙ after)

  -- ---- its own step

  module _ (core : Core) (was : IsCoreOf w node core) (g : GivenByEvent) (own : OwnEvent) (line : LogLine) (of : IsLineOf header.tag own line) (gives : Gives plan header core line g) where
    message_begins : (k : ℕ) (m : Envelope) → slice_get w.sent (k - 1) ≡ Some m → IsLineOf header.tag (delivered m.msg) line
        → (rest : List LogLine) × LogsOwn header w (Some (event.Deliver k)) x.outcome (line ∷ rest)
    message_begins k m there (bytes, s, is) =
        let rest = outs_gained header w v ++ answers_gained w v in (
          rest,
          subst (λ (o : Option Envelope). LogsDelivery header w v o (line ∷ rest)) (sym there)
              (record { bytes = bytes; by = s.header; tagged = s.tagged; spells = s.spells; lines = ap (λ (l : LogLine). l ∷ rest) is }),
        )

    submission_begins : (n proc : ℕ) (args : List ℤ) (c : CoordState) → slice_get w.coords n ≡ Some c → node ≡ Coord n
        → Submits w n proc args (after_submit plan c proc args).state (after_submit plan c proc args).sends (after_submit plan c proc args).answer x.outcome → line ≡ Submit proc args
        → (rest : List LogLine) × LogsOwn header w (Some (event.Submit n proc args)) x.outcome (line ∷ rest)
    submission_begins n proc args c there at h is =
        let core_is : core ≡ coordinating c = subst (λ (node : Node). IsCoreOf w node core) at was c there in
        let given : Gives plan header (coordinating c) (Submit proc args) g =
        subst (λ (l : LogLine). Gives plan header (coordinating c) l g) is (subst (λ (k : Core). Gives plan header k line g) core_is gives) in
        let after = after_submit plan c proc args in
        let taken : Submits w n proc args after.state after.sends (Ok given.0) x.outcome = subst (λ a. Submits w n proc args after.state after.sends a x.outcome) given.1 h in
        let seen_is : x.outcome.seen ≡ seen.Submitted given.0 = ap (λ (o : Outcome). o.seen) taken in (
          outs_gained header w v,
          subst (λ (y : Seen). LogsSubmission header w v proc args y (line ∷ outs_gained header w v)) (sym seen_is) (ap (λ (l : LogLine). l ∷ outs_gained header w v) is),
        )

    begins : (e : Option Event) → Transition plan w e x.outcome → own_step node w.sent e ≡ Some own → (rest : List LogLine) × LogsOwn header w e x.outcome (line ∷ rest)
    begins None h is = absurd (cc)
    begins (Some (event.Submit n proc args)) (c, there, h) is = go (is_node (Coord n) node) refl is
      where
        go : (b : Bool) → is_node (Coord n) node ≡ b → (if b then Some (requested proc args) else None) ≡ Some own
            → (rest : List LogLine) × LogsOwn header w (Some (event.Submit n proc args)) x.outcome (line ∷ rest)
        go true at e =
            let same : own ≡ requested proc args = cc in
            submission_begins n proc args c there (sym ((Decides-is_node (Coord n) node).0 at)) h (subst (λ (o : OwnEvent). IsLineOf header.tag o line) same of)
        go false at e = absurd (cc)
    begins (Some (event.Deliver k)) (m, some, there, h) is =
        go (is_node m.to node) (sym (ap (heard_by node) there) ∙ is)
      where
        go : (b : Bool) → (if b then Some (delivered m.msg) else None) ≡ Some own → (rest : List LogLine) × LogsOwn header w (Some (event.Deliver k)) x.outcome (line ∷ rest)
        go true e = let same : own ≡ delivered m.msg = cc in message_begins k m there (subst (λ (o : OwnEvent). IsLineOf header.tag o line) same of)
        go false e = absurd (cc)
    begins (Some (event.Tick other)) h is = go (is_node other node) is
      where
        go : (b : Bool) → (if b then Some ticked else None) ≡ Some own → (rest : List LogLine) × LogsOwn header w (Some (event.Tick other)) x.outcome (line ∷ rest)
        go true e =
            let same : own ≡ ticked = cc in
            (outs_gained header w v, ap (λ (l : LogLine). l ∷ outs_gained header w v) (subst (λ (o : OwnEvent). IsLineOf header.tag o line) same of))
        go false e = absurd (cc)
    begins (Some (event.Stop shard during)) h is = go (is_node (Server shard) node) is
      where
        go : (b : Bool) → (if b then Some (stopped (stopped_at w.sent during)) else None) ≡ Some own → (rest : List LogLine) × LogsOwn header w (Some (event.Stop shard during)) x.outcome (line ∷ rest)
        go true e = let same : own ≡ stopped (stopped_at w.sent during) = cc in elim (subst (λ (o : OwnEvent). IsLineOf header.tag o line) same of) [ ]
        go false e = absurd (cc)

    -- what it logs, and its core then
    pub record Does : Type 0 where
      pub logs : LogsOwn header w x.event x.outcome (line ∷ g.due)
      pub core_then : IsCoreOf v node g.core

    -- the lines of the event in the world are those of this one
    whole_is : (other : GivenByEvent) (rest : List LogLine) → LogsOwn header w x.event x.outcome (line ∷ rest) → IsWhole plan header core other (line ∷ rest)
        → (other ≡ g) × LogsOwn header w x.event x.outcome (line ∷ g.due)
    whole_is other rest logs whole =
        let all : line ∷ rest ≡ whole.line ∷ other.due = whole.lines in
        let first : whole.line ≡ line = cc in
        let behind : rest ≡ other.due = cc in
        let one : other ≡ g = one_event plan header core line other g (subst (λ (l : LogLine). Gives plan header core l other) first whole.gives) gives in
        (one, subst (λ (l : List LogLine). LogsOwn header w x.event x.outcome (line ∷ l)) (behind ∙ ap (λ (y : GivenByEvent). y.due) one) logs)

    does : is_step_of node (node_of_event w.sent x.event) ≡ true → own_step node w.sent x.event ≡ Some own → Does
    does mine is = let b = begins x.event goes is in go b.0 b.1 (effect reads plan w x.event x.outcome goes)
      where
        go : (rest : List LogLine) → LogsOwn header w x.event x.outcome (line ∷ rest) → Effect plan w x.event x.outcome → Does
        go rest logs (nobody same decided ran none) = absurd (let empty : line ∷ rest ≡ [] = none header (line ∷ rest) logs in cc)
        go rest logs (a_server shard s k r q at there keeps turn whole) =
            let here : Server shard ≡ node = (Decides-is_node (Server shard) node).0 (sym (ap (is_step_of node) at) ∙ mine) in
            let core_is : core ≡ serving s k = subst (λ (n : Node). IsCoreOf w n core) (sym here) was s k there keeps in
            let w_is = whole_is (given_by header r q) rest logs (subst (λ (c : Core). IsWhole plan header c (given_by header r q) (line ∷ rest)) (sym core_is) (whole header (line ∷ rest) logs)) in
            record {
              logs = w_is.1;
              core_then = subst (λ (n : Node). IsCoreOf v n g.core) here (λ t u after kept.
                  (let state : t ≡ r.state = same_there v.servers shard.0 t r.state after (ap (λ l. slice_get l shard.0) turn.servers ∙ get-set_here w.servers shard.0 s r.state there) in
                  let viewing : u ≡ q.viewing = same_there v.viewing shard.0 u q.viewing kept (ap (λ l. slice_get l shard.0) turn.viewing ∙ get-set_here w.viewing shard.0 k q.viewing keeps) in
                  ap (λ (y : GivenByEvent). y.core) (sym w_is.0) ∙ (λ i. serving (sym state i) (sym viewing i))));
            }
        go rest logs (a_coord number c next told at there turn whole) =
            let here : Coord number ≡ node = (Decides-is_node (Coord number) node).0 (sym (ap (is_step_of node) at) ∙ mine) in
            let core_is : core ≡ coordinating c = subst (λ (n : Node). IsCoreOf w n core) (sym here) was c there in
            let l = whole header (line ∷ rest) logs in
            let other : GivenByEvent = record { core = coordinating next; due = l.due; decided = []; ran = [] } in
            let w_is = whole_is other rest logs (subst (λ (c : Core). IsWhole plan header c other (line ∷ rest)) (sym core_is) l.whole) in
            record {
              logs = w_is.1;
              core_then = subst (λ (n : Node). IsCoreOf v n g.core) here (λ d after.
                  (let state : d ≡ next = same_there v.coords number d next after (ap (λ l. slice_get l number) turn.coords ∙ get-set_here w.coords number c next there) in
                  ap (λ (y : GivenByEvent). y.core) (sym w_is.0) ∙ ap coordinating (sym state)));
            }

-- ---- all steps

-- the lines of a node over steps, where such lines may stand between
pub record AreLinesOf (header : Header) (begun : World) (Idle : List LogLine → Type 0) (Lines : List Stepped → List LogLine → Type 0) : Type 0 where
  pub idle : Idle []
  pub start : (stops : List LogLine) → Idle stops → Lines [] stops
  pub further : (steps : List Stepped) (x : Stepped) (front more stops : List LogLine) → Lines steps front → LogsStep header (behind begun steps) x more → Idle stops
      → Lines (steps ++ x ∷ []) ((front ++ more) ++ stops)

module _ (reads : (bytes : List ℕ) (header : Header) (msg : Msg) → Spells bytes header msg → datagram bytes ≡ Ok (pair header msg)) (plan : Plan) (coords : ℕ) (header : Header)
    (Idle : List LogLine → Type 0) (Lines : List Stepped → List LogLine → Type 0) (are : AreLinesOf header (first_world plan coords) Idle Lines) where
  abbrev begun : World
  begun = first_world plan coords

  abbrev Amid : List OwnEvent → Core → List LogLine → Type 0
  Amid owns core lines = AreLoggedAmid Idle plan header (first_core plan header.from) owns core lines

  -- the node's core is the world's, and its lines are those of the run
  record Stands (w : World) (steps : List Stepped) (core : Core) (lines : List LogLine) : Type 0 where
    pub core_is : IsCoreOf w header.from core
    pub logged : Lines steps lines

  module _ {steps : List Stepped} {w : World} (r : IsRun plan coords steps w) (x : Stepped) (h : Transition plan w x.event x.outcome)
      (was : (owns : List OwnEvent) (core : Core) (lines : List LogLine) → Amid owns core lines → owns ≡ own_events header.from w.sent steps → Stands w steps core lines) where
    step_logs : (more : List LogLine) (b : Bool) → is_step_of header.from (node_of_event w.sent x.event) ≡ b → LogsWhere b header w x.event x.outcome more → LogsStep header (behind begun steps) x more
    step_logs more b mine k =
        subst (λ (u : World). LogsStep header u x more) (sym (run_behind r)) (subst (λ (b : Bool). LogsWhere b header w x.event x.outcome more) (sym mine) k)

    moves : (own : OwnEvent) → own_step header.from w.sent x.event ≡ Some own → {owns : List OwnEvent} {core : Core} {lines : List LogLine} → Amid owns core lines
        → owns ≡ own_events header.from w.sent steps ++ own ∷ [] → Stands x.outcome.world (steps ++ x ∷ []) core lines
    moves own mine (none_amid stops idle) p = absurd (empty_more (own_events header.from w.sent steps) own p)
    moves own mine (more_amid {events} {core} {lines} other line g stops before of gives idle) p =
        let ends = same_more events (own_events header.from w.sent steps) other own p in
        let st = was events core lines before ends.0 in
        let here : is_step_of header.from (node_of_event w.sent x.event) ≡ true = whose header.from w.sent x.event ∙ ap is_some mine in
        let d = does reads plan header w x h core st.core_is g own line (subst (λ (o : OwnEvent). IsLineOf header.tag o line) ends.1 of) gives here mine in
        record { core_is = d.core_then; logged = are.further steps x lines (line ∷ g.due) stops st.logged (step_logs (line ∷ g.due) true here d.logs) idle }

    step_stands : {owns : List OwnEvent} {core : Core} {lines : List LogLine} → Amid owns core lines → owns ≡ own_events header.from x.outcome.world.sent (steps ++ x ∷ [])
        → IsOwn header.from w steps x → Stands x.outcome.world (steps ++ x ∷ []) core lines
    step_stands l is (one_more own mine parts) = moves own mine l (is ∙ parts)
    step_stands {owns} {core} {lines} l is (no_more none parts) =
        let st = was owns core lines l (is ∙ parts) in
        let other : is_step_of header.from (node_of_event w.sent x.event) ≡ false = whose header.from w.sent x.event ∙ ap is_some none in
        record {
          core_is = rests reads plan header w x h core st.core_is other;
          logged = subst (Lines (steps ++ x ∷ [])) (append-nil (lines ++ []) ∙ append-nil lines) (are.further steps x lines [] [] st.logged (step_logs [] false other refl) are.idle);
        }

  run_stands : {steps : List Stepped} {w : World} → IsRun plan coords steps w → {owns : List OwnEvent} {core : Core} {lines : List LogLine} → Amid owns core lines
      → owns ≡ own_events header.from w.sent steps → Stands w steps core lines
  run_stands at_beginning (none_amid stops idle) e = record { core_is = first_is plan coords header.from; logged = are.start stops idle }
  run_stands at_beginning (more_amid {events} own line g stops l of gives idle) e = absurd (empty_more events own (sym e))
  run_stands (steps_on {steps = steps} {w = w} e o r h) l is =
      let x : Stepped = record { event = e; outcome = o } in
      step_stands r x h (λ owns core lines k same. run_stands r k same) l is (own_of r x header.from (stepping plan w e o h))

  pub run_logs : {steps : List Stepped} {w : World} → IsRun plan coords steps w → {owns : List OwnEvent} {core : Core} {lines : List LogLine} → Amid owns core lines
      → owns ≡ own_events header.from w.sent steps → Lines steps lines
  run_logs r l e = (run_stands r l e).logged

-- with nothing between
pub lines_alone : (header : Header) (begun : World) → AreLinesOf header begun IsNone (AreLoggedFrom header begun)
lines_alone header begun =
    record {
      idle = refl;
      start = λ stops none. none;
      further = λ steps x front more stops logged last none.
          subst (AreLoggedFrom header begun (steps ++ x ∷ [])) (sym (ap (λ (l : List LogLine). (front ++ more) ++ l) none ∙ append-nil (front ++ more)))
          (logged_more header begun steps x front more logged last);
    }

-- with Stops
pub lines_amid : (header : Header) (begun : World) → AreLinesOf header begun (AreStops header) (AreAllLogged header begun)
lines_amid header begun = record { idle = tt; start = λ stops idle. idle; further = λ steps x front more stops logged last idle. all_more header begun steps x front more stops logged last idle }
