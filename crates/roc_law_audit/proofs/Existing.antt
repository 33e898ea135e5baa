-- A run has logs
use Rattle.std.proofs.Common.{◌≡◌, ℕ, ℤ, zero, suc, ◌-◌, ◌<◌, ◌==◌, Bool, true, false, List, [], ◌∷◌, ◌++◌, Option, Some, None, Ok, refl, sym, ap, subst, ◌∙◌, inl, inr, append-nil, arith}
use Rattle.std.proofs.lemmas.Bool.{eqb-true}
use Rattle.std.specs.Prelude.{slice_get}
use Rattle.roc_sequence.specs.Lists.{Has}
use Rattle.roc_sequence.proofs.Members.{has_left, has_right, has_append}
use Rattle.roc_base.specs.declared.node.Node.{Node}
use Rattle.roc_base.specs.declared.node.Node.TheVariants.{Server, Coord}
use Rattle.roc_msg.specs.declared.msg.Msg.{Msg}
use Rattle.roc_msg.specs.declared.msg.Envelope.{Envelope}
use Rattle.roc_plan.specs.Groups.{Plan}
use Rattle.roc_wire.specs.declared.header.Header.{Header}
use Rattle.roc_wire.specs.Laws.{Spells}
use Rattle.roc_wire.specs.Reading.{datagram, pair}
use Rattle.roc_wire.specs.Spelling.{spelling}
use Rattle.roc_law_protocol.proofs.Changed.{get-front}
use Rattle.roc_law_protocol.specs.declared.event.Event.{Event}
use Rattle.roc_law_protocol.specs.declared.event.Event.TheVariants as event
use Rattle.roc_law_protocol.specs.declared.event.Seen.{Seen}
use Rattle.roc_law_protocol.specs.declared.event.Seen.TheVariants as seen
use Rattle.roc_law_world.specs.World.{World, first_world}
use Rattle.roc_law_world.specs.Happens.{Outcome}
use Rattle.roc_law_world.specs.Run.{Stepped, Transition, IsRun, IsNodeOf, at_beginning, steps_on}
use Rattle.roc_log.specs.declared.line.LogLine.{LogLine}
use Rattle.roc_log.specs.declared.line.LogLine.TheVariants.{In}
use Rattle.roc_log.specs.declared.line.Log.{Log}
use Rattle.roc_fold.specs.Folded.{header_of}
use Rattle.roc_law_audit.specs.LogsOfRuns.{node_of_event, is_step_of, outs_gained, answers_gained, LogsDelivery, LogsSubmission, LogsOwn, LogsWhere, LogsStep, AreLoggedFrom, AreLogsOfRun, MayBeLogged}
use Rattle.roc_law_audit.proofs.Effects.{Effect, nobody, a_server, a_coord, effect}
use Rattle.roc_law_audit.proofs.Fronts.{run_behind, logged_more, all_logged}
use Rattle.roc_law_audit.proofs.Decided.{servers_stay, coords_stay}

-- ---- one step

module _ (header : Header) (w : World) (x : Stepped) where
  submission_there : (proc : ℕ) (args : List ℤ) (what : Seen) → (more : List LogLine) × LogsSubmission header w x.outcome.world proc args what more
  submission_there proc args (seen.Submitted id) = (_, refl)
  submission_there proc args what = ([], refl)

  own_there : (plan : Plan) → MayBeLogged header.tag (x ∷ []) w → (e : Option Event) → x.event ≡ e → Transition plan w e x.outcome → is_step_of header.from (node_of_event w.sent e) ≡ true
      → (more : List LogLine) × LogsOwn header w e x.outcome more
  own_there plan may None is h own = absurd (cc)
  own_there plan may (Some (event.Submit number proc args)) is h own = submission_there proc args x.outcome.seen
  own_there plan may (Some (event.Tick node)) is h own = (_, refl)
  own_there plan may (Some (event.Stop shard during)) is h own = absurd (may.no_stop x (inl refl) shard during is)
  own_there plan may (Some (event.Deliver k)) is (m, some, there, h) own =
      let by : Header = record { tag = header.tag; from = m.from } in (
        In (spelling by m.msg) ∷ (outs_gained header w x.outcome.world ++ answers_gained w x.outcome.world),
        subst (λ (o : Option Envelope). LogsDelivery header w x.outcome.world o (In (spelling by m.msg) ∷ (outs_gained header w x.outcome.world ++ answers_gained w x.outcome.world))) (sym there)
            (record { bytes = spelling by m.msg; by = by; tagged = refl; spells = record { fits = may.spelled x (inl refl) k is m there; text = refl }; lines = refl }),
      )

  step_there : (plan : Plan) → MayBeLogged header.tag (x ∷ []) w → Transition plan w x.event x.outcome → (more : List LogLine) × LogsStep header w x more
  step_there plan may h = go (is_step_of header.from (node_of_event w.sent x.event)) refl
    where
      go : (b : Bool) → is_step_of header.from (node_of_event w.sent x.event) ≡ b → (more : List LogLine) × LogsWhere b header w x.event x.outcome more
      go true own = own_there plan may x.event refl h own
      go false own = ([], refl)

module _ (reads : (bytes : List ℕ) (header : Header) (msg : Msg) → Spells bytes header msg → datagram bytes ≡ Ok (pair header msg)) (plan : Plan) (coords : ℕ) where
  abbrev begun : World
  begun = first_world plan coords

  sent_grows : (w : World) (e : Option Event) (o : Outcome) → Effect plan w e o → (more : List Envelope) × (o.world.sent ≡ w.sent ++ more)
  sent_grows w e o (nobody same decided ran none) = ([], ap (λ (u : World). u.sent) same ∙ sym (append-nil w.sent))
  sent_grows w e o (a_server shard s v r q is there keeps turn whole) = (turn.more, turn.sent)
  sent_grows w e o (a_coord number c after told is there turn logs) = (turn.more, turn.sent)

  module _ (steps : List Stepped) (w : World) (x : Stepped) (h : Transition plan w x.event x.outcome) (tag : List ℕ) (may : MayBeLogged tag (steps ++ x ∷ []) x.outcome.world) where
    still : (k : ℕ) (m : Envelope) → slice_get w.sent k ≡ Some m → slice_get x.outcome.world.sent k ≡ Some m
    still k m there = let g = sent_grows w x.event x.outcome (effect reads plan w x.event x.outcome h) in ap (λ l. slice_get l k) g.1 ∙ get-front w.sent g.0 k m there

    may_then : MayBeLogged tag steps w
    may_then = record {
      no_stop = λ y has. may.no_stop y (has_left y steps (x ∷ []) has);
      spelled = λ y has k is m there. may.spelled y (has_left y steps (x ∷ []) has) k is m (still (k - 1) m there);
    }

    may_now : MayBeLogged tag (x ∷ []) w
    may_now = record {
      no_stop = λ y has. may.no_stop y (has_right y steps (x ∷ []) has);
      spelled = λ y has k is m there. may.spelled y (has_right y steps (x ∷ []) has) k is m (still (k - 1) m there);
    }

  -- what a node logs in a run
  lines_there : {steps : List Stepped} {w : World} → IsRun plan coords steps w → (tag : List ℕ) → MayBeLogged tag steps w → (node : Node)
      → (lines : List LogLine) × AreLoggedFrom (record { tag = tag; from = node }) begun steps lines
  lines_there at_beginning tag may node = ([], refl)
  lines_there (steps_on {steps = steps} {w = w} e o r h) tag may node =
      let x : Stepped = record { event = e; outcome = o } in
      let header : Header = record { tag = tag; from = node } in
      let front = lines_there r tag (may_then steps w x h tag may) node in
      let last = step_there header w x plan (may_now steps w x h tag may) h in
      (front.0 ++ last.0, logged_more header begun steps x front.0 last.0 front.1 (subst (λ (u : World). LogsStep header u x last.0) (sym (run_behind r)) last.1))

  -- ---- the logs of so many nodes

  module _ {steps : List Stepped} {w : World} (r : IsRun plan coords steps w) (tag : List ℕ) (may : MayBeLogged tag steps w) where
    pub record AreLogsOf (node : ℕ → Node) (n : ℕ) (logs : List Log) : Type 0 where
      pub each : (log : Log) → Has log logs → (log.tag ≡ tag) × ((k : ℕ) × (k < n) × (log.node ≡ node k)) × AreLoggedFrom (record { tag = log.tag; from = log.node }) begun steps log.lines
      pub all : (k : ℕ) → k < n → (log : Log) × Has log logs × (log.node ≡ node k)

    some_logs : (node : ℕ → Node) (n : ℕ) → (logs : List Log) × AreLogsOf node n logs
    some_logs node zero = ([], record { each = λ log h. elim h [ ]; all = λ k h. absurd (omega arith) })
    some_logs node (suc n) = more (some_logs node n)
      where
        own : Log
        own = record { tag = tag; node = node n; lines = (lines_there r tag may (node n)).0 }

        last : (logs : List Log) → AreLogsOf node n logs → (k : ℕ) → k < suc n → (b : Bool) → (k == n) ≡ b → (log : Log) × Has log (own ∷ logs) × (log.node ≡ node k)
        last logs are k h true e = (own, inl refl, ap node (sym (eqb-true k n e)))
        last logs are k h false e = let a = are.all k (grind (arith)) in (a.0, inr a.1, a.2)

        more : (logs : List Log) × AreLogsOf node n logs → (logs : List Log) × AreLogsOf node (suc n) logs
        more (logs, are) = (
          own ∷ logs,
          record {
            each = λ log h. elim h [
              | inl e ↦ subst (λ (l : Log). (l.tag ≡ tag) × ((k : ℕ) × (k < suc n) × (l.node ≡ node k)) × AreLoggedFrom (record { tag = l.tag; from = l.node }) begun steps l.lines) (sym e)
                  (refl, (n, omega arith, refl), (lines_there r tag may (node n)).1)
              | inr k ↦ (let a = are.each log k in (a.0, (a.1.0, (let l = a.1.1 in omega (arith, l)), a.1.2), a.2))
            ];
            all = λ k h. last logs are k h (k == n) refl;
          },
        )

    pub logs_there : (logs : List Log) × AreLogsOfRun plan coords steps w logs × ((log : Log) → Has log logs → log.tag ≡ tag)
    logs_there =
        let servers = some_logs (λ n. Server (record { 0 = n })) plan.program.shards in
        let coordinators = some_logs (λ n. Coord n) coords in (
          servers.0 ++ coordinators.0,
          record {
            each = λ log h. elim (has_append log servers.0 coordinators.0 h) [
              | inl k ↦ (
                  let a = servers.1.each log k in
                  (subst (IsNodeOf w) (sym a.1.2) (subst (λ m. a.1.0 < m) (sym (servers_stay reads plan coords r)) a.1.1), all_logged (header_of log) begun steps log.lines a.2))
              | inr k ↦ (
                  let a = coordinators.1.each log k in
                  (subst (IsNodeOf w) (sym a.1.2) (subst (λ m. a.1.0 < m) (sym (coords_stay reads plan coords r)) a.1.1), all_logged (header_of log) begun steps log.lines a.2))
            ];
            all = λ node h. find node h;
          },
          λ log h. elim (has_append log servers.0 coordinators.0 h) [ inl k ↦ (servers.1.each log k).0 | inr k ↦ (coordinators.1.each log k).0 ],
        )
      where
        find : (node : Node) → IsNodeOf w node → (log : Log) × Has log ((some_logs (λ n. Server (record { 0 = n })) plan.program.shards).0 ++ (some_logs (λ n. Coord n) coords).0) × (log.node ≡ node)
        find (Server shard) h =
            let servers = some_logs (λ n. Server (record { 0 = n })) plan.program.shards in
            let a = servers.1.all shard.0 (subst (λ m. shard.0 < m) (servers_stay reads plan coords r) h) in
            (a.0, has_left a.0 servers.0 (some_logs (λ n. Coord n) coords).0 a.1, a.2)
        find (Coord number) h =
            let coordinators = some_logs (λ n. Coord n) coords in
            let a = coordinators.1.all number (subst (λ m. number < m) (coords_stay reads plan coords r) h) in
            (a.0, has_right a.0 (some_logs (λ n. Server (record { 0 = n })) plan.program.shards).0 coordinators.0 a.1, a.2)
