-- Lists are final in every world
use Rattle.std.proofs.Common.{◌≡◌, ℕ, ℤ, ◌-◌, List, [], ◌∷◌, ◌++◌, Option, Some, None, length, map, refl, sym, subst, ◌∙◌, inl, inr}
use Rattle.std.specs.Prelude.{slice_get}
use Rattle.roc_sequence.specs.Lists.{Has}
use Rattle.roc_sequence.proofs.Members.{has_append, has_right, has_at, from_has_map}
use Rattle.roc_base.specs.declared.id.TxnId.{TxnId}
use Rattle.roc_base.specs.declared.node.Node.{Node}
use Rattle.roc_base.specs.declared.node.Node.TheVariants.{Server, Coord}
use Rattle.roc_base.specs.declared.node.Shard.{Shard}
use Rattle.roc_base.specs.Edge.{Dependency}
use Rattle.roc_depgraph.specs.declared.known.KnownList.{KnownList}
use Rattle.roc_msg.specs.declared.msg.Msg.{Msg}
use Rattle.roc_msg.specs.declared.msg.Msg.TheVariants.{Start, StartOk, Commit, Ended, ReadOk}
use Rattle.roc_msg.specs.declared.msg.Envelope.{Envelope}
use Rattle.roc_msg.specs.declared.outbox.Outgoing.{Outgoing}
use Rattle.roc_plan.specs.Groups.{Plan, groups_of}
use Rattle.roc_whole.specs.Serial as whole
use Rattle.roc_law_log.specs.Scheme.{Scheme, IsSoundScheme}
use Rattle.roc_law_log.specs.Log.{Log}
use Rattle.roc_step.specs.declared.started.StartedGroup.{StartedGroup}
use Rattle.roc_step.specs.State.{answered, find_group, ServerState, ServerStep}
use Rattle.roc_step.specs.Step as server
use Rattle.roc_coord.specs.State.{CoordState}
use Rattle.roc_coord.specs.Step.{after_message}
use Rattle.roc_coord.specs.Submit.{next_id, new_transaction, accepted}
use Rattle.roc_audit.specs.declared.entry.Entry.{Entry}
use Rattle.roc_audit.specs.declared.entry.Entry.TheVariants.{Submitted}
use Rattle.roc_audit.specs.History.{WasSubmitted}
use Rattle.roc_step.proofs.SameIds.{ids_of}
use Rattle.roc_law_protocol.specs.Aside.{transaction_tick_sends}
use Rattle.roc_law_protocol.specs.declared.event.Event.{Event}
use Rattle.roc_law_protocol.specs.declared.event.Event.TheVariants.{Submit, Deliver, Tick, Stop}
use Rattle.roc_law_protocol.specs.PlanAssumptions.{IsSchemeOf, HasSchemesFrom}
use Rattle.roc_law_protocol.specs.Beginnings.{Beginning, IsBeginning, begun_server, begun_coord}
use Rattle.roc_law_protocol.specs.World.{World, sent_by, mark_delivered, at_coord, at_server}
use Rattle.roc_law_protocol.specs.Happens.{Outcome, answer_entries, IsReceived, Ticks, IsSentTo}
use Rattle.roc_law_protocol.specs.Run.{Stepped}
use Rattle.roc_law_protocol.specs.Beside.{Moves, IsRunBeside, beside_begins, beside_goes_on}
use Rattle.roc_law_protocol.specs.Final.{lists_in, IsUnionIn, IsFinalIn}
use Rattle.roc_law_protocol.specs.Inner.Given.{LogLaws, StoreLaws}
use Rattle.roc_law_protocol.proofs.Means.{run_of, Means}
use Rattle.roc_law_protocol.proofs.Changed.{get-set_cases}
use Rattle.roc_law_protocol.proofs.Carried.{message_good, tick_good}
use Rattle.roc_law_protocol.proofs.Gathered.{IsRound, KeepsGathered, Tells, message_gathered, tick_gathered, submission_gathered, aside_gathered}
use Rattle.roc_law_protocol.proofs.Networks.{IsStartOkOf, found_is, IsToldHere, IsPlacedOn, Good, Told, Calls, told_facts, IsNetworked, one_startok, holds_there, starts_there, gathered_good, lists_after, told_later, holds_later, served_networked}
use Rattle.roc_law_protocol.proofs.Firsts.{found_at}
use Rattle.roc_law_protocol.proofs.Idle.{run_idle, idle_mark}
use Rattle.roc_law_protocol.proofs.AcceptedSubmissions.{Submitting, is_refused, is_accepted, submitting, submissions_from}
use Rattle.roc_law_protocol.proofs.Logged.{comes_logged, Agrees, IsLogged}
use Rattle.roc_law_protocol.proofs.Worlds.{cut_logged, again_logged}
use Rattle.roc_law_protocol.proofs.Onward.{agrees_before}
use Rattle.roc_law_protocol.proofs.Witness.{run_logged}
use Rattle.roc_law_protocol.proofs.KeptAside.{kept_aside}
use Rattle.roc_law_protocol.proofs.Serial.{S, asked, logged, sound, agrees, submissions}
use Rattle.roc_law_protocol.proofs.Serial as serial
use Rattle.roc_law_protocol.proofs.Transactions.{transaction_or_none, HasTransaction}
use Rattle.roc_law_protocol.proofs.Served.{StartsAre}
use Rattle.roc_law_protocol.proofs.Marks.{IsMark}
use Rattle.roc_step.specs.Restarts.{cut_short}
use Rattle.roc_law_protocol.proofs.Stops.{by_stop}
use Rattle.roc_law_protocol.proofs.Stopping.{take_has, fewer_good}

module _ (plan : Plan) (asked : TxnId → whole.Call) (S : Scheme) (start : Beginning) (is : IsSchemeOf plan asked S) (laws : LogLaws S start.store) where
  module _ (w : World) (log : Log) (o : IsLogged plan asked S start is laws w log) (nw : IsNetworked plan asked S start is laws w) where
    abbrev Goods : TxnId → List Dependency → Type 0
    Goods = Good plan asked S start is laws w.sent

    -- what the coordinators hold was told
    abbrev Keeps : (n : ℕ) (s : CoordState) → slice_get w.coords n ≡ Some s → CoordState → List Outgoing → Type 0
    Keeps n s there after outs =
        KeepsGathered plan Goods (Told plan asked S start is laws w.sent) (Calls plan asked S start is laws) (told_facts plan asked S start is laws w.sent) s (λ x h. nw.taken n s there x h) (gathered_good plan asked S start is laws w log o nw) after outs

    no_startok : (msg : Msg) → IsRound msg → IsToldHere w.servers msg
    no_startok (Start id proc group args inputs) k = tt
    no_startok (Commit id edges facts) k = tt
    no_startok (Ended coord mark) k = tt
    no_startok msg k = absurd k

    coordinated_networked : (n : ℕ) (s : CoordState) (there : slice_get w.coords n ≡ Some s) (after : CoordState) (outs : List Outgoing) (tells : List Entry) → Keeps n s there after outs → IsNetworked plan asked S start is laws (at_coord w n after outs tells)
    coordinated_networked n s there after outs tells k =
        let more = map (sent_by (Coord n)) outs in
        record {
          one = λ m k h l t g a b. nw.one m k (old m t g h a) (old k t g l b) t g a b;
          kept = λ m v at t g e f k h a. nw.kept m v at t g e f k (old k t g h a) a;
          told = λ m h. elim (has_append m w.sent more h) [
            | inl j ↦ nw.told m j
            | inr j ↦ (let q = from_has_map (sent_by (Coord n)) m outs j in subst (λ (m : Envelope). IsToldHere w.servers m.msg) (sym q.2) (no_startok q.0.msg (k.sends q.0 q.1).1))
          ];
          lists = lists_after plan asked S start is laws w log o nw (Coord n) outs (λ out h. (k.sends out h).0);
          servers = λ m v h. holds_later plan asked S start is laws w log o nw more v (nw.servers m v h);
          taken = λ m c e x h. told_later plan asked S start is laws w log o nw more x (elim (get-set_cases w.coords n m s after c there e) [
            | inl j ↦ k.pending x (subst (λ (c : CoordState). Has x c.pending) j.1 h)
            | inr j ↦ nw.taken m c j.1 x h
          ]);
        }
      where
        none_sent : (msg : Msg) (t : TxnId) (g : ℕ) → IsRound msg → IsStartOkOf t g msg → ⊥
        none_sent msg t g round a = subst IsRound a.is round

        -- a coordinator sends no startok
        old : (m : Envelope) (t : TxnId) (g : ℕ) → Has m (w.sent ++ map (sent_by (Coord n)) outs) → IsStartOkOf t g m.msg → Has m w.sent
        old m t g h a = elim (has_append m w.sent (map (sent_by (Coord n)) outs) h) [
          | inl j ↦ j
          | inr j ↦ (let q = from_has_map (sent_by (Coord n)) m outs j in absurd (none_sent q.0.msg t g (k.sends q.0 q.1).1 (subst (λ (m : Envelope). IsStartOkOf t g m.msg) q.2 a)))
        ]

    pub comes_networked : (k : ℕ) → IsNetworked plan asked S start is laws (mark_delivered w k)
    comes_networked k = record { told = nw.told; one = nw.one; kept = nw.kept; lists = nw.lists; servers = nw.servers; taken = nw.taken }

    tick_networked : (node : Node) (v : Outcome) → Ticks plan w node v → IsNetworked plan asked S start is laws v.world
    tick_networked (Server shard) v (s, there, e) = subst (λ (v : Outcome). IsNetworked plan asked S start is laws v.world) (sym e)
        (served_networked plan asked S start is laws w log o nw shard.0 s there (answered s (server.tick_sends s)) (tick_good plan Goods (IsPlacedOn plan asked S start is laws log shard.0) s (holds_there plan asked S start is laws w log o nw shard.0 s there)))
    tick_networked (Coord n) v (s, there, e) = subst (λ (v : Outcome). IsNetworked plan asked S start is laws v.world) (sym e)
        (coordinated_networked n s there s (transaction_tick_sends plan s) [] (tick_gathered plan Goods (Told plan asked S start is laws w.sent) (Calls plan asked S start is laws) (told_facts plan asked S start is laws w.sent) s (λ x h. nw.taken n s there x h) (gathered_good plan asked S start is laws w log o nw)))

    -- a message in the network tells what it tells
    tells : (m : Envelope) → Has m w.sent → (msg : Msg) → m.msg ≡ msg → ((k : KnownList) → Has k (lists_in msg) → Good plan asked S start is laws w.sent k.of k.edges) → (n : ℕ) (s : CoordState) (there : slice_get w.coords n ≡ Some s)
        → Tells plan Goods (Told plan asked S start is laws w.sent) (Calls plan asked S start is laws) (told_facts plan asked S start is laws w.sent) s (λ x h. nw.taken n s there x h) (gathered_good plan asked S start is laws w log o nw) msg
    tells m h (StartOk id group shard bound outs edges facts) e good n s there = (record { message = m; has = h; shard = shard; bound = bound; outs = outs; is = e }, good)
    tells m h (ReadOk id round group shard versions outs) e good n s there = subst (StartsAre (WasSubmitted w.history)) e (o.starts m h)
    tells m h msg e good n s there = tt

    receive_networked : (m : Envelope) → Has m w.sent → (to : Node) → m.to ≡ to → (v : Outcome) → IsReceived plan w m.msg to v → IsNetworked plan asked S start is laws v.world
    receive_networked m h (Server shard) to v (s, r, there, step, e) = subst (λ (v : Outcome). IsNetworked plan asked S start is laws v.world) (sym e)
        (served_networked plan asked S start is laws w log o nw shard.0 s there r (message_good plan Goods (IsPlacedOn plan asked S start is laws log shard.0) s (holds_there plan asked S start is laws w log o nw shard.0 s there) m.msg r step (nw.lists m h) (starts_there plan asked S start is laws w log o nw m h shard.0 to)))
    receive_networked m h (Coord n) to v (s, there, e) = subst (λ (v : Outcome). IsNetworked plan asked S start is laws v.world) (sym e)
        (coordinated_networked n s there (after_message plan s m.msg).state (after_message plan s m.msg).sends (answer_entries (after_message plan s m.msg).answer)
        (message_gathered plan Goods (Told plan asked S start is laws w.sent) (Calls plan asked S start is laws) (told_facts plan asked S start is laws w.sent) s (λ x h. nw.taken n s there x h) (gathered_good plan asked S start is laws w log o nw) m.msg (tells m h m.msg refl (nw.lists m h) n s there)))

    submit_networked : (n proc : ℕ) (args : List ℤ) (s : CoordState) → slice_get w.coords n ≡ Some s → (v : Outcome) → Submitting plan w n proc args s v → Agrees asked v.world → IsNetworked plan asked S start is laws v.world
    submit_networked n proc args s there v (is_refused e) fits = subst (IsNetworked plan asked S start is laws) (sym e) nw
    submit_networked n proc args s there v (is_accepted known counted e) fits =
        let more = Submitted (next_id s) proc args ∷ [] in
        let r = accepted plan s (new_transaction s proc args) in
        let g : Agrees asked (at_coord w n r.state r.sends more) = subst (Agrees asked) e fits in
        subst (IsNetworked plan asked S start is laws) (sym e)
        (coordinated_networked n s there (accepted plan s (new_transaction s proc args)).state (accepted plan s (new_transaction s proc args)).sends more
        (submission_gathered plan Goods (Told plan asked S start is laws w.sent) (Calls plan asked S start is laws) (told_facts plan asked S start is laws w.sent) s (λ x h. nw.taken n s there x h) (gathered_good plan asked S start is laws w log o nw) proc args
        (g.proc (next_id s) proc args (has_right (Submitted (next_id s) proc args) w.history more (inl refl)))))

  abbrev IsKnownIn : World → Type 0
  IsKnownIn v = (c : Log) × IsLogged plan asked S start is laws v c × IsNetworked plan asked S start is laws v

  step_networked : (w : World) (log : Log) → IsLogged plan asked S start is laws w log → IsNetworked plan asked S start is laws w → (e : Option Event) (v : Outcome) → Moves plan w e v → Agrees asked v.world → IsNetworked plan asked S start is laws v.world
  step_networked w log o nw None v (inl h) fits = subst (λ (v : Outcome). IsNetworked plan asked S start is laws v.world) (sym h) nw
  step_networked w log o nw None v (inr x) fits =
      let k = kept_aside plan x.before x.after x.sends x.does in
      subst (λ (v : Outcome). IsNetworked plan asked S start is laws v.world) (sym x.is)
      (coordinated_networked w log o nw x.number x.before x.there x.after x.sends []
      (aside_gathered plan (Good plan asked S start is laws w.sent) (Told plan asked S start is laws w.sent) (Calls plan asked S start is laws) (told_facts plan asked S start is laws w.sent) x.before (λ y h. nw.taken x.number x.before x.there y h) (gathered_good plan asked S start is laws w log o nw) x.after k.pending x.sends k.marks))
  step_networked w log o nw (Some (Submit n proc args)) v (s, there, h) fits = submit_networked w log o nw n proc args s there v (submitting plan w n proc args s v h) fits
  step_networked w log o nw (Some (Deliver k)) v (m, some, there, h) fits =
      receive_networked (mark_delivered w k) log (comes_logged plan asked S start is laws w log o k) (comes_networked w log o nw k) m (has_at w.sent (k - 1) m there) m.to refl v h
  step_networked w log o nw (Some (Tick node)) v h fits = tick_networked w log o nw node v h
  step_networked w log o nw (Some (Stop shard during)) v x fits = (by_stop plan w shard.0 IsKnownIn (log, o, nw) (λ k m sent. (log, comes_logged plan asked S start is laws w log o k, comes_networked w log o nw k)) cut again during v x).2
    where
      cut : (k many : ℕ) (m : Envelope) (s : ServerState) (r : ServerStep) → IsSentTo w.sent k shard.0 m → slice_get w.servers shard.0 ≡ Some s → server.Handles plan s m.msg r → IsKnownIn (at_server (mark_delivered w k) shard.0 (cut_short many r))
      cut k many m s r sent at step =
          let has = has_at w.sent (k - 1) m sent.there in
          let u = mark_delivered w k in
          let l = comes_logged plan asked S start is laws w log o k in
          let n = comes_networked w log o nw k in
          let y = cut_logged plan asked S start is laws w log o k many shard.0 m s r sent at step in (
            y.0,
            y.1,
            served_networked plan asked S start is laws u log l n shard.0 s at (cut_short many r)
                (fewer_good plan (Good plan asked S start is laws w.sent) (IsPlacedOn plan asked S start is laws log shard.0) s r _ (take_has many r.sends)
                (message_good plan (Good plan asked S start is laws w.sent) (IsPlacedOn plan asked S start is laws log shard.0) s (holds_there plan asked S start is laws u log l n shard.0 s at) m.msg r step (nw.lists m has) (starts_there plan asked S start is laws u log l n m has shard.0 sent.to))),
          )

      again : (v : World) (s : ServerState) → IsKnownIn v → slice_get v.servers shard.0 ≡ Some s → IsKnownIn (at_server v shard.0 (answered s (server.tick_sends s)))
      again v s (c, l, n) there = (
        c,
        again_logged plan asked S start is laws v c l shard.0 s there,
        served_networked plan asked S start is laws v c l n shard.0 s there (answered s (server.tick_sends s)) (tick_good plan (Good plan asked S start is laws v.sent) (IsPlacedOn plan asked S start is laws c shard.0) s (holds_there plan asked S start is laws v c l n shard.0 s there)),
      )

  module _ (stores : StoreLaws) (begins : IsBeginning plan start) where
    pub run_networked : (coords : ℕ) (steps : List Stepped) (w : World) → IsRunBeside plan start coords steps w → Agrees asked w → IsNetworked plan asked S start is laws w
    run_networked coords steps w beside_begins fits =
        record {
          told = λ m h. absurd h;
          one = λ m k h. absurd h;
          kept = λ n s there t g e f m h. absurd h;
          lists = λ m h. absurd h;
          servers = λ n s h. (let e = found_at (begun_server start) 0 plan.program.shards n s h in
              record { groups = λ b j. tt; known = λ k j. elim (subst (λ (s : ServerState). Has k s.lists.known) e j) [ ]; facts = λ b j. elim (subst (λ (s : ServerState). Has b s.started) e j) [ ]; same = subst (λ (s : ServerState). ids_of s.lists.links ≡ ids_of s.lists.known) (sym e) refl });
          taken = λ n c e x h. elim (subst (λ (c : CoordState). Has x c.pending) (found_at (begun_coord start) 0 coords n c e) h) [ ];
        }
    run_networked coords steps w (beside_goes_on {w = v} e o r h) fits =
        let g = agrees_before plan v (submissions_from plan start coords _ v r) asked e o h fits in
        let l = run_logged plan asked S start is laws stores begins coords _ v r g in
        step_networked v l.0 l.1 (run_networked coords _ v r g) e o h fits

-- ---- the laws

module _ (plan : Plan) (start : Beginning) (begins : IsBeginning plan start) (schemes : HasSchemesFrom plan start.store) (laws : (S : Scheme) → IsSoundScheme S → LogLaws S start.store) (stores : StoreLaws) (coords : ℕ) (steps : List Stepped) (w : World) (run : IsRunBeside plan start coords steps w) where
  module _ (some : HasTransaction plan) where
    abbrev T : Scheme
    T = S plan start begins schemes laws stores coords steps w run some

    abbrev calls : TxnId → whole.Call
    calls = asked plan start begins schemes laws stores coords steps w run some

    pub networked : IsNetworked plan calls T start (serial.is plan start begins schemes laws stores coords steps w run some) (laws T (sound plan start begins schemes laws stores coords steps w run some)) w
    networked = run_networked plan calls T start (serial.is plan start begins schemes laws stores coords steps w run some) (laws T (sound plan start begins schemes laws stores coords steps w run some)) stores begins coords steps w run (agrees plan some.0 w (submissions plan start begins schemes laws stores coords steps w run some))

    -- a union is of a submitted transaction
    final_of : (t : TxnId) (es : List Dependency) → IsUnionIn w.sent (length (groups_of plan (calls t).procedure)) t es → IsFinalIn plan w t es
    final_of t es u =
        let x = logged plan start begins schemes laws stores coords steps w run some in
        let k = u.in_network 0 ((serial.is plan start begins schemes laws stores coords steps w run some).some t) in
        let began = (subst (λ msg. Means plan calls T start x.0 msg k.1.message.to) k.1.is (x.1.means.messages k.1.message k.1.has)).0.began in
        let was : WasSubmitted w.history t = x.1.began (run_of t 0) began in
        record {
          proc = was.0;
          args = was.1;
          submitted = was.2;
          union = subst (λ p. IsUnionIn w.sent (length (groups_of plan p)) t es) (sym ((agrees plan some.0 w (submissions plan start begins schemes laws stores coords steps w run some)).proc t was.0 was.1 was.2)) u;
        }

  pub known_final : (n : ℕ) (s : ServerState) → slice_get w.servers n ≡ Some s → (k : KnownList) → Has k s.lists.known → IsFinalIn plan w k.of k.edges
  known_final n s there k h = elim (transaction_or_none plan) [
    | inl some ↦ final_of some k.of k.edges (((networked some).servers n s there).known k h)
    | inr none ↦ absurd (subst (Has k) ((run_idle plan none start begins coords steps w run).servers n s there).known h)
  ]

  pub sent_final : (m : Envelope) → Has m w.sent → (k : KnownList) → Has k (lists_in m.msg) → IsFinalIn plan w k.of k.edges
  sent_final m h k j = elim (transaction_or_none plan) [
    | inl some ↦ final_of some k.of k.edges ((networked some).lists m h k j)
    | inr none ↦ absurd (subst (λ msg. Has k (lists_in msg)) ((run_idle plan none start begins coords steps w run).sent m h).is j)
  ]

  pub startoks_one : (m other : Envelope) → Has m w.sent → Has other w.sent → (t : TxnId) (g : ℕ) (shard at : Shard) (bound outs values gave : List ℤ) (es ds : List Dependency) (fs hs : List KnownList)
      → m.msg ≡ StartOk t g shard bound outs es fs → other.msg ≡ StartOk t g at values gave ds hs → m.msg ≡ other.msg
  startoks_one m other h k t g shard at bound outs values gave es ds fs hs e f = elim (transaction_or_none plan) [
    | inl some ↦
        (let x = logged plan start begins schemes laws stores coords steps w run some in
        one_startok plan (calls some) (T some) start (serial.is plan start begins schemes laws stores coords steps w run some) (laws (T some) (sound plan start begins schemes laws stores coords steps w run some)) w x.0 x.1 (networked some) m other h k t g shard at bound outs values gave es ds fs hs e f)
    | inr none ↦ absurd (subst IsMark e (idle_mark plan start w (run_idle plan none start begins coords steps w run) m h))
  ]

  -- a startok of a group that is found on a server says what is kept of it
  pub startok_kept : (n : ℕ) (s : ServerState) → slice_get w.servers n ≡ Some s → (t : TxnId) (g : ℕ) (e : StartedGroup) → find_group t g s.started ≡ Some e → (m : Envelope) → Has m w.sent → (at : Shard) (bound outs : List ℤ) (es : List Dependency) (fs : List KnownList)
      → m.msg ≡ StartOk t g at bound outs es fs → m.msg ≡ StartOk t g (record { 0 = n }) e.bound e.outs e.edges e.facts
  startok_kept n s there t g e f m h at bound outs es fs is = elim (transaction_or_none plan) [
    | inl some ↦
        (let x = logged plan start begins schemes laws stores coords steps w run some in
        let k = (networked some).kept n s there t g e f m h (record { shard = at; bound = bound; outs = outs; edges = es; facts = fs; is = is }) in
        let q = found_is t g s.started e f in
        let number : s.shard.0 ≡ n = (x.1.means.servers n s there).number in
        k ∙ (λ j. StartOk (q.1 j) (q.2 j) (record { 0 = number j }) e.bound e.outs e.edges e.facts))
    | inr none ↦ absurd (subst IsMark is (idle_mark plan start w (run_idle plan none start begins coords steps w run) m h))
  ]
