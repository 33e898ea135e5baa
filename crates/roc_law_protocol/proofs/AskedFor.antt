-- In every world who is told of a list has asked for it
use Rattle.std.proofs.Common.{ℕ, ℤ, ◌-◌, List, [], ◌∷◌, Option, Some, None, sym, ap, subst, ◌∙◌, arith, inl, inr, ◌≡◌}
use Rattle.roc_sequence.specs.Lists.{Has}
use Rattle.roc_sequence.proofs.Members.{has_at}
use Rattle.roc_base.specs.declared.id.TxnId.{TxnId}
use Rattle.roc_base.specs.declared.node.Node.{Node}
use Rattle.roc_base.specs.declared.node.Node.TheVariants.{Server, Coord}
use Rattle.roc_base.specs.Edge.{Dependency}
use Rattle.roc_msg.specs.declared.msg.Msg.{Msg}
use Rattle.roc_msg.specs.declared.msg.Msg.TheVariants.{StartOk, ReadOk}
use Rattle.roc_msg.specs.declared.msg.Envelope.{Envelope}
use Rattle.roc_msg.specs.declared.outbox.Outgoing.{Outgoing}
use Rattle.roc_plan.specs.Groups.{Plan}
use Rattle.roc_step.specs.State.{answered, ServerState, ServerStep}
use Rattle.roc_step.specs.Step as server
use Rattle.roc_coord.specs.declared.transaction.Transaction.{Transaction}
use Rattle.roc_coord.specs.declared.transaction.TakenStart.{TakenStart}
use Rattle.roc_coord.specs.State.{CoordState}
use Rattle.roc_coord.specs.Step.{after_message}
use Rattle.roc_coord.specs.Submit.{new_transaction, next_id, accepted}
use Rattle.roc_audit.specs.declared.entry.Entry.TheVariants.{Submitted}
use Rattle.roc_law_protocol.specs.Aside.{transaction_tick_sends}
use Rattle.roc_law_protocol.specs.declared.event.Event.{Event}
use Rattle.roc_law_protocol.specs.declared.event.Event.TheVariants.{Submit, Deliver, Tick, Stop}
use Rattle.roc_law_protocol.specs.Beginnings.{Beginning, begun_server}
use Rattle.roc_law_protocol.specs.World.{World, mark_delivered, at_server}
use Rattle.roc_law_protocol.specs.Happens.{Outcome, answer_entries, IsReceived, IsSentTo}
use Rattle.roc_law_protocol.specs.Aside.{IsNoRead}
use Rattle.roc_law_protocol.specs.Run.{Stepped}
use Rattle.roc_law_protocol.specs.Beside.{Moves, IsRunBeside, beside_begins, beside_goes_on}
use Rattle.roc_law_protocol.proofs.Fetches.{FetchedFor, fetched_none, fetched_no_read, message_fetches, tick_fetches, IsAskedFor, HasAsked, served_asked, coordinated_asked, comes_asked}
use Rattle.roc_law_protocol.proofs.Gathered.{IsGathered, IsRound, Tells, message_gathered, tick_gathered, submission_gathered}
use Rattle.roc_law_protocol.proofs.Firsts.{found_at}
use Rattle.roc_law_protocol.proofs.AcceptedSubmissions.{Submitting, is_refused, is_accepted, submitting}
use Rattle.roc_law_protocol.proofs.Submissions.{IsNoReadOk}
use Rattle.roc_law_protocol.proofs.KeptAside.{kept_aside}
use Rattle.roc_step.specs.Restarts.{cut_short}
use Rattle.roc_law_protocol.proofs.Stops.{by_stop}
use Rattle.roc_law_protocol.proofs.Stopping.{take_has, fewer_fetches}
use Rattle.std.specs.Prelude.{slice_get}

-- ---- what a coordinator sends, whatever it was told

module _ (plan : Plan) (s : CoordState) where
  abbrev any_list : TxnId → List Dependency → Type 0
  any_list t es = Unit {0}

  abbrev any_ok : TxnId → TakenStart → Type 0
  any_ok t ok = Unit {0}

  abbrev any_call : TxnId → ℕ → Type 0
  any_call t p = Unit {0}

  any_gathered : (x : Transaction) → IsGathered plan any_list any_ok any_call (λ t ok h k j. tt) x
  any_gathered x = record { calls = tt; startoks = λ ok h. tt }

  any_tells : (msg : Msg) → IsNoReadOk msg → Tells plan any_list any_ok any_call (λ t ok h k j. tt) s (λ x h. any_gathered x) (λ x g all. tt) msg
  any_tells (StartOk id group shard bound outs edges facts) k = tt
  any_tells (ReadOk id round group shard versions outs) k = k
  any_tells msg k = tt

  pub message_round : (msg : Msg) → IsNoReadOk msg → (out : Outgoing) → Has out (after_message plan s msg).sends → IsRound out.msg
  message_round msg k out h = ((message_gathered plan any_list any_ok any_call (λ t ok h k j. tt) s (λ x h. any_gathered x) (λ x g all. tt) msg (any_tells msg k)).sends out h).1

  pub tick_round : (out : Outgoing) → Has out (transaction_tick_sends plan s) → IsRound out.msg
  tick_round out h = ((tick_gathered plan any_list any_ok any_call (λ t ok h k j. tt) s (λ x h. any_gathered x) (λ x g all. tt)).sends out h).1

  pub submission_round : (proc : ℕ) (args : List ℤ) (out : Outgoing) → Has out (accepted plan s (new_transaction s proc args)).sends → IsRound out.msg
  submission_round proc args out h = ((submission_gathered plan any_list any_ok any_call (λ t ok h k j. tt) s (λ x h. any_gathered x) (λ x g all. tt) proc args tt).sends out h).1

-- ---- worlds

step_asked : (plan : Plan) (w : World) → HasAsked w → (e : Option Event) (v : Outcome) → Moves plan w e v → HasAsked v.world
step_asked plan w o None v (inl h) = subst (λ (v : Outcome). HasAsked v.world) (sym h) o
step_asked plan w o None v (inr x) =
    let k = kept_aside plan x.before x.after x.sends x.does in
    subst (λ (v : Outcome). HasAsked v.world) (sym x.is)
    (coordinated_asked plan w o x.number x.after x.sends [] (λ out h. subst (λ (out : Outgoing). IsRound out.msg) (sym (k.marks out h).is) tt))
step_asked plan w o (Some (Submit n proc args)) v (s, there, h) = go (submitting plan w n proc args s v h)
  where
    go : Submitting plan w n proc args s v → HasAsked v.world
    go (is_refused e) = subst HasAsked (sym e) o
    go (is_accepted known counted e) = subst HasAsked (sym e) (coordinated_asked plan w o n (accepted plan s (new_transaction s proc args)).state (accepted plan s (new_transaction s proc args)).sends (Submitted (next_id s) proc args ∷ []) (submission_round plan s proc args))
step_asked plan w o (Some (Deliver k)) v (m, some, there, h) = go m.to (o.sent m (has_at w.sent (k - 1) m there)) h
  where
    go : (to : Node) → FetchedFor (IsAskedFor w.servers) m.msg to → IsReceived plan (mark_delivered w k) m.msg to v → HasAsked v.world
    go (Server shard) f (s, r, at, step, e) = subst (λ (v : Outcome). HasAsked v.world) (sym e) (served_asked plan (mark_delivered w k) (comes_asked plan w o k) shard.0 s at r (message_fetches plan (IsAskedFor w.servers) s ((comes_asked plan w o k).askers shard.0 s at) m.msg (Server shard) r step f))
    go (Coord n) f (s, at, e) = subst (λ (v : Outcome). HasAsked v.world) (sym e) (coordinated_asked plan (mark_delivered w k) (comes_asked plan w o k) n (after_message plan s m.msg).state (after_message plan s m.msg).sends (answer_entries (after_message plan s m.msg).answer) (message_round plan s m.msg (fetched_none (IsAskedFor w.servers) m.msg (Coord n) f)))
step_asked plan w o (Some (Tick (Server shard))) v (s, there, e) = subst (λ (v : Outcome). HasAsked v.world) (sym e) (served_asked plan w o shard.0 s there (answered s (server.tick_sends s)) (tick_fetches plan (IsAskedFor w.servers) s (o.askers shard.0 s there)))
step_asked plan w o (Some (Tick (Coord n))) v (s, there, e) = subst (λ (v : Outcome). HasAsked v.world) (sym e) (coordinated_asked plan w o n s (transaction_tick_sends plan s) [] (tick_round plan s))
step_asked plan w o (Some (Stop shard during)) v x = by_stop plan w shard.0 HasAsked o (λ k m sent. comes_asked plan w o k) cut again during v x
  where
    cut : (k many : ℕ) (m : Envelope) (s : ServerState) (r : ServerStep) → IsSentTo w.sent k shard.0 m → slice_get w.servers shard.0 ≡ Some s → server.Handles plan s m.msg r → HasAsked (at_server (mark_delivered w k) shard.0 (cut_short many r))
    cut k many m s r sent at step =
        let f = subst (FetchedFor (IsAskedFor w.servers) m.msg) sent.to (o.sent m (has_at w.sent (k - 1) m sent.there)) in
        served_asked plan (mark_delivered w k) (comes_asked plan w o k) shard.0 s at (cut_short many r)
        (fewer_fetches plan (IsAskedFor w.servers) s r _ (take_has many r.sends) (message_fetches plan (IsAskedFor w.servers) s ((comes_asked plan w o k).askers shard.0 s at) m.msg (Server shard) r step f))

    again : (v : World) (s : ServerState) → HasAsked v → slice_get v.servers shard.0 ≡ Some s → HasAsked (at_server v shard.0 (answered s (server.tick_sends s)))
    again v s p there = served_asked plan v p shard.0 s there (answered s (server.tick_sends s)) (tick_fetches plan (IsAskedFor v.servers) s (p.askers shard.0 s there))

pub run_asked : (plan : Plan) (start : Beginning) (coords : ℕ) (steps : List Stepped) (w : World) → IsRunBeside plan start coords steps w → HasAsked w
run_asked plan start coords steps w beside_begins =
    record {
      numbers = λ n s h. (let e = found_at (begun_server start) 0 plan.program.shards n s h in ap (λ (s : ServerState). s.shard.0) e ∙ (omega arith));
      sent = λ m h. absurd h;
      askers = λ n s h a j. elim (subst (λ (s : ServerState). Has a s.lists.waiting.askers) (found_at (begun_server start) 0 plan.program.shards n s h) j) [ ];
    }
run_asked plan start coords steps w (beside_goes_on {w = v} e o r h) = step_asked plan v (run_asked plan start coords _ v r) e o h

-- so no message is a read
pub none_read : (plan : Plan) (start : Beginning) (coords : ℕ) (steps : List Stepped) (w : World) → IsRunBeside plan start coords steps w → (m : Envelope) → Has m w.sent → IsNoRead m.msg
none_read plan start coords steps w run m h = fetched_no_read (IsAskedFor w.servers) m.msg m.to ((run_asked plan start coords steps w run).sent m h)
