-- The history of every run tells each id once
use Rattle.std.proofs.Common.{◌≡◌, ℕ, ℤ, List, [], ◌++◌, Option, Some, None, refl, sym, subst, inl, inr, append-nil, ◌-◌}
use Rattle.std.specs.Prelude.{slice_get}
use Rattle.roc_sequence.specs.Lists.{Has}
use Rattle.roc_sequence.proofs.Found.{found_has}
use Rattle.roc_base.specs.declared.node.Node.{Node}
use Rattle.roc_base.specs.declared.node.Node.TheVariants.{Server, Coord}
use Rattle.roc_base.specs.TxnId.{is_txn}
use Rattle.roc_msg.specs.declared.msg.Msg.{Msg}
use Rattle.roc_msg.specs.declared.msg.Msg.TheVariants.{StartOk, CommitOk, ReadOk}
use Rattle.roc_msg.specs.declared.reason.Reason.{Reason}
use Rattle.roc_plan.specs.Groups.{Plan}
use Rattle.roc_law_log.specs.Scheme.{Scheme, IsSoundScheme}
use Rattle.roc_coord.specs.declared.handled.Handled.{Handled}
use Rattle.roc_coord.specs.declared.handled.Handled.TheVariants as answer
use Rattle.roc_coord.specs.declared.transaction.Transaction.{Transaction}
use Rattle.roc_coord.specs.State.{find_transaction, CoordState}
use Rattle.roc_coord.specs.Step.{unless_refused, with_startok, startok_taken, startok_refusal, after_startok, with_commitok, reply_now, commitok_taken, commitok_refusal, after_commitok, after_message}
use Rattle.roc_coord.specs.Submit.{next_id}
use Rattle.roc_audit.specs.declared.entry.Entry.TheVariants.{Submitted, Answered}
use Rattle.roc_audit.specs.History.{WasSubmitted, IsToldOnce}
use Rattle.roc_audit.proofs.Once.{told_nothing, told_more}
use Rattle.roc_law_protocol.specs.declared.event.Event.{Event}
use Rattle.roc_law_protocol.specs.declared.event.Event.TheVariants.{Submit, Deliver, Tick, Stop}
use Rattle.roc_law_protocol.specs.PlanAssumptions.{HasSchemesFrom}
use Rattle.roc_law_protocol.specs.Beginnings.{Beginning, IsBeginning}
use Rattle.roc_law_protocol.specs.World.{World, mark_delivered}
use Rattle.roc_law_protocol.specs.Happens.{Outcome, answer_entries, IsReceived}
use Rattle.roc_law_protocol.specs.Run.{Stepped}
use Rattle.roc_law_protocol.specs.Beside.{Moves, IsRunBeside, beside_begins, beside_goes_on}
use Rattle.roc_law_protocol.specs.Inner.Given.{LogLaws, StoreLaws}
use Rattle.roc_law_protocol.proofs.Submissions.{IsNoReadOk, unused}
use Rattle.roc_law_protocol.proofs.AcceptedSubmissions.{Submitting, is_refused, is_accepted, submitting, submissions_from}
use Rattle.roc_law_protocol.proofs.Idle.{run_idle}
use Rattle.roc_law_protocol.proofs.Serial as serial
use Rattle.roc_law_protocol.proofs.Liveness.{answered_gone}
use Rattle.roc_law_protocol.proofs.Stops.{stop_keeps}
use Rattle.roc_law_protocol.proofs.Transactions.{transaction_or_none}
use Rattle.roc_law_protocol.proofs.AskedFor.{run_asked}
use Rattle.roc_law_protocol.proofs.Fetches.{fetched_none, IsAskedFor}
use Rattle.roc_sequence.proofs.Members.{has_at}

-- only what is pending is answered
abbrev pub OfPending : CoordState → Handled → Type 0
OfPending s (answer.Answered id reply) = (x : Transaction) × Has x s.pending × (x.id ≡ id)
OfPending s answer.Done = Unit {0}
OfPending s (answer.Ignored why) = Unit {0}

pub of_pending : (plan : Plan) (s : CoordState) (msg : Msg) → IsNoReadOk msg → OfPending s (after_message plan s msg).answer
of_pending plan s (StartOk id group shard bound outs edges facts) k = go (find_transaction id s.pending)
  where
    go : (x : Option Transaction) → OfPending s (after_startok plan s id x (record { group = group; bound = bound; outs = outs; edges = edges; facts = facts }) shard).answer
    go None = tt
    go (Some x) = refused (startok_refusal plan x (record { group = group; bound = bound; outs = outs; edges = edges; facts = facts }) shard)
      where
        refused : (r : Option Reason)
            → OfPending s (unless_refused s r (startok_taken plan s (with_startok x (record { group = group; bound = bound; outs = outs; edges = edges; facts = facts })))).answer
        refused (Some why) = tt
        refused None = tt
of_pending plan s (CommitOk id shard outs) k = go (find_transaction id s.pending) refl
  where
    go : (x : Option Transaction) → find_transaction id s.pending ≡ x → OfPending s (after_commitok plan s id x (record { shard = shard; outs = outs })).answer
    go None e = tt
    go (Some x) e = refused (commitok_refusal plan x (record { shard = shard; outs = outs })) (reply_now plan (with_commitok x (record { shard = shard; outs = outs })))
      where
        refused : (r : Option Reason) (reply : Option (List ℤ)) → OfPending s (unless_refused s r (commitok_taken plan s (with_commitok x (record { shard = shard; outs = outs })) reply)).answer
        refused (Some why) reply = tt
        refused None None = tt
        refused None (Some reply) = (x, (found_has (λ (x : Transaction). is_txn x.id id) s.pending x e).0, refl)
of_pending plan s (ReadOk id round group shard versions outs) k = absurd k
of_pending plan s msg k = tt

module _ (plan : Plan) (start : Beginning) (begins : IsBeginning plan start) (schemes : HasSchemesFrom plan start.store) (laws : (S : Scheme) → IsSoundScheme S → LogLaws S start.store) (stores : StoreLaws) (coords : ℕ) where
  module _ (steps : List Stepped) (w : World) (run : IsRunBeside plan start coords steps w) (told : IsToldOnce w.history) where
    pending_submitted : (n : ℕ) (c : CoordState) → slice_get w.coords n ≡ Some c → (x : Transaction) → Has x c.pending → WasSubmitted w.history x.id
    pending_submitted n c there x has = elim (transaction_or_none plan) [
      | inl some ↦ (serial.logged plan start begins schemes laws stores coords steps w run some).1.pending n c there x has
      | inr none ↦ absurd (subst (Has x) ((run_idle plan none start begins coords steps w run).coords n c there) has)
    ]

    nothing_more : IsToldOnce (w.history ++ [])
    nothing_more = subst IsToldOnce (sym (append-nil w.history)) told

    answer_told : (n : ℕ) (s : CoordState) → slice_get w.coords n ≡ Some s → (a : Handled) → OfPending s a → IsToldOnce (w.history ++ answer_entries a)
    answer_told n s there (answer.Answered id reply) (x, has, is) =
        told_more w.history (Answered id reply) told
        (subst (WasSubmitted w.history) is (pending_submitted n s there x has), λ other h. answered_gone plan start begins schemes laws stores coords steps w run id other h n s there x has is)
    answer_told n s there answer.Done k = nothing_more
    answer_told n s there (answer.Ignored why) k = nothing_more

    step_told : (e : Option Event) (o : Outcome) → Moves plan w e o → IsToldOnce o.world.history
    step_told None o (inl h) = subst (λ (o : Outcome). IsToldOnce o.world.history) (sym h) told
    step_told None o (inr x) = subst (λ (o : Outcome). IsToldOnce o.world.history) (sym x.is) nothing_more
    step_told (Some (Submit n proc args)) o (s, there, h) = go (submitting plan w n proc args s o h)
      where
        go : Submitting plan w n proc args s o → IsToldOnce o.world.history
        go (is_refused e) = subst (λ (v : World). IsToldOnce v.history) (sym e) told
        go (is_accepted known counted e) =
            subst (λ (v : World). IsToldOnce v.history) (sym e)
            (told_more w.history (Submitted (next_id s) proc args) told (λ q. unused plan w.history w.coords (submissions_from plan start coords steps w run) n s there q.0 q.1 q.2))
    step_told (Some (Deliver k)) o (m, some, there, h) = go m.to h
      where
        go : (to : Node) → IsReceived plan (mark_delivered w k) m.msg to o → IsToldOnce o.world.history
        go (Server shard) (s, r, at, step, e) = subst (λ (o : Outcome). IsToldOnce o.world.history) (sym e) told
        go (Coord n) (s, at, e) = subst (λ (o : Outcome). IsToldOnce o.world.history) (sym e) (answer_told n s at (after_message plan s m.msg).answer (of_pending plan s m.msg (fetched_none (IsAskedFor w.servers) m.msg m.to ((run_asked plan start coords steps w run).sent m (has_at w.sent (k - 1) m there)))))
    step_told (Some (Tick (Server shard))) o (s, there, e) = subst (λ (o : Outcome). IsToldOnce o.world.history) (sym e) told
    step_told (Some (Tick (Coord n))) o (s, there, e) = subst (λ (o : Outcome). IsToldOnce o.world.history) (sym e) nothing_more
    step_told (Some (Stop shard during)) o x = subst IsToldOnce (sym (stop_keeps plan w shard.0 during o x).0) told

  pub run_told : (steps : List Stepped) (w : World) → IsRunBeside plan start coords steps w → IsToldOnce w.history
  run_told steps w beside_begins = told_nothing
  run_told steps w (beside_goes_on {w = v} e o r h) = step_told _ v r (run_told _ v r) e o h
