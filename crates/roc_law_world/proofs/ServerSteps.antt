-- What comes of a message at a server, of transactions and of views
use Rattle.std.proofs.Common.{◌≡◌, ◌∙◌, ℕ, suc, ◌-◌, Bool, true, false, not, [], ◌++◌, Option, Some, None, refl, sym, ap, subst, append-nil, arith}
use Rattle.std.proofs.lemmas.Bool.{false≢true}
use Rattle.std.proofs.lemmas.List.Elements.{filter-append}
use Rattle.std.specs.Prelude.{if◌then◌else◌}
use Rattle.std.specs.List.{filter}
use Rattle.roc_sequence.proofs.Members.{from_has_map}
use Rattle.roc_base.specs.declared.node.Node.TheVariants.{Server}
use Rattle.roc_msg.specs.declared.msg.Msg.{Msg}
use Rattle.roc_msg.specs.declared.msg.Msg.TheVariants.{Start, Commit, Fetch, Known, Ended, Settled, Read, ReadOk}
use Rattle.roc_msg.specs.declared.outbox.Outgoing.{Outgoing}
use Rattle.roc_plan.specs.Groups.{Plan}
use Rattle.roc_step.specs.declared.handled.Handled.{Handled as ServerHandled}
use Rattle.roc_step.specs.State.{ServerState, ServerStep, Viewing}
use Rattle.roc_step.specs.Reads.{is_taken, with_accesses, reads_with, is_free, in_turn, readok_of, answering, read_refusal, read_judged, AnswersReads, ReadStep}
use Rattle.roc_step.specs.Runs.{accesses_of}
use Rattle.roc_step.specs.Step as server
use Rattle.roc_law_world.specs.Beside.{is_of_view, of_transactions}
use Rattle.roc_law_world.proofs.Sent.{envelopes, AreOfTransactions, AreOfViews}
use Rattle.roc_law_world.proofs.TickSends.{of_transaction}
use Rattle.roc_law_world.proofs.Besides.{kept_envelopes}
use Rattle.roc_law_protocol.proofs.Rounds.{filter_none}
use Rattle.roc_law_protocol.proofs.Tells.{all_kept}

pub one_less : (n : ℕ) → suc n - 1 ≡ n
one_less n = omega arith

-- what answers reads is of views
pub reads_of_views : (plan : Plan) (v : Viewing) (msg : Msg) (r : ServerStep) (q : ReadStep) → AnswersReads plan v msg r q → AreOfViews q.sends
reads_of_views plan v msg r q a = subst (λ (q : ReadStep). AreOfViews q.sends) (sym a.is) (go (is_taken r.answer))
  where
    go : (b : Bool) → AreOfViews (if b then answering plan a.decided r.state (with_accesses v.versions (accesses_of r.ran)) (reads_with msg r.answer v.reads) else record { viewing = v; sends = [] }).sends
    go true out h =
        let q = from_has_map (readok_of plan r.state (with_accesses v.versions (accesses_of r.ran))) out (in_turn (filter (is_free plan a.decided r.state) (reads_with msg r.answer v.reads))) h in
        ap (λ (o : Outgoing). is_of_view o.msg) q.2
    go false out h = absurd h

pub sent_for_transactions : (n : ℕ) (r : ServerStep) (q : ReadStep) → AreOfTransactions r.sends → AreOfViews q.sends
    → of_transactions (envelopes (Server (record { 0 = n })) (r.sends ++ q.sends)) ≡ envelopes (Server (record { 0 = n })) r.sends
sent_for_transactions n r q ours theirs =
    kept_envelopes (Server (record { 0 = n })) (r.sends ++ q.sends)
    ∙ ap (envelopes (Server (record { 0 = n })))
    (filter-append of_transaction r.sends q.sends
    ∙ (ap (λ l. l ++ filter of_transaction q.sends) (all_kept of_transaction r.sends (λ out h. ap not (ours out h)))
    ∙ (ap (λ l. r.sends ++ l) (filter_none of_transaction q.sends (λ out h. ap not (theirs out h))) ∙ append-nil r.sends)))

-- of a message of views nothing comes but answers to reads
pub record IsIdle (s : ServerState) (r : ServerStep) : Type 0 where
  pub state : r.state ≡ s
  pub sends : r.sends ≡ []
  pub components : r.components ≡ []
  pub decided : r.decided ≡ []
  pub ran : r.ran ≡ []

pub idle : (plan : Plan) (s : ServerState) (f : server.Findings) (msg : Msg) → is_of_view msg ≡ true → IsIdle s (server.after_message plan s f msg)
idle plan s f (Read id round proc group args) k = go (read_refusal plan s (record { id = id; round = round; proc = proc; group = group; args = args }))
  where
    go : (x : Option ServerHandled) → IsIdle s (read_judged s x)
    go (Some answer) = record { state = refl; sends = refl; components = refl; decided = refl; ran = refl }
    go None = record { state = refl; sends = refl; components = refl; decided = refl; ran = refl }
idle plan s f (ReadOk id round group shard versions outs) k = record { state = refl; sends = refl; components = refl; decided = refl; ran = refl }
idle plan s f (Start id proc group args inputs) k = absurd (false≢true k)
idle plan s f (Commit id edges facts) k = absurd (false≢true k)
idle plan s f (Fetch id asker) k = absurd (false≢true k)
idle plan s f (Known id edges) k = absurd (false≢true k)
idle plan s f (Ended coord mark) k = absurd (false≢true k)
idle plan s f (Settled id mark) k = absurd (false≢true k)
idle plan s f msg k = record { state = refl; sends = refl; components = refl; decided = refl; ran = refl }
