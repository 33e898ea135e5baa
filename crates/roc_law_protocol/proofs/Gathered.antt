-- What a coordinator tells comes from what it was told
use Rattle.std.proofs.Common.{◌≡◌, ℕ, ℤ, Bool, true, false, not, cond, List, [], ◌∷◌, Option, Some, None, map, refl, sym, subst, inl, inr}
use Rattle.std.specs.Prelude.{filter, flat_map, if◌then◌else◌}
use Rattle.roc_sequence.specs.Lists.{Has}
use Rattle.roc_sequence.proofs.Found.{found_has}
use Rattle.roc_sequence.proofs.Members.{has_append, has_one, from_has_map, from_has_filter, from_has_flat_map}
use Rattle.roc_base.specs.declared.id.TxnId.{TxnId}
use Rattle.roc_base.specs.declared.node.Shard.{Shard}
use Rattle.roc_base.specs.TxnId.{is_txn}
use Rattle.roc_base.specs.Equalities.{is_txn-true}
use Rattle.roc_base.specs.Edge.{Dependency}
use Rattle.roc_depgraph.specs.declared.known.KnownList.{KnownList}
use Rattle.roc_msg.specs.declared.msg.Msg.{Msg}
use Rattle.roc_msg.specs.declared.msg.Msg.TheVariants.{Start, StartOk, Commit, CommitOk, Ended, ReadOk}
use Rattle.roc_msg.specs.declared.outbox.Outgoing.{Outgoing}
use Rattle.roc_msg.specs.declared.reason.Reason.{Reason}
use Rattle.roc_plan.specs.Groups.{Plan}
use Rattle.roc_coord.specs.declared.transaction.Transaction.{Transaction}
use Rattle.roc_coord.specs.declared.transaction.TakenStart.{TakenStart}
use Rattle.roc_coord.specs.declared.transaction.TakenCommit.{TakenCommit}
use Rattle.roc_coord.specs.State.{find_transaction, with_transaction, has_commitok, CoordState, CoordStep}
use Rattle.roc_coord.specs.Starts.{group_numbers, ready_groups, start_for, with_starts, starts_of, all_started, all_edges, gathered, shards_of, commit_to, commits_of}
use Rattle.roc_coord.specs.Step.{unless_refused, with_commits, commits_for, with_startok, sends_after, startok_taken, startok_refusal, after_startok, with_commitok, reply_now, commitok_taken, commitok_refusal, after_commitok, after_message, without_transaction}
use Rattle.roc_coord.specs.Submit.{next_id, new_transaction, accepted}
use Rattle.roc_coord.specs.Tick.{awaits_startok, starts_again, commits_again, sent_again}
use Rattle.roc_law_protocol.specs.Aside.{transaction_tick_sends}
use Rattle.roc_law_protocol.specs.Final.{lists_in}
use Rattle.roc_law_protocol.proofs.Coordinators.{from_gathered}
use Rattle.roc_law_protocol.proofs.Facts.{has_fitting}
use Rattle.roc_law_protocol.proofs.Marks.{IsMarkOf, mark_sent, mark_told}
use Rattle.roc_coord.specs.Marks.{ended_sends}

-- a coordinator sends starts, commits and watermarks alone
abbrev pub IsRound : Msg → Type 0
IsRound (Start id proc group args inputs) = Unit {0}
IsRound (Commit id edges facts) = Unit {0}
IsRound (Ended coord mark) = Unit {0}
IsRound msg = ⊥

module _ (plan : Plan) (Good : TxnId → List Dependency → Type 0) (Told : TxnId → TakenStart → Type 0) (Calls : TxnId → ℕ → Type 0) (facts_good : (t : TxnId) (ok : TakenStart) → Told t ok → (k : KnownList) → Has k ok.facts → Good k.of k.edges) where
  -- what is known of a transaction: each startok was told, and it is of this procedure
  pub record IsGathered (x : Transaction) : Type 0 where
    pub calls : Calls x.id x.proc
    pub startoks : (ok : TakenStart) → Has ok x.startoks → Told x.id ok

  abbrev AllGood : List KnownList → Type 0
  AllGood lists = (k : KnownList) → Has k lists → Good k.of k.edges

  -- all that its groups were told is its list
  module _ (s : CoordState) (old : (x : Transaction) → Has x s.pending → IsGathered x) (whole : (x : Transaction) → IsGathered x → all_started plan x ≡ true → Good x.id (all_edges x)) where
    pub record KeepsGathered (after : CoordState) (outs : List Outgoing) : Type 0 where
      pub pending : (x : Transaction) → Has x after.pending → IsGathered x
      pub sends : (out : Outgoing) → Has out outs → AllGood (lists_in out.msg) × IsRound out.msg

    same : (outs : List Outgoing) → ((out : Outgoing) → Has out outs → AllGood (lists_in out.msg) × IsRound out.msg) → KeepsGathered s outs
    same outs sends = record { pending = old; sends = sends }

    -- where its transactions stay, and watermarks alone are sent
    pub aside_gathered : (after : CoordState) → after.pending ≡ s.pending → (outs : List Outgoing) → ((out : Outgoing) → Has out outs → IsMarkOf plan after out) → KeepsGathered after outs
    aside_gathered after e outs marks =
        record {
          pending = λ x h. old x (subst (λ l. Has x l) e h);
          sends = λ out h. subst (λ (out : Outgoing). AllGood (lists_in out.msg) × IsRound out.msg) (sym (marks out h).is) (λ k j. absurd j, tt);
        }

    ignores : KeepsGathered s []
    ignores = same [] (λ out h. absurd h)

    kept : (x : Transaction) → IsGathered x → (z : Transaction) → Has z (with_transaction s x).pending → IsGathered z
    kept x g z h =
        let q = from_has_map (λ (y : Transaction). if is_txn y.id x.id then x else y) z s.pending h in
        go q.0 q.1 (is_txn q.0.id x.id) q.2
      where
        go : (y : Transaction) → Has y s.pending → (b : Bool) → z ≡ cond b x y → IsGathered z
        go y k true e = subst IsGathered (sym e) g
        go y k false e = subst IsGathered (sym e) (old y k)

    starts_carry : (x : Transaction) (gs : List ℕ) (out : Outgoing) → Has out (map (start_for plan x) gs) → AllGood (lists_in out.msg) × IsRound out.msg
    starts_carry x gs out h = let q = from_has_map (start_for plan x) out gs h in subst (λ (out : Outgoing). AllGood (lists_in out.msg) × IsRound out.msg) (sym q.2) (λ k j. absurd j, tt)

    commits_carry : (x : Transaction) → IsGathered x → all_started plan x ≡ true → (shards : List Shard) (out : Outgoing) → Has out (map (commit_to x) shards) → AllGood (lists_in out.msg) × IsRound out.msg
    commits_carry x g all shards out h =
        let q = from_has_map (commit_to x) out shards h in
        subst (λ (out : Outgoing). AllGood (lists_in out.msg) × IsRound out.msg) (sym q.2) (
          λ k j. elim j [
            | inl e ↦ subst (λ (k : KnownList). Good k.of k.edges) (sym e) (whole x g all)
            | inr m ↦
                (let a = (from_has_filter (λ fact. not (is_txn fact.of x.id)) k (gathered (flat_map (λ (ok : TakenStart). ok.facts) x.startoks)) (has_fitting (filter (λ fact. not (is_txn fact.of x.id)) (gathered (flat_map (λ (ok : TakenStart). ok.facts) x.startoks))) k m)).0 in
                let b = from_has_flat_map (λ (ok : TakenStart). ok.facts) k x.startoks (from_gathered k (flat_map (λ (ok : TakenStart). ok.facts) x.startoks) a) in
                facts_good x.id b.0 (g.startoks b.0 b.1) k b.2)
          ],
          tt,
        )

    round : (x : Transaction) → IsGathered x → KeepsGathered (with_transaction s (with_commits plan (with_starts plan x))) (sends_after plan x)
    round x g =
        let y = with_starts plan x in
        let gy : IsGathered y = record { calls = g.calls; startoks = g.startoks } in
        record {
          pending = kept (with_commits plan y) (committed y gy (all_started plan y));
          sends = λ out h. elim (has_append out (starts_of plan x) (commits_for plan y) h) [ inl k ↦ starts_carry x (ready_groups plan x) out k | inr k ↦ commits y gy out (all_started plan y) refl k ];
        }
      where
        committed : (y : Transaction) → IsGathered y → (b : Bool) → IsGathered (if b then record y { asked = shards_of y } else y)
        committed y g true = record { calls = g.calls; startoks = g.startoks }
        committed y g false = g

        commits : (y : Transaction) → IsGathered y → (out : Outgoing) → (b : Bool) → all_started plan y ≡ b → Has out (if b then commits_of y else []) → AllGood (lists_in out.msg) × IsRound out.msg
        commits y g out true e h = commits_carry y g e (shards_of y) out h
        commits y g out false e h = absurd h

    abbrev After : CoordStep → Type 0
    After r = KeepsGathered r.state r.sends

    told_carry : {after : CoordState} {out : Outgoing} → IsMarkOf plan after out → AllGood (lists_in out.msg) × IsRound out.msg
    told_carry q = subst (λ (out : Outgoing). AllGood (lists_in out.msg) × IsRound out.msg) (sym q.is) (λ k j. absurd j, tt)

    startok_gathered : (ok : TakenStart) (shard : Shard) (id : TxnId) → Told id ok → (x : Option Transaction) → find_transaction id s.pending ≡ x → After (after_startok plan s id x ok shard)
    startok_gathered ok shard id t None e = ignores
    startok_gathered ok shard id t (Some x) e = refused (startok_refusal plan x ok shard)
      where
        gathered_now : IsGathered (with_startok x ok)
        gathered_now =
            let f = found_has (λ (x : Transaction). is_txn x.id id) s.pending x e in
            let g = old x f.0 in
            record {
              calls = g.calls;
              startoks = λ o h. elim (has_append o x.startoks (ok ∷ []) h) [
                | inl k ↦ g.startoks o k
                | inr k ↦ subst (Told x.id) (sym (has_one o ok k)) (subst (λ t. Told t ok) (sym (is_txn-true x.id id f.1)) t)
              ];
            }

        refused : (o : Option Reason) → After (unless_refused s o (startok_taken plan s (with_startok x ok)))
        refused (Some why) = ignores
        refused None = round (with_startok x ok) gathered_now

    commitok_gathered : (ok : TakenCommit) (id : TxnId) → (x : Option Transaction) → find_transaction id s.pending ≡ x → After (after_commitok plan s id x ok)
    commitok_gathered ok id None e = ignores
    commitok_gathered ok id (Some x) e = refused (commitok_refusal plan x ok) (reply_now plan (with_commitok x ok))
      where
        g : IsGathered (with_commitok x ok)
        g = let f = found_has (λ (x : Transaction). is_txn x.id id) s.pending x e in record { calls = (old x f.0).calls; startoks = (old x f.0).startoks }

        refused : (o : Option Reason) (reply : Option (List ℤ)) → After (unless_refused s o (commitok_taken plan s (with_commitok x ok) reply))
        refused (Some why) reply = ignores
        refused None None = record { pending = kept (with_commitok x ok) g; sends = λ out h. absurd h }
        refused None (Some reply) = record { pending = λ z h. old z (from_has_filter (λ (z : Transaction). not (is_txn z.id x.id)) z s.pending h).0; sends = λ out h. told_carry (mark_told plan s (without_transaction s x.id) out h) }

    -- what a startok that comes tells
    abbrev pub Tells : Msg → Type 0
    Tells (StartOk id group shard bound outs edges facts) = Told id (record { group = group; bound = bound; outs = outs; edges = edges; facts = facts })
    Tells (ReadOk id round group shard versions outs) = ⊥
    Tells msg = Unit {0}

    pub message_gathered : (msg : Msg) → Tells msg → After (after_message plan s msg)
    message_gathered (StartOk id group shard bound outs edges facts) t = startok_gathered (record { group = group; bound = bound; outs = outs; edges = edges; facts = facts }) shard id t (find_transaction id s.pending) refl
    message_gathered (CommitOk id shard outs) t = commitok_gathered (record { shard = shard; outs = outs }) id (find_transaction id s.pending) refl
    message_gathered (ReadOk id round group shard versions outs) t = absurd t
    message_gathered msg t = ignores

    pub tick_gathered : KeepsGathered s (transaction_tick_sends plan s)
    tick_gathered = same (transaction_tick_sends plan s) (λ out h. elim (has_append out (flat_map (sent_again plan) s.pending) (ended_sends plan s) h) [
      | inl k ↦ (let q = from_has_flat_map (sent_again plan) out s.pending k in again q.0 (old q.0 q.1) out (all_started plan q.0) refl q.2)
      | inr k ↦ told_carry (mark_sent plan s out k)
    ])
      where
        again : (x : Transaction) → IsGathered x → (out : Outgoing) → (b : Bool) → all_started plan x ≡ b → Has out (if b then commits_again x else starts_again plan x) → AllGood (lists_in out.msg) × IsRound out.msg
        again x g out true e h = commits_carry x g e (filter (λ (shard : Shard). not (has_commitok shard x.commitoks)) x.asked) out h
        again x g out false e h = starts_carry x (filter (awaits_startok x) (group_numbers plan x.proc)) out h

    pub submission_gathered : (proc : ℕ) (args : List ℤ) → Calls (next_id s) proc → KeepsGathered (accepted plan s (new_transaction s proc args)).state (accepted plan s (new_transaction s proc args)).sends
    submission_gathered proc args calls =
        let x = new_transaction s proc args in
        record {
          pending = λ z h. elim (has_append z s.pending (with_starts plan x ∷ []) h) [ inl k ↦ old z k | inr k ↦ subst IsGathered (sym (has_one z (with_starts plan x) k)) (record { calls = calls; startoks = λ ok h. absurd h }) ];
          sends = starts_carry x (ready_groups plan x);
        }
