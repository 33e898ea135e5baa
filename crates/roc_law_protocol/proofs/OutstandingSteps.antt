-- What a coordinator's step sends for its transactions, and what it takes
use Rattle.std.proofs.Common.{◌≡◌, ◌≢◌, ℕ, ℤ, ◌<◌, ◌==◌, ◌&&◌, Bool, true, false, not, cond, List, [], ◌∷◌, ◌++◌, Option, Some, None, length, map, refl, sym, ap, subst, ◌∙◌, ◌⊎◌, inl, inr, is_some}
use Rattle.std.proofs.lemmas.Bool.{false≢true, and_parts}
use Rattle.std.specs.Prelude.{if◌then◌else◌}
use Rattle.roc_sequence.specs.Lists.{Has}
use Rattle.roc_sequence.proofs.Holds.{any_has}
use Rattle.roc_sequence.proofs.Found.{found_has}
use Rattle.roc_sequence.proofs.Members.{has_append, has_one, has_left, has_map, has_filter, from_has_filter}
use Rattle.roc_base.specs.declared.id.TxnId.{TxnId}
use Rattle.roc_base.specs.declared.node.Node.{Node}
use Rattle.roc_base.specs.declared.node.Shard.{Shard}
use Rattle.roc_base.specs.TxnId.{is_txn}
use Rattle.roc_base.specs.Equalities.{is_txn-true}
use Rattle.roc_base.proofs.Ids.{is_txn-eq}
use Rattle.roc_msg.specs.declared.msg.Msg.{Msg}
use Rattle.roc_msg.specs.declared.msg.Msg.TheVariants.{StartOk, CommitOk, ReadOk}
use Rattle.roc_msg.specs.declared.msg.Envelope.{Envelope}
use Rattle.roc_msg.specs.declared.outbox.Outgoing.{Outgoing}
use Rattle.roc_msg.specs.declared.reason.Reason.TheVariants.{Stale, Unfit}
use Rattle.roc_plan.specs.Groups.{Plan}
use Rattle.roc_coord.specs.declared.transaction.Transaction.{Transaction}
use Rattle.roc_coord.specs.declared.transaction.TakenStart.{TakenStart}
use Rattle.roc_coord.specs.declared.transaction.TakenCommit.{TakenCommit}
use Rattle.roc_coord.specs.State.{find_transaction, with_transaction, find_startok, was_asked, has_commitok, CoordState}
use Rattle.roc_coord.specs.Starts.{group_numbers, with_starts, starts_of, all_started, bound_count, out_count}
use Rattle.roc_coord.specs.Commits.{all_committed, reply_of, places_on}
use Rattle.roc_coord.specs.Step.{unless_refused, is_fit_startok, with_commits, with_startok, sends_after, startok_taken, after_startok, is_asked, is_fit_commitok, with_commitok, reply_now, without_transaction, commitok_taken, after_commitok, after_message, answered_sends}
use Rattle.roc_coord.specs.Submit.{next_id, new_transaction, accepted}
use Rattle.roc_audit.specs.declared.entry.Entry.{Entry}
use Rattle.roc_audit.specs.declared.entry.Entry.TheVariants as entry
use Rattle.roc_law_protocol.specs.World.{sent_by}
use Rattle.roc_law_protocol.specs.Happens.{answer_entries}
use Rattle.roc_law_protocol.proofs.Held.{with_cases}
use Rattle.roc_law_protocol.proofs.Taken.{TakesMore, as_it_was, startok_more, commitok_more}
use Rattle.roc_law_protocol.proofs.Outstanding.{IsOutstanding, outstanding_stays, new_outstanding, startok_outstanding, commitok_outstanding}
use Rattle.roc_law_protocol.proofs.Marks.{IsMark, mark_told}

-- each transaction goes on, is new, or is answered now, where its commits were sent before and nothing is sent
pub record Proceeds (plan : Plan) (sent : List Envelope) (from : Node) (s after : CoordState) (outs : List Outgoing) (tells : List Entry) : Type 0 where
  pub before : (y : Transaction) → Has y after.pending → ((x : Transaction) × Has x s.pending × TakesMore x y) ⊎ (y.id ≡ next_id s)
  pub stays : (x : Transaction) → Has x s.pending → ((y : Transaction) × Has y after.pending × (y.id ≡ x.id)) ⊎ ((reply : List ℤ) × Has (entry.Answered x.id reply) tells)
  pub holds : (y : Transaction) → Has y after.pending → IsOutstanding plan (sent ++ map (sent_by from) outs) y
  pub answers : (t : TxnId) (reply : List ℤ) → Has (entry.Answered t reply) tells
      → (x : Transaction) × Has x s.pending × (x.id ≡ t) × (all_started plan x ≡ true) × ((y : Transaction) → Has y after.pending → y.id ≢ t) × ((out : Outgoing) → Has out outs → IsMark out.msg)

-- a startok is of a group of its procedure, from one of few shards
abbrev pub IsOfGroup : Plan → List Transaction → Msg → Type 0
IsOfGroup plan pending (StartOk id group shard bound outs edges facts) = (shard.0 < 64) × ((x : Transaction) → Has x pending → x.id ≡ id → Has group (group_numbers plan x.proc))
IsOfGroup plan pending (ReadOk id round group shard versions outs) = ⊥
IsOfGroup plan pending msg = Unit {0}

module _ (plan : Plan) (sent : List Envelope) (from : Node) (s : CoordState) (once : (y z : Transaction) → Has y s.pending → Has z s.pending → y.id ≡ z.id → y ≡ z)
    (old : (x : Transaction) → Has x s.pending → IsOutstanding plan sent x) (whole : (x : Transaction) → Has x s.pending → (a : Shard) → Has a x.asked → all_started plan x ≡ true) where
  abbrev Goes : CoordState → List Outgoing → List Entry → Type 0
  Goes after outs tells = Proceeds plan sent from s after outs tells

  -- no transaction changes
  pub same_aside : (after : CoordState) → after.pending ≡ s.pending → (outs : List Outgoing) → Goes after outs []
  same_aside after e outs =
      record {
        before = λ y h. inl (y, subst (λ l. Has y l) e h, as_it_was y);
        stays = λ x h. inl (x, subst (λ l. Has x l) (sym e) h, refl);
        holds = λ y h. outstanding_stays plan sent (map (sent_by from) outs) y (old y (subst (λ l. Has y l) e h));
        answers = λ t reply h. absurd h;
      }

  pub same : (outs : List Outgoing) → Goes s outs []
  same = same_aside s refl

  -- it stands where the old one stood
  there : (x y : Transaction) → Has x s.pending → y.id ≡ x.id → Has y (with_transaction s y).pending
  there x y h e =
      subst (λ z. Has z (with_transaction s y).pending) (chosen (is_txn x.id y.id) (is_txn-eq x.id y.id (sym e)))
      (has_map (λ (z : Transaction). if is_txn z.id y.id then y else z) x s.pending h)
    where
      chosen : (b : Bool) → b ≡ true → cond b y x ≡ y
      chosen true k = refl
      chosen false k = absurd (false≢true k)

  other_stays : (x y z : Transaction) → y.id ≡ x.id → Has z s.pending → is_txn z.id y.id ≡ false → Has z (with_transaction s y).pending
  other_stays x y z e h k =
      subst (λ v. Has v (with_transaction s y).pending) (chosen (is_txn z.id y.id) k)
      (has_map (λ (z : Transaction). if is_txn z.id y.id then y else z) z s.pending h)
    where
      chosen : (b : Bool) → b ≡ false → cond b y z ≡ z
      chosen true k = absurd (false≢true (sym k))
      chosen false k = refl

  -- one of them changes
  changes : (x y : Transaction) → Has x s.pending → TakesMore x y → (outs : List Outgoing) → IsOutstanding plan (sent ++ map (sent_by from) outs) y → Goes (with_transaction s y) outs []
  changes x y h more outs k =
      record {
        before = λ z j. elim (with_cases plan s once y z j) [ inl e ↦ inl (x, h, subst (TakesMore x) (sym e) more) | inr i ↦ inl (z, i.0, as_it_was z) ];
        stays = λ z j. inl (stay z j (is_txn z.id y.id) refl);
        holds = λ z j. elim (with_cases plan s once y z j) [ inl e ↦ subst (IsOutstanding plan (sent ++ map (sent_by from) outs)) (sym e) k | inr i ↦ outstanding_stays plan sent (map (sent_by from) outs) z (old z i.0) ];
        answers = λ t reply h. absurd h;
      }
    where
      stay : (z : Transaction) → Has z s.pending → (b : Bool) → is_txn z.id y.id ≡ b → (v : Transaction) × Has v (with_transaction s y).pending × (v.id ≡ z.id)
      stay z j true e = (y, there x y h more.id, sym (is_txn-true z.id y.id e))
      stay z j false e = (z, other_stays x y z more.id j e, refl)

  -- ---- a startok

  startok_goes_on : (ok : TakenStart) (shard : Shard) (id : TxnId) → shard.0 < 64 → ((x : Transaction) → Has x s.pending → x.id ≡ id → Has ok.group (group_numbers plan x.proc)) → (x : Option Transaction) → find_transaction id s.pending ≡ x
      → Goes (after_startok plan s id x ok shard).state (after_startok plan s id x ok shard).sends (answer_entries (after_startok plan s id x ok shard).answer)
  startok_goes_on ok shard id few number None e = same []
  startok_goes_on ok shard id few number (Some x) e = fresh (is_some (find_startok ok.group x.startoks)) refl
    where
      found : Has x s.pending × (is_txn x.id id ≡ true)
      found = found_has (λ (x : Transaction). is_txn x.id id) s.pending x e

      fit : (b : Bool) → is_fit_startok plan x ok shard ≡ b → is_some (find_startok ok.group x.startoks) ≡ false
          → Goes (unless_refused s (if not b then Some Unfit else None) (startok_taken plan s (with_startok x ok))).state (unless_refused s (if not b then Some Unfit else None) (startok_taken plan s (with_startok x ok))).sends (answer_entries (unless_refused s (if not b then Some Unfit else None) (startok_taken plan s (with_startok x ok))).answer)
      fit false f n = same []
      fit true f n =
          let was = (and_parts (was_asked x ok.group shard) (length ok.bound == bound_count plan x.proc ok.group) (and_parts (was_asked x ok.group shard && length ok.bound == bound_count plan x.proc ok.group) (length ok.outs == out_count plan x.proc ok.group) f).0).0 in
          changes x (with_commits plan (with_starts plan (with_startok x ok))) found.0 (startok_more plan x ok) (sends_after plan (with_startok x ok))
          (startok_outstanding plan sent from x (old x found.0) ok shard n was few (number x found.0 (is_txn-true x.id id found.1)))

      fresh : (b : Bool) → is_some (find_startok ok.group x.startoks) ≡ b
          → Goes (unless_refused s (if b then Some Stale else (if not (is_fit_startok plan x ok shard) then Some Unfit else None)) (startok_taken plan s (with_startok x ok))).state (unless_refused s (if b then Some Stale else (if not (is_fit_startok plan x ok shard) then Some Unfit else None)) (startok_taken plan s (with_startok x ok))).sends (answer_entries (unless_refused s (if b then Some Stale else (if not (is_fit_startok plan x ok shard) then Some Unfit else None)) (startok_taken plan s (with_startok x ok))).answer)
      fresh true n = same []
      fresh false n = fit (is_fit_startok plan x ok shard) refl n

  -- ---- a commitok

  commitok_goes_on : (ok : TakenCommit) (id : TxnId) (x : Option Transaction) → find_transaction id s.pending ≡ x → Goes (after_commitok plan s id x ok).state (after_commitok plan s id x ok).sends (answer_entries (after_commitok plan s id x ok).answer)
  commitok_goes_on ok id None e = same []
  commitok_goes_on ok id (Some x) e = fresh (has_commitok ok.shard x.commitoks)
    where
      found : Has x s.pending
      found = (found_has (λ (x : Transaction). is_txn x.id id) s.pending x e).0

      gone : (y : Transaction) → Has y (without_transaction s x.id).pending → Has y s.pending × (y.id ≢ x.id)
      gone y h = let f = from_has_filter (λ (z : Transaction). not (is_txn z.id x.id)) y s.pending h in (f.0, λ k. apart (is_txn y.id x.id) (is_txn-eq y.id x.id k) f.1)
        where
          apart : (b : Bool) → b ≡ true → not b ≡ true → ⊥
          apart true k n = false≢true n
          apart false k n = false≢true k

      left : (z : Transaction) → Has z s.pending → (b : Bool) → is_txn z.id x.id ≡ b
          → ((y : Transaction) × Has y (without_transaction s x.id).pending × (y.id ≡ z.id)) ⊎ ((reply : List ℤ) × Has (entry.Answered z.id reply) (entry.Answered x.id (reply_of plan (with_commitok x ok)) ∷ []))
      left z h true k = inr (reply_of plan (with_commitok x ok), inl (ap (λ t. entry.Answered t (reply_of plan (with_commitok x ok))) (is_txn-true z.id x.id k)))
      left z h false k = inl (z, has_filter (λ (z : Transaction). not (is_txn z.id x.id)) z s.pending h (ap not k), refl)

      answered : all_started plan x ≡ true → (b : Bool) → all_committed (with_commitok x ok) ≡ b
          → Goes (commitok_taken plan s (with_commitok x ok) (if b then Some (reply_of plan (with_commitok x ok)) else None)).state (commitok_taken plan s (with_commitok x ok) (if b then Some (reply_of plan (with_commitok x ok)) else None)).sends (answer_entries (commitok_taken plan s (with_commitok x ok) (if b then Some (reply_of plan (with_commitok x ok)) else None)).answer)
      answered all false f = changes x (with_commitok x ok) found (commitok_more x ok) [] (commitok_outstanding plan sent from x (old x found) [] ok all f)
      answered all true f =
          record {
            before = λ y h. inl (y, (gone y h).0, as_it_was y);
            stays = λ z h. left z h (is_txn z.id x.id) refl;
            holds = λ y h. outstanding_stays plan sent (map (sent_by from) (answered_sends plan s (without_transaction s x.id))) y (old y (gone y h).0);
            answers = λ t reply h. (let k : entry.Answered t reply ≡ entry.Answered x.id (reply_of plan (with_commitok x ok)) = has_one (entry.Answered t reply) (entry.Answered x.id (reply_of plan (with_commitok x ok))) h in
                let same_id : t ≡ x.id = cc in
                (x, found, sym same_id, all, λ y j e. (gone y j).1 (e ∙ same_id), λ out j. subst (λ (out : Outgoing). IsMark out.msg) (sym (mark_told plan s (without_transaction s x.id) out j).is) tt));
          }

      fit : (b : Bool) → is_fit_commitok plan x ok ≡ b
          → Goes (unless_refused s (if not b then Some Unfit else None) (commitok_taken plan s (with_commitok x ok) (reply_now plan (with_commitok x ok)))).state (unless_refused s (if not b then Some Unfit else None) (commitok_taken plan s (with_commitok x ok) (reply_now plan (with_commitok x ok)))).sends (answer_entries (unless_refused s (if not b then Some Unfit else None) (commitok_taken plan s (with_commitok x ok) (reply_now plan (with_commitok x ok)))).answer)
      fit false f = same []
      fit true f =
          let a = any_has (λ (a : Shard). a.0 == ok.shard.0) x.asked (and_parts (is_asked x ok.shard) (length ok.outs == length (places_on plan x ok.shard)) f).0 in
          answered (whole x found a.0 a.1) (all_committed (with_commitok x ok)) refl

      fresh : (b : Bool) → Goes (unless_refused s (if b then Some Stale else (if not (is_fit_commitok plan x ok) then Some Unfit else None)) (commitok_taken plan s (with_commitok x ok) (reply_now plan (with_commitok x ok)))).state (unless_refused s (if b then Some Stale else (if not (is_fit_commitok plan x ok) then Some Unfit else None)) (commitok_taken plan s (with_commitok x ok) (reply_now plan (with_commitok x ok)))).sends (answer_entries (unless_refused s (if b then Some Stale else (if not (is_fit_commitok plan x ok) then Some Unfit else None)) (commitok_taken plan s (with_commitok x ok) (reply_now plan (with_commitok x ok)))).answer)
      fresh true = same []
      fresh false = fit (is_fit_commitok plan x ok) refl

  -- ---- any message, and a submission

  pub message_goes_on : (msg : Msg) → IsOfGroup plan s.pending msg → Goes (after_message plan s msg).state (after_message plan s msg).sends (answer_entries (after_message plan s msg).answer)
  message_goes_on (StartOk id group shard bound outs edges facts) f = startok_goes_on (record { group = group; bound = bound; outs = outs; edges = edges; facts = facts }) shard id f.0 f.1 (find_transaction id s.pending) refl
  message_goes_on (CommitOk id shard outs) f = commitok_goes_on (record { shard = shard; outs = outs }) id (find_transaction id s.pending) refl
  message_goes_on (ReadOk id round group shard versions outs) f = absurd f
  message_goes_on msg f = same []

  -- a submission that is accepted
  pub submission_goes_on : (proc : ℕ) (args : List ℤ) (g : ℕ) → Has g (group_numbers plan proc) → (tells : List Entry) → ((t : TxnId) (reply : List ℤ) → ¬ Has (entry.Answered t reply) tells)
      → Goes (accepted plan s (new_transaction s proc args)).state (accepted plan s (new_transaction s proc args)).sends tells
  submission_goes_on proc args g number tells none =
      let x = new_transaction s proc args in
      let y = with_starts plan x in
      record {
        before = λ z h. elim (has_append z s.pending (y ∷ []) h) [ inl k ↦ inl (z, k, as_it_was z) | inr k ↦ inr (ap (λ (z : Transaction). z.id) (has_one z y k)) ];
        stays = λ z h. inl (z, has_left z s.pending (y ∷ []) h, refl);
        holds = λ z h. elim (has_append z s.pending (y ∷ []) h) [
          | inl k ↦ outstanding_stays plan sent (map (sent_by from) (starts_of plan x)) z (old z k)
          | inr k ↦ subst (IsOutstanding plan (sent ++ map (sent_by from) (starts_of plan x))) (sym (has_one z y k)) (new_outstanding plan sent from (next_id s) proc args g number)
        ];
        answers = λ t reply h. absurd (none t reply h);
      }
