-- A coordinator takes what comes, and what it took stays taken
use Rattle.std.proofs.Common.{◌≡◌, ℕ, ℤ, ◌==◌, Bool, true, false, not, cond, List, [], ◌∷◌, ◌++◌, Option, Some, None, refl, sym, subst, ◌∙◌, inl, inr, is_some}
use Rattle.std.proofs.lemmas.Bool.{false≢true, eq-eqb}
use Rattle.std.specs.Prelude.{if◌then◌else◌}
use Rattle.roc_sequence.specs.Lists.{Has}
use Rattle.roc_sequence.proofs.Holds.{any_has, has_any}
use Rattle.roc_sequence.proofs.Found.{found_has, none_found}
use Rattle.roc_sequence.proofs.Members.{has_left, has_right, from_has_filter}
use Rattle.roc_base.specs.declared.id.TxnId.{TxnId}
use Rattle.roc_base.specs.declared.node.Shard.{Shard}
use Rattle.roc_base.specs.TxnId.{is_txn}
use Rattle.roc_base.specs.Equalities.{is_txn-true}
use Rattle.roc_base.proofs.Ids.{is_txn-eq}
use Rattle.roc_msg.specs.declared.msg.Msg.{Msg}
use Rattle.roc_msg.specs.declared.msg.Msg.TheVariants.{StartOk, CommitOk}
use Rattle.roc_msg.specs.declared.reason.Reason.{Reason}
use Rattle.roc_msg.specs.declared.reason.Reason.TheVariants.{Stale, Unfit}
use Rattle.roc_plan.specs.Groups.{Plan}
use Rattle.roc_coord.specs.declared.handled.Handled.TheVariants.{Ignored}
use Rattle.roc_coord.specs.declared.transaction.Transaction.{Transaction}
use Rattle.roc_coord.specs.declared.transaction.TakenStart.{TakenStart}
use Rattle.roc_coord.specs.declared.transaction.TakenCommit.{TakenCommit}
use Rattle.roc_coord.specs.State.{find_transaction, with_transaction, find_startok, has_commitok, CoordState}
use Rattle.roc_coord.specs.Starts.{with_starts, all_started, shards_of}
use Rattle.roc_coord.specs.Step.{unless_refused, is_fit_startok, with_commits, with_startok, startok_taken, after_startok, is_fit_commitok, with_commitok, reply_now, without_transaction, commitok_taken, after_commitok, after_message}
use Rattle.roc_law_protocol.proofs.Held.{more_found, with_cases, commits_id}
use Rattle.roc_law_protocol.proofs.Outstanding.{is_found}

-- ---- what was taken stays taken

-- y is x later
pub record TakesMore (x y : Transaction) : Type 0 where
  pub id : y.id ≡ x.id
  pub startoks : (g : ℕ) → is_some (find_startok g x.startoks) ≡ true → is_some (find_startok g y.startoks) ≡ true
  pub commitoks : (s : Shard) → has_commitok s x.commitoks ≡ true → has_commitok s y.commitoks ≡ true

-- as where nothing comes
pub as_it_was : (x : Transaction) → TakesMore x x
as_it_was x = record { id = refl; startoks = λ g h. h; commitoks = λ s h. h }

-- as it takes a startok
pub startok_more : (plan : Plan) (x : Transaction) (ok : TakenStart) → TakesMore x (with_commits plan (with_starts plan (with_startok x ok)))
startok_more plan x ok =
    record {
      id = commits_id plan (with_starts plan (with_startok x ok));
      startoks = λ g h. kept g (all_started plan (with_starts plan (with_startok x ok))) (more_found (λ (o : TakenStart). o.group == g) x.startoks (ok ∷ []) h);
      commitoks = λ a h. said a (all_started plan (with_starts plan (with_startok x ok))) h;
    }
  where
    kept : (g : ℕ) (b : Bool) → is_some (find_startok g (x.startoks ++ ok ∷ [])) ≡ true → is_some (find_startok g (cond b (record (with_starts plan (with_startok x ok)) { asked = shards_of (with_starts plan (with_startok x ok)) }) (with_starts plan (with_startok x ok))).startoks) ≡ true
    kept g true h = h
    kept g false h = h

    said : (a : Shard) (b : Bool) → has_commitok a x.commitoks ≡ true → has_commitok a (cond b (record (with_starts plan (with_startok x ok)) { asked = shards_of (with_starts plan (with_startok x ok)) }) (with_starts plan (with_startok x ok))).commitoks ≡ true
    said a true h = h
    said a false h = h

-- as it takes a commitok
pub commitok_more : (x : Transaction) (ok : TakenCommit) → TakesMore x (with_commitok x ok)
commitok_more x ok =
    record {
      id = refl;
      startoks = λ g h. h;
      commitoks = λ s h. (let a = any_has (λ (c : TakenCommit). c.shard.0 == s.0) x.commitoks h in has_any (λ (c : TakenCommit). c.shard.0 == s.0) (x.commitoks ++ ok ∷ []) a.0 (has_left a.0 x.commitoks (ok ∷ []) a.1) a.2);
    }

-- ---- what comes is taken

-- the transactions have what a message tells of them
abbrev pub IsTakenBy : List Transaction → Msg → Type 0
IsTakenBy pending (StartOk id group shard bound outs edges facts) = (x : Transaction) → Has x pending → x.id ≡ id → is_some (find_startok group x.startoks) ≡ true
IsTakenBy pending (CommitOk id shard outs) = (x : Transaction) → Has x pending → x.id ≡ id → has_commitok shard x.commitoks ≡ true
IsTakenBy pending msg = Unit {0}

abbrev HasStartok : ℕ → Transaction → Type 0
HasStartok g x = is_some (find_startok g x.startoks) ≡ true

abbrev HasCommitok : Shard → Transaction → Type 0
HasCommitok s x = has_commitok s x.commitoks ≡ true

module _ (plan : Plan) (s : CoordState) (once : (y z : Transaction) → Has y s.pending → Has z s.pending → y.id ≡ z.id → y ≡ z) where
  -- a message is ignored only as stale
  abbrev OnlyStale : Msg → Type 0
  OnlyStale msg = (why : Reason) → (after_message plan s msg).answer ≡ Ignored why → why ≡ Stale

  module _ (id : TxnId) (P : Transaction → Type 0) where
    abbrev AllTook : List Transaction → Type 0
    AllTook pending = (x : Transaction) → Has x pending → x.id ≡ id → P x

    nobody : find_transaction id s.pending ≡ None → AllTook s.pending
    nobody e x h k = absurd (false≢true (sym (none_found (λ (x : Transaction). is_txn x.id id) s.pending e x h) ∙ is_txn-eq x.id id k))

    module _ (x : Transaction) (e : find_transaction id s.pending ≡ Some x) where
      found : Has x s.pending × (is_txn x.id id ≡ true)
      found = found_has (λ (x : Transaction). is_txn x.id id) s.pending x e

      same_id : x.id ≡ id
      same_id = is_txn-true x.id id found.1

      -- it had taken it
      before : P x → AllTook s.pending
      before p z h k = subst P (once x z found.0 h (same_id ∙ sym k)) p

      -- it takes it now
      now : (y : Transaction) → y.id ≡ x.id → P y → AllTook (with_transaction s y).pending
      now y same p z h k = elim (with_cases plan s once y z h) [ inl e ↦ subst P (sym e) p | inr j ↦ absurd (j.1 (k ∙ (sym same_id ∙ sym same))) ]

      -- it is answered
      over : AllTook (without_transaction s x.id).pending
      over z h k = absurd (apart (is_txn z.id x.id) (is_txn-eq z.id x.id (k ∙ sym same_id)) (from_has_filter (λ (z : Transaction). not (is_txn z.id x.id)) z s.pending h).1)
        where
          apart : (b : Bool) → b ≡ true → not b ≡ true → ⊥
          apart true k n = false≢true n
          apart false k n = false≢true k

  -- ---- a startok

  startok_here : (id : TxnId) (ok : TakenStart) (shard : Shard) (x : Option Transaction) → find_transaction id s.pending ≡ x
      → ((why : Reason) → (after_startok plan s id x ok shard).answer ≡ Ignored why → why ≡ Stale)
      → AllTook id (HasStartok ok.group) (after_startok plan s id x ok shard).state.pending
  startok_here id ok shard None e only = nobody id (HasStartok ok.group) e
  startok_here id ok shard (Some x) e only = judged (is_some (find_startok ok.group x.startoks)) (is_fit_startok plan x ok shard) refl only
    where
      taken : (b : Bool) → HasStartok ok.group (cond b (record (with_starts plan (with_startok x ok)) { asked = shards_of (with_starts plan (with_startok x ok)) }) (with_starts plan (with_startok x ok)))
      taken true = is_found (λ (o : TakenStart). o.group == ok.group) (x.startoks ++ ok ∷ []) ok (has_right ok x.startoks (ok ∷ []) (inl refl)) (eq-eqb ok.group ok.group refl)
      taken false = is_found (λ (o : TakenStart). o.group == ok.group) (x.startoks ++ ok ∷ []) ok (has_right ok x.startoks (ok ∷ []) (inl refl)) (eq-eqb ok.group ok.group refl)

      judged : (a b : Bool) → is_some (find_startok ok.group x.startoks) ≡ a
          → ((why : Reason) → (unless_refused s (if a then Some Stale else (if not b then Some Unfit else None)) (startok_taken plan s (with_startok x ok))).answer ≡ Ignored why → why ≡ Stale)
          → AllTook id (HasStartok ok.group) (unless_refused s (if a then Some Stale else (if not b then Some Unfit else None)) (startok_taken plan s (with_startok x ok))).state.pending
      judged true b f only = before id (HasStartok ok.group) x e f
      judged false true f only = now id (HasStartok ok.group) x e (with_commits plan (with_starts plan (with_startok x ok))) (commits_id plan (with_starts plan (with_startok x ok))) (taken (all_started plan (with_starts plan (with_startok x ok))))
      judged false false f only = absurd (let k = only Unfit refl in cc)

  -- ---- a commitok

  commitok_here : (id : TxnId) (ok : TakenCommit) (x : Option Transaction) → find_transaction id s.pending ≡ x
      → ((why : Reason) → (after_commitok plan s id x ok).answer ≡ Ignored why → why ≡ Stale)
      → AllTook id (HasCommitok ok.shard) (after_commitok plan s id x ok).state.pending
  commitok_here id ok None e only = nobody id (HasCommitok ok.shard) e
  commitok_here id ok (Some x) e only = judged (has_commitok ok.shard x.commitoks) (is_fit_commitok plan x ok) (reply_now plan (with_commitok x ok)) refl only
    where
      taken : HasCommitok ok.shard (with_commitok x ok)
      taken = has_any (λ (c : TakenCommit). c.shard.0 == ok.shard.0) (x.commitoks ++ ok ∷ []) ok (has_right ok x.commitoks (ok ∷ []) (inl refl)) (eq-eqb ok.shard.0 ok.shard.0 refl)

      judged : (a b : Bool) (reply : Option (List ℤ)) → has_commitok ok.shard x.commitoks ≡ a
          → ((why : Reason) → (unless_refused s (if a then Some Stale else (if not b then Some Unfit else None)) (commitok_taken plan s (with_commitok x ok) reply)).answer ≡ Ignored why → why ≡ Stale)
          → AllTook id (HasCommitok ok.shard) (unless_refused s (if a then Some Stale else (if not b then Some Unfit else None)) (commitok_taken plan s (with_commitok x ok) reply)).state.pending
      judged true b reply f only = before id (HasCommitok ok.shard) x e f
      judged false true None f only = now id (HasCommitok ok.shard) x e (with_commitok x ok) refl taken
      judged false true (Some reply) f only = over id (HasCommitok ok.shard) x e
      judged false false reply f only = absurd (let k = only Unfit refl in cc)

  -- ---- any message

  pub message_taken : (msg : Msg) → OnlyStale msg → IsTakenBy (after_message plan s msg).state.pending msg
  message_taken (StartOk id group shard bound outs edges facts) only = startok_here id (record { group = group; bound = bound; outs = outs; edges = edges; facts = facts }) shard (find_transaction id s.pending) refl only
  message_taken (CommitOk id shard outs) only = commitok_here id (record { shard = shard; outs = outs }) (find_transaction id s.pending) refl only
  message_taken msg only = tt
