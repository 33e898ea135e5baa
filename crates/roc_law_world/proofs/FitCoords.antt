-- A coordinator's step keeps what is named there, and that its transactions and views are the plan's
use Rattle.std.proofs.Common.{◌≡◌, ℕ, ℤ, ◌<◌, Bool, true, false, not, List, [], ◌∷◌, Option, Some, None, length, map, refl, sym, ap, subst, inl, inr, arith, nat_lt}
use Rattle.std.proofs.lemmas.Bool.{and_from}
use Rattle.std.proofs.lemmas.Bool.Decides.{nat_tests}
use Rattle.std.specs.Prelude.{if◌then◌else◌}
use Rattle.std.specs.List.{flat_map}
use Rattle.roc_sequence.specs.Lists.{Has}
use Rattle.roc_sequence.proofs.Found.{found_has}
use Rattle.roc_sequence.proofs.Holds.{all_has, has_all, all_append}
use Rattle.roc_sequence.proofs.Members.{has_append, has_one, has_left, has_flat_map, from_has_map, from_has_filter}
use Rattle.roc_base.specs.declared.id.TxnId.{TxnId}
use Rattle.roc_base.specs.declared.node.Shard.{Shard}
use Rattle.roc_base.specs.TxnId.{is_txn}
use Rattle.roc_msg.specs.declared.msg.Msg.{Msg}
use Rattle.roc_msg.specs.declared.msg.Msg.TheVariants.{Read, ReadOk}
use Rattle.roc_msg.specs.declared.outbox.Outgoing.{Outgoing}
use Rattle.roc_msg.specs.declared.reason.Reason.{Reason}
use Rattle.roc_msg.specs.declared.reason.Reason.TheVariants.{Foreign}
use Rattle.roc_plan.specs.Groups.{Plan, procedure_of, shard_of, group_place, is_view_of, is_transaction}
use Rattle.roc_readonly.specs.declared.view.Round.{Round}
use Rattle.roc_readonly.specs.declared.view.Round.TheVariants.{Waits, Ends, GoesOn}
use Rattle.roc_readonly.specs.declared.view.TakenRead.{TakenRead}
use Rattle.roc_readonly.specs.declared.view.View.{View}
use Rattle.roc_readonly.specs.Fits.{IsViewOf}
use Rattle.roc_readonly.specs.Round.{view_groups, read_for, first_round, next_round, with_readok, readok_refusal, round_of}
use Rattle.roc_coord.specs.declared.transaction.Transaction.{Transaction}
use Rattle.roc_coord.specs.Marks.{ended_sends, passes_mark}
use Rattle.roc_coord.specs.State.{find_transaction, find_view, with_view, ignored, CoordState}
use Rattle.roc_coord.specs.Step.{unless_refused, without_view, readok_taken, unread, after_readok, after_message}
use Rattle.roc_coord.specs.Submit.{next_id, new_transaction, accepted, accepted_view}
use Rattle.roc_coord.specs.Tick.{sent_again, transaction_again, view_again, again_of, tick_sends}
use Rattle.roc_law_protocol.specs.Aside.{transaction_tick_sends}
use Rattle.roc_law_protocol.proofs.CoordsHere as theirs
use Rattle.roc_law_protocol.proofs.CoordsHere.{IsHeld, KeepsCoord}
use Rattle.roc_law_protocol.proofs.Named.{shard_below, all_flat}
use Rattle.roc_law_protocol.proofs.PlainSteps.{views_left}
use Rattle.roc_law_world.specs.Fits.{NamesNodes}
use Rattle.roc_law_world.proofs.OutsHere.{IsOutHere, AreOutsHere, outs_more}

-- where one of the views is changed, the others stay
with_view_cases : (P : View → Type 0) (v : View) (ws : List View) → P v → ((w : View) → Has w ws → P w) → (w : View) → Has w (map (λ u. if is_txn u.id v.id then v else u) ws) → P w
with_view_cases P v ws one all w h =
    let q = from_has_map (λ (u : View). if is_txn u.id v.id then v else u) w ws h in
    subst P (sym q.2) (go q.0 (is_txn q.0.id v.id) (all q.0 q.1))
  where
    go : (u : View) (b : Bool) → P u → P (if b then v else u)
    go u true k = one
    go u false k = k

module _ (plan : Plan) (servers coords : ℕ) (some : 0 < plan.program.shards) (shards : servers ≡ plan.program.shards) where
  -- of the plan, and of a coordinator that is there
  pub record IsViewHeld (v : View) : Type 0 where
    pub of : IsViewOf plan v
    pub coord : v.id.coord < coords

  reads_here : (v : View) → v.id.coord < coords → (gs : List ℕ) → AreOutsHere servers coords (map (read_for plan v) gs)
  reads_here v l [] = tt
  reads_here v l (g ∷ gs) = ((subst (λ n. shard_of plan (group_place plan v.proc g v.args []) < n) (sym shards) (shard_below plan some (group_place plan v.proc g v.args [])), l), reads_here v l gs)

  module _ (s : CoordState) (numbered : s.number < coords) (held : (x : Transaction) → Has x s.pending → IsHeld plan servers coords some shards x)
      (own : (v : View) → Has v s.views → IsViewHeld v) where
    pub record Keeps (after : CoordState) (outs : List Outgoing) : Type 0 where
      pub number : after.number < coords
      pub pending : (x : Transaction) → Has x after.pending → IsHeld plan servers coords some shards x
      pub views : (v : View) → Has v after.views → IsViewHeld v
      pub sends : AreOutsHere servers coords outs

    nothing : (why : Reason) → Keeps (ignored s why).state (ignored s why).sends
    nothing why = record { number = numbered; pending = held; views = own; sends = tt }

    -- a step of transactions
    as_theirs : (after : CoordState) (outs : List Outgoing) → after.views ≡ s.views → KeepsCoord plan servers coords some shards s numbered held after outs → Keeps after outs
    as_theirs after outs same k = record { number = k.number; pending = k.pending; views = λ v h. own v (subst (Has v) same h); sends = outs_more servers coords outs k.sends }

    -- ---- a readok

    changed : (v : View) → IsViewHeld v → (outs : List Outgoing) → AreOutsHere servers coords outs → Keeps (with_view s v) outs
    changed v k outs sends = record { number = numbered; pending = held; views = with_view_cases IsViewHeld v s.views k own; sends = sends }

    readok_keeps : (id : TxnId) (x : Option View) → find_view id s.views ≡ x → (round : ℕ) (ok : TakenRead) (shard : Shard)
        → Keeps (after_readok plan s id x round ok shard).state (after_readok plan s id x round ok shard).sends
    readok_keeps id None e round ok shard = nothing (unread (find_transaction id s.pending))
    readok_keeps id (Some v) e round ok shard = refused (readok_refusal plan v round ok shard) (round_of plan (with_readok v ok))
      where
        was : IsViewHeld v
        was = own v (found_has (λ (v : View). is_txn v.id id) s.views v e).0

        now : IsViewHeld (with_readok v ok)
        now = record { of = record { is_view = was.of.is_view; args = was.of.args }; coord = was.coord }

        next : IsViewHeld (next_round (with_readok v ok))
        next = record { of = record { is_view = was.of.is_view; args = was.of.args }; coord = was.coord }

        refused : (why : Option Reason) (came : Round)
            → Keeps (unless_refused s why (readok_taken plan s (with_readok v ok) came)).state (unless_refused s why (readok_taken plan s (with_readok v ok) came)).sends
        refused (Some why) came = nothing why
        refused None Waits = changed (with_readok v ok) now [] tt
        refused None GoesOn =
            changed (next_round (with_readok v ok)) next (map (read_for plan (next_round (with_readok v ok))) (view_groups plan (next_round (with_readok v ok))))
            (reads_here (next_round (with_readok v ok)) was.coord (view_groups plan (next_round (with_readok v ok))))
        refused None (Ends reply) =
            let after : CoordState = without_view s v.id in
            record {
              number = numbered;
              pending = held;
              views = λ w h. own w (from_has_filter (λ (w : View). not (is_txn w.id v.id)) w s.views h).0;
              sends = outs_more servers coords (if passes_mark s after then ended_sends plan after else [])
                  (theirs.answered_told plan servers coords some shards s numbered held after refl (passes_mark s after));
            }

    -- ---- any message

    pub message_keeps : (msg : Msg) → NamesNodes servers coords msg → Keeps (after_message plan s msg).state (after_message plan s msg).sends
    message_keeps (Read id round proc group args) k = nothing Foreign
    message_keeps (ReadOk id round group shard versions outs) k = readok_keeps id (find_view id s.views) refl round (record { group = group; versions = versions; outs = outs }) shard
    message_keeps msg k =
        as_theirs (after_message plan s msg).state (after_message plan s msg).sends (views_left plan s msg tt)
        (theirs.message_keeps plan servers coords some shards s numbered held msg k)

    -- ---- a submission

    pub view_keeps : (proc : ℕ) (args : List ℤ) → is_view_of plan proc ≡ true → length args ≡ (procedure_of plan proc).arguments
        → Keeps (accepted_view plan s (first_round (next_id s) proc args)).state (accepted_view plan s (first_round (next_id s) proc args)).sends
    view_keeps proc args viewed counted =
        let v : View = first_round (next_id s) proc args in
        let k : IsViewHeld v = record { of = record { is_view = viewed; args = counted }; coord = numbered } in
        record {
          number = numbered;
          pending = held;
          views = λ w h. elim (has_append w s.views (v ∷ []) h) [ inl j ↦ own w j | inr j ↦ subst IsViewHeld (sym (has_one w v j)) k ];
          sends = reads_here v numbered (view_groups plan v);
        }

    pub submission_keeps : (proc : ℕ) (args : List ℤ) → proc < length plan.program.procedures → is_view_of plan proc ≡ false → length args ≡ (procedure_of plan proc).arguments
        → Keeps (accepted plan s (new_transaction s proc args)).state (accepted plan s (new_transaction s proc args)).sends
    submission_keeps proc args there writes counted =
        let r = accepted plan s (new_transaction s proc args) in
        let known : is_transaction plan proc ≡ true = and_from (nat_lt proc (length plan.program.procedures)) (not (is_view_of plan proc)) (grind (arith, nat_tests)) (ap not writes) in
        as_theirs r.state r.sends refl (theirs.submission_keeps plan servers coords some shards s numbered held proc args known counted)

    -- ---- a tick

    -- what is sent again of a transaction is among what a tick sends of transactions alone
    transaction_here : (id : TxnId) (x : Option Transaction) → find_transaction id s.pending ≡ x → AreOutsHere servers coords (transaction_again plan x)
    transaction_here id None e = tt
    transaction_here id (Some x) e =
        let all = outs_more servers coords (transaction_tick_sends plan s) (theirs.tick_keeps plan servers coords some shards s numbered held).sends in
        let has = (found_has (λ (x : Transaction). is_txn x.id id) s.pending x e).0 in
        has_all (IsOutHere servers coords) (sent_again plan x)
        (λ out h. all_has (IsOutHere servers coords) out (transaction_tick_sends plan s) all
        (has_left out (flat_map (sent_again plan) s.pending) (ended_sends plan s) (has_flat_map (sent_again plan) out x s.pending has h)))

    view_here : (id : TxnId) (x : Option View) → find_view id s.views ≡ x → AreOutsHere servers coords (view_again plan x)
    view_here id None e = tt
    view_here id (Some v) e = reads_here v (own v (found_has (λ (v : View). is_txn v.id id) s.views v e).0).coord _

    pub tick_here : AreOutsHere servers coords (tick_sends plan s)
    tick_here =
        all_append (IsOutHere servers coords) (flat_map (again_of plan s) s.unanswered) (ended_sends plan s)
        (all_flat (IsOutHere servers coords) (again_of plan s) s.unanswered (has_all (λ id. AreOutsHere servers coords (again_of plan s id)) s.unanswered
        (λ id h. all_append (IsOutHere servers coords) (transaction_again plan (find_transaction id s.pending)) (view_again plan (find_view id s.views))
        (transaction_here id (find_transaction id s.pending) refl) (view_here id (find_view id s.views) refl))))
        (outs_more servers coords (ended_sends plan s) (theirs.told_here plan servers coords some shards s numbered held s refl))
