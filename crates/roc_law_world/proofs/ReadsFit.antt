-- Reads and readoks are of the views that were submitted, with the plan's counts
use Rattle.std.proofs.Common.{◌≡◌, ◌∙◌, inl, inr, ℕ, ℤ, ◌<◌, Bool, true, false, not, List, [], Option, Some, None, map, length, refl, sym, ap, subst, is_none}
use Rattle.std.proofs.lemmas.Bool.{false≢true}
use Rattle.std.proofs.lemmas.List.{length-map}
use Rattle.std.specs.Prelude.{slice_get, if◌then◌else◌}
use Rattle.std.specs.List.{filter, flat_map}
use Rattle.roc_sequence.specs.Lists.{Has}
use Rattle.roc_sequence.proofs.Found.{found_has}
use Rattle.roc_sequence.proofs.Members.{has_append, from_has_map, from_has_filter, from_has_flat_map}
use Rattle.roc_base.specs.declared.id.TxnId.{TxnId}
use Rattle.roc_base.specs.declared.node.Node.{Node}
use Rattle.roc_base.specs.declared.node.Node.TheVariants.{Server, Coord}
use Rattle.roc_base.specs.declared.node.Shard.{Shard}
use Rattle.roc_base.specs.TxnId.{is_txn}
use Rattle.roc_msg.specs.declared.msg.Msg.{Msg}
use Rattle.roc_msg.specs.declared.msg.Msg.TheVariants.{Read, ReadOk}
use Rattle.roc_msg.specs.declared.msg.Envelope.{Envelope}
use Rattle.roc_msg.specs.declared.outbox.Outgoing.{Outgoing}
use Rattle.roc_msg.specs.declared.reason.Reason.{Reason}
use Rattle.roc_rows.specs.Versions.{Counts, version}
use Rattle.roc_plan.specs.Groups.{Plan, procedure_of, groups_of, is_view_of, bound_of, outs_of, shard_of, group_place}
use Rattle.roc_plan.specs.Accepted.{IsAccepted}
use Rattle.roc_whole.specs.Serial as whole
use Rattle.roc_group.specs.declared.access.Access.{Access}
use Rattle.roc_step.specs.declared.kept_read.KeptRead.{KeptRead}
use Rattle.roc_step.specs.State.{ServerStep, Viewing}
use Rattle.roc_step.specs.Reads.{is_taken, read_call, read_uses, with_accesses, reads_with, is_free, in_turn, readok_of, answering, AnswersReads, ReadStep}
use Rattle.roc_step.specs.Runs.{accesses_of}
use Rattle.roc_readonly.specs.declared.view.Round.{Round}
use Rattle.roc_readonly.specs.declared.view.Round.TheVariants.{Waits, Ends, GoesOn}
use Rattle.roc_readonly.specs.declared.view.TakenRead.{TakenRead}
use Rattle.roc_readonly.specs.declared.view.View.{View}
use Rattle.roc_readonly.specs.Round.{view_groups, find_read, read_for, reads_of, reads_again, with_readok, next_round, round_of, readok_refusal}
use Rattle.roc_coord.specs.declared.transaction.Transaction.{Transaction}
use Rattle.roc_coord.specs.Marks.{ended_sends}
use Rattle.roc_coord.specs.State.{ignored, find_transaction, find_view, CoordState, CoordStep}
use Rattle.roc_coord.specs.Step.{unless_refused, without_view, readok_taken, after_readok, after_message}
use Rattle.roc_coord.specs.Tick.{transaction_again, view_again, again_of, tick_sends}
use Rattle.roc_law_protocol.specs.World.{sent_by}
use Rattle.roc_law_world.specs.World.{World}
use Rattle.roc_law_world.specs.Beside.{is_of_view}
use Rattle.roc_law_world.proofs.Coordinators.{IsCoordSound}
use Rattle.roc_law_world.proofs.CoordSteps.{for_transactions, are_marks}
use Rattle.roc_law_world.proofs.ReadCounts.{uses_counted}
use Rattle.roc_law_world.proofs.RoundReads.{group_there}
use Rattle.roc_law_world.proofs.Sent.{AreOfTransactions}
use Rattle.roc_law_world.proofs.TickSends.{again_transactions, are_endeds}
use Rattle.roc_law_world.proofs.ViewMeans.{proc_of, args_of, is_view_id}
use Rattle.roc_law_world.proofs.ViewServed.{turn_has, with_cases}
use Rattle.roc_law_plans.proofs.OfPlan.{group_long}

module _ (plan : Plan) (calls : TxnId → whole.Call) where
  -- a group of a view is read for on its shard
  pub record IsReadAt (id : TxnId) (proc group : ℕ) (args : List ℤ) (n : ℕ) : Type 0 where
    pub view : is_view_of plan proc ≡ true
    pub group_is : group < length (groups_of plan proc)
    pub counted : length args ≡ (procedure_of plan proc).arguments
    pub here : shard_of plan (group_place plan proc group args []) ≡ n
    pub procedure : proc ≡ proc_of plan calls id
    pub arguments : args ≡ args_of plan calls id

  -- and what was read is told with the plan's counts
  pub record IsOkOf (id : TxnId) (group : ℕ) (shard : Shard) (versions : List ℕ) (outs : List ℤ) : Type 0 where
    pub view : is_view_id plan calls id ≡ true
    pub group_is : group < length (groups_of plan (proc_of plan calls id))
    pub here : shard_of plan (group_place plan (proc_of plan calls id) group (args_of plan calls id) []) ≡ shard.0
    pub versions_counted : length versions ≡ length (bound_of plan (proc_of plan calls id) group)
    pub outs_counted : length outs ≡ length (outs_of plan (proc_of plan calls id) group)

  abbrev pub MessageFits : Msg → Node → Type 0
  MessageFits (Read id round proc group args) to = (n : ℕ) × (to ≡ Server (record { 0 = n })) × IsReadAt id proc group args n
  MessageFits (ReadOk id round group shard versions outs) to = (to ≡ Coord id.coord) × IsOkOf id group shard versions outs
  MessageFits msg to = Unit {0}

  -- a view that a coordinator keeps
  pub record ViewFits (v : View) : Type 0 where
    pub view : is_view_of plan v.proc ≡ true
    pub counted : length v.args ≡ (procedure_of plan v.proc).arguments
    pub procedure : v.proc ≡ proc_of plan calls v.id
    pub arguments : v.args ≡ args_of plan calls v.id

  pub record ReadsFit (w : World) : Type 0 where
    pub messages : (m : Envelope) → Has m w.sent → MessageFits m.msg m.to
    pub kept : (n : ℕ) (z : Viewing) → slice_get w.viewing n ≡ Some z → (q : KeptRead) → Has q z.reads → IsReadAt q.id q.proc q.group q.args n
    pub views : (n : ℕ) (c : CoordState) → slice_get w.coords n ≡ Some c → (v : View) → Has v c.views → ViewFits v

  -- ---- what is sent

  abbrev pub AllFit : List Outgoing → Type 0
  AllFit outs = (out : Outgoing) → Has out outs → MessageFits out.msg out.to

  pub message_of_transactions : (msg : Msg) (to : Node) → is_of_view msg ≡ false → MessageFits msg to
  message_of_transactions (Read id round proc group args) to e = absurd (false≢true (sym e))
  message_of_transactions (ReadOk id round group shard versions outs) to e = absurd (false≢true (sym e))
  message_of_transactions msg to e = tt

  pub all_of_transactions : (outs : List Outgoing) → AreOfTransactions outs → AllFit outs
  all_of_transactions outs ours out h = message_of_transactions out.msg out.to (ours out h)

  pub sent_fit : (from : Node) (outs : List Outgoing) → AllFit outs → (m : Envelope) → Has m (map (sent_by from) outs) → MessageFits m.msg m.to
  sent_fit from outs fit m h =
      let p = from_has_map (sent_by from) m outs h in
      subst (λ (m : Envelope). MessageFits m.msg m.to) (sym p.2) (fit p.0 p.1)

  -- reads of some groups of a view
  reads_fit : (v : View) → ViewFits v → (gs : List ℕ) → ((g : ℕ) → Has g gs → g < length (groups_of plan v.proc)) → AllFit (map (read_for plan v) gs)
  reads_fit v fits gs all out h =
      let q = from_has_map (read_for plan v) out gs h in
      subst (λ (out : Outgoing). MessageFits out.msg out.to) (sym q.2) (
        shard_of plan (group_place plan v.proc q.0 v.args []),
        refl,
        record { view = fits.view; group_is = all q.0 q.1; counted = fits.counted; here = refl; procedure = fits.procedure; arguments = fits.arguments },
      )

  pub round_fits : (v : View) → ViewFits v → AllFit (reads_of plan v)
  round_fits v fits = reads_fit v fits (view_groups plan v) (group_there plan v)

  again_fits : (v : View) → ViewFits v → AllFit (reads_again plan v)
  again_fits v fits =
      reads_fit v fits (filter (λ g. is_none (find_read g v.got)) (view_groups plan v))
      (λ g h. group_there plan v g (from_has_filter (λ g. is_none (find_read g v.got)) g (view_groups plan v) h).0)

  -- ---- a server

  module _ (accepted : IsAccepted plan) (n : ℕ) (v : Viewing) (msg : Msg) (to : Node) (fits : MessageFits msg to) (is_to : to ≡ Server (record { 0 = n }))
      (old : (q : KeptRead) → Has q v.reads → IsReadAt q.id q.proc q.group q.args n) (r : ServerStep) (number : r.state.shard.0 ≡ n) (q : ReadStep) (a : AnswersReads plan v msg r q)
    where
      abbrev reads : List KeptRead
      reads = reads_with msg r.answer v.reads

      abbrev counts : Counts
      counts = with_accesses v.versions (accesses_of r.ran)

      -- each read that was kept, or comes
      read_at : (x : KeptRead) → Has x (reads_with msg r.answer v.reads) → IsReadAt x.id x.proc x.group x.args n
      read_at x h = elim (with_cases x msg r.answer v.reads h) [
        | inl k ↦ old x k
        | inr k ↦
            (let f : MessageFits (Read x.id x.round x.proc x.group x.args) to = subst (λ (msg : Msg). MessageFits msg to) k fits in
            subst (IsReadAt x.id x.proc x.group x.args) (the_server f.0 n (sym f.1 ∙ is_to)) f.2)
      ]
        where
          the_shard : (a b : Shard) → Server a ≡ Server b → a ≡ b
          the_shard a b e = cc

          the_server : (a b : ℕ) → Server (record { 0 = a }) ≡ Server (record { 0 = b }) → a ≡ b
          the_server a b e = ap (λ (s : Shard). s.0) (the_shard (record { 0 = a }) (record { 0 = b }) e)

      -- what is told of it
      readok_fits : (x : KeptRead) → IsReadAt x.id x.proc x.group x.args n → MessageFits (readok_of plan r.state counts x).msg (readok_of plan r.state counts x).to
      readok_fits x f =
          let uses = length-map (read_uses plan r.state x) (λ (a : Access). version counts a.cell) ∙ uses_counted plan (read_call x) r.state.store accepted f.view in
          let outs = group_long plan (read_call x) r.state.store in (
            refl,
            record {
              view = ap (is_view_of plan) (sym f.procedure) ∙ f.view;
              group_is = subst (λ p. x.group < length (groups_of plan p)) f.procedure f.group_is;
              here = sym (λ i. shard_of plan (group_place plan (f.procedure i) x.group (f.arguments i) [])) ∙ (f.here ∙ sym number);
              versions_counted = uses ∙ ap (λ p. length (bound_of plan p x.group)) f.procedure;
              outs_counted = outs ∙ ap (λ p. length (outs_of plan p x.group)) f.procedure;
            },
          )

      -- what is kept for views then, and told
      pub record ServedFits : Type 0 where
        pub kept : (x : KeptRead) → Has x q.viewing.reads → IsReadAt x.id x.proc x.group x.args n
        pub sends : AllFit q.sends

      pub served_fits : ServedFits
      served_fits = go (is_taken r.answer) refl
        where
          go : (b : Bool) → is_taken r.answer ≡ b → ServedFits
          go false k =
              let same : q ≡ record { viewing = v; sends = [] } = a.is ∙ ap (λ b. if b then answering plan a.decided r.state counts reads else record { viewing = v; sends = [] }) k in
              record { kept = λ x h. old x (subst (λ (q : ReadStep). Has x q.viewing.reads) same h); sends = λ out h. absurd (subst (λ (q : ReadStep). Has out q.sends) same h) }
          go true k =
              let same : q ≡ answering plan a.decided r.state counts reads = a.is ∙ ap (λ b. if b then answering plan a.decided r.state counts reads else record { viewing = v; sends = [] }) k in
              record {
                kept = λ x h. read_at x (from_has_filter (λ (x : KeptRead). not (is_free plan a.decided r.state x)) x reads (subst (λ (q : ReadStep). Has x q.viewing.reads) same h)).0;
                sends = λ out h.
                    (let p = from_has_map (readok_of plan r.state counts) out (in_turn (filter (is_free plan a.decided r.state) reads)) (subst (λ (q : ReadStep). Has out q.sends) same h) in
                    let f = from_has_filter (is_free plan a.decided r.state) p.0 reads (turn_has p.0 (filter (is_free plan a.decided r.state) reads) p.1) in
                    subst (λ (out : Outgoing). MessageFits out.msg out.to) (sym p.2) (readok_fits p.0 (read_at p.0 f.0)));
              }

  -- ---- a coordinator

  module _ (is_view : TxnId → Bool) (s : CoordState) (sound : IsCoordSound is_view s) (all : (v : View) → Has v s.views → ViewFits v) where
    pub record StepFits (r : CoordStep) : Type 0 where
      pub views : (v : View) → Has v r.state.views → ViewFits v
      pub sends : AllFit r.sends

    nothing : (reason : Reason) → StepFits (ignored s reason)
    nothing reason = record { views = all; sends = λ out h. absurd h }

    replaced : (v : View) → ViewFits v → (x : View) → Has x (map (λ u. if is_txn u.id v.id then v else u) s.views) → ViewFits x
    replaced v fits x h =
        let q = from_has_map (λ (u : View). if is_txn u.id v.id then v else u) x s.views h in
        subst ViewFits (sym q.2) (one q.0 (is_txn q.0.id v.id) (all q.0 q.1))
      where
        one : (u : View) (b : Bool) → ViewFits u → ViewFits (if b then v else u)
        one u true k = fits
        one u false k = k

    readok_step : (id : TxnId) (x : Option View) → find_view id s.views ≡ x → (round : ℕ) (ok : TakenRead) (shard : Shard) → StepFits (after_readok plan s id x round ok shard)
    readok_step id None e round ok shard = nothing _
    readok_step id (Some v) e round ok shard = refused (readok_refusal plan v round ok shard)
      where
        fits : ViewFits v
        fits = all v (found_has (λ (y : View). is_txn y.id id) s.views v e).0

        taken : ViewFits (with_readok v ok)
        taken = record { view = fits.view; counted = fits.counted; procedure = fits.procedure; arguments = fits.arguments }

        next : ViewFits (next_round (with_readok v ok))
        next = record { view = fits.view; counted = fits.counted; procedure = fits.procedure; arguments = fits.arguments }

        rounds : (b : Round) → StepFits (readok_taken plan s (with_readok v ok) b)
        rounds Waits = record { views = replaced (with_readok v ok) taken; sends = λ out h. absurd h }
        rounds GoesOn = record { views = replaced (next_round (with_readok v ok)) next; sends = round_fits (next_round (with_readok v ok)) next }
        rounds (Ends reply) =
            record {
              views = λ u h. all u (from_has_filter (λ (y : View). not (is_txn y.id v.id)) u s.views h).0;
              sends = all_of_transactions _ (are_marks plan s (without_view s v.id));
            }

        refused : (x : Option Reason) → StepFits (unless_refused s x (readok_taken plan s (with_readok v ok) (round_of plan (with_readok v ok))))
        refused (Some reason) = nothing reason
        refused None = rounds (round_of plan (with_readok v ok))

    of_transactions : (msg : Msg) → is_of_view msg ≡ false → StepFits (after_message plan s msg)
    of_transactions msg e =
        let f = for_transactions plan is_view s sound msg e in
        record { views = λ v h. all v (subst (Has v) f.views h); sends = all_of_transactions _ f.sends }

    pub message_fits : (msg : Msg) → StepFits (after_message plan s msg)
    message_fits (ReadOk id round group shard versions outs) = readok_step id (find_view id s.views) refl round (record { group = group; versions = versions; outs = outs }) shard
    message_fits (Read id round proc group args) = nothing _
    message_fits msg = of_transactions msg refl

    -- a tick
    pub tick_fits : AllFit (tick_sends plan s)
    tick_fits out h = elim (has_append out (flat_map (again_of plan s) s.unanswered) (ended_sends plan s) h) [
      | inl k ↦
          (let q = from_has_flat_map (again_of plan s) out s.unanswered k in
          elim (has_append out (transaction_again plan (find_transaction q.0 s.pending)) (view_again plan (find_view q.0 s.views)) q.2) [
            | inl j ↦ transactions (find_transaction q.0 s.pending) j
            | inr j ↦ a_view q.0 (find_view q.0 s.views) refl j
          ])
      | inr k ↦ all_of_transactions (ended_sends plan s) (are_endeds plan s) out k
    ]
      where
        transactions : (x : Option Transaction) → Has out (transaction_again plan x) → MessageFits out.msg out.to
        transactions None k = absurd k
        transactions (Some x) k = message_of_transactions out.msg out.to (again_transactions plan x out k)

        a_view : (id : TxnId) (x : Option View) → find_view id s.views ≡ x → Has out (view_again plan x) → MessageFits out.msg out.to
        a_view id None e k = absurd k
        a_view id (Some v) e k = again_fits v (all v (found_has (λ (y : View). is_txn y.id id) s.views v e).0) out k
