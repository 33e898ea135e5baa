-- The reads that a coordinator sends for a view, and the looks that begin with them
use Rattle.std.proofs.Common.{◌≡◌, ◌≢◌, ◌∙◌, ◌⊎◌, inl, inr, ℕ, ℤ, zero, suc, ◌<◌, true, false, List, [], ◌∷◌, Option, Some, None, is_none, map, length, refl, sym, ap, subst, arith}
use Rattle.std.specs.Prelude.{flat_map}
use Rattle.std.proofs.lemmas.Bool.{false≢true}
use Rattle.std.specs.List.{cons_option, filter, filter_map, range_with_len}
use Rattle.roc_sequence.specs.Lists.{Has}
use Rattle.roc_sequence.proofs.Members.{has_append, has_map, from_has_map, from_has_filter, from_has_flat_map}
use Rattle.roc_sequence.proofs.Found.{found_has}
use Rattle.roc_merge_groups.proofs.Elements.{from_has_range}
use Rattle.roc_base.specs.declared.id.TxnId.{TxnId}
use Rattle.roc_base.specs.declared.node.Node.{Node}
use Rattle.roc_base.specs.declared.node.Node.TheVariants.{Server, Coord}
use Rattle.roc_base.specs.declared.node.Shard.{Shard}
use Rattle.roc_base.specs.TxnId.{is_txn}
use Rattle.roc_msg.specs.declared.msg.Msg.{Msg}
use Rattle.roc_msg.specs.declared.msg.Msg.TheVariants.{Read, ReadOk}
use Rattle.roc_msg.specs.declared.msg.Envelope.{Envelope}
use Rattle.roc_msg.specs.declared.outbox.Outgoing.{Outgoing}
use Rattle.roc_rows.specs.Versions.{Counts}
use Rattle.roc_plan.specs.Groups.{Plan, groups_of, shard_of, group_place}
use Rattle.roc_whole.specs.Serial as whole
use Rattle.roc_law_log.specs.Scheme.{Scheme}
use Rattle.roc_readonly.specs.declared.view.View.{View}
use Rattle.roc_readonly.specs.Round.{view_groups, find_read, read_for, read_shard, reads_of}
use Rattle.roc_coord.specs.declared.transaction.Transaction.{Transaction}
use Rattle.roc_coord.specs.Marks.{ended_sends}
use Rattle.roc_coord.specs.State.{find_transaction, find_view, CoordState}
use Rattle.roc_coord.specs.Tick.{transaction_again, view_again, again_of, tick_sends}
use Rattle.roc_audit.specs.declared.entry.Entry.{Entry}
use Rattle.roc_audit.specs.History.{WasSubmitted}
use Rattle.roc_law_protocol.specs.Beginnings as protocol
use Rattle.roc_law_protocol.specs.World.{sent_by}
use Rattle.roc_law_world.specs.World.{reads_for, first_look, looks_in}
use Rattle.roc_law_world.specs.Beside.{is_of_view}
use Rattle.roc_law_world.proofs.Sent.{AreOfTransactions}
use Rattle.roc_law_world.proofs.TickSends.{again_transactions, are_endeds}
use Rattle.roc_law_world.proofs.ViewMeans.{proc_of, args_of, is_view_id, MessageIsFor}

-- ---- looks

-- messages of transactions begin no round
pub no_looks : (behind : ℕ) (outs : List Outgoing) → AreOfTransactions outs → looks_in behind outs ≡ []
no_looks behind outs h = ap (first_look behind) (go outs h)
  where
    one : (msg : Msg) → is_of_view msg ≡ false → reads_for msg ≡ None
    one (Read id round proc group args) e = absurd (false≢true (sym e))
    one msg e = refl

    go : (outs : List Outgoing) → AreOfTransactions outs → filter_map (λ out. reads_for out.msg) outs ≡ []
    go [] h = refl
    go (out ∷ outs) h = ap (λ o. cons_option o (filter_map (λ out. reads_for out.msg) outs)) (one out.msg (h out (inl refl))) ∙ go outs (λ x k. h x (inr k))

-- the reads of a round begin it
pub one_look : (plan : Plan) (v : View) (behind : ℕ) → 0 < length (groups_of plan v.proc) → looks_in behind (reads_of plan v) ≡ record { id = v.id; behind = behind } ∷ []
one_look plan v behind some = go (length (groups_of plan v.proc)) some
  where
    go : (n : ℕ) → 0 < n → looks_in behind (map (read_for plan v) (range_with_len 0 n)) ≡ record { id = v.id; behind = behind } ∷ []
    go zero h = absurd (omega arith)
    go (suc n) h = refl

-- ---- reads that a coordinator sends

-- a read of a group of a view
pub record IsReadOf (plan : Plan) (v : View) (e : Envelope) : Type 0 where
  pub group : ℕ
  pub there : group < length (groups_of plan v.proc)
  pub message : e.msg ≡ Read v.id v.round v.proc group v.args
  pub to : e.to ≡ Server (read_shard plan v group)

pub reads_are : (plan : Plan) (v : View) (from : Node) (gs : List ℕ) → ((g : ℕ) → Has g gs → g < length (groups_of plan v.proc)) → (e : Envelope) → Has e (map (sent_by from) (map (read_for plan v) gs)) → IsReadOf plan v e
reads_are plan v from gs all e h =
    let p = from_has_map (sent_by from) e (map (read_for plan v) gs) h in
    let q = from_has_map (read_for plan v) p.0 gs p.1 in
    record { group = q.0; there = all q.0 q.1; message = ap (λ (e : Envelope). e.msg) p.2 ∙ ap (λ (o : Outgoing). o.msg) q.2; to = ap (λ (e : Envelope). e.to) p.2 ∙ ap (λ (o : Outgoing). o.to) q.2 }

pub group_there : (plan : Plan) (v : View) (g : ℕ) → Has g (view_groups plan v) → g < length (groups_of plan v.proc)
group_there plan v g h = let r = (from_has_range 0 (length (groups_of plan v.proc)) g h).1 in omega arith

-- what a tick sends is of transactions, or a read of a view that is kept
pub again_are : (plan : Plan) (n : ℕ) (s : CoordState) (e : Envelope) → Has e (map (sent_by (Coord n)) (tick_sends plan s)) → (is_of_view e.msg ≡ false) ⊎ ((x : View) × Has x s.views × IsReadOf plan x e)
again_are plan n s e h =
    let p = from_has_map (sent_by (Coord n)) e (tick_sends plan s) h in
    elim (has_append p.0 (flat_map (again_of plan s) s.unanswered) (ended_sends plan s) p.1) [
      | inl k ↦
          (let q = from_has_flat_map (again_of plan s) p.0 s.unanswered k in
          elim (has_append p.0 (transaction_again plan (find_transaction q.0 s.pending)) (view_again plan (find_view q.0 s.views)) q.2) [
            | inl j ↦ inl (ap (λ (e : Envelope). is_of_view e.msg) p.2 ∙ of_its (find_transaction q.0 s.pending) p.0 j)
            | inr j ↦ inr (of_view q.0 (find_view q.0 s.views) refl p.0 j p.2)
          ])
      | inr k ↦ inl (ap (λ (e : Envelope). is_of_view e.msg) p.2 ∙ are_endeds plan s p.0 k)
    ]
  where
    of_its : (x : Option Transaction) (out : Outgoing) → Has out (transaction_again plan x) → is_of_view out.msg ≡ false
    of_its (Some x) out j = again_transactions plan x out j
    of_its None out j = absurd j

    of_view : (id : TxnId) (x : Option View) → find_view id s.views ≡ x → (out : Outgoing) → Has out (view_again plan x) → e ≡ sent_by (Coord n) out → (x : View) × Has x s.views × IsReadOf plan x e
    of_view id None f out j same = absurd j
    of_view id (Some v) f out j same = (
      v,
      (found_has (λ (v : View). is_txn v.id id) s.views v f).0,
      reads_are plan v (Coord n) (filter (λ g. is_none (find_read g v.got)) (view_groups plan v)) (λ g h. group_there plan v g (from_has_filter (λ g. is_none (find_read g v.got)) g (view_groups plan v) h).0) e
          (subst (λ (e : Envelope). Has e (map (sent_by (Coord n)) (view_again plan (Some v)))) (sym same) (has_map (sent_by (Coord n)) out (view_again plan (Some v)) j)),
    )

module _ (plan : Plan) (calls : TxnId → whole.Call) (asked : TxnId → whole.Call) (S : Scheme) (start : protocol.Beginning) (before : ℕ → Counts) where
  pub read_is_for : (history : List Entry) (v : View) → WasSubmitted history v.id → is_view_id plan calls v.id ≡ true → v.proc ≡ proc_of plan calls v.id → v.args ≡ args_of plan calls v.id
      → (e : Envelope) → IsReadOf plan v e → MessageIsFor plan calls history e.msg e.to
  read_is_for history v submitted view procedure arguments e r =
      subst (λ (msg : Msg). MessageIsFor plan calls history msg e.to) (sym r.message) (
        shard_of plan (group_place plan v.proc r.group v.args []),
        r.to,
        record {
          submitted = submitted;
          view = view;
          procedure = procedure;
          arguments = arguments;
          there = subst (λ p. r.group < length (groups_of plan p)) procedure r.there;
          here = sym (ap (λ p. shard_of plan (group_place plan p r.group v.args [])) procedure ∙ ap (λ l. shard_of plan (group_place plan (proc_of plan calls v.id) r.group l [])) arguments);
        },
      )

  -- a read of one view is none of another, and is no readok
  pub read_id : (v : View) (e : Envelope) → IsReadOf plan v e → (id : TxnId) (r proc group : ℕ) (args : List ℤ) → e.msg ≡ Read id r proc group args → (v.id ≡ id) × (v.round ≡ r)
  read_id v e k id r proc group args f = same v.id id v.round r v.proc proc k.group group v.args args (sym k.message ∙ f)
    where
      same : (a b : TxnId) (c d p q g h : ℕ) (x y : List ℤ) → Read a c p g x ≡ Read b d q h y → (a ≡ b) × (c ≡ d)
      same a b c d p q g h x y e = (cc, cc)

  pub read_no_ok : (v : View) (e : Envelope) → IsReadOf plan v e → (id : TxnId) (r group : ℕ) (shard : Shard) (vs : List ℕ) (outs : List ℤ) → e.msg ≢ ReadOk id r group shard vs outs
  read_no_ok v e k id r group shard vs outs f = apart v.id id v.round r v.proc k.group group v.args shard vs outs (sym k.message ∙ f)
    where
      apart : (a b : TxnId) (c d p g h : ℕ) (x : List ℤ) (s : Shard) (vs : List ℕ) (outs : List ℤ) → Read a c p g x ≢ ReadOk b d h s vs outs
      apart a b c d p g h x s vs outs e = cc
