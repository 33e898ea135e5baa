-- What a coordinator sends is of what it holds
use Rattle.std.proofs.Common.{◌≡◌, ℕ, Bool, true, false, not, List, [], Some, map, refl, sym, ap, subst, ◌∙◌, inl, inr}
use Rattle.std.specs.Prelude.{slice_get, slice_set, filter, flat_map, if◌then◌else◌}
use Rattle.roc_sequence.specs.Lists.{Has}
use Rattle.roc_sequence.proofs.Members.{has_append, from_has_map, from_has_filter, from_has_flat_map}
use Rattle.roc_base.specs.declared.id.TxnId.{TxnId}
use Rattle.roc_base.specs.declared.node.Shard.{Shard}
use Rattle.roc_base.specs.TxnId.{is_txn}
use Rattle.roc_depgraph.specs.declared.known.KnownList.{KnownList}
use Rattle.roc_msg.specs.declared.outbox.Outgoing.{Outgoing}
use Rattle.roc_plan.specs.Groups.{Plan}
use Rattle.roc_coord.specs.declared.transaction.Transaction.{Transaction}
use Rattle.roc_coord.specs.declared.transaction.TakenStart.{TakenStart}
use Rattle.roc_coord.specs.State.{was_asked, CoordState}
use Rattle.roc_coord.specs.Starts.{ready_groups, shard_for, start_for, with_starts, starts_of, all_started, gathered, shards_of, commit_to, commits_of}
use Rattle.roc_coord.specs.Step.{with_commits, commits_for, sends_after}
use Rattle.roc_law_protocol.specs.Final.{lists_in}
use Rattle.roc_law_protocol.proofs.Changed.{get-set_here}
use Rattle.roc_law_protocol.proofs.Facts.{has_fitting}
use Rattle.roc_law_protocol.proofs.Coordinators.{from_gathered}
use Rattle.roc_law_protocol.proofs.Held.{committed, commits_id, new_asked}
use Rattle.roc_law_protocol.proofs.Pending.{AskedBy, IsWholeAt, StartsOn}

module _ (plan : Plan) (old : List CoordState) (n : ℕ) (s after : CoordState) (there : slice_get old n ≡ Some s) (once : (y z : Transaction) → Has y after.pending → Has z after.pending → y.id ≡ z.id → y ≡ z) where
  abbrev coords : List CoordState
  coords = slice_set old n after

  -- the one of this id
  the_one : (x : Transaction) → Has x after.pending → x.id.coord ≡ n → (c : CoordState) (y : Transaction) → slice_get coords x.id.coord ≡ Some c → Has y c.pending → y.id ≡ x.id → y ≡ x
  the_one x h own c y e k same =
      let here = get-set_here old n s after there in
      let is : c ≡ after = (let a = subst (λ m. slice_get coords m ≡ Some c) own e in let b = here in cc) in
      once y x (subst (λ (c : CoordState). Has y c.pending) is k) h same

  pub start_on : (z x : Transaction) (g : ℕ) → Has x after.pending → z.id ≡ x.id → x.id.coord ≡ n → was_asked x g (shard_for plan z g) ≡ true → StartsOn coords (start_for plan z g).msg (start_for plan z g).to
  start_on z x g h same own was =
      subst (λ t. AskedBy coords t g (shard_for plan z g).0) (sym same)
      (λ c y e k f. subst (λ (x : Transaction). was_asked x g (record { 0 = (shard_for plan z g).0 }) ≡ true) (sym (the_one x h own c y e k f)) was)

  pub whole_at : (t : TxnId) (x : Transaction) → Has x after.pending → t ≡ x.id → x.id.coord ≡ n → (all_started plan x ≡ true) × (x.asked ≡ shards_of x) → IsWholeAt plan coords t
  whole_at t x h same own w =
      subst (IsWholeAt plan coords) (sym same)
      (λ c y e k f. subst (λ (x : Transaction). (all_started plan x ≡ true) × (x.asked ≡ shards_of x)) (sym (the_one x h own c y e k f)) w)

  -- the lists of a commit
  pub commit_lists : (y x : Transaction) → Has x after.pending → y.id ≡ x.id → x.id.coord ≡ n → (all_started plan x ≡ true) × (x.asked ≡ shards_of x)
      → ((ok : TakenStart) → Has ok y.startoks → (k : KnownList) → Has k ok.facts → IsWholeAt plan coords k.of)
      → (shards : List Shard) (out : Outgoing) → Has out (map (commit_to y) shards) → (k : KnownList) → Has k (lists_in out.msg) → IsWholeAt plan coords k.of
  commit_lists y x h same own w facts shards out k l i =
      let q = from_has_map (commit_to y) out shards k in
      elim (subst (λ (out : Outgoing). Has l (lists_in out.msg)) q.2 i) [
        | inl e ↦ subst (λ (k : KnownList). IsWholeAt plan coords k.of) (sym e) (whole_at y.id x h same own w)
        | inr m ↦
            (let a = (from_has_filter (λ fact. not (is_txn fact.of y.id)) l (gathered (flat_map (λ (ok : TakenStart). ok.facts) y.startoks)) (has_fitting (filter (λ fact. not (is_txn fact.of y.id)) (gathered (flat_map (λ (ok : TakenStart). ok.facts) y.startoks))) l m)).0 in
            let b = from_has_flat_map (λ (ok : TakenStart). ok.facts) l y.startoks (from_gathered l (flat_map (λ (ok : TakenStart). ok.facts) y.startoks) a) in
            facts b.0 b.1 l b.2)
      ]

  pub commit_starts : (y : Transaction) (shards : List Shard) (out : Outgoing) → Has out (map (commit_to y) shards) → StartsOn coords out.msg out.to
  commit_starts y shards out k = let q = from_has_map (commit_to y) out shards k in subst (λ (out : Outgoing). StartsOn coords out.msg out.to) (sym q.2) tt

  pub start_lists : (z : Transaction) (gs : List ℕ) (out : Outgoing) → Has out (map (start_for plan z) gs) → (k : KnownList) → Has k (lists_in out.msg) → IsWholeAt plan coords k.of
  start_lists z gs out h k i = let q = from_has_map (start_for plan z) out gs h in elim (subst (λ (out : Outgoing). Has k (lists_in out.msg)) q.2 i) [ ]

  -- ---- a round: z was told, and goes on as x

  module _ (z : Transaction) (h : Has (with_commits plan (with_starts plan z)) after.pending) (own : z.id.coord ≡ n) (facts : (ok : TakenStart) → Has ok z.startoks → (k : KnownList) → Has k ok.facts → IsWholeAt plan coords k.of) where
    abbrev y : Transaction
    y = with_starts plan z

    abbrev x : Transaction
    x = with_commits plan y

    own_x : x.id.coord ≡ n
    own_x = ap (λ (t : TxnId). t.coord) (commits_id plan y) ∙ own

    pub round_starts : (out : Outgoing) → Has out (sends_after plan z) → StartsOn coords out.msg out.to
    round_starts out k = elim (has_append out (starts_of plan z) (commits_for plan y) k) [
      | inl j ↦ (let q = from_has_map (start_for plan z) out (ready_groups plan z) j in subst (λ (out : Outgoing). StartsOn coords out.msg out.to) (sym q.2) (start_on z x q.0 h (sym (commits_id plan y)) own_x (new_asked plan z q.0 q.1)))
      | inr j ↦ commits (all_started plan y) j
    ]
      where
        commits : (b : Bool) → Has out (if b then commits_of y else []) → StartsOn coords out.msg out.to
        commits true j = commit_starts y (shards_of y) out j
        commits false j = absurd j

    pub round_lists : (out : Outgoing) → Has out (sends_after plan z) → (k : KnownList) → Has k (lists_in out.msg) → IsWholeAt plan coords k.of
    round_lists out j k i = elim (has_append out (starts_of plan z) (commits_for plan y) j) [
      | inl m ↦ start_lists z (ready_groups plan z) out m k i
      | inr m ↦ commits (all_started plan y) refl m
    ]
      where
        commits : (b : Bool) → all_started plan y ≡ b → Has out (if b then commits_of y else []) → IsWholeAt plan coords k.of
        commits true e m = commit_lists y x h (sym (commits_id plan y)) own_x (committed plan y e) facts (shards_of y) out m k i
        commits false e m = absurd m
