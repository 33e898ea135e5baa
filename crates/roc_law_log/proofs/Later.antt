-- What stays where more groups start or run
use Rattle.std.proofs.Common.{◌≡◌, ◌↔◌, ℕ, Bool, true, false, List, ◌++◌, refl, sym, ap, subst, ◌∙◌, inl, inr}
use Rattle.std.specs.List.{AllByRecursion}
use Rattle.roc_sequence.specs.Places.{IsListed, IsListedBefore, NoneTwice}
use Rattle.roc_sequence.proofs.Places.{listed_by_before, listed_or_not}
use Rattle.roc_base.specs.declared.id.TxnId.{TxnId}
use Rattle.roc_base.specs.TxnId.{is_txn}
use Rattle.roc_rows.specs.Store.{Store}
use Rattle.roc_law_orders.specs.Behaviour.{TxnGroup, is_txn_group, is_group_number, Use, Meet}
use Rattle.roc_law_orders.specs.Runs.{needs, uses_in, Conflict}
use Rattle.roc_law_orders.specs.Growth.{Stays}
use Rattle.roc_component.specs.Components.{Mates}
use Rattle.roc_law_log.specs.Scheme.{Scheme, IsSoundScheme}
use Rattle.roc_law_log.specs.Log.{Past, Log, PrecedesGroup, PrecedesTxn, PrecedesTxnNow, shard_at, HasGroup, IsWhole, IsDecidedThroughout}
use Rattle.roc_law_log.specs.Taking.{IsWholeOrder, IsShardOrder}
use Rattle.roc_law_log.specs.Settled.{IsSettled}
use Rattle.roc_law_log.specs.Steps.{IsWaived}
use Rattle.roc_law_log.specs.Invariants.{LogInvariants}
use Rattle.roc_law_log.proofs.Whole.{whole_same, mates_back}
use Rattle.roc_law_log.proofs.Shards.{here_same}

-- more groups started, and those of T ran
pub record IsLater (past : Past) (started : List TxnGroup) (left_out : TxnGroup → List TxnId) (T : List TxnGroup) : Type 0 where
  pub once : NoneTwice is_txn_group (past.ran ++ T)
  pub more : (r : TxnGroup) → IsListed is_txn_group past.started r → IsListed is_txn_group started r
  pub before : (q r : TxnGroup) → IsListedBefore is_txn_group past.started q r → IsListedBefore is_txn_group started q r
  pub back : (q r : TxnGroup) → IsListed is_txn_group past.started r → IsListedBefore is_txn_group started q r → IsListedBefore is_txn_group past.started q r
  pub same_out : (r : TxnGroup) → IsListed is_txn_group past.started r → left_out r ≡ past.left_out r

meet_same : (a b c d : List Use) → a ≡ c → b ≡ d → Meet a b → Meet c d
meet_same a b c d e f m = subst (λ x. Meet x d) e (subst (λ y. Meet a y) f m)

module _ (S : Scheme) (start : Store) (stays : (Q T : List TxnGroup) → NoneTwice is_txn_group (Q ++ T) → Stays S.behaviour start Q T) (sound : IsSoundScheme S) (w : Log) (i : LogInvariants S start w) where
  module _ (started : List TxnGroup) (left_out : TxnGroup → List TxnId) (T : List TxnGroup) (later : IsLater w.past started left_out T) where
    abbrev pub past_after : Past
    past_after = record { started = started; left_out = left_out; ran = w.past.ran ++ T }

    pub shard_kept : (r : TxnGroup) → AllByRecursion (IsListed is_txn_group w.past.ran) (needs S.behaviour r) → shard_at S start (w.past.ran ++ T) r ≡ shard_at S start w.past.ran r
    shard_kept r h = ap (S.group_shard r) ((stays w.past.ran T later.once).inputs r h)

    pub uses_kept : (r : TxnGroup) → IsListed is_txn_group w.past.started r → uses_in S.behaviour start (w.past.ran ++ T) r ≡ uses_in S.behaviour start w.past.ran r
    uses_kept r h = elim (listed_or_not is_txn_group w.past.ran r) [
      | inl l ↦ (stays w.past.ran T later.once).uses r l
      | inr n ↦ go n (S.is_immediate r) refl
    ]
      where
        go : ¬ IsListed is_txn_group w.past.ran r → (b : Bool) → S.is_immediate r ≡ b → uses_in S.behaviour start (w.past.ran ++ T) r ≡ uses_in S.behaviour start w.past.ran r
        go n true e = absurd (n (i.now_ran r h e))
        go n false e = (stays w.past.ran T later.once).waiting r n (i.needs_ran r h) (sound.steady r e)

    conflict_more : (q r : TxnGroup) → IsListed is_txn_group w.past.started q → IsListed is_txn_group w.past.started r → Conflict S.behaviour start w.past.ran q r → Conflict S.behaviour start (w.past.ran ++ T) q r
    conflict_more q r h k c =
        meet_same (uses_in S.behaviour start w.past.ran q) (uses_in S.behaviour start w.past.ran r) (uses_in S.behaviour start (w.past.ran ++ T) q) (uses_in S.behaviour start (w.past.ran ++ T) r) (sym (uses_kept q h)) (sym (uses_kept r k)) c

    conflict_back : (q r : TxnGroup) → IsListed is_txn_group w.past.started q → IsListed is_txn_group w.past.started r → Conflict S.behaviour start (w.past.ran ++ T) q r → Conflict S.behaviour start w.past.ran q r
    conflict_back q r h k c =
        meet_same (uses_in S.behaviour start (w.past.ran ++ T) q) (uses_in S.behaviour start (w.past.ran ++ T) r) (uses_in S.behaviour start w.past.ran q) (uses_in S.behaviour start w.past.ran r) (uses_kept q h) (uses_kept r k) c

    group_more : (u : TxnId) (r : TxnGroup) → PrecedesGroup S start w.past u r → PrecedesGroup S start past_after u r
    group_more u r p =
        record {
          first = p.first;
          of_first = p.of_first;
          other = p.other;
          began = later.more r p.began;
          before = later.before p.first r p.before;
          conflict = conflict_more p.first r (listed_by_before is_txn_group w.past.started p.first r p.before) p.began p.conflict;
          kept = λ k. p.kept (subst (λ l. IsListed is_txn l u) (later.same_out r p.began) k);
        }

    group_back : (u : TxnId) (r : TxnGroup) → IsListed is_txn_group w.past.started r → PrecedesGroup S start past_after u r → PrecedesGroup S start w.past u r
    group_back u r h p =
        let b = later.back p.first r h p.before in
        record {
          first = p.first;
          of_first = p.of_first;
          other = p.other;
          began = h;
          before = b;
          conflict = conflict_back p.first r (listed_by_before is_txn_group w.past.started p.first r b) h p.conflict;
          kept = λ k. p.kept (subst (λ l. IsListed is_txn l u) (sym (later.same_out r h)) k);
        }

    pub group_same : (u : TxnId) (r : TxnGroup) → IsListed is_txn_group w.past.started r → PrecedesGroup S start w.past u r ↔ PrecedesGroup S start past_after u r
    group_same u r h = (group_more u r, group_back u r h)

    -- into transactions all of whose groups had started
    module _ (are_groups : (r : TxnGroup) → IsListed is_txn_group started r → IsListed is_group_number (S.behaviour.groups r.txn) r.group) (O : List TxnId)
        (whole : (t : TxnId) → IsListed is_txn O t → IsWhole S w.past.started t) where
      was_there : (t : TxnId) → IsListed is_txn O t → (r : TxnGroup) → r.txn ≡ t → IsListed is_txn_group started r → IsListed is_txn_group w.past.started r
      was_there t k r e j = subst (λ u. IsListed is_group_number (S.behaviour.groups u) r.group → IsListed is_txn_group w.past.started (record { txn = u; group = r.group })) (sym e) (whole t k r.group) (are_groups r j)

      ef : (u t : TxnId) → IsListed is_txn O t → PrecedesTxn S start w.past u t → PrecedesTxn S start past_after u t
      ef u t k p = record { second = p.second; of_second = p.of_second; by = group_more u p.second p.by }

      fe : (u t : TxnId) → IsListed is_txn O t → PrecedesTxn S start past_after u t → PrecedesTxn S start w.past u t
      fe u t k p = record { second = p.second; of_second = p.of_second; by = group_back u p.second (was_there t k p.second p.of_second p.by.began) p.by }

      ij : (u t : TxnId) → IsListed is_txn O t → PrecedesTxnNow S start w.past u t → PrecedesTxnNow S start past_after u t
      unfolding ef
      ij u t k p = record { precedes = ef u t k p.precedes; immediate = p.immediate }

      ji : (u t : TxnId) → IsListed is_txn O t → PrecedesTxnNow S start past_after u t → PrecedesTxnNow S start w.past u t
      unfolding fe
      ji u t k p = record { precedes = fe u t k p.precedes; immediate = p.immediate }

      pub whole_after : IsWholeOrder (PrecedesTxn S start w.past) (PrecedesTxnNow S start w.past) O → IsWholeOrder (PrecedesTxn S start past_after) (PrecedesTxnNow S start past_after) O
      whole_after o = whole_same (PrecedesTxn S start w.past) (PrecedesTxn S start past_after) (PrecedesTxnNow S start w.past) (PrecedesTxnNow S start past_after) O o ef fe ij ji

      pub shard_same : (t : TxnId) (g : ℕ) → IsListed is_txn O t → IsListed is_group_number (S.behaviour.groups t) g
          → shard_at S start (w.past.ran ++ T) (record { txn = t; group = g }) ≡ shard_at S start w.past.ran (record { txn = t; group = g })
      shard_same t g h k = shard_kept (record { txn = t; group = g }) (i.needs_ran (record { txn = t; group = g }) (whole t h g k))

      pub here_after : IsWholeOrder (PrecedesTxn S start w.past) (PrecedesTxnNow S start w.past) O → (s : ℕ) (L : List TxnId) → ((t : TxnId) → IsListed is_txn L t → IsListed is_txn O t)
          → IsShardOrder (PrecedesTxn S start w.past) (PrecedesTxnNow S start w.past) (HasGroup S start w.past.ran s) (IsWaived S start w) L
          → (w2 : Log) → ((u : TxnId) → IsWaived S start w u → IsWaived S start w2 u)
          → IsShardOrder (PrecedesTxn S start past_after) (PrecedesTxnNow S start past_after) (HasGroup S start (w.past.ran ++ T) s) (IsWaived S start w2) L
      here_after o s L into l w2 grown =
          here_same (PrecedesTxn S start w.past) (PrecedesTxn S start past_after) (PrecedesTxnNow S start w.past) (PrecedesTxnNow S start past_after) O o ef fe ij ji
          (HasGroup S start w.past.ran s) (HasGroup S start (w.past.ran ++ T) s) (IsWaived S start w) (IsWaived S start w2)
          (λ u k h. record { group = h.group; listed = h.listed; on = sym (shard_same u h.group k h.listed) ∙ h.on })
          grown L into l

      pub settled_after : IsWholeOrder (PrecedesTxn S start w.past) (PrecedesTxnNow S start w.past) O → ((u : TxnId) → IsSettled S start w u → IsListed is_txn O u)
          → (w2 : Log) → w2.past ≡ past_after → ((t : TxnId) → IsListed is_txn w.answered t → IsListed is_txn w2.answered t)
          → (u : TxnId) → IsSettled S start w u → IsSettled S start w2 u
      settled_after o into w2 e up u z m k =
          up m (z m (mates_back (PrecedesTxn S start w.past) (PrecedesTxn S start past_after) (PrecedesTxnNow S start w.past) (PrecedesTxnNow S start past_after) O o ef fe ij ji u m (into u z)
          (subst (λ (p : Past). Mates (PrecedesTxn S start p) u m) e k)))

    -- who was decided throughout is
    pub throughout_after : (w2 : Log) → w2.past ≡ past_after → ((s : ℕ) (t : TxnId) → IsListed is_txn (w.decided s) t → IsListed is_txn (w2.decided s) t)
        → ((t : TxnId) → IsListed is_txn w.order t → IsListed is_txn w2.order t)
        → (t : TxnId) → IsDecidedThroughout S start w t → IsDecidedThroughout S start w2 t
    throughout_after w2 e up on t h =
        record {
          in_order = on t h.in_order;
          everywhere = λ g k.
              let r : TxnGroup = record { txn = t; group = g } in
              let same = shard_kept r (i.needs_ran r (i.whole t h.in_order g k)) in
              subst (λ (p : Past). IsListed is_txn (w2.decided (shard_at S start p.ran r)) t) (sym e)
              (subst (λ s. IsListed is_txn (w2.decided s) t) (sym same) (up (shard_at S start w.past.ran r) t (h.everywhere g k)));
        }
