-- What was decided anywhere is fixed, and what is settled stays so
use Rattle.std.proofs.Common.{◌≡◌, ◌↔◌, ℕ, refl, sym, subst, ◌⊎◌, inl, inr}
use Rattle.roc_sequence.specs.Places.{IsListed, IsListedBefore}
use Rattle.roc_sequence.proofs.Appended.{listed_front}
use Rattle.roc_base.specs.declared.id.TxnId.{TxnId}
use Rattle.roc_base.specs.TxnId.{is_txn}
use Rattle.roc_rows.specs.Store.{Store}
use Rattle.roc_law_orders.specs.Behaviour.{TxnGroup, is_txn_group, is_group_number}
use Rattle.roc_depgraph.specs.Reach.{Reaches}
use Rattle.roc_depgraph.proofs.Chains.{closed_chain, other_chain}
use Rattle.roc_component.specs.Components.{Mates}
use Rattle.roc_component.proofs.Relations.{mates_trans}
use Rattle.roc_law_log.specs.Scheme.{Scheme}
use Rattle.roc_law_log.specs.Log.{Log, PrecedesTxn, PrecedesTxnNow, HasGroup, IsDecidedThroughout}
use Rattle.roc_law_log.specs.Settled.{IsSettled}
use Rattle.roc_law_log.specs.Steps.{IsWaived}
use Rattle.roc_law_log.specs.Invariants.{LogInvariants, LogGrows}
use Rattle.roc_law_log.proofs.Whole.{mate_in, mates_to, mates_back, closed_by}
use Rattle.roc_law_log.proofs.Shards.{order_here, alike_here, turned_back}

module _ (S : Scheme) (start : Store) where
  pub mates_settled : (w : Log) (a b : TxnId) → Mates (PrecedesTxn S start w.past) a b → IsSettled S start w a → IsSettled S start w b
  mates_settled w a b m z c k = z c (mates_trans (PrecedesTxn S start w.past) a b c m k)

  module _ (w : Log) (i : LogInvariants S start w) where
    abbrev E : TxnId → TxnId → Type 0
    E = PrecedesTxn S start w.past

    abbrev I : TxnId → TxnId → Type 0
    I = PrecedesTxnNow S start w.past

    pub before : (u t : TxnId) → IsListed is_txn w.order t → Reaches E u t → IsListed is_txn w.order u
    before u t h p = closed_chain E (IsListed is_txn w.order) i.order.closed u t h p

    pub component : (t u : TxnId) → IsListed is_txn w.order t → Mates E t u → IsListed is_txn w.order u
    component t u h m = mate_in E I w.order i.order t u h m

    pub throughout : (u : TxnId) → IsSettled S start w u → IsDecidedThroughout S start w u
    throughout u z = i.answered u (z u (inl refl))

    pub settled_in : (u : TxnId) → IsSettled S start w u → IsListed is_txn w.order u
    settled_in u z = (throughout u z).in_order

    pub settled_here : (s : ℕ) (u : TxnId) → IsSettled S start w u → HasGroup S start w.past.ran s u → IsListed is_txn (w.decided s) u
    settled_here s u z h = subst (λ s. IsListed is_txn (w.decided s) u) h.on ((throughout u z).everywhere h.group h.listed)

    -- ---- what shards decided, and the order

    pub alike : (s : ℕ) (a b : TxnId) → E a b ⊎ E b a → HasGroup S start w.past.ran s a → HasGroup S start w.past.ran s b → IsListed is_txn (w.decided s) a → IsListed is_txn (w.decided s) b
        → IsListedBefore is_txn (w.decided s) a b ↔ IsListedBefore is_txn w.order a b
    alike s a b e ga gb ha hb =
        let ia = i.in_order s a ha in
        let ib = i.in_order s b hb in (
          λ o. order_here E I (HasGroup S start w.past.ran s) (IsWaived S start w) (w.decided s) w.order (i.decided s) i.order a b e ga gb ia ib hb o,
          λ o. turned_back (w.decided s) w.order a b ha
              (λ p. order_here E I (HasGroup S start w.past.ran s) (IsWaived S start w) (w.decided s) w.order (i.decided s) i.order b a (elim e [ inl x ↦ inr x | inr x ↦ inl x ]) gb ga ib ia ha p) o,
        )

    pub whole_here : (s : ℕ) (t u : TxnId) → HasGroup S start w.past.ran s t → IsListed is_txn (w.decided s) t → Mates E t u → IsListed is_txn (w.decided s) u
    whole_here s t u g h m = (i.decided s).whole t u h g m

    pub mates_alike : (s : ℕ) (t a b : TxnId) → HasGroup S start w.past.ran s t → IsListed is_txn (w.decided s) t → Mates E t a → Mates E t b
        → IsListedBefore is_txn (w.decided s) a b ↔ IsListedBefore is_txn w.order a b
    mates_alike s t a b g h ma mb =
        let it = i.in_order s t h in (
          λ o. alike_here E I (HasGroup S start w.past.ran s) (IsWaived S start w) (w.decided s) w.order (i.decided s) i.order t h g a b ma mb (component t b it mb) o,
          λ o. turned_back (w.decided s) w.order a b (whole_here s t a g h ma)
              (λ p. alike_here E I (HasGroup S start w.past.ran s) (IsWaived S start w) (w.decided s) w.order (i.decided s) i.order t h g b a mb ma (component t a it ma) p) o,
        )

    -- ---- in a later log

    module _ (v : Log) (j : LogInvariants S start v) (grows : LogGrows S start w v) where
      abbrev F : TxnId → TxnId → Type 0
      F = PrecedesTxn S start v.past

      abbrev J : TxnId → TxnId → Type 0
      J = PrecedesTxnNow S start v.past

      had_started : (t : TxnId) → IsListed is_txn w.order t → (r : TxnGroup) → r.txn ≡ t → IsListed is_txn_group v.past.started r → IsListed is_txn_group w.past.started r
      had_started t h r e k = subst (λ u. IsListed is_group_number (S.behaviour.groups u) r.group → IsListed is_txn_group w.past.started (record { txn = u; group = r.group })) (sym e) (i.whole t h r.group) (j.are_groups r k)

      on : (u t : TxnId) → IsListed is_txn w.order t → E u t → F u t
      on u t h p = record { second = p.second; of_second = p.of_second; by = (grows.precedes u p.second p.by.began).0 p.by }

      back : (u t : TxnId) → IsListed is_txn w.order t → F u t → E u t
      back u t h p = record { second = p.second; of_second = p.of_second; by = (grows.precedes u p.second (had_started t h p.second p.of_second p.by.began)).1 p.by }

      on_now : (u t : TxnId) → IsListed is_txn w.order t → I u t → J u t
      unfolding on
      on_now u t h p = record { precedes = on u t h p.precedes; immediate = p.immediate }

      back_now : (u t : TxnId) → IsListed is_txn w.order t → J u t → I u t
      unfolding back
      back_now u t h p = record { precedes = back u t h p.precedes; immediate = p.immediate }

      pub same_edges : (u t : TxnId) → IsListed is_txn w.order t → E u t ↔ F u t
      same_edges u t h = (on u t h, back u t h)

      pub same_now : (u t : TxnId) → IsListed is_txn w.order t → I u t ↔ J u t
      same_now u t h = (on_now u t h, back_now u t h)

      pub same_chains : (u t : TxnId) → IsListed is_txn w.order t → Reaches E u t ↔ Reaches F u t
      same_chains u t h = (
        λ p. other_chain E F (IsListed is_txn w.order) i.order.closed on u t h p,
        λ p. other_chain F E (IsListed is_txn w.order) (closed_by E F I J w.order i.order on back on_now back_now) back u t h p,
      )

      pub same_mates : (t u : TxnId) → IsListed is_txn w.order t → Mates E t u ↔ Mates F t u
      same_mates t u h = (mates_to E F I J w.order i.order on back on_now back_now t u h, mates_back E F I J w.order i.order on back on_now back_now t u h)

      pub settled_later : (u : TxnId) → IsSettled S start w u → IsSettled S start v u
      settled_later u z m k =
          let e = grows.answered in
          subst (λ l. IsListed is_txn l m) (sym e.1) (listed_front is_txn w.answered e.0 m (z m ((same_mates u m (settled_in u z)).1 k)))
