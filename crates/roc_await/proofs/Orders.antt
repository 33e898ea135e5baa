-- The orders in which what was asked for, and who asked, are kept
use Rattle.std.proofs.Common.{◌≡◌, ◌&&◌, true, false, nat_lt, ℕ, sym, subst, inl, inr, arith}
use Rattle.std.proofs.lemmas.Bool.{and_parts, and_from, or_cases, or_left, or_right}
use Rattle.std.proofs.lemmas.Bool.Decides.{nat_tests}
use Rattle.roc_base.specs.declared.id.TxnId.{TxnId}
use Rattle.roc_base.specs.TxnId.{is_txn, txn_lt}
use Rattle.roc_base.specs.Equalities.{is_txn-true}
use Rattle.roc_base.proofs.Ids.{txn_lt-asym, txn_lt-trans}
use Rattle.roc_step.specs.declared.waits.Asker.{Asker}
use Rattle.roc_step.specs.Waits.{is_asked_before, is_asker_before}
use Rattle.roc_await.proofs.PutInPlace.{IsOrder}

pub asked_order : IsOrder is_asked_before
asked_order = record { asym = λ a b. txn_lt-asym a.id b.id; trans = λ a b c. txn_lt-trans a.id b.id c.id }

asker_asym : (a b : Asker) → is_asker_before a b ≡ true → is_asker_before b a ≡ false
asker_asym a b h = grind (arith, nat_tests)

lt_trans : (x y z : ℕ) → nat_lt x y ≡ true → nat_lt y z ≡ true → nat_lt x z ≡ true
lt_trans x y z h k = grind (arith, nat_tests)

asker_trans : (a b c : Asker) → is_asker_before a b ≡ true → is_asker_before b c ≡ true → is_asker_before a c ≡ true
asker_trans a b c h k =
    let same = is_txn a.id c.id && nat_lt a.shard.0 c.shard.0 in
    elim (or_cases (txn_lt a.id b.id) (is_txn a.id b.id && nat_lt a.shard.0 b.shard.0) h) [
      | inl l ↦ elim (or_cases (txn_lt b.id c.id) (is_txn b.id c.id && nat_lt b.shard.0 c.shard.0) k) [
        | inl m ↦ or_left (txn_lt a.id c.id) same (txn_lt-trans a.id b.id c.id l m)
        | inr m ↦ or_left (txn_lt a.id c.id) same (subst (λ (t : TxnId). txn_lt a.id t ≡ true) (is_txn-true b.id c.id (and_parts (is_txn b.id c.id) (nat_lt b.shard.0 c.shard.0) m).0) l)
      ]
      | inr l ↦ (let p = and_parts (is_txn a.id b.id) (nat_lt a.shard.0 b.shard.0) l in
          let e = is_txn-true a.id b.id p.0 in
          elim (or_cases (txn_lt b.id c.id) (is_txn b.id c.id && nat_lt b.shard.0 c.shard.0) k) [
            | inl m ↦ or_left (txn_lt a.id c.id) same (subst (λ (t : TxnId). txn_lt t c.id ≡ true) (sym e) m)
            | inr m ↦ (let q = and_parts (is_txn b.id c.id) (nat_lt b.shard.0 c.shard.0) m in
                or_right (txn_lt a.id c.id) same (and_from (is_txn a.id c.id) (nat_lt a.shard.0 c.shard.0) (subst (λ (t : TxnId). is_txn t c.id ≡ true) (sym e) q.0) (lt_trans a.shard.0 b.shard.0 c.shard.0 p.1 q.1)))
          ])
    ]

pub asker_order : IsOrder is_asker_before
asker_order = record { asym = asker_asym; trans = asker_trans }
