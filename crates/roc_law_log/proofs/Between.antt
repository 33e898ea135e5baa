-- A cell that no group may have written between two logs
use Rattle.std.proofs.Common.{◌≡◌, ◌+◌, Bool, true, false, ◌++◌, refl, sym, ap, subst, ◌∙◌, arith, inl, inr}
use Rattle.std.proofs.lemmas.Bool.{false_from_ne_true}
use Rattle.roc_sequence.specs.Places.{IsListed, NoneTwice}
use Rattle.roc_sequence.proofs.Appended.{listed_front, listed_behind, listed_either}
use Rattle.roc_base.specs.TxnId.{is_txn}
use Rattle.roc_rows.specs.declared.cell.Cell.{Cell}
use Rattle.roc_rows.specs.Store.{Store, read}
use Rattle.roc_law_orders.specs.Behaviour.{TxnGroup, is_txn_group, is_group_number, is_written}
use Rattle.roc_law_orders.specs.Runs.{stage_behind, stage_before, inputs_at, uses_in}
use Rattle.roc_law_orders.proofs.SameGroups.{written_used}
use Rattle.roc_law_orders.proofs.Places.{apart}
use Rattle.roc_law_orders.proofs.Growth.{unwritten_kept}
use Rattle.roc_law_log.specs.Scheme.{Scheme, IsSoundScheme}
use Rattle.roc_law_log.specs.Log.{Log, shard_at}
use Rattle.roc_law_log.specs.Invariants.{LogInvariants, LogGrows}
use Rattle.roc_law_log.specs.Clean.{IsClean, writes_among, writes_to}
use Rattle.roc_law_log.proofs.Keeping.{in_continued, grows_more}
use Rattle.roc_law_log.proofs.Writes.{among_append, among_same, among_one}

module _ (S : Scheme) (start : Store) (sound : IsSoundScheme S) (a t b : Log)
    (ia : LogInvariants S start a) (it : LogInvariants S start t) (ib : LogInvariants S start b) (ga : LogGrows S start a t) (gb : LogGrows S start t b)
    (found : (q : TxnGroup) → inputs_at S.behaviour (stage_before S.behaviour start b.past.ran q) q ≡ inputs_at S.behaviour (stage_behind S.behaviour start b.past.ran) q)
    (x : Cell) (before : IsClean S start a x) (after : IsClean S start b x) (same : writes_to S start a x ≡ writes_to S start b x) where
  abbrev written : Log → TxnGroup → Bool
  written log q = is_written x (uses_in S.behaviour start log.past.ran q)

  g : LogGrows S start a b
  g = grows_more S start a t b ga gb

  as_before : (q : TxnGroup) → IsListed is_txn_group a.past.started q → written b q ≡ written a q
  as_before q h = ap (is_written x) (g.uses q h)

  as_then : (q : TxnGroup) → IsListed is_txn_group t.past.started q → written b q ≡ written t q
  as_then q h = ap (is_written x) (gb.uses q h)

  -- whatever may write it and ran, ran before
  ran_before : (q : TxnGroup) → IsListed is_txn_group b.past.ran q → written b q ≡ true → IsListed is_txn_group a.past.ran q
  ran_before q h e =
      elim (listed_either is_txn_group a.past.ran g.ran.0 q (subst (λ R. IsListed is_txn_group R q) g.ran.1 h)) [
        | inl j ↦ j
        | inr j ↦
            (let B = S.behaviour in
            let R = b.past.ran in
            let all : writes_to S start b x ≡ writes_among B start R x a.past.ran + writes_among B start R x g.ran.0 =
            ap (writes_among B start R x) g.ran.1 ∙ among_append B start x R a.past.ran g.ran.0 in
            let old = among_same B start x R a.past.ran a.past.ran (λ r i. g.uses r (ia.ran_started r i)) in
            let new = among_one B start x R g.ran.0 q j.1 e in
            absurd (omega arith))
      ]

  -- it holds behind b what it held behind t
  pub held_same : read (stage_behind S.behaviour start b.past.ran).store x ≡ read (stage_behind S.behaviour start t.past.ran).store x
  held_same =
      let n = subst (NoneTwice is_txn_group) gb.ran.1 ib.ran_once in
      ap (λ R. read (stage_behind S.behaviour start R).store x) gb.ran.1
      ∙ unwritten_kept S.behaviour start x sound.lawful gb.ran.0 t.past.ran n
      (λ q h. false_from_ne_true (is_written x (uses_in S.behaviour start (t.past.ran ++ gb.ran.0) q))
      (λ e.
      let i = subst (λ R. IsListed is_txn_group R q) (sym gb.ran.1) (listed_behind is_txn_group t.past.ran gb.ran.0 q h) in
      let j = ran_before q i (subst (λ R. is_written x (uses_in S.behaviour start R q) ≡ true) (sym gb.ran.1) e) in
      apart t.past.ran gb.ran.0 q n (in_continued a.past.ran t.past.ran ga.ran q j) h))

  -- whoever may have written it is of the order
  pub is_ordered : (q : TxnGroup) → IsListed is_txn_group t.past.ran q → written t q ≡ true → IsListed is_txn t.order q.txn
  is_ordered q h e =
      let f = as_then q (it.ran_started q h) ∙ e in
      let j = ran_before q (in_continued t.past.ran b.past.ran gb.ran q h) f in
      let k = ia.ran_started q j in
      let d = before q k (sym (as_before q k) ∙ f) in
      subst (λ O. IsListed is_txn O q.txn) (sym ga.order.1) (listed_front is_txn a.order ga.order.0 q.txn (ia.in_order (S.cell_shard x) q.txn d))

  -- and whoever is of the order and may write it ran
  pub has_run : (q : TxnGroup) → IsListed is_txn t.order q.txn → IsListed is_group_number (S.behaviour.groups q.txn) q.group → written t q ≡ true → IsListed is_txn_group t.past.ran q
  has_run q h l e =
      let k = it.whole q.txn h q.group l in
      let m = in_continued t.past.started b.past.started gb.started q k in
      let f = as_then q k ∙ e in
      let d = after q m f in
      let uses = uses_in S.behaviour start b.past.ran q in
      let here = stage_before S.behaviour start b.past.ran q in
      let on : S.cell_shard x ≡ shard_at S start b.past.ran q = sound.placed q (inputs_at S.behaviour here q) here.store x (written_used x uses f) ∙ ap (S.group_shard q) (found q) in
      in_continued a.past.ran t.past.ran ga.ran q (ran_before q (go q m (subst (λ s. IsListed is_txn (b.decided s) q.txn) on d) (S.is_immediate q) refl) f)
    where
      go : (q : TxnGroup) → IsListed is_txn_group b.past.started q → IsListed is_txn (b.decided (shard_at S start b.past.ran q)) q.txn
          → (c : Bool) → S.is_immediate q ≡ c → IsListed is_txn_group b.past.ran q
      go q m d true e = ib.now_ran q m e
      go q m d false e = ib.later_ran q m e d
