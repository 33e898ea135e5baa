-- The law for any two lists of groups that agree on the order of those in conflict
use Rattle.std.proofs.Common.{◌≡◌, ℕ, zero, suc, ◌<◌, ◌≤◌, ℤ, Bool, true, false, List, length, refl, sym, ap, subst, ◌∙◌, arith, map, IsTrue, inl, inr}
use Rattle.std.proofs.lemmas.Bool.{or_left, or_right, false≢true, cases_lt, cases_order}
use Rattle.std.specs.List.{AllByRecursion}
use Rattle.roc_sequence.specs.Places.{place_of, IsListed, IsListedBefore, NoneTwice}
use Rattle.roc_sequence.proofs.Places.{listed_by_before}
use Rattle.roc_sequence.proofs.Holds.{all_weaker}
use Rattle.roc_rows.specs.declared.cell.Cell.{Cell}
use Rattle.roc_rows.specs.Store.{Store, read}
use Rattle.roc_law_orders.specs.Behaviour.{TxnGroup, is_txn_group, is_used, is_written, Behaviour, DoesSame, IsLawful}
use Rattle.roc_law_orders.specs.Runs.{first_stage, needs, inputs_at, yield_at, after_group, groups_before, stage_behind, stage_before, uses_in, Conflict, account_at, account}
use Rattle.roc_law_orders.proofs.Places.{one_place, before_before, before_absent, place_before, listed_before, from_before, none_twice_before, map_used}
use Rattle.roc_law_orders.proofs.Stages.{after-store, yielded_at, yielded-before, same_inputs, LastWrite, nobody, last, value, kept_cell}
use Rattle.roc_law_orders.proofs.SameGroups.{written_used}

pub record Agree (B : Behaviour) (start : Store) (R S : List TxnGroup) : Type 0 where
  pub lawful : IsLawful B
  pub once_R : NoneTwice is_txn_group R
  pub once_S : NoneTwice is_txn_group S
  pub needs_R : (r : TxnGroup) → IsListed is_txn_group R r → AllByRecursion (λ d. IsListedBefore is_txn_group R d r) (needs B r)
  pub needs_S : (r : TxnGroup) → IsListed is_txn_group S r → AllByRecursion (λ d. IsListed is_txn_group R d × IsListedBefore is_txn_group S d r) (needs B r)
  pub order : (q r : TxnGroup) → IsListed is_txn_group S q → IsListed is_txn_group S r → IsListed is_txn_group R q → IsListed is_txn_group R r → Conflict B start R q r
      → IsListedBefore is_txn_group R q r → IsListedBefore is_txn_group S q r
  pub absent_later : (q r : TxnGroup) → IsListed is_txn_group S q → IsListed is_txn_group S r → ¬ IsListed is_txn_group R q → IsListed is_txn_group R r → Conflict B start R q r → IsListedBefore is_txn_group S r q
  pub writers : (q r : TxnGroup) (x : Cell) → IsListed is_txn_group S r → IsListed is_txn_group R q → IsListed is_txn_group R r → IsListedBefore is_txn_group R q r
      → IsTrue (is_written x (uses_in B start R q)) → IsTrue (is_used x (uses_in B start R r)) → IsListed is_txn_group S q
  pub steady : (r : TxnGroup) → IsListed is_txn_group S r → ¬ IsListed is_txn_group R r → (given : List (List ℤ)) (s t : Store) → B.uses r given s ≡ B.uses r given t

-- what r needs, once all have run
abbrev given_by : Behaviour → Store → List TxnGroup → TxnGroup → List (List ℤ)
given_by B start R r = inputs_at B (stage_behind B start R) r

record Same (B : Behaviour) (start : Store) (R S : List TxnGroup) (r : TxnGroup) : Type 0 where
  given : inputs_at B (stage_before B start S r) r ≡ given_by B start R r
  stores : (x : Cell) → is_used x (uses_in B start R r) ≡ true → read (stage_before B start S r).store x ≡ read (stage_before B start R r).store x

module _ (B : Behaviour) (start : Store) (R S : List TxnGroup) (c : Agree B start R S) where
  given_R : (r : TxnGroup) → IsListed is_txn_group R r → inputs_at B (stage_before B start R r) r ≡ given_by B start R r
  given_R r h =
      same_inputs B (stage_before B start R r) (stage_behind B start R) r
      (all_weaker (λ d. IsListedBefore is_txn_group R d r) (λ d. (stage_before B start R r).yielded d ≡ (stage_behind B start R).yielded d)
      (λ d b. yielded-before B R (first_stage start) r d c.once_R b ∙ sym (yielded_at B R (first_stage start) d c.once_R (listed_by_before is_txn_group R d r b)))
      (needs B r) (c.needs_R r h))

  does_same : (r : TxnGroup) → IsListed is_txn_group R r → Same B start R S r → DoesSame B r (given_by B start R r) (stage_before B start R r).store (stage_before B start S r).store
  does_same r h same =
      c.lawful.local r (given_by B start R r) (stage_before B start R r).store (stage_before B start S r).store
      (λ x u. sym (same.stores x (subst (λ g. is_used x (B.uses r g (stage_before B start R r).store) ≡ true) (sym (given_R r h)) u)))

  yield_same : (r : TxnGroup) → IsListed is_txn_group R r → Same B start R S r → yield_at B (stage_before B start S r) r ≡ yield_at B (stage_before B start R r) r
  yield_same r h same =
      ap (λ g. B.yields r g (stage_before B start S r).store) same.given
      ∙ sym (does_same r h same).yields
      ∙ ap (λ g. B.yields r g (stage_before B start R r).store) (sym (given_R r h))

  -- what r uses in S is what it uses in R
  uses_same : (r : TxnGroup) → IsListed is_txn_group R r → Same B start R S r → uses_in B start S r ≡ uses_in B start R r
  uses_same r h same =
      ap (λ g. B.uses r g (stage_before B start S r).store) same.given
      ∙ sym (does_same r h same).uses
      ∙ ap (λ g. B.uses r g (stage_before B start R r).store) (sym (given_R r h))

  given_S : (m : ℕ) → ((q : TxnGroup) → IsListed is_txn_group S q → IsListed is_txn_group R q → place_of (is_txn_group q) S < m → Same B start R S q) → (r : TxnGroup)
      → IsListed is_txn_group S r → place_of (is_txn_group r) S ≤ m → inputs_at B (stage_before B start S r) r ≡ given_by B start R r
  given_S m ih r h l =
      same_inputs B (stage_before B start S r) (stage_behind B start R) r
      (all_weaker (λ d. IsListed is_txn_group R d × IsListedBefore is_txn_group S d r) (λ d. (stage_before B start S r).yielded d ≡ (stage_behind B start R).yielded d)
      (λ d b.
      yielded-before B S (first_stage start) r d c.once_S b.1
      ∙ yield_same d b.0 (ih d (listed_by_before is_txn_group S d r b.1) b.0 (omega arith))
      ∙ sym (yielded_at B R (first_stage start) d c.once_R b.0))
      (needs B r) (c.needs_S r h))

  after_same : (r : TxnGroup) (x : Cell) → IsListed is_txn_group R r → Same B start R S r → is_used x (uses_in B start R r) ≡ true
      → read (after_group B (stage_before B start S r) r).store x ≡ read (after_group B (stage_before B start R r) r).store x
  after_same r x h same u = go (is_written x (uses_in B start R r)) refl
    where
      go : (b : Bool) → is_written x (uses_in B start R r) ≡ b → read (after_group B (stage_before B start S r) r).store x ≡ read (after_group B (stage_before B start R r) r).store x
      go true e =
          ap (λ t. read t x) (after-store B (stage_before B start S r) r)
          ∙ ap (λ g. read (B.after r g (stage_before B start S r).store) x) same.given
          ∙ sym ((does_same r h same).written x (subst (λ g. is_written x (B.uses r g (stage_before B start R r).store) ≡ true) (given_R r h) e))
          ∙ ap (λ g. read (B.after r g (stage_before B start R r).store) x) (sym (given_R r h))
          ∙ sym (ap (λ t. read t x) (after-store B (stage_before B start R r) r))
      go false e =
          kept_cell B c.lawful (stage_before B start S r) r x (subst (λ us. is_written x us ≡ false) (sym (uses_same r h same)) e)
          ∙ same.stores x u
          ∙ sym (kept_cell B c.lawful (stage_before B start R r) r x e)

  -- what stands in S uses the same, whether it ran or not
  uses_S : (m : ℕ) → ((q : TxnGroup) → IsListed is_txn_group S q → IsListed is_txn_group R q → place_of (is_txn_group q) S < m → Same B start R S q) → (q : TxnGroup)
      → IsListed is_txn_group S q → place_of (is_txn_group q) S < m → uses_in B start S q ≡ uses_in B start R q
  uses_S m ih q i l =
      elim (cases_lt (place_of (is_txn_group q) R) (length R)) [
        | inl k ↦ uses_same q k (ih q i k l)
        | inr k ↦
            (let n : ¬ IsListed is_txn_group R q = λ j. absurd (omega arith) in
            ap (λ g. B.uses q g (stage_before B start S q).store) (given_S m ih q i (omega arith))
            ∙ c.steady q i n (given_by B start R q) (stage_before B start S q).store (stage_before B start R q).store
            ∙ ap (λ F. B.uses q (inputs_at B (stage_behind B start F) q) (stage_before B start R q).store) (sym (before_absent R q n)))
      ]

  -- whether a run may write x
  abbrev may_write : Cell → TxnGroup → Bool
  may_write x q = is_written x (uses_in B start R q)

  last_R : (r : TxnGroup) (x : Cell) → IsListed is_txn_group R r → LastWrite B (first_stage start) (groups_before r R) x (may_write x)
  last_R r x h =
      value B (groups_before r R) (first_stage start) x (may_write x) (none_twice_before R r c.once_R)
      (λ q i e.
      let b = from_before R r q i in
      subst (λ F. read (after_group B (stage_behind B start F) q).store x ≡ read (stage_behind B start F).store x) (sym (before_before R r q b))
      (kept_cell B c.lawful (stage_before B start R q) q x e))

  last_S : (m : ℕ) → ((q : TxnGroup) → IsListed is_txn_group S q → IsListed is_txn_group R q → place_of (is_txn_group q) S < m → Same B start R S q)
      → (r : TxnGroup) (x : Cell) → IsListed is_txn_group S r → place_of (is_txn_group r) S ≤ m → LastWrite B (first_stage start) (groups_before r S) x (may_write x)
  last_S m ih r x h l =
      value B (groups_before r S) (first_stage start) x (may_write x) (none_twice_before S r c.once_S)
      (λ q i e.
      let b = from_before S r q i in
      subst (λ F. read (after_group B (stage_behind B start F) q).store x ≡ read (stage_behind B start F).store x) (sym (before_before S r q b))
      (kept_cell B c.lawful (stage_before B start S q) q x (subst (λ xs. is_written x xs ≡ false) (sym (uses_S m ih q (listed_by_before is_txn_group S q r b) (omega arith))) e)))

  -- a run that may write x before r in R stands before r in S
  to_S : (r w : TxnGroup) (x : Cell) → IsListed is_txn_group S r → IsListed is_txn_group R r → is_used x (uses_in B start R r) ≡ true → may_write x w ≡ true
      → IsListedBefore is_txn_group R w r → IsListedBefore is_txn_group S w r
  to_S r w x i j u v b =
      let k = listed_by_before is_txn_group R w r b in
      c.order w r (c.writers w r x i k j b v u) i k j
      (record { cell = x; first = written_used x (uses_in B start R w) v; second = u; one_writes = or_left (may_write x w) (may_write x r) v }) b

  -- and one before r in S stands before r in R
  to_R : (r w : TxnGroup) (x : Cell) → IsListed is_txn_group S r → IsListed is_txn_group R r → is_used x (uses_in B start R r) ≡ true → may_write x w ≡ true
      → IsListedBefore is_txn_group S w r → IsListedBefore is_txn_group R w r
  to_R r w x i j u v b =
      let k = listed_by_before is_txn_group S w r b in
      let there : Conflict B start R w r = record { cell = x; first = written_used x (uses_in B start R w) v; second = u; one_writes = or_left (may_write x w) (may_write x r) v } in
      let back : Conflict B start R r w = record { cell = x; first = u; second = written_used x (uses_in B start R w) v; one_writes = or_right (may_write x r) (may_write x w) v } in
      elim (cases_lt (place_of (is_txn_group w) R) (length R)) [
        | inr n ↦ (let o = c.absent_later w r k i (λ h. absurd (omega arith)) j there in absurd (omega arith))
        | inl h ↦
            elim (cases_order (place_of (is_txn_group w) R) (place_of (is_txn_group r) R)) [
              | inl e ↦ (let f = ap (λ a. place_of (is_txn_group a) S) (one_place R w r h e) in absurd (omega arith))
              | inr (inl l) ↦ l
              | inr (inr l) ↦ (let o = c.order r w i k j h back l in absurd (omega arith))
            ]
      ]

  -- two runs that may write x stand in R as in S
  in_order : (q w : TxnGroup) (x : Cell) → IsListed is_txn_group S q → IsListed is_txn_group S w → IsListed is_txn_group R q → IsListed is_txn_group R w
      → may_write x q ≡ true → may_write x w ≡ true → IsListedBefore is_txn_group R q w → IsListedBefore is_txn_group S q w
  in_order q w x i j k l u v b =
      c.order q w i j k l (record { cell = x; first = written_used x (uses_in B start R q) u; second = written_used x (uses_in B start R w) v; one_writes = or_left (may_write x q) (may_write x w) u }) b

  same_last : (q w : TxnGroup) (x : Cell) → IsListed is_txn_group S q → IsListed is_txn_group S w → IsListed is_txn_group R q → IsListed is_txn_group R w
      → may_write x q ≡ true → may_write x w ≡ true → place_of (is_txn_group q) R ≤ place_of (is_txn_group w) R
      → place_of (is_txn_group w) S ≤ place_of (is_txn_group q) S → q ≡ w
  same_last q w x i j k l u v a b =
      elim (cases_lt (place_of (is_txn_group q) R) (place_of (is_txn_group w) R)) [
        | inl h ↦ (let o = in_order q w x i j k l u v h in absurd (omega arith))
        | inr h ↦ one_place R q w k (omega arith)
      ]

  stores_same : (r : TxnGroup) (x : Cell) → IsListed is_txn_group S r → IsListed is_txn_group R r → is_used x (uses_in B start R r) ≡ true
      → ((q : TxnGroup) → IsListed is_txn_group S q → IsListed is_txn_group R q → IsListedBefore is_txn_group S q r → Same B start R S q)
      → LastWrite B (first_stage start) (groups_before r R) x (may_write x) → LastWrite B (first_stage start) (groups_before r S) x (may_write x)
      → read (stage_before B start S r).store x ≡ read (stage_before B start R r).store x
  stores_same r x i j u ih (nobody n v) (nobody m z) = z ∙ sym v
  stores_same r x i j u ih (nobody n v) (last w k t m z) =
      absurd (false≢true (sym (n w (listed_before R r w (to_R r w x i j u t (from_before S r w k)))) ∙ t))
  stores_same r x i j u ih (last w k t m z) (nobody n v) =
      absurd (false≢true (sym (n w (listed_before S r w (to_S r w x i j u t (from_before R r w k)))) ∙ t))
  stores_same r x i j u ih (last w k t m z) (last q l s n y) =
      let wR = from_before R r w k in
      let wS = to_S r w x i j u t wR in
      let qS = from_before S r q l in
      let qR = to_R r q x i j u s qS in
      let a = m q (listed_before R r q qR) s in
      let b = n w (listed_before S r w wS) t in
      let e = same_last q w x (listed_by_before is_txn_group S q r qS) (listed_by_before is_txn_group S w r wS) (listed_by_before is_txn_group R q r qR) (listed_by_before is_txn_group R w r wR) s t
      (omega (arith, place_before R r q, place_before R r w)) (omega (arith, place_before S r q, place_before S r w)) in
      y
      ∙ ap (λ F. read (after_group B (stage_behind B start F) q).store x) (before_before S r q qS)
      ∙ ap (λ p. read (after_group B (stage_before B start S p) p).store x) e
      ∙ after_same w x (listed_by_before is_txn_group R w r wR) (ih w (listed_by_before is_txn_group S w r wS) (listed_by_before is_txn_group R w r wR) wS) (written_used x (uses_in B start R w) t)
      ∙ sym (ap (λ F. read (after_group B (stage_behind B start F) w).store x) (before_before R r w wR))
      ∙ sym z

  main : (m : ℕ) (r : TxnGroup) → IsListed is_txn_group S r → IsListed is_txn_group R r → place_of (is_txn_group r) S < m → Same B start R S r
  main zero r i j l = absurd (omega arith)
  main (suc m) r i j l =
      let ih = main m in
      record {
        given = given_S m ih r i (omega arith);
        stores = λ x u. stores_same r x i j u (λ q k h b. ih q k h (omega arith)) (last_R r x j) (last_S m ih r x i (omega arith));
      }

  pub agree : (r : TxnGroup) → IsListed is_txn_group R r → IsListed is_txn_group S r → account B start S r ≡ account B start R r
  unfolding account_at
  agree r j i =
      let same = main (suc (place_of (is_txn_group r) S)) r i j (omega arith) in
      let g = same.given ∙ sym (given_R r j) in
      let u = uses_same r j same in
      let found : map (λ v. read (stage_before B start S r).store v.cell) (uses_in B start S r) ≡ map (λ v. read (stage_before B start R r).store v.cell) (uses_in B start R r) =
      ap (map (λ v. read (stage_before B start S r).store v.cell)) u
      ∙ map_used (read (stage_before B start S r).store) (read (stage_before B start R r).store) (uses_in B start R r) same.stores in
      let left : map (λ v. read (after_group B (stage_before B start S r) r).store v.cell) (uses_in B start S r) ≡ map (λ v. read (after_group B (stage_before B start R r) r).store v.cell) (uses_in B start R r) =
      ap (map (λ v. read (after_group B (stage_before B start S r) r).store v.cell)) u
      ∙ map_used (read (after_group B (stage_before B start S r) r).store) (read (after_group B (stage_before B start R r) r).store) (uses_in B start R r) (λ x k. after_same r x j same k) in
      let y = yield_same r j same in
      λ i. record { inputs = g i; uses = u i; found = found i; left = left i; yield = y i }

  ends : (x : Cell) → ((q : TxnGroup) → IsListed is_txn_group R q → may_write x q ≡ true → IsListed is_txn_group S q)
      → ((q : TxnGroup) → IsListed is_txn_group S q → may_write x q ≡ true → IsListed is_txn_group R q) → LastWrite B (first_stage start) R x (may_write x)
      → LastWrite B (first_stage start) S x (may_write x) → read (stage_behind B start S).store x ≡ read (stage_behind B start R).store x
  ends x to from (nobody n v) (nobody m z) = z ∙ sym v
  ends x to from (nobody n v) (last q l s m y) = absurd (false≢true (sym (n q (from q l s)) ∙ s))
  ends x to from (last w k t m z) (nobody n v) = absurd (false≢true (sym (n w (to w k t)) ∙ t))
  ends x to from (last w k t m z) (last q l s n y) =
      let wS = to w k t in
      let qR = from q l s in
      y
      ∙ ap (λ p. read (after_group B (stage_before B start S p) p).store x) (same_last q w x l wS qR k s t (m q qR s) (n w wS t))
      ∙ after_same w x k (main (length S) w wS k wS) (written_used x (uses_in B start R w) t)
      ∙ sym z

  -- a cell holds the same in the end where whoever may write it in one list stands in the other
  pub last_same : (x : Cell) → ((q : TxnGroup) → IsListed is_txn_group R q → may_write x q ≡ true → IsListed is_txn_group S q)
      → ((q : TxnGroup) → IsListed is_txn_group S q → may_write x q ≡ true → IsListed is_txn_group R q)
      → read (stage_behind B start S).store x ≡ read (stage_behind B start R).store x
  last_same x to from =
      ends x to from
      (value B R (first_stage start) x (may_write x) c.once_R (λ q i e. kept_cell B c.lawful (stage_before B start R q) q x e))
      (value B S (first_stage start) x (may_write x) c.once_S
      (λ q i e. kept_cell B c.lawful (stage_before B start S q) q x (subst (λ xs. is_written x xs ≡ false) (sym (uses_S (length S) (λ q i j l. main (length S) q i j l) q i i)) e)))
