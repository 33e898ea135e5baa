-- In a list in order, those who asked for one list stand side by side
use Rattle.std.proofs.Common.{◌≡◌, ℕ, ◌-◌, ◌++◌, Bool, true, false, cond, List, [], ◌∷◌, length, filter, take, drop, refl, sym, ap, subst, ◌∙◌, inl, inr}
use Rattle.std.proofs.lemmas.List.{take_rest}
use Rattle.std.proofs.Math.Seq.{drop-append_seam, take-append_seam}
use Rattle.std.proofs.lemmas.Bool.{or_cases, and_parts}
use Rattle.std.specs.List.{AllByRecursion}
use Rattle.roc_sequence.proofs.Holds.{all_weaker}
use Rattle.roc_base.specs.declared.id.TxnId.{TxnId}
use Rattle.roc_base.specs.TxnId.{is_txn, txn_lt}
use Rattle.roc_base.specs.Equalities.{is_txn-true}
use Rattle.roc_base.proofs.Ids.{is_txn-eq, is_txn-swap, txn_lt-itself, txn_lt-asym, txn_lt-ne, txn_lt-trans, txn_cases}
use Rattle.roc_step.specs.declared.waits.Asker.{Asker}
use Rattle.roc_step.specs.Waits.{is_asker_before, askers_of, AreInOrder}

filter_none : {A : Type 0} (p : A → Bool) (xs : List A) → AllByRecursion (λ x. p x ≡ false) xs → filter p xs ≡ []
filter_none p [] h = refl
filter_none p (x ∷ xs) h = ap (λ b. cond b (x ∷ filter p xs) (filter p xs)) h.0 ∙ filter_none p xs h.1

module _ (id : TxnId) where
  abbrev below : Asker → Bool
  below a = txn_lt a.id id

  abbrev same : Asker → Bool
  same a = is_txn a.id id

  abbrev above : Asker → Bool
  above a = txn_lt id a.id

  -- what one that stands before another says of this
  module _ (a b : Asker) (h : is_asker_before a b ≡ true) where
    later : (P : TxnId → Type 0) → P a.id → (txn_lt a.id b.id ≡ true → P b.id) → P b.id
    later P own less =
        elim (or_cases (txn_lt a.id b.id) _ h) [
          | inl l ↦ less l
          | inr e ↦ subst P (is_txn-true a.id b.id (and_parts (is_txn a.id b.id) _ e).0) own
        ]

    not_below_same : a.id ≡ id → below b ≡ false
    not_below_same e = later (λ t. txn_lt t id ≡ false) (subst (λ t. txn_lt t id ≡ false) (sym e) (txn_lt-itself id)) (λ l. txn_lt-asym id b.id (subst (λ t. txn_lt t b.id ≡ true) e l))

    still_above : above a ≡ true → above b ≡ true
    still_above g = later (λ t. txn_lt id t ≡ true) g (λ l. txn_lt-trans id a.id b.id g l)

  not_below : (a : Asker) → above a ≡ true → below a ≡ false
  not_below a g = txn_lt-asym id a.id g

  not_same : (a : Asker) → above a ≡ true → same a ≡ false
  not_same a g = is_txn-swap a.id id ∙ txn_lt-ne id a.id g

  abbrev AreSides : List Asker → Type 0
  AreSides xs = xs ≡ filter below xs ++ (filter same xs ++ filter above xs)

  sides : (xs : List Asker) → AreInOrder is_asker_before xs → AreSides xs
  sides [] o = refl
  sides (x ∷ xs) o = elim (txn_cases x.id id) [ inl l ↦ lower (sides xs o.1) l | inr (inl e) ↦ equal (sides xs o.1) e | inr (inr g) ↦ upper (sides xs o.1) g ]
    where
      A : List Asker
      A = filter below xs

      B : List Asker
      B = filter same xs

      C : List Asker
      C = filter above xs

      Parts : (a b c : Bool) → Type 0
      Parts a b c = x ∷ xs ≡ cond a (x ∷ A) A ++ (cond b (x ∷ B) B ++ cond c (x ∷ C) C)

      are : (a b c : Bool) → below x ≡ a → same x ≡ b → above x ≡ c → Parts a b c → Parts (below x) (same x) (above x)
      are a b c e f g h = subst (λ a. Parts a (same x) (above x)) (sym e) (subst (λ b. Parts a b (above x)) (sym f) (subst (Parts a b) (sym g) h))

      lower : AreSides xs → below x ≡ true → Parts (below x) (same x) (above x)
      lower rest l = are true false false l (txn_lt-ne x.id id l) (txn_lt-asym x.id id l) (ap (λ l. x ∷ l) rest)

      equal : AreSides xs → x.id ≡ id → Parts (below x) (same x) (above x)
      equal rest e =
          let none : A ≡ [] = filter_none below xs (all_weaker (λ y. is_asker_before x y ≡ true) (λ y. below y ≡ false) (λ y h. not_below_same x y h e) xs o.0) in
          let low : below x ≡ false = subst (λ t. txn_lt t id ≡ false) (sym e) (txn_lt-itself id) in
          let high : above x ≡ false = subst (λ t. txn_lt id t ≡ false) (sym e) (txn_lt-itself id) in
          are false true false low (is_txn-eq x.id id e) high (ap (λ l. x ∷ l) (rest ∙ ap (λ l. l ++ (B ++ C)) none) ∙ ap (λ l. l ++ (x ∷ (B ++ C))) (sym none))

      upper : AreSides xs → above x ≡ true → Parts (below x) (same x) (above x)
      upper rest g =
          let all : AllByRecursion (λ y. above y ≡ true) xs = all_weaker (λ y. is_asker_before x y ≡ true) (λ y. above y ≡ true) (λ y h. still_above x y h g) xs o.0 in
          let none : A ≡ [] = filter_none below xs (all_weaker (λ y. above y ≡ true) (λ y. below y ≡ false) not_below xs all) in
          let nobody : B ≡ [] = filter_none same xs (all_weaker (λ y. above y ≡ true) (λ y. same y ≡ false) not_same xs all) in
          are false false true (not_below x g) (not_same x g) g (ap (λ l. x ∷ l) (rest ∙ (λ i. none i ++ (nobody i ++ C))) ∙ (λ i. sym none i ++ (sym nobody i ++ (x ∷ C))))

  module _ (askers : List Asker) (order : AreInOrder is_asker_before askers) (from len : ℕ) (from_is : from ≡ length (filter below askers)) (len_is : len ≡ length (filter same askers)) where
    abbrev behind : List Asker
    behind = take (length askers - from) (drop from askers)

    behind_is : behind ≡ filter same askers ++ filter above askers
    behind_is =
        take_rest askers from ∙ (λ i. drop (from_is i) (sides askers order i)) ∙ drop-append_seam (filter below askers) (filter same askers ++ filter above askers)

    pub run_is : take len behind ≡ askers_of id askers
    run_is = (λ i. take (len_is i) (behind_is i)) ∙ take-append_seam (filter same askers) (filter above askers)

    pub run_len : len ≡ length (take len behind)
    run_len = len_is ∙ sym (ap length run_is)
