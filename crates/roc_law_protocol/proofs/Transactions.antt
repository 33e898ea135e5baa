-- Whether the plan has a procedure that may write
use Rattle.std.proofs.Common.{◌≡◌, ◌⊎◌, ℕ, ◌<◌, Bool, true, false, ◌&&◌, not, nat_lt, length, refl, ap, inl, inr, arith, zero, suc, ◌∙◌}
use Rattle.std.proofs.lemmas.Bool.Decides.{nat_tests}
use Rattle.std.proofs.lemmas.Bool.{cases_lt}
use Rattle.roc_plan.specs.Groups.{Plan, is_transaction, is_view_of}

abbrev pub HasTransaction : Plan → Type 0
HasTransaction plan = (proc : ℕ) × (is_transaction plan proc ≡ true)

abbrev pub NoTransaction : Plan → Type 0
NoTransaction plan = (proc : ℕ) → is_transaction plan proc ≡ false

-- a number passes, or none below n does
passes_or_none : (p : ℕ → Bool) (n : ℕ) → ((k : ℕ) × (p k ≡ true)) ⊎ ((k : ℕ) → k < n → p k ≡ false)
passes_or_none p zero = inr (λ k l. absurd (omega arith))
passes_or_none p (suc n) = go (p n) refl (passes_or_none p n)
  where
    go : (b : Bool) → p n ≡ b → ((k : ℕ) × (p k ≡ true)) ⊎ ((k : ℕ) → k < n → p k ≡ false) → ((k : ℕ) × (p k ≡ true)) ⊎ ((k : ℕ) → k < suc n → p k ≡ false)
    go b e (inl found) = inl found
    go true e (inr none) = inl (n, e)
    go false e (inr none) = inr (λ k l. elim (cases_lt k n) [ inl below ↦ none k below | inr past ↦ (let same : k ≡ n = omega arith in ap p same ∙ e) ])

pub transaction_or_none : (plan : Plan) → HasTransaction plan ⊎ NoTransaction plan
transaction_or_none plan = elim (passes_or_none (is_transaction plan) (length plan.program.procedures)) [
  | inl found ↦ inl found
  | inr none ↦ inr (λ proc. elim (cases_lt proc (length plan.program.procedures)) [
    | inl below ↦ none proc below
    | inr past ↦ (let e : nat_lt proc (length plan.program.procedures) ≡ false = grind (arith, nat_tests) in ap (λ b. b && not (is_view_of plan proc)) e)
  ])
]
