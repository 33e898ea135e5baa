-- How a submission ends
use Rattle.std.proofs.Common.{◌≡◌, ℕ, ℤ, ◌<◌, ◌≤◌, ◌==◌, Bool, true, false, not, List, Some, None, length, refl, arith, nat_lt, sym, ◌∙◌}
use Rattle.std.proofs.lemmas.Bool.{eqb-true, false≢true}
use Rattle.std.proofs.lemmas.Bool.Decides.{nat_tests}
use Rattle.std.specs.Prelude.{nat_le, if◌then◌else◌}
use Rattle.roc_program.proofs.Transactions.{transaction_parts}
use Rattle.roc_plan.specs.Groups.{Plan, procedure_of, is_transaction, is_view_of}
use Rattle.roc_coord.specs.declared.handled.SubmitFault.TheVariants as fault
use Rattle.roc_coord.specs.State.{CoordState}
use Rattle.roc_coord.specs.Submit.{Submission, refused, refused_or_accepted, accepted, accepted_view, accepted_call, after_submit, new_transaction, next_id, most_transactions, most_pending}
use Rattle.roc_readonly.specs.Round.{first_round}
use Rattle.roc_law_protocol.specs.Aside.{after_transaction}

-- what comes of it: refused for the first reason that there is, or this, where the procedure is known
pub data IsSubmission (plan : Plan) (s : CoordState) (proc : ℕ) (args : List ℤ) (Known : Type 0) (accepts : Submission) : Submission → Type 0 where
  unknown : ¬ Known → IsSubmission plan s proc args Known accepts (refused s fault.NoProc)
  miscounted : (length args == (procedure_of plan proc).arguments) ≡ false → IsSubmission plan s proc args Known accepts (refused s fault.Args)
  spent : Known → length args ≡ (procedure_of plan proc).arguments → most_transactions ≤ s.next → IsSubmission plan s proc args Known accepts (refused s fault.Spent)
  busy : Known → length args ≡ (procedure_of plan proc).arguments → s.next < most_transactions → most_pending ≤ length s.unanswered
      → IsSubmission plan s proc args Known accepts (refused s fault.Busy)
  taken : Known → length args ≡ (procedure_of plan proc).arguments → s.next < most_transactions → length s.unanswered < most_pending
      → IsSubmission plan s proc args Known accepts accepts

module _ (plan : Plan) (s : CoordState) (proc : ℕ) (args : List ℤ) where
  -- of any procedure
  abbrev pub IsAnySubmission : Submission → Type 0
  IsAnySubmission r = IsSubmission plan s proc args (proc < length plan.program.procedures) (accepted_call plan s proc args) r

  pub any_submission_is : IsAnySubmission (after_submit plan s proc args)
  any_submission_is = there (nat_lt proc (length plan.program.procedures)) refl
    where
      free : (b : Bool) → nat_le most_pending (length s.unanswered) ≡ b → proc < length plan.program.procedures → length args ≡ (procedure_of plan proc).arguments → s.next < most_transactions
          → IsAnySubmission (refused_or_accepted plan s proc args (if b then Some fault.Busy else None))
      free true e known counted l = busy known counted l (grind (arith, nat_tests))
      free false e known counted l = taken known counted l (grind (arith, nat_tests))

      unspent : (b : Bool) → nat_le most_transactions s.next ≡ b → proc < length plan.program.procedures → length args ≡ (procedure_of plan proc).arguments
          → IsAnySubmission (refused_or_accepted plan s proc args (if b then Some fault.Spent else if nat_le most_pending (length s.unanswered) then Some fault.Busy else None))
      unspent true e known counted = spent known counted (grind (arith, nat_tests))
      unspent false e known counted = free (nat_le most_pending (length s.unanswered)) refl known counted (grind (arith, nat_tests))

      arguments : (b : Bool) → (length args == (procedure_of plan proc).arguments) ≡ b → proc < length plan.program.procedures
          → IsAnySubmission (refused_or_accepted plan s proc args (if not b then Some fault.Args else if nat_le most_transactions s.next then Some fault.Spent else if nat_le most_pending (length s.unanswered) then Some fault.Busy else None))
      arguments true e known = unspent (nat_le most_transactions s.next) refl known (eqb-true (length args) (procedure_of plan proc).arguments e)
      arguments false e known = miscounted e

      there : (b : Bool) → nat_lt proc (length plan.program.procedures) ≡ b
          → IsAnySubmission (refused_or_accepted plan s proc args (if not b then Some fault.NoProc else if not (length args == (procedure_of plan proc).arguments) then Some fault.Args else if nat_le most_transactions s.next then Some fault.Spent else if nat_le most_pending (length s.unanswered) then Some fault.Busy else None))
      there true e = arguments (length args == (procedure_of plan proc).arguments) refl (grind (arith, nat_tests))
      there false e = unknown (λ l. grind (arith, nat_tests))

  -- of a transaction
  abbrev pub IsTransactionSubmission : Submission → Type 0
  IsTransactionSubmission r = IsSubmission plan s proc args (is_transaction plan proc ≡ true) (accepted plan s (new_transaction s proc args)) r

  pub submission_is : IsTransactionSubmission (after_transaction plan s proc args)
  submission_is = procedure (is_transaction plan proc) refl
    where
      accepts : is_transaction plan proc ≡ true → length args ≡ (procedure_of plan proc).arguments → s.next < most_transactions → length s.unanswered < most_pending
          → (b : Bool) → b ≡ false → IsTransactionSubmission (if b then accepted_view plan s (first_round (next_id s) proc args) else accepted plan s (new_transaction s proc args))
      accepts known counted l m true e = absurd (false≢true (sym e))
      accepts known counted l m false e = taken known counted l m

      go : (r : Submission) → IsAnySubmission r → is_transaction plan proc ≡ true → IsTransactionSubmission r
      go r (unknown none) known = absurd (none (transaction_parts plan.program proc known).there)
      go r (miscounted e) known = miscounted e
      go r (spent there counted l) known = spent known counted l
      go r (busy there counted l m) known = busy known counted l m
      go r (taken there counted l m) known = accepts known counted l m (is_view_of plan proc) (transaction_parts plan.program proc known).writes

      procedure : (b : Bool) → is_transaction plan proc ≡ b → IsTransactionSubmission (if b then after_submit plan s proc args else refused s fault.NoProc)
      procedure true e = go (after_submit plan s proc args) any_submission_is e
      procedure false e = unknown (λ known. false≢true (sym e ∙ known))
