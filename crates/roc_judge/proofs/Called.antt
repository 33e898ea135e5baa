-- First submissions over several logs
use Rattle.std.proofs.Common.{◌≡◌, ◌+◌, Bool, true, false, cond, List, [], ◌∷◌, ◌++◌, Option, Some, None, refl, sym, ap, ◌∙◌}
use Rattle.roc_base.specs.declared.id.TxnId.{TxnId}
use Rattle.roc_base.specs.TxnId.{is_txn}
use Rattle.roc_whole.specs.Serial.{Call}
use Rattle.roc_audit.specs.declared.entry.Entry.{Entry}
use Rattle.roc_audit.specs.declared.entry.Entry.TheVariants.{Submitted, Answered}
use Rattle.roc_audit.specs.Witness.{submitted_call}
use Rattle.roc_judge.specs.declared.folded.Folded.{Folded}
use Rattle.roc_judge.specs.Before.{told}
use Rattle.roc_judge.specs.Inner.Sets.{first_of}

pub call_more : (t : TxnId) (h more : List Entry) → first_of (submitted_call t h) (submitted_call t more) ≡ submitted_call t (h ++ more)
call_more t [] more = refl
call_more t (Submitted u proc args ∷ h) more = go (is_txn u t) (call_more t h more)
  where
    go : (b : Bool) → first_of (submitted_call t h) (submitted_call t more) ≡ submitted_call t (h ++ more)
        → first_of (cond b (Some (record { id = t; procedure = proc; arguments = args })) (submitted_call t h)) (submitted_call t more)
        ≡ cond b (Some (record { id = t; procedure = proc; arguments = args })) (submitted_call t (h ++ more))
    go true ih = refl
    go false ih = ih
call_more t (Answered u reply ∷ h) more = call_more t h more

pub first_assoc : {A : Type 0} (a b c : Option A) → first_of (first_of a b) c ≡ first_of a (first_of b c)
first_assoc (Some x) b c = refl
first_assoc None b c = refl

pub calls_step : (t : TxnId) (was now : Option Call) (told_now : List Entry) (f : Folded) (left rest : List Folded)
    → now ≡ first_of was (submitted_call t told_now) → told_now ≡ f.told → left ≡ f ∷ rest
    → first_of now (submitted_call t (told rest)) ≡ first_of was (submitted_call t (told left))
calls_step t was now told_now f left rest e s l =
    ap (λ o. first_of o (submitted_call t (told rest))) (e ∙ ap (λ es. first_of was (submitted_call t es)) s)
    ∙ (first_assoc was (submitted_call t f.told) (submitted_call t (told rest))
    ∙ (ap (first_of was) (call_more t f.told (told rest)) ∙ ap (λ fs. first_of was (submitted_call t (told fs))) (sym l)))
