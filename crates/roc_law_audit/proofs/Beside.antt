-- From the world with views to that of transactions, where no view was submitted
use Rattle.std.proofs.Common.{◌≡◌, Bool, false, List, [], ◌∷◌, ◌++◌, refl, sym, ap, subst, ◌∙◌, append_assoc}
use Rattle.roc_base.specs.declared.id.TxnId.{TxnId}
use Rattle.roc_plan.specs.Groups.{Plan}
use Rattle.roc_audit.specs.declared.entry.Entry.{Entry}
use Rattle.roc_audit.specs.Woven.{without_views}
use Rattle.roc_step.specs.State.{ServerState}
use Rattle.roc_law_protocol.specs.Happens.{RanAt}
use Rattle.roc_law_protocol.specs.Kept.{ran_in}
use Rattle.roc_law_protocol.specs.Run as their_runs
use Rattle.roc_law_world.specs.Beside.{TellsViews, AreStepsBeside, none_stepped, one_more_stepped}
use Rattle.roc_law_world.specs.Run.{Stepped}
use Rattle.roc_judge.specs.declared.folded.Folded.{Folded}
use Rattle.roc_law_audit.specs.InTheWorld.{AreOfRun, SubmitsNoView, all_ran}

abbrev pub no_view : TxnId → Bool
no_view t = false

pub tells_none : (plan : Plan) (history : List Entry) → SubmitsNoView plan history → TellsViews plan no_view history
tells_none plan history none t proc args h = sym (none t proc args h)

pub all_stay : (history : List Entry) → without_views no_view history ≡ history
all_stay [] = refl
all_stay (e ∷ history) = ap (λ (es : List Entry). e ∷ es) (all_stay history)

-- the same groups ran
pub ran_alike : (steps : List Stepped) (others : List their_runs.Stepped) → AreStepsBeside steps others → ran_in others ≡ all_ran steps
ran_alike _ _ none_stepped = refl
ran_alike _ _ (one_more_stepped {steps} {others} x y s components decided ran) =
    more others y ∙ ((λ i. ran_alike steps others s i ++ (ran i ++ [])) ∙ sym (some steps x))
  where
    more : (others : List their_runs.Stepped) (y : their_runs.Stepped) → ran_in (others ++ y ∷ []) ≡ ran_in others ++ (y.outcome.ran ++ [])
    more [] y = refl
    more (z ∷ zs) y = ap (λ (rs : List RanAt). z.outcome.ran ++ rs) (more zs y) ∙ sym (append_assoc z.outcome.ran (ran_in zs) (y.outcome.ran ++ []))

    some : (steps : List Stepped) (x : Stepped) → all_ran (steps ++ x ∷ []) ≡ all_ran steps ++ (x.outcome.ran ++ [])
    some [] x = refl
    some (z ∷ zs) x = ap (λ (rs : List RanAt). z.outcome.ran ++ rs) (some zs x) ∙ sym (append_assoc z.outcome.ran (all_ran zs) (x.outcome.ran ++ []))

-- by other names for the same
pub same_run : (plan : Plan) (folds : List Folded) (ran rans : List RanAt) (servers others : List ServerState) (history told : List Entry) (order ids : List TxnId)
    → rans ≡ ran → others ≡ servers → told ≡ history → ids ≡ order → AreOfRun plan ran servers history order folds → AreOfRun plan rans others told ids folds
same_run plan folds ran rans servers others history told order ids r s h o are =
    subst (λ x. AreOfRun plan x others told ids folds) (sym r)
    (subst (λ x. AreOfRun plan ran x told ids folds) (sym s)
    (subst (λ x. AreOfRun plan ran servers x ids folds) (sym h)
    (subst (λ x. AreOfRun plan ran servers history x folds) (sym o) are)))
