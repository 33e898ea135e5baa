-- Behind a `Yes` the order vouches for what the logs tell
use Rattle.std.proofs.Common.{◌≡◌, ℕ, List, [], ◌∷◌, ◌++◌, map, Some, refl, sym, ap, subst, inr}
use Rattle.roc_sequence.specs.Lists.{Has}
use Rattle.roc_sequence.specs.Places.{IsListed, IsListedBefore}
use Rattle.roc_sequence.proofs.Members.{has_flat_map, from_has_map}
use Rattle.roc_base.specs.declared.id.TxnId.{TxnId}
use Rattle.roc_base.specs.TxnId.{is_txn}
use Rattle.roc_program.specs.Program.{Workload}
use Rattle.roc_audit.specs.declared.entry.Entry.{Entry}
use Rattle.roc_audit.specs.declared.entry.Entry.TheVariants.{Answered}
use Rattle.roc_audit.specs.History.{WasSubmitted, WasAnswered, IsAnsweredBefore}
use Rattle.roc_whole.specs.Serial.{start_store}
use Rattle.roc_audit.specs.Witness.{serial_reply_from}
use Rattle.roc_audit.proofs.Histories.{answered_by_before}
use Rattle.roc_precedence.specs.Orders.{IsLeastOrder}
use Rattle.roc_judge.specs.declared.folded.Folded.{Folded}
use Rattle.roc_judge.specs.declared.judgement.Judgement.TheVariants.{Yes}
use Rattle.roc_judge.specs.Before.{GoesBefore, candidates, told}
use Rattle.roc_judge.specs.Judged.{AnsweredAreDecided, DecidedAreSubmitted, RepliesAreRight, IsJudged, explained}
use Rattle.roc_judge.specs.Vouched.{IsVouched, all_told}

-- what a `Yes` rests on
pub record IsExplained (program : Workload) (folds : List Folded) (order : List TxnId) : Type 0 where
  pub decided : AnsweredAreDecided folds
  pub submitted : DecidedAreSubmitted folds
  pub least : IsLeastOrder (GoesBefore folds) (candidates folds) order
  pub right : RepliesAreRight program folds order order

pub explained_by : (program : Workload) (folds : List Folded) (order : List TxnId) (n : ℕ) → IsJudged program folds (Yes order n) → IsExplained program folds order
explained_by program folds _ _ (explained order d s l r) = record { decided = d; submitted = s; least = l; right = r }

told_is : (folds : List Folded) → all_told (map (λ f. f.told) folds) ≡ told folds
told_is [] = refl
told_is (f ∷ folds) = ap (λ (es : List Entry). f.told ++ es) (told_is folds)

module _ (program : Workload) (folds : List Folded) (order : List TxnId) (e : IsExplained program folds order) where
  in_time : (h : List Entry) → Has h (map (λ f. f.told) folds) → (t u : TxnId) → IsAnsweredBefore h t u → IsListed is_txn order u → IsListedBefore is_txn order t u
  in_time h has t u before l =
      let from = from_has_map (λ (f : Folded). f.told) h folds has in
      let there : IsAnsweredBefore (from.0).told t u = subst (λ (g : List Entry). IsAnsweredBefore g t u) from.2 before in
      let answer = answered_by_before (from.0).told t u there in
      let listed = e.decided t answer.0 (has_flat_map (λ (f : Folded). f.told) (Answered t answer.0) from.0 folds from.1 answer.1) in
      e.least.keeps t u listed (e.least.from u l) (from.0, from.1, inr (inr there))

  vouched : IsVouched program (map (λ f. f.told) folds) order
  vouched = record {
    once = e.least.once;
    submitted = λ t l. subst (λ (h : List Entry). WasSubmitted h t) (sym (told_is folds)) (e.submitted t (e.least.from t l));
    answered = λ t reply w. e.least.all t (e.decided t reply (subst (λ (h : List Entry). WasAnswered h t reply) (told_is folds) w));
    replies = λ t reply w. (
        let there : WasAnswered (told folds) t reply = subst (λ (h : List Entry). WasAnswered h t reply) (told_is folds) w in
        subst (λ (h : List Entry). serial_reply_from program (start_store program) h order t ≡ Some reply) (sym (told_is folds)) (e.right t reply (e.least.all t (e.decided t reply there)) there));
    real_time = in_time;
  }

pub yes_vouches : (program : Workload) (folds : List Folded) (order : List TxnId) (n : ℕ) → IsJudged program folds (Yes order n) → IsVouched program (map (λ f. f.told) folds) order
yes_vouches program folds order n j = vouched program folds order (explained_by program folds order n j)
