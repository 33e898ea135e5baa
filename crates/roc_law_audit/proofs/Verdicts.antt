-- Verdicts over logs that fold
use Rattle.std.proofs.Common.{◌≡◌, ℕ, ◌<◌, List, [], ◌∷◌, Ok, Err, Result, refl, sym, ap, subst, inl, inr}
use Rattle.std.proofs.lemmas.Bool.{eq-eqb}
use Rattle.roc_sequence.specs.Lists.{Has}
use Rattle.roc_sequence.proofs.Holds.{has_any}
use Rattle.roc_sequence.proofs.Members.{has_map, has_right}
use Rattle.roc_base.specs.declared.id.TxnId.{TxnId}
use Rattle.roc_base.specs.declared.node.Node.{Node}
use Rattle.roc_base.specs.declared.node.Node.TheVariants.{Server}
use Rattle.roc_base.specs.declared.node.Shard.{Shard}
use Rattle.roc_plan.specs.Groups.{Plan}
use Rattle.roc_log.specs.declared.line.Log.{Log}
use Rattle.roc_judge.specs.declared.folded.Folded.{Folded}
use Rattle.roc_judge.specs.declared.judgement.Judgement.{Judgement}
use Rattle.roc_judge.specs.declared.judgement.Judgement.TheVariants.{Yes}
use Rattle.roc_judge.specs.Judged.{IsJudged, answers_told}
use Rattle.roc_fold.specs.Folded.{IsFolded, IsFound}
use Rattle.roc_auditor.specs.declared.verdict.Verdict.{Verdict}
use Rattle.roc_auditor.specs.declared.verdict.Verdict.TheVariants.{Judged}
use Rattle.roc_auditor.specs.Verdict.{nodes_of, is_server_of, HaveNoGap, AreFolded, IsVerdict, a_mismatch, a_judgement}
use Rattle.roc_law_audit.specs.LogsOfRuns.{AreFoldsOf}

-- what logs tell one by one
pub folds_of : (plan : Plan) (logs : List Log) (folds : List Folded) → AreFolded plan logs folds → AreFoldsOf plan logs folds
folds_of plan [] [] are = record { each = λ f h. elim h [ ]; all = λ log h. elim h [ ] }
folds_of plan [] (f ∷ folds) are = elim are [ ]
folds_of plan (log ∷ logs) [] are = elim are [ ]
folds_of plan (log ∷ logs) (f ∷ folds) are = more (folds_of plan logs folds are.1)
  where
    more : AreFoldsOf plan logs folds → AreFoldsOf plan (log ∷ logs) (f ∷ folds)
    more rest =
        record {
          each = λ g h. elim h [
            | inl e ↦ (log, inl refl, subst (IsFolded plan log) (sym e) are.0)
            | inr k ↦ (let r = rest.each g k in (r.0, inr r.1, r.2))
          ];
          all = λ other h. elim h [
            | inl e ↦ (f, inl refl, subst (λ (l : Log). IsFolded plan l f) (sym e) are.0)
            | inr k ↦ (let r = rest.all other k in (r.0, inr r.1, r.2))
          ];
        }

module _ (plan : Plan) (logs : List Log) where
  pub no_gap : ((shard : Shard) → shard.0 < plan.program.shards → (log : Log) × Has log logs × (log.node ≡ Server shard)) → HaveNoGap plan logs
  no_gap all n h =
      let shard : Shard = record { 0 = n } in
      let l = all shard h in
      has_any (is_server_of n) (nodes_of logs) (Server shard) (subst (λ (node : Node). Has node (nodes_of logs)) l.2 (has_map (λ (log : Log). log.node) l.0 logs l.1)) (eq-eqb n n refl)

  module _ (one : (log : Log) (a b : Result Folded ℕ) → IsFound plan log a → IsFound plan log b → a ≡ b) (folded : (log : Log) → Has log logs → (f : Folded) × IsFolded plan log f)
      (judged : (folds : List Folded) → AreFoldsOf plan logs folds → (j : Judgement) → IsJudged plan.program folds j → (order : List TxnId) × (j ≡ Yes order (answers_told folds))) where
    pub verdict_yes : (verdict : Verdict) → IsVerdict plan logs verdict → (order : List TxnId) × (n : ℕ) × (verdict ≡ Judged (Yes order n))
    verdict_yes _ (a_mismatch place line m) =
        let here : Has m.log logs = subst (Has m.log) (sym m.parts) (has_right m.log m.before (m.log ∷ m.behind) (inl refl)) in
        let f = folded m.log here in
        absurd (let same = one m.log (Ok f.0) (Err line) f.1 m.is in cc)
    verdict_yes _ (a_judgement folds j are is) =
        let y = judged folds (folds_of plan logs folds are) j is in
        (y.0, answers_told folds, ap (λ (x : Judgement). Judged x) y.1)
