-- Over the logs of different nodes there is one verdict
use Rattle.std.proofs.Common.{◌≡◌, ◌⊎◌, inl, inr, ℕ, suc, ℤ, List, [], ◌∷◌, ◌++◌, length, get_or, drop, Result, Ok, Err, refl, sym, ap, subst, ◌∙◌}
use Rattle.roc_sequence.specs.Lists.{Has}
use Rattle.roc_sequence.specs.Places.{NoneTwice}
use Rattle.roc_sequence.proofs.Listed.{has_listed}
use Rattle.roc_sequence.proofs.Members.{has_append}
use Rattle.roc_base.specs.declared.id.TxnId.{TxnId}
use Rattle.roc_base.specs.declared.node.Node.{Node}
use Rattle.roc_base.specs.declared.node.Node.TheVariants.{Coord}
use Rattle.roc_base.specs.Node.{is_node}
use Rattle.roc_base.proofs.Nodes.{Decides-is_node}
use Rattle.roc_plan.specs.Groups.{Plan}
use Rattle.roc_log.specs.declared.line.Log.{Log}
use Rattle.roc_audit.specs.declared.entry.Entry.{Entry}
use Rattle.roc_audit.specs.declared.entry.Entry.TheVariants.{Submitted, Answered}
use Rattle.roc_audit.specs.History.{WasSubmitted, WasAnswered, IsToldOnce}
use Rattle.roc_audit.proofs.Histories.{submitted_front}
use Rattle.roc_judge.specs.declared.folded.Folded.{Folded}
use Rattle.roc_judge.specs.declared.judgement.Judgement.{Judgement}
use Rattle.roc_judge.specs.Before.{told}
use Rattle.roc_judge.specs.Judged.{IsJudged}
use Rattle.roc_fold.specs.Told.{told_of}
use Rattle.roc_fold.specs.Folded.{IsFolded, IsMismatchAt, IsFound}
use Rattle.roc_auditor.specs.declared.verdict.Verdict.{Verdict}
use Rattle.roc_auditor.specs.declared.verdict.Verdict.TheVariants.{Mismatch, Judged}
use Rattle.roc_auditor.specs.Verdict.{nodes_of, AreFolded, IsFirstMismatch, IsVerdict, a_mismatch, a_judgement}
use Rattle.roc_auditor.proofs.OneJudgement.{two_places, AnsweredOnce, judgements_are_one}

-- ---- one answer

pub parts_of_has : {A : Type 0} (a : A) (xs : List A) → Has a xs → (front : List A) × (behind : List A) × (xs ≡ front ++ a ∷ behind)
parts_of_has a [] h = absurd h
parts_of_has a (x ∷ xs) (inl e) = ([], xs, ap (λ y. y ∷ xs) (sym e))
parts_of_has a (x ∷ xs) (inr h) = let r = parts_of_has a xs h in (x ∷ r.0, r.1, ap (λ ys. x ∷ ys) r.2)

abbrev reply_of : (d : List ℤ) → Entry → List ℤ
reply_of d (Submitted t proc args) = d
reply_of d (Answered t reply) = reply

-- in what is told once
one_answer : (h : List Entry) (t : TxnId) (reply other : List ℤ) → IsToldOnce h → WasAnswered h t reply → WasAnswered h t other → reply ≡ other
one_answer h t reply other once w v =
    let p = parts_of_has (Answered t reply) h w in
    let q = parts_of_has (Answered t other) h v in
    elim (two_places p.0 q.0 (Answered t reply) (Answered t other) p.1 q.1 (sym p.2 ∙ q.2)) [
      | inl k ↦ absurd ((once.each p.0 p.1 (Answered t reply) p.2).1 other k)
      | inr m ↦ elim m [
        | inl k ↦ absurd ((once.each q.0 q.1 (Answered t other) q.2).1 reply k)
        | inr e ↦ ap (reply_of reply) e
      ]
    ]

-- what was answered in it was submitted in it
answered_submitted : (h : List Entry) (t : TxnId) (reply : List ℤ) → IsToldOnce h → WasAnswered h t reply → WasSubmitted h t
answered_submitted h t reply once w =
    let p = parts_of_has (Answered t reply) h w in
    subst (λ (es : List Entry). WasSubmitted es t) (sym p.2) (submitted_front p.0 (Answered t reply ∷ p.1) t ((once.each p.0 p.1 (Answered t reply) p.2).0))

ok_same : (f g : Folded) → ◌≡◌ {A = Result Folded ℕ} (Ok f) (Ok g) → f ≡ g
ok_same f g e = ap fold e
  where
    fold : Result Folded ℕ → Folded
    fold (Ok h) = h
    fold (Err n) = f

err_same : (m n : ℕ) → ◌≡◌ {A = Result Folded ℕ} (Err m) (Err n) → m ≡ n
err_same m n e = ap number e
  where
    number : Result Folded ℕ → ℕ
    number (Ok h) = m
    number (Err k) = k

ok_err : (f : Folded) (n : ℕ) → ◌≡◌ {A = Result Folded ℕ} (Ok f) (Err n) → ⊥
ok_err f n e = absurd cc

module _ (plan : Plan) (one : (log : Log) (a b : Result Folded ℕ) → IsFound plan log a → IsFound plan log b → a ≡ b)
    (once : (log : Log) (fold : Folded) → IsFolded plan log fold → IsToldOnce (told_of log)) (own : (log : Log) (t : TxnId) → WasSubmitted (told_of log) t → log.node ≡ Coord t.coord) where
  -- whose log tells an answer
  answered_own : (log : Log) (fold : Folded) (t : TxnId) (reply : List ℤ) → IsFolded plan log fold → WasAnswered fold.told t reply → log.node ≡ Coord t.coord
  answered_own log fold t reply is w =
      own log t (answered_submitted (told_of log) t reply (once log fold is) (subst (λ (es : List Entry). WasAnswered es t reply) is.told w))

  answered_there : (logs : List Log) (folds : List Folded) (t : TxnId) (reply : List ℤ) → AreFolded plan logs folds → WasAnswered (told folds) t reply → Has (Coord t.coord) (nodes_of logs)
  answered_there [] [] t reply are w = w
  answered_there [] (fold ∷ folds) t reply are w = absurd are
  answered_there (log ∷ logs) [] t reply are w = absurd are
  answered_there (log ∷ logs) (fold ∷ folds) t reply are w = elim (has_append (Answered t reply) fold.told (told folds) w) [
    | inl h ↦ inl (sym (answered_own log fold t reply are.0 h))
    | inr h ↦ inr (answered_there logs folds t reply are.1 h)
  ]

  answered_elsewhere : (log : Log) (logs : List Log) (fold : Folded) (folds : List Folded) (t : TxnId) (reply other : List ℤ) → NoneTwice is_node (nodes_of (log ∷ logs)) → IsFolded plan log fold
      → AreFolded plan logs folds → WasAnswered fold.told t reply → ¬ WasAnswered (told folds) t other
  answered_elsewhere log logs fold folds t reply other apart is are w v =
      apart.0 (has_listed is_node (λ a b. (Decides-is_node a b).0) (λ a. (Decides-is_node a a).1 refl) (nodes_of logs) log.node
      (subst (λ (n : Node). Has n (nodes_of logs)) (sym (answered_own log fold t reply is w)) (answered_there logs folds t other are v)))

  answered_once : (logs : List Log) (folds : List Folded) → NoneTwice is_node (nodes_of logs) → AreFolded plan logs folds → AnsweredOnce folds
  answered_once [] [] apart are t reply other w v = absurd w
  answered_once [] (fold ∷ folds) apart are t reply other w v = absurd are
  answered_once (log ∷ logs) [] apart are t reply other w v = absurd are
  answered_once (log ∷ logs) (fold ∷ folds) apart are t reply other w v =
      go (answered_once logs folds apart.1 are.1 t reply other) (has_append (Answered t reply) fold.told (told folds) w) (has_append (Answered t other) fold.told (told folds) v)
    where
      go : (WasAnswered (told folds) t reply → WasAnswered (told folds) t other → reply ≡ other)
          → WasAnswered fold.told t reply ⊎ WasAnswered (told folds) t reply → WasAnswered fold.told t other ⊎ WasAnswered (told folds) t other → reply ≡ other
      go ih (inl h) (inl k) = one_answer fold.told t reply other (subst IsToldOnce (sym are.0.told) (once log fold are.0)) h k
      go ih (inl h) (inr k) = absurd (answered_elsewhere log logs fold folds t reply other apart are.0 are.1 h k)
      go ih (inr h) (inl k) = absurd (answered_elsewhere log logs fold folds t other reply apart are.0 are.1 k h)
      go ih (inr h) (inr k) = ih h k

  -- ---- folds and mismatches

  folds_alike : (logs : List Log) (folds others : List Folded) → AreFolded plan logs folds → AreFolded plan logs others → folds ≡ others
  folds_alike [] [] [] are are' = refl
  folds_alike [] [] (g ∷ gs) are are' = absurd are'
  folds_alike [] (f ∷ fs) others are are' = absurd are
  folds_alike (log ∷ logs) [] others are are' = absurd are
  folds_alike (log ∷ logs) (f ∷ fs) [] are are' = absurd are'
  folds_alike (log ∷ logs) (f ∷ fs) (g ∷ gs) are are' =
      let e = ok_same f g (one log (Ok f) (Ok g) are.0 are'.0) in
      let es = folds_alike logs fs gs are.1 are'.1 in
      λ i. e i ∷ es i

  -- a log that folds has no mismatch
  no_mismatch : (log : Log) (fold : Folded) (line : ℕ) → IsFolded plan log fold → ¬ IsMismatchAt plan log line
  no_mismatch log fold line is bad = ok_err fold line (one log (Ok fold) (Err line) is bad)

  not_all : (before behind : List Log) (log : Log) (line : ℕ) (folds : List Folded) → AreFolded plan (before ++ log ∷ behind) folds → ¬ IsMismatchAt plan log line
  not_all [] behind log line [] are = absurd are
  not_all [] behind log line (f ∷ fs) are = no_mismatch log f line are.0
  not_all (l ∷ ls) behind log line [] are = absurd are
  not_all (l ∷ ls) behind log line (f ∷ fs) are = not_all ls behind log line fs are.1

  mismatches_alike : (before back behind rest : List Log) (log other : Log) (line number : ℕ) (folds others : List Folded) → before ++ log ∷ behind ≡ back ++ other ∷ rest
      → AreFolded plan before folds → AreFolded plan back others → IsMismatchAt plan log line → IsMismatchAt plan other number → (length before ≡ length back) × (line ≡ number)
  mismatches_alike [] [] behind rest log other line number folds others e are are' bad bad' =
      (refl, err_same line number (one log (Err line) (Err number) bad (subst (λ (l : Log). IsMismatchAt plan l number) (sym (ap (λ ls. get_or ls 0 log) e)) bad')))
  mismatches_alike [] (m ∷ ms) behind rest log other line number folds [] e are are' bad bad' = absurd are'
  mismatches_alike [] (m ∷ ms) behind rest log other line number folds (g ∷ gs) e are are' bad bad' =
      absurd (no_mismatch m g line are'.0 (subst (λ (l : Log). IsMismatchAt plan l line) (ap (λ ls. get_or ls 0 log) e) bad))
  mismatches_alike (l ∷ ls) [] behind rest log other line number [] others e are are' bad bad' = absurd are
  mismatches_alike (l ∷ ls) [] behind rest log other line number (f ∷ fs) others e are are' bad bad' =
      absurd (no_mismatch l f number are.0 (subst (λ (k : Log). IsMismatchAt plan k number) (sym (ap (λ ls. get_or ls 0 l) e)) bad'))
  mismatches_alike (l ∷ ls) (m ∷ ms) behind rest log other line number [] others e are are' bad bad' = absurd are
  mismatches_alike (l ∷ ls) (m ∷ ms) behind rest log other line number (f ∷ fs) [] e are are' bad bad' = absurd are'
  mismatches_alike (l ∷ ls) (m ∷ ms) behind rest log other line number (f ∷ fs) (g ∷ gs) e are are' bad bad' =
      let r = mismatches_alike ls ms behind rest log other line number fs gs (ap (drop 1) e) are.1 are'.1 bad bad' in
      (ap suc r.0, r.1)

  -- ---- verdicts

  mismatch_one : (logs : List Log) (place line : ℕ) → IsFirstMismatch plan logs place line → (w : Verdict) → IsVerdict plan logs w → Mismatch place line ≡ w
  mismatch_one logs place line h _ (a_mismatch other number k) =
      let r = mismatches_alike h.before k.before h.behind k.behind h.log k.log line number h.folds k.folds (sym h.parts ∙ k.parts) h.folded k.folded h.is k.is in
      let e : place ≡ other = h.at ∙ (r.0 ∙ sym k.at) in
      λ i. Mismatch (e i) (r.1 i)
  mismatch_one logs place line h _ (a_judgement folds j are is) = absurd (not_all h.before h.behind h.log line folds (subst (λ (ls : List Log). AreFolded plan ls folds) h.parts are) h.is)

  judged_one : (logs : List Log) (folds : List Folded) (j : Judgement) → NoneTwice is_node (nodes_of logs) → AreFolded plan logs folds → IsJudged plan.program folds j
      → (w : Verdict) → IsVerdict plan logs w → Judged j ≡ w
  judged_one logs folds j apart are is _ (a_mismatch place line h) = absurd (not_all h.before h.behind h.log line folds (subst (λ (ls : List Log). AreFolded plan ls folds) h.parts are) h.is)
  judged_one logs folds j apart are is _ (a_judgement others k are' is') =
      ap (λ (x : Judgement). Judged x)
      (judgements_are_one plan.program folds (answered_once logs folds apart are) j k is
      (subst (λ (fs : List Folded). IsJudged plan.program fs k) (folds_alike logs others folds are' are) is'))

  pub one_verdict : (logs : List Log) (v w : Verdict) → NoneTwice is_node (nodes_of logs) → IsVerdict plan logs v → IsVerdict plan logs w → v ≡ w
  one_verdict logs _ w apart (a_mismatch place line h) k = mismatch_one logs place line h w k
  one_verdict logs _ w apart (a_judgement folds j are is) k = judged_one logs folds j apart are is w k
