-- What an auditor has behind one log more
use Rattle.std.proofs.Common.{◌≡◌, ℕ, ◌+◌, ◌<◌, ◌≤◌, List, [], ◌∷◌, ◌++◌, length, get_or, take, Option, Some, refl, sym, ap, subst, ◌∙◌, append_assoc}
use Rattle.std.specs.List.{AllByRecursion}
use Rattle.std.proofs.lemmas.List.{map-append}
use Rattle.roc_sequence.proofs.Fronts.{front_more, front_whole}
use Rattle.roc_sequence.proofs.Holds.{all_at}
use Rattle.roc_base.specs.declared.node.Node.{Node}
use Rattle.roc_wire.specs.Fits.{FitsHeader}
use Rattle.roc_plan.specs.Groups.{Plan}
use Rattle.roc_log.specs.declared.line.Log.{Log}
use Rattle.roc_judge.specs.declared.folded.Folded.{Folded}
use Rattle.roc_fold.specs.Folded.{header_of, IsFolded, IsMismatchAt}
use Rattle.roc_auditor.specs.declared.auditor.Auditor.{Auditor}
use Rattle.roc_auditor.specs.Taken.{HasFound, HasTaken}
use Rattle.roc_auditor.specs.Verdict.{AreFolded, IsFirstMismatch}

-- one more that folds
pub folded_behind : (plan : Plan) (logs : List Log) (folds : List Folded) (log : Log) (fold : Folded)
    → AreFolded plan logs folds → IsFolded plan log fold → AreFolded plan (logs ++ log ∷ []) (folds ++ fold ∷ [])
folded_behind plan [] [] log fold are is = (is, tt)
folded_behind plan [] (f ∷ fs) log fold are is = absurd are
folded_behind plan (l ∷ ls) [] log fold are is = absurd are
folded_behind plan (l ∷ ls) (f ∷ fs) log fold are is = (are.0, folded_behind plan ls fs log fold are.1 is)

-- one behind the first that does not
pub mismatch_stays : (plan : Plan) (logs : List Log) (log : Log) (place line : ℕ) → IsFirstMismatch plan logs place line → IsFirstMismatch plan (logs ++ log ∷ []) place line
mismatch_stays plan logs log place line h = record {
  before = h.before;
  log = h.log;
  behind = h.behind ++ log ∷ [];
  folds = h.folds;
  parts = ap (λ (ls : List Log). ls ++ log ∷ []) h.parts ∙ append_assoc h.before (h.log ∷ h.behind) (log ∷ []);
  at = h.at;
  folded = h.folded;
  is = h.is;
}

-- the first that does not, behind those that do
pub mismatch_behind : (plan : Plan) (logs : List Log) (folds : List Folded) (log : Log) (place line : ℕ)
    → AreFolded plan logs folds → IsMismatchAt plan log line → place ≡ length logs → IsFirstMismatch plan (logs ++ log ∷ []) place line
mismatch_behind plan logs folds log place line are is at = record { before = logs; log = log; behind = []; folds = folds; parts = refl; at = at; folded = are; is = is }

-- several, one after another
pub taken_more : (plan : Plan) (before logs : List Log) (i : ℕ) (log : Log) (a : Auditor) → i < length logs → log ≡ get_or logs i log
    → HasTaken plan ((before ++ take i logs) ++ log ∷ []) a → HasTaken plan (before ++ take (i + 1) logs) a
taken_more plan before logs i log a within is h =
    subst (λ (ls : List Log). HasTaken plan ls a) (append_assoc before (take i logs) (log ∷ []) ∙ ap (λ (ls : List Log). before ++ ls) (front_more logs i log within is)) h

pub taken_all : (plan : Plan) (before logs : List Log) (i : ℕ) (a : Auditor) → length logs ≤ i → HasTaken plan (before ++ take i logs) a → HasTaken plan (before ++ logs) a
taken_all plan before logs i a past h = subst (λ (ls : List Log). HasTaken plan (before ++ ls) a) (front_whole logs i past) h

-- one of several that all fit
pub fits_at : (logs : List Log) (i : ℕ) (log : Log) → AllByRecursion (λ (l : Log). FitsHeader (header_of l)) logs → i < length logs → log ≡ get_or logs i log → FitsHeader (header_of log)
fits_at logs i log fit within is = subst (λ (l : Log). FitsHeader (header_of l)) (sym is) (all_at (λ (l : Log). FitsHeader (header_of l)) logs i log fit within)

-- one more, of which this was found
pub taken_behind : (plan : Plan) (logs : List Log) (log : Log) (old new : Auditor) → HasTaken plan logs old → new.nodes.items ≡ old.nodes.items ++ log.node ∷ []
    → HasFound plan (logs ++ log ∷ []) new.folds.items new.mismatch → HasTaken plan (logs ++ log ∷ []) new
taken_behind plan logs log old new taken added found = record {
  nodes = added ∙ ap (λ (ns : List Node). ns ++ log.node ∷ []) taken.nodes ∙ sym (map-append (λ (l : Log). l.node) logs (log ∷ []));
  found = found;
}

-- what stays
pub taken_still : (plan : Plan) (logs : List Log) (old new : Auditor) → new.nodes.items ≡ old.nodes.items → new.folds.items ≡ old.folds.items → new.mismatch ≡ old.mismatch
    → HasTaken plan logs old → HasTaken plan logs new
taken_still plan logs old new nodes folds mismatch h = record {
  nodes = nodes ∙ h.nodes;
  found = subst (λ (m : Option (ℕ × ℕ)). HasFound plan logs new.folds.items m) (sym mismatch) (subst (λ (fs : List Folded). HasFound plan logs fs old.mismatch) (sym folds) h.found);
}

-- behind a mismatch nothing is found
pub taken_past : (plan : Plan) (logs : List Log) (log : Log) (old new : Auditor) (found : ℕ × ℕ) → old.mismatch ≡ Some found → new.mismatch ≡ old.mismatch
    → new.nodes.items ≡ old.nodes.items ++ log.node ∷ [] → HasTaken plan logs old → HasTaken plan (logs ++ log ∷ []) new
taken_past plan logs log old new found is same added taken =
    taken_behind plan logs log old new taken added
    (subst (λ (m : Option (ℕ × ℕ)). HasFound plan (logs ++ log ∷ []) new.folds.items m) (sym (same ∙ is))
    (mismatch_stays plan logs log found.0 found.1 (subst (λ (m : Option (ℕ × ℕ)). HasFound plan logs old.folds.items m) is taken.found)))
