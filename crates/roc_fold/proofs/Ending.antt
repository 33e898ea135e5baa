-- What is found at a log's end
use Rattle.std.proofs.Common.{◌≡◌, ◌≢◌, ℕ, zero, suc, ◌+◌, ◌<◌, arith, drop, List, [], ◌∷◌, Option, Some, None, Result, IfOk, length, sym, subst}
use Rattle.roc_base.specs.declared.node.Node.{Node}
use Rattle.roc_plan.specs.Groups.{Plan}
use Rattle.roc_wire.specs.declared.header.Header.{Header}
use Rattle.roc_log.specs.declared.line.LogLine.{LogLine}
use Rattle.roc_fold.specs.Fold.{Folding, first_core, FoldsTo}
use Rattle.roc_fold.specs.Folded.{IsMismatchOf, at_line, at_end}
use Rattle.roc_base.specs.declared.memory.NoMemory.{NoMemory}
use Rattle.roc_judge.specs.declared.folded.Folded.{Folded}
use Rattle.roc_fold.specs.Folded.{IsFoundOf}
use Rattle.roc_fold.specs.Inner.Steps.{EndsBy}

pub refused_line : (plan : Plan) (header : Header) (node : Node) (lines : List LogLine) (h : Folding) (refused : Option ℕ) (number : ℕ) → refused ≡ Some number
    → EndsBy plan header (first_core plan node) lines h refused → IsMismatchOf plan header node lines number
refused_line plan header node lines h refused number e ends = go (subst (EndsBy plan header (first_core plan node) lines h) e ends)
  where
    go : EndsBy plan header (first_core plan node) lines h (Some number) → IsMismatchOf plan header node lines number
    go (front, line, behind, f, is, n, folds, refuses) = subst (IsMismatchOf plan header node lines) (sym n) (at_line front behind line f folds is refuses)

pub all_fold : (plan : Plan) (header : Header) (node : Node) (lines : List LogLine) (h : Folding) (refused : Option ℕ) → refused ≡ None
    → EndsBy plan header (first_core plan node) lines h refused → FoldsTo plan header (first_core plan node) lines h
all_fold plan header node lines h refused e ends = subst (EndsBy plan header (first_core plan node) lines h) e ends

pub lacks_line : (plan : Plan) (header : Header) (node : Node) (lines : List LogLine) (h : Folding) (number : ℕ) → FoldsTo plan header (first_core plan node) lines h → h.due ≢ []
    → number ≡ 2 + length lines → IsMismatchOf plan header node lines number
lacks_line plan header node lines h number folds n e = subst (IsMismatchOf plan header node lines) (sym e) (at_end h folds n)

pub some_due : (lines : List LogLine) (at : ℕ) → at < length lines → drop at lines ≢ []
some_due [] at h e = absurd (omega arith)
some_due (line ∷ lines) zero h e = absurd (cc)
some_due (line ∷ lines) (suc at) h e = some_due lines at (omega arith) e

pub found_alike : (plan : Plan) (header : Header) (node other : Node) (lines others : List LogLine) (r : Result (Result Folded ℕ) NoMemory) → other ≡ node → others ≡ lines
    → IfOk r (IsFoundOf plan header node lines) → IfOk r (IsFoundOf plan header other others)
found_alike plan header node other lines others r n l h =
    subst (λ (m : Node). IfOk r (IsFoundOf plan header m others)) (sym n) (subst (λ (ls : List LogLine). IfOk r (IsFoundOf plan header node ls)) (sym l) h)
