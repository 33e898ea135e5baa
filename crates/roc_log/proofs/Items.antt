-- The lines of a log one after the other, as a loop reads them.
use Rattle.std.proofs.Common.{◌≡◌, ℕ, ◌+◌, Bool, List, [], ◌∷◌, ◌++◌, append_assoc, Result, Ok, Err, refl, sym, ap, ◌∙◌}
use Rattle.std.proofs.lemmas.List.{append-nil}
use Rattle.roc_base.specs.declared.node.Node.{Node}
use Rattle.roc_program.specs.Program.{Workload}
use Rattle.roc_log.specs.declared.fault.What.{What}
use Rattle.roc_log.specs.declared.line.LogLine.{LogLine}
use Rattle.roc_log.specs.Reading.{further_line, ends}
use Rattle.roc_log.specs.Inner.Given.{onto, before_lines, lines_read}

-- what was read before, and what is still read
abbrev pub with_lines : List LogLine → Result (List LogLine) (ℕ × What) → Result (List LogLine) (ℕ × What)
with_lines front (Ok reads) = Ok (front ++ reads)
with_lines front (Err fault) = Err fault

pub lines_first : (behind : Result (List LogLine) (ℕ × What)) → with_lines [] behind ≡ behind
lines_first (Ok reads) = refl
lines_first (Err fault) = refl

regroup : (front : List LogLine) (read : LogLine) (behind : Result (List LogLine) (ℕ × What)) → with_lines front (onto read behind) ≡ with_lines (front ++ read ∷ []) behind
regroup front read (Ok reads) = ap (λ (xs : List LogLine). Ok xs) (sym (append_assoc front (read ∷ []) reads))
regroup front read (Err fault) = refl

module _ (program : Workload) (tag : List ℕ) (node : Node) (ended : Bool) (front : List LogLine) (number : ℕ) (line : List ℕ) (lines : List (List ℕ))
    (total : Result (List LogLine) (ℕ × What)) (so_far : with_lines front (lines_read program tag node ended number (line ∷ lines)) ≡ total) where
  abbrev behind : LogLine → Result (List LogLine) (ℕ × What)
  behind read = lines_read program tag node (ends node read) (number + 1) lines

  pub line_goes_on : (read : LogLine) (last : Bool) → further_line program tag node ended line ≡ Ok read → last ≡ ends node read → with_lines (front ++ read ∷ []) (lines_read program tag node last (number + 1) lines) ≡ total
  line_goes_on read last e same =
      ap (λ b. with_lines (front ++ read ∷ []) (lines_read program tag node b (number + 1) lines)) same
      ∙ sym (regroup front read (behind read))
      ∙ sym (ap (λ one. with_lines front (before_lines number one behind)) e) ∙ so_far

  pub fault_stops : (fault : What) → further_line program tag node ended line ≡ Err fault → total ≡ Err (number, fault)
  fault_stops fault e = sym so_far ∙ ap (λ one. with_lines front (before_lines number one behind)) e

pub lines_end : (program : Workload) (tag : List ℕ) (node : Node) (ended : Bool) (front : List LogLine) (number : ℕ) (total : Result (List LogLine) (ℕ × What))
    → with_lines front (lines_read program tag node ended number []) ≡ total → total ≡ Ok front
lines_end program tag node ended front number total so_far = sym so_far ∙ ap (λ (xs : List LogLine). Ok xs) (append-nil front)
