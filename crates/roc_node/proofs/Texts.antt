-- Texts of lines, one behind the other.
use Rattle.std.proofs.Common.{◌≡◌, ℕ, ◌<◌, ◌≤◌, zero, suc, List, [], ◌∷◌, ◌++◌, sym, ◌∙◌, ap, append_assoc, append-nil, arith, cond}
use Rattle.std.proofs.lemmas.Bool.{lt-ltb}
use Rattle.std.proofs.lemmas.Grind.{flat_map-append}
use Rattle.roc_node.specs.declared.lines.NodeLine.{NodeLine}
use Rattle.roc_node.specs.NodeLine.{node_line_text, node_lines_text, where_some}

-- lines behind those that a text has gained
pub text_behind : (old mid new : List ℕ) (lines more : List NodeLine) → mid ≡ old ++ node_lines_text lines → new ≡ mid ++ node_lines_text more → new ≡ old ++ node_lines_text (lines ++ more)
text_behind old mid new lines more p q =
    q ∙ ap (λ l. l ++ node_lines_text more) p ∙ append_assoc old (node_lines_text lines) (node_lines_text more)
    ∙ ap (λ l. old ++ l) (sym (flat_map-append node_line_text lines more))

-- a line whose count is 0 is left out
pub no_line : (count : ℕ) (line : NodeLine) (text : List ℕ) → count ≤ 0 → text ≡ text ++ node_lines_text (where_some count line)
no_line zero line text none = sym (append-nil text)
no_line (suc n) line text none = absurd (omega arith)

-- and stands alone where it is not
pub some_line : (count : ℕ) (line : NodeLine) (old new : List ℕ) → 0 < count → new ≡ old ++ node_line_text line → new ≡ old ++ node_lines_text (where_some count line)
some_line count line old new some text = text ∙ ap (λ l. old ++ l) (sym (append-nil (node_line_text line))) ∙ ap (λ b. old ++ node_lines_text (cond b (line ∷ []) [])) (sym (lt-ltb 0 count some))
