-- The last lines
use Rattle.std.proofs.Common.{◌≡◌, ℕ, ◌+◌, List, [], ◌∷◌, ◌++◌, length, map, sym, ◌∙◌, ap, append_assoc, append-nil}
use Rattle.std.proofs.lemmas.Grind.{flat_map-append}
use Rattle.std.proofs.lemmas.List.{length-append}
use Rattle.std.specs.Prelude.{OnOk, Result, Ok, Err}
use Rattle.roc_base.specs.declared.id.TxnId.{TxnId}
use Rattle.roc_node.specs.declared.lines.NodeLine.TheVariants.{Unanswered, EndSubmit}
use Rattle.roc_node.specs.NodeLine.{node_line_text, node_lines_text}
use Rattle.roc_grown_submit.specs.GrownCoordRun.{GrownCoordNodeState}
use Rattle.roc_grown_submit.specs.GrownEnd.{grown_closing_text}

-- the counts behind the ids
pub closing_told : {A E : Type 0} (r : Result A E) (node : GrownCoordNodeState) (given : List TxnId) (count : ℕ) (old mid new : List ℕ) → given ≡ node.state.core.unanswered → mid ≡ old ++ node_lines_text (map Unanswered given)
    → OnOk r (new ≡ mid ++ node_line_text (EndSubmit node.answered (length given) count)) → count ≡ length node.left + length node.later → OnOk r (new ≡ old ++ grown_closing_text node)
closing_told (Err e) node given count old mid new same p q is = tt
closing_told (Ok a) node given count old mid new same p q is =
    let ids = node.state.core.unanswered in
    let line = EndSubmit node.answered (length ids) (length (node.left ++ node.later)) in
    q ∙ ap (λ (l : List TxnId). mid ++ node_line_text (EndSubmit node.answered (length l) count)) same
    ∙ ap (λ n. mid ++ node_line_text (EndSubmit node.answered (length ids) n)) (is ∙ sym (length-append node.left node.later))
    ∙ ap (λ l. l ++ node_line_text line) (p ∙ ap (λ (l : List TxnId). old ++ node_lines_text (map Unanswered l)) same) ∙ append_assoc old (node_lines_text (map Unanswered ids)) (node_line_text line)
    ∙ ap (λ l. old ++ (node_lines_text (map Unanswered ids) ++ l)) (sym (append-nil (node_line_text line)))
    ∙ ap (λ l. old ++ l) (sym (flat_map-append node_line_text (map Unanswered ids) (line ∷ [])))
