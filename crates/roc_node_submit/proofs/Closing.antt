-- The lines of those without a reply, one behind the other.
use Rattle.std.proofs.Common.{◌≡◌, ℕ, ◌+◌, ◌<◌, List, [], ◌∷◌, ◌++◌, length, map, take, get_or, refl, sym, ◌∙◌, ap, append_assoc, append-nil}
use Rattle.roc_sequence.proofs.Fronts.{front_more}
use Rattle.roc_base.specs.declared.id.TxnId.{TxnId}
use Rattle.roc_node.specs.declared.lines.NodeLine.TheVariants.{Unanswered}
use Rattle.roc_node.specs.NodeLine.{node_line_text, node_lines_text}

unanswered-append : (ids more : List TxnId) → node_lines_text (map Unanswered (ids ++ more)) ≡ node_lines_text (map Unanswered ids) ++ node_lines_text (map Unanswered more)
unanswered-append [] more = refl
unanswered-append (id ∷ ids) more =
    ap (λ l. node_line_text (Unanswered id) ++ l) (unanswered-append ids more) ∙ sym (append_assoc (node_line_text (Unanswered id)) (node_lines_text (map Unanswered ids)) (node_lines_text (map Unanswered more)))

-- one more id's line
pub unanswered_more : (ids : List TxnId) (i : ℕ) (id : TxnId) (old mid new : List ℕ) → i < length ids → id ≡ get_or ids i id → mid ≡ old ++ node_lines_text (map Unanswered (take i ids)) → new ≡ mid ++ node_line_text (Unanswered id)
    → new ≡ old ++ node_lines_text (map Unanswered (take (i + 1) ids))
unanswered_more ids i id old mid new below is p q =
    q ∙ ap (λ l. l ++ node_line_text (Unanswered id)) p ∙ append_assoc old _ _
    ∙ ap (λ l. old ++ l) (ap (λ l. node_lines_text (map Unanswered (take i ids)) ++ l) (sym (append-nil (node_line_text (Unanswered id))))
    ∙ sym (unanswered-append (take i ids) (id ∷ [])) ∙ ap (λ l. node_lines_text (map Unanswered l)) (front_more ids i id below is))
