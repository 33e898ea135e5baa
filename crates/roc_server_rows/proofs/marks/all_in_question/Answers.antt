use Rattle.std.proofs.Common.{◌∙◌, ◌++◌, ◌∷◌, [], ℕ, List, get_or, sym, ap, if◌then◌else◌}
use Rattle.std.proofs.lemmas.List.Elements.{filter_more}
use Rattle.roc_server_rows.specs.Inner.Marks.{is_in_question}
use Rattle.roc_server_rows.proofs.marks.all_in_question.Goals as goal

pub loop-at-preserved : goal.loop-at-preserved
loop-at-preserved c =
    let ns = c.args.undecided.now in
    let i = c.loop-at.at-index in
    c.in_ok-push_question.ensures
    ∙ ap (λ (front : List ℕ). front ++ (if is_in_question c.args.rows.now c.args.marks.now (get_or ns i 0) then get_or ns i 0 ∷ [] else [])) c.loop-at.invariant
    ∙ sym (filter_more (is_in_question c.args.rows.now c.args.marks.now) ns i 0 c.loop-at-test.true)
