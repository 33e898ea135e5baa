use Rattle.std.proofs.Common.{◌≡◌, ◌∙◌, ◌++◌, ◌∷◌, [], ◌+◌, map, take, get_or, sym, ap, append_assoc}
use Rattle.std.proofs.lemmas.List.{take_more, map-append}
use Rattle.std.specs.List.{filter_map}
use Rattle.roc_plan.proofs.Taken.{filter_map_behind}
use Rattle.roc_program.specs.Names.{binding}
use Rattle.roc_program.specs.Parts as view
use Rattle.roc_plan_make.proofs.names.push_bound.Goals as goal

pub loop-statement-preserved : goal.loop-statement-preserved
loop-statement-preserved c =
    let at = c.loop-statement.statement-index in
    let body = c.args.body.now in
    let front = filter_map binding (map view.statement (take at body)) in
    let last = filter_map binding (view.statement c.statement-item.result ∷ []) in
    let more : map view.statement (take (at + 1) body) ≡ map view.statement (take at body) ++ view.statement c.statement-item.result ∷ [] =
    ap (map view.statement) (take_more body at c.statement-item.result c.loop-statement-test.true) ∙ map-append view.statement (take at body) (get_or body at c.statement-item.result ∷ [])
    ∙ ap (λ s. map view.statement (take at body) ++ view.statement s ∷ []) (sym c.statement-item.is) in
    c.in_ok-push_name.ensures ∙ ap (λ ns. ns ++ last) c.loop-statement.invariant ∙ append_assoc c.args.names.now.items front last
    ∙ ap (λ ns. c.args.names.now.items ++ ns) (sym (ap (filter_map binding) more ∙ filter_map_behind binding (map view.statement (take at body)) (view.statement c.statement-item.result)))
