use Rattle.std.proofs.Common.{◌≡◌, ◌∙◌, ◌++◌, ◌∷◌, [], ◌+◌, map, take, get_or, sym, ap, append_assoc, arith}
use Rattle.std.proofs.lemmas.List.{take_more, map-append}
use Rattle.std.specs.List.{filter_map}
use Rattle.roc_plan.proofs.Taken.{filter_map_behind}
use Rattle.roc_program.specs.Names.{binding}
use Rattle.roc_program.specs.Parts as pure
use Rattle.roc_program.specs.Values.{value_of_name}
use Rattle.roc_group.proofs.run.push_body.Goals as goal

pub loop-statement-preserved : goal.loop-statement-preserved
loop-statement-preserved c =
    let at = c.loop-statement.statement-index in
    let body = c.args.body.now in
    let f = value_of_name c.args.names.now in
    let front = filter_map binding (map pure.statement (take at body)) in
    let last = filter_map binding (pure.statement c.statement-item.result ∷ []) in
    let more : map pure.statement (take (at + 1) body) ≡ map pure.statement (take at body) ++ pure.statement c.statement-item.result ∷ [] =
    ap (map pure.statement) (take_more body at c.statement-item.result c.loop-statement-test.true) ∙ map-append pure.statement (take at body) (get_or body at c.statement-item.result ∷ [])
    ∙ ap (λ s. map pure.statement (take at body) ++ pure.statement s ∷ []) (sym c.statement-item.is) in
    record {
      bound = c.push_value.ensures.bound ∙ ap (λ ns. ns ++ map f last) c.loop-statement.invariant.bound ∙ append_assoc c.args.bound.now.items (map f front) (map f last)
          ∙ ap (λ ns. c.args.bound.now.items ++ ns) (sym (ap (λ ns. map f ns) (ap (filter_map binding) more ∙ filter_map_behind binding (map pure.statement (take at body)) (pure.statement c.statement-item.result)) ∙ map-append f front last));
      len = omega (arith, c.loop-statement.invariant.len, c.push_value.ensures.len);
      room = omega (arith, c.loop-statement.invariant.room, c.push_value.ensures.capacity);
    }
