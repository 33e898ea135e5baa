use Rattle.std.proofs.Common.{◌≡◌, ◌++◌, map, take}
use Rattle.roc_lang_resolve.proofs.Bindings.{argument_names, pieces_names}
use Rattle.roc_lang_resolve.proofs.names.names_of.Given as goal

abbrev pub invariant-loop-argument : goal.invariant-loop-argument
invariant-loop-argument l = map (λ n. n.now) l.names.items ≡ argument_names (take l.argument-index l.argument-items)

abbrev pub invariant-loop-piece : goal.invariant-loop-piece
invariant-loop-piece l =
    map (λ n. n.now) l.names.items ≡ argument_names l.procedure.arguments.items ++ pieces_names (take l.piece-index l.piece-items)
