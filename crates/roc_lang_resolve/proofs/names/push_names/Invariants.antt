use Rattle.std.proofs.Common.{◌≡◌, ◌++◌, map, take}
use Rattle.std.specs.List.{flat_map}
use Rattle.roc_lang.specs.Tree.{statement_tree}
use Rattle.roc_lang.specs.Scope.{bound_by}
use Rattle.roc_lang_resolve.specs.Resolve.{texts}
use Rattle.roc_lang_resolve.proofs.names.push_names.Given as goal

abbrev pub invariant-loop-statement : goal.invariant-loop-statement
invariant-loop-statement l =
    map (λ n. n.now) l.names.items ≡ map (λ n. n.now) l.initial.names.items ++ flat_map (λ s. texts (bound_by (statement_tree s))) (take l.statement-index l.statement-items)
