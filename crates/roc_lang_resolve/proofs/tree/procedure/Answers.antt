use Rattle.std.proofs.Common.{length, ap, arith}
use Rattle.std.proofs.lemmas.List.{length-map}
use Rattle.roc_lang.specs.Tree.{procedure_tree}
use Rattle.roc_lang_resolve.proofs.Counts.{names_few}
use Rattle.roc_lang_resolve.proofs.tree.procedure.Goals as goal

pub overflow_cast-result-2 : goal.overflow_cast-result-2
overflow_cast-result-2 c =
    omega (arith, names_few (procedure_tree c.args.source.now) c.requires.small, ap length c.in_ok-names.ensures, length-map c.in_ok-names.names.items (λ n. n.now))

pub pieces-requires-clause-names : goal.pieces-requires-clause-names
pieces-requires-clause-names c =
    omega (arith, names_few (procedure_tree c.args.source.now) c.requires.small, ap length c.in_ok-names.ensures, length-map c.in_ok-names.names.items (λ n. n.now), ap length c.deref.ensures.value)
