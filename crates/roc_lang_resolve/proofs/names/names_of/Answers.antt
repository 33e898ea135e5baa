-- The names are those of the arguments, one after another, and then those of each piece
use Rattle.std.proofs.Common.{◌∙◌, ◌++◌, ℕ, List, map, ap, sym}
use Rattle.std.proofs.lemmas.List.{take_all}
use Rattle.std.specs.String.{string_bytes}
use Rattle.roc_lang.specs.declared.syntax.Name.{Name}
use Rattle.roc_lang.specs.declared.syntax.Piece.{Piece}
use Rattle.roc_lang_resolve.proofs.Bindings.{argument_names, pieces_names, names_of-tree, name_pushed, names_pushed}
use Rattle.roc_lang_resolve.proofs.names.names_of.Goals as goal

pub loop-argument-preserved : goal.loop-argument-preserved
loop-argument-preserved c =
    let text : Name → List ℕ = λ a. string_bytes a.text in
    name_pushed text (λ n. n.now) c.deref-argument-items.result.now c.loop-argument.argument-index c.argument-item.result c.as_str.result c.loop-argument.names.items c.push.new.self.items
    c.loop-argument-test.true c.argument-item.is c.as_str.ensures.value c.in_ok-push.ensures.items c.loop-argument.invariant

pub loop-piece-preserved : goal.loop-piece-preserved
loop-piece-preserved c =
    names_pushed c.deref-piece-items.result.now c.loop-piece.piece-index c.piece-item.result (argument_names c.args.procedure.now.arguments.items) (map (λ n. n.now) c.loop-piece.names.items) (map (λ n. n.now) c.push_names.new.names.items)
    c.loop-piece-test.true c.piece-item.is c.in_ok-push_names.ensures c.loop-piece.invariant

pub returns : goal.returns
returns c =
    let names_with : List Piece → List (List ℕ) = λ ps. argument_names c.args.procedure.now.arguments.items ++ pieces_names ps in
    c.loop-piece.invariant ∙ ap names_with (take_all c.loop-piece.piece-index c.deref-piece-items.result.now c.loop-piece-test.false ∙ c.deref-piece-items.ensures.value) ∙ sym (names_of-tree c.args.procedure.now)
