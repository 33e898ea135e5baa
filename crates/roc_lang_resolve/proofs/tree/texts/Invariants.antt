use Rattle.std.proofs.Common.{◌≡◌, map, take}
use Rattle.roc_lang.specs.Tree.{name_tree}
use Rattle.std.specs.String.{string_bytes}
use Rattle.roc_lang_resolve.specs.Resolve as resolve
use Rattle.roc_lang_resolve.proofs.tree.texts.Given as goal

abbrev pub invariant-loop-name : goal.invariant-loop-name
invariant-loop-name l =
    map string_bytes l.texts.items ≡ resolve.texts (map name_tree (take l.name-index l.names))
