use Rattle.std.proofs.Common.{◌≡◌, ◌++◌, map, take}
use Rattle.std.specs.List.{flat_map}
use Rattle.std.specs.String.{string_bytes}
use Rattle.roc_lang.specs.Tree.{piece_tree}
use Rattle.roc_lang_print.specs.Canonical.{piece_lines}
use Rattle.roc_lang_print.proofs.line.push_pieces.Given as goal

abbrev pub invariant-loop-piece : goal.invariant-loop-piece
invariant-loop-piece l = string_bytes l.text ≡ string_bytes l.fn.text ++ flat_map piece_lines (map piece_tree (take l.piece-index l.pieces))
