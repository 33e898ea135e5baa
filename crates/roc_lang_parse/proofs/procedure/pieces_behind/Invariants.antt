use Rattle.std.proofs.Common.{◌≡◌, ◌-◌, map}
use Rattle.roc_lang.specs.Grammar.{standard}
use Rattle.roc_lang.specs.Tree.{piece_tree}
use Rattle.roc_lang_parse.specs.Inner.Views.{token_views}
use Rattle.roc_lang_parse.specs.Parts.{with_front, many_at}
use Rattle.roc_lang_parse.specs.Reading.{starts_piece, piece_at, pieces_behind}
use Rattle.roc_lang_parse.proofs.procedure.pieces_behind.Given as goal

abbrev pub invariant-loop : goal.invariant-loop
invariant-loop l = with_front (map piece_tree l.pieces.items) (many_at starts_piece (piece_at standard) (standard.pieces - 1 - l.counter) (token_views l.rest)) ≡ pieces_behind standard (piece_tree l.fn.first) (standard.pieces - 1) (token_views l.tokens)
