use Rattle.std.proofs.Common.{◌≡◌, ◌++◌, ◌∷◌, [], ◌-◌, map, true, false}
use Rattle.std.proofs.lemmas.List.{map_push}
use Rattle.roc_lang.specs.Grammar.{standard}
use Rattle.roc_lang.specs.Tree.{piece_tree}
use Rattle.roc_lang_parse.specs.Stuck.{head_is}
use Rattle.roc_lang_parse.specs.Inner.Views.{token_views}
use Rattle.roc_lang_parse.specs.Reading.{starts_piece, piece_at}
use Rattle.roc_lang_parse.proofs.Turns.{many_stops, many_is_full, many_refuses, many_goes_on}
use Rattle.roc_lang_parse.proofs.procedure.pieces_behind.Goals as goal

pub returns-then-not-begins_piece : goal.returns-then-not-begins_piece
returns-then-not-begins_piece c =
    let e : head_is starts_piece (token_views c.loop.rest.now) ≡ false = cc c.if-not-begins_piece.ensures in
    many_stops starts_piece (piece_at standard) (standard.pieces - 1 - c.loop.counter) (map piece_tree c.loop.pieces.items) (token_views c.loop.rest.now) _ e c.loop.invariant

pub returns-in-Err : goal.returns-in-Err
returns-in-Err c =
    let e : head_is starts_piece (token_views c.loop.rest.now) ≡ true = cc c.if-not-begins_piece.ensures in
    many_refuses starts_piece (piece_at standard) (standard.pieces - 1) c.loop.counter (map piece_tree c.loop.pieces.items) (token_views c.loop.rest.now) _ c.in-Err.refusal c.loop-test.true e c.in-Err.ensures c.loop.invariant

pub loop-preserved : goal.loop-preserved
loop-preserved c =
    let e : head_is starts_piece (token_views c.loop.rest.now) ≡ true = cc c.if-not-begins_piece.ensures in
    let x = c.in-Ok.given.0 in
    let grown : map piece_tree c.push.new.self.items ≡ map piece_tree c.loop.pieces.items ++ piece_tree x ∷ [] = rw c.in_ok-push.ensures.items (map_push _ c.loop.pieces.items x) in
    rw grown (many_goes_on starts_piece (piece_at standard) (standard.pieces - 1) c.loop.counter (map piece_tree c.loop.pieces.items) (token_views c.loop.rest.now) (token_views c.in-Ok.given.1.now) (piece_tree x) _ c.loop-test.true e c.in-Ok.ensures c.loop.invariant)

pub returns-then-begins_piece : goal.returns-then-begins_piece
returns-then-begins_piece c =
    let e : head_is starts_piece (token_views c.loop.rest.now) ≡ true = cc c.if-begins_piece.ensures in
    rw c.limit_fault.ensures (many_is_full starts_piece (piece_at standard) (standard.pieces - 1) c.loop.counter (map piece_tree c.loop.pieces.items) (token_views c.loop.rest.now) _ c.loop-test.false e c.loop.invariant)

pub returns : goal.returns
returns c =
    let e : head_is starts_piece (token_views c.loop.rest.now) ≡ false = cc c.if-begins_piece.ensures in
    many_stops starts_piece (piece_at standard) (standard.pieces - 1 - c.loop.counter) (map piece_tree c.loop.pieces.items) (token_views c.loop.rest.now) _ e c.loop.invariant
