-- What a run adds to a reply does not depend on what stands there already
use Rattle.std.proofs.Common.{◌≡◌, ℤ, List, [], ◌∷◌, refl, sym, ap, ◌∙◌, append_assoc, append-nil}
use Rattle.roc_rows.specs.Store.{Store}
use Rattle.roc_program.specs.Program.{Statement, Get, Set, Out, Piece, Procedure}
use Rattle.roc_program.specs.Values.{Environment, value}
use Rattle.roc_program.specs.Values.{with_arguments}
use Rattle.roc_whole.specs.Run.{Progress, progress, after_statement, after_statements, after_piece, after_pieces, whole_run, behind}

after_statement-behind : (place : ℤ) (said : List ℤ) (p : Progress) (s : Statement) → after_statement place (behind said p) s ≡ behind said (after_statement place p s)
after_statement-behind place said p (Get number from) = refl
after_statement-behind place said p (Set to v) = refl
after_statement-behind place said p (Out v) = ap (progress p.store p.environment) (append_assoc said p.reply (value v p.environment ∷ []))

after_statements-behind : (place : ℤ) (said : List ℤ) (p : Progress) (ss : List Statement) → after_statements place (behind said p) ss ≡ behind said (after_statements place p ss)
after_statements-behind place said p [] = refl
after_statements-behind place said p (s ∷ ss) =
    ap (λ q. after_statements place q ss) (after_statement-behind place said p s) ∙ after_statements-behind place said (after_statement place p s) ss

pub after_piece-behind : (said : List ℤ) (p : Progress) (piece : Piece) → after_piece (behind said p) piece ≡ behind said (after_piece p piece)
after_piece-behind said p piece = after_statements-behind (value piece.place p.environment) said p piece.body

pub after_pieces-behind : (said : List ℤ) (p : Progress) (pieces : List Piece) → after_pieces (behind said p) pieces ≡ behind said (after_pieces p pieces)
after_pieces-behind said p [] = refl
after_pieces-behind said p (piece ∷ pieces) =
    ap (λ q. after_pieces q pieces) (after_piece-behind said p piece) ∙ after_pieces-behind said (after_piece p piece) pieces

-- from any reply, as from none
pub after_pieces-said : (store : Store) (env : Environment) (said : List ℤ) (pieces : List Piece) → after_pieces (progress store env said) pieces ≡ behind said (after_pieces (progress store env []) pieces)
after_pieces-said store env said pieces =
    ap (λ r. after_pieces (progress store env r) pieces) (sym (append-nil said)) ∙ after_pieces-behind said (progress store env []) pieces

-- all pieces run from the arguments are the whole run
pub whole_from : (procedure named : Procedure) (store : Store) (env : Environment) (args : List ℤ) (end : Progress) → end ≡ after_pieces (progress store env []) procedure.pieces → env ≡ with_arguments procedure args → procedure ≡ named → end ≡ whole_run named args store
whole_from procedure named store env args end ran starts is =
    ran ∙ ap (λ e. after_pieces (progress store e []) procedure.pieces) starts ∙ ap (λ p. whole_run p args store) is
