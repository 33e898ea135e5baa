-- Runs of pieces, and what they use and bind, one after another
use Rattle.std.proofs.Common.{◌≡◌, ◌≤◌, ◌+◌, ℕ, zero, suc, ℤ, true, false, List, [], ◌∷◌, ◌++◌, map, take, refl, sym, ap, ◌∙◌, append_assoc, append-nil, arith}
use Rattle.roc_program.specs.Program.{Statement, Get, Set, Out, Piece}
use Rattle.roc_rows.specs.Store.{Store}
use Rattle.roc_program.specs.Values.{Environment, value}
use Rattle.roc_whole.specs.Run.{Progress, progress, behind, access_cell, after_statement, after_piece, after_pieces}
use Rattle.roc_whole.proofs.Replies.{after_piece-behind}
use Rattle.roc_group.specs.Accesses.{access, uses_of_body, uses_of_piece, uses_of_pieces}
use Rattle.roc_group.specs.GroupRun.{statements_in}

pub after_pieces-append : (p : Progress) (xs ys : List Piece) → after_pieces p (xs ++ ys) ≡ after_pieces (after_pieces p xs) ys
after_pieces-append p [] ys = refl
after_pieces-append p (x ∷ xs) ys = after_pieces-append (after_piece p x) xs ys

pub uses_of_pieces-append : (p : Progress) (xs ys : List Piece) → uses_of_pieces p (xs ++ ys) ≡ uses_of_pieces p xs ++ uses_of_pieces (after_pieces p xs) ys
uses_of_pieces-append p [] ys = refl
uses_of_pieces-append p (x ∷ xs) ys = ap (λ us. uses_of_piece p x ++ us) (uses_of_pieces-append (after_piece p x) xs ys) ∙ sym (append_assoc (uses_of_piece p x) _ _)

-- what was said before changes nothing of what is used
uses_of_body-behind : (said : List ℤ) (place : ℤ) (p : Progress) (ss : List Statement) → uses_of_body place (behind said p) ss ≡ uses_of_body place p ss
uses_of_body-behind said place p [] = refl
uses_of_body-behind said place p (Get number from ∷ ss) = ap (λ us. access (access_cell place p.environment from) false ∷ us) (uses_of_body-behind said place (after_statement place p (Get number from)) ss)
uses_of_body-behind said place p (Set to v ∷ ss) = ap (λ us. access (access_cell place p.environment to) true ∷ us) (uses_of_body-behind said place (after_statement place p (Set to v)) ss)
uses_of_body-behind said place p (Out v ∷ ss) =
    (λ i. uses_of_body place (progress p.store p.environment (append_assoc said p.reply (value v p.environment ∷ []) i)) ss) ∙ uses_of_body-behind said place (after_statement place p (Out v)) ss

pub uses_of_pieces-behind : (said : List ℤ) (p : Progress) (ps : List Piece) → uses_of_pieces (behind said p) ps ≡ uses_of_pieces p ps
uses_of_pieces-behind said p [] = refl
uses_of_pieces-behind said p (piece ∷ ps) =
    let one = uses_of_body-behind said (value piece.place p.environment) p piece.body in
    let rest = ap (λ q. uses_of_pieces q ps) (after_piece-behind said p piece) ∙ uses_of_pieces-behind said (after_piece p piece) ps in
    λ i. one i ++ rest i

pub uses_said : (store : Store) (env : Environment) (said : List ℤ) (ps : List Piece) → uses_of_pieces (progress store env said) ps ≡ uses_of_pieces (progress store env []) ps
uses_said store env said ps = ap (λ r. uses_of_pieces (progress store env r) ps) (sym (append-nil said)) ∙ uses_of_pieces-behind said (progress store env []) ps

-- ---- how many statements there are

pub statements_in-append : (xs ys : List Piece) → statements_in (xs ++ ys) ≡ statements_in xs + statements_in ys
statements_in-append [] ys = omega arith
statements_in-append (x ∷ xs) ys = let more = statements_in-append xs ys in omega (arith, more)

-- the first ones have no more than all
pub statements_taken : (f : ℕ → Piece) (i : ℕ) (xs : List ℕ) → statements_in (map f (take i xs)) ≤ statements_in (map f xs)
statements_taken f zero xs = omega arith
statements_taken f (suc i) [] = omega arith
statements_taken f (suc i) (x ∷ xs) = let more = statements_taken f i xs in omega (arith, more)
