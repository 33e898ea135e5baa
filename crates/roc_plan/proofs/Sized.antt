-- What the limits of the language say of a procedure's names
use Rattle.std.proofs.Common.{◌≡◌, ◌∙◌, ℕ, suc, ◌+◌, ◌*◌, ◌-◌, ◌<◌, ◌≤◌, List, [], ◌∷◌, length, map, get_or, Option, Some, None, sym, ap, arith, length-append}
use Rattle.std.proofs.lemmas.List.{length-map}
use Rattle.std.specs.List.{AllByRecursion, range_with_len, filter_map, flat_map, cons_option}
use Rattle.roc_program.specs.LookUps.{no_procedure}
use Rattle.roc_program.specs.Parts as view
use Rattle.roc_program.specs.declared.parts.Procedure as code
use Rattle.roc_program.proofs.Rows.{read-map}
use Rattle.roc_program.specs.Names.{binding, bindings_of, bindings}
use Rattle.roc_program.specs.Program.{Table, Piece, Procedure}
use Rattle.roc_program.specs.WellFormed.{known_behind, ArePieces, IsProcedure}
use Rattle.roc_sequence.proofs.Holds.{all_weaker}
use Rattle.roc_plan.specs.Sized.{IsSized}

few_statements : (tables : List Table) (known : List ℕ) (pieces : List Piece) → ArePieces tables known pieces → AllByRecursion (λ piece. length piece.body ≤ 64) pieces
few_statements tables known [] all = tt
few_statements tables known (piece ∷ rest) all = (all.0.statements, few_statements tables (known_behind known piece) rest all.1)

pub few_found : {A B : Type 0} (f : A → Option B) (xs : List A) → length (filter_map f xs) ≤ length xs
few_found f [] = omega arith
few_found {B = B} f (x ∷ xs) = go (f x) (few_found f xs)
  where
    go : (o : Option B) → length (filter_map f xs) ≤ length xs → length (cons_option o (filter_map f xs)) ≤ suc (length xs)
    go None h = omega arith
    go (Some y) h = omega arith

-- lists of at most 64 each
pub few_in_all : {A B : Type 0} (f : A → List B) (xs : List A) → AllByRecursion (λ x. length (f x) ≤ 64) xs → length (flat_map f xs) ≤ length xs * 64
few_in_all f [] all = omega arith
few_in_all f (x ∷ xs) all =
    let here : length (f x) ≤ 64 = all.0 in
    let rest = few_in_all f xs all.1 in
    let both = length-append (f x) (flat_map f xs) in
    omega arith

pub few_bound : (piece : Piece) → length piece.body ≤ 64 → length (bindings_of piece) ≤ 64
few_bound piece h = let l = few_found binding piece.body in omega arith

pub sized : (tables : List Table) (p : Procedure) → IsProcedure tables p → IsSized p
sized tables p is =
    let statements = few_statements tables (range_with_len 0 p.arguments) p.pieces is.pieces in
    let few = few_in_all bindings_of p.pieces (all_weaker (λ piece. length piece.body ≤ 64) (λ piece. length (bindings_of piece) ≤ 64) few_bound p.pieces statements) in
    let args : p.arguments ≤ 8 = is.arguments in
    let pieces : length p.pieces ≤ 16 = is.few_pieces in
    let names : p.names ≡ p.arguments + length (bindings p.pieces) = is.names in
    let count : length (bindings p.pieces) ≡ p.names - p.arguments = omega arith in
    record {
      numbers = is.numbers ∙ ap (range_with_len p.arguments) count;
      some_names = omega arith;
      few_names = omega arith;
      few_pieces = pieces;
      statements = statements;
    }

-- the procedure that is lent
pub lent : (all : List code.Procedure) (procedures : List Procedure) (proc at : ℕ) (p : code.Procedure) → map view.procedure all ≡ procedures → at ≡ proc → proc < length procedures → p ≡ get_or all at p
    → get_or procedures proc no_procedure ≡ view.procedure p
lent all procedures proc at p same e l is =
    ap (λ (ps : List Procedure). get_or ps proc no_procedure) (sym same)
    ∙ read-map view.procedure all proc p no_procedure (omega (arith, l, ap length same, length-map all view.procedure)) (is ∙ ap (λ k. get_or all k p) e)
