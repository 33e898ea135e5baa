-- How many names a procedure within the limits has
use Rattle.std.proofs.Common.{◌*◌, ◌≤◌, List, [], ◌∷◌, ◌++◌, length, arith, length-append}
use Rattle.std.proofs.lemmas.List.{length-map}
use Rattle.std.specs.List.{flat_map, AllByRecursion}
use Rattle.roc_lang.specs.Syntax.{Statement, Get, Set, Out, Piece, Procedure}
use Rattle.roc_lang.specs.Scope.{bound_by}
use Rattle.roc_lang_resolve.specs.Resolve.{names_of}
use Rattle.roc_lang.specs.Grammar.{standard}
use Rattle.roc_lang.specs.Limits.{IsSmallProcedure}

body_count : (body : List Statement) → length (flat_map bound_by body) ≤ length body
body_count [] = omega arith
body_count (Get name from ∷ ss) = let rest : length (flat_map bound_by ss) ≤ length ss = body_count ss in omega arith
body_count (Set line to value ∷ ss) = let rest : length (flat_map bound_by ss) ≤ length ss = body_count ss in omega arith
body_count (Out value ∷ ss) = let rest : length (flat_map bound_by ss) ≤ length ss = body_count ss in omega arith

pieces_count : (ps : List Piece) → AllByRecursion (λ p. length p.body ≤ standard.statements) ps → length (flat_map (λ p. flat_map bound_by p.body) ps) ≤ 64 * length ps
pieces_count [] few = omega arith
pieces_count (p ∷ ps) few =
    omega (arith, few.0, body_count p.body, pieces_count ps few.1, length-append (flat_map bound_by p.body) (flat_map (λ p. flat_map bound_by p.body) ps))

pub names_few : (p : Procedure) → IsSmallProcedure p → length (names_of p) ≤ 1032
names_few p small =
    let bound = flat_map (λ piece. flat_map bound_by piece.body) p.pieces in
    omega (arith, length-map (p.arguments ++ bound) (λ n. n.text), length-append p.arguments bound, pieces_count p.pieces small.statements)
