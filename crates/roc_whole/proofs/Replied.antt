-- How much statements say
use Rattle.std.proofs.Common.{◌≡◌, ◌+◌, ℤ, List, [], ◌∷◌, length, arith}
use Rattle.std.specs.List.{filter_map}
use Rattle.std.proofs.lemmas.List.{length-append}
use Rattle.roc_program.specs.Program.{Statement, Get, Set, Out}
use Rattle.roc_program.specs.Values.{value}
use Rattle.roc_program.specs.Names.{output}
use Rattle.roc_whole.specs.Run.{Progress, after_statement, after_statements}

pub body_long : (place : ℤ) (p : Progress) (ss : List Statement) → length (after_statements place p ss).reply ≡ length p.reply + length (filter_map output ss)
body_long place p [] = omega arith
body_long place p (Get number from ∷ ss) = body_long place (after_statement place p (Get number from)) ss
body_long place p (Set to v ∷ ss) = body_long place (after_statement place p (Set to v)) ss
body_long place p (Out v ∷ ss) = let r = body_long place (after_statement place p (Out v)) ss in let l = length-append p.reply (value v p.environment ∷ []) in omega (arith, r, l)
