-- Statements whose names a piece uses
use Rattle.std.specs.Prelude.{Bool, false}
use Rattle.roc_program.specs.Program.{Piece, Statement, Get, Set, Out}
use Rattle.roc_program.specs.Names.{piece_uses}

-- the piece uses the name that the statement binds
abbrev pub is_bound_for : Piece → Statement → Bool
is_bound_for piece (Get number from) = piece_uses piece number
is_bound_for piece (Set to value) = false
is_bound_for piece (Out value) = false
