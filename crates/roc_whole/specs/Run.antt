-- Pieces that run on a store, statement by statement: docs/LANGUAGE.md, "Whole runs and serial runs"
use Rattle.std.specs.Prelude.{ℤ, List, [], ◌∷◌, ◌++◌, slice_set}
use Rattle.roc_rows.specs.declared.cell.Cell.{Cell}
use Rattle.roc_rows.specs.Store.{Store, read, write}
use Rattle.roc_program.specs.Program.{Access, Statement, Get, Set, Out, Piece, Procedure}
use Rattle.roc_program.specs.Values.{Environment, with_arguments, value, key_of}

-- where a run stands: the cells, the values of the procedure's names, and what was added to the reply so far
pub record Progress : Type 0 where
  pub store : Store
  pub environment : Environment
  pub reply : List ℤ

abbrev pub progress : Store → Environment → List ℤ → Progress
progress store environment reply = record { store = store; environment = environment; reply = reply }

-- the cell that an access of a piece at this place means
abbrev pub access_cell : ℤ → Environment → Access → Cell
access_cell place env a = record { table = a.table; place = place; id = key_of a env; column = a.column }

-- after a statement of a piece at this place
abbrev pub after_statement : ℤ → Progress → Statement → Progress
after_statement place p (Get number from) = record p { environment = slice_set p.environment number (read p.store (access_cell place p.environment from)) }
after_statement place p (Set to v) = record p { store = write p.store (access_cell place p.environment to) (value v p.environment) }
after_statement place p (Out v) = record p { reply = p.reply ++ value v p.environment ∷ [] }

-- statements run in their order
abbrev pub after_statements : ℤ → Progress → List Statement → Progress
after_statements place p [] = p
after_statements place p (s ∷ ss) = after_statements place (after_statement place p s) ss

-- a piece's place is evaluated once, as it begins
abbrev pub after_piece : Progress → Piece → Progress
after_piece p piece = after_statements (value piece.place p.environment) p piece.body

-- pieces run in their order
abbrev pub after_pieces : Progress → List Piece → Progress
after_pieces p [] = p
after_pieces p (piece ∷ pieces) = after_pieces (after_piece p piece) pieces

-- a whole procedure: its pieces in program order, from its arguments and nothing added to the reply
abbrev pub whole_run : Procedure → List ℤ → Store → Progress
whole_run procedure arguments store = after_pieces (progress store (with_arguments procedure arguments) []) procedure.pieces

-- the same progress with a list before its reply
abbrev pub behind : List ℤ → Progress → Progress
behind said p = progress p.store p.environment (said ++ p.reply)
