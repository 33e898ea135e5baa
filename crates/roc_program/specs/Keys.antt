-- Ids of rows have one to four integers, and so have those of a well-formed program's accesses
use Rattle.std.specs.Prelude.{◌<◌, ◌≤◌, List, length}
use Rattle.std.specs.List.{AllByRecursion}
use Rattle.roc_lang.specs.Grammar.{standard}
use Rattle.roc_program.specs.Program.{Statement, Get, Set, Out, Piece}

pub record IsKey {A : Type 0} (id : List A) : Type 0 where
  pub some : 0 < length id
  pub few : length id ≤ standard.arity

-- of what a statement accesses
abbrev pub HasKey : Statement → Type 0
HasKey (Get number from) = IsKey from.id
HasKey (Set to value) = IsKey to.id
HasKey (Out value) = Unit {0}

-- of all that a piece accesses
abbrev pub HasKeys : Piece → Type 0
HasKeys piece = AllByRecursion HasKey piece.body
