-- Rows of words
use Rattle.std.specs.Prelude.{◌≡◌, ◌≤◌, ◌^◌, ℕ, List, [], length, map, slice_index_or, Vec}
use Rattle.std.specs.declared.alloc.Global.{Global}
use Rattle.roc_server_reach.specs.Bits.{BitTable}
use Rattle.roc_server_reach.specs.Inner.Words.{words_but}

-- the bits of rows but for the stale ones, which are the same numbers in each row
abbrev pub bits_in : List (Vec ℕ Global) → (stale : List ℕ) → BitTable
bits_in rows stale = record { rows = map (λ row. words_but row.items stale) rows }

-- the words of a row; one that is not there has none
abbrev pub words_at : List (Vec ℕ Global) → ℕ → List ℕ
words_at rows n = slice_index_or (map (λ row. row.items) rows) n []

-- no row has more words, and so few words have bits that each bit has a number
pub record AreRowsWithin (rows : List (Vec ℕ Global)) (width : ℕ) : Type 0 where
  pub each : (n : ℕ) → length (words_at rows n) ≤ width
  pub few : width ≤ 2 ^ 58

-- the words of each row are what they were
abbrev pub AreSameRows : (old new : List (Vec ℕ Global)) → Type 0
AreSameRows old new = (n : ℕ) → words_at new n ≡ words_at old n

-- no row has more words than it had
abbrev pub KeepsWithin : (old new : List (Vec ℕ Global)) → Type 0
KeepsWithin old new = (n : ℕ) → length (words_at new n) ≤ length (words_at old n)
