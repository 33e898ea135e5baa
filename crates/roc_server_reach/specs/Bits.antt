-- Bits that say which number leads to which
use Rattle.std.specs.Prelude.{◌≡◌, ◌≢◌, ◌==◌, ◌/◌, ◌%◌, ℕ, Bool, true, false, List, [], nat_eq, slice_index_or}
use Rattle.std.specs.Int.{bit_at as digit_at}
use Rattle.roc_sequence.specs.Lists.{Has}
use Rattle.roc_sequence.specs.Places.{is_listed, NoneTwice}

-- rows of words, which are 64 bits each
pub record BitTable : Type 0 where
  pub rows : List (List ℕ)

-- whether the bit of a number is set in a row; beyond its words none is
unfoldable pub row_bit : List ℕ → ℕ → Bool
row_bit words m = digit_at (slice_index_or words (m / 64) 0) (m % 64) == 1

-- whether one number leads to another
unfoldable pub bit_at : BitTable → (start end : ℕ) → Bool
bit_at bits start end = row_bit (slice_index_or bits.rows start []) end

-- a chain of bits leads from n to m, or they are one
pub data LeadsBy (bits : BitTable) (n : ℕ) : ℕ → Type 0 where
  itself : LeadsBy bits n n
  onward : {k m : ℕ} → LeadsBy bits n k → bit_at bits k m ≡ true → LeadsBy bits n m

-- a chain leads to m from one of these numbers
pub record LeadsFrom (bits : BitTable) (starts : List ℕ) (m : ℕ) : Type 0 where
  pub start : ℕ
  pub among : Has start starts
  pub leads : LeadsBy bits start m

-- these are the numbers to which one of the starts leads, each once
pub record AreReached (bits : BitTable) (starts ns : List ℕ) : Type 0 where
  pub only : (m : ℕ) → Has m ns → LeadsFrom bits starts m
  pub all : (n m : ℕ) → Has n starts → LeadsBy bits n m → Has m ns
  pub once : NoneTwice nat_eq ns

-- ---- changes

-- each bit is what it was
abbrev pub AreSameBits : (old new : BitTable) → Type 0
AreSameBits old new = (n m : ℕ) → bit_at new n m ≡ bit_at old n m

-- a row has the bits of these numbers now, and no others
pub record IsPut (row : ℕ) (names : List ℕ) (old new : BitTable) : Type 0 where
  pub own : (m : ℕ) → bit_at new row m ≡ is_listed nat_eq names m
  pub others : (n m : ℕ) → n ≢ row → bit_at new n m ≡ bit_at old n m

-- a row has no bits now
pub record IsRowCleared (row : ℕ) (old new : BitTable) : Type 0 where
  pub own : (m : ℕ) → bit_at new row m ≡ false
  pub others : (n m : ℕ) → n ≢ row → bit_at new n m ≡ bit_at old n m

-- a column has no bits now
pub record IsColumnCleared (column : ℕ) (old new : BitTable) : Type 0 where
  pub own : (n : ℕ) → bit_at new n column ≡ false
  pub others : (n m : ℕ) → m ≢ column → bit_at new n m ≡ bit_at old n m

-- a number leads nowhere now, and nothing leads to it
pub record IsEnded (number : ℕ) (old new : BitTable) : Type 0 where
  pub row : (m : ℕ) → bit_at new number m ≡ false
  pub column : (n : ℕ) → bit_at new n number ≡ false
  pub others : (n m : ℕ) → n ≢ number → m ≢ number → bit_at new n m ≡ bit_at old n m
