-- Sets of numbers, as words of 64 bits
use Rattle.std.specs.Prelude.{◌≡◌, ◌≢◌, ◌<◌, ◌≤◌, ◌+◌, ◌-◌, ◌/◌, ◌^◌, ℕ, true, false, List, [], ◌∷◌, length, nat_eq, bit_and, slice_index_or}
use Rattle.std.specs.Int.{bit_not, w64}
use Rattle.roc_sequence.specs.Places.{is_listed}
use Rattle.roc_server_reach.specs.Bits.{row_bit}

-- the bits of these numbers stand in so many words
abbrev pub AreBelow : List ℕ → (width : ℕ) → Type 0
AreBelow names width = (k : ℕ) → k < length names → slice_index_or names k 0 / 64 < width

-- the bits of these numbers are set, and no others
abbrev pub IsSetOf : List ℕ → (words : List ℕ) → Type 0
IsSetOf names words = (m : ℕ) → row_bit words m ≡ is_listed nat_eq names m

-- one bit is set now
pub record IsBitPut (at : ℕ) (old new : List ℕ) : Type 0 where
  pub each : length new ≡ length old
  pub own : row_bit new at ≡ true
  pub others : (m : ℕ) → m ≢ at → row_bit new m ≡ row_bit old m

-- a number of one set that the other does not have
pub record IsNext (met done : List ℕ) (n : ℕ) : Type 0 where
  pub within : n / 64 < length met
  pub has : row_bit met n ≡ true
  pub lacks : row_bit done n ≡ false

-- what one set has from a word on, the other has too
abbrev pub HasAllBits : (first : ℕ) (met done : List ℕ) → Type 0
HasAllBits first met done = (m : ℕ) → first ≤ m / 64 → row_bit met m ≡ true → row_bit done m ≡ true

-- of a word the bits that another does not have
abbrev pub word_but : (word stale : ℕ) → ℕ
word_but word stale = bit_and word (bit_not w64 stale)

-- words without the bits of a second list of words, which may have fewer
unfoldable pub words_but : (words stale : List ℕ) → List ℕ
words_but [] stale = []
words_but (w ∷ ws) [] = word_but w 0 ∷ words_but ws []
words_but (w ∷ ws) (s ∷ ss) = word_but w s ∷ words_but ws ss

-- it has the bits that the stale words do not have, in as many words
pub record IsWithout (stale old new : List ℕ) : Type 0 where
  pub each : length new ≡ length old
  pub bits : (m : ℕ) → row_bit new m ≡ row_bit (words_but old stale) m

-- how far the words are from having all their bits set
abbrev pub room : List ℕ → ℕ
room [] = 0
room (w ∷ ws) = (2 ^ 64 - w) + room ws
