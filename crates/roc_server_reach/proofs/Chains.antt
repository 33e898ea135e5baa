-- Chains of bits
use Rattle.std.proofs.Common.{◌≡◌, ℕ, true}
use Rattle.roc_server_reach.specs.Bits.{BitTable, bit_at, LeadsBy, itself, onward}

module _ (bits : BitTable) where
  pub joined_chain : (a b c : ℕ) → LeadsBy bits a b → LeadsBy bits b c → LeadsBy bits a c
  joined_chain a b _ p itself = p
  joined_chain a b _ p (onward q e) = onward (joined_chain a b _ p q) e

  -- one more bit in front of a chain
  pub chain_before : (a b c : ℕ) → bit_at bits a b ≡ true → LeadsBy bits b c → LeadsBy bits a c
  chain_before a b c e p = joined_chain a b c (onward itself e) p

  -- chains out of a closed set stay in it
  pub closed_chain : (L : ℕ → Type 0) → ((n m : ℕ) → L n → bit_at bits n m ≡ true → L m) → (n m : ℕ) → L n → LeadsBy bits n m → L m
  closed_chain L closed n _ h itself = h
  closed_chain L closed n _ h (onward p e) = closed _ _ (closed_chain L closed n _ h p) e
