-- The number that bytes are, as `byteorder` reads it and as a datagram's fields are read
use Rattle.std.proofs.Common.{◌≡◌, ℕ, List, arith}
use Rattle.std.specs.Int.{w16, w32, w64, from_be_bytes}
use Rattle.byteorder.specs.Endian.{big_number}

pub number_of_two : (bytes : List ℕ) → big_number 2 bytes ≡ from_be_bytes w16 bytes
number_of_two bytes = omega arith

pub number_of_four : (bytes : List ℕ) → big_number 4 bytes ≡ from_be_bytes w32 bytes
number_of_four bytes = omega arith

pub number_of_eight : (bytes : List ℕ) → big_number 8 bytes ≡ from_be_bytes w64 bytes
number_of_eight bytes = omega arith
