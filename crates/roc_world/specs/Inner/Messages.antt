-- The messages of the network with their files, and the numbers of those that were never delivered
use Rattle.std.specs.Prelude.{◌≡◌, ℕ, ◌≤◌, nat_lt, List, [], ◌∷◌, length}
use Rattle.std.specs.List.{AllByRecursion}
use Rattle.roc_msg.specs.declared.msg.Envelope.{Envelope}
use Rattle.roc_sequence.specs.Rising.{IsRising}
use Rattle.roc_epoch.specs.declared.file.File.{File}
use Rattle.roc_two_files.specs.Sealed.{Sealed}

pub record Messages : Type 0 where
  pub sent : List Sealed
  pub undelivered : List ℕ

-- each message with the file that stands beside it
abbrev pub sealed_all : List File → List Envelope → List Sealed
sealed_all [] messages = []
sealed_all (file ∷ files) [] = []
sealed_all (file ∷ files) (m ∷ messages) = record { file = file; message = m } ∷ sealed_all files messages

-- the numbers rise, and are of the first so many messages
pub record AreNumbered (count : ℕ) (numbers : List ℕ) : Type 0 where
  pub rising : IsRising nat_lt numbers
  pub sent : AllByRecursion (λ n. n ≤ count) numbers

-- there is a file for each message, and the numbers are of these
pub record AreSealed (files : List File) (messages : List Envelope) (numbers : List ℕ) : Type 0 where
  pub each : length files ≡ length messages
  pub numbered : AreNumbered (length messages) numbers
