-- A network of two files: each message with the file of its sender, and what of it is of one file
use Rattle.std.specs.Prelude.{◌≡◌, ◌↔◌, ◌+◌, ℕ, suc, Bool, true, List, Some, length, map, filter, slice_get}
use Rattle.std.specs.List.{range_with_len}
use Rattle.roc_sequence.specs.Lists.{Has}
use Rattle.roc_base.specs.declared.node.Node.{Node}
use Rattle.roc_msg.specs.declared.msg.Envelope.{Envelope}
use Rattle.roc_msg.specs.declared.outbox.Outgoing.{Outgoing}
use Rattle.roc_epoch.specs.declared.file.File.{File}
use Rattle.roc_epoch.specs.Files.{is_file, file_of}
use Rattle.roc_law_protocol.specs.World.{sent_by}
use Rattle.roc_law_world.specs.Rank.{rank}
use Rattle.roc_law_world.specs.World.{World}

pub record Sealed : Type 0 where
  pub file : File
  pub message : Envelope

abbrev pub is_of : File → Sealed → Bool
is_of f m = is_file f m.file

-- the messages of a file, in their order
abbrev pub of_file : File → List Sealed → List Envelope
of_file f sent = map (λ m. m.message) (filter (is_of f) sent)

-- what a node sends
abbrev pub sealed_by : (switched : Bool) → Node → Outgoing → Sealed
sealed_by switched from out = record { file = file_of switched out.msg; message = sent_by from out }

-- where message k stands among those of a file
abbrev pub place_in_file : File → List Sealed → (k : ℕ) → ℕ
place_in_file f sent k = rank (is_of f) sent k

-- the numbers of the messages that are sent behind these, of so many
abbrev pub numbers_behind : List Sealed → (n : ℕ) → List ℕ
numbers_behind sent n = range_with_len (length sent + 1) n

-- a world has the messages of a file, and of them the same were never delivered
pub record IsNetworkOf (f : File) (sent : List Sealed) (undelivered : List ℕ) (w : World) : Type 0 where
  pub messages : w.sent ≡ of_file f sent
  pub numbers :
      (k : ℕ) (m : Sealed) → slice_get sent k ≡ Some m → is_of f m ≡ true → Has (suc k) undelivered ↔ Has (suc (place_in_file f sent k)) w.undelivered
