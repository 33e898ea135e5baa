-- What files in memory hold.
use Rattle.std.specs.Prelude.{ℕ, List, [], ◌∷◌, Option, Some, None, if◌then◌else◌, bytes_eq}
use Rattle.roc_io_memory.specs.Calls.{Calls}

-- a file as contracts see it
pub record NamedBytes : Type 0 where
  pub name : List ℕ
  pub bytes : List ℕ

-- what the first file of this name holds
abbrev pub held : List NamedBytes → List ℕ → Option (List ℕ)
held [] name = None
held (file ∷ files) name = if bytes_eq file.name name then Some file.bytes else held files name

-- files in memory, the names whose reads failed, where there was memory for them, and the reads made
pub record FilesState : Type 0 where
  pub files : List NamedBytes
  pub failed : Option (List (List ℕ))
  pub calls : Calls
