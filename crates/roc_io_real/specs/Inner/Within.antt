-- What a read leaves in the buffer before it is cleared
use Rattle.std.specs.Prelude.{ℕ, ◌≤◌, List, length}
use Rattle.roc_io.specs.declared.files.Read.{Read}
use Rattle.roc_io.specs.declared.files.Read.TheVariants.{Ok, TooLong, NoMemory, Failed}

abbrev pub OkWithin : Read → ℕ → List ℕ → Type 0
OkWithin Ok limit into = length into ≤ limit
OkWithin TooLong limit into = Unit {0}
OkWithin NoMemory limit into = Unit {0}
OkWithin Failed limit into = Unit {0}
