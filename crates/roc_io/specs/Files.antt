-- What a read of a name answers, and what it leaves in the buffer.
use Rattle.std.specs.Prelude.{◌≡◌, ℕ, ◌<◌, ◌≤◌, Bool, true, false, List, [], length}
use Rattle.roc_io.specs.declared.files.Read.{Read}
use Rattle.roc_io.specs.declared.files.Read.TheVariants.{Ok, TooLong, NoMemory, Failed}

abbrev pub read_failed : Read → Bool
read_failed Failed = true
read_failed Ok = false
read_failed TooLong = false
read_failed NoMemory = false

-- where the name holds these bytes: all of them at Ok, and TooLong where there are more than the limit
abbrev pub Reads : Read → List ℕ → ℕ → List ℕ → Type 0
Reads Ok bytes limit into = (into ≡ bytes) × (length bytes ≤ limit)
Reads TooLong bytes limit into = limit < length bytes
Reads NoMemory bytes limit into = Unit {0}
Reads Failed bytes limit into = Unit {0}

-- whatever the name holds: at most the limit at Ok, and nothing at any other answer
abbrev pub Fills : Read → ℕ → List ℕ → Type 0
Fills Ok limit into = length into ≤ limit
Fills TooLong limit into = into ≡ []
Fills NoMemory limit into = into ≡ []
Fills Failed limit into = into ≡ []
