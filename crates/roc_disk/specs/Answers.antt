-- What the calls of a disk answer.
use Rattle.std.specs.Prelude.{◌≡◌, ℕ, Bool, true, false, List, ◌++◌, ◌+◌, length, take, drop}
use Rattle.roc_disk.specs.declared.disk.DiskDone.{DiskDone}
use Rattle.roc_disk.specs.declared.disk.DiskDone.TheVariants.{Ok, Failed}
use Rattle.roc_disk.specs.declared.disk.DiskLen.{DiskLen}
use Rattle.roc_disk.specs.declared.disk.DiskLen.TheVariants.{Len, Failed as LenFailed}

abbrev pub disk_failed : DiskDone → Bool
disk_failed Ok = false
disk_failed Failed = true

abbrev pub len_failed : DiskLen → Bool
len_failed (Len n) = false
len_failed LenFailed = true

-- the clause holds where the call answered Ok
abbrev pub OnDone : DiskDone → Type 0 → Type 0
OnDone Ok P = P
OnDone Failed P = Unit {0}

-- a length that was answered is that of these bytes
abbrev pub IsLength : DiskLen → List ℕ → Type 0
IsLength (Len n) bytes = n ≡ length bytes
IsLength LenFailed bytes = Unit {0}

-- these bytes from this place on, in the place of those that stood there
abbrev pub put : List ℕ → ℕ → List ℕ → List ℕ
put old at bytes = take at old ++ bytes ++ drop (at + length bytes) old
