-- What callers over any implementation answer.
use Rattle.std.specs.Prelude.{◌≡◌, ◌≢◌, ℕ, ◌<◌, Bool, true, false, List, [], ◌++◌, length, map, find, Option, Some, None, IfSome, option_map}
use Rattle.roc_io.specs.declared.files.Read.{Read}
use Rattle.roc_io.specs.declared.files.Read.TheVariants.{Ok}
use Rattle.roc_io.specs.declared.spawner.ChildWait.{ChildWait}
use Rattle.roc_io.specs.Files.{read_failed, Fills}
use Rattle.roc_io.specs.Packet.{Packet}
use Rattle.roc_io.specs.Spawner.{ended_badly}
use Rattle.roc_io.specs.Observed.{Adds}
use Rattle.roc_io_memory.specs.declared.callers.TwoRead.{TwoRead}
use Rattle.roc_io_memory.specs.declared.callers.TwoRead.TheVariants.{Both, First, Second}
use Rattle.roc_io_memory.specs.declared.callers.Drained.{Drained}
use Rattle.roc_io_memory.specs.declared.callers.Drained.TheVariants.{Quiet as DrainQuiet, Turns, NoMemory as DrainNoMemory, Failed as DrainFailed}

-- the answer of the first of two reads
abbrev pub first_answer : TwoRead → Read
first_answer Both = Ok
first_answer (First answer) = answer
first_answer (Second answer) = Ok

-- the answer of the second, if it was made
abbrev pub second_answer : TwoRead → Option Read
second_answer Both = Some Ok
second_answer (First answer) = None
second_answer (Second answer) = Some answer

abbrev pub two_failed : TwoRead → Bool
two_failed Both = false
two_failed (First answer) = read_failed answer
two_failed (Second answer) = read_failed answer

-- the name that was read last
abbrev pub last_name : TwoRead → (first second : List ℕ) → List ℕ
last_name Both first second = second
last_name (First answer) first second = first
last_name (Second answer) first second = second

-- what stopped the reads is no Ok
abbrev pub IsStoppedRead : TwoRead → Type 0
IsStoppedRead Both = Unit {0}
IsStoppedRead (First answer) = answer ≢ Ok
IsStoppedRead (Second answer) = answer ≢ Ok

-- the second buffer: as a read fills it, or empty where the second read was not made
abbrev pub FillsSecond : Option Read → ℕ → List ℕ → Type 0
FillsSecond None limit into = into ≡ []
FillsSecond (Some answer) limit into = Fills answer limit into

abbrev pub drain_failed : Drained → Bool
drain_failed DrainFailed = true
drain_failed DrainQuiet = false
drain_failed Turns = false
drain_failed DrainNoMemory = false

-- why a drain ended: after all turns, or where no arrival is left, if they are told
abbrev pub EndsDrain : Drained → ℕ → ℕ → Option (List Packet) → Type 0
EndsDrain DrainQuiet turns taken left = (taken < turns) × IfSome left (λ left. left ≡ [])
EndsDrain Turns turns taken left = taken ≡ turns
EndsDrain DrainNoMemory turns taken left = taken < turns
EndsDrain DrainFailed turns taken left = taken < turns

-- the datagrams that a drain added are the first arrivals, where they are told
pub record Drains (end : Drained) (turns : ℕ) (old new : Option (List Packet)) (before after : List Packet) : Type 0 where
  pub taken : List Packet
  pub added : after ≡ before ++ taken
  pub first : old ≡ option_map (λ left. taken ++ left) new
  pub ends : EndsDrain end turns (length taken) new

-- each of the children was awaited, in order, and this is the first wait that did not end with status 0
pub record WaitsAll (old new : Option (List ChildWait)) (children : List ℕ) (first : Option ChildWait) : Type 0 where
  pub waits : List ChildWait
  pub told : Adds old new waits
  pub each : map (λ wait. wait.child) waits ≡ children
  pub bad : first ≡ find ended_badly waits
