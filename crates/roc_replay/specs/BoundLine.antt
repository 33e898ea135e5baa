-- Schedules of the last of one or two files, what their lines ask for, and which event that is in a world: docs/FORMATS.md, "Schedule".
use Rattle.std.specs.Prelude.{◌≡◌, ℕ, ℤ, true, ◌<◌, ◌≤◌, ◌%◌, ◌^◌, ◌==◌, if◌then◌else◌, List, [], ◌∷◌, ◌++◌, length, Option, Some, None, Result, Ok, Err, slice_index_or}
use Rattle.std.specs.List.{AllByRecursion}
use Rattle.roc_base.specs.declared.node.Node.{Node}
use Rattle.roc_base.specs.declared.node.Node.TheVariants.{Server, Coord}
use Rattle.roc_program.specs.Program.{Workload}
use Rattle.roc_program.specs.LookUps.{no_procedure, procedure_named}
use Rattle.roc_plan.specs.Groups.{Plan}
use Rattle.roc_law_protocol.specs.declared.event.Kept.{Kept}
use Rattle.roc_law_protocol.specs.declared.event.Kept.TheVariants.{Lost, Sent}
use Rattle.roc_epoch.specs.declared.next.Next.{Next}
use Rattle.roc_epoch.specs.Files.{last_plan}
use Rattle.roc_growth.specs.declared.event.Event.{Event}
use Rattle.roc_growth.specs.declared.event.Event.TheVariants as event
use Rattle.roc_growth.specs.World.{GrownWorld}
use Rattle.roc_growth.specs.Happens.{IsNext}
use Rattle.roc_growth.specs.Run.{IsSentIn}
use Rattle.roc_sched.specs.declared.fault.What.{What}
use Rattle.roc_sched.specs.declared.fault.What.TheVariants as what
use Rattle.roc_sched.specs.declared.forms.Forms.{Forms}
use Rattle.roc_sched.specs.declared.line.Act.{Act}
use Rattle.roc_sched.specs.declared.line.Act.TheVariants as act
use Rattle.roc_sched.specs.declared.line.Line.{Line}
use Rattle.roc_sched.specs.Each.{each}
use Rattle.roc_sched.specs.Forms as forms
use Rattle.roc_sched.specs.Fits.{IsMessageNumber}
use Rattle.roc_sched.specs.Schedule.{IsSchedule, item_of, fault_of}
use Rattle.roc_replay.specs.declared.asked.BoundLine.{BoundLine}
use Rattle.roc_replay.specs.declared.asked.Wanted.{Wanted}
use Rattle.roc_replay.specs.declared.asked.Wanted.TheVariants as wanted

-- how many coordinators there are for the next file, where there is one
abbrev pub coords_of : Option Next → Option ℕ
coords_of None = None
coords_of (Some next) = Some next.coords

-- the forms of lines that are played: those of any schedule, stops of servers, and drains of coordinators where there is a next file
abbrev pub played_forms : Option Next → Forms
played_forms next = record { stops = true; coords = coords_of next }

-- how many coordinators there are: as many as the next file is for, or else sixteen
abbrev pub coordinators : Option Next → ℕ
coordinators next = forms.coordinators (played_forms next)

-- ---- what a line asks for

-- how many arguments the procedure of a number takes
abbrev pub arguments_of : Workload → ℕ → ℕ
arguments_of program proc = (slice_index_or program.procedures proc no_procedure).arguments

-- the submission of a procedure, where there is one, with its count of arguments
abbrev pub submission_of : Workload → (coord : ℕ) (args : List ℤ) → (proc : Option ℕ) → Result Wanted What
submission_of program coord args None = Err what.Procedure
submission_of program coord args (Some proc) = if length args == arguments_of program proc then Ok (wanted.Event (event.Submit coord proc args)) else Err what.Arguments

-- a server that stops at a message has no record of it, or has one, and sent so many of the messages that come of it
abbrev pub kept_record : Option ℕ → Kept
kept_record None = Lost
kept_record (Some many) = Sent many

abbrev pub stop_during : Option (ℕ × Option ℕ) → Option (ℕ × Kept)
stop_during None = None
stop_during (Some (message, many)) = Some (message, kept_record many)

-- what an act asks for, or why it does not fit the program
abbrev pub wanted_by : Workload → Act → Result Wanted What
wanted_by program (act.Submit coord name args) = submission_of program coord args (procedure_named program name)
wanted_by program (act.Deliver message) = Ok (wanted.Event (event.Deliver message))
wanted_by program (act.Any place) = Ok (wanted.Any place)
wanted_by program (act.Tick node) = Ok (wanted.Event (event.Tick node))
wanted_by program (act.Stop shard during) = Ok (wanted.Event (event.Stop shard (stop_during during)))
wanted_by program (act.Drain coord) = Ok (wanted.Event (event.Drain coord))

abbrev pub numbered : ℕ → Result Wanted What → Result BoundLine What
numbered number (Ok wanted) = Ok (record { number = number; wanted = wanted })
numbered number (Err fault) = Err fault

abbrev pub asked_by : Workload → Line → Result BoundLine What
asked_by program line = numbered line.number (wanted_by program line.act)

-- the program of the last file
abbrev pub last_program : Plan → Option Next → Workload
last_program plan next = (last_plan plan next).program

-- the bytes are a schedule whose lines ask for these, and fit the program of the last file
pub record IsScheduleOf (plan : Plan) (next : Option Next) (text : List ℕ) (asked : List BoundLine) : Type 0 where
  pub lines : List Line
  pub schedule : IsSchedule (played_forms next) (last_program plan next).shards text lines
  pub asks : each (λ line. item_of (asked_by (last_program plan next) line)) lines ≡ Some asked

-- the bytes are a schedule, and its first line that does not fit that program has this number and fault
pub record IsUnfit (plan : Plan) (next : Option Next) (text : List ℕ) (number : ℕ) (fault : What) : Type 0 where
  pub before : List Line
  pub line : Line
  pub behind : List Line
  pub schedule : IsSchedule (played_forms next) (last_program plan next).shards text (before ++ line ∷ behind)
  pub fit : AllByRecursion (λ l. fault_of (asked_by (last_program plan next) l) ≡ None) before
  pub numbered : line.number ≡ number
  pub is : asked_by (last_program plan next) line ≡ Err fault

-- what each line of such a schedule keeps to
abbrev pub IsNodeIn : Plan → Option Next → Node → Type 0
IsNodeIn plan next (Server shard) = shard.0 < (last_program plan next).shards
IsNodeIn plan next (Coord number) = number < coordinators next

abbrev pub IsStopOf : Option (ℕ × Kept) → Type 0
IsStopOf None = Unit {0}
IsStopOf (Some (message, kept)) = IsMessageNumber message

abbrev pub FitsPlans : Plan → Option Next → Event → Type 0
FitsPlans plan next (event.Submit coord proc args) =
    (coord < coordinators next) × (proc < length (last_program plan next).procedures) × (length args ≡ arguments_of (last_program plan next) proc)
FitsPlans plan next (event.Deliver message) = IsMessageNumber message
FitsPlans plan next (event.Tick node) = IsNodeIn plan next node
FitsPlans plan next (event.Stop shard during) = (shard.0 < (last_program plan next).shards) × IsStopOf during
FitsPlans plan next (event.Drain coord) = IsNext next × (coord < coordinators next)

abbrev pub WantedFits : Plan → Option Next → Wanted → Type 0
WantedFits plan next (wanted.Event e) = FitsPlans plan next e
WantedFits plan next (wanted.Any place) = place < 2 ^ 32

-- ---- which event that is in a world

-- of the messages that were never delivered, the one at this place, counted round
abbrev pub chosen : (place : ℕ) → (undelivered : List ℕ) → Option Event
chosen place [] = None
chosen place (k ∷ ks) = Some (event.Deliver (slice_index_or (k ∷ ks) (place % length (k ∷ ks)) 0))

-- the event that is asked for in a world, if any
abbrev pub event_in : GrownWorld → Wanted → Option Event
event_in w (wanted.Event e) = Some e
event_in w (wanted.Any place) = chosen place w.undelivered

-- ---- which messages are there

-- what an event needs of the messages of a world: that the one which is delivered was sent, and that the one at which a server stops was sent to it
abbrev pub HasItsMessage : GrownWorld → Event → Type 0
HasItsMessage w (event.Deliver message) = message ≤ length w.sent
HasItsMessage w (event.Stop shard during) = IsSentIn w shard.0 during
HasItsMessage w (event.Submit coord proc args) = Unit {0}
HasItsMessage w (event.Tick node) = Unit {0}
HasItsMessage w (event.Drain coord) = Unit {0}

-- what a line needs of them; a choice takes only what was sent
abbrev pub AsksForSent : GrownWorld → Wanted → Type 0
AsksForSent w (wanted.Event e) = HasItsMessage w e
AsksForSent w (wanted.Any place) = Unit {0}
