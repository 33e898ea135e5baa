-- Two files, which of them a message is of, and which one a node runs: docs/PROTOCOL.md, "Growth"
use Rattle.std.specs.Prelude.{◌<◌, ◌≤◌, ◌||◌, Bool, true, false, Option, Some, None, if◌then◌else◌}
use Rattle.roc_msg.specs.declared.msg.Msg.{Msg}
use Rattle.roc_msg.specs.declared.msg.Msg.TheVariants.{Drained, Switched}
use Rattle.roc_plan.specs.Groups.{Plan}
use Rattle.roc_plan.specs.Accepted.{IsAccepted}
use Rattle.roc_epoch.specs.declared.file.File.{File}
use Rattle.roc_epoch.specs.declared.file.File.TheVariants.{First, Second, Neither}
use Rattle.roc_epoch.specs.declared.next.Next.{Next}
use Rattle.roc_epoch.specs.Grown.{IsGrownFrom}

abbrev pub is_file : File → File → Bool
is_file First First = true
is_file First Second = false
is_file First Neither = false
is_file Second First = false
is_file Second Second = true
is_file Second Neither = false
is_file Neither First = false
is_file Neither Second = false
is_file Neither Neither = true

-- a drained and a switched are of neither file
abbrev pub is_between : Msg → Bool
is_between (Drained upto) = true
is_between (Switched upto shard) = true
is_between msg = false

-- the file that a node runs
abbrev pub own_file : (switched : Bool) → File
own_file switched = if switched then Second else First

-- a message's file is that of its sender, as it was sent
abbrev pub file_of : (switched : Bool) → Msg → File
file_of switched msg = if is_between msg then Neither else own_file switched

-- a node takes notice of its own file's messages, and of each drained and switched; others it skips
abbrev pub is_for : (switched : Bool) → File → Msg → Bool
is_for switched file msg = is_between msg || is_file (own_file switched) file

-- the plan that a node runs
abbrev pub own_plan : Plan → Option Next → (switched : Bool) → Plan
own_plan plan None switched = plan
own_plan plan (Some next) switched = if switched then next.plan else plan

-- it names the procedures and the cells of both
abbrev pub last_plan : Plan → Option Next → Plan
last_plan plan None = plan
last_plan plan (Some next) = next.plan

-- what may come next: an accepted plan of a grown program, for 1 to 16 coordinators
abbrev pub IsNextOf : Plan → Option Next → Type 0
IsNextOf plan None = Unit {0}
IsNextOf plan (Some next) = IsAccepted next.plan × IsGrownFrom plan.program next.plan.program × (0 < next.coords) × (next.coords ≤ 16)
