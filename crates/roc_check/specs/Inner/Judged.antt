-- What comes of a program, before it is said of its text
use Rattle.std.specs.Prelude.{◌≡◌, Result, Ok, Err}
use Rattle.roc_program.specs.Program.{Workload}
use Rattle.roc_plan.specs.Groups.{Plan}
use Rattle.roc_report.specs.Checked as line
use Rattle.roc_check.specs.declared.fault.CheckFault.{CheckFault}
use Rattle.roc_check.specs.declared.fault.CheckFault.TheVariants.{Apart, Blocked, NoMemory}
use Rattle.roc_check.specs.Checked.{IsPlanOf, IsRefusedBy}

-- the refusal of this program, or want of memory
abbrev pub IsRefusalOf : Workload → CheckFault → Type 0
IsRefusalOf program (Apart workload p q cycle) = (workload ≡ program) × IsRefusedBy program (line.Apart p q cycle)
IsRefusalOf program (Blocked workload p q x cycle) = (workload ≡ program) × IsRefusedBy program (line.Blocked p q x cycle)
IsRefusalOf program NoMemory = Unit {0}
IsRefusalOf program _ = ⊥

-- its plan, or its refusal
abbrev pub IsJudged : Workload → Result Plan CheckFault → Type 0
IsJudged program (Ok plan) = IsPlanOf program plan
IsJudged program (Err fault) = IsRefusalOf program fault
