-- Whether requests fit
use Rattle.std.specs.Prelude.{List, Result, Ok, Err}
use Rattle.roc_program.specs.Program.{Workload}
use Rattle.roc_sched.specs.declared.line.Request.{Request}
use Rattle.roc_sched.specs.declared.fault.TextFault.{TextFault}
use Rattle.roc_sched.specs.declared.fault.TextFault.TheVariants.{At, NoMemory}
use Rattle.roc_cli_files.specs.Requests.{FitEach, IsFirstUnfitRequest}

abbrev pub FitAll : Workload → List Request → Result Unit TextFault → Type 0
FitAll program requests (Ok done) = FitEach program requests
FitAll program requests (Err (At line what)) = IsFirstUnfitRequest program requests line what
FitAll program requests (Err NoMemory) = ⊥
