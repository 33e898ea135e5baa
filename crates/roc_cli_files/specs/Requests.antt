-- Request files of a program: docs/FORMATS.md, "Requests"
use Rattle.std.specs.Prelude.{◌≡◌, ℕ, ◌==◌, ℤ, if◌then◌else◌, List, length, ◌∷◌, ◌++◌, Option, None, Some, slice_index_or}
use Rattle.std.specs.List.{AllByRecursion}
use Rattle.roc_program.specs.Program.{Workload}
use Rattle.roc_program.specs.LookUps.{no_procedure, procedure_named}
use Rattle.roc_sched.specs.declared.fault.What.{What}
use Rattle.roc_sched.specs.declared.fault.What.TheVariants.{Procedure, Arguments}
use Rattle.roc_sched.specs.declared.line.Request.{Request}
use Rattle.roc_sched.specs.Schedule.{AreRequests, IsRequestFault}

-- why a call of a procedure, where there is one, does not fit the program, if it does not
abbrev pub call_fault : Workload → (args : List ℤ) → (proc : Option ℕ) → Option What
call_fault program args None = Some Procedure
call_fault program args (Some proc) = if length args == (slice_index_or program.procedures proc no_procedure).arguments then None else Some Arguments

abbrev pub request_fault : Workload → Request → Option What
request_fault program request = call_fault program request.args (procedure_named program request.name)

-- each fits the program
abbrev pub FitEach : Workload → List Request → Type 0
FitEach program requests = AllByRecursion (λ request. request_fault program request ≡ None) requests

-- the first that does not fit stands in this line, and has this fault
pub record IsFirstUnfitRequest (program : Workload) (requests : List Request) (line : ℕ) (what : What) : Type 0 where
  pub before : List Request
  pub request : Request
  pub behind : List Request
  pub parts : requests ≡ before ++ request ∷ behind
  pub fit : FitEach program before
  pub in_line : request.line ≡ line
  pub is : request_fault program request ≡ Some what

-- the bytes are a request file of these requests, all of which fit the program
pub record AreRequestsOf (program : Workload) (text : List ℕ) (requests : List Request) : Type 0 where
  pub are : AreRequests text requests
  pub fit : FitEach program requests

-- what is wrong with the bytes: they are no request file, or a request does not fit the program
pub data IsRequestsFault (program : Workload) (text : List ℕ) (line : ℕ) (what : What) : Type 0 where
  no_requests : IsRequestFault text line what → IsRequestsFault program text line what
  unfit_request : (requests : List Request) → AreRequests text requests → IsFirstUnfitRequest program requests line what → IsRequestsFault program text line what
