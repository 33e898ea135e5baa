-- The first request that does not fit
use Rattle.std.proofs.Common.{◌≡◌, ℕ, ◌<◌, ◌≤◌, suc, List, length, get_or, take, drop, Option, Some, Result, Ok, Err, Vec, Global, refl, sym, ap, subst}
use Rattle.roc_sequence.proofs.Fronts.{parts_at}
use Rattle.roc_program.specs.Program.{Workload}
use Rattle.roc_sched.specs.declared.fault.What.{What}
use Rattle.roc_sched.specs.declared.line.Request.{Request}
use Rattle.roc_sched.specs.declared.fault.TextFault.{TextFault}
use Rattle.roc_sched.specs.declared.fault.TextFault.TheVariants.{At, NoMemory}
use Rattle.roc_sched.specs.Answer.{IsFaultBy}
use Rattle.roc_sched.specs.Schedule.{most_bytes, AreRequests}
use Rattle.roc_cli_files.specs.declared.fault.Fault.{Fault}
use Rattle.roc_cli_files.specs.declared.fault.Fault.TheVariants as fault
use Rattle.roc_cli_files.specs.Held.{Holds}
use Rattle.roc_cli_files.specs.Requests.{request_fault, FitEach, IsFirstUnfitRequest, IsRequestsFault, unfit_request}
use Rattle.roc_cli_files.specs.Input.{HoldsWithin}
use Rattle.roc_cli_files.specs.Inner.Listed.{RequestsEnd, RequestsTextEnd}
use Rattle.roc_cli_files.specs.Inner.Requests.{FitAll}

pub first_unfit_request : (program : Workload) (requests : List Request) (i : ℕ) (request : Request) (what : What) → i < length requests → request ≡ get_or requests i request
    → FitEach program (take i requests) → Some what ≡ request_fault program request → IsFirstUnfitRequest program requests request.line what
first_unfit_request program requests i request what within is fit fault = record {
  before = take i requests;
  request = request;
  behind = drop (suc i) requests;
  parts = sym (parts_at requests i request within is);
  fit = fit;
  in_line = refl;
  is = sym fault;
}

-- the first that does not fit, as the fault of its text
pub fault_of_requests : (program : Workload) (text : List ℕ) (requests : List Request) (fault : TextFault) → AreRequests text requests → FitAll program requests (Err fault)
    → IsFaultBy (IsRequestsFault program text) fault
fault_of_requests program text requests (At line what) are h = unfit_request requests are h
fault_of_requests program text requests NoMemory are h = tt

-- the requests of a file, or why there are none
module _ (content : List ℕ → Option (List ℕ)) (name : List ℕ) (program : Workload) (bytes taken : List ℕ) (held : HoldsWithin content name most_bytes bytes) (e : taken ≡ bytes) where
  taken_held : Holds content name taken
  taken_held = subst (Holds content name) (sym e) held.held

  taken_few : length taken ≤ most_bytes
  taken_few = subst (λ n. n ≤ most_bytes) (sym (ap length e)) held.few

  pub requests_end : (result : Result (Vec Request Global) Fault) → RequestsTextEnd taken name program result → RequestsEnd content name program result
  requests_end (Ok requests) are = record { bytes = taken; held = taken_held; size = taken_few; are = are }
  requests_end (Err (fault.At file line what)) (f, w, is, said) = (f, (w, record { bytes = taken; held = taken_held; size = taken_few; fault = is }, said))
  requests_end (Err fault.Memory) h = tt
  requests_end (Err _) h = absurd h
