use Rattle.std.proofs.Common.{subst, Err}
use Rattle.roc_cli_files.specs.Inner.Requests.{FitAll}
use Rattle.roc_cli_files.proofs.Listing.{fault_of_requests}
use Rattle.roc_cli_files.proofs.requests.requests_in.Goals as goal

pub returns-in-Err-all_fit-clause-fault : goal.returns-in-Err-all_fit-clause-fault
returns-in-Err-all_fit-clause-fault c =
    fault_of_requests c.args.plan.now.program c.args.text.now c.in-Ok.requests.items c.in-Err-all_fit.fault c.in-Ok.ensures.found
    (subst (λ rs. FitAll c.args.plan.now.program rs (Err c.in-Err-all_fit.fault)) c.deref.ensures.value c.in-Err-all_fit.ensures)
