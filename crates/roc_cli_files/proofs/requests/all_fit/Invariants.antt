-- the requests so far fit
use Rattle.std.proofs.Common.{take}
use Rattle.roc_cli_files.specs.Requests.{FitEach}
use Rattle.roc_cli_files.proofs.requests.all_fit.Given as goal

abbrev pub invariant-loop-request : goal.invariant-loop-request
invariant-loop-request l = FitEach l.plan.program (take l.request-index l.requests)
