use Rattle.roc_cli_files.proofs.Listing.{first_unfit_request}
use Rattle.roc_cli_files.proofs.requests.all_fit.Goals as goal

pub returns-in-Some : goal.returns-in-Some
returns-in-Some c =
    first_unfit_request c.args.plan.now.program c.args.requests.now c.loop-request.request-index c.request-item.result c.in-Some.what c.loop-request-test.true c.request-item.is
    c.loop-request.invariant c.in-Some.ensures
