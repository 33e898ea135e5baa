use Rattle.roc_cli_files.proofs.Listing.{requests_end}
use Rattle.roc_cli_files.proofs.listed.requests_of.Goals as goal

pub returns-in-Ok-clause-ends : goal.returns-in-Ok-clause-ends
returns-in-Ok-clause-ends g c = requests_end _ _ _ _ _ c.in-Ok.ensures.held c.deref.ensures.value _ c.requests_at.ensures.ends
