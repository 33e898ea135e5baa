use Rattle.roc_cli_files.proofs.Loading.{fails_behind, holds_behind, first_still, untouched_still}
use Rattle.roc_cli_files.proofs.nodes.nodes_of.Goals as goal

-- the files up to the requests were read
pub returns-in-Ok-clause-held : goal.returns-in-Ok-clause-held
returns-in-Ok-clause-held g c = holds_behind _ _ _ _ c.in-Ok.ensures.content (c.grown_of.ensures.held (first_still _ _ _ c.in-Ok.nodes c.in-Ok.ensures.content c.in-Ok.ensures.held))

pub returns-in-Ok-clause-untouched : goal.returns-in-Ok-clause-untouched
returns-in-Ok-clause-untouched g c = untouched_still _ _ _ _ c.in-Ok.ensures.untouched c.grown_of.ensures.untouched

pub returns-in-Ok-clause-fails : goal.returns-in-Ok-clause-fails
returns-in-Ok-clause-fails g c =
    fails_behind _ _ _ _ _ _ _ c.in-Ok.ensures.content c.in-Ok.ensures.untouched (c.grown_of.ensures.fails (first_still _ _ _ c.in-Ok.nodes c.in-Ok.ensures.content c.in-Ok.ensures.held))
