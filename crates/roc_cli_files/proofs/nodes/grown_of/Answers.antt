use Rattle.roc_cli_files.specs.NodeNames.{by_next}
use Rattle.roc_cli_files.proofs.Loading.{fails_behind, holds_behind, first_still, growth_still}
use Rattle.roc_cli_files.proofs.nodes.grown_of.Goals as goal

-- it is known what comes next
pub returns-in-Ok-clause-held : goal.returns-in-Ok-clause-held
returns-in-Ok-clause-held g c first =
    holds_behind _ _ _ _ c.in-Ok.ensures.unchanged
    (c.later_of.ensures.held (first_still _ _ _ c.args.nodes c.in-Ok.ensures.unchanged first) (growth_still _ _ _ _ _ _ c.in-Ok.ensures.unchanged c.in-Ok.ensures.held))

pub returns-in-Ok-clause-fails : goal.returns-in-Ok-clause-fails
returns-in-Ok-clause-fails g c first =
    fails_behind _ _ _ _ _ _ _ c.in-Ok.ensures.unchanged c.in-Ok.ensures.untouched
    (c.later_of.ensures.fails _ (first_still _ _ _ c.args.nodes c.in-Ok.ensures.unchanged first) (growth_still _ _ _ _ _ _ c.in-Ok.ensures.unchanged c.in-Ok.ensures.held))

-- there is none
pub returns-clause-fails : goal.returns-clause-fails
returns-clause-fails g c first = by_next _ _ _ _ c.in-Err.fault first c.in-Err.ensures.fails
