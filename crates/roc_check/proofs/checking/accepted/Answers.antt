use Rattle.roc_conflict.specs.Classes.{is_immediate}
use Rattle.roc_check.proofs.checking.accepted.Goals as goal

pub unreachable-requires : goal.unreachable-requires
unreachable-requires c =
    c.in-Err-Unfit.ensures.unfit.0 (cc)
    (c.merged_groups_are_accepted.ensures c.args.workload (is_immediate c.args.classes) c.args.groups c.procedures.ensures.well_formed c.requires.immediate c.requires.acceptable c.requires.merged)
