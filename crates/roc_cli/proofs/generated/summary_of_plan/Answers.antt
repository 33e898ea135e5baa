use Rattle.std.proofs.Common.{None, sym, subst}
use Rattle.roc_generate.specs.Load.{IsLoadOf}
use Rattle.roc_generate.specs.ScheduleText.{generated_lines}
use Rattle.roc_replay.specs.Ended.{IsReplayed}
use Rattle.roc_cli.proofs.Loads.{load_is_right, generated_run}
use Rattle.roc_cli.proofs.generated.summary_of_plan.Goals as goal

pub returns-in-Done : goal.returns-in-Done
returns-in-Done c =
    generated_run (λ t. t.items) c.args.seed c.args.shards c.args.txns c.args.plan.now c.in-Done.summary _ c.requires.planned
    (subst (λ s. IsReplayed c.args.plan.now None s c.in-Done.summary None None) c.requires.schedule c.in-Done.ensures.done) c.summary_text.ensures

-- the generated schedule is one of the plan, and names no message
pub unreachable-requires : goal.unreachable-requires
unreachable-requires c =
    load_is_right c.lines_are_unique.ensures.schedules c.texts_are_right_or_wrong.ensures.one_of_both c.args.plan.now c.args.schedule.now (generated_lines c.args.seed c.args.shards c.args.txns)
    (subst (λ s. IsLoadOf c.args.plan.now.program s (generated_lines c.args.seed c.args.shards c.args.txns)) (sym c.requires.schedule) (c.schedules_fit.ensures c.args.seed c.args.shards c.args.txns c.args.plan.now c.requires.some c.requires.few c.requires.within c.requires.planned))
    _ _ None None c.in-Text.ensures.text
