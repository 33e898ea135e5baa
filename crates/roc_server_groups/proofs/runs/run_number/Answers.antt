use Rattle.std.proofs.Common.{◌≡◌, Some, None, position, sym, ap, ◌∙◌}
use Rattle.std.specs.Option.{option_to_list}
use Rattle.roc_step.specs.Runs.{run_groups}
use Rattle.roc_server_groups.specs.Groups.{holding}
use Rattle.roc_server_groups.specs.Inner.Runs.{buffered}
use Rattle.roc_step.specs.State.{is_group}
use Rattle.roc_sequence.proofs.Found.{not_found}
use Rattle.roc_server_groups.proofs.GroupRuns.{number_runs, number_same}
use Rattle.roc_server_groups.proofs.runs.run_number.Goals as goal
use Rattle.roc_server_groups.proofs.runs.run_number.Goals.{After-run_if_buffered, In-None}

stands : (c : After-run_if_buffered) → position (is_group c.args.id c.args.number) c.args.started.now.groups ≡ Some c.in-Some.at
stands c = sym c.place_of_group.ensures ∙ c.in-Some.is

pub returns-in-Some-clause-runs : goal.returns-in-Some-clause-runs
returns-in-Some-clause-runs c =
    number_runs c.args.plan.now c.args.id c.args.number c.in-Some.at c.args.started.now.groups c.run_if_buffered.new.started.groups c.args.rows.now.store c.run_if_buffered.new.rows.store c.requires.once (stands c) c.run_if_buffered.result c.run_if_buffered.ensures.runs

pub returns-in-Some-clause-groups : goal.returns-in-Some-clause-groups
returns-in-Some-clause-groups c =
    number_same c.args.plan.now c.args.id c.args.number c.in-Some.at c.args.started.now.groups c.run_if_buffered.new.started.groups c.args.rows.now.store c.run_if_buffered.new.rows.store c.requires.once (stands c) c.run_if_buffered.result c.run_if_buffered.ensures.runs

absent : (c : In-None) → position (is_group c.args.id c.args.number) c.args.started.now.groups ≡ None
absent c = sym c.place_of_group.ensures ∙ c.in-None.is

pub returns-in-None-clause-runs : goal.returns-in-None-clause-runs
returns-in-None-clause-runs c s =
    ap (λ o. run_groups c.args.plan.now (holding s c.args.rows.now.store c.args.started.now.groups) (buffered c.args.plan.now (option_to_list o))) (not_found (is_group c.args.id c.args.number) c.args.started.now.groups (absent c))
