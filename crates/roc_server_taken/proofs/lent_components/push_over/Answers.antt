use Rattle.std.proofs.Common.{◌+◌, arith}
use Rattle.std.specs.List.{list_any}
use Rattle.roc_step.specs.Below.{is_ended}
use Rattle.roc_server_taken.specs.Inner.Standing.{components_of}
use Rattle.roc_server_taken.proofs.EndedCount.{component_count, lower_next, lower_within, none_lower}
use Rattle.roc_server_taken.proofs.OverAdded.{adds_all, adds_next, none_added}
use Rattle.roc_server_taken.proofs.lent_components.push_over.Goals as goal

pub loop-coord-init : goal.loop-coord-init
loop-coord-init g c =
    let below = c.args.marks.now in
    let cs = (components_of c.args.components.now.standing.now) in
    record { added = none_added below cs c.requires.among c.args.ids.now.items; steps = omega (arith, none_lower below cs) }

pub loop-coord-preserved : goal.loop-coord-preserved
loop-coord-preserved g c =
    let below = c.args.marks.now in
    let cs = (components_of c.args.components.now.standing.now) in
    let k = c.loop-coord.coord in
    record {
      added =
          adds_next below cs c.requires.among k c.args.ids.now.items c.loop-coord.ids.items c.push_over_under.new.ids.items c.loop-coord.invariant.added
          c.in_ok-push_over_under.ensures.added;
      steps = omega (arith, lower_next below k cs, c.loop-coord.invariant.steps, c.push_over_under.ensures.steps);
    }

pub returns-in_err-push_over_under-clause-steps : goal.returns-in_err-push_over_under-clause-steps
returns-in_err-push_over_under-clause-steps g c =
    let below = c.args.marks.now in
    let cs = (components_of c.args.components.now.standing.now) in
    let k = c.loop-coord.coord in
    omega (arith, lower_next below k cs, lower_within below (k + 1) cs c.requires.among, component_count (list_any (is_ended below)) cs, c.loop-coord.invariant.steps, c.push_over_under.ensures.steps)

pub returns-clause-added : goal.returns-clause-added
returns-clause-added g c =
    adds_all c.args.marks.now (components_of c.args.components.now.standing.now) c.requires.among c.loop-coord.coord c.args.ids.now.items c.loop-coord.ids.items
    (omega arith) c.loop-coord.invariant.added

pub returns-clause-steps : goal.returns-clause-steps
returns-clause-steps g c =
    let below = c.args.marks.now in
    let cs = (components_of c.args.components.now.standing.now) in
    omega (arith, lower_within below c.loop-coord.coord cs c.requires.among, component_count (list_any (is_ended below)) cs, c.loop-coord.invariant.steps)
