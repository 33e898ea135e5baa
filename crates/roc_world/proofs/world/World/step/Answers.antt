use Rattle.std.proofs.Common.{option_copied}
use Rattle.std.specs.Prelude.{Some}
use Rattle.roc_world.specs.Inner.Parts.{world_of}
use Rattle.roc_world.proofs.WorldsFit.{step_fits, step_count}
use Rattle.roc_world.proofs.world.World.step.Goals as goal

pub returns-clause-fits : goal.returns-clause-fits
returns-clause-fits c =
    let next = option_copied c.args.next in
    step_fits c.args.plan.now next c.args.self.now (world_of c.self.inside.parts) (world_of c.happen.new.parts) c.args.event.now c.self.view_is
    (λ o fits h. c.grown_worlds_fit.ensures.kept c.args.plan.now next (world_of c.self.inside.parts) (Some c.args.event.now) o c.requires.next fits h) c.happen.result c.requires.fits c.happen.ensures

pub returns-clause-coords : goal.returns-clause-coords
returns-clause-coords c =
    step_count c.args.plan.now (option_copied c.args.next) c.args.self.now (world_of c.self.inside.parts) (world_of c.happen.new.parts) c.args.event.now c.self.view_is c.happen.result c.happen.ensures
