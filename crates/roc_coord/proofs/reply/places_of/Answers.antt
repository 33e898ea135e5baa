-- What one more group adds comes behind what the groups before it add
use Rattle.std.proofs.Common.{ℕ, List, ◌++◌, ap, ◌∙◌}
use Rattle.std.proofs.lemmas.List.{take_all}
use Rattle.std.specs.List.{flat_map}
use Rattle.roc_plan.specs.Groups.{outs_of}
use Rattle.roc_plan.proofs.Taken.{pushed_flat}
use Rattle.roc_coord.proofs.reply.places_of.Goals as goal

pub loop-group-init : goal.loop-group-init
loop-group-init c = c.new-places.ensures.items

pub outs-requires : goal.outs-requires
outs-requires c = c.requires c.loop-group.group-index 0 c.loop-group-test.true

pub loop-group-preserved : goal.loop-group-preserved
loop-group-preserved c =
    let add : List ℕ → List ℕ = λ ys. c.loop-group.places.items ++ ys in
    pushed_flat (outs_of c.args.plan.now c.args.proc) c.args.groups.now c.loop-group.group-index 0 c.loop-group.places.items c.extend_from_slice.new.self.items c.loop-group-test.true
    (c.in_ok-extend_from_slice.ensures.items ∙ ap add c.outs.ensures) c.loop-group.invariant

pub returns : goal.returns
returns c = c.loop-group.invariant ∙ ap (flat_map (outs_of c.args.plan.now c.args.proc)) (take_all c.loop-group.group-index c.args.groups.now c.loop-group-test.false)
