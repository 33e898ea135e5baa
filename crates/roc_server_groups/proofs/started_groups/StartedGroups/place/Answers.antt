use Rattle.std.proofs.Common.{position, ap, subst, ◌∙◌}
use Rattle.roc_step.specs.State.{is_group}
use Rattle.roc_server_groups.specs.Entered.{Entered}
use Rattle.roc_server_groups.specs.Inner.Keyed.{IsOnceHere}
use Rattle.roc_server_groups.proofs.KeyedGroups.{place_is, once_here}
use Rattle.roc_server_groups.proofs.started_groups.StartedGroups.place.Goals as goal

pub returns-clause-place : goal.returns-clause-place
returns-clause-place c =
    c.get_index_of.ensures.index ∙ place_is c.args.id c.args.number c.self.inside.groups.entries c.self.invariant.keyed.keys ∙ ap (position (is_group c.args.id c.args.number)) (ap (λ (v : Entered). v.groups) c.self.view_is)

pub returns-clause-once : goal.returns-clause-once
returns-clause-once c =
    subst (IsOnceHere c.args.id c.args.number) (ap (λ (v : Entered). v.groups) c.self.view_is) (once_here c.self.inside.groups.entries c.self.invariant.keyed.keys c.get_index_of.ensures.unique c.args.id c.args.number)
