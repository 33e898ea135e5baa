use Rattle.std.proofs.Common.{◌<◌, ◌∙◌, ◌++◌, ◌∷◌, [], min, ap, arith, subst, sym}
use Rattle.indexmap.specs.IndexMap.{spare, values}
use Rattle.roc_step.specs.State.{find_group}
use Rattle.roc_server_groups.specs.Entered.{Entered}
use Rattle.roc_server_groups.specs.Inner.Keyed.{AreFirsts}
use Rattle.roc_server_groups.proofs.started_groups.StartedGroups.enter.Goals as goal

pub note_first-requires : goal.note_first-requires
note_first-requires c =
    let room : 0 < min (spare c.self.inside.groups) (spare c.self.inside.firsts) = subst (λ (v : Entered). 0 < v.spare) (sym c.self.view_is) c.requires.room in
    omega (arith, room)

pub put-requires-clause-room : goal.put-requires-clause-room
put-requires-clause-room c =
    let room : 0 < min (spare c.self.inside.groups) (spare c.self.inside.firsts) = subst (λ (v : Entered). 0 < v.spare) (sym c.self.view_is) c.requires.room in
    omega (arith, room)

pub put-requires-clause-keyed : goal.put-requires-clause-keyed
put-requires-clause-keyed c = c.self.invariant.keyed

pub put-requires-clause-absent : goal.put-requires-clause-absent
put-requires-clause-absent c = ap (λ (v : Entered). find_group c.args.group.id c.args.group.group v.groups) c.self.view_is ∙ c.requires.absent

pub invariant_of-self : goal.invariant_of-self
invariant_of-self c = record {
  keyed = c.put.ensures.keyed;
  first = subst (AreFirsts c.note_first.new.firsts.entries) (sym c.put.ensures.groups) (c.note_first.ensures (values c.self.inside.groups) c.self.invariant.first);
}

pub returns : goal.returns
returns c = c.put.ensures.groups ∙ ap (λ (v : Entered). v.groups ++ c.args.group ∷ []) c.self.view_is
