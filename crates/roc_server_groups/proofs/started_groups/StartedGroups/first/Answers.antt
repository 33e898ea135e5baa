use Rattle.std.proofs.Common.{◌∙◌, ap, subst, sym}
use Rattle.roc_server_groups.specs.Entered.{Entered}
use Rattle.roc_server_groups.specs.Inner.Keyed.{AreFirsts}
use Rattle.roc_server_groups.proofs.FirstGroups.{first_by_number, none_by_first}
use Rattle.roc_server_groups.proofs.started_groups.StartedGroups.first.Goals as goal

pub returns-in-Some : goal.returns-in-Some
returns-in-Some c =
    let noted : AreFirsts c.self.inside.firsts.entries c.args.self.now.groups = subst (AreFirsts c.self.inside.firsts.entries) (ap (λ (v : Entered). v.groups) c.self.view_is) c.self.invariant.first in
    c.place.ensures.place ∙ first_by_number c.self.inside.firsts.entries c.args.self.now.groups noted c.args.id c.in-Some.number.now (sym c.in-Some.ensures.value)

pub returns-in-None : goal.returns-in-None
returns-in-None c =
    let noted : AreFirsts c.self.inside.firsts.entries c.args.self.now.groups = subst (AreFirsts c.self.inside.firsts.entries) (ap (λ (v : Entered). v.groups) c.self.view_is) c.self.invariant.first in
    none_by_first c.self.inside.firsts.entries c.args.self.now.groups noted c.args.id (sym c.in-None.ensures.value)
