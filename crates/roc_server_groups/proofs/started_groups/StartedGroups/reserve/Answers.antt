use Rattle.std.proofs.Common.{◌∙◌, List, sym, subst}
use Rattle.std.specs.Map.{values_of}
use Rattle.roc_step.specs.declared.started.StartedGroup.{StartedGroup}
use Rattle.roc_server_groups.specs.declared.group_key.GroupKey.{GroupKey}
use Rattle.roc_server_groups.specs.Inner.Keyed.{AreFirsts, AreKeyed}
use Rattle.roc_server_groups.proofs.started_groups.StartedGroups.reserve.Goals as goal

pub invariant_of-self-2 : goal.invariant_of-self-2
invariant_of-self-2 c =
    let was = c.self.inside in
    record {
      keyed = subst (λ (es : List (GroupKey × StartedGroup)). AreKeyed es was.numbers) (sym c.reserve.ensures.entries) c.self.invariant.keyed;
      first = subst (λ (es : List (GroupKey × StartedGroup)). AreFirsts c.reserve-2.new.self.entries (values_of es)) (sym c.reserve.ensures.entries)
          (λ id. c.reserve-2.ensures.entries.2 id ∙ c.self.invariant.first id);
    }
