use Rattle.std.proofs.Common.{◌≡◌, ◌∙◌, not, ap, subst, sym}
use Rattle.std.specs.Map.{values_of}
use Rattle.roc_sequence.specs.Places.{is_listed}
use Rattle.roc_base.specs.declared.id.TxnId.{TxnId}
use Rattle.roc_base.specs.TxnId.{is_txn}
use Rattle.roc_server_groups.specs.GroupsNow.{groups_without}
use Rattle.roc_server_groups.specs.Inner.Keyed.{AreFirsts, AreKeyed}
use Rattle.roc_server_groups.specs.Entered.{Entered}
use Rattle.roc_server_groups.proofs.KeyedGroups.{keyed_some, values_some}
use Rattle.roc_server_groups.proofs.started_groups.StartedGroups.forget.Goals as goal
use Rattle.roc_server_groups.proofs.started_groups.StartedGroups.forget.Goals.{After-keep_other_firsts}

left : (c : After-keep_other_firsts) → values_of c.leave_others.new.groups.entries ≡ groups_without c.args.ids.now (values_of c.self.inside.groups.entries)
left c =
    ap values_of c.leave_others.ensures.entries ∙ values_some (λ (u : TxnId). not (is_listed is_txn c.args.ids.now u)) c.self.inside.groups.entries c.self.invariant.keyed.keys

pub invariant_of-self : goal.invariant_of-self
invariant_of-self c =
    let was = c.self.inside in
    record {
      keyed = subst (λ es. AreKeyed es was.numbers) (sym c.leave_others.ensures.entries)
          (keyed_some (λ (u : TxnId). not (is_listed is_txn c.args.ids.now u)) was.groups.entries was.numbers c.self.invariant.keyed);
      first = subst (AreFirsts c.keep_other_firsts.new.firsts.entries) (sym (left c)) (c.keep_other_firsts.ensures (values_of was.groups.entries) c.self.invariant.first);
    }

pub returns : goal.returns
returns c = left c ∙ ap (λ (v : Entered). groups_without c.args.ids.now v.groups) c.self.view_is
