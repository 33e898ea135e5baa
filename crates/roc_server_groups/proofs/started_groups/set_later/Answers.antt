use Rattle.std.proofs.Common.{◌≡◌, ◌∙◌, map, Some, slice_set, sym, ap, refl, rules}
use Rattle.indexmap.proofs.CallerLemmas.{keys-with_value_at}
use Rattle.indexmap.specs.IndexMap.{values}
use Rattle.roc_step.specs.declared.started.StartedGroup.{StartedGroup}
use Rattle.roc_server_groups.specs.Inner.Keyed.{group_key_of}
use Rattle.roc_server_groups.proofs.KeyedGroups.{keys-set, values-set}
use Rattle.roc_server_groups.proofs.started_groups.set_later.Goals as goal

pub returns-clause-later : goal.returns-clause-later
returns-clause-later c = λ e got.
    let same : Some c.index_mut-group.result.now ≡ Some e = sym c.index_mut-group.ensures.value ∙ got in
    let is : c.index_mut-group.result.now ≡ e = cc in
    let put : c.replace.new.dest ≡ c.args.later = search rules in
    values-set c.args.groups.now.entries c.args.at _ ∙ ap (λ later. slice_set (values c.args.groups.now) c.args.at (record c.index_mut-group.result.now { later = later })) put
    ∙ ap (λ (g : StartedGroup). slice_set (values c.args.groups.now) c.args.at (record g { later = c.args.later })) is

pub returns-clause-keys : goal.returns-clause-keys
returns-clause-keys c = keys-with_value_at c.args.groups.now c.args.at _

pub returns-clause-keyed : goal.returns-clause-keyed
returns-clause-keyed c =
    ap (map group_key_of) (values-set c.args.groups.now.entries c.args.at _) ∙ keys-set (values c.args.groups.now) c.args.at c.index_mut-group.result.now _ c.index_mut-group.ensures.value refl
