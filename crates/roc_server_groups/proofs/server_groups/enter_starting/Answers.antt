use Rattle.std.proofs.Common.{refl, sym, subst, inl}
use Rattle.std.specs.Option.{option_to_list}
use Rattle.roc_sequence.specs.Lists.{Has}
use Rattle.roc_server_groups.specs.Indexed.{AreGroupRefsOf, IsIndexOf}
use Rattle.roc_server_groups.proofs.IndexSteps.{index_started}
use Rattle.roc_server_groups.proofs.Tried.{refs_entered}
use Rattle.roc_server_groups.proofs.server_groups.enter_starting.Goals as goal

pub enter-requires-clause-enters : goal.enter-requires-clause-enters
enter-requires-clause-enters c = c.requires.enters c.in-Some.group (subst (λ o. Has c.in-Some.group (option_to_list o)) (sym c.in-Some.is) (inl refl))

pub returns-in-Some-clause-refs : goal.returns-in-Some-clause-refs
returns-in-Some-clause-refs c =
    subst (λ es. AreGroupRefsOf es c.enter.new.index) (sym c.enter.ensures.groups)
    (refs_entered c.args.index.now c.enter.new.index c.args.started.now.groups c.in-Some.group c.requires.refs c.enter.ensures.added)

pub returns-in-Some-clause-index : goal.returns-in-Some-clause-index
returns-in-Some-clause-index c before h undecided =
    subst (IsIndexOf c.enter.new.index before) (sym c.enter.ensures.groups)
    (index_started c.args.index.now c.enter.new.index before c.args.started.now.groups c.in-Some.group h (undecided c.in-Some.group (subst (λ o. Has c.in-Some.group (option_to_list o)) (sym c.in-Some.is) (inl refl))) c.enter.ensures.added)
