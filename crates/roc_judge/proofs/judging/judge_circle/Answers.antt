use Rattle.std.proofs.Common.{◌≡◌, List, IfSome, sym, ap, subst, ◌∙◌}
use Rattle.std.specs.List.{flat_map}
use Rattle.roc_base.specs.declared.id.TxnId.{TxnId}
use Rattle.roc_precedence.specs.declared.pair.Pair.{Pair}
use Rattle.roc_precedence.specs.Cycles.{HasCycle, IsLeastCycle}
use Rattle.roc_precedence.specs.Pairs.{IsPaired}
use Rattle.roc_judge.specs.Before.{GoesBefore}
use Rattle.roc_judge.specs.Inner.Whole.{whole_pairs}
use Rattle.roc_judge.proofs.Rightly.{cycle_found, cycle_there}
use Rattle.roc_judge.proofs.judging.judge_circle.Goals as goal

pub unreachable-requires : goal.unreachable-requires
unreachable-requires c =
    let there = cycle_there c.args.folds.now c.args.all.now c.in_ok-on.on.items c.args.pairs.now c.requires.same c.in_ok-on.ensures c.requires.cycle in
    let whole : c.deref-3.result.now ≡ flat_map (whole_pairs c.in_ok-on.on.items) c.args.folds.now = c.deref-3.ensures.value
    ∙ (c.in_ok-whole.ensures ∙ ap (λ (ids : List TxnId). flat_map (whole_pairs ids) c.args.folds.now) c.deref.ensures.value) in
    c.in_ok-cycle.ensures.none.0 c.in-None.is
    (subst (λ (ps : List Pair). HasCycle (IsPaired ps) c.deref-2.result.now) (sym whole)
    (subst (λ (ids : List TxnId). HasCycle (IsPaired (flat_map (whole_pairs c.in_ok-on.on.items) c.args.folds.now)) ids) (sym c.deref-2.ensures.value) there))

pub returns : goal.returns
returns c =
    let whole : c.deref-3.result.now ≡ flat_map (whole_pairs c.in_ok-on.on.items) c.args.folds.now = c.deref-3.ensures.value
    ∙ (c.in_ok-whole.ensures ∙ ap (λ (ids : List TxnId). flat_map (whole_pairs ids) c.args.folds.now) c.deref.ensures.value) in
    let least : IsLeastCycle (IsPaired c.deref-3.result.now) c.deref-2.result.now c.in-Some.cycle.items =
    subst (λ o. IfSome o (λ cycle. IsLeastCycle (IsPaired c.deref-3.result.now) c.deref-2.result.now cycle.items)) c.in-Some.is c.in_ok-cycle.ensures.cycle in
    let found = cycle_found c.args.folds.now c.args.all.now c.in_ok-on.on.items c.args.pairs.now c.requires.same c.in_ok-on.ensures c.in-Some.cycle.items
    (subst (λ (ids : List TxnId). IsLeastCycle (IsPaired (flat_map (whole_pairs c.in_ok-on.on.items) c.args.folds.now)) ids c.in-Some.cycle.items) c.deref-2.ensures.value
    (subst (λ (ps : List Pair). IsLeastCycle (IsPaired ps) c.deref-2.result.now c.in-Some.cycle.items) whole least)) in
    subst (IsLeastCycle (GoesBefore c.args.folds.now) c.args.all.now) (sym c.from_vec.ensures) found
