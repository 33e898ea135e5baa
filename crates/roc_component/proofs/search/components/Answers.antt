use Rattle.std.proofs.Common.{◌≡◌, ◌∙◌, ℕ, suc, ◌-◌, ◌<◌, ◌≤◌, length, Some, sym, subst, get_or, inl, inr, refl, arith}
use Rattle.roc_base.specs.declared.id.TxnId.{TxnId}
use Rattle.std.specs.BTreeMap.{btree_map_len}
use Rattle.roc_sequence.proofs.Fronts.{front_whole}
use Rattle.roc_sequence.specs.Lists.{Has}
use Rattle.roc_depgraph.specs.Deps.{Precedes}
use Rattle.roc_component.specs.Inner.Search.{IsAhead, WasNumbered, IsSearch, met_of}
use Rattle.roc_component.proofs.SearchOpened.{search_ended}
use Rattle.roc_component.proofs.SearchPath.{has_there}
use Rattle.roc_component.proofs.SearchSteps.{front_cases, met_or_new, walk_starts}
use Rattle.roc_component.proofs.search.components.Goals as goal

pub walk-init : goal.walk-init
walk-init c =
    let none : TxnId = record { coord = 0; seq = 0 } in
    let id = get_or c.args.ids.now c.loop-id.id-index none in
    let i = c.loop-id.invariant in (
      i.0,
      walk_starts c.args.lists.now c.args.ids.now c.loop-id.met c.loop-id.search id c.unmet-new.result c.unmet-new.ensures i.1 (has_there c.args.ids.now c.loop-id.id-index id none c.loop-id-test.true refl),
      λ u h. elim (front_cases c.args.ids.now c.loop-id.id-index id none u c.loop-id-test.true refl h) [ inl k ↦ inl (i.2 u k) | inr k ↦ met_or_new (met_of c.loop-id.met) id u c.unmet-new.result c.unmet-new.ensures k ],
    )

pub walk-preserved : goal.walk-preserved
walk-preserved c =
    let i = c.walk.invariant in
    let o = c.in_ok-open.ensures c.args.ids.now c.requires i.0 (subst (IsAhead c.args.lists.now c.args.ids.now c.walk.met c.walk.search) c.in-Some.is i.1) in
    let a = c.in_ok-new.ensures c.args.lists.now c.args.ids.now o.search in (
      a.0,
      a.1,
      λ u h. elim (i.2 u h) [
        | inl m ↦ inl (o.keeps u m)
        | inr e ↦ (let f : Some c.in-Some.next ≡ Some u = sym c.in-Some.is ∙ e in let g : c.in-Some.next ≡ u = cc in inl (subst (WasNumbered (met_of c.open.new.met)) g o.own))
      ],
    )

pub loop-id-preserved : goal.loop-id-preserved
loop-id-preserved c =
    let i = c.walk.invariant in
    (i.0, subst (IsAhead c.args.lists.now c.args.ids.now c.walk.met c.walk.search) c.in_default.is i.1, λ u h. elim (i.2 u h) [ inl m ↦ m | inr e ↦ absurd (c.in_default.not-Some u e) ])

pub returns : goal.returns
returns c =
    let i = c.loop-id.invariant in
    search_ended (Precedes c.args.lists.now) c.args.ids.now (met_of c.loop-id.met) (btree_map_len c.loop-id.met) c.loop-id.search.done c.loop-id.search.components.items
    (subst (λ l. IsSearch (Precedes c.args.lists.now) c.args.ids.now (met_of c.loop-id.met) (btree_map_len c.loop-id.met) l c.loop-id.search.done c.loop-id.search.components.items) i.1 i.0)
    (λ u h. i.2 u (subst (Has u) (sym (front_whole c.args.ids.now c.loop-id.id-index c.loop-id-test.false)) h))

fewer : (n a b : ℕ) → b ≡ suc a → b ≤ n → n - b < n - a
fewer n a b e l = omega arith

pub walk-smaller : goal.walk-smaller
walk-smaller c =
    let i = c.walk.invariant in
    let o = c.in_ok-open.ensures c.args.ids.now c.requires i.0 (subst (IsAhead c.args.lists.now c.args.ids.now c.walk.met c.walk.search) c.in-Some.is i.1) in
    fewer (length c.args.ids.now) (btree_map_len c.walk.met) (btree_map_len c.open.new.met) o.longer o.bounded
