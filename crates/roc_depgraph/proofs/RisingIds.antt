-- Ids that are listed, listed once each and rising
use Rattle.std.proofs.Common.{◌≡◌, true, List, map, Option, Some, None, refl, ap, subst, ◌∙◌, sym}
use Rattle.std.specs.List.Sorted.{IsStrictlySortedBy}
use Rattle.roc_sequence.specs.Places.{IsListed}
use Rattle.roc_sequence.proofs.Members.{has_map, from_has_map}
use Rattle.roc_base.specs.declared.id.TxnId.{TxnId}
use Rattle.roc_base.specs.TxnId.{is_txn, txn_cmp}
use Rattle.roc_base.specs.Edge.{Dependency}
use Rattle.roc_base.specs.Edges.{all_of, united}
use Rattle.roc_base.proofs.Members.{all_of-none, entry_at-has, IsAllOf-united}
use Rattle.roc_base.proofs.Rising.{sorted_from_rising}
use Rattle.roc_base.proofs.Union.{IsRising-united, entry_at-united}
use Rattle.roc_depgraph.proofs.Listed.{has_listed, listed_has, has_under, under_has}

abbrev entry : TxnId → Dependency
entry u = record { from = u; imm = true; def = true; at = record { 0 = 0 } }

module _ (M : List TxnId) where
  abbrev pub ids : List TxnId
  ids = map (λ d. d.from) (united (map entry M))

  pub ids_sound : (u : TxnId) → IsListed is_txn ids u → IsListed is_txn M u
  ids_sound u h =
      let z = has_under (λ d. d.from) (united (map entry M)) u h in
      let d = (IsAllOf-united (map entry M) z.0 z.1).at in
      let a = from_has_map entry d.0 M d.1 in
      let same : a.0 ≡ u = ap (λ (x : Dependency). x.from) (sym a.2) ∙ (d.2 ∙ z.2) in
      subst (IsListed is_txn M) same (has_listed M a.0 a.1)

  pub ids_complete : (u : TxnId) → IsListed is_txn M u → IsListed is_txn ids u
  ids_complete u h = go (all_of u (map entry M)) refl
    where
      go : (o : Option Dependency) → all_of u (map entry M) ≡ o → IsListed is_txn ids u
      go None e = absurd (all_of-none u (map entry M) e (entry u) (has_map entry u M (listed_has M u h)) refl)
      go (Some z) e =
          let found = entry_at-has u (united (map entry M)) z (entry_at-united u (map entry M) ∙ e) in
          subst (IsListed is_txn ids) found.1 (under_has (λ d. d.from) (united (map entry M)) z found.0)

  pub ids_rise : IsStrictlySortedBy txn_cmp ids
  ids_rise = sorted_from_rising (united (map entry M)) (IsRising-united (map entry M))
