-- What was asked for stays asked for
use Rattle.std.proofs.Common.{◌≡◌, true, List, [], ◌∷◌, refl, sym, subst, ◌∙◌, inl, inr}
use Rattle.std.specs.Prelude.{filter}
use Rattle.roc_sequence.specs.Lists.{Has}
use Rattle.roc_sequence.proofs.Holds.{any_has, has_any}
use Rattle.roc_sequence.proofs.Members.{has_left, has_right, has_filter}
use Rattle.roc_base.specs.declared.id.TxnId.{TxnId}
use Rattle.roc_base.specs.TxnId.{is_txn}
use Rattle.roc_base.specs.Equalities.{is_txn-true}
use Rattle.roc_base.proofs.Ids.{is_txn-eq, txn_cases}
use Rattle.roc_step.specs.declared.waits.OpenFetch.{OpenFetch}
use Rattle.roc_step.specs.Waits.{is_asked_before, was_asked_for, with_asked, with_all_asked}

pub asked_with : (id : TxnId) (a : OpenFetch) (old : List OpenFetch) → was_asked_for id old ≡ true → was_asked_for id (with_asked a old) ≡ true
asked_with id a old h =
    let x = any_has (λ (x : OpenFetch). is_txn x.id id) old h in
    let at : (y : OpenFetch) → Has y (with_asked a old) → is_txn y.id id ≡ true → was_asked_for id (with_asked a old) ≡ true = λ y k e. has_any (λ (x : OpenFetch). is_txn x.id id) (with_asked a old) y k e in
    elim (txn_cases x.0.id a.id) [
      | inl l ↦ at x.0 (has_left x.0 (filter (λ x. is_asked_before x a) old) (a ∷ filter (λ x. is_asked_before a x) old) (has_filter (λ x. is_asked_before x a) x.0 old x.1 l)) x.2
      | inr (inl e) ↦ at a (has_right a (filter (λ x. is_asked_before x a) old) (a ∷ filter (λ x. is_asked_before a x) old) (inl refl)) (is_txn-eq a.id id (sym e ∙ is_txn-true x.0.id id x.2))
      | inr (inr l) ↦ at x.0 (has_right x.0 (filter (λ x. is_asked_before x a) old) (a ∷ filter (λ x. is_asked_before a x) old) (inr (has_filter (λ x. is_asked_before a x) x.0 old x.1 l))) x.2
    ]

pub asked_new : (a : OpenFetch) (old : List OpenFetch) → was_asked_for a.id (with_asked a old) ≡ true
asked_new a old = has_any (λ (x : OpenFetch). is_txn x.id a.id) (with_asked a old) a (has_right a (filter (λ x. is_asked_before x a) old) (a ∷ filter (λ x. is_asked_before a x) old) (inl refl)) (is_txn-eq a.id a.id refl)

pub asked_still : (id : TxnId) (more old : List OpenFetch) → was_asked_for id old ≡ true → was_asked_for id (with_all_asked more old) ≡ true
asked_still id [] old h = h
asked_still id (a ∷ more) old h = asked_still id more (with_asked a old) (asked_with id a old h)

pub asked_all : (a : OpenFetch) (more old : List OpenFetch) → Has a more → was_asked_for a.id (with_all_asked more old) ≡ true
asked_all a [] old h = absurd h
asked_all a (b ∷ more) old (inl e) = asked_still a.id more (with_asked b old) (subst (λ (b : OpenFetch). was_asked_for a.id (with_asked b old) ≡ true) e (asked_new a old))
asked_all a (b ∷ more) old (inr h) = asked_all a more (with_asked b old) h
