-- What is kept of fetches and askers stays in order, what is open was asked for, and what a test leaves of what was asked for
use Rattle.std.proofs.Common.{◌≡◌, ◌++◌, Bool, not, true, false, cond, List, [], ◌∷◌, ◌||◌, Some, filter, find, is_some, refl, sym, ap, ◌∙◌, inl, inr}
use Rattle.std.proofs.lemmas.List.Elements.{filter-append}
use Rattle.std.specs.List.{AllByRecursion}
use Rattle.std.specs.Option.{option_map}
use Rattle.roc_sequence.specs.Lists.{Has}
use Rattle.roc_sequence.proofs.Holds.{all_has, has_all}
use Rattle.roc_sequence.proofs.Members.{has_append, has_left, has_right, has_filter, from_has_filter}
use Rattle.roc_base.specs.declared.id.TxnId.{TxnId}
use Rattle.roc_base.specs.TxnId.{is_txn}
use Rattle.roc_step.specs.declared.waits.OpenFetch.{OpenFetch}
use Rattle.roc_step.specs.declared.waits.Asker.{Asker}
use Rattle.roc_step.specs.Waits.{AreKept, is_asked_before, is_asker_before, shard_asked, was_asked_for, with_all_asked, with_asked, with_asker, without_askers_of, without_fetch_of}
use Rattle.roc_await.proofs.Orders.{asked_order, asker_order}
use Rattle.roc_await.proofs.PutInPlace.{order_in_place, order_some}

asked_with_open : (a : OpenFetch) (asked fetches : List OpenFetch) → AllByRecursion (λ b. Has b asked) fetches → AllByRecursion (λ b. Has b (with_asked a asked)) (with_asked a fetches)
asked_with_open a asked fetches h = has_all (λ b. Has b (with_asked a asked)) (with_asked a fetches) one
  where
    fore : List OpenFetch → List OpenFetch
    fore xs = filter (λ x. is_asked_before x a) xs

    back : List OpenFetch → List OpenFetch
    back xs = filter (λ x. is_asked_before a x) xs

    one : (b : OpenFetch) → Has b (with_asked a fetches) → Has b (with_asked a asked)
    one b k =
        elim (has_append b (fore fetches) (a ∷ back fetches) k) [
          | inl l ↦ (let f = from_has_filter (λ x. is_asked_before x a) b fetches l in
              has_left b (fore asked) (a ∷ back asked) (has_filter (λ x. is_asked_before x a) b asked (all_has (λ b. Has b asked) b fetches h f.0) f.1))
          | inr (inl e) ↦ has_right b (fore asked) (a ∷ back asked) (inl e)
          | inr (inr l) ↦ (let f = from_has_filter (λ x. is_asked_before a x) b fetches l in
              has_right b (fore asked) (a ∷ back asked) (inr (has_filter (λ x. is_asked_before a x) b asked (all_has (λ b. Has b asked) b fetches h f.0) f.1)))
        ]

module _ (asked : List OpenFetch) (askers : List Asker) (fetches : List OpenFetch) (h : AreKept asked askers fetches) where
  pub kept_asked : (a : OpenFetch) → AreKept (with_asked a asked) askers (with_asked a fetches)
  kept_asked a = record {
    asked_rise = order_in_place is_asked_before asked_order a asked h.asked_rise;
    askers_rise = h.askers_rise;
    open_rise = order_in_place is_asked_before asked_order a fetches h.open_rise;
    open_asked = asked_with_open a asked fetches h.open_asked;
  }

  pub kept_asker : (a : Asker) → AreKept asked (with_asker a askers) fetches
  kept_asker a = record { asked_rise = h.asked_rise; open_rise = h.open_rise; open_asked = h.open_asked; askers_rise = order_in_place is_asker_before asker_order a askers h.askers_rise }

  pub kept_without_askers : (id : TxnId) → AreKept asked (without_askers_of id askers) fetches
  kept_without_askers id = record { asked_rise = h.asked_rise; open_rise = h.open_rise; open_asked = h.open_asked; askers_rise = order_some is_asker_before (λ (a : Asker). not (is_txn a.id id)) askers h.askers_rise }

  pub kept_without_fetch : (id : TxnId) → AreKept asked askers (without_fetch_of id fetches)
  kept_without_fetch id = record {
    asked_rise = h.asked_rise;
    askers_rise = h.askers_rise;
    open_rise = order_some is_asked_before (λ (a : OpenFetch). not (is_txn a.id id)) fetches h.open_rise;
    open_asked = has_all (λ b. Has b asked) (without_fetch_of id fetches) (λ b k. all_has (λ b. Has b asked) b fetches h.open_asked (from_has_filter (λ (a : OpenFetch). not (is_txn a.id id)) b fetches k).0);
  }

  -- what is left of both by a test of the id
  pub kept_without_asked : (passes : TxnId → Bool) → AreKept (filter (λ a. not (passes a.id)) asked) askers (filter (λ a. not (passes a.id)) fetches)
  kept_without_asked passes =
      let stays : OpenFetch → Bool = λ a. not (passes a.id) in
      record {
        asked_rise = order_some is_asked_before stays asked h.asked_rise;
        askers_rise = h.askers_rise;
        open_rise = order_some is_asked_before stays fetches h.open_rise;
        open_asked = has_all (λ b. Has b (filter stays asked)) (filter stays fetches) (λ b k. let f = from_has_filter stays b fetches k in has_filter stays b asked (all_has (λ b. Has b asked) b fetches h.open_asked f.0) f.1);
      }

-- a shard was asked exactly where the list was asked for
pub shard_where_asked : (id : TxnId) (asked : List OpenFetch) → is_some (shard_asked id asked) ≡ was_asked_for id asked
shard_where_asked id [] = refl
shard_where_asked id (a ∷ asked) =
    elim (is_txn a.id id) as (λ b. is_some (option_map (λ (x : OpenFetch). x.at) (cond b (Some a) (find (λ x. is_txn x.id id) asked))) ≡ (b || was_asked_for id asked)) [ true ↦ refl | false ↦ shard_where_asked id asked ]

filter_swap : (p q : OpenFetch → Bool) (xs : List OpenFetch) → filter p (filter q xs) ≡ filter q (filter p xs)
filter_swap p q [] = refl
filter_swap p q (x ∷ xs) = go (p x) (q x) refl refl (filter_swap p q xs)
  where
    go : (b d : Bool) → p x ≡ b → q x ≡ d → filter p (filter q xs) ≡ filter q (filter p xs) → filter p (cond d (x ∷ filter q xs) (filter q xs)) ≡ filter q (cond b (x ∷ filter p xs) (filter p xs))
    go true true e f ih =
        ap (λ b. cond b (x ∷ filter p (filter q xs)) (filter p (filter q xs))) e ∙ ap (λ l. x ∷ l) ih ∙ sym (ap (λ b. cond b (x ∷ filter q (filter p xs)) (filter q (filter p xs))) f)
    go true false e f ih = ih ∙ sym (ap (λ b. cond b (x ∷ filter q (filter p xs)) (filter q (filter p xs))) f)
    go false true e f ih = ap (λ b. cond b (x ∷ filter p (filter q xs)) (filter p (filter q xs))) e ∙ ih
    go false false e f ih = ih

-- what a test leaves once one is asked for that passes
some_asked : (p : OpenFetch → Bool) (a : OpenFetch) (asked : List OpenFetch) → p a ≡ true → filter p (with_asked a asked) ≡ with_asked a (filter p asked)
some_asked p a asked h =
    let fore = filter (λ x. is_asked_before x a) asked in
    let back = filter (λ x. is_asked_before a x) asked in
    filter-append p fore (a ∷ back)
    ∙ (λ i. filter_swap p (λ x. is_asked_before x a) asked i ++ cond (h i) (a ∷ filter_swap p (λ x. is_asked_before a x) asked i) (filter_swap p (λ x. is_asked_before a x) asked i))

-- and once several are
pub some_all_asked : (p : OpenFetch → Bool) (more asked : List OpenFetch) → AllByRecursion (λ a. p a ≡ true) more → filter p (with_all_asked more asked) ≡ with_all_asked more (filter p asked)
some_all_asked p [] asked h = refl
some_all_asked p (a ∷ more) asked h = some_all_asked p more (with_asked a asked) h.1 ∙ ap (with_all_asked more) (some_asked p a asked h.0)
