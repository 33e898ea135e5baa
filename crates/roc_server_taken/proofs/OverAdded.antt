-- The transactions of components that are over, as they are found coordinator by coordinator
use Rattle.std.proofs.Common.{cond, Some, get_or, take, append-nil, ◌≡◌, ◌<◌, ◌+◌, ℕ, zero, suc, Bool, true, false}
use Rattle.std.proofs.Common.{List, [], ◌∷◌, ◌++◌, length, map, filter, refl, sym, ap, subst, ◌∙◌, inl, inr, arith}
use Rattle.std.proofs.lemmas.Bool.{cases_lt}
use Rattle.std.proofs.lemmas.List.{length-map, take-map}
use Rattle.std.proofs.lemmas.List.Concat.{flat_map-append}
use Rattle.std.proofs.lemmas.List.Elements.{filter-append}
use Rattle.std.specs.List.{AllByRecursion, flat_map, slice_get}
use Rattle.roc_sequence.specs.Lists.{Has}
use Rattle.roc_sequence.specs.Places.{IsListed}
use Rattle.roc_sequence.proofs.Fronts.{front_more}
use Rattle.roc_sequence.proofs.Holds.{all_has, every_has}
use Rattle.roc_sequence.proofs.Listed.{has_listed, listed_has}
use Rattle.roc_sequence.proofs.Members.{from_has_filter, from_has_flat_map, from_has_map, has_append, has_filter, has_flat_map, has_left, has_map, has_right}
use Rattle.roc_base.specs.declared.id.TxnId.{TxnId}
use Rattle.roc_base.specs.Equalities.{is_txn-true, is_txn-same}
use Rattle.roc_base.specs.TxnId.{is_txn}
use Rattle.roc_depgraph.specs.Closure.{IsRisingListOf}
use Rattle.roc_server_taken.specs.declared.components.Component.{Component}
use Rattle.roc_step.specs.Below.{is_ended}
use Rattle.roc_step.specs.Forgets.{is_over, over}
use Rattle.roc_server_taken.specs.Components.{AreOver}
use Rattle.roc_server_taken.specs.Inner.Over.{by_turn, is_under, members_by_turn, turned_component, AddsAll, AddsUpto, TurnedComponent}
use Rattle.roc_server_taken.proofs.Ended.{coord_within, ended_here}
use Rattle.roc_server_taken.proofs.TurnOrder.{from_has_turned, has_turned}

module _ (below : List ℕ) where
  -- the members of those that are over, and nothing else
  has_over : (m : List TxnId) (t : TxnId) (ms : List (List TxnId)) → Has m ms → is_over below m ≡ true → Has t m → Has t (over below ms)
  has_over m t ms h o k = has_flat_map (λ c. c) t m (filter (is_over below) ms) (has_filter (is_over below) m ms h o) k

  from_has_over : (t : TxnId) (ms : List (List TxnId)) → Has t (over below ms) → (m : List TxnId) × Has m ms × (is_over below m ≡ true) × Has t m
  from_has_over t ms h =
      let a = from_has_flat_map (λ c. c) t (filter (is_over below) ms) h in
      let b = from_has_filter (is_over below) a.0 ms a.1 in
      (a.0, b.0, b.1, a.2)

  module _ (cs : List Component) (among : AllByRecursion (λ (c : Component). Has c.under c.members) cs) where
    pub none_added : (ids : List TxnId) → AddsUpto below 0 cs ids ids
    none_added ids = record { stay = λ t h. h; only = λ t h. inl h; all = λ c t h l o k. absurd (omega (arith, l)) }

    pub adds_next : (k : ℕ) (first old new : List TxnId) → AddsUpto below k cs first old
        → new ≡ old ++ over below (map (λ (c : Component). c.members) (filter (is_under below k) cs)) → AddsUpto below (k + 1) cs first new
    adds_next k first old new h is = record {
      stay = λ t m. subst (Has t) (sym is) (has_left t old added (h.stay t m));
      only = λ t m. elim (has_append t old added (subst (Has t) is m)) [ inl a ↦ h.only t a | inr b ↦ inr (taken t b) ];
      all = λ c t has l o m.
          subst (Has t) (sym is)
          (elim (cases_lt c.under.coord k) [
            | inl low ↦ has_left t old added (h.all c t has low o m)
            | inr high ↦ has_right t old added (here c t has (omega (arith, l, high)) o m)
          ]);
    }
      where
        added : List TxnId
        added = over below (map (λ (c : Component). c.members) (filter (is_under below k) cs))

        taken : (t : TxnId) → Has t (over below (map (λ (c : Component). c.members) (filter (is_under below k) cs))) → Has t (over below (members_by_turn cs))
        taken t b =
            let a = from_has_over t (map (λ (c : Component). c.members) (filter (is_under below k) cs)) b in
            let c = from_has_map (λ (c : Component). c.members) a.0 (filter (is_under below k) cs) a.1 in
            let d = from_has_filter (is_under below k) c.0 cs c.1 in
            has_over a.0 t (members_by_turn cs)
            (subst (λ m. Has m (members_by_turn cs)) (sym c.2) (has_map (λ (y : TurnedComponent). y.members) (turned_component c.0) (by_turn cs) (has_turned c.0 cs d.0)))
            a.2 a.3

        here : (c : Component) (t : TxnId) → Has c cs → c.under.coord ≡ k → is_over below c.members ≡ true → Has t c.members
            → Has t (over below (map (λ (c : Component). c.members) (filter (is_under below k) cs)))
        here c t has same o m =
            let ended = every_has (is_ended below) c.members o c.under (all_has (λ (c : Component). Has c.under c.members) c cs among has) in
            has_over c.members t (map (λ (c : Component). c.members) (filter (is_under below k) cs))
            (has_map (λ (c : Component). c.members) c (filter (is_under below k) cs) (has_filter (is_under below k) c cs has (ended_here below k c.under same ended))) o m

    pub adds_all : (n : ℕ) (old new : List TxnId) → n ≡ length below → AddsUpto below n cs old new → AddsAll (over below (members_by_turn cs)) old new
    adds_all n old new len h = record {
      stay = h.stay;
      only = h.only;
      all = λ t m.
          let a = from_has_over t (members_by_turn cs) m in
          let y = from_has_map (λ (y : TurnedComponent). y.members) a.0 (by_turn cs) a.1 in
          let c = from_has_turned y.0 cs y.1 in
          let same : a.0 ≡ c.0.members = y.2 ∙ ap (λ (y : TurnedComponent). y.members) c.2 in
          let o : is_over below c.0.members ≡ true = ap (is_over below) (sym same) ∙ a.2 in
          h.all c.0 t c.1
          (coord_within below n len c.0.under (every_has (is_ended below) c.0.members o c.0.under (all_has (λ (c : Component). Has c.under c.members) c.0 cs among c.1)))
          o (subst (Has t) same a.3);
    }

  -- ---- one after another

  abbrev members_upto : ℕ → List Component → List (List TxnId)
  members_upto n xs = map (λ (c : Component). c.members) (take n xs)

  over_both : (taken more : List (List TxnId)) → over below (taken ++ more) ≡ over below taken ++ over below more
  over_both taken more = ap (flat_map (λ c. c)) (filter-append (is_over below) taken more) ∙ flat_map-append (λ (c : List TxnId). c) (filter (is_over below) taken) (filter (is_over below) more)

  -- one list of members more
  pub more_over : (ms : List (List TxnId)) (i : ℕ) (m : List TxnId) → i < length ms → m ≡ get_or ms i m → over below (take (i + 1) ms) ≡ over below (take i ms) ++ cond (is_over below m) m []
  more_over ms i m within is =
      ap (over below) (sym (front_more ms i m within is)) ∙ over_both (take i ms) (m ∷ []) ∙ ap (λ l. over below (take i ms) ++ l) (go (is_over below m))
    where
      go : (b : Bool) → flat_map (λ c. c) (cond b (m ∷ []) []) ≡ cond b m []
      go true = append-nil m
      go false = refl

  pub over_next : (xs : List Component) (i : ℕ) (m : List TxnId) → i < length xs → ((c : Component) → slice_get xs i ≡ Some c → m ≡ c.members)
      → over below (members_upto (i + 1) xs) ≡ over below (members_upto i xs) ++ cond (is_over below m) m []
  over_next xs i m lt is =
      let f : Component → List TxnId = λ c. c.members in
      let within : i < length (map f xs) = subst (λ n. i < n) (sym (length-map xs f)) lt in
      ap (over below) (sym (take-map f (i + 1) xs)) ∙ more_over (map f xs) i m within (there xs i lt is) ∙ ap (λ l. over below l ++ cond (is_over below m) m []) (take-map f i xs)
    where
      there : (xs : List Component) (i : ℕ) → i < length xs → ((c : Component) → slice_get xs i ≡ Some c → m ≡ c.members) → m ≡ get_or (map (λ (c : Component). c.members) xs) i m
      there [] i lt is = absurd (omega arith)
      there (x ∷ xs) zero lt is = is x refl
      there (x ∷ xs) (suc i) lt is = there xs i (omega arith) is

  -- ---- rising

  pub both_over : (taken more : List (List TxnId)) (none ids all rising : List TxnId) → none ≡ [] → AddsAll (over below taken) none ids → all ≡ ids ++ over below more
      → IsRisingListOf (IsListed is_txn all) rising → AreOver below (taken ++ more) rising
  both_over taken more none ids all rising empty adds is r = record {
    rising = r.rising;
    sound = λ t l. listed t (was t (listed_has is_txn is_txn-true is_txn-same all t (r.sound t l)));
    complete = λ t l. r.complete t (has_listed is_txn is_txn-true is_txn-same all t (is_there t (listed_has is_txn is_txn-true is_txn-same (over below (taken ++ more)) t l)));
  }
    where
      listed : (t : TxnId) → Has t (over below taken ++ over below more) → IsListed is_txn (over below (taken ++ more)) t
      listed t h = has_listed is_txn is_txn-true is_txn-same (over below (taken ++ more)) t (subst (Has t) (sym (over_both taken more)) h)

      was : (t : TxnId) → Has t all → Has t (over below taken ++ over below more)
      was t h =
          elim (has_append t ids (over below more) (subst (Has t) is h)) [
            | inl k ↦ has_left t (over below taken) (over below more) (elim (adds.only t k) [ inl n ↦ absurd (subst (Has t) empty n) | inr m ↦ m ])
            | inr k ↦ has_right t (over below taken) (over below more) k
          ]

      is_there : (t : TxnId) → Has t (over below (taken ++ more)) → Has t all
      is_there t h =
          subst (Has t) (sym is)
          (elim (has_append t (over below taken) (over below more) (subst (Has t) (over_both taken more) h)) [
            | inl k ↦ has_left t ids (over below more) (adds.all t k)
            | inr k ↦ has_right t ids (over below more) k
          ])
