-- Groups by transaction and number
use Rattle.std.proofs.Common.{◌≡◌, ℕ, zero, suc, ◌+◌, ◌<◌, ◌≤◌, ◌==◌, ◌&&◌, ◌||◌, Bool, true, false, cond, nat_lt, List, [], ◌∷◌, ◌++◌, map, filter, Option, Some, None, find, position, slice_get, slice_set, refl, sym, ap, subst, ◌∙◌, inl, inr, arith}
use Rattle.std.proofs.lemmas.Bool.{false≢true, and_parts, and_from, or_cases, or_left, or_parts, or_right}
use Rattle.std.proofs.lemmas.Bool.Decides.{nat_tests}
use Rattle.std.proofs.lemmas.List.{map-append}
use Rattle.std.specs.List.{IsDistinct, list_any}
use Rattle.std.specs.Map.{keys_of, values_of, lookup}
use Rattle.std.specs.Option.{option_map_or}
use Rattle.indexmap.specs.IndexMap.{set_value_at}
use Rattle.roc_sequence.specs.Lists.{Has}
use Rattle.roc_sequence.proofs.Found.{found_has, none_found}
use Rattle.roc_sequence.proofs.Holds.{all_has, any_has, has_any, none_has, same_tests}
use Rattle.roc_sequence.proofs.Members.{has_map, has_more}
use Rattle.roc_base.specs.declared.id.TxnId.{TxnId}
use Rattle.roc_base.specs.TxnId.{is_txn}
use Rattle.roc_server_groups.specs.declared.group_key.GroupKey.{GroupKey}
use Rattle.roc_step.specs.declared.started.StartedGroup.{StartedGroup}
use Rattle.roc_step.specs.State.{is_group, is_here}
use Rattle.roc_server_groups.specs.Inner.Keyed.{AreKeyed, HaveNumbersBelow, IsOnceHere, group_key_of, is_key}
use Rattle.roc_server_groups.proofs.Placed.{position-map, position-same}

-- ---- under their keys

key_is : (id : TxnId) (number : ℕ) (e : StartedGroup) → (is_txn id e.id && number == e.group) ≡ is_group id number e
key_is id number e = grind (arith, nat_tests)

module _ (id : TxnId) (number : ℕ) where
  abbrev k : GroupKey
  k = record { id = id; number = number }

  pub place_is : (es : List (GroupKey × StartedGroup)) → keys_of es ≡ map group_key_of (values_of es) → position (is_key k) (keys_of es) ≡ position (is_group id number) (values_of es)
  place_is es same =
      ap (position (is_key k)) same ∙ position-map group_key_of (is_key k) (values_of es)
      ∙ position-same (λ e. is_key k (group_key_of e)) (is_group id number) (values_of es) (λ e h. key_is id number e)

  pub lookup_is : (es : List (GroupKey × StartedGroup)) → keys_of es ≡ map group_key_of (values_of es) → lookup (is_key k) es ≡ find (is_group id number) (values_of es)
  lookup_is [] same = refl
  lookup_is (e ∷ es) same =
      let first : e.0 ≡ group_key_of e.1 = cc in
      let rest : keys_of es ≡ map group_key_of (values_of es) = cc in
      ap (λ b. cond b (Some e.1) (lookup (is_key k) es)) (ap (is_key k) first ∙ key_is id number e.1) ∙ ap (cond (is_group id number e.1) (Some e.1)) (lookup_is es rest)

one_of_key : (es : List StartedGroup) → IsDistinct is_key (map group_key_of es) → (a b : StartedGroup) → Has a es → Has b es → is_key (group_key_of a) (group_key_of b) ≡ true → is_key (group_key_of b) (group_key_of a) ≡ true → a ≡ b
unfolding IsDistinct
one_of_key [] d a b h i e f = absurd h
one_of_key (x ∷ xs) d a b (inl p) (inl q) e f = p ∙ sym q
one_of_key (x ∷ xs) d a b (inl p) (inr i) e f =
    absurd (false≢true (sym (all_has (λ y. is_key (group_key_of x) y ≡ false) (group_key_of b) (map group_key_of xs) d.0 (has_map group_key_of b xs i)) ∙ subst (λ (v : StartedGroup). is_key (group_key_of v) (group_key_of b) ≡ true) p e))
one_of_key (x ∷ xs) d a b (inr h) (inl q) e f =
    absurd (false≢true (sym (all_has (λ y. is_key (group_key_of x) y ≡ false) (group_key_of a) (map group_key_of xs) d.0 (has_map group_key_of a xs h)) ∙ subst (λ (v : StartedGroup). is_key (group_key_of v) (group_key_of a) ≡ true) q f))
one_of_key (x ∷ xs) d a b (inr h) (inr i) e f = one_of_key xs d.1 a b h i e f

same_key : (id : TxnId) (number : ℕ) (a b : StartedGroup) → is_group id number a ≡ true → is_group id number b ≡ true → is_key (group_key_of a) (group_key_of b) ≡ true
same_key id number a b h k = grind (arith, nat_tests)

pub once_here : (es : List (GroupKey × StartedGroup)) → keys_of es ≡ map group_key_of (values_of es) → IsDistinct is_key (keys_of es) → (id : TxnId) (number : ℕ) → IsOnceHere id number (values_of es)
once_here es same d id number a b h i e f =
    one_of_key (values_of es) (subst (IsDistinct is_key) same d) a b h i (same_key id number a b e f) (same_key id number b a f e)

pub are_below : (es : List (GroupKey × StartedGroup)) (numbers : ℕ) → AreKeyed es numbers → HaveNumbersBelow numbers (values_of es)
are_below es numbers keyed e h = keyed.below (group_key_of e) (subst (Has (group_key_of e)) (sym keyed.keys) (has_map group_key_of e (values_of es) h))

-- one more, under its key
pub keyed_more : (es more : List (GroupKey × StartedGroup)) (numbers above : ℕ) (e : StartedGroup) → AreKeyed es numbers → more ≡ es ++ (group_key_of e, e) ∷ [] → numbers ≤ above → e.group < above → AreKeyed more above
keyed_more es more numbers above e keyed is wide own =
    subst (λ l. AreKeyed l above) (sym is) (record {
      keys = keys_more ∙ (λ i. keyed.keys i ++ group_key_of e ∷ []) ∙ sym (ap (map group_key_of) (values_more) ∙ map-append group_key_of (values_of es) (e ∷ []));
      below = λ k h. elim (has_more k (group_key_of e) (keys_of es) (subst (Has k) keys_more h)) [
        | inl i ↦ (let l = keyed.below k i in omega arith)
        | inr i ↦ subst (λ (v : GroupKey). v.number < above) (sym i) own
      ];
    })
  where
    keys_more : keys_of (es ++ (group_key_of e, e) ∷ []) ≡ keys_of es ++ group_key_of e ∷ []
    keys_more = map-append (λ (p : GroupKey × StartedGroup). p.0) es ((group_key_of e, e) ∷ [])

    values_more : values_of (es ++ (group_key_of e, e) ∷ []) ≡ values_of es ++ e ∷ []
    values_more = map-append (λ (p : GroupKey × StartedGroup). p.1) es ((group_key_of e, e) ∷ [])

pub values_more : (es more : List (GroupKey × StartedGroup)) (k : GroupKey) (e : StartedGroup) → more ≡ es ++ (k, e) ∷ [] → values_of more ≡ values_of es ++ e ∷ []
values_more es more k e is = ap values_of is ∙ map-append (λ (p : GroupKey × StartedGroup). p.1) es ((k, e) ∷ [])

-- other values under the same keys
pub keyed_again : (es others : List (GroupKey × StartedGroup)) (numbers : ℕ) → AreKeyed es numbers → keys_of others ≡ keys_of es → map group_key_of (values_of others) ≡ map group_key_of (values_of es) → AreKeyed others numbers
keyed_again es others numbers keyed same alike =
    record { keys = same ∙ keyed.keys ∙ sym alike; below = λ k h. keyed.below k (subst (Has k) same h) }

-- ---- those of some transactions

-- a test of the transaction leaves keys and groups alike
pub values_some : (stays : TxnId → Bool) (es : List (GroupKey × StartedGroup)) → keys_of es ≡ map group_key_of (values_of es)
    → values_of (filter (λ e. stays e.0.id) es) ≡ filter (λ e. stays e.id) (values_of es)
values_some stays [] same = refl
values_some stays (e ∷ es) same =
    let first : e.0 ≡ group_key_of e.1 = cc in
    let rest : keys_of es ≡ map group_key_of (values_of es) = cc in
    go (stays e.0.id) (values_some stays es rest) ∙ ap (λ (k : GroupKey). cond (stays k.id) (e.1 ∷ filter (λ x. stays x.id) (values_of es)) (filter (λ x. stays x.id) (values_of es))) first
  where
    go : (b : Bool) → values_of (filter (λ e. stays e.0.id) es) ≡ filter (λ x. stays x.id) (values_of es)
        → values_of (cond b (e ∷ filter (λ e. stays e.0.id) es) (filter (λ e. stays e.0.id) es)) ≡ cond b (e.1 ∷ filter (λ x. stays x.id) (values_of es)) (filter (λ x. stays x.id) (values_of es))
    go true ih = ap (λ es. e.1 ∷ es) ih
    go false ih = ih

keys_some : (stays : TxnId → Bool) (es : List (GroupKey × StartedGroup)) → keys_of es ≡ map group_key_of (values_of es)
    → keys_of (filter (λ e. stays e.0.id) es) ≡ map group_key_of (values_of (filter (λ e. stays e.0.id) es))
keys_some stays [] same = refl
keys_some stays (e ∷ es) same =
    let first : e.0 ≡ group_key_of e.1 = cc in
    let rest : keys_of es ≡ map group_key_of (values_of es) = cc in
    go first (stays e.0.id) (keys_some stays es rest)
  where
    some : List (GroupKey × StartedGroup)
    some = filter (λ e. stays e.0.id) es

    go : e.0 ≡ group_key_of e.1 → (b : Bool) → keys_of some ≡ map group_key_of (values_of some) → keys_of (cond b (e ∷ some) some) ≡ map group_key_of (values_of (cond b (e ∷ some) some))
    go first true ih = λ i. first i ∷ ih i
    go first false ih = ih

some_keys : (stays : TxnId → Bool) (es : List (GroupKey × StartedGroup)) (k : GroupKey) → Has k (keys_of (filter (λ e. stays e.0.id) es)) → Has k (keys_of es)
some_keys stays [] k h = h
some_keys stays (e ∷ es) k h = go (stays e.0.id) h (some_keys stays es k)
  where
    go : (b : Bool) → Has k (keys_of (cond b (e ∷ filter (λ e. stays e.0.id) es) (filter (λ e. stays e.0.id) es))) → (Has k (keys_of (filter (λ e. stays e.0.id) es)) → Has k (keys_of es)) → Has k (keys_of (e ∷ es))
    go true (inl is) ih = inl is
    go true (inr m) ih = inr (ih m)
    go false m ih = inr (ih m)

pub keyed_some : (stays : TxnId → Bool) (es : List (GroupKey × StartedGroup)) (numbers : ℕ) → AreKeyed es numbers → AreKeyed (filter (λ e. stays e.0.id) es) numbers
keyed_some stays es numbers keyed = record { keys = keys_some stays es keyed.keys; below = λ k h. keyed.below k (some_keys stays es k h) }

pub values-set : (es : List (GroupKey × StartedGroup)) (at : ℕ) (w : StartedGroup) → values_of (set_value_at es at w) ≡ slice_set (values_of es) at w
values-set [] at w = refl
values-set (e ∷ es) zero w = refl
values-set (e ∷ es) (suc at) w = ap (λ l. e.1 ∷ l) (values-set es at w)

pub keys-set : (es : List StartedGroup) (at : ℕ) (e w : StartedGroup) → slice_get es at ≡ Some e → group_key_of w ≡ group_key_of e → map group_key_of (slice_set es at w) ≡ map group_key_of es
keys-set [] at e w got same = refl
keys-set (x ∷ xs) zero e w got same = (let is : x ≡ e = cc in λ i. (same ∙ ap group_key_of (sym is)) i ∷ map group_key_of xs)
keys-set (x ∷ xs) (suc at) e w got same = ap (λ l. group_key_of x ∷ l) (keys-set xs at e w got same)

-- ---- those of one transaction, number by number

module _ (id : TxnId) where
  abbrev is_up_to : ℕ → StartedGroup → Bool
  is_up_to n e = is_txn e.id id && nat_lt e.group n

  none_up : (e : StartedGroup) → is_up_to 0 e ≡ false
  none_up e = grind (arith, nat_tests)

  one_up : (n : ℕ) (e : StartedGroup) → (is_up_to n e || is_group id n e) ≡ is_up_to (n + 1) e
  one_up n e = grind (arith, nat_tests)

  all_up : (n : ℕ) (e : StartedGroup) → e.group < n → is_up_to n e ≡ is_txn e.id id
  all_up n e l = grind (arith, nat_tests)

  module _ (q : StartedGroup → Bool) where
    abbrev pub passes_up_to : ℕ → StartedGroup → Bool
    passes_up_to n e = is_up_to n e && q e

    none_passes_up : (b c : Bool) → b ≡ false → (b && c) ≡ false
    none_passes_up b c e = ap (λ (t : Bool). t && c) e

    pub any_none : (es : List StartedGroup) → list_any (passes_up_to 0) es ≡ false
    any_none es = none_has (passes_up_to 0) es (λ e h. none_passes_up (is_up_to 0 e) (q e) (none_up e))

    pub any_more : (n : ℕ) (es : List StartedGroup) → IsOnceHere id n es → list_any (passes_up_to (n + 1)) es ≡ (list_any (passes_up_to n) es || option_map_or q (find (is_group id n) es) false)
    any_more n es once = same_tests _ _ there back
      where
        passed : Option StartedGroup → Bool
        passed o = option_map_or q o false

        found : (o : Option StartedGroup) → find (is_group id n) es ≡ o → (e : StartedGroup) → Has e es → is_group id n e ≡ true → q e ≡ true → passed o ≡ true
        found None f e h g t = absurd (false≢true (sym (none_found (is_group id n) es f e h) ∙ g))
        found (Some x) f e h g t = (let has = found_has (is_group id n) es x f in subst (λ v. q v ≡ true) (once e x h has.0 g has.1) t)

        there : list_any (passes_up_to (n + 1)) es ≡ true → (list_any (passes_up_to n) es || passed (find (is_group id n) es)) ≡ true
        there h =
            let e = any_has (passes_up_to (n + 1)) es h in
            let p = and_parts (is_up_to (n + 1) e.0) (q e.0) e.2 in
            elim (or_cases (is_up_to n e.0) (is_group id n e.0) (one_up n e.0 ∙ p.0)) [
              | inl u ↦ or_left (list_any (passes_up_to n) es) (passed (find (is_group id n) es)) (has_any (passes_up_to n) es e.0 e.1 (and_from (is_up_to n e.0) (q e.0) u p.1))
              | inr g ↦ or_right (list_any (passes_up_to n) es) (passed (find (is_group id n) es)) (found (find (is_group id n) es) refl e.0 e.1 g p.1)
            ]

        one : (o : Option StartedGroup) → find (is_group id n) es ≡ o → passed o ≡ true → list_any (passes_up_to (n + 1)) es ≡ true
        one None f t = absurd (false≢true t)
        one (Some x) f t =
            (let has = found_has (is_group id n) es x f in
            has_any (passes_up_to (n + 1)) es x has.0 (and_from (is_up_to (n + 1) x) (q x) (sym (one_up n x) ∙ or_right (is_up_to n x) (is_group id n x) has.1) t))

        back : (list_any (passes_up_to n) es || passed (find (is_group id n) es)) ≡ true → list_any (passes_up_to (n + 1)) es ≡ true
        back h = elim (or_cases (list_any (passes_up_to n) es) (passed (find (is_group id n) es)) h) [
          | inl a ↦
              (let e = any_has (passes_up_to n) es a in
              let p = and_parts (is_up_to n e.0) (q e.0) e.2 in
              has_any (passes_up_to (n + 1)) es e.0 e.1 (and_from (is_up_to (n + 1) e.0) (q e.0) (sym (one_up n e.0) ∙ or_left (is_up_to n e.0) (is_group id n e.0) p.0) p.1))
          | inr t ↦ one (find (is_group id n) es) refl t
        ]

    pub any_all : (n : ℕ) (es : List StartedGroup) → HaveNumbersBelow n es → list_any (passes_up_to n) es ≡ list_any (λ e. is_txn e.id id && q e) es
    any_all n [] below = refl
    any_all n (e ∷ es) below = (λ i. (all_up n e (below e (inl refl)) i && q e) || any_all n es (λ x h. below x (inr h)) i)

    -- where none is here, none passes
    pub any_absent : (es : List StartedGroup) → is_here id es ≡ false → list_any (λ e. is_txn e.id id && q e) es ≡ false
    any_absent [] absent = refl
    any_absent (e ∷ es) absent =
        let p = or_parts (is_txn e.id id) (is_here id es) absent in
        (λ i. (p.0 i && q e) || any_absent es p.1 i)

    -- one that passes, whatever its number
    pub any_found : (n : ℕ) (es : List StartedGroup) → option_map_or q (find (is_group id n) es) false ≡ true → list_any (λ e. is_txn e.id id && q e) es ≡ true
    any_found n es h = go (find (is_group id n) es) refl h
      where
        go : (o : Option StartedGroup) → find (is_group id n) es ≡ o → option_map_or q o false ≡ true → list_any (λ e. is_txn e.id id && q e) es ≡ true
        go None f t = absurd (false≢true t)
        go (Some x) f t =
            (let has = found_has (is_group id n) es x f in
            has_any (λ e. is_txn e.id id && q e) es x has.0 (and_from (is_txn x.id id) (q x) (and_parts (is_txn x.id id) (x.group == n) has.1).0 t))
