-- Groups that are taken out by their keys, one by one
use Rattle.std.proofs.Common.{◌≡◌, ◌+◌, ◌<◌, ◌==◌, ◌&&◌, ◌||◌, ℕ, Bool, true, false, cond, nat_lt, not, List, [], ◌∷◌, length, take, get_or, filter, None, position, refl, sym, ap, ◌∙◌, inl, inr, arith}
use Rattle.std.proofs.lemmas.Bool.Decides.{nat_tests}
use Rattle.std.proofs.lemmas.List.Folds.{list_any_more}
use Rattle.std.specs.List.{IsDistinct, list_any}
use Rattle.std.specs.Map.{keys_of, remove_entry}
use Rattle.roc_sequence.specs.Lists.{Has}
use Rattle.roc_sequence.specs.Places.{is_listed}
use Rattle.roc_sequence.proofs.Found.{none_found, not_found}
use Rattle.roc_sequence.proofs.Holds.{all_has}
use Rattle.roc_base.specs.declared.id.TxnId.{TxnId}
use Rattle.roc_base.specs.TxnId.{is_txn}
use Rattle.roc_base.proofs.Ids.{is_listed-any}
use Rattle.roc_step.specs.declared.started.StartedGroup.{StartedGroup}
use Rattle.roc_server_groups.specs.declared.group_key.GroupKey.{GroupKey}
use Rattle.roc_server_groups.specs.Inner.Keyed.{is_key}

abbrev Entry : Type 0
Entry = GroupKey × StartedGroup

-- ---- filters

module _ (p q : Entry → Bool) where
  -- where two tests agree
  same_left : (es : List Entry) → ((e : Entry) → Has e es → p e ≡ q e) → filter p es ≡ filter q es
  same_left [] h = refl
  same_left (e ∷ es) h =
      ap (λ b. cond b (e ∷ filter p es) (filter p es)) (h e (inl refl)) ∙ ap (λ l. cond (q e) (e ∷ l) l) (same_left es (λ x has. h x (inr has)))

  -- one behind the other
  both_left : (es : List Entry) → filter q (filter p es) ≡ filter (λ e. p e && q e) es
  both_left [] = refl
  both_left (e ∷ es) = go (p e) (both_left es)
    where
      go : (b : Bool) → filter q (filter p es) ≡ filter (λ e. p e && q e) es → filter q (cond b (e ∷ filter p es) (filter p es)) ≡ cond (b && q e) (e ∷ filter (λ e. p e && q e) es) (filter (λ e. p e && q e) es)
      go true ih = ap (λ l. cond (q e) (e ∷ l) l) ih
      go false ih = ih

all_left : (p : Entry → Bool) (es : List Entry) → ((e : Entry) → Has e es → p e ≡ true) → es ≡ filter p es
all_left p [] h = refl
all_left p (e ∷ es) h = ap (λ l. e ∷ l) (all_left p es (λ x has. h x (inr has))) ∙ sym (ap (λ b. cond b (e ∷ filter p es) (filter p es)) (h e (inl refl)))

has_key : (e : Entry) (es : List Entry) → Has e es → Has e.0 (keys_of es)
has_key e [] h = elim h [ ]
has_key e (x ∷ es) (inl is) = inl (ap (λ (y : Entry). y.0) is)
has_key e (x ∷ es) (inr h) = inr (has_key e es h)

-- ---- one key

module _ (key : GroupKey) where
  abbrev others : Entry → Bool
  others e = not (is_key key e.0)

  pub one_out : (es : List Entry) → IsDistinct is_key (keys_of es) → remove_entry (is_key key) es ≡ filter others es
  unfolding IsDistinct
  one_out [] d = refl
  one_out (e ∷ es) d = go (is_key key e.0) refl (one_out es d.1)
    where
      apart : (a b : GroupKey) → is_key key a ≡ true → is_key a b ≡ false → is_key key b ≡ false
      apart a b s n = grind (arith, nat_tests)

      go : (b : Bool) → is_key key e.0 ≡ b → remove_entry (is_key key) es ≡ filter others es → cond b es (e ∷ remove_entry (is_key key) es) ≡ cond (not b) (e ∷ filter others es) (filter others es)
      go true is ih = all_left others es (λ x has. ap not (apart e.0 x.0 is (all_has (λ y. is_key e.0 y ≡ false) x.0 (keys_of es) d.0 (has_key x es has))))
      go false is ih = ap (λ l. e ∷ l) ih

  pub none_out : (es : List Entry) → position (is_key key) (keys_of es) ≡ None → es ≡ filter others es
  none_out es none = all_left others es (λ x has. ap not (none_found (is_key key) (keys_of es) (not_found (is_key key) (keys_of es) none) x.0 (has_key x es has)))

-- ---- all keys of a transaction

module _ (id : TxnId) where
  abbrev pub left_up_to : ℕ → Entry → Bool
  left_up_to n e = not (is_txn e.0.id id && nat_lt e.0.number n)

  pub none_up : (es : List Entry) → es ≡ filter (left_up_to 0) es
  none_up es = all_left (left_up_to 0) es (λ e has. one e.0)
    where
      one : (k : GroupKey) → not (is_txn k.id id && nat_lt k.number 0) ≡ true
      one k = grind (arith, nat_tests)

  pub one_up : (n : ℕ) (es now new : List Entry) → now ≡ filter (left_up_to n) es → new ≡ filter (others (record { id = id; number = n })) now → new ≡ filter (left_up_to (n + 1)) es
  one_up n es now new was is =
      is ∙ ap (filter (others (record { id = id; number = n }))) was ∙ both_left (left_up_to n) (others (record { id = id; number = n })) es
      ∙ same_left (λ e. left_up_to n e && others (record { id = id; number = n }) e) (left_up_to (n + 1)) es (λ e has. one e.0)
    where
      one : (k : GroupKey) → (not (is_txn k.id id && nat_lt k.number n) && not (is_txn id k.id && n == k.number)) ≡ not (is_txn k.id id && nat_lt k.number (n + 1))
      one k = grind (arith, nat_tests)

  pub all_up : (n : ℕ) (es : List Entry) → ((k : GroupKey) → Has k (keys_of es) → k.number < n) → filter (left_up_to n) es ≡ filter (λ e. not (is_txn e.0.id id)) es
  all_up n es below = same_left (left_up_to n) (λ e. not (is_txn e.0.id id)) es (λ e has. one e.0 (below e.0 (has_key e es has)))
    where
      one : (k : GroupKey) → k.number < n → not (is_txn k.id id && nat_lt k.number n) ≡ not (is_txn k.id id)
      one k lt = grind (arith, nat_tests)

-- ---- several transactions

abbrev pub left_of : List TxnId → Entry → Bool
left_of ids e = not (is_listed is_txn ids e.0.id)

pub none_listed : (es : List Entry) → es ≡ filter (left_of []) es
none_listed es = all_left (left_of []) es (λ e has. ap not (is_listed-any [] e.0.id))

pub one_listed : (ids : List TxnId) (k : ℕ) (d : TxnId) (es now new : List Entry) → k < length ids → now ≡ filter (left_of (take k ids)) es → new ≡ filter (λ e. not (is_txn e.0.id (get_or ids k d))) now
    → new ≡ filter (left_of (take (k + 1) ids)) es
one_listed ids k d es now new within was is =
    is ∙ ap (filter own) was ∙ both_left (left_of (take k ids)) own es ∙ same_left (λ e. left_of (take k ids) e && own e) (left_of (take (k + 1) ids)) es (λ e has. one e.0.id)
  where
    own : Entry → Bool
    own e = not (is_txn e.0.id (get_or ids k d))

    turned : (a b : TxnId) → is_txn a b ≡ is_txn b a
    turned a b = grind (arith, nat_tests)

    neither : (a b : Bool) → (not a && not b) ≡ not (a || b)
    neither true b = refl
    neither false b = refl

    one : (t : TxnId) → (not (is_listed is_txn (take k ids) t) && not (is_txn t (get_or ids k d))) ≡ not (is_listed is_txn (take (k + 1) ids) t)
    one t =
        ap (λ b. not (is_listed is_txn (take k ids) t) && not b) (turned t (get_or ids k d)) ∙ ap (λ a. not a && not (is_txn (get_or ids k d) t)) (is_listed-any (take k ids) t)
        ∙ neither (list_any (λ x. is_txn x t) (take k ids)) (is_txn (get_or ids k d) t)
        ∙ ap not (sym (list_any_more (λ (x : TxnId). is_txn x t) ids k d within) ∙ sym (is_listed-any (take (k + 1) ids) t))

pub keys_left : (p : Entry → Bool) (es : List Entry) (k : GroupKey) → Has k (keys_of (filter p es)) → Has k (keys_of es)
keys_left p [] k h = h
keys_left p (e ∷ es) k h = go (p e) h (keys_left p es k)
  where
    go : (b : Bool) → Has k (keys_of (cond b (e ∷ filter p es) (filter p es))) → (Has k (keys_of (filter p es)) → Has k (keys_of es)) → Has k (keys_of (e ∷ es))
    go true (inl is) ih = inl is
    go true (inr m) ih = inr (ih m)
    go false m ih = inr (ih m)
