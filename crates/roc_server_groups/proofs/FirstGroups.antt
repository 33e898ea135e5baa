-- The first group of each transaction
use Rattle.std.proofs.Common.{◌≡◌, ℕ, ◌+◌, ◌==◌, ◌<◌, ◌&&◌, ◌||◌, ◌++◌, Bool, true, false, not, cond, List, [], ◌∷◌, length, take, get_or, map, filter, Option, Some, None, is_some, find, position, refl, sym, ap, subst, ◌∙◌, arith}
use Rattle.std.proofs.lemmas.Bool.{false≢true}
use Rattle.std.proofs.lemmas.Bool.Decides.{nat_tests}
use Rattle.std.proofs.lemmas.Iterator.Adapters.{position_from-zero}
use Rattle.std.proofs.lemmas.List.Folds.{find-append, list_any_more}
use Rattle.std.specs.List.{list_any, position_from}
use Rattle.std.specs.Map.{lookup}
use Rattle.std.specs.Option.{option_map, option_or}
use Rattle.roc_sequence.specs.Places.{is_listed}
use Rattle.roc_sequence.proofs.Found.{none_found}
use Rattle.roc_base.specs.declared.id.TxnId.{TxnId}
use Rattle.roc_base.specs.TxnId.{is_txn}
use Rattle.roc_base.specs.Equalities.{is_txn-true}
use Rattle.roc_base.proofs.Ids.{is_listed-any}
use Rattle.roc_step.specs.declared.started.StartedGroup.{StartedGroup}
use Rattle.roc_step.specs.State.{is_group, is_here}
use Rattle.roc_server_groups.specs.declared.group_key.GroupKey.{GroupKey}
use Rattle.roc_server_groups.specs.GroupsNow.{groups_without}
use Rattle.roc_server_groups.specs.Inner.Keyed.{AreFirsts, group_key_of}
use Rattle.roc_server_groups.proofs.Placed.{position-none}

abbrev number_of : StartedGroup → ℕ
number_of e = e.group

abbrev found_for : TxnId → List StartedGroup → Option StartedGroup
found_for id es = find (λ e. is_txn e.id id) es

-- ---- what is read off

some_here : (id : TxnId) (es : List StartedGroup) → is_some (option_map number_of (found_for id es)) ≡ is_here id es
some_here id [] = refl
some_here id (e ∷ es) = go (is_txn e.id id) (some_here id es)
  where
    go : (b : Bool) → is_some (option_map number_of (found_for id es)) ≡ is_here id es
        → is_some (option_map number_of (cond b (Some e) (found_for id es))) ≡ (b || is_here id es)
    go true ih = refl
    go false ih = ih

-- whether there is one
pub here_by_first : (firsts : List (TxnId × ℕ)) (es : List StartedGroup) → AreFirsts firsts es → (id : TxnId) → is_some (lookup (is_txn id) firsts) ≡ is_here id es
here_by_first firsts es f id = ap is_some (f id) ∙ some_here id es

one_number : (id : TxnId) (n : ℕ) (e : StartedGroup) → is_txn e.id id ≡ true → e.group ≡ n → is_group id n e ≡ true
one_number id n e t is = grind (arith, nat_tests)

placed_by_number : (id : TxnId) (n at : ℕ) (es : List StartedGroup) → option_map number_of (found_for id es) ≡ Some n → position_from (is_group id n) at es ≡ position_from (λ e. is_txn e.id id) at es
placed_by_number id n at [] e = refl
placed_by_number id n at (x ∷ xs) e = go (is_txn x.id id) refl e (placed_by_number id n (at + 1) xs)
  where
    go : (b : Bool) → is_txn x.id id ≡ b → option_map number_of (cond b (Some x) (found_for id xs)) ≡ Some n
        → (option_map number_of (found_for id xs) ≡ Some n → position_from (is_group id n) (at + 1) xs ≡ position_from (λ e. is_txn e.id id) (at + 1) xs)
        → position_from (is_group id n) at (x ∷ xs) ≡ cond b (Some at) (position_from (λ e. is_txn e.id id) (at + 1) xs)
    go true t e ih = (let same : x.group ≡ n = cc in ap (λ c. cond c (Some at) (position_from (is_group id n) (at + 1) xs)) (one_number id n x t same))
    go false t e ih = ap (λ c. cond (c && x.group == n) (Some at) (position_from (is_group id n) (at + 1) xs)) t ∙ ih e

-- it stands where the first one does
pub first_by_number : (firsts : List (TxnId × ℕ)) (es : List StartedGroup) → AreFirsts firsts es → (id : TxnId) (n : ℕ) → lookup (is_txn id) firsts ≡ Some n
    → position (is_group id n) es ≡ position (λ e. is_txn e.id id) es
first_by_number firsts es f id n is =
    position_from-zero (is_group id n) es ∙ placed_by_number id n 0 es (sym (f id) ∙ is) ∙ sym (position_from-zero (λ (e : StartedGroup). is_txn e.id id) es)

none_mapped : (o : Option StartedGroup) → option_map number_of o ≡ None → o ≡ None
none_mapped None e = refl
none_mapped (Some x) e = absurd cc

none_here : (firsts : List (TxnId × ℕ)) (es : List StartedGroup) → AreFirsts firsts es → (id : TxnId) → lookup (is_txn id) firsts ≡ None → found_for id es ≡ None
none_here firsts es f id is = none_mapped (found_for id es) (sym (f id) ∙ is)

-- there is none
pub none_by_first : (firsts : List (TxnId × ℕ)) (es : List StartedGroup) → AreFirsts firsts es → (id : TxnId) → lookup (is_txn id) firsts ≡ None → None ≡ position (λ e. is_txn e.id id) es
none_by_first firsts es f id is = sym (position-none (λ (e : StartedGroup). is_txn e.id id) es (none_found (λ (e : StartedGroup). is_txn e.id id) es (none_here firsts es f id is)))

-- ---- one more

module _ (firsts : List (TxnId × ℕ)) (es : List StartedGroup) (e : StartedGroup) (f : AreFirsts firsts es) where
  numbers_more : (id : TxnId) → option_map number_of (found_for id (es ++ e ∷ [])) ≡ option_map number_of (option_or (found_for id es) (cond (is_txn e.id id) (Some e) None))
  numbers_more id = ap (option_map number_of) (find-append (λ (x : StartedGroup). is_txn x.id id) es (e ∷ []))

  -- its transaction has one
  pub firsts_same : is_some (lookup (is_txn e.id) firsts) ≡ true → AreFirsts firsts (es ++ e ∷ [])
  firsts_same has id = f id ∙ go (found_for id es) refl (is_txn e.id id) refl ∙ sym (numbers_more id)
    where
      go : (o : Option StartedGroup) → found_for id es ≡ o → (b : Bool) → is_txn e.id id ≡ b → option_map number_of o ≡ option_map number_of (option_or o (cond b (Some e) None))
      go (Some x) is b t = refl
      go None is false t = refl
      go None is true t =
          let none : lookup (is_txn e.id) firsts ≡ None = subst (λ i. lookup (is_txn i) firsts ≡ None) (sym (is_txn-true e.id id t)) (f id ∙ ap (option_map number_of) is) in
          absurd (false≢true (sym (ap is_some none) ∙ has))

  no_value : (o : Option ℕ) → is_some o ≡ false → o ≡ None
  no_value None h = refl
  no_value (Some n) h = absurd (false≢true (sym h))

  -- it is the first of its transaction
  pub firsts_more : (new : List (TxnId × ℕ)) → is_some (lookup (is_txn e.id) firsts) ≡ false
      → ((id : TxnId) → lookup (is_txn id) new ≡ cond (is_txn e.id id) (Some e.group) (lookup (is_txn id) firsts))
      → AreFirsts new (es ++ e ∷ [])
  firsts_more new absent put id = put id ∙ go (is_txn e.id id) refl ∙ sym (numbers_more id)
    where
      own : found_for e.id es ≡ None
      own = none_here firsts es f e.id (no_value (lookup (is_txn e.id) firsts) absent)

      others_stay : (o : Option StartedGroup) → o ≡ option_or o None
      others_stay None = refl
      others_stay (Some x) = refl

      go : (b : Bool) → is_txn e.id id ≡ b → cond b (Some e.group) (lookup (is_txn id) firsts) ≡ option_map number_of (option_or (found_for id es) (cond b (Some e) None))
      go true t = ap (λ o. option_map number_of (option_or o (Some e))) (sym (ap (λ i. found_for i es) (sym (is_txn-true e.id id t)) ∙ own))
      go false t = f id ∙ ap (option_map number_of) (others_stay (found_for id es))

-- ---- other groups under the same keys

first_key : (id : TxnId) (es : List StartedGroup) → option_map number_of (found_for id es) ≡ option_map (λ (k : GroupKey). k.number) (find (λ k. is_txn k.id id) (map group_key_of es))
first_key id [] = refl
first_key id (e ∷ es) = go (is_txn e.id id) (first_key id es)
  where
    go : (b : Bool) → option_map number_of (found_for id es) ≡ option_map (λ (k : GroupKey). k.number) (find (λ k. is_txn k.id id) (map group_key_of es))
        → option_map number_of (cond b (Some e) (found_for id es)) ≡ option_map (λ (k : GroupKey). k.number) (cond b (Some (group_key_of e)) (find (λ k. is_txn k.id id) (map group_key_of es)))
    go true ih = refl
    go false ih = ih

pub firsts_again : (firsts : List (TxnId × ℕ)) (es now : List StartedGroup) → AreFirsts firsts es → map group_key_of now ≡ map group_key_of es → AreFirsts firsts now
firsts_again firsts es now f alike id =
    f id ∙ first_key id es ∙ ap (λ ks. option_map (λ (k : GroupKey). k.number) (find (λ (k : GroupKey). is_txn k.id id) ks)) (sym alike) ∙ sym (first_key id now)

-- ---- some are forgotten

-- of a transaction all stay or none does
found_left : (stays : TxnId → Bool) (id : TxnId) (es : List StartedGroup) → found_for id (filter (λ e. stays e.id) es) ≡ cond (stays id) (found_for id es) None
found_left stays id [] = none (stays id)
  where
    none : (b : Bool) → found_for id [] ≡ cond b (found_for id []) None
    none true = refl
    none false = refl
found_left stays id (x ∷ xs) = go (is_txn x.id id) refl (stays x.id) refl (found_left stays id xs)
  where
    some : List StartedGroup
    some = filter (λ e. stays e.id) xs

    go : (b : Bool) → is_txn x.id id ≡ b → (s : Bool) → stays x.id ≡ s → found_for id some ≡ cond (stays id) (found_for id xs) None
        → found_for id (cond s (x ∷ some) some) ≡ cond (stays id) (cond b (Some x) (found_for id xs)) None
    go true t true s ih =
        ap (λ c. cond c (Some x) (found_for id some)) t ∙ ap (λ c. cond c (Some x) None) (sym s ∙ ap stays (is_txn-true x.id id t))
    go true t false s ih =
        let gone : stays id ≡ false = ap stays (sym (is_txn-true x.id id t)) ∙ s in
        ih ∙ ap (λ c. cond c (found_for id xs) None) gone ∙ ap (λ c. cond c (Some x) None) (sym gone)
    go false t true s ih = ap (λ c. cond c (Some x) (found_for id some)) t ∙ ih
    go false t false s ih = ih

-- what was noted of these has gone
abbrev pub AreWithout : List TxnId → (old new : List (TxnId × ℕ)) → Type 0
AreWithout ids old new = (id : TxnId) → lookup (is_txn id) new ≡ cond (list_any (λ t. is_txn t id) ids) None (lookup (is_txn id) old)

pub without_none : (old : List (TxnId × ℕ)) → AreWithout [] old old
without_none old id = refl

pub without_more : (ids : List TxnId) (k : ℕ) (d : TxnId) (old mid new : List (TxnId × ℕ)) → k < length ids → AreWithout (take k ids) old mid
    → ((id : TxnId) → lookup (is_txn id) new ≡ cond (is_txn (get_or ids k d) id) None (lookup (is_txn id) mid)) → AreWithout (take (k + 1) ids) old new
without_more ids k d old mid new within so_far step id =
    step id ∙ ap (cond (is_txn (get_or ids k d) id) None) (so_far id) ∙ both (list_any (λ t. is_txn t id) (take k ids)) (is_txn (get_or ids k d) id)
    ∙ ap (λ b. cond b None (lookup (is_txn id) old)) (sym (list_any_more (λ (t : TxnId). is_txn t id) ids k d within))
  where
    both : (a b : Bool) → cond b None (cond a None (lookup (is_txn id) old)) ≡ cond (a || b) None (lookup (is_txn id) old)
    both true true = refl
    both true false = refl
    both false b = refl

pub firsts_left : (ids : List TxnId) (old new : List (TxnId × ℕ)) → AreWithout ids old new → (es : List StartedGroup) → AreFirsts old es → AreFirsts new (groups_without ids es)
firsts_left ids old new gone es f id =
    gone id ∙ ap (λ b. cond b None (lookup (is_txn id) old)) (sym (is_listed-any ids id)) ∙ go (is_listed is_txn ids id)
    ∙ ap (option_map number_of) (sym (found_left (λ t. not (is_listed is_txn ids t)) id es))
  where
    go : (b : Bool) → cond b None (lookup (is_txn id) old) ≡ option_map number_of (cond (not b) (found_for id es) None)
    go true = refl
    go false = f id
