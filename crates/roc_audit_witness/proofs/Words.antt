-- What the tests say, in the words of the definitions
use Rattle.std.proofs.Common.{◌≡◌, ℕ, ℤ, suc, ◌+◌, ◌<◌, ◌≤◌, Bool, true, false, cond, not, ◌&&◌, ◌||◌, max, nat_lt, nat_le, List, [], ◌∷◌, ◌++◌, length, Some, None, unwrap_or, refl, sym, ap, subst, ◌∙◌, inl, inr, arith}
use Rattle.std.proofs.Math.Nat.{le-max_left, le-max_right, max-le}
use Rattle.std.proofs.lemmas.Bool.{false≢true, and_parts, or_cases, ltb-true, ltb-false, leb-true, le-leb}
use Rattle.std.proofs.lemmas.List.Recursion.{is_position_or_len}
use Rattle.std.specs.List.{list_any, list_all, position}
use Rattle.roc_sequence.specs.Lists.{Has}
use Rattle.roc_sequence.specs.Places.{place_of, is_listed, IsListed, IsListedBefore, NoneTwice}
use Rattle.roc_sequence.proofs.Holds.{any_has, has_any, every_has, has_every}
use Rattle.roc_sequence.proofs.Appended.{listed_front, listed_behind, listed_either}
use Rattle.roc_sequence.proofs.Places.{listed_true, listed_test, unlisted_test, listed_head, listed_tail, listed_cases}
use Rattle.roc_base.specs.declared.id.TxnId.{TxnId}
use Rattle.roc_base.specs.TxnId.{is_txn}
use Rattle.roc_base.specs.Equalities.{is_txn-true, is_txn-same}
use Rattle.roc_sequence.proofs.Listed as listed
use Rattle.roc_program.proofs.Firsts.{position-or_len}
use Rattle.roc_program.specs.Program.{Workload}
use Rattle.roc_audit.specs.declared.entry.Entry.{Entry}
use Rattle.roc_audit.specs.declared.entry.Entry.TheVariants.{Submitted, Answered}
use Rattle.roc_audit.specs.History.{WasSubmitted, IsAnsweredBefore}
use Rattle.roc_audit_witness.specs.Submissions.{NamesProcedures}
use Rattle.roc_audit_witness.specs.Inner.Tests.{repeats_none, submits, names_below, passes, stands_behind}

both : (a b : Bool) → a ≡ true → b ≡ true → (a && b) ≡ true
both true b e f = f
both false b e f = e

has_listed : (ids : List TxnId) (u : TxnId) → Has u ids → IsListed is_txn ids u
has_listed = listed.has_listed is_txn is_txn-true is_txn-same

listed_has : (ids : List TxnId) (u : TxnId) → IsListed is_txn ids u → Has u ids
listed_has = listed.listed_has is_txn is_txn-true is_txn-same

-- ---- none twice

in_one : (x : TxnId) → IsListed is_txn (x ∷ []) x
in_one = listed.in_one is_txn is_txn-true is_txn-same

listed_one : (x u : TxnId) → IsListed is_txn (x ∷ []) u → u ≡ x
listed_one = listed.listed_one is_txn is_txn-true is_txn-same

once_after : (seen xs : List TxnId) → repeats_none seen xs ≡ true → NoneTwice is_txn xs × ((x : TxnId) → IsListed is_txn xs x → ¬ IsListed is_txn seen x)
once_after seen [] e = (tt, λ x l. absurd (omega arith))
once_after seen (y ∷ ys) e =
    let p = and_parts (not (is_listed is_txn seen y)) (repeats_none (seen ++ y ∷ []) ys) e in
    let r = once_after (seen ++ y ∷ []) ys p.1 in
    let new : ¬ IsListed is_txn seen y = λ l. false≢true (sym (ap not (listed_test is_txn seen y l)) ∙ p.0) in (
      (λ l. r.1 y l (listed_behind is_txn seen (y ∷ []) y (in_one y)), r.0),
      λ x l. elim (listed_cases is_txn y ys x l) [
        | inl i ↦ subst (λ v. ¬ IsListed is_txn seen v) (sym (is_txn-true x y i)) new
        | inr k ↦ λ m. r.1 x k.1 (listed_front is_txn seen (y ∷ []) x m)
      ],
    )

after_once : (seen xs : List TxnId) → NoneTwice is_txn xs → ((x : TxnId) → IsListed is_txn xs x → ¬ IsListed is_txn seen x) → repeats_none seen xs ≡ true
after_once seen [] n f = refl
after_once seen (y ∷ ys) n f =
    both (not (is_listed is_txn seen y)) (repeats_none (seen ++ y ∷ []) ys)
    (ap not (unlisted_test is_txn seen y (f y (listed_head is_txn y ys (is_txn-same y)))))
    (after_once (seen ++ y ∷ []) ys n.1 (λ x l m. elim (listed_either is_txn seen (y ∷ []) x m) [
      | inl k ↦ f x (listed_tail is_txn y ys x l) k
      | inr k ↦ n.0 (subst (IsListed is_txn ys) (listed_one y x k.1) l)
    ]))

pub once_from_test : (xs : List TxnId) → repeats_none [] xs ≡ true → NoneTwice is_txn xs
once_from_test xs e = (once_after [] xs e).0

pub test_from_once : (xs : List TxnId) → NoneTwice is_txn xs → repeats_none [] xs ≡ true
test_from_once xs n = after_once [] xs n (λ x l m. omega arith)

-- ---- places

pub place_is : (id : TxnId) (ids : List TxnId) → unwrap_or (position (λ other. is_txn id other) ids) (length ids) ≡ place_of (is_txn id) ids
place_is id ids = position-or_len (is_txn id) ids ∙ sym (is_position_or_len (place_of (is_txn id)) (is_txn id) refl step ids)
  where
    step : (x : TxnId) (xs : List TxnId) → place_of (is_txn id) (x ∷ xs) ≡ cond (is_txn id x) 0 (1 + place_of (is_txn id) xs)
    step x xs = let more : suc (place_of (is_txn id) xs) ≡ 1 + place_of (is_txn id) xs = omega arith in ap (λ n. cond (is_txn id x) 0 n) more

-- ---- submissions

pub submitted_from_test : (h : List Entry) (t : TxnId) → list_any (submits t) h ≡ true → WasSubmitted h t
submitted_from_test h t e = let r = any_has (submits t) h e in go r.0 r.1 r.2
  where
    go : (e : Entry) → Has e h → submits t e ≡ true → WasSubmitted h t
    go (Submitted u proc args) has same = (proc, args, subst (λ v. Has (Submitted v proc args) h) (is_txn-true u t same) has)
    go (Answered u reply) has same = absurd (false≢true same)

pub test_from_submitted : (h : List Entry) (t : TxnId) → WasSubmitted h t → list_any (submits t) h ≡ true
test_from_submitted h t (proc, args, has) = has_any (submits t) h (Submitted t proc args) has (is_txn-same t)

pub all_submitted_from_test : (h : List Entry) (order : List TxnId) → list_all (λ t. list_any (submits t) h) order ≡ true → (t : TxnId) → IsListed is_txn order t → WasSubmitted h t
all_submitted_from_test h order e t l = submitted_from_test h t (every_has (λ t. list_any (submits t) h) order e t (listed_has order t l))

pub test_from_all_submitted : (h : List Entry) (order : List TxnId) → ((t : TxnId) → IsListed is_txn order t → WasSubmitted h t) → list_all (λ t. list_any (submits t) h) order ≡ true
test_from_all_submitted h order f = has_every (λ t. list_any (submits t) h) order (λ t has. test_from_submitted h t (f t (has_listed order t has)))

pub names_from_test : (program : Workload) (h : List Entry) (count : ℕ) → count ≡ length program.procedures → list_all (names_below count) h ≡ true → NamesProcedures program h
names_from_test program h count e all t proc args has = subst (λ n. proc < n) e (ltb-true proc count (every_has (names_below count) h all (Submitted t proc args) has))

true_lt : (a b : ℕ) → a < b → nat_lt a b ≡ true
true_lt a b k = go (nat_lt a b) refl
  where
    go : (v : Bool) → nat_lt a b ≡ v → v ≡ true
    go true q = refl
    go false q = absurd (let r = ltb-false a b q in omega arith)

pub name_below : (program : Workload) (h : List Entry) (count : ℕ) (x : Entry) → count ≡ length program.procedures → NamesProcedures program h → Has x h → names_below count x ≡ true
name_below program h count (Submitted t proc args) e names has = true_lt proc count (subst (λ n. proc < n) (sym e) (names t proc args has))
name_below program h count (Answered t reply) e names has = refl

pub test_from_names : (program : Workload) (h : List Entry) (count : ℕ) → count ≡ length program.procedures → NamesProcedures program h → list_all (names_below count) h ≡ true
test_from_names program h count e names = has_every (names_below count) h (λ x has. name_below program h count x e names has)

-- ---- real time

-- each listed one that is submitted stands at a place or later, and behind all that are answered before
pub record KeepsTime (order : List TxnId) (latest : ℕ) (h : List Entry) : Type 0 where
  pub late : (u : TxnId) → WasSubmitted h u → IsListed is_txn order u → latest ≤ place_of (is_txn u) order
  pub real_time : (t u : TxnId) → IsAnsweredBefore h t u → IsListed is_txn order u → IsListedBefore is_txn order t u

module _ (order : List TxnId) where
  abbrev at : TxnId → ℕ
  at u = place_of (is_txn u) order

  late_from : (latest : ℕ) (u : TxnId) → (not (is_listed is_txn order u) || nat_le latest (at u)) ≡ true → IsListed is_txn order u → latest ≤ at u
  late_from latest u e l =
      elim (or_cases (not (is_listed is_txn order u)) (nat_le latest (at u)) e) [
        | inl k ↦ absurd (false≢true (sym (ap not (listed_test is_txn order u l)) ∙ k))
        | inr k ↦ leb-true latest (at u) k
      ]

  late_to : (latest : ℕ) (u : TxnId) → (IsListed is_txn order u → latest ≤ at u) → (not (is_listed is_txn order u) || nat_le latest (at u)) ≡ true
  late_to latest u f = go (is_listed is_txn order u) refl
    where
      go : (b : Bool) → is_listed is_txn order u ≡ b → (not b || nat_le latest (at u)) ≡ true
      go true e = le-leb latest (at u) (f (listed_true is_txn order u e))
      go false e = refl

  submitted_late : (latest : ℕ) (v : TxnId) (p : ℕ) (a : List ℤ) (es : List Entry) → (not (is_listed is_txn order v) || nat_le latest (at v)) ≡ true → KeepsTime order latest es → KeepsTime order latest (Submitted v p a ∷ es)
  submitted_late latest v p a es first rest = record { late = late; real_time = real_time }
    where
      late : (u : TxnId) → WasSubmitted (Submitted v p a ∷ es) u → IsListed is_txn order u → latest ≤ at u
      late u (q, b, inl e) l = let same : u ≡ v = cc in subst (λ w. latest ≤ at w) (sym same) (late_from latest v first (subst (IsListed is_txn order) same l))
      late u (q, b, inr i) l = rest.late u (q, b, i) l

      real_time : (t u : TxnId) → IsAnsweredBefore (Submitted v p a ∷ es) t u → IsListed is_txn order u → IsListedBefore is_txn order t u
      real_time t u (inl (reply, e, s)) l = absurd (cc)
      real_time t u (inr b) l = rest.real_time t u b l

  answered_late : (latest : ℕ) (v : TxnId) (r : List ℤ) (es : List Entry) → KeepsTime order (max latest (at v + 1)) es → KeepsTime order latest (Answered v r ∷ es)
  answered_late latest v r es rest = record { late = late; real_time = real_time }
    where
      late : (u : TxnId) → WasSubmitted (Answered v r ∷ es) u → IsListed is_txn order u → latest ≤ at u
      late u (q, b, inl e) l = absurd (cc)
      late u (q, b, inr i) l = let k = rest.late u (q, b, i) l in let m = le-max_left latest (at v + 1) in omega arith

      real_time : (t u : TxnId) → IsAnsweredBefore (Answered v r ∷ es) t u → IsListed is_txn order u → IsListedBefore is_txn order t u
      real_time t u (inl (reply, e, s)) l =
          let same : v ≡ t = cc in
          let k = rest.late u s l in
          let m = le-max_right latest (at v + 1) in
          let first : at v < at u = omega arith in
          subst (λ w. at w < at u) same first
      real_time t u (inr b) l = rest.real_time t u b l

  pub time_from_test : (latest : ℕ) (h : List Entry) → stands_behind order latest h ≡ true → KeepsTime order latest h
  time_from_test latest [] e = record { late = λ u s l. elim s.2 [ ]; real_time = λ t u b l. elim b [ ] }
  time_from_test latest (Submitted v p a ∷ es) e = go (not (is_listed is_txn order v) || nat_le latest (at v)) refl e (time_from_test latest es)
    where
      go : (b : Bool) → (not (is_listed is_txn order v) || nat_le latest (at v)) ≡ b → passes (λ n. stands_behind order n es) (cond b (Some latest) None) ≡ true → (stands_behind order latest es ≡ true → KeepsTime order latest es) → KeepsTime order latest (Submitted v p a ∷ es)
      go true f k ih = submitted_late latest v p a es f (ih k)
      go false f k ih = absurd (false≢true k)
  time_from_test latest (Answered v r ∷ es) e = answered_late latest v r es (time_from_test (max latest (at v + 1)) es e)

  pub test_from_time : (latest : ℕ) (h : List Entry) → KeepsTime order latest h → stands_behind order latest h ≡ true
  test_from_time latest [] k = refl
  test_from_time latest (Submitted v p a ∷ es) k =
      ap (λ b. passes (λ n. stands_behind order n es) (cond b (Some latest) None)) (late_to latest v (k.late v (p, a, inl refl)))
      ∙ test_from_time latest es (record { late = λ u s l. k.late u (s.0, s.1, inr s.2) l; real_time = λ t u b l. k.real_time t u (inr b) l })
  test_from_time latest (Answered v r ∷ es) k =
      test_from_time (max latest (at v + 1)) es (record {
        late = λ u s l. max-le (k.late u (s.0, s.1, inr s.2) l) (let b = k.real_time v u (inl (r, refl, s)) l in omega arith);
        real_time = λ t u b l. k.real_time t u (inr b) l;
      })

  pub all_times : (h : List Entry) → ((t u : TxnId) → IsAnsweredBefore h t u → IsListed is_txn order u → IsListedBefore is_txn order t u) → stands_behind order 0 h ≡ true
  all_times h f = test_from_time 0 h (record { late = λ u s l. omega arith; real_time = f })
