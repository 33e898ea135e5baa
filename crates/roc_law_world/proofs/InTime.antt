-- What history, order and looks tell of real time, in every world
use Rattle.std.proofs.Common.{◌≡◌, ◌≢◌, ◌∙◌, ◌⊎◌, inl, inr, ℕ, ℤ, ◌≤◌, Bool, true, false, List, [], ◌∷◌, ◌++◌, length, take, drop, refl, sym, ap, subst, arith, append_assoc, length-append}
use Rattle.std.proofs.lemmas.Bool.{le-leb}
use Rattle.std.proofs.lemmas.List.{take-append-le, take-append-drop}
use Rattle.std.proofs.Math.Seq.{take-append_seam}
use Rattle.roc_sequence.specs.Lists.{Has}
use Rattle.roc_sequence.specs.Places.{IsListed}
use Rattle.roc_sequence.specs.Rising.{IsRising}
use Rattle.roc_sequence.proofs.Appended.{listed_front}
use Rattle.roc_sequence.proofs.Holds.{has_all, all_append}
use Rattle.roc_sequence.proofs.Members.{has_append}
use Rattle.roc_base.specs.declared.id.TxnId.{TxnId}
use Rattle.roc_base.specs.TxnId.{is_txn}
use Rattle.roc_plan.specs.Groups.{Plan}
use Rattle.roc_audit.specs.declared.entry.Entry.{Entry}
use Rattle.roc_audit.specs.History.{WasSubmitted, WasAnswered, IsAnsweredBefore}
use Rattle.roc_audit.specs.Woven.{Look, is_no_later}
use Rattle.roc_audit.proofs.Histories.{submitted_front, before_cases, answered_by_before}
use Rattle.roc_law_world.specs.World.{World, Beginning, begun_world}

-- the looks of v stand before those of u
pub record AreApart (v u : TxnId) (looks : List Look) : Type 0 where
  pub front : List Look
  pub back : List Look
  pub is : looks ≡ front ++ back
  pub none_back : (k : Look) → Has k back → k.id ≢ v
  pub none_front : (k : Look) → Has k front → k.id ≢ u

pub record AreInTime (is_view : TxnId → Bool) (w : World) : Type 0 where
  pub few : (l : Look) → Has l w.looks → l.behind ≤ length w.order
  pub rising : IsRising is_no_later w.looks
  -- submitted views look
  pub looked : (l : Look) → Has l w.looks → (is_view l.id ≡ true) × WasSubmitted w.history l.id
  -- each behind the transactions that were answered before its submission
  pub after : (t : TxnId) (l : Look) → Has l w.looks → is_view t ≡ false → IsAnsweredBefore w.history t l.id → IsListed is_txn (take l.behind w.order) t
  -- and before those that were submitted after its answer
  pub before : (u : TxnId) (l : Look) → Has l w.looks → is_view u ≡ false → IsAnsweredBefore w.history l.id u → ¬ IsListed is_txn (take l.behind w.order) u
  -- who was answered before another's submission looked last before the other did first
  pub views : (v u : TxnId) → is_view v ≡ true → is_view u ≡ true → IsAnsweredBefore w.history v u → AreApart v u w.looks

-- what the order has to do with the history
pub record IsOrderTold (is_view : TxnId → Bool) (w : World) : Type 0 where
  -- each answered transaction is of the order
  pub answered : (t : TxnId) (reply : List ℤ) → is_view t ≡ false → WasAnswered w.history t reply → IsListed is_txn w.order t
  -- and each of the order was submitted
  pub submitted : (t : TxnId) → IsListed is_txn w.order t → WasSubmitted w.history t

-- what a step adds
pub record AddsInTime (is_view : TxnId → Bool) (w u : World) : Type 0 where
  -- at most one entry is told: where it is a submission, that of a new id
  pub told : List Entry
  pub history : u.history ≡ w.history ++ told
  pub one : length told ≤ 1
  pub new : (t : TxnId) → WasSubmitted told t → ¬ WasSubmitted w.history t
  -- the order grows
  pub ts : List TxnId
  pub order : u.order ≡ w.order ++ ts
  -- a view that was submitted, and was not answered before, looks behind the whole order
  pub more : List Look
  pub looks : u.looks ≡ w.looks ++ more
  pub behind : (l : Look) → Has l more → l.behind ≡ length w.order
  pub view : (l : Look) → Has l more → (is_view l.id ≡ true) × WasSubmitted u.history l.id
  pub unanswered : (l : Look) → Has l more → (reply : List ℤ) → ¬ WasAnswered w.history l.id reply

-- ---- lists

pub listed_taken : (n : ℕ) (xs : List TxnId) (t : TxnId) → IsListed is_txn (take n xs) t → IsListed is_txn xs t
listed_taken n xs t h = subst (λ ys. IsListed is_txn ys t) (take-append-drop n xs) (listed_front is_txn (take n xs) (drop n xs) t h)

rising_append : {A : Type 0} (before : A → A → Bool) (xs ys : List A) → IsRising before xs → IsRising before ys → ((x y : A) → Has x xs → Has y ys → before x y ≡ true) → IsRising before (xs ++ ys)
rising_append before [] ys a b h = b
rising_append before (x ∷ xs) ys a b h = (
  all_append (λ y. before x y ≡ true) xs ys a.0 (has_all (λ y. before x y ≡ true) ys (λ y k. h x y (inl refl) k)),
  rising_append before xs ys a.1 b (λ z y i k. h z y (inr i) k),
)

rising_all : {A : Type 0} (before : A → A → Bool) (xs : List A) → ((x y : A) → Has x xs → Has y xs → before x y ≡ true) → IsRising before xs
rising_all before [] h = tt
rising_all before (x ∷ xs) h = (has_all (λ y. before x y ≡ true) xs (λ y k. h x y (inl refl) (inr k)), rising_all before xs (λ z y i k. h z y (inr i) (inr k)))

-- one entry tells of no answer before a submission
none_before : (told : List Entry) (t u : TxnId) → length told ≤ 1 → ¬ IsAnsweredBefore told t u
none_before [] t u l b = b
none_before (e ∷ []) t u l b = elim b [ inl p ↦ p.2.2 | inr z ↦ z ]
none_before (e ∷ f ∷ told) t u l b = absurd (omega (arith, l))

-- ---- nothing was told, and nobody looked

pub in_time_begun : (is_view : TxnId → Bool) (plan : Plan) (b : Beginning) (coords : ℕ) → AreInTime is_view (begun_world plan b coords)
in_time_begun is_view plan b coords =
    record {
      few = λ l h. absurd h;
      rising = tt;
      looked = λ l h. absurd h;
      after = λ t l h. absurd h;
      before = λ u l h. absurd h;
      views = λ v u e f h. absurd h;
    }

-- ---- a step

module _ (is_view : TxnId → Bool) (w u : World) (h : AreInTime is_view w) (o : IsOrderTold is_view w) (a : AddsInTime is_view w u) where
  old_or_new : (l : Look) → Has l u.looks → Has l w.looks ⊎ Has l a.more
  old_or_new l j = has_append l w.looks a.more (subst (Has l) a.looks j)

  take_same : (l : Look) → Has l w.looks → take l.behind u.order ≡ take l.behind w.order
  take_same l j = ap (take l.behind) a.order ∙ take-append-le l.behind w.order a.ts (h.few l j)

  take_all : (l : Look) → Has l a.more → take l.behind u.order ≡ w.order
  take_all l j = (λ i. take (a.behind l j i) (a.order i)) ∙ take-append_seam w.order a.ts

  -- whose answer stands before a submission: it did before, or the submission is new
  cases : (t x : TxnId) → IsAnsweredBefore u.history t x → IsAnsweredBefore w.history t x ⊎ ((reply : List ℤ) × WasAnswered w.history t reply × WasSubmitted a.told x)
  cases t x b =
      elim (before_cases w.history a.told t x (subst (λ H. IsAnsweredBefore H t x) a.history b)) [
        | inl k ↦ inl k
        | inr k ↦ elim k [ inl p ↦ inr p | inr z ↦ absurd (none_before a.told t x a.one z) ]
      ]

  -- who was answered does not look
  no_more : (v : TxnId) (reply : List ℤ) → WasAnswered w.history v reply → (k : Look) → Has k a.more → k.id ≢ v
  no_more v reply j k m f = a.unanswered k m reply (subst (λ v. WasAnswered w.history v reply) (sym f) j)

  -- who is new did not look
  no_look : (x : TxnId) → WasSubmitted a.told x → (k : Look) → Has k w.looks → k.id ≢ x
  no_look x s k m f = a.new x s (subst (WasSubmitted w.history) f (h.looked k m).1)

  after_new : (t : TxnId) (l : Look) → is_view t ≡ false → IsAnsweredBefore u.history t l.id → IsListed is_txn w.order t
  after_new t l e b =
      elim (cases t l.id b) [
        | inl c ↦ (let r = answered_by_before w.history t l.id c in o.answered t r.0 e r.1)
        | inr p ↦ o.answered t p.0 e p.1
      ]

  after_old : (t : TxnId) (l : Look) → Has l w.looks → is_view t ≡ false → IsAnsweredBefore u.history t l.id → IsListed is_txn (take l.behind w.order) t
  after_old t l j e b =
      elim (cases t l.id b) [
        | inl c ↦ h.after t l j e c
        | inr p ↦ absurd (no_look l.id p.2 l j refl)
      ]

  before_old : (x : TxnId) (l : Look) → Has l w.looks → is_view x ≡ false → IsAnsweredBefore u.history l.id x → ¬ IsListed is_txn (take l.behind w.order) x
  before_old x l j e b i =
      elim (cases l.id x b) [
        | inl c ↦ h.before x l j e c i
        | inr p ↦ a.new x p.2 (o.submitted x (listed_taken l.behind w.order x i))
      ]

  before_new : (x : TxnId) (l : Look) → Has l a.more → ¬ IsAnsweredBefore u.history l.id x
  before_new x l j b =
      elim (cases l.id x b) [
        | inl c ↦ (let r = answered_by_before w.history l.id x c in no_more l.id r.0 r.1 l j refl)
        | inr p ↦ no_more l.id p.0 p.1 l j refl
      ]

  apart : (v x : TxnId) → is_view v ≡ true → is_view x ≡ true → IsAnsweredBefore u.history v x → AreApart v x u.looks
  apart v x e f b =
      elim (cases v x b) [
        | inl c ↦
            (let p = h.views v x e f c in
            let r = answered_by_before w.history v x c in
            record {
              front = p.front;
              back = p.back ++ a.more;
              is = a.looks ∙ (ap (λ ls. ls ++ a.more) p.is ∙ append_assoc p.front p.back a.more);
              none_back = λ k j. elim (has_append k p.back a.more j) [ inl i ↦ p.none_back k i | inr i ↦ no_more v r.0 r.1 k i ];
              none_front = p.none_front;
            })
        | inr p ↦ record { front = w.looks; back = a.more; is = a.looks; none_back = no_more v p.0 p.1; none_front = no_look x p.2 }
      ]

  rising : IsRising is_no_later u.looks
  rising =
      subst (IsRising is_no_later) (sym a.looks)
      (rising_append is_no_later w.looks a.more h.rising
      (rising_all is_no_later a.more (λ x y i j. let p = a.behind x i in let q = a.behind y j in le-leb x.behind y.behind (omega (arith, p, q))))
      (λ x y i j. let p = h.few x i in let q = a.behind y j in le-leb x.behind y.behind (omega (arith, p, q))))

  pub in_time_next : AreInTime is_view u
  in_time_next =
      record {
        few = λ l j.
            let longer = ap length a.order in
            let long = length-append w.order a.ts in
            elim (old_or_new l j) [ inl k ↦ (let p = h.few l k in omega (arith, p, longer, long)) | inr k ↦ (let p = a.behind l k in omega (arith, p, longer, long)) ];
        rising = rising;
        looked = λ l j. elim (old_or_new l j) [
          | inl k ↦ (let r = h.looked l k in (r.0, subst (λ H. WasSubmitted H l.id) (sym a.history) (submitted_front w.history a.told l.id r.1)))
          | inr k ↦ a.view l k
        ];
        after = λ t l j e b. elim (old_or_new l j) [
          | inl k ↦ subst (λ O. IsListed is_txn O t) (sym (take_same l k)) (after_old t l k e b)
          | inr k ↦ subst (λ O. IsListed is_txn O t) (sym (take_all l k)) (after_new t l e b)
        ];
        before = λ x l j e b i. elim (old_or_new l j) [
          | inl k ↦ before_old x l k e b (subst (λ O. IsListed is_txn O x) (take_same l k) i)
          | inr k ↦ before_new x l k b
        ];
        views = apart;
      }
