-- The rule names one list
use Rattle.std.proofs.Common.{◌≡◌, ℕ, zero, suc, ◌<◌, Bool, true, false, List, [], ◌∷◌, length, refl, sym, ◌∙◌, ap, subst, ◌⊎◌, inl, inr, arith}
use Rattle.std.proofs.lemmas.Bool.{cases_lt}
use Rattle.roc_sequence.specs.Places.{place_of, IsListed, IsListedBefore, NoneTwice}
use Rattle.roc_sequence.proofs.Places.{place_of-le, place_of-here, place_of-there, listed_head, listed_tail, listed_cases, same_place}
use Rattle.roc_base.specs.declared.id.TxnId.{TxnId}
use Rattle.roc_base.specs.TxnId.{is_txn, txn_lt}
use Rattle.roc_base.proofs.Ids.{is_txn-ne, is_txn-false, txn_cases, txn_lt-trans}
use Rattle.roc_base.specs.Equalities.{is_txn-true, is_txn-same}
use Rattle.roc_component.specs.Components.{Mates, IsNextInside, IsNext, among, IsComponentOrder}
use Rattle.roc_component.proofs.Relations.{mates_sym, mates_trans, ready_mate, free_mate, next_by, no_descent}

pub cases_txn : (a b : TxnId) → (a ≡ b) ⊎ (¬ (a ≡ b))
cases_txn a b = go (is_txn a b) refl
  where
    go : (c : Bool) → is_txn a b ≡ c → (a ≡ b) ⊎ (¬ (a ≡ b))
    go true e = inl (is_txn-true a b e)
    go false e = inr (is_txn-false a b e)

-- neither comes first
same_least : (a b : TxnId) → ¬ (txn_lt a b ≡ true) → ¬ (txn_lt b a ≡ true) → a ≡ b
same_least a b h k = elim (txn_cases a b) [ inl l ↦ absurd (h l) | inr c ↦ elim c [ inl e ↦ e | inr l ↦ absurd (k l) ] ]

module _ (A J : TxnId → TxnId → Type 0) (M : List TxnId) (taken : TxnId → Type 0) where
  -- one component, where both may be taken next
  same_inside : (x y : TxnId) → Mates A x y → ¬ taken x → ¬ taken y → IsNextInside A J taken x → IsNextInside A J taken y → x ≡ y
  same_inside x y m nx ny (inl a) (inl b) =
      same_least x y (b.1 x (mates_sym A x y m) nx (free_mate A J taken x y x m a.0)) (a.1 y m ny (free_mate A J taken y x y (mates_sym A x y m) b.0))
  same_inside x y m nx ny (inl a) (inr b) = absurd (b.0 x (mates_sym A x y m) nx (free_mate A J taken x y x m a.0))
  same_inside x y m nx ny (inr a) (inl b) = absurd (a.0 y m ny (free_mate A J taken y x y (mates_sym A x y m) b.0))
  same_inside x y m nx ny (inr a) (inr b) = same_least x y (b.1 x (mates_sym A x y m) nx tt) (a.1 y m ny tt)

  module _ (x y : TxnId) (hx : IsListed is_txn M x) (hy : IsListed is_txn M y) (nx : ¬ taken x) (ny : ¬ taken y) (p : IsNext A J M taken x) (q : IsNext A J M taken y) where
    one_component : ¬ (x ≡ y) → ¬ Mates A x y
    one_component n m = n (same_inside x y m nx ny p.inside q.inside)

    -- of two components that are ready and not begun each has an id below any of the other
    module _ (n : ¬ (x ≡ y)) (bx : (a : TxnId) → taken a → ¬ Mates A a x) (by : (a : TxnId) → taken a → ¬ Mates A a y) where
      abbrev Left : TxnId → Type 0
      Left z = Mates A x z × IsListed is_txn M z × ¬ taken z

      lower : (z : TxnId) → Left z → (w : TxnId) × Left w × (txn_lt w z ≡ true)
      lower z l =
          let a = q.least z by l.1 l.2 (ready_mate A taken x z l.0 p.ready) in
          let ta : ¬ taken a.0 = λ u. by a.0 u (mates_sym A y a.0 a.2) in
          let b = p.least a.0 bx a.1 ta (ready_mate A taken y a.0 a.2 q.ready) in
          let tb : ¬ taken b.0 = λ u. bx b.0 u (mates_sym A x b.0 b.2) in
          (b.0, (b.2, b.1, tb), go a.0 b.0 a.2 a.3 b.3)
        where
          go : (a b : TxnId) → Mates A y a → ¬ (txn_lt z a ≡ true) → ¬ (txn_lt a b ≡ true) → txn_lt b z ≡ true
          go a b m h k =
              let lt : txn_lt a z ≡ true = elim (txn_cases a z) [
                | inl i ↦ i
                | inr c ↦ elim c [
                  | inl e ↦ absurd (one_component n (mates_trans A x z y l.0 (subst (λ v. Mates A v y) e (mates_sym A y a m))))
                  | inr i ↦ absurd (h i)
                ]
              ] in
              elim (txn_cases b a) [
                | inl i ↦ txn_lt-trans b a z i lt
                | inr c ↦ elim c [ inl e ↦ subst (λ v. txn_lt v z ≡ true) (sym e) lt | inr i ↦ absurd (k i) ]
              ]

      endless : ⊥
      endless = no_descent Left lower x (inl refl, hx, nx)

    -- neither component is begun, where they are two
    not_begun : ¬ (x ≡ y) → (a : TxnId) → taken a → ¬ Mates A a x
    not_begun n a t m = one_component n (mates_trans A x a y (mates_sym A a x m) (q.ends a x t m hx nx))

    not_begun_either : ¬ (x ≡ y) → (a : TxnId) → taken a → ¬ Mates A a y
    not_begun_either n a t m = one_component n (mates_trans A x a y (mates_sym A a x (p.ends a y t m hy ny)) m)

    pub one_next : x ≡ y
    one_next = elim (cases_txn x y) [ inl e ↦ e | inr n ↦ absurd (endless n (not_begun n) (not_begun_either n)) ]

-- lists of the same ids at the same places are one
abbrev at : List TxnId → TxnId → ℕ
at l x = place_of (is_txn x) l

other_place : (x z : TxnId) (xs : List TxnId) → ¬ IsListed is_txn xs x → IsListed is_txn xs z → at (x ∷ xs) z ≡ suc (at xs z)
other_place x z xs n h = place_of-there (is_txn z) x xs (is_txn-ne z x (λ e. n (subst (IsListed is_txn xs) e h)))

pub same_places : (xs ys : List TxnId) → NoneTwice is_txn xs → NoneTwice is_txn ys → ((z : TxnId) → IsListed is_txn xs z → IsListed is_txn ys z) → ((z : TxnId) → IsListed is_txn ys z → IsListed is_txn xs z) → ((z : TxnId) → IsListed is_txn xs z → at ys z ≡ at xs z) → xs ≡ ys
same_places [] [] n m to from same = refl
same_places [] (y ∷ ys) n m to from same = absurd (let h = from y (listed_head is_txn y ys (is_txn-same y)) in omega arith)
same_places (x ∷ xs) [] n m to from same = absurd (let h = to x (listed_head is_txn x xs (is_txn-same x)) in omega arith)
same_places (x ∷ xs) (y ∷ ys) n m to from same = rest first (same_places xs ys n.1 m.1)
  where
    first : x ≡ y
    first =
        let hx = listed_head is_txn x xs (is_txn-same x) in
        same_place is_txn is_txn-true (y ∷ ys) x y (to x hx)
        (same x hx ∙ (place_of-here (is_txn x) x xs (is_txn-same x) ∙ sym (place_of-here (is_txn y) y ys (is_txn-same y))))

    behind : (a b z : TxnId) (cs ds : List TxnId) → a ≡ b → ¬ IsListed is_txn cs a → IsListed is_txn cs z → IsListed is_txn (b ∷ ds) z → IsListed is_txn ds z
    behind a b z cs ds e k h l =
        elim (listed_cases is_txn b ds z l) [
          | inl i ↦ absurd (k (subst (IsListed is_txn cs) (is_txn-true z b i ∙ sym e) h))
          | inr i ↦ i.1
        ]

    rest : x ≡ y → (((z : TxnId) → IsListed is_txn xs z → IsListed is_txn ys z) → ((z : TxnId) → IsListed is_txn ys z → IsListed is_txn xs z) → ((z : TxnId) → IsListed is_txn xs z → at ys z ≡ at xs z) → xs ≡ ys) → x ∷ xs ≡ y ∷ ys
    rest e ih =
        let down = λ (z : TxnId) (h : IsListed is_txn xs z). behind x y z xs ys e n.0 h (to z (listed_tail is_txn x xs z h)) in
        let up = λ (z : TxnId) (h : IsListed is_txn ys z). behind y x z ys xs (sym e) m.0 h (from z (listed_tail is_txn y ys z h)) in
        let tails : xs ≡ ys = ih down up (λ z h.
        let a = same z (listed_tail is_txn x xs z h) in
        let b = other_place x z xs n.0 h in
        let c = other_place y z ys m.0 (down z h) in
        omega arith) in
        ap (λ v. v ∷ xs) e ∙ ap (λ l. y ∷ l) tails

module _ (E I : TxnId → TxnId → Type 0) (M : List TxnId) where
  some_at : (l : List TxnId) (n : ℕ) → NoneTwice is_txn l → n < length l → (x : TxnId) × (at l x ≡ n)
  some_at [] n h k = absurd (omega arith)
  some_at (x ∷ l) zero h k = (x, place_of-here (is_txn x) x l (is_txn-same x))
  some_at (x ∷ l) (suc n) h k =
      let q = some_at l n h.1 (omega arith) in
      let i = q.1 in
      (q.0, other_place x q.0 l h.0 (omega arith) ∙ ap suc i)

  abbrev Agree : List TxnId → List TxnId → ℕ → Type 0
  Agree xs ys n = (z : TxnId) → IsListed is_txn xs z → IsListed is_txn ys z → (at xs z < n → at ys z ≡ at xs z) × (at ys z < n → at xs z ≡ at ys z)

  module _ (xs ys : List TxnId) (p : IsComponentOrder E I M xs) (q : IsComponentOrder E I M ys) (n : ℕ) (ih : Agree xs ys n) where
    same_at : (x y : TxnId) → IsListed is_txn xs x → IsListed is_txn ys y → at xs x ≡ n → at ys y ≡ n → x ≡ y
    same_at x y h k e f =
        one_next (among M E) (among M I) M (λ u. IsListedBefore is_txn xs u x) x y (p.from x h) (q.from y k) (λ l. absurd (omega arith)) (late (p.all y (q.from y k)))
        (p.next x h)
        (next_by (among M E) (among M I) (λ u. IsListedBefore is_txn ys u y) (λ u. IsListedBefore is_txn xs u x) on off M y (q.next y k))
      where
        late : IsListed is_txn xs y → IsListedBefore is_txn xs y x → ⊥
        late m l = let a = (ih y m k).0 (omega arith) in omega arith

        on : (u : TxnId) → IsListedBefore is_txn ys u y → IsListedBefore is_txn xs u x
        on u l =
            let v = place_of-le (is_txn y) ys in
            let hu : IsListed is_txn ys u = omega arith in
            let a = (ih u (p.all u (q.from u hu)) hu).1 (omega arith) in
            omega arith

        off : (u : TxnId) → IsListedBefore is_txn xs u x → IsListedBefore is_txn ys u y
        off u l =
            let v = place_of-le (is_txn x) xs in
            let hu : IsListed is_txn xs u = omega arith in
            let a = (ih u hu (q.all u (p.from u hu))).0 (omega arith) in
            omega arith

    agree_more : (z : TxnId) → at xs z < suc n → IsListed is_txn xs z → at ys z ≡ at xs z
    agree_more z l h =
        elim (cases_lt (at xs z) n) [
          | inl k ↦ (ih z h (q.all z (p.from z h))).0 k
          | inr k ↦
              (let hy = q.all z (p.from z h) in
              elim (cases_lt (at ys z) n) [
                | inl a ↦ (let b = (ih z h hy).1 a in absurd (omega arith))
                | inr a ↦
                    (let y = some_at ys n q.once (omega arith) in
                    let b = y.1 in
                    let e = same_at z y.0 h (omega arith) (omega arith) b in
                    let f = ap (at ys) e in
                    omega arith)
              ])
        ]

  module _ (xs ys : List TxnId) (p : IsComponentOrder E I M xs) (q : IsComponentOrder E I M ys) where
    agree_upto : (n : ℕ) → Agree xs ys n
    agree_upto zero z h k = ((λ l. absurd (omega arith)), (λ l. absurd (omega arith)))
    agree_upto (suc n) z h k =
        let ih = agree_upto n in
        ((λ l. agree_more xs ys p q n ih z l h), (λ l. agree_more ys xs q p n (λ z h k. let a = ih z k h in (a.1, a.0)) z l k))

    pub one_order : xs ≡ ys
    one_order =
        same_places xs ys p.once q.once (λ z h. q.all z (p.from z h)) (λ z h. p.all z (q.from z h))
        (λ z h. (agree_upto (suc (at xs z)) z h (q.all z (p.from z h))).0 (omega arith))
