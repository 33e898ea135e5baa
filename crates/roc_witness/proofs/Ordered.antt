-- The orders of vertices, of lists of them, and of cycles
use Rattle.std.proofs.Common.{◌≡◌, ℕ, ◌<◌, ◌≤◌, Bool, true, false, ◌&&◌, ◌||◌, ◌==◌, nat_lt, List, [], ◌∷◌, ◌++◌, length, refl, sym, ap, subst, ◌∙◌, ◌⊎◌, inl, inr, arith}
use Rattle.std.proofs.lemmas.Bool.{false≢true, or_cases, or_left, or_from, and_parts}
use Rattle.std.proofs.lemmas.Bool.Decides.{nat_tests}
use Rattle.roc_scgraph.specs.declared.vertex.Vertex.{Vertex}
use Rattle.roc_scgraph.specs.declared.vertex.Instance.{Instance}
use Rattle.roc_scgraph.specs.declared.vertex.Instance.TheVariants.{First, Second}
use Rattle.roc_scgraph.specs.Graph.{is_vertex}
use Rattle.roc_scgraph.proofs.Vertices.{same_vertex, is_vertex-true, is_vertex-same}
use Rattle.roc_scgraph.specs.Order.{is_earlier_instance, is_before}
use Rattle.roc_witness.specs.Order.{stands_before}
use Rattle.roc_witness.specs.Inner.Candidates.{is_better}

-- ---- vertices

abbrev place : Instance → ℕ
place First = 0
place Second = 1

-- before, by numbers
abbrev three : (a b c d e f : ℕ) → Bool
three a b c d e f = nat_lt a d || ((a == d) && (nat_lt b e || ((b == e) && nat_lt c f)))

three_swap : (a b c d e f : ℕ) → three a b c d e f ≡ true → three d e f a b c ≡ false
three_swap a b c d e f h = grind (arith, nat_tests)

three_trans : (a b c d e f g h i : ℕ) → three a b c d e f ≡ true → three d e f g h i ≡ true → three a b c g h i ≡ true
three_trans a b c d e f g h i k l = grind (arith, nat_tests)

three_proc : (a b c d e f : ℕ) → three a b c d e f ≡ false → three d e f a b c ≡ false → a ≡ d
three_proc a b c d e f h k = grind (arith, nat_tests)

three_piece : (a b c d e f : ℕ) → three a b c d e f ≡ false → three d e f a b c ≡ false → b ≡ e
three_piece a b c d e f h k = grind (arith, nat_tests)

three_place : (a b c d e f : ℕ) → three a b c d e f ≡ false → three d e f a b c ≡ false → c ≡ f
three_place a b c d e f h k = grind (arith, nat_tests)

earlier : (i j : Instance) → is_earlier_instance i j ≡ nat_lt (place i) (place j)
earlier First First = refl
earlier First Second = refl
earlier Second First = refl
earlier Second Second = refl

one_place : (i j : Instance) → place i ≡ place j → i ≡ j
one_place First First e = refl
one_place First Second e = absurd (omega arith)
one_place Second First e = absurd (omega arith)
one_place Second Second e = refl

by_numbers : (a b : Vertex) → is_before a b ≡ three a.proc a.piece (place a.instance) b.proc b.piece (place b.instance)
by_numbers a b = ap (λ (t : Bool). nat_lt a.proc b.proc || ((a.proc == b.proc) && (nat_lt a.piece b.piece || ((a.piece == b.piece) && t)))) (earlier a.instance b.instance)

before_swap : (a b : Vertex) → is_before a b ≡ true → is_before b a ≡ false
before_swap a b h = by_numbers b a ∙ three_swap a.proc a.piece (place a.instance) b.proc b.piece (place b.instance) (sym (by_numbers a b) ∙ h)

before_trans : (a b c : Vertex) → is_before a b ≡ true → is_before b c ≡ true → is_before a c ≡ true
before_trans a b c h k =
    by_numbers a c
    ∙ three_trans a.proc a.piece (place a.instance) b.proc b.piece (place b.instance) c.proc c.piece (place c.instance) (sym (by_numbers a b) ∙ h) (sym (by_numbers b c) ∙ k)

before_self : (a : Vertex) → is_before a a ≡ false
before_self a = go (is_before a a) refl
  where
    go : (t : Bool) → is_before a a ≡ t → t ≡ false
    go true e = sym e ∙ before_swap a a e
    go false e = refl

neither : (a b : Vertex) → is_before a b ≡ false → is_before b a ≡ false → a ≡ b
neither a b h k =
    let i : three a.proc a.piece (place a.instance) b.proc b.piece (place b.instance) ≡ false = sym (by_numbers a b) ∙ h in
    let j : three b.proc b.piece (place b.instance) a.proc a.piece (place a.instance) ≡ false = sym (by_numbers b a) ∙ k in
    same_vertex a b (three_proc a.proc a.piece (place a.instance) b.proc b.piece (place b.instance) i j) (three_piece a.proc a.piece (place a.instance) b.proc b.piece (place b.instance) i j)
    (one_place a.instance b.instance (three_place a.proc a.piece (place a.instance) b.proc b.piece (place b.instance) i j))

-- one of two comes before the other, or they are one
data Compared (a b : Vertex) : Type 0 where
  below : is_before a b ≡ true → Compared a b
  same : a ≡ b → Compared a b
  above : is_before b a ≡ true → Compared a b

compared : (a b : Vertex) → Compared a b
compared a b = go (is_before a b) (is_before b a) refl refl
  where
    go : (s t : Bool) → is_before a b ≡ s → is_before b a ≡ t → Compared a b
    go true t e f = below e
    go false true e f = above f
    go false false e f = same (neither a b e f)

-- ---- lists

-- behind the same vertex
comes_behind : (a : Vertex) (xs ys : List Vertex) → stands_before (a ∷ xs) (a ∷ ys) ≡ stands_before xs ys
comes_behind a xs ys =
    ap (λ (t : Bool). t || (is_vertex a a && stands_before xs ys)) (before_self a) ∙ ap (λ (t : Bool). t && stands_before xs ys) (is_vertex-same a)

comes_at : (a b : Vertex) (xs ys : List Vertex) → is_before a b ≡ true → stands_before (a ∷ xs) (b ∷ ys) ≡ true
comes_at a b xs ys h = or_left (is_before a b) _ h

-- a list that begins with a later vertex does not come before
pub comes_not : (a b : Vertex) (xs ys : List Vertex) → is_before b a ≡ true → stands_before (a ∷ xs) (b ∷ ys) ≡ false
comes_not a b xs ys h = or_from (is_before a b) (is_vertex a b && stands_before xs ys) (before_swap b a h) (go (is_vertex a b) refl)
  where
    go : (t : Bool) → is_vertex a b ≡ t → (t && stands_before xs ys) ≡ false
    go true e = absurd (false≢true (sym (before_self b) ∙ ap (is_before b) (sym (is_vertex-true a b e)) ∙ h))
    go false e = refl

pub comes_same : (a b : Vertex) (xs ys : List Vertex) → a ≡ b → stands_before (a ∷ xs) (b ∷ ys) ≡ stands_before xs ys
comes_same a b xs ys e = subst (λ c. stands_before (a ∷ xs) (c ∷ ys) ≡ stands_before xs ys) e (comes_behind a xs ys)

comes_swap : (xs ys : List Vertex) → stands_before xs ys ≡ true → stands_before ys xs ≡ false
comes_swap [] [] h = refl
comes_swap [] (y ∷ ys) h = refl
comes_swap (x ∷ xs) [] h = absurd (false≢true h)
comes_swap (x ∷ xs) (y ∷ ys) h = go (compared x y) (comes_swap xs ys)
  where
    go : Compared x y → (stands_before xs ys ≡ true → stands_before ys xs ≡ false) → stands_before (y ∷ ys) (x ∷ xs) ≡ false
    go (below b) further = comes_not y x ys xs b
    go (same e) further = comes_same y x ys xs (sym e) ∙ further (sym (comes_same x y xs ys e) ∙ h)
    go (above b) further = absurd (false≢true (sym (comes_not x y xs ys b) ∙ h))

-- two lists as long as each other, of which neither comes before the other, are one
pub one_of_two : (xs ys : List Vertex) → length xs ≡ length ys → stands_before xs ys ≡ false → stands_before ys xs ≡ false → xs ≡ ys
one_of_two [] [] e h k = refl
one_of_two [] (y ∷ ys) e h k = absurd (false≢true (sym h))
one_of_two (x ∷ xs) [] e h k = absurd (false≢true (sym k))
one_of_two (x ∷ xs) (y ∷ ys) e h k = go (compared x y) (one_of_two xs ys (omega arith))
  where
    go : Compared x y → (stands_before xs ys ≡ false → stands_before ys xs ≡ false → xs ≡ ys) → (x ∷ xs) ≡ (y ∷ ys)
    go (below b) further = absurd (false≢true (sym h ∙ comes_at x y xs ys b))
    go (same f) further =
        let r : xs ≡ ys = further (sym (comes_same x y xs ys f) ∙ h) (sym (comes_same y x ys xs (sym f)) ∙ k) in
        cc
    go (above b) further = absurd (false≢true (sym k ∙ comes_at y x ys xs b))

-- what comes before one of two lists comes before the other, or the other comes before that one
comes_between : (xs ys zs : List Vertex) → stands_before xs zs ≡ true → (stands_before xs ys ≡ true) ⊎ (stands_before ys zs ≡ true)
comes_between [] [] [] h = absurd (false≢true h)
comes_between [] (y ∷ ys) [] h = absurd (false≢true h)
comes_between [] [] (z ∷ zs) h = inr refl
comes_between [] (y ∷ ys) (z ∷ zs) h = inl refl
comes_between (x ∷ xs) [] [] h = absurd (false≢true h)
comes_between (x ∷ xs) (y ∷ ys) [] h = absurd (false≢true h)
comes_between (x ∷ xs) [] (z ∷ zs) h = inr refl
comes_between (x ∷ xs) (y ∷ ys) (z ∷ zs) h = go (compared x z) (compared x y) (comes_between xs ys zs)
  where
    go : Compared x z → Compared x y → (stands_before xs zs ≡ true → (stands_before xs ys ≡ true) ⊎ (stands_before ys zs ≡ true))
        → (stands_before (x ∷ xs) (y ∷ ys) ≡ true) ⊎ (stands_before (y ∷ ys) (z ∷ zs) ≡ true)
    go (above b) d further = absurd (false≢true (sym (comes_not x z xs zs b) ∙ h))
    go (below b) (below d) further = inl (comes_at x y xs ys d)
    go (below b) (same e) further = inr (comes_at y z ys zs (subst (λ v. is_before v z ≡ true) e b))
    go (below b) (above d) further = inr (comes_at y z ys zs (before_trans y x z d b))
    go (same e) (below d) further = inl (comes_at x y xs ys d)
    go (same e) (above d) further = inr (comes_at y z ys zs (subst (λ v. is_before y v ≡ true) e d))
    go (same e) (same f) further =
        elim (further (sym (comes_same x z xs zs e) ∙ h)) [
          | inl k ↦ inl (comes_same x y xs ys f ∙ k)
          | inr k ↦ inr (comes_same y z ys zs (sym f ∙ e) ∙ k)
        ]

-- two lists behind one, and before one where they are equally long
pub comes_front : (front xs ys : List Vertex) → stands_before (front ++ xs) (front ++ ys) ≡ stands_before xs ys
comes_front [] xs ys = refl
comes_front (a ∷ front) xs ys = comes_behind a (front ++ xs) (front ++ ys) ∙ comes_front front xs ys

comes_self : (xs : List Vertex) → stands_before xs xs ≡ false
comes_self [] = refl
comes_self (x ∷ xs) = comes_behind x xs xs ∙ comes_self xs

pub comes_back : (xs ys back : List Vertex) → length xs ≡ length ys → stands_before (xs ++ back) (ys ++ back) ≡ stands_before xs ys
comes_back [] [] back e = comes_self back
comes_back [] (y ∷ ys) back e = absurd (omega arith)
comes_back (x ∷ xs) [] back e = absurd (omega arith)
comes_back (x ∷ xs) (y ∷ ys) back e = ap (λ (t : Bool). is_before x y || (is_vertex x y && t)) (comes_back xs ys back (omega arith))

-- ---- cycles

-- one that is not better is at least as long
pub not_better_long : (xs ys : List Vertex) → is_better xs ys ≡ false → length ys ≤ length xs
not_better_long xs ys h = grind (arith, nat_tests)

pub not_better_comes : (xs ys : List Vertex) → is_better xs ys ≡ false → length xs ≡ length ys → stands_before xs ys ≡ false
not_better_comes xs ys h e = grind (arith, nat_tests)

by_three : (m n : ℕ) (t : Bool) → n ≤ m → (m ≡ n → t ≡ false) → (nat_lt m n || ((m == n) && t)) ≡ false
by_three m n t h k = grind (arith, nat_tests)

pub from_neither : (xs ys : List Vertex) → length ys ≤ length xs → (length xs ≡ length ys → stands_before xs ys ≡ false) → is_better xs ys ≡ false
from_neither xs ys h k = by_three (length xs) (length ys) (stands_before xs ys) h k

better_parts : (xs ys : List Vertex) → is_better xs ys ≡ true → (length xs < length ys) ⊎ ((length xs ≡ length ys) × (stands_before xs ys ≡ true))
better_parts xs ys h = elim (or_cases (nat_lt (length xs) (length ys)) _ h) [
  | inl k ↦ inl (grind (arith, nat_tests))
  | inr k ↦ (let p = and_parts (length xs == length ys) (stands_before xs ys) k in inr (grind (arith, nat_tests), p.1))
]

-- where neither is better than a third one, the third is not made worse by the better of two
pub better_swap : (xs ys : List Vertex) → is_better xs ys ≡ true → is_better ys xs ≡ false
better_swap xs ys h = elim (better_parts xs ys h) [
  | inl l ↦ from_neither ys xs (omega arith) (λ e. absurd (omega arith))
  | inr p ↦ from_neither ys xs (omega arith) (λ e. comes_swap xs ys p.1)
]

pub better_between : (xs ys zs : List Vertex) → is_better xs zs ≡ true → is_better ys zs ≡ false → is_better xs ys ≡ true
better_between xs ys zs h k = go (is_better xs ys) refl
  where
    go : (t : Bool) → is_better xs ys ≡ t → t ≡ true
    go true e = refl
    go false e =
        elim (better_parts xs zs h) [
          | inl l ↦ absurd (let i = not_better_long xs ys e in let j = not_better_long ys zs k in omega arith)
          | inr p ↦ absurd
              (let i = not_better_long xs ys e in
              let j = not_better_long ys zs k in
              elim (comes_between xs ys zs p.1) [
                | inl m ↦ false≢true (sym (not_better_comes xs ys e (omega arith)) ∙ m)
                | inr m ↦ false≢true (sym (not_better_comes ys zs k (omega arith)) ∙ m)
              ])
        ]
