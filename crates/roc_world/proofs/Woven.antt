-- The order with the answered views put in, as it is found
use Rattle.std.proofs.Common.{◌≡◌, ◌∙◌, ◌⊎◌, inl, inr, ℕ, zero, suc, ◌+◌, ◌-◌, ◌<◌, ◌≤◌, Bool, true, false, not, cond, ◌||◌, ◌&&◌, List, [], ◌∷◌, ◌++◌, length, map, take, drop, reverse, get_or}
use Rattle.std.proofs.Common.{refl, sym, ap, arith, append_assoc}
use Rattle.std.proofs.lemmas.Bool.{cond-true, cond-false}
use Rattle.std.proofs.lemmas.Bool.Decides.{nat_tests}
use Rattle.std.proofs.lemmas.List.{map-append, reverse-append, drop-drop, length-drop}
use Rattle.std.specs.Prelude.{nat_lt}
use Rattle.std.specs.List.{list_any}
use Rattle.std.specs.Ordering.{is_eq}
use Rattle.roc_sequence.proofs.Fronts.{front_more, rest_at, no_rest}
use Rattle.roc_base.specs.declared.id.TxnId.{TxnId}
use Rattle.roc_base.specs.TxnId.{is_txn, txn_cmp}
use Rattle.roc_depgraph.proofs.Listed.{is_eq-txn_cmp}
use Rattle.roc_audit.specs.declared.entry.Entry.{Entry}
use Rattle.roc_audit.specs.declared.entry.Entry.TheVariants.{Submitted, Answered}
use Rattle.roc_audit.specs.Woven as audit
use Rattle.roc_audit.specs.Woven.{woven}
use Rattle.roc_law_world.specs.Witness.{was_answered, last_looks}
use Rattle.roc_world.specs.declared.looks.Look.{Look}
use Rattle.roc_world.specs.Inner.Looks.{looked}

-- ---- the ids that are answered

one_more : (a b : Bool) → (a || (b || false)) ≡ cond b true a
one_more true true = refl
one_more true false = refl
one_more false true = refl
one_more false false = refl

answered_behind : (es : List Entry) (e : Entry) (u : TxnId) → was_answered (es ++ e ∷ []) u ≡ (was_answered es u || was_answered (e ∷ []) u)
answered_behind [] e u = refl
answered_behind (Submitted t proc args ∷ es) e u = answered_behind es e u
answered_behind (Answered t reply ∷ es) e u = ap (λ b. is_txn t u || b) (answered_behind es e u) ∙ assoc (is_txn t u) (was_answered es u) (was_answered (e ∷ []) u)
  where
    assoc : (a b c : Bool) → (a || (b || c)) ≡ ((a || b) || c)
    assoc true b c = refl
    assoc false b c = refl

-- one more entry is an answer
pub answer_more : (es : List Entry) (i : ℕ) (e : Entry) → i < length es → e ≡ get_or es i e → (id : TxnId) (reply : _) → e ≡ Answered id reply → (u : TxnId)
    → cond (is_eq (txn_cmp id u)) true (was_answered (take i es) u) ≡ was_answered (take (i + 1) es) u
answer_more es i e within is id reply answers u =
    ap (λ b. cond b true (was_answered (take i es) u)) (is_eq-txn_cmp id u)
    ∙ (sym (one_more (was_answered (take i es) u) (is_txn id u))
    ∙ (ap (λ (e : Entry). was_answered (take i es) u || was_answered (e ∷ []) u) (sym answers)
    ∙ (sym (answered_behind (take i es) e u)
    ∙ ap (λ l. was_answered l u) (front_more es i e within is))))

-- or it is none
pub other_more : (es : List Entry) (i : ℕ) (e : Entry) → i < length es → e ≡ get_or es i e → ((id : TxnId) (reply : _) → e ≡ Answered id reply → ⊥) → (u : TxnId)
    → was_answered (take i es) u ≡ was_answered (take (i + 1) es) u
other_more es i e within is other u =
    none (was_answered (take i es) u)
    ∙ (ap (λ b. was_answered (take i es) u || b) (sym (answers_none e other))
    ∙ (sym (answered_behind (take i es) e u)
    ∙ ap (λ l. was_answered l u) (front_more es i e within is)))
  where
    none : (b : Bool) → b ≡ (b || false)
    none true = refl
    none false = refl

    answers_none : (e : Entry) → ((id : TxnId) (reply : _) → e ≡ Answered id reply → ⊥) → was_answered (e ∷ []) u ≡ false
    answers_none (Submitted id proc args) f = refl
    answers_none (Answered id reply) f = absurd (f id reply refl)

-- ---- the last looks

abbrev pub again_in : List Look → TxnId → Bool
again_in looks u = list_any (λ k. is_txn k.id u) (map looked looks)

-- what stands where no look is
abbrev pub no_look : Look
no_look = record { id = record { coord = 0; seq = 0 }; behind = 0 }

map_reversed : {A B : Type 0} (f : A → B) (xs : List A) → map f (reverse xs) ≡ reverse (map f xs)
map_reversed f [] = refl
map_reversed f (x ∷ xs) =
    ap (map f) (reverse-append (x ∷ []) xs) ∙ (map-append f (reverse xs) (x ∷ []) ∙ (ap (λ l. l ++ f x ∷ []) (map_reversed f xs) ∙ sym (reverse-append (f x ∷ []) (map f xs))))

-- what was found from the last one on is turned round
pub turned_round : (among : TxnId → Bool) (looks last new : List Look) (at : ℕ) → at ≤ 0 → new ≡ reverse last → reverse (map looked last) ≡ last_looks among (map looked (drop at looks))
    → map looked new ≡ last_looks among (map looked looks)
turned_round among looks last new at none is found =
    ap (map looked) is ∙ (map_reversed looked last ∙ (found ∙ ap (λ n. last_looks among (map looked (drop n looks))) (start at none)))
  where
    start : (n : ℕ) → n ≤ 0 → n ≡ 0
    start n l = omega (arith, l)

-- the looks from one of them on
module _ (looks : List Look) (at : ℕ) (within : at < length looks) where
  abbrev look : Look
  look = get_or looks at no_look

  from_here : drop at looks ≡ look ∷ drop (at + 1) looks
  from_here = rest_at looks at no_look within

  pub again_more : (u : TxnId) → cond (is_eq (txn_cmp look.id u)) true (again_in (drop (at + 1) looks) u) ≡ again_in (drop at looks) u
  again_more u = ap (λ b. cond b true (again_in (drop (at + 1) looks) u)) (is_eq-txn_cmp look.id u) ∙ (either (is_txn look.id u) (again_in (drop (at + 1) looks) u) ∙ ap (λ l. again_in l u) (sym from_here))
    where
      either : (a b : Bool) → cond a true b ≡ (a || b)
      either true b = refl
      either false b = refl

  module _ (among : TxnId → Bool) (last : List Look) (found : reverse (map looked last) ≡ last_looks among (map looked (drop (at + 1) looks))) where
    abbrev passes : Bool
    passes = among look.id && not (again_in (drop (at + 1) looks) look.id)

    abbrev rest : List audit.Look
    rest = last_looks among (map looked (drop (at + 1) looks))

    here : last_looks among (map looked (drop at looks)) ≡ cond passes (looked look ∷ rest) rest
    here = ap (λ l. last_looks among (map looked l)) from_here

    -- it is the last of its view, which is among those
    pub look_more : (new : List Look) → new ≡ last ++ look ∷ [] → among look.id ≡ true → again_in (drop (at + 1) looks) look.id ≡ false
        → reverse (map looked new) ≡ last_looks among (map looked (drop at looks))
    look_more new is a b =
        ap (λ l. reverse (map looked l)) is
        ∙ (ap reverse (map-append looked last (look ∷ []))
        ∙ (reverse-append (map looked last) (looked look ∷ [])
        ∙ (ap (λ l. looked look ∷ l) found
        ∙ (sym (cond-true passes (looked look ∷ rest) rest (ap (λ x. x && not (again_in (drop (at + 1) looks) look.id)) a ∙ ap not b))
        ∙ sym here))))

    -- it is not among those
    pub look_apart : (new : List Look) → new ≡ last → among look.id ≡ false → reverse (map looked new) ≡ last_looks among (map looked (drop at looks))
    look_apart new is a =
        ap (λ l. reverse (map looked l)) is
        ∙ (found ∙ (sym (cond-false passes (looked look ∷ rest) rest (ap (λ x. x && not (again_in (drop (at + 1) looks) look.id)) a)) ∙ sym here))

    -- or it looks again
    pub look_again : (new : List Look) → new ≡ last → again_in (drop (at + 1) looks) look.id ≡ true → reverse (map looked new) ≡ last_looks among (map looked (drop at looks))
    look_again new is b =
        ap (λ l. reverse (map looked l)) is
        ∙ (found ∙ (sym (cond-false passes (looked look ∷ rest) rest (ap (λ x. among look.id && not x) b ∙ no_more (among look.id))) ∙ sym here))
      where
        no_more : (a : Bool) → (a && false) ≡ false
        no_more true = refl
        no_more false = refl

-- ---- an order with looks put in

-- j transactions more stand before the first look
pub woven_after : (j n m : ℕ) → j + n ≡ m → (ts : List TxnId) (l : audit.Look) (ls : List audit.Look) → (0 < j → m ≤ l.behind) → (l.behind ≤ m) ⊎ (length ts ≤ j) → j ≤ length ts
    → woven n ts (l ∷ ls) ≡ take j ts ++ l.id ∷ woven m (drop j ts) ls
woven_after zero n m e [] l ls low high fits = ap (λ k. l.id ∷ woven k [] ls) (omega (arith, e))
woven_after zero n m e (t ∷ ts) l ls low high fits =
    cond-false (nat_lt n l.behind) (t ∷ woven (suc n) ts (l ∷ ls)) (l.id ∷ woven n (t ∷ ts) ls) (here high)
    ∙ ap (λ k. l.id ∷ woven k (t ∷ ts) ls) (omega (arith, e))
  where
    here : (l.behind ≤ m) ⊎ (length (t ∷ ts) ≤ 0) → nat_lt n l.behind ≡ false
    here (inl h) = let same : n ≡ m = omega (arith, e) in let past : l.behind ≤ n = omega (arith, h, same) in grind (arith, nat_tests)
    here (inr h) = absurd (omega (arith, h))
woven_after (suc j) n m e [] l ls low high fits = absurd (omega (arith, fits))
woven_after (suc j) n m e (t ∷ ts) l ls low high fits =
    cond-true (nat_lt n l.behind) (t ∷ woven (suc n) ts (l ∷ ls)) (l.id ∷ woven n (t ∷ ts) ls) first
    ∙ ap (λ rest. t ∷ rest) (woven_after j (suc n) m (omega (arith, e)) ts l ls (λ some. below) (go high) (omega (arith, fits)))
  where
    below : m ≤ l.behind
    below = low (omega arith)

    first : nat_lt n l.behind ≡ true
    first = let b = below in let more : n < l.behind = omega (arith, b, e) in grind (arith, nat_tests)

    go : (l.behind ≤ m) ⊎ (length (t ∷ ts) ≤ suc j) → (l.behind ≤ m) ⊎ (length ts ≤ j)
    go (inl h) = inl h
    go (inr h) = inr (omega (arith, h))

-- one look of a list more is put in, behind what is taken before it
module _ (order : List TxnId) (looks : List Look) (i : ℕ) (within : i < length looks) (taken until : ℕ)
    (from : taken ≤ until) (there : until ≤ length order) (no_further : taken < until → until ≤ (get_or looks i no_look).behind) (far : ((get_or looks i no_look).behind ≤ until) ⊎ (length order ≤ until)) where
  abbrev next : Look
  next = get_or looks i no_look

  left_behind : woven taken (drop taken order) (map looked (drop i looks)) ≡ take (until - taken) (drop taken order) ++ next.id ∷ woven until (drop until order) (map looked (drop (i + 1) looks))
  left_behind =
      ap (λ l. woven taken (drop taken order) (map looked l)) (rest_at looks i no_look within)
      ∙ (woven_after (until - taken) taken until (omega (arith, from)) (drop taken order) (looked next) (map looked (drop (i + 1) looks)) (λ some. no_further (omega (arith, some))) (go far) (let l = long in omega (arith, there, l))
      ∙ ap (λ l. take (until - taken) (drop taken order) ++ next.id ∷ woven until l (map looked (drop (i + 1) looks))) (drop-drop (until - taken) taken order ∙ ap (λ n. drop n order) (omega (arith, from))))
    where
      long : length (drop taken order) ≡ length order - taken
      long = length-drop taken order

      go : (next.behind ≤ until) ⊎ (length order ≤ until) → (next.behind ≤ until) ⊎ (length (drop taken order) ≤ until - taken)
      go (inl h) = inl h
      go (inr h) = inr (let l = long in omega (arith, h, l))

  pub woven_more : (ids more new : List TxnId) (all : List TxnId) → more ≡ ids ++ take (until - taken) (drop taken order) → new ≡ more ++ next.id ∷ []
      → ids ++ woven taken (drop taken order) (map looked (drop i looks)) ≡ all → new ++ woven until (drop until order) (map looked (drop (i + 1) looks)) ≡ all
  woven_more ids more new all takes puts so_far =
      let part = take (until - taken) (drop taken order) in
      let rest = woven until (drop until order) (map looked (drop (i + 1) looks)) in
      ap (λ l. l ++ rest) (puts ∙ ap (λ l. l ++ next.id ∷ []) takes)
      ∙ (append_assoc (ids ++ part) (next.id ∷ []) rest
      ∙ (append_assoc ids part (next.id ∷ rest)
      ∙ (ap (λ l. ids ++ l) (sym left_behind) ∙ so_far)))

-- behind the last look stands what is left of the order
pub woven_end : (order : List TxnId) (looks : List Look) (i : ℕ) (taken : ℕ) (ids new all : List TxnId) → length looks ≤ i → new ≡ ids ++ drop taken order
    → ids ++ woven taken (drop taken order) (map looked (drop i looks)) ≡ all → new ≡ all
woven_end order looks i taken ids new all past is so_far =
    is ∙ (ap (λ l. ids ++ l) (sym (ap (λ l. woven taken (drop taken order) (map looked l)) (no_rest looks i past))) ∙ so_far)
