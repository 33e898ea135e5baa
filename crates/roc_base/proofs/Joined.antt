-- What lists say together: of two lists, in any order, once or twice
use Rattle.std.proofs.Common.{◌≡◌, ℕ, ◌+◌, ◌<◌, length, get_or, take, append_assoc, append-nil, Bool, true, false, cond, ◌||◌, List, [], ◌∷◌, ◌++◌, Option, Some, None, refl, sym, ap, ◌∙◌, arith}
use Rattle.std.proofs.lemmas.List.{take_more}
use Rattle.roc_base.specs.declared.id.TxnId.{TxnId}
use Rattle.roc_base.specs.TxnId.{is_txn}
use Rattle.roc_base.specs.Equalities.{is_txn-true, same_fields}
use Rattle.roc_base.specs.Edge.{Dependency, joined}
use Rattle.roc_base.specs.Edges.{comes_before, all_of, joined_with, unite_one, united}
use Rattle.roc_base.proofs.Rising.{Some≢None, same_Some}
use Rattle.roc_base.proofs.Union.{united-same, united-rising, all_of-united}
use Rattle.roc_sequence.specs.Rising.{IsRising}

or-assoc : (a b c : Bool) → (a || (b || c)) ≡ ((a || b) || c)
or-assoc true b c = refl
or-assoc false b c = refl

or-comm : (a b : Bool) → (a || b) ≡ (b || a)
or-comm true true = refl
or-comm true false = refl
or-comm false true = refl
or-comm false false = refl

or-itself : (a : Bool) → (a || a) ≡ a
or-itself true = refl
or-itself false = refl

pub joined-assoc : (a b c : Dependency) → joined a (joined b c) ≡ joined (joined a b) c
joined-assoc a b c = same_fields _ _ refl (or-assoc a.imm b.imm c.imm) (or-assoc a.def b.def c.def) (omega arith)

pub joined-swap : (a b : Dependency) → a.from ≡ b.from → joined a b ≡ joined b a
joined-swap a b e = same_fields _ _ e (or-comm a.imm b.imm) (or-comm a.def b.def) (omega arith)

pub joined-itself : (a : Dependency) → joined a a ≡ a
joined-itself a = same_fields _ _ refl (or-itself a.imm) (or-itself a.def) (omega arith)

-- what two lists say of an id, from what each says
abbrev pub both : Option Dependency → Option Dependency → Option Dependency
both None o = o
both (Some a) o = Some (joined_with a o)

joined_with-both : (e : Dependency) (a b : Option Dependency) → joined_with e (both a b) ≡ joined_with (joined_with e a) b
joined_with-both e None b = refl
joined_with-both e (Some a) None = refl
joined_with-both e (Some a) (Some b) = joined-assoc e a b

pub all_of-append : (id : TxnId) (xs ys : List Dependency) → all_of id (xs ++ ys) ≡ both (all_of id xs) (all_of id ys)
all_of-append id [] ys = refl
all_of-append id (x ∷ xs) ys = go (is_txn x.from id) (all_of-append id xs ys)
  where
    go : (s : Bool) → all_of id (xs ++ ys) ≡ both (all_of id xs) (all_of id ys) → cond s (Some (joined_with x (all_of id (xs ++ ys)))) (all_of id (xs ++ ys)) ≡ both (cond s (Some (joined_with x (all_of id xs))) (all_of id xs)) (all_of id ys)
    go true ih = ap (λ o. Some (joined_with x o)) ih ∙ ap (λ d. Some d) (joined_with-both x (all_of id xs) (all_of id ys))
    go false ih = ih

from-joined_with : (e : Dependency) (o : Option Dependency) → (joined_with e o).from ≡ e.from
from-joined_with e None = refl
from-joined_with e (Some a) = refl

-- what is said of an id is an entry of it
pub all_of-from : (id : TxnId) (es : List Dependency) (d : Dependency) → all_of id es ≡ Some d → d.from ≡ id
all_of-from id [] d h = absurd (Some≢None d (sym h))
all_of-from id (e ∷ es) d h = go (is_txn e.from id) refl h (all_of-from id es d)
  where
    go : (s : Bool) → is_txn e.from id ≡ s → cond s (Some (joined_with e (all_of id es))) (all_of id es) ≡ Some d → (all_of id es ≡ Some d → d.from ≡ id) → d.from ≡ id
    go true k m ih = ap (λ x. x.from) (sym (same_Some (joined_with e (all_of id es)) d m)) ∙ (from-joined_with e (all_of id es) ∙ is_txn-true e.from id k)
    go false k m ih = ih m

both-swap : (id : TxnId) (a b : Option Dependency) → ((d : Dependency) → a ≡ Some d → d.from ≡ id) → ((d : Dependency) → b ≡ Some d → d.from ≡ id) → both a b ≡ both b a
both-swap id None None h k = refl
both-swap id None (Some b) h k = refl
both-swap id (Some a) None h k = refl
both-swap id (Some a) (Some b) h k = ap (λ d. Some d) (joined-swap a b (h a refl ∙ sym (k b refl)))

-- the order of two lists does not matter
pub all_of-swap : (id : TxnId) (xs ys : List Dependency) → all_of id (xs ++ ys) ≡ all_of id (ys ++ xs)
all_of-swap id xs ys =
    all_of-append id xs ys
    ∙ (both-swap id (all_of id xs) (all_of id ys) (all_of-from id xs) (all_of-from id ys)
    ∙ sym (all_of-append id ys xs))

both-itself : (a : Option Dependency) → both a a ≡ a
both-itself None = refl
both-itself (Some a) = ap (λ d. Some d) (joined-itself a)

-- to say it twice says no more
pub all_of-twice : (id : TxnId) (es : List Dependency) → all_of id (es ++ es) ≡ all_of id es
all_of-twice id es = all_of-append id es es ∙ both-itself (all_of id es)

-- the same of unions
pub united-swap : (xs ys : List Dependency) → united (xs ++ ys) ≡ united (ys ++ xs)
united-swap xs ys = united-same (xs ++ ys) (ys ++ xs) (λ id. all_of-swap id xs ys)

pub united-twice : (es : List Dependency) → united (es ++ es) ≡ united es
united-twice es = united-same (es ++ es) es (λ id. all_of-twice id es)

pub united-left : (xs ys : List Dependency) → united (united xs ++ ys) ≡ united (xs ++ ys)
united-left xs ys = united-same (united xs ++ ys) (xs ++ ys) (λ id. all_of-append id (united xs) ys ∙ (ap (λ o. both o (all_of id ys)) (all_of-united id xs) ∙ sym (all_of-append id xs ys)))

pub united-right : (xs ys : List Dependency) → united (xs ++ united ys) ≡ united (xs ++ ys)
united-right xs ys = united-same (xs ++ united ys) (xs ++ ys) (λ id. all_of-append id xs (united ys) ∙ (ap (λ o. both (all_of id xs) o) (all_of-united id ys) ∙ sym (all_of-append id xs ys)))

-- one more entry at the end
pub united-push : (es : List Dependency) (e : Dependency) → united (es ++ e ∷ []) ≡ unite_one e (united es)
united-push es e = united-swap es (e ∷ [])

-- the union with what was added so far, at the start and one entry on
pub united-first : (es : List Dependency) → IsRising comes_before es → es ≡ united (es ++ [])
united-first es r = sym (united-rising es r) ∙ ap united (sym (append-nil es))

pub united-more : (base added : List Dependency) (i : ℕ) (e : Dependency) → i < length added → e ≡ get_or added i e → united (base ++ take (i + 1) added) ≡ unite_one e (united (base ++ take i added))
united-more base added i e h k =
    ap (λ es. united (base ++ es)) (take_more added i e h ∙ ap (λ x. take i added ++ x ∷ []) (sym k))
    ∙ (ap united (sym (append_assoc base (take i added) (e ∷ []))) ∙ united-push (base ++ take i added) e)
