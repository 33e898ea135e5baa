-- What is in groups of lacks
use Rattle.std.proofs.Common.{◌≡◌, ◌==◌, ℕ, zero, suc, ◌+◌, ◌<◌, Bool, true, false, cond, List, [], ◌∷◌, ◌++◌, length, map, filter, get_or, set, take, refl, sym, ap, subst, ◌∙◌, ◌⊎◌, inl, inr, arith, append-nil}
use Rattle.std.proofs.lemmas.List.{map-append, take_more}
use Rattle.std.proofs.lemmas.List.Concat.{flat_map-append}
use Rattle.std.proofs.lemmas.List.Elements.{filter-append}
use Rattle.std.specs.List.{flat_map}
use Rattle.roc_sequence.specs.Lists.{Has}
use Rattle.roc_sequence.specs.Places.{IsListed}
use Rattle.roc_sequence.proofs.Members.{has_append, has_left, has_right, has_map, from_has_map, has_flat_map, from_has_flat_map}
use Rattle.roc_base.specs.declared.id.TxnId.{TxnId}
use Rattle.roc_base.specs.TxnId.{is_txn}
use Rattle.roc_depgraph.proofs.Listed.{has_listed, listed_has}
use Rattle.roc_await.specs.declared.group.Group.{Group}
use Rattle.roc_await.specs.declared.lack.Lack.{Lack}
use Rattle.roc_await.specs.Inner.Grown.{lacks_none}
use Rattle.roc_await.specs.Inner.Groups.{lack_with, lacks_of, all_lacks, misses_nothing, decided_of, AreJoined}

-- ---- lists of what each element gives

pub listed_flat : {A : Type 0} (f : A → List TxnId) (v : TxnId) (a : A) (xs : List A) → Has a xs → IsListed is_txn (f a) v → IsListed is_txn (flat_map f xs) v
listed_flat f v a xs h l = has_listed (flat_map f xs) v (has_flat_map f v a xs h (listed_has (f a) v l))

pub from_listed_flat : {A : Type 0} (f : A → List TxnId) (v : TxnId) (xs : List A) → IsListed is_txn (flat_map f xs) v → (a : A) × Has a xs × IsListed is_txn (f a) v
from_listed_flat f v xs l = let r = from_has_flat_map f v xs (listed_has (flat_map f xs) v l) in (r.0, r.1, has_listed (f r.0) v r.2)

-- with what one more gives
pub flat_more : {A B : Type 0} (f : A → List B) (xs : List A) (i : ℕ) (x : A) (ys zs : List B) → i < length xs → x ≡ get_or xs i x → zs ≡ ys ++ f x → ys ≡ flat_map f (take i xs) → zs ≡ flat_map f (take (i + 1) xs)
flat_more f xs i x ys zs l is e h =
    e ∙ ap (λ us. us ++ f x) h ∙ ap (λ us. flat_map f (take i xs) ++ us) (sym (append-nil (f x))) ∙ sym (flat_map-append f (take i xs) (x ∷ []))
    ∙ ap (λ y. flat_map f (take i xs ++ y ∷ [])) is ∙ ap (flat_map f) (sym (take_more xs i x l))

-- ---- lacks in groups

-- what one of a group lacks
pub lack_has : (g : Group) (t : TxnId) (groups : List Group) → Has g groups → Has t g.of → Has (lack_with g.missing t) (all_lacks groups)
lack_has g t groups h k = has_flat_map lacks_of (lack_with g.missing t) g groups h (has_map (lack_with g.missing) t g.of k)

pub record IsInGroup (groups : List Group) (l : Lack) : Type 0 where
  pub group : Group
  pub there : Has group groups
  pub of : Has l.of group.of
  pub missing : l.missing ≡ group.missing

pub has_lack : (groups : List Group) (l : Lack) → Has l (all_lacks groups) → IsInGroup groups l
has_lack groups l h =
    let r = from_has_flat_map lacks_of l groups h in
    let m = from_has_map (lack_with r.0.missing) l r.0.of r.2 in
    record { group = r.0; there = r.1; of = subst (λ t. Has t r.0.of) (sym (ap (λ (x : Lack). x.of) m.2)) m.1; missing = ap (λ (x : Lack). x.missing) m.2 }

-- ---- one more group

pub joined_last : (groups after : List Group) (g : Group) → after ≡ groups ++ g ∷ [] → AreJoined (all_lacks groups) (lacks_of g) (all_lacks after)
joined_last groups after g e =
    let is : all_lacks after ≡ all_lacks groups ++ lacks_of g = ap all_lacks e ∙ flat_map-append lacks_of groups (g ∷ []) ∙ ap (λ ls. all_lacks groups ++ ls) (append-nil (lacks_of g)) in
    subst (AreJoined (all_lacks groups) (lacks_of g)) (sym is)
    (record { only = λ l h. has_append l (all_lacks groups) (lacks_of g) h; keeps = λ l h. has_left l (all_lacks groups) (lacks_of g) h; adds = λ l h. has_right l (all_lacks groups) (lacks_of g) h })

-- one group has more in it
longer : (g : Group) (ids : List TxnId) → lacks_of (record g { of = g.of ++ ids }) ≡ lacks_of g ++ map (lack_with g.missing) ids
longer g ids = map-append (lack_with g.missing) g.of ids

at_head : (g : Group) (gs : List Group) (ids : List TxnId) → AreJoined (all_lacks (g ∷ gs)) (map (lack_with g.missing) ids) (all_lacks (record g { of = g.of ++ ids } ∷ gs))
at_head g gs ids =
    subst (λ ls. AreJoined (all_lacks (g ∷ gs)) (map (lack_with g.missing) ids) (ls ++ all_lacks gs)) (sym (longer g ids))
    (record { only = only; keeps = keeps; adds = λ l h. has_left l (lacks_of g ++ map (lack_with g.missing) ids) (all_lacks gs) (has_right l (lacks_of g) (map (lack_with g.missing) ids) h) })
  where
    only : (l : Lack) → Has l ((lacks_of g ++ map (lack_with g.missing) ids) ++ all_lacks gs) → Has l (lacks_of g ++ all_lacks gs) ⊎ Has l (map (lack_with g.missing) ids)
    only l h = elim (has_append l (lacks_of g ++ map (lack_with g.missing) ids) (all_lacks gs) h) [
      | inl k ↦ elim (has_append l (lacks_of g) (map (lack_with g.missing) ids) k) [ inl m ↦ inl (has_left l (lacks_of g) (all_lacks gs) m) | inr m ↦ inr m ]
      | inr k ↦ inl (has_right l (lacks_of g) (all_lacks gs) k)
    ]

    keeps : (l : Lack) → Has l (lacks_of g ++ all_lacks gs) → Has l ((lacks_of g ++ map (lack_with g.missing) ids) ++ all_lacks gs)
    keeps l h = elim (has_append l (lacks_of g) (all_lacks gs) h) [
      | inl k ↦ has_left l (lacks_of g ++ map (lack_with g.missing) ids) (all_lacks gs) (has_left l (lacks_of g) (map (lack_with g.missing) ids) k)
      | inr k ↦ has_right l (lacks_of g ++ map (lack_with g.missing) ids) (all_lacks gs) k
    ]

-- behind another group
behind : (g : Group) (old more new : List Lack) → AreJoined old more new → AreJoined (lacks_of g ++ old) more (lacks_of g ++ new)
behind g old more new j = record {
  only = λ l h. elim (has_append l (lacks_of g) new h) [
    | inl k ↦ inl (has_left l (lacks_of g) old k)
    | inr k ↦ elim (j.only l k) [ inl m ↦ inl (has_right l (lacks_of g) old m) | inr m ↦ inr m ]
  ];
  keeps = λ l h. elim (has_append l (lacks_of g) old h) [ inl k ↦ has_left l (lacks_of g) new k | inr k ↦ has_right l (lacks_of g) new (j.keeps l k) ];
  adds = λ l h. has_right l (lacks_of g) new (j.adds l h);
}

pub joined_at : (groups : List Group) (at : ℕ) (g : Group) (ids : List TxnId) → at < length groups → g ≡ get_or groups at g → AreJoined (all_lacks groups) (map (lack_with g.missing) ids) (all_lacks (set groups at (record g { of = g.of ++ ids })))
joined_at [] at g ids l e = absurd (omega arith)
joined_at (x ∷ xs) zero g ids l e =
    let P : Group → Type 0 = λ y. AreJoined (all_lacks (y ∷ xs)) (map (lack_with g.missing) ids) (all_lacks (record g { of = g.of ++ ids } ∷ xs)) in
    subst P e (at_head g xs ids)
joined_at (x ∷ xs) (suc at) g ids l e = behind x (all_lacks xs) (map (lack_with g.missing) ids) (all_lacks (set xs at (record g { of = g.of ++ ids }))) (joined_at xs at g ids (omega arith) e)

-- the same of a group for which the same is missing
pub joined_same : (groups after : List Group) (at : ℕ) (old new g : Group) → at < length groups → old ≡ get_or groups at old → old.missing ≡ g.missing → new ≡ record old { of = old.of ++ g.of } → after ≡ set groups at new
    → AreJoined (all_lacks groups) (lacks_of g) (all_lacks after)
joined_same groups after at old new g within is same added e =
    let more : List TxnId → List Lack = λ missing. map (lack_with missing) g.of in
    subst (AreJoined (all_lacks groups) (lacks_of g)) (ap all_lacks (sym (e ∙ ap (set groups at) added)))
    (subst (λ ids. AreJoined (all_lacks groups) (more ids) (all_lacks (set groups at (record old { of = old.of ++ g.of })))) same (joined_at groups at old g.of within is))

-- ---- those for which nothing is missing, and the others

-- a test of what is missing says the same of all in a group
filter_of_one : (p : List TxnId → Bool) (missing : List TxnId) (b : Bool) → p missing ≡ b → (ids : List TxnId) → filter (λ (l : Lack). p l.missing) (map (lack_with missing) ids) ≡ cond b (map (lack_with missing) ids) []
filter_of_one p missing true e [] = refl
filter_of_one p missing false e [] = refl
filter_of_one p missing true e (t ∷ ts) =
    ap (λ b. cond b (lack_with missing t ∷ filter (λ (l : Lack). p l.missing) (map (lack_with missing) ts)) (filter (λ (l : Lack). p l.missing) (map (lack_with missing) ts))) e
    ∙ ap (λ ls. lack_with missing t ∷ ls) (filter_of_one p missing true e ts)
filter_of_one p missing false e (t ∷ ts) =
    ap (λ b. cond b (lack_with missing t ∷ filter (λ (l : Lack). p l.missing) (map (lack_with missing) ts)) (filter (λ (l : Lack). p l.missing) (map (lack_with missing) ts))) e
    ∙ filter_of_one p missing false e ts

pub lacks_of_filter : (p : List TxnId → Bool) (groups : List Group) → all_lacks (filter (λ (g : Group). p g.missing) groups) ≡ filter (λ (l : Lack). p l.missing) (all_lacks groups)
lacks_of_filter p [] = refl
lacks_of_filter p (g ∷ gs) = go (p g.missing) refl (lacks_of_filter p gs)
  where
    go : (b : Bool) → p g.missing ≡ b → all_lacks (filter (λ (x : Group). p x.missing) gs) ≡ filter (λ (l : Lack). p l.missing) (all_lacks gs)
        → all_lacks (cond b (g ∷ filter (λ (x : Group). p x.missing) gs) (filter (λ (x : Group). p x.missing) gs)) ≡ filter (λ (l : Lack). p l.missing) (lacks_of g ++ all_lacks gs)
    go true e ih = sym (filter-append (λ (l : Lack). p l.missing) (lacks_of g) (all_lacks gs) ∙ ap (λ ls. ls ++ filter (λ (l : Lack). p l.missing) (all_lacks gs)) (filter_of_one p g.missing true e g.of) ∙ ap (λ ls. lacks_of g ++ ls) (sym ih))
    go false e ih = sym (filter-append (λ (l : Lack). p l.missing) (lacks_of g) (all_lacks gs) ∙ ap (λ ls. ls ++ filter (λ (l : Lack). p l.missing) (all_lacks gs)) (filter_of_one p g.missing false e g.of) ∙ sym ih)

ids_of_one : (missing ids : List TxnId) → map (λ (l : Lack). l.of) (map (lack_with missing) ids) ≡ ids
ids_of_one missing [] = refl
ids_of_one missing (t ∷ ts) = ap (λ us. t ∷ us) (ids_of_one missing ts)

pub decided_are : (groups : List Group) → map (λ (l : Lack). l.of) (filter lacks_none (all_lacks groups)) ≡ flat_map decided_of groups
decided_are [] = refl
decided_are (g ∷ gs) =
    ap (map (λ (l : Lack). l.of)) (filter-append lacks_none (lacks_of g) (all_lacks gs)) ∙ map-append (λ (l : Lack). l.of) (filter lacks_none (lacks_of g)) (filter lacks_none (all_lacks gs))
    ∙ ap (λ us. us ++ map (λ (l : Lack). l.of) (filter lacks_none (all_lacks gs))) (go (misses_nothing g) refl) ∙ ap (λ us. decided_of g ++ us) (decided_are gs)
  where
    go : (b : Bool) → misses_nothing g ≡ b → map (λ (l : Lack). l.of) (filter lacks_none (lacks_of g)) ≡ decided_of g
    go true e = ap (map (λ (l : Lack). l.of)) (filter_of_one (λ ids. length ids == 0) g.missing true e g.of) ∙ ids_of_one g.missing g.of ∙ ap (λ c. cond c g.of []) (sym e)
    go false e = ap (map (λ (l : Lack). l.of)) (filter_of_one (λ ids. length ids == 0) g.missing false e g.of) ∙ ap (λ c. cond c g.of []) (sym e)
