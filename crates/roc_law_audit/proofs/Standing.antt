-- Groups that ran in an order have their accesses in it
use Rattle.std.proofs.Common.{◌≡◌, ◌≢◌, ℕ, zero, suc, ◌<◌, ◌==◌, Bool, true, false, if◌then◌else◌, List, [], ◌∷◌, ◌++◌, map, Some, slice_get, refl, sym, ap, subst, ◌∙◌, ◌⊎◌, inl, inr, arith}
use Rattle.std.proofs.lemmas.Bool.{eqb-true}
use Rattle.roc_sequence.specs.Lists.{Has}
use Rattle.roc_sequence.proofs.Members.{has_at, has_left, has_right, has_append, has_map, from_has_map}
use Rattle.roc_group.specs.declared.access.Access.{Access}
use Rattle.roc_msg.specs.declared.outbox.Ran.{Ran}
use Rattle.roc_step.specs.declared.started.StartedGroup.{StartedGroup}
use Rattle.roc_step.specs.Runs.{accesses_of}
use Rattle.roc_law_protocol.specs.Happens.{RanAt}
use Rattle.roc_judge.specs.Before.{StandsBefore}
use Rattle.roc_law_audit.specs.InTheWorld.{ran_on}

-- ---- lists

pub stands_left : {A : Type 0} (a b : A) (xs ys : List A) → StandsBefore a b xs → StandsBefore a b (xs ++ ys)
stands_left a b [] ys s = elim s [ ]
stands_left a b (x ∷ xs) ys (inl (i, h)) = inl (i, has_left b xs ys h)
stands_left a b (x ∷ xs) ys (inr s) = inr (stands_left a b xs ys s)

pub stands_right : {A : Type 0} (a b : A) (xs ys : List A) → StandsBefore a b ys → StandsBefore a b (xs ++ ys)
stands_right a b [] ys s = s
stands_right a b (x ∷ xs) ys s = inr (stands_right a b xs ys s)

pub stands_across : {A : Type 0} (a b : A) (xs ys : List A) → Has a xs → Has b ys → StandsBefore a b (xs ++ ys)
stands_across a b [] ys h k = elim h [ ]
stands_across a b (x ∷ xs) ys (inl i) k = inl (i, has_right b xs ys k)
stands_across a b (x ∷ xs) ys (inr h) k = inr (stands_across a b xs ys h k)

pub stands_cases : {A : Type 0} (a b : A) (xs ys : List A) → StandsBefore a b (xs ++ ys) → StandsBefore a b xs ⊎ ((Has a xs × Has b ys) ⊎ StandsBefore a b ys)
stands_cases a b [] ys s = inr (inr s)
stands_cases a b (x ∷ xs) ys (inl (i, h)) =
    elim (has_append b xs ys h) [
      | inl k ↦ inl (inl (i, k))
      | inr k ↦ inr (inl (inl i, k))
    ]
stands_cases a b (x ∷ xs) ys (inr s) =
    elim (stands_cases a b xs ys s) [
      | inl k ↦ inl (inr k)
      | inr k ↦ elim k [
        | inl j ↦ inr (inl (inr j.0, j.1))
        | inr j ↦ inr (inr j)
      ]
    ]

pub stands_both : {A : Type 0} (a b : A) (xs : List A) → StandsBefore a b xs → Has a xs × Has b xs
stands_both a b [] s = elim s [ ]
stands_both a b (x ∷ xs) (inl (i, h)) = (inl i, inr h)
stands_both a b (x ∷ xs) (inr s) = let r = stands_both a b xs s in (inr r.0, inr r.1)

-- ---- places

pub has_place : {A : Type 0} (a : A) (xs : List A) → Has a xs → (i : ℕ) × (slice_get xs i ≡ Some a)
has_place a [] h = elim h [ ]
has_place a (x ∷ xs) (inl e) = (0, ap (λ y. Some y) (sym e))
has_place a (x ∷ xs) (inr h) = let r = has_place a xs h in (suc r.0, r.1)

pub stands_from_places : {A : Type 0} (xs : List A) (i j : ℕ) (a b : A) → i < j → slice_get xs i ≡ Some a → slice_get xs j ≡ Some b → StandsBefore a b xs
stands_from_places [] i j a b l e f = absurd (cc)
stands_from_places (x ∷ xs) i zero a b l e f = absurd (omega arith)
stands_from_places (x ∷ xs) zero (suc j) a b l e f = let same : x ≡ a = cc in inl (sym same, has_at xs j b f)
stands_from_places (x ∷ xs) (suc i) (suc j) a b l e f = inr (stands_from_places xs i j a b (omega arith) e f)

pub places_from_stands : {A : Type 0} (a b : A) (xs : List A) → StandsBefore a b xs → (i : ℕ) × (j : ℕ) × (i < j) × (slice_get xs i ≡ Some a) × (slice_get xs j ≡ Some b)
places_from_stands a b [] s = elim s [ ]
places_from_stands a b (x ∷ xs) (inl (i, h)) = let r = has_place b xs h in (0, suc r.0, omega arith, ap (λ y. Some y) (sym i), r.1)
places_from_stands a b (x ∷ xs) (inr s) = let r = places_from_stands a b xs s in (suc r.0, suc r.1, (let l = r.2 in omega arith), r.3, r.4)

-- ---- groups on one shard

pub on_has : (shard : ℕ) (q : RanAt) (rs : List RanAt) → Has q rs → q.shard ≡ shard → Has q.group (ran_on shard rs)
on_has shard q [] h e = elim h [ ]
on_has shard q (r ∷ rs) (inl i) e =
    let here : (r.shard == shard) ≡ true = (let same : r.shard ≡ shard = ap (λ (x : RanAt). x.shard) (sym i) ∙ e in grind (arith)) in
    subst (λ (b : Bool). Has q.group (if b then r.group ∷ ran_on shard rs else ran_on shard rs)) (sym here) (inl (ap (λ (x : RanAt). x.group) i))
on_has shard q (r ∷ rs) (inr h) e = go (r.shard == shard) (on_has shard q rs h e)
  where
    go : (b : Bool) → Has q.group (ran_on shard rs) → Has q.group (if b then r.group ∷ ran_on shard rs else ran_on shard rs)
    go true k = inr k
    go false k = k

pub from_on_has : (shard : ℕ) (g : StartedGroup) (rs : List RanAt) → Has g (ran_on shard rs) → (q : RanAt) × Has q rs × (q.shard ≡ shard) × (q.group ≡ g)
from_on_has shard g [] h = elim h [ ]
from_on_has shard g (r ∷ rs) h = go (r.shard == shard) refl h (from_on_has shard g rs)
  where
    go : (b : Bool) → (r.shard == shard) ≡ b → Has g (if b then r.group ∷ ran_on shard rs else ran_on shard rs)
        → (Has g (ran_on shard rs) → (q : RanAt) × Has q rs × (q.shard ≡ shard) × (q.group ≡ g)) → (q : RanAt) × Has q (r ∷ rs) × (q.shard ≡ shard) × (q.group ≡ g)
    go true e (inl i) ih = (r, inl refl, eqb-true r.shard shard e, sym i)
    go true e (inr k) ih = let x = ih k in (x.0, inr x.1, x.2, x.3)
    go false e k ih = let x = ih k in (x.0, inr x.1, x.2, x.3)

pub on_stands : (shard : ℕ) (q r : RanAt) (rs : List RanAt) → StandsBefore q r rs → q.shard ≡ shard → r.shard ≡ shard → StandsBefore q.group r.group (ran_on shard rs)
on_stands shard q r [] s e f = elim s [ ]
on_stands shard q r (x ∷ rs) (inl (i, h)) e f =
    let here : (x.shard == shard) ≡ true = (let same : x.shard ≡ shard = ap (λ (y : RanAt). y.shard) (sym i) ∙ e in grind (arith)) in
    subst (λ (b : Bool). StandsBefore q.group r.group (if b then x.group ∷ ran_on shard rs else ran_on shard rs)) (sym here) (inl (ap (λ (y : RanAt). y.group) i, on_has shard r rs h f))
on_stands shard q r (x ∷ rs) (inr s) e f = go (x.shard == shard) (on_stands shard q r rs s e f)
  where
    go : (b : Bool) → StandsBefore q.group r.group (ran_on shard rs) → StandsBefore q.group r.group (if b then x.group ∷ ran_on shard rs else ran_on shard rs)
    go true k = inr k
    go false k = k

pub record ArePlaced (shard : ℕ) (g h : StartedGroup) (rs : List RanAt) : Type 0 where
  pub first : RanAt
  pub second : RanAt
  pub stands : StandsBefore first second rs
  pub first_at : first.shard ≡ shard
  pub second_at : second.shard ≡ shard
  pub first_is : first.group ≡ g
  pub second_is : second.group ≡ h

pub from_on_stands : (shard : ℕ) (g h : StartedGroup) (rs : List RanAt) → StandsBefore g h (ran_on shard rs) → ArePlaced shard g h rs
from_on_stands shard g h [] s = elim s [ ]
from_on_stands shard g h (x ∷ rs) s = go (x.shard == shard) refl s (from_on_stands shard g h rs)
  where
    deeper : ArePlaced shard g h rs → ArePlaced shard g h (x ∷ rs)
    deeper p = record { first = p.first; second = p.second; stands = inr p.stands; first_at = p.first_at; second_at = p.second_at; first_is = p.first_is; second_is = p.second_is }

    go : (b : Bool) → (x.shard == shard) ≡ b → StandsBefore g h (if b then x.group ∷ ran_on shard rs else ran_on shard rs) → (StandsBefore g h (ran_on shard rs) → ArePlaced shard g h rs)
        → ArePlaced shard g h (x ∷ rs)
    go true e (inl (i, k)) ih = let y = from_on_has shard h rs k in record {
      first = x;
      second = y.0;
      stands = inl (refl, y.1);
      first_at = eqb-true x.shard shard e;
      second_at = y.2;
      first_is = sym i;
      second_is = y.3;
    }
    go true e (inr k) ih = deeper (ih k)
    go false e k ih = deeper (ih k)

-- ---- accesses of groups

abbrev pub access_of : StartedGroup → Access → Ran
access_of e a = record { id = e.id; cell = a.cell; writes = a.writes }

pub accesses_has : (g : StartedGroup) (a : Access) (gs : List StartedGroup) → Has g gs → Has a g.cells → Has (access_of g a) (accesses_of gs)
accesses_has g a [] h k = elim h [ ]
accesses_has g a (x ∷ gs) (inl i) k = has_left (access_of g a) (map (access_of x) x.cells) (accesses_of gs)
    (subst (λ (y : StartedGroup). Has (access_of g a) (map (access_of y) y.cells)) i (has_map (access_of g) a g.cells k))
accesses_has g a (x ∷ gs) (inr h) k = has_right (access_of g a) (map (access_of x) x.cells) (accesses_of gs) (accesses_has g a gs h k)

pub from_accesses_has : (b : Ran) (gs : List StartedGroup) → Has b (accesses_of gs) → (g : StartedGroup) × Has g gs × (a : Access) × Has a g.cells × (b ≡ access_of g a)
from_accesses_has b [] h = elim h [ ]
from_accesses_has b (x ∷ gs) h =
    elim (has_append b (map (access_of x) x.cells) (accesses_of gs) h) [
      | inl i ↦ (let r = from_has_map (access_of x) b x.cells i in (x, inl refl, r.0, r.1, r.2))
      | inr i ↦ (let r = from_accesses_has b gs i in (r.0, inr r.1, r.2, r.3, r.4))
    ]

pub accesses_stand : (g h : StartedGroup) (a b : Access) (gs : List StartedGroup) → StandsBefore g h gs → Has a g.cells → Has b h.cells → StandsBefore (access_of g a) (access_of h b) (accesses_of gs)
accesses_stand g h a b [] s p q = elim s [ ]
accesses_stand g h a b (x ∷ gs) (inl (i, k)) p q =
    stands_across (access_of g a) (access_of h b) (map (access_of x) x.cells) (accesses_of gs)
    (subst (λ (y : StartedGroup). Has (access_of g a) (map (access_of y) y.cells)) i (has_map (access_of g) a g.cells p)) (accesses_has h b gs k q)
accesses_stand g h a b (x ∷ gs) (inr s) p q = stands_right (access_of g a) (access_of h b) (map (access_of x) x.cells) (accesses_of gs) (accesses_stand g h a b gs s p q)

pub record AreAccesses (x y : Ran) (gs : List StartedGroup) : Type 0 where
  pub first : StartedGroup
  pub second : StartedGroup
  pub stands : StandsBefore first second gs
  pub by_first : Access
  pub by_second : Access
  pub has_first : Has by_first first.cells
  pub has_second : Has by_second second.cells
  pub first_is : x ≡ access_of first by_first
  pub second_is : y ≡ access_of second by_second

-- accesses of two transactions are of two groups
pub from_accesses_stand : (x y : Ran) (gs : List StartedGroup) → StandsBefore x y (accesses_of gs) → x.id ≢ y.id → AreAccesses x y gs
from_accesses_stand x y [] s n = elim s [ ]
from_accesses_stand x y (g ∷ gs) s n =
    elim (stands_cases x y (map (access_of g) g.cells) (accesses_of gs) s) [
      | inl k ↦ (
          let b = stands_both x y (map (access_of g) g.cells) k in
          let p = from_has_map (access_of g) x g.cells b.0 in
          let q = from_has_map (access_of g) y g.cells b.1 in
          absurd (n (ap (λ (r : Ran). r.id) p.2 ∙ sym (ap (λ (r : Ran). r.id) q.2))))
      | inr k ↦ elim k [
        | inl j ↦ (
            let p = from_has_map (access_of g) x g.cells j.0 in
            let q = from_accesses_has y gs j.1 in
            record { first = g; second = q.0; stands = inl (refl, q.1); by_first = p.0; by_second = q.2; has_first = p.1; has_second = q.3; first_is = p.2; second_is = q.4 })
        | inr j ↦ (
            let r = from_accesses_stand x y gs j n in
            record {
              first = r.first;
              second = r.second;
              stands = inr r.stands;
              by_first = r.by_first;
              by_second = r.by_second;
              has_first = r.has_first;
              has_second = r.has_second;
              first_is = r.first_is;
              second_is = r.second_is;
            })
      ]
    ]
