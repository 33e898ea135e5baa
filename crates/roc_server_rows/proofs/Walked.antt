-- Marks that are changed one after another
use Rattle.std.proofs.Common.{◌≡◌, ◌≢◌, ◌<◌, ◌≤◌, ◌+◌, ◌⊎◌, ◌++◌, ◌∷◌, [], inl, inr, ℕ, Bool, true, false, List, length, set, take, get_or, refl, sym, ap, ◌∙◌, subst, arith}
use Rattle.std.proofs.lemmas.Bool.Decides.{nat_tests}
use Rattle.std.proofs.lemmas.List.{get_or-set_same, get_or-set_other, get_or_past, length-set}
use Rattle.std.specs.Prelude.{nat_lt}
use Rattle.std.proofs.lemmas.Bool.{cases_eq}
use Rattle.roc_sequence.specs.Lists.{Has}
use Rattle.roc_sequence.proofs.Fronts.{front_more}
use Rattle.roc_sequence.proofs.Members.{has_append, has_one}
use Rattle.roc_server_rows.specs.declared.rows.Link.{Link}
use Rattle.roc_server_rows.specs.declared.rows.Row.{Row}
use Rattle.roc_server_rows.specs.declared.marks.Mark.{Mark}
use Rattle.roc_server_rows.specs.Rows.{row_in, is_told}
use Rattle.roc_server_rows.specs.Inner.Marks.{IsAwake, IsChangedAt, IsWokenAt, WakesFor}
use Rattle.roc_server_rows.specs.Marks.{no_mark, mark_in, HasWaiting, Wakes, WakesAll}

-- those at these numbers, and no others but in the same way
pub record IsVisited (R : Mark → Mark → Type 0) (old new : List Mark) (ns : List ℕ) : Type 0 where
  pub each : length new ≡ length old
  pub done : (k : ℕ) → Has k ns → R (mark_in old k) (mark_in new k)
  pub left : (k : ℕ) → (mark_in new k ≡ mark_in old k) ⊎ R (mark_in old k) (mark_in new k)

module _ (R : Mark → Mark → Type 0) where
  pub visited_none : (marks : List Mark) → IsVisited R marks marks []
  visited_none marks = record { each = refl; done = λ k h. absurd h; left = λ k. inl refl }

  module _ (then : (x y z : Mark) → R x y → R y z → R x z) (old now next : List Mark) (seen : List ℕ) (at : ℕ) (v : IsVisited R old now seen) (c : IsChangedAt R at now next) where
    later : (k : ℕ) → R (mark_in old k) (mark_in now k) → R (mark_in old k) (mark_in next k)
    later k r = elim (cases_eq k at) [
      | inl e ↦ then (mark_in old k) (mark_in now k) (mark_in next k) r (subst (λ j. R (mark_in now j) (mark_in next j)) (sym e) c.own)
      | inr d ↦ subst (R (mark_in old k)) (sym (c.others k d)) r
    ]

    here : R (mark_in old at) (mark_in next at)
    here = elim (v.left at) [ inl e ↦ subst (λ x. R x (mark_in next at)) e c.own | inr r ↦ then (mark_in old at) (mark_in now at) (mark_in next at) r c.own ]

    visited_one : IsVisited R old next (seen ++ at ∷ [])
    visited_one =
        record {
          each = c.each ∙ v.each;
          done = λ k h. elim (has_append k seen (at ∷ []) h) [
            | inl d ↦ later k (v.done k d)
            | inr d ↦ subst (λ j. R (mark_in old j) (mark_in next j)) (sym (has_one k at d)) here
          ];
          left = λ k. elim (cases_eq k at) [
            | inl e ↦ inr (subst (λ j. R (mark_in old j) (mark_in next j)) (sym e) here)
            | inr d ↦ elim (v.left k) [ inl e ↦ inl (c.others k d ∙ e) | inr r ↦ inr (later k r) ]
          ];
        }

  pub visited_more : ((x y z : Mark) → R x y → R y z → R x z) → (old now next : List Mark) (ns : List ℕ) (i at : ℕ) → i < length ns → at ≡ get_or ns i at → IsVisited R old now (take i ns)
      → IsChangedAt R at now next → IsVisited R old next (take (i + 1) ns)
  visited_more then old now next ns i at within is v c = subst (IsVisited R old next) (front_more ns i at within is) (visited_one then old now next (take i ns) at v c)

  pub visited_all : ((x : Mark) → x.waits.birth ≡ 0 → R x x) → (old new : List Mark) (ns : List ℕ) (i : ℕ) → HasWaiting old ns → IsVisited R old new (take i ns) → take i ns ≡ ns
      → (k : ℕ) → R (mark_in old k) (mark_in new k)
  visited_all still old new ns i waiting v all k = go (nat_lt 0 (mark_in old k).waits.birth) refl
    where
      go : (b : Bool) → nat_lt 0 (mark_in old k).waits.birth ≡ b → R (mark_in old k) (mark_in new k)
      go true e =
          let p : 0 < (mark_in old k).waits.birth = grind (arith, nat_tests) in
          v.done k (subst (Has k) (sym all) (waiting k p))
      go false e =
          let z : (mark_in old k).waits.birth ≡ 0 = grind (arith, nat_tests) in
          elim (v.left k) [ inl same ↦ subst (R (mark_in old k)) (sym same) (still (mark_in old k) z) | inr r ↦ r ]

-- a place of the list, or none
pub changed_set : (R : Mark → Mark → Type 0) (marks : List Mark) (n : ℕ) (m : Mark) → n < length marks → R (mark_in marks n) m → IsChangedAt R n marks (set marks n m)
changed_set R marks n m below r =
    record { each = length-set marks n m; own = subst (R (mark_in marks n)) (sym (get_or-set_same marks n m no_mark below)) r; others = λ k d. get_or-set_other marks n k m no_mark d }

pub changed_none : (R : Mark → Mark → Type 0) (marks : List Mark) (n : ℕ) → length marks ≤ n → R no_mark no_mark → IsChangedAt R n marks marks
changed_none R marks n past r =
    let none : mark_in marks n ≡ no_mark = get_or_past marks n no_mark past in
    record { each = refl; own = subst (λ x. R x x) (sym none) r; others = λ k d. refl }

-- ---- those that wait at a row wait no longer

pub woken_then : (n : ℕ) (x y z : Mark) → IsWokenAt n x y → IsWokenAt n y z → IsWokenAt n x z
woken_then n x y z f g = (g.0 ∙ f.0, go g.1 f.1)
  where
    go : (z.waits.birth ≡ 0) ⊎ ((z.waits ≡ y.waits) × (y.waits.at ≢ n)) → (y.waits.birth ≡ 0) ⊎ ((y.waits ≡ x.waits) × (x.waits.at ≢ n))
        → (z.waits.birth ≡ 0) ⊎ ((z.waits ≡ x.waits) × (x.waits.at ≢ n))
    go (inl e) q = inl e
    go (inr s) (inl e) = inl (ap (λ (l : Link). l.birth) s.0 ∙ e)
    go (inr s) (inr t) = inr (s.0 ∙ t.0, t.1)

pub wakes_all : (n : ℕ) (old new : List Mark) (ns : List ℕ) (i : ℕ) → HasWaiting old ns → IsVisited (IsWokenAt n) old new (take i ns) → take i ns ≡ ns → Wakes n old new
wakes_all n old new ns i waiting v all =
    let each = visited_all (IsWokenAt n) (λ x z. (refl, inl z)) old new ns i waiting v all in
    record { each = v.each; decided = λ k. (each k).0; woken = λ k. (each k).1 }

-- ---- none waits any longer

pub awake_then : (x y z : Mark) → IsAwake x y → IsAwake y z → IsAwake x z
awake_then x y z f g = (g.0 ∙ f.0, g.1)

pub all_awake : (old new : List Mark) (ns : List ℕ) (i : ℕ) → HasWaiting old ns → IsVisited IsAwake old new (take i ns) → take i ns ≡ ns → WakesAll old new
all_awake old new ns i waiting v all =
    let each = visited_all IsAwake (λ x z. (refl, z)) old new ns i waiting v all in
    record { each = v.each; same = λ k. (each k).0; awake = λ k. (each k).1 }

-- ---- as the row has a list or none

pub all_for : (rows : List Row) (n : ℕ) (old new : List Mark) → WakesAll old new → WakesFor rows n old new
all_for rows n old new w = record { each = w.each; same = w.same; woken = λ k. inl (w.awake k) }

pub some_for : (rows : List Row) (n : ℕ) (old new : List Mark) → is_told (row_in rows n) ≡ false → Wakes n old new → WakesFor rows n old new
some_for rows n old new untold w = record { each = w.each; same = w.decided; woken = λ k. go k (w.woken k) }
  where
    go : (k : ℕ) → ((mark_in new k).waits.birth ≡ 0) ⊎ (((mark_in new k).waits ≡ (mark_in old k).waits) × ((mark_in old k).waits.at ≢ n))
        → ((mark_in new k).waits.birth ≡ 0) ⊎ (((mark_in new k).waits ≡ (mark_in old k).waits) × ((mark_in old k).waits.at ≢ n) × (is_told (row_in rows n) ≡ false))
    go k (inl z) = inl z
    go k (inr s) = inr (s.0, s.1, untold)
