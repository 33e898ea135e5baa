-- Rows at their numbers, and links that are alive
use Rattle.std.proofs.Common.{◌≡◌, ◌≢◌, ◌+◌, ◌<◌, ◌≤◌, ◌==◌, ◌&&◌, inl, inr, ℕ, zero, suc, Bool, true, false, cond, List, [], ◌∷◌, ◌++◌, length, map, refl, sym, ap, ◌∙◌, subst, arith}
use Rattle.std.proofs.lemmas.Bool.{false≢true}
use Rattle.std.proofs.lemmas.Bool.Decides.{nat_tests}
use Rattle.std.proofs.lemmas.List.{get_or-set_same, get_or-set_other, get_or_append_left, get_or_push, get_or_past, length-set, length_push}
use Rattle.std.specs.Prelude.{nat_lt}
use Rattle.std.specs.List.{AllByRecursion}
use Rattle.roc_base.specs.declared.id.TxnId.{TxnId}
use Rattle.roc_base.specs.Edge.{Dependency}
use Rattle.roc_server_rows.specs.declared.rows.Link.{Link}
use Rattle.roc_server_rows.specs.declared.rows.Row.{Row}
use Rattle.roc_step.specs.Carried.{list_with}
use Rattle.roc_server_rows.specs.Inner.Rows.{IsPlaced}
use Rattle.roc_server_rows.specs.Rows.{no_row, row_in, is_alive, is_told, followed, links_in, AreNamed, Grows, IsRowTable}

-- ---- rows at their numbers

-- what has a birth has a number
pub row_within : (rs : List Row) (n : ℕ) → 0 < (row_in rs n).birth → n < length rs
row_within [] n h = absurd (omega (arith, h))
row_within (r ∷ rs) zero h = omega arith
row_within (r ∷ rs) (suc n) h = omega (arith, row_within rs n h)

-- what has a list has a turn, and is there
told_turn : (r : Row) → is_told r ≡ true → 0 < r.turn
told_turn r h = grind (arith, nat_tests)

pub told_live : (numbers : List (TxnId × ℕ)) (rows : List Row) (stamp : ℕ) → IsRowTable numbers rows stamp → (n : ℕ) → is_told (row_in rows n) ≡ true → 0 < (row_in rows n).birth
told_live numbers rows stamp t n h = t.told_live n (told_turn (row_in rows n) h)

module _ (old new : List Row) (r : Row) (at : ℕ) where
  pub placed_at : IsPlaced old new r at → row_in new at ≡ r
  placed_at (inl h) = ap (λ l. row_in l at) h.2 ∙ get_or-set_same old at r no_row h.0
  placed_at (inr h) = ap (λ l. row_in l at) h.1 ∙ get_or_push old r no_row at (sym h.0)

  pub placed_other : IsPlaced old new r at → (m : ℕ) → m ≢ at → row_in new m ≡ row_in old m
  placed_other (inl h) m d = ap (λ l. row_in l m) h.2 ∙ get_or-set_other old at m r no_row d
  placed_other (inr h) m d = ap (λ l. row_in l m) h.1 ∙ go (nat_lt m (length old)) refl
    where
      go : (b : Bool) → nat_lt m (length old) ≡ b → row_in (old ++ r ∷ []) m ≡ row_in old m
      go true e = let k : m < length old = grind (arith, nat_tests) in get_or_append_left old (r ∷ []) no_row m k
      go false e =
          let k : length old ≤ m = grind (arith, nat_tests) in
          let l : length (old ++ r ∷ []) ≡ length old + 1 = length_push old r in
          let n : m ≢ length old = λ z. d (z ∙ sym h.0) in
          let j : length old + 1 ≤ m = omega arith in
          get_or_past (old ++ r ∷ []) m no_row (omega arith) ∙ sym (get_or_past old m no_row k)

  pub placed_length : IsPlaced old new r at → (length old ≤ length new) × (length new ≤ length old + 1)
  placed_length (inl h) = let same : length new ≡ length old = ap length h.2 ∙ length-set old at r in (omega (arith, same), omega (arith, same))
  placed_length (inr h) = let more : length new ≡ length old + 1 = ap length h.1 ∙ length_push old r in (omega (arith, more), omega (arith, more))

  pub placed_free : IsPlaced old new r at → (row_in old at).birth ≡ 0
  placed_free (inl h) = h.1
  placed_free (inr h) = ap (λ (x : Row). x.birth) (get_or_past old at no_row (omega (arith, h.0)))

-- ---- links

pub alive_born : (rs : List Row) (l : Link) → is_alive rs l ≡ true → 0 < l.birth
alive_born rs l h = grind (arith, nat_tests)

pub alive_is : (rs : List Row) (l : Link) → is_alive rs l ≡ true → (row_in rs l.at).birth ≡ l.birth
alive_is rs l h = go (nat_lt 0 l.birth) refl h
  where
    go : (b : Bool) → nat_lt 0 l.birth ≡ b → (b && ((row_in rs l.at).birth == l.birth)) ≡ true → (row_in rs l.at).birth ≡ l.birth
    go true e k = grind (arith, nat_tests)
    go false e k = absurd (false≢true k)

pub alive_live : (rs : List Row) (l : Link) → is_alive rs l ≡ true → 0 < (row_in rs l.at).birth
alive_live rs l h = let a = alive_born rs l h in let b = alive_is rs l h in omega (arith, a, b)

pub alive_same : (a b : List Row) (l : Link) → (row_in a l.at).birth ≡ (row_in b l.at).birth → is_alive a l ≡ is_alive b l
alive_same a b l e = ap (λ n. nat_lt 0 l.birth && (n == l.birth)) e

-- of what is not there no link is alive
pub dead_at : (rs : List Row) (l : Link) → (row_in rs l.at).birth ≡ 0 → is_alive rs l ≡ false
dead_at rs l h = go (is_alive rs l) refl
  where
    go : (b : Bool) → is_alive rs l ≡ b → b ≡ false
    go true e = let a = alive_live rs l e in absurd (omega (arith, a, h))
    go false e = refl

-- nor of what came later
pub dead_later : (rs : List Row) (l : Link) → l.birth < (row_in rs l.at).birth → is_alive rs l ≡ false
dead_later rs l h = go (is_alive rs l) refl
  where
    go : (b : Bool) → is_alive rs l ≡ b → b ≡ false
    go true e = let a = alive_is rs l e in absurd (omega (arith, a, h))
    go false e = refl

-- ---- what links name stays, as rows come

module _ (old new : List Row) (was stamp : ℕ) (g : Grows old new was stamp) where
  pub names_grow : (ds : List Dependency) (ls : List Link) → AreNamed old was ds ls → AreNamed new stamp ds ls
  names_grow [] [] a = tt
  names_grow [] (l ∷ ls) a = absurd a
  names_grow (d ∷ ds) [] a = absurd a
  names_grow (d ∷ ds) (l ∷ ls) a = (
    record {
      born = omega (arith, a.0.born, g.later);
      right = λ h.
          let before : is_alive old l ≡ true = sym (g.links l a.0.born) ∙ h in
          ap (λ (r : Row). r.id) (g.rows l.at (alive_live old l before)) ∙ a.0.right before;
    },
    names_grow ds ls a.1,
  )

  pub followed_grow : (ds : List Dependency) (ls : List Link) → AreNamed old was ds ls → followed new ds ls ≡ followed old ds ls
  followed_grow [] ls a = refl
  followed_grow (d ∷ ds) [] a = refl
  followed_grow (d ∷ ds) (l ∷ ls) a =
      ap (λ b. cond b (d ∷ followed new ds ls) (followed new ds ls)) (g.links l a.0.born)
      ∙ ap (λ es. cond (is_alive old l) (d ∷ es) es) (followed_grow ds ls a.1)

  pub links_grow : (rs : List Row) → AllByRecursion (λ r. AreNamed old was r.edges r.names) rs → map (links_in new) rs ≡ map (links_in old) rs
  links_grow [] a = refl
  links_grow (r ∷ rs) a =
      ap (λ es. list_with r.id es ∷ map (links_in new) rs) (followed_grow r.edges r.names a.0)
      ∙ ap (λ ks. list_with r.id (followed old r.edges r.names) ∷ ks) (links_grow rs a.1)

pub grows_none : (rs : List Row) (was stamp : ℕ) → was ≤ stamp → Grows rs rs was stamp
grows_none rs was stamp h = record { later = h; rows = λ n k. refl; told = λ n k. refl; links = λ l k. refl }

pub grows_on : (a b c : List Row) (s t u : ℕ) → Grows a b s t → Grows b c t u → Grows a c s u
grows_on a b c s t u g h =
    record {
      later = omega (arith, g.later, h.later);
      rows = λ n k. h.rows n (subst (λ (r : Row). 0 < r.birth) (sym (g.rows n k)) k) ∙ g.rows n k;
      told = λ n k. h.told n k ∙ g.told n (ap is_told (sym (h.told n k)) ∙ k);
      links = λ l k. h.links l (omega (arith, k, g.later)) ∙ g.links l k;
    }
