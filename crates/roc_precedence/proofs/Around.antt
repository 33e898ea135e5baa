-- The least way around from an id with a shortest one is the least cycle
use Rattle.std.proofs.Common.{◌≡◌, ◌↔◌, ℕ, zero, suc, ◌+◌, ◌≤◌, true, ◌&&◌, List, [], ◌∷◌, length, Option, Some, None, IfSome, refl, sym, subst, ◌∙◌, inl, inr, arith, unwrap_or}
use Rattle.std.proofs.lemmas.Bool.{false≢true, cases_lt, or_cases, and_parts}
use Rattle.std.specs.List.{list_any}
use Rattle.std.specs.Option.{option_map}
use Rattle.roc_sequence.specs.Lists.{Has}
use Rattle.roc_sequence.specs.Places.{IsListed}
use Rattle.roc_sequence.proofs.Places.{listed_or_not}
use Rattle.roc_base.specs.declared.id.TxnId.{TxnId}
use Rattle.roc_base.specs.TxnId.{is_txn, txn_lt}
use Rattle.roc_base.specs.Equalities.{is_txn-true}
use Rattle.roc_base.specs.Edge.{Dependency}
use Rattle.roc_depgraph.specs.declared.known.KnownList.{KnownList}
use Rattle.roc_depgraph.specs.Closure.{IsRisingListOf}
use Rattle.roc_depgraph.specs.Deps.{Precedes}
use Rattle.roc_component.specs.Components.{among}
use Rattle.roc_precedence.specs.declared.pair.Pair.{Pair}
use Rattle.roc_precedence.specs.Cycles.{LeadsAlong, IsCycle, HasCycle, BeginsWithLeast, stands_before, IsLeastCycle}
use Rattle.roc_precedence.specs.Inner.Lists.{AreListsFor}
use Rattle.roc_precedence.specs.Inner.Rounds.{Walks, HasNoRound, IsFirstRound, IsWay, IsLeastWay, IsWayFound}
use Rattle.roc_precedence.specs.Pairs.{IsPaired}

-- ---- ways, walks, and lists that E leads along

module _ (E : TxnId → TxnId → Type 0) where
  leads_walk : (xs : List TxnId) (u t : TxnId) → LeadsAlong E u xs t → Walks E (suc (length xs)) u t
  leads_walk [] u t l = (t, l, refl)
  leads_walk (x ∷ xs) u t l = (x, l.0, leads_walk xs x t l.1)

  leads_way : (xs : List TxnId) (u t : TxnId) → LeadsAlong E u xs t → IsWay E u (u ∷ xs) t
  leads_way [] u t l = (refl, (t, l, refl))
  leads_way (x ∷ xs) u t l = (refl, (x, l.0, leads_way xs x t l.1))

  way_leads : (xs : List TxnId) (u t s : TxnId) → E u s → IsWay E s xs t → LeadsAlong E u xs t
  way_leads [] u t s e w = subst (E u) w e
  way_leads (x ∷ xs) u t s e w = (subst (E u) (sym w.0) e, subst (λ v. LeadsAlong E v xs t) (sym w.0) (way_leads xs s t w.1.0 w.1.1 w.1.2))

  walk_ends : (n : ℕ) (u t : TxnId) → Walks E (suc n) u t → (p : TxnId) × E p t
  walk_ends zero u t w = (u, subst (E u) w.2 w.1)
  walk_ends (suc n) u t w = walk_ends n w.0 t w.2

  joined_walks : (n m k : ℕ) (u s t : TxnId) → n + m ≡ k → Walks E n u s → Walks E m s t → Walks E k u t
  joined_walks zero m k u s t e w v = let f : m ≡ k = omega arith in subst (λ i. Walks E i u t) f (subst (λ x. Walks E m x t) (sym w) v)
  joined_walks (suc n) m zero u s t e w v = absurd (omega arith)
  joined_walks (suc n) m (suc k) u s t e w v = (w.0, w.1, joined_walks n m k w.0 s t (omega arith) w.2 v)

  -- the two parts of a way at one of its ids
  record ArePartsAt (n : ℕ) (u y t : TxnId) : Type 0 where
    to : ℕ
    from : ℕ
    before : Walks E (suc to) u y
    behind : Walks E (suc from) y t
    whole : suc from + suc to ≡ n

  parts_at : (xs : List TxnId) (u t y : TxnId) → LeadsAlong E u xs t → Has y xs → ArePartsAt (suc (length xs)) u y t
  parts_at [] u t y l h = elim h [ ]
  parts_at (x ∷ xs) u t y l (inl e) = record {
    to = 0;
    from = length xs;
    before = (x, l.0, sym e);
    behind = subst (λ v. Walks E (suc (length xs)) v t) (sym e) (leads_walk xs x t l.1);
    whole = omega arith;
  }
  parts_at (x ∷ xs) u t y l (inr h) = let p = parts_at xs x t y l.1 h in record {
    to = suc p.to;
    from = p.from;
    before = (x, l.0, p.before);
    behind = p.behind;
    whole = let w = p.whole in omega arith;
  }

pub leads_other : (E F : TxnId → TxnId → Type 0) → ((u t : TxnId) → E u t → F u t) → (xs : List TxnId) (u t : TxnId) → LeadsAlong E u xs t → LeadsAlong F u xs t
leads_other E F f [] u t l = f u t l
leads_other E F f (x ∷ xs) u t l = (f u x l.0, leads_other E F f xs x t l.1)

-- ---- E leads only to ids, and among ids where G does

module _ (E G : TxnId → TxnId → Type 0) (set ids : List TxnId)
    (ends : (u t : TxnId) → E u t → IsListed is_txn set t)
    (member : (t : TxnId) → IsListed is_txn set t → IsListed is_txn ids t)
    (same : (t : TxnId) → IsListed is_txn ids t → IsListed is_txn set t)
    (to : (u t : TxnId) → E u t → G u t)
    (from : (u t : TxnId) → among ids G u t → E u t) where
  within : (xs : List TxnId) (u t : TxnId) → IsListed is_txn set u → LeadsAlong E u xs t → LeadsAlong (among ids G) u xs t
  within [] u t h l = (member u h, member t (ends u t l), to u t l)
  within (x ∷ xs) u t h l = let k = ends u x l.0 in ((member u h, member x k, to u x l.0), within xs x t k l.1)

  first_member : (xs : List TxnId) (u t : TxnId) → LeadsAlong (among ids G) u xs t → IsListed is_txn set u
  first_member [] u t l = same u l.0
  first_member (x ∷ xs) u t l = same u l.0.0

  outside : (xs : List TxnId) (u t : TxnId) → LeadsAlong (among ids G) u xs t → LeadsAlong E u xs t
  outside = leads_other (among ids G) E from

  pub no_cycle : ((x : TxnId) → IsListed is_txn set x → HasNoRound E None x) → ¬ HasCycle G ids
  no_cycle n (c, h) = go c h
    where
      go : (c : List TxnId) → ¬ IsCycle (among ids G) c
      go [] h = elim h [ ]
      go (x ∷ xs) h = n x (first_member xs x x h) (length xs) tt (leads_walk E xs x x (outside xs x x h))

  module _ (s : TxnId) (levels : List (List TxnId)) (f : IsFirstRound E set s levels) where
    module _ (xs : List TxnId) (w : IsLeastWay E (length levels) s s (s ∷ xs)) where
      along : LeadsAlong E s xs s
      along = way_leads E xs s s w.is.1.0 w.is.1.1 w.is.1.2

      long : suc (length xs) ≡ length levels
      long = w.long

      none_below : BeginsWithLeast (s ∷ xs)
      none_below y h low =
          let p = parts_at E xs s s y along h in
          let end = walk_ends E p.to s y p.before in
          f.least y (ends end.0 y end.1) low (joined_walks E (suc p.from) (suc p.to) (length levels) y s y (p.whole ∙ long) p.behind p.before)

      none_shorter : (d : List TxnId) → IsCycle (among ids G) d → suc (length xs) ≤ length d
      none_shorter [] h = elim h [ ]
      none_shorter (y ∷ ys) h =
          elim (cases_lt (suc (length ys)) (length levels)) [
            | inl k ↦ absurd (f.shortest y (first_member ys y y h) (length ys, k, leads_walk E ys y y (outside ys y y h)))
            | inr k ↦ let l = long in omega arith
          ]

      none_before : (d : List TxnId) → IsCycle (among ids G) d → length d ≡ suc (length xs) → ¬ (stands_before d (s ∷ xs) ≡ true)
      none_before [] h n b = elim h [ ]
      none_before (y ∷ ys) h n b =
          let along_y = outside ys y y h in
          let sum : suc (length ys) ≡ length levels = n ∙ long in
          elim (or_cases (txn_lt y s) (is_txn y s && stands_before ys xs) b) [
            | inl low ↦ f.least y (first_member ys y y h) low (subst (λ i. Walks E i y y) sum (leads_walk E ys y y along_y))
            | inr k ↦ (
                let e : y ≡ s = is_txn-true y s (and_parts (is_txn y s) (stands_before ys xs) k).0 in
                w.least (y ∷ ys) (subst (λ v. IsWay E v (y ∷ ys) v) e (leads_way E ys y y along_y)) sum b)
          ]

      least_cycle : IsLeastCycle G ids (s ∷ xs)
      least_cycle = record {
        is = within xs s s f.from along;
        begins = none_below;
        shortest = none_shorter;
        least = λ d h b n. none_before d h n;
      }

    pub least_from_way : (way : List TxnId) → IsLeastWay E (length levels) s s way → IsLeastCycle G ids way
    least_from_way [] w = let l = w.long in let k = f.is.some in absurd (omega arith)
    least_from_way (x ∷ xs) w =
        subst (λ v. IsLeastCycle G ids (v ∷ xs)) (sym w.is.0) (least_cycle xs (subst (λ v. IsLeastWay E (length levels) s s (v ∷ xs)) w.is.0 w))

  pub cycle_from : {A : Type 0} (items : A → List TxnId) (found : Option A) → IsWayFound E set (option_map items found) → IfSome found (λ way. IsLeastCycle G ids (items way))
  cycle_from items None h = tt
  cycle_from items (Some way) h = least_from_way h.0 h.1 h.2 (items way) h.3

  pub none_from : {A : Type 0} (items : A → List TxnId) (found : Option A) → IsWayFound E set (option_map items found) → (found ≡ None) ↔ ¬ HasCycle G ids
  none_from items None h = (λ e. no_cycle h, λ n. refl)
  none_from items (Some way) h = (λ e. absurd (cc), λ n. absurd (n (items way, (least_from_way h.0 h.1 h.2 (items way) h.3).is)))

-- ---- by known lists of the ids

module _ (ids set met : List TxnId) (pairs : List Pair) (known : List KnownList) (all : IsRisingListOf (IsListed is_txn ids) set) (seen : met ≡ set) (are : AreListsFor pairs met known) where
  listed_end : (u t : TxnId) → Precedes known u t → IsListed is_txn met t
  listed_end u t p =
      elim (listed_or_not is_txn met t) [
        | inl h ↦ h
        | inr n ↦ absurd (false≢true (subst (λ (o : Option (List Dependency)). list_any (λ d. is_txn d.from u) (unwrap_or o []) ≡ true) (are.only t n) p))
      ]

  in_ids : (t : TxnId) → IsListed is_txn met t → IsListed is_txn ids t
  in_ids t l = all.sound t (subst (λ xs. IsListed is_txn xs t) seen l)

  in_met : (t : TxnId) → IsListed is_txn ids t → IsListed is_txn met t
  in_met t l = subst (λ xs. IsListed is_txn xs t) (sym seen) (all.complete t l)

  paired : (u t : TxnId) → Precedes known u t → IsPaired pairs u t
  paired u t p = (are.each t (listed_end u t p) u).0 p

  preceding : (u t : TxnId) → among ids (IsPaired pairs) u t → Precedes known u t
  preceding u t h = (are.each t (in_met t h.1) u).1 h.2

  pub cycle_of_pairs : {A : Type 0} (items : A → List TxnId) (found : Option A) → IsWayFound (Precedes known) met (option_map items found)
      → IfSome found (λ way. IsLeastCycle (IsPaired pairs) ids (items way))
  cycle_of_pairs = cycle_from (Precedes known) (IsPaired pairs) met ids listed_end in_ids in_met paired preceding

  pub none_of_pairs : {A : Type 0} (items : A → List TxnId) (found : Option A) → IsWayFound (Precedes known) met (option_map items found) → (found ≡ None) ↔ ¬ HasCycle (IsPaired pairs) ids
  none_of_pairs = none_from (Precedes known) (IsPaired pairs) met ids listed_end in_ids in_met paired preceding
