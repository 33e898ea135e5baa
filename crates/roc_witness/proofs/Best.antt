-- The best of the candidates is the shortest cycle, and of the shortest the least
use Rattle.std.proofs.Common.{◌≡◌, ◌≢◌, ℕ, ◌+◌, Bool, true, false, cond, List, [], ◌∷◌, ◌++◌, length, Option, Some, None, MatchOption, Vec, Global, refl, sym, ap, subst, ◌∙◌, ◌⊎◌, inl, inr, arith, length-append}
use Rattle.std.proofs.lemmas.Bool.{cases_lt}
use Rattle.std.specs.Option.{option_map}
use Rattle.roc_program.specs.declared.piece_id.PieceId.{PieceId}
use Rattle.roc_scgraph.specs.declared.vertex.Vertex.{Vertex}
use Rattle.roc_scgraph.specs.Cycles.{first_instance}
use Rattle.roc_witness.specs.Order.{stands_before}
use Rattle.roc_witness.specs.Inner.Vertices.{open_vertices}
use Rattle.roc_witness.specs.Inner.Walks.{may_step, IsShortestWalk, HasNoShortWalk}
use Rattle.roc_witness.specs.Inner.Candidates.{is_better, better_of, IsBest, sibling, lead, LeavesFrom, LeavesBelow}
use Rattle.roc_witness.proofs.Ordered.{comes_front, comes_back, from_neither, better_swap, better_between}

-- ---- the better of two

module _ (P Q R : List Vertex → Type 0) (left : (d : List Vertex) → P d → R d) (right : (d : List Vertex) → Q d → R d) (either : (d : List Vertex) → R d → P d ⊎ Q d) where
  not_better : (a b d : List Vertex) → is_better a b ≡ false → is_better d a ≡ false → is_better d b ≡ false
  not_better a b d h k = go (is_better d b) refl
    where
      go : (t : Bool) → is_better d b ≡ t → t ≡ false
      go true e = sym (better_between d a b e h) ∙ k
      go false e = refl

  best_of_two : (a b : Option (List Vertex)) → IsBest P a → IsBest Q b → IsBest R (better_of a b)
  best_of_two None None h k = λ d r. elim (either d r) [ inl i ↦ h d i | inr j ↦ k d j ]
  best_of_two None (Some b) h k = (right b k.0, λ d r. elim (either d r) [ inl i ↦ absurd (h d i) | inr j ↦ k.1 d j ])
  best_of_two (Some a) None h k = (left a h.0, λ d r. elim (either d r) [ inl i ↦ h.1 d i | inr j ↦ absurd (k d j) ])
  best_of_two (Some a) (Some b) h k = go (is_better b a) refl
    where
      go : (t : Bool) → is_better b a ≡ t → IsBest R (cond t (Some b) (Some a))
      go true e = (right b k.0, λ d r. elim (either d r) [ inl i ↦ not_better a b d (better_swap b a e) (h.1 d i) | inr j ↦ k.1 d j ])
      go false e = (left a h.0, λ d r. elim (either d r) [ inl i ↦ h.1 d i | inr j ↦ not_better b a d e (k.1 d j) ])

-- ---- one piece more

module _ (all : List Vertex) (table : List (List Bool)) (p q : PieceId) where
  abbrev From : ℕ → List Vertex → Type 0
  From piece = LeavesFrom all table p q piece

  abbrev Below : ℕ → List Vertex → Type 0
  Below count = LeavesBelow all table p q count

  none_below : (d : List Vertex) → Below 0 d → ⊥
  none_below d h = let low = h.below in omega arith

  pub best_start : IsBest (Below 0) None
  best_start = none_below

  more : (count : ℕ) (d : List Vertex) → Below count d → Below (count + 1) d
  more count d h = record { piece = h.piece; below = (let low = h.below in omega arith); leaves = h.leaves }

  last : (count : ℕ) (d : List Vertex) → From count d → Below (count + 1) d
  last count d h = record { piece = count; below = omega arith; leaves = h }

  parted : (count : ℕ) (d : List Vertex) → Below (count + 1) d → Below count d ⊎ From count d
  parted count d h =
      elim (cases_lt h.piece count) [
        | inl below ↦ inl (record { piece = h.piece; below = below; leaves = h.leaves })
        | inr past ↦ (let is : h.piece ≡ count = (let low = h.below in omega arith) in inr (subst (λ n. From n d) is h.leaves))
      ]

  pub best_more : (count : ℕ) (best found now : Option (List Vertex)) → IsBest (Below count) best → IsBest (From count) found → now ≡ better_of best found → IsBest (Below (count + 1)) now
  best_more count best found now h k e =
      subst (IsBest (Below (count + 1))) (sym e) (best_of_two (Below count) (From count) (Below (count + 1)) (more count) (last count) (parted count) best found h k)

  -- ---- from one piece

  abbrev Found : Type 0
  Found = Option (Vec Vertex Global)

  pub none_from_last : (piece : ℕ) → piece ≡ q.piece → IsBest (From piece) None
  none_from_last piece e = λ d r. r.other e

  module _ (piece : ℕ) (other : piece ≢ q.piece) where
    abbrev Start : Vertex
    Start = sibling p piece

    abbrev Open : List Vertex
    Open = open_vertices all (first_instance p) Start (first_instance q)

    not_better_than : (c d : List Vertex) → IsShortestWalk (may_step table Start) Open Start (first_instance q) (lead p piece) c → From piece d → is_better d c ≡ false
    not_better_than c d h r =
        from_neither d c
        (omega (arith, h.shortest r.way r.walk, long_of d r.way r.is, long_of c h.way h.is))
        (λ e. ap (λ (vs : List Vertex). stands_before vs c) r.is ∙ ap (stands_before ((lead p piece ++ r.way) ++ first_instance q ∷ [])) h.is ∙ among r.way h.way (omega (arith, e, long_of d r.way r.is, long_of c h.way h.is))
        ∙ h.least r.way r.walk (omega (arith, e, long_of d r.way r.is, long_of c h.way h.is)))
      where
        long_of : (vs way : List Vertex) → vs ≡ (lead p piece ++ way) ++ first_instance q ∷ [] → length vs ≡ length (lead p piece) + length way + 1
        long_of vs way e = omega (arith, ap (λ (us : List Vertex). length us) e, length-append (lead p piece ++ way) (first_instance q ∷ []), length-append (lead p piece) way)

        among : (ws way : List Vertex) → length ws ≡ length way → stands_before ((lead p piece ++ ws) ++ first_instance q ∷ []) ((lead p piece ++ way) ++ first_instance q ∷ []) ≡ stands_before ws way
        among ws way e =
            comes_back (lead p piece ++ ws) (lead p piece ++ way) (first_instance q ∷ []) (omega (arith, e, length-append (lead p piece) ws, length-append (lead p piece) way))
            ∙ comes_front (lead p piece) ws way

    found_here : (o : Found) → MatchOption o (HasNoShortWalk (may_step table Start) Open Start (first_instance q) 6) (λ c. IsShortestWalk (may_step table Start) Open Start (first_instance q) (lead p piece) c.items) → IsBest (From piece) (option_map (λ c. c.items) o)
    found_here None h = λ d r. h r.way r.walk r.short
    found_here (Some c) h = (record { other = other; way = h.way; short = h.few; walk = h.walk; is = h.is }, λ d r. not_better_than c.items d h r)

    abbrev pub Searched : Found → (fst start goal : Vertex) (vs front : List Vertex) → Type 0
    Searched o fst start goal vs front = MatchOption o (HasNoShortWalk (may_step table start) vs start goal 6) (λ c. IsShortestWalk (may_step table start) vs start goal front c.items)

    pub found_from : (o : Found) (fst start goal : Vertex) (vs front : List Vertex) → fst ≡ first_instance p → start ≡ Start → goal ≡ first_instance q → vs ≡ open_vertices all fst start goal → front ≡ lead p piece
        → Searched o fst start goal vs front → IsBest (From piece) (option_map (λ c. c.items) o)
    found_from o fst start goal vs front f s g v l h =
        let a = subst (λ x. Searched o fst start goal vs x) l h in
        let b = subst (λ x. Searched o fst start goal x (lead p piece)) v a in
        let c = subst (λ x. Searched o fst start goal (open_vertices all x start goal) (lead p piece)) f b in
        let d = subst (λ x. Searched o fst x goal (open_vertices all (first_instance p) x goal) (lead p piece)) s c in
        found_here o (subst (λ x. Searched o fst Start x (open_vertices all (first_instance p) Start x) (lead p piece)) g d)
