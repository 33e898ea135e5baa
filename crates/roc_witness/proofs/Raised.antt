-- Levels one by one, until the shortest walk is found
use Rattle.std.proofs.Common.{◌≡◌, ℕ, zero, suc, ◌+◌, Bool, true, false, ◌&&◌, not, List, [], ◌∷◌, ◌++◌, length, get_or, refl, sym, ap, ◌∙◌, inl, inr, arith, length-append}
use Rattle.std.proofs.Math.ListN.{get_or-append}
use Rattle.std.proofs.Math.Seq.{get_or-append_seam}
use Rattle.std.proofs.lemmas.Bool.{false≢true, cases_lt}
use Rattle.std.specs.List.{list_any}
use Rattle.roc_sequence.proofs.Holds.{has_any}
use Rattle.roc_scgraph.specs.declared.vertex.Vertex.{Vertex}
use Rattle.roc_scgraph.specs.Graph.{are_siblings, is_vertex}
use Rattle.roc_scgraph.proofs.Vertices.{is_vertex-same}
use Rattle.roc_witness.specs.Inner.Table.{joins}
use Rattle.roc_witness.specs.Inner.Walks.{may_step, HasNoWalk, reaching, level, AreLevels, HasNoShortWalk}

-- from its start a walk leads to no sibling
pub leads_out : (table : List (List Bool)) (start goal : Vertex) → are_siblings start goal ≡ true → may_step table start start goal ≡ false
leads_out table start goal h = go (joins table start goal)
  where
    inside : not (is_vertex start start && are_siblings start goal) ≡ false
    inside = ap (λ (t : Bool). not (t && are_siblings start goal)) (is_vertex-same start) ∙ ap not h

    go : (t : Bool) → (t && not (is_vertex start start && are_siblings start goal)) ≡ false
    go true = inside
    go false = refl

module _ (may_step : Vertex → Vertex → Bool) (vertices : List Vertex) (goal : Vertex) where
  pub levels_start : AreLevels may_step vertices goal ((goal ∷ []) ∷ [])
  levels_start zero within = refl
  levels_start (suc k) within = absurd (omega arith)

  pub levels_more : (levels more : List (List Vertex)) (count : ℕ) (target next : List Vertex) → AreLevels may_step vertices goal levels → length levels ≡ count + 1 → target ≡ level may_step vertices goal count
      → next ≡ reaching may_step vertices target → more ≡ levels ++ next ∷ [] → AreLevels may_step vertices goal more
  levels_more levels more count target next known long is made e k within =
      let size : length more ≡ count + 2 = omega (arith, ap (λ (ls : List (List Vertex)). length ls) e, length-append levels (next ∷ []), long) in
      ap (λ (ls : List (List Vertex)). get_or ls k []) e
      ∙ elim (cases_lt k (length levels)) [
        | inl below ↦ get_or-append levels (next ∷ []) [] k below ∙ known k below
        | inr past ↦
            (let last : k ≡ suc count = omega arith in
            let here : k ≡ length levels = omega arith in
            ap (λ (n : ℕ). get_or (levels ++ next ∷ []) n []) here ∙ get_or-append_seam levels next [] [] ∙ made ∙ ap (reaching may_step vertices) is ∙ ap (level may_step vertices goal) (sym last))
      ]

  module _ (start : Vertex) where
    pub none_at_once : may_step start goal ≡ false → HasNoShortWalk may_step vertices start goal 0
    none_at_once h [] walk few = false≢true (sym h ∙ walk.joined.0)
    none_at_once h (w ∷ ws) walk few = absurd (omega arith)

    -- nor any where no vertex can be reached
    pub none_out : may_step start goal ≡ false → list_any (may_step start) vertices ≡ false → (most : ℕ) → HasNoShortWalk may_step vertices start goal most
    none_out h none most [] walk few = false≢true (sym h ∙ walk.joined.0)
    none_out h none most (w ∷ ws) walk few = false≢true (sym none ∙ has_any (may_step start) vertices w walk.within.0 walk.joined.0)

    pub none_more : (count : ℕ) → HasNoShortWalk may_step vertices start goal count → HasNoWalk may_step vertices start goal (count + 1) → HasNoShortWalk may_step vertices start goal (count + 1)
    none_more count short long other walk few =
        elim (cases_lt count (length other)) [
          | inl above ↦ long other walk (omega arith)
          | inr within ↦ short other walk within
        ]
