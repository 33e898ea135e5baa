-- A shortest walk holds no vertex twice
use Rattle.std.proofs.Common.{◌<◌, ◌≤◌, Bool, List, [], ◌∷◌, length, IsTrue, sym, subst, ◌⊎◌, inl, inr, arith}
use Rattle.roc_sequence.specs.Lists.{Has}
use Rattle.roc_sequence.specs.Places.{NoneTwice, IsListed}
use Rattle.roc_sequence.proofs.Places.{listed_or_not}
use Rattle.roc_sequence.proofs.Listed.{listed_has}
use Rattle.roc_scgraph.specs.declared.vertex.Vertex.{Vertex}
use Rattle.roc_scgraph.specs.Graph.{is_vertex}
use Rattle.roc_scgraph.proofs.Vertices.{is_vertex-true, is_vertex-same}
use Rattle.roc_witness.specs.Inner.Walks.{IsWalk}

module _ (may_step : Vertex → Vertex → Bool) (vertices : List Vertex) (goal : Vertex) where
  record Shorter (from : Vertex) (way : List Vertex) : Type 0 where
    short : List Vertex
    walk : IsWalk may_step vertices from goal short
    less : length short < length way

  rest : (from v : Vertex) (vs : List Vertex) → IsWalk may_step vertices from goal (v ∷ vs) → IsWalk may_step vertices v goal vs
  rest from v vs walk = record { within = walk.within.1; joined = walk.joined.1 }

  onto : (from v : Vertex) (vs : List Vertex) → IsTrue (may_step from v) → Has v vertices → IsWalk may_step vertices v goal vs → IsWalk may_step vertices from goal (v ∷ vs)
  onto from v vs step there walk = record { within = (there, walk.within); joined = (step, walk.joined) }

  -- from a vertex that stands on a walk there is a shorter one
  from_within : (from v : Vertex) (way : List Vertex) → Has v way → IsWalk may_step vertices from goal way → Shorter v way
  from_within from v [] h walk = absurd h
  from_within from v (w ∷ ws) (inl e) walk = record { short = ws; walk = subst (λ u. IsWalk may_step vertices u goal ws) (sym e) (rest from w ws walk); less = omega arith }
  from_within from v (w ∷ ws) (inr h) walk =
      let further = from_within w v ws h (rest from w ws walk) in
      record { short = further.short; walk = further.walk; less = omega (arith, further.less) }

  none_or_shorter : (from : Vertex) (way : List Vertex) → IsWalk may_step vertices from goal way → NoneTwice is_vertex way ⊎ Shorter from way
  none_or_shorter from [] walk = inl tt
  none_or_shorter from (v ∷ vs) walk = go (listed_or_not is_vertex vs v) (none_or_shorter v vs (rest from v vs walk))
    where
      go : IsListed is_vertex vs v ⊎ (¬ IsListed is_vertex vs v) → NoneTwice is_vertex vs ⊎ Shorter v vs → NoneTwice is_vertex (v ∷ vs) ⊎ Shorter from (v ∷ vs)
      go (inl again) further =
          let s = from_within v v vs (listed_has is_vertex is_vertex-true is_vertex-same vs v again) (rest from v vs walk) in
          inr (record { short = v ∷ s.short; walk = onto from v s.short walk.joined.0 walk.within.0 s.walk; less = omega (arith, s.less) })
      go (inr once) (inl none) = inl (once, none)
      go (inr once) (inr s) = inr (record { short = v ∷ s.short; walk = onto from v s.short walk.joined.0 walk.within.0 s.walk; less = omega (arith, s.less) })

  pub shortest_once : (from : Vertex) (way : List Vertex) → IsWalk may_step vertices from goal way → ((other : List Vertex) → IsWalk may_step vertices from goal other → length way ≤ length other) → NoneTwice is_vertex way
  shortest_once from way walk least = go (none_or_shorter from way walk)
    where
      go : NoneTwice is_vertex way ⊎ Shorter from way → NoneTwice is_vertex way
      go (inl none) = none
      go (inr s) = absurd (let l = least s.short s.walk in let m = s.less in omega arith)
