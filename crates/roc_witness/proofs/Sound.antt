-- A walk without repeats, between the ends, is an unreorderable cycle
use Rattle.std.proofs.Common.{◌≡◌, ◌≢◌, ℕ, ◌<◌, Bool, true, false, cond, not, ◌&&◌, ◌||◌, ◌==◌, List, [], ◌∷◌, ◌++◌, length, Option, Some, IsTrue, refl, sym, ap, subst, ◌∙◌, inl, inr, arith, length-append}
use Rattle.std.proofs.lemmas.Bool.{false≢true, or_left, or_right, and_parts, eqb-true, eq-eqb}
use Rattle.std.proofs.lemmas.List.Folds.{list_any-append}
use Rattle.std.specs.List.{AllByRecursion, list_any}
use Rattle.roc_sequence.specs.Lists.{Has}
use Rattle.roc_sequence.specs.Places.{NoneTwice, IsListed}
use Rattle.roc_sequence.proofs.Listed.{listed_has, has_listed}
use Rattle.roc_sequence.proofs.Members.{has_append, has_one, from_has_filter}
use Rattle.roc_sequence.proofs.Holds.{all_append, all_has, has_all}
use Rattle.roc_sequence.proofs.Appended.{NoneTwice-append}
use Rattle.roc_program.specs.Program.{Workload}
use Rattle.roc_program.specs.Pieces.{HasPiece}
use Rattle.roc_program.specs.declared.piece_id.PieceId.{PieceId}
use Rattle.roc_program.proofs.PieceIds.{same_id_parts}
use Rattle.roc_scgraph.specs.declared.vertex.Vertex.{Vertex}
use Rattle.roc_scgraph.specs.declared.vertex.Kind.{Kind}
use Rattle.roc_scgraph.specs.declared.vertex.Kind.TheVariants.{S}
use Rattle.roc_scgraph.specs.Graph.{piece_id, are_siblings, is_vertex, edge}
use Rattle.roc_scgraph.specs.Cycles.{steps_to, is_fixed, is_sibling_edge, is_conflict_edge, first_instance}
use Rattle.roc_scgraph.proofs.Vertices.{siblings_from, same_vertex, is_vertex-true, is_vertex-same, edge-siblings, edge-conflict, fixed_apart}
use Rattle.roc_scgraph.proofs.Crossings.{AreFixed, no_conflict_inside}
use Rattle.roc_scgraph.proofs.Turned.{steps-append}
use Rattle.roc_witness.specs.Shortest.{IsCycleOf}
use Rattle.roc_witness.specs.Inner.Table.{joins, IsTableOf}
use Rattle.roc_witness.specs.Inner.Vertices.{vertices, is_open, open_vertices}
use Rattle.roc_witness.specs.Inner.Walks.{may_step, IsWalk}
use Rattle.roc_witness.specs.Inner.Candidates.{sibling, lead}
use Rattle.roc_witness.proofs.Joined.{joins_fixed}
use Rattle.roc_witness.proofs.Listed.{vertex_has}
use Rattle.roc_witness.proofs.Raised.{leads_out}
use Rattle.roc_witness.proofs.Leaving.{Fixed, open_parts}

module _ (program : Workload) (immediate : PieceId → Bool) (table : List (List Bool)) (exact : IsTableOf program immediate table) (p q : PieceId) (same : p.proc ≡ q.proc) (apart : p ≢ q)
    (p_there : HasPiece program p) (q_there : HasPiece program q) where
  abbrev Path : Vertex → List Vertex → Vertex → Type 0
  Path = Fixed program immediate table exact p q same

  abbrev HasConflict : List (Vertex × Vertex) → Type 0
  HasConflict steps = list_any (λ n. is_conflict_edge (edge program immediate n.0 n.1)) steps ≡ true

  abbrev Present : List Vertex → Type 0
  Present vs = AllByRecursion (λ v. HasPiece program (piece_id v)) vs

  abbrev any_of : (Option Kind → Bool) → List (Vertex × Vertex) → Bool
  any_of test ns = list_any (λ n. test (edge program immediate n.0 n.1)) ns

  inside : are_siblings (first_instance p) (first_instance q) ≡ true
  inside = siblings_from (first_instance p) (first_instance q) same refl

  closing : edge program immediate (first_instance q) (first_instance p) ≡ Some S
  closing = edge-siblings program immediate (first_instance q) (first_instance p) (siblings_from (first_instance q) (first_instance p) (sym same) refl) (λ e. apart (same_id_parts p q same (sym e)))

  -- a path with a conflict between the ends
  closed : (mid : List Vertex) → Path (first_instance p) mid (first_instance q) → HasConflict (steps_to (first_instance p) mid (first_instance q)) → NoneTwice is_vertex (first_instance p ∷ (mid ++ first_instance q ∷ [])) → Present mid
      → IsCycleOf program immediate p q (first_instance p ∷ (mid ++ first_instance q ∷ []))
  closed mid fixed meets once there =
      let steps = steps-append (first_instance p) mid (first_instance q) [] (first_instance p) in
      record {
        between = mid;
        ends = refl;
        unreorderable = record {
          long = omega (arith, length-append mid (first_instance q ∷ []), some mid meets);
          distinct = once;
          present = (p_there, all_append (λ v. HasPiece program (piece_id v)) mid (first_instance q ∷ []) there (q_there, tt));
          fixed = subst (AreFixed program immediate) (sym steps) (all_append _ (steps_to (first_instance p) mid (first_instance q)) ((first_instance q, first_instance p) ∷ []) fixed (ap is_fixed closing, tt));
          some_sibling = any_part (λ e. is_sibling_edge e) mid (or_right (any_of (λ e. is_sibling_edge e) (steps_to (first_instance p) mid (first_instance q))) _ (or_left (is_sibling_edge (edge program immediate (first_instance q) (first_instance p))) false (ap is_sibling_edge closing)));
          some_conflict = any_part (λ e. is_conflict_edge e) mid (or_left (any_of (λ e. is_conflict_edge e) (steps_to (first_instance p) mid (first_instance q))) _ meets);
        };
      }
    where
      any_part : (test : Option Kind → Bool) (ms : List Vertex) → (any_of test (steps_to (first_instance p) ms (first_instance q)) || any_of test ((first_instance q, first_instance p) ∷ [])) ≡ true → any_of test (steps_to (first_instance p) (ms ++ first_instance q ∷ []) (first_instance p)) ≡ true
      any_part test ms h =
          ap (any_of test) (steps-append (first_instance p) ms (first_instance q) [] (first_instance p)) ∙ list_any-append (λ n. test (edge program immediate n.0 n.1)) (steps_to (first_instance p) ms (first_instance q)) ((first_instance q, first_instance p) ∷ []) ∙ h

      some : (ms : List Vertex) → HasConflict (steps_to (first_instance p) ms (first_instance q)) → 0 < length ms
      some [] h = absurd (false≢true (sym (no_conflict_inside program immediate (first_instance p) (first_instance p) [] (first_instance q) (siblings_from (first_instance p) (first_instance p) refl refl) tt inside) ∙ h))
      some (v ∷ vs) h = omega arith

  module _ (piece : ℕ) (other : piece ≢ q.piece) (u_there : HasPiece program (piece_id (sibling p piece))) (way : List Vertex) where
    abbrev start : Vertex
    start = sibling p piece

    abbrev Steps : Vertex → List Vertex → Type 0
    Steps a ws = AllByRecursion (λ n. IsTrue (may_step table start n.0 n.1)) (steps_to a ws (first_instance q))

    fixed_of : (a : Vertex) (ws : List Vertex) → HasPiece program (piece_id a) → Present ws → Steps a ws → Path a ws (first_instance q)
    fixed_of a [] there present h = (sym (joins_fixed program immediate table exact a (first_instance q) there q_there) ∙ (and_parts (joins table a (first_instance q)) _ h.0).0, tt)
    fixed_of a (w ∷ ws) there present h = (sym (joins_fixed program immediate table exact a w there present.0) ∙ (and_parts (joins table a w) _ h.0).0, fixed_of w ws present.0 present.1 h.1)

    conflict_of : (ws : List Vertex) → Steps start ws → Path start ws (first_instance q) → HasConflict (steps_to start ws (first_instance q))
    conflict_of [] h fixed = absurd (false≢true (sym (leads_out table start (first_instance q) (siblings_from start (first_instance q) same refl)) ∙ h.0))
    conflict_of (w ∷ ws) h fixed =
        let out : are_siblings start w ≡ false = leads_apart (is_vertex start start) (are_siblings start w) (is_vertex-same start) (and_parts (joins table start w) _ h.0).1 in
        let f = fixed_apart program immediate start w out fixed.0 in
        or_left (is_conflict_edge (edge program immediate start w)) _ (ap is_conflict_edge (edge-conflict program immediate start w out f.0 f.1 f.2))
      where
        leads_apart : (s t : Bool) → s ≡ true → not (s && t) ≡ true → t ≡ false
        leads_apart true true e k = absurd (false≢true k)
        leads_apart true false e k = refl
        leads_apart false t e k = absurd (false≢true e)

    module _ (walk : IsWalk (may_step table start) (open_vertices (vertices program) (first_instance p) start (first_instance q)) start (first_instance q) way) (once : NoneTwice is_vertex way) where
      visited : (v : Vertex) → Has v way → Has v (vertices program) × ((v ≢ first_instance p) × (v ≢ start) × (v ≢ first_instance q))
      visited v h =
          let r = from_has_filter (is_open (first_instance p) start (first_instance q)) v (vertices program) (all_has (λ w. Has w (open_vertices (vertices program) (first_instance p) start (first_instance q))) v way walk.within h) in
          (r.0, open_parts (first_instance p) start (first_instance q) v r.1)

      present : Present way
      present = has_all (λ v. HasPiece program (piece_id v)) way (λ v h. vertex_has program v (visited v h).0)

      fixed : Path start way (first_instance q)
      fixed = fixed_of start way u_there present walk.joined

      unlisted : (v : Vertex) → v ≢ first_instance q → ((w : Vertex) → Has w way → w ≢ v) → ¬ IsListed is_vertex (way ++ first_instance q ∷ []) v
      unlisted v n away h = elim (has_append v way (first_instance q ∷ []) (listed_has is_vertex is_vertex-true is_vertex-same (way ++ first_instance q ∷ []) v h)) [
        | inl k ↦ away v k refl
        | inr k ↦ n (has_one v (first_instance q) k)
      ]

      once_behind : NoneTwice is_vertex (way ++ first_instance q ∷ [])
      once_behind =
          NoneTwice-append is_vertex is_vertex-same way (first_instance q ∷ []) once ((λ h. listed_has is_vertex is_vertex-true is_vertex-same [] (first_instance q) h), tt)
          (λ a h k. (visited a (listed_has is_vertex is_vertex-true is_vertex-same way a k)).1.2 (has_one a (first_instance q) (listed_has is_vertex is_vertex-true is_vertex-same (first_instance q ∷ []) a h)))

      first_apart : first_instance p ≢ first_instance q
      first_apart e = apart (ap piece_id e)

      start_apart : start ≢ first_instance q
      start_apart e = other (ap (λ (v : Vertex). v.piece) e)

      pub sound : IsCycleOf program immediate p q ((lead p piece ++ way) ++ first_instance q ∷ [])
      sound = go (p.piece == piece) refl
        where
          p_once : ¬ IsListed is_vertex (way ++ first_instance q ∷ []) (first_instance p)
          p_once = unlisted (first_instance p) first_apart (λ w h. (visited w h).1.0)

          go : (t : Bool) → (p.piece == piece) ≡ t → IsCycleOf program immediate p q ((cond t (first_instance p ∷ []) (first_instance p ∷ start ∷ []) ++ way) ++ first_instance q ∷ [])
          go true e =
              let is : start ≡ first_instance p = same_vertex start (first_instance p) refl (sym (eqb-true p.piece piece e)) refl in
              closed way (subst (λ v. Path v way (first_instance q)) is fixed) (subst (λ v. HasConflict (steps_to v way (first_instance q))) is (conflict_of way walk.joined fixed)) (p_once, once_behind) present
          go false e =
              let p_apart : first_instance p ≢ start = λ f. false≢true (sym e ∙ eq-eqb p.piece piece (ap (λ (v : Vertex). v.piece) f)) in
              closed (start ∷ way)
              (ap is_fixed (edge-siblings program immediate (first_instance p) start (siblings_from (first_instance p) start refl refl) (λ f. p_apart (same_vertex (first_instance p) start refl f refl))), fixed)
              (or_right (is_conflict_edge (edge program immediate (first_instance p) start)) _ (conflict_of way walk.joined fixed))
              (p_unlisted p_apart, (unlisted start start_apart (λ w h. (visited w h).1.1), once_behind))
              (u_there, present)
            where
              p_unlisted : first_instance p ≢ start → ¬ IsListed is_vertex (start ∷ (way ++ first_instance q ∷ [])) (first_instance p)
              p_unlisted n h =
                  elim (listed_has is_vertex is_vertex-true is_vertex-same (start ∷ (way ++ first_instance q ∷ [])) (first_instance p) h) [
                    | inl f ↦ n f
                    | inr k ↦ p_once (has_listed is_vertex is_vertex-true is_vertex-same (way ++ first_instance q ∷ []) (first_instance p) k)
                  ]
