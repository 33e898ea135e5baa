-- Each cycle through two pieces is one that leaves their instance at its first or second vertex, or there is a shorter one that does
use Rattle.std.proofs.Common.{◌≡◌, ◌≢◌, ℕ, ◌+◌, ◌<◌, Bool, true, false, cond, not, ◌==◌, ◌&&◌, List, [], ◌∷◌, ◌++◌, length, IsTrue, refl, sym, ap, subst, ◌∙◌, ◌⊎◌, inl, inr, arith, length-append}
use Rattle.std.proofs.lemmas.Bool.{false≢true, and_from, and_parts, eq-eqb, eqb-true}
use Rattle.std.specs.List.{AllByRecursion}
use Rattle.roc_sequence.specs.Lists.{Has}
use Rattle.roc_sequence.specs.Places.{NoneTwice}
use Rattle.roc_sequence.proofs.Listed.{has_listed}
use Rattle.roc_sequence.proofs.Members.{has_left, has_right, has_filter}
use Rattle.roc_sequence.proofs.Holds.{all_append, all_has, has_all}
use Rattle.roc_program.specs.Program.{Workload}
use Rattle.roc_program.specs.Pieces.{HasPiece, pieces_in}
use Rattle.roc_program.specs.declared.piece_id.PieceId.{PieceId}
use Rattle.roc_scgraph.specs.declared.vertex.Vertex.{Vertex}
use Rattle.roc_scgraph.specs.Graph.{piece_id, are_siblings, is_vertex}
use Rattle.roc_scgraph.specs.Cycles.{steps_to, first_instance, IsUnreorderable}
use Rattle.roc_scgraph.proofs.Vertices.{siblings_share, siblings_from, same_vertex, is_vertex-true, is_vertex-same, is_vertex-ne}
use Rattle.roc_scgraph.proofs.Crossings.{AreFixed, no_conflict_inside, apart_from}
use Rattle.roc_scgraph.proofs.Turned.{steps-append, front_all, front_apart}
use Rattle.roc_witness.specs.Shortest.{IsCycleOf}
use Rattle.roc_witness.specs.Inner.Table.{joins, IsTableOf}
use Rattle.roc_witness.specs.Inner.Vertices.{vertices, is_open, open_vertices}
use Rattle.roc_witness.specs.Inner.Walks.{may_step, IsWalk}
use Rattle.roc_witness.specs.Inner.Candidates.{sibling, lead}
use Rattle.roc_witness.proofs.Joined.{joins_fixed}
use Rattle.roc_witness.proofs.Listed.{has_vertex}

apart_test : (t : Bool) → t ≡ false → not t ≡ true
apart_test t e = ap not e

-- ---- open vertices

open_from : (p start q v : Vertex) → v ≢ p → v ≢ start → v ≢ q → is_open p start q v ≡ true
open_from p start q v a b c =
    and_from (not (is_vertex v p)) _ (apart_test (is_vertex v p) (is_vertex-ne v p a))
    (and_from (not (is_vertex v start)) (not (is_vertex v q)) (apart_test (is_vertex v start) (is_vertex-ne v start b)) (apart_test (is_vertex v q) (is_vertex-ne v q c)))

not_test : (v w : Vertex) → not (is_vertex v w) ≡ true → v ≢ w
not_test v w h e = false≢true (sym (ap not (subst (λ u. is_vertex v u ≡ true) e (is_vertex-same v))) ∙ h)

pub open_parts : (p start q v : Vertex) → is_open p start q v ≡ true → (v ≢ p) × (v ≢ start) × (v ≢ q)
open_parts p start q v h =
    let one = and_parts (not (is_vertex v p)) _ h in
    let two = and_parts (not (is_vertex v start)) (not (is_vertex v q)) one.1 in
    (not_test v p one.0, not_test v start two.0, not_test v q two.1)

module _ (program : Workload) (immediate : PieceId → Bool) (table : List (List Bool)) (exact : IsTableOf program immediate table) (p q : PieceId) (same : p.proc ≡ q.proc) where
  abbrev pub Fixed : Vertex → List Vertex → Vertex → Type 0
  Fixed a ws end = AreFixed program immediate (steps_to a ws end)

  -- a vertex that a walk from u may visit
  pub record IsVisitable (u w : Vertex) : Type 0 where
    pub there : HasPiece program (piece_id w)
    pub not_first : w ≢ first_instance p
    pub not_start : w ≢ u
    pub not_last : w ≢ first_instance q

  -- ---- a path is a walk

  later : (u a : Vertex) (ws : List Vertex) → a ≢ u → HasPiece program (piece_id a) → AllByRecursion (IsVisitable u) ws → HasPiece program (piece_id (first_instance q)) → Fixed a ws (first_instance q)
      → AllByRecursion (λ n. IsTrue (may_step table u n.0 n.1)) (steps_to a ws (first_instance q))
  later u a [] away there visit last fixed = (
    and_from (joins table a (first_instance q)) _ (joins_fixed program immediate table exact a (first_instance q) there last ∙ fixed.0)
        (ap (λ (t : Bool). not (t && are_siblings a (first_instance q))) (is_vertex-ne u a (λ e. away (sym e)))),
    tt,
  )
  later u a (w ∷ ws) away there visit last fixed = (
    and_from (joins table a w) _ (joins_fixed program immediate table exact a w there visit.0.there ∙ fixed.0) (ap (λ (t : Bool). not (t && are_siblings a w)) (is_vertex-ne u a (λ e. away (sym e)))),
    later u w ws visit.0.not_start visit.0.there visit.1 last fixed.1,
  )

  pub walk_from : (u w : Vertex) (ws : List Vertex) → HasPiece program (piece_id u) → HasPiece program (piece_id (first_instance q)) → AllByRecursion (IsVisitable u) (w ∷ ws) → are_siblings u w ≡ false → Fixed u (w ∷ ws) (first_instance q)
      → IsWalk (may_step table u) (open_vertices (vertices program) (first_instance p) u (first_instance q)) u (first_instance q) (w ∷ ws)
  walk_from u w ws there last visit out fixed =
      record {
        within = has_all (λ v. Has v (open_vertices (vertices program) (first_instance p) u (first_instance q))) (w ∷ ws)
            (λ v h. let a = all_has (IsVisitable u) v (w ∷ ws) visit h in
            has_filter (is_open (first_instance p) u (first_instance q)) v (vertices program) (has_vertex program v a.there) (open_from (first_instance p) u (first_instance q) v a.not_first a.not_start a.not_last));
        joined = (
          and_from (joins table u w) _ (joins_fixed program immediate table exact u w there visit.0.there ∙ fixed.0) (ap (λ (t : Bool). not (is_vertex u u && t)) out ∙ go (is_vertex u u)),
          later u w ws visit.0.not_start visit.0.there visit.1 last fixed.1,
        );
      }
    where
      go : (t : Bool) → not (t && false) ≡ true
      go true = refl
      go false = refl

  -- ---- the last vertex of the instance before a cycle leaves it

  abbrev Inside : Vertex → Type 0
  Inside v = are_siblings (first_instance p) v ≡ true

  -- where that is: at the start, at the vertex behind it, or further on
  data IsAt (u start next : Vertex) (more rest : List Vertex) : Type 0 where
    here : start ≡ u → next ∷ more ≡ rest → IsAt u start next more rest
    behind : start ≢ first_instance p → start ∷ next ∷ more ≡ rest → IsAt u start next more rest
    further : start ≢ first_instance p → length more + 2 < length rest → IsAt u start next more rest

  record Leaves (u : Vertex) (rest : List Vertex) : Type 0 where
    start : Vertex
    next : Vertex
    more : List Vertex
    inside : Inside start
    there : HasPiece program (piece_id start)
    out : are_siblings (first_instance p) next ≡ false
    fixed : Fixed start (next ∷ more) (first_instance q)
    once : NoneTwice is_vertex (start ∷ (next ∷ (more ++ first_instance q ∷ [])))
    present : AllByRecursion (λ v. HasPiece program (piece_id v)) (next ∷ more)
    away : AllByRecursion (λ v. v ≢ first_instance p) (next ∷ more)
    is_at : IsAt u start next more rest

  leaving : (u : Vertex) (rest : List Vertex) → Inside u → HasPiece program (piece_id u) → Fixed u rest (first_instance q) → NoneTwice is_vertex (u ∷ (rest ++ first_instance q ∷ []))
      → AllByRecursion (λ v. HasPiece program (piece_id v)) rest → AllByRecursion (λ v. v ≢ first_instance p) rest → (AllByRecursion Inside rest → ⊥) → Leaves u rest
  leaving u [] inside there fixed once present away out = absurd (out tt)
  leaving u (v ∷ vs) inside there fixed once present away out =
      go (are_siblings (first_instance p) v) refl (λ e. leaving v vs e present.0 fixed.1 once.1 present.1 away.1 (λ all. out (e, all)))
    where
      onwards : (start next : Vertex) (more : List Vertex) → IsAt v start next more vs → IsAt u start next more (v ∷ vs)
      onwards start next more (here e f) = behind (λ g. away.0 (sym e ∙ g)) (cc)
      onwards start next more (behind n e) = further n (omega (arith, ap (λ (l : List Vertex). length l) e))
      onwards start next more (further n l) = further n (omega arith)

      go : (t : Bool) → are_siblings (first_instance p) v ≡ t → (are_siblings (first_instance p) v ≡ true → Leaves v vs) → Leaves u (v ∷ vs)
      go false e rest = record { start = u; next = v; more = vs; inside = inside; there = there; out = e; fixed = fixed; once = once; present = present; away = away; is_at = here refl refl }
      go true e rest =
          let r = rest e in
          record {
            start = r.start;
            next = r.next;
            more = r.more;
            inside = r.inside;
            there = r.there;
            out = r.out;
            fixed = r.fixed;
            once = r.once;
            present = r.present;
            away = r.away;
            is_at = onwards r.start r.next r.more r.is_at;
          }

  -- ---- the cycle that leaves there

  lead_own : lead p p.piece ≡ first_instance p ∷ []
  lead_own = ap (λ (t : Bool). cond t (first_instance p ∷ []) (first_instance p ∷ sibling p p.piece ∷ [])) (eq-eqb p.piece p.piece refl)

  lead_other : (piece : ℕ) → p.piece ≢ piece → lead p piece ≡ first_instance p ∷ sibling p piece ∷ []
  lead_other piece n = go (p.piece == piece) refl
    where
      go : (t : Bool) → (p.piece == piece) ≡ t → cond t (first_instance p ∷ []) (first_instance p ∷ sibling p piece ∷ []) ≡ first_instance p ∷ sibling p piece ∷ []
      go true e = absurd (n (eqb-true p.piece piece e))
      go false e = refl

  -- a cycle of a walk is this one, or shorter
  pub record IsEarly (d : List Vertex) : Type 0 where
    pub piece : ℕ
    pub below : piece < length (pieces_in program p.proc)
    pub other : piece ≢ q.piece
    pub way : List Vertex
    pub walk : IsWalk (may_step table (sibling p piece)) (open_vertices (vertices program) (first_instance p) (sibling p piece) (first_instance q)) (sibling p piece) (first_instance q) way
    pub near : ((lead p piece ++ way) ++ first_instance q ∷ [] ≡ d) ⊎ (length ((lead p piece ++ way) ++ first_instance q ∷ []) < length d)

  module _ (rest : List Vertex) (last : HasPiece program (piece_id (first_instance q))) where
    walk_of : (r : Leaves (first_instance p) rest) → IsWalk (may_step table r.start) (open_vertices (vertices program) (first_instance p) r.start (first_instance q)) r.start (first_instance q) (r.next ∷ r.more)
    walk_of r =
        walk_from r.start r.next r.more r.there last
        (has_all (IsVisitable r.start) (r.next ∷ r.more)
        (λ v h. record {
          there = all_has (λ v. HasPiece program (piece_id v)) v (r.next ∷ r.more) r.present h;
          not_first = all_has (λ v. v ≢ first_instance p) v (r.next ∷ r.more) r.away h;
          not_start = λ e. r.once.0 (has_listed is_vertex is_vertex-true is_vertex-same (r.next ∷ (r.more ++ first_instance q ∷ [])) r.start (has_left r.start (r.next ∷ r.more) (first_instance q ∷ []) (subst (λ w. Has w (r.next ∷ r.more)) e h)));
          not_last = λ e. front_apart (r.next ∷ r.more) (first_instance q ∷ []) r.once.1 v h (inl e);
        }))
        (apart_from (first_instance p) r.start r.next r.inside r.out) r.fixed

    early_from : (r : Leaves (first_instance p) rest) → IsEarly (first_instance p ∷ (rest ++ first_instance q ∷ []))
    early_from r =
        let share = siblings_share (first_instance p) r.start r.inside in
        let is : r.start ≡ sibling p r.start.piece = same_vertex r.start (sibling p r.start.piece) (sym share.0) refl (sym share.1) in
        record {
          piece = r.start.piece;
          below = subst (λ n. r.start.piece < length (pieces_in program n)) (sym share.0) r.there.piece;
          other = λ e. front_apart (r.start ∷ r.next ∷ r.more) (first_instance q ∷ []) r.once r.start (inl refl) (inl (same_vertex r.start (first_instance q) (sym share.0 ∙ same) e (sym share.1)));
          way = r.next ∷ r.more;
          walk = subst (λ u. IsWalk (may_step table u) (open_vertices (vertices program) (first_instance p) u (first_instance q)) u (first_instance q) (r.next ∷ r.more)) is (walk_of r);
          near = go r.is_at;
        }
      where
        own : r.start ≢ first_instance p → p.piece ≢ r.start.piece
        own n e = let share = siblings_share (first_instance p) r.start r.inside in n (same_vertex r.start (first_instance p) (sym share.0) (sym e) (sym share.1))

        put : List Vertex → List Vertex
        put ls = (ls ++ (r.next ∷ r.more)) ++ first_instance q ∷ []

        go : IsAt (first_instance p) r.start r.next r.more rest → (put (lead p r.start.piece) ≡ first_instance p ∷ (rest ++ first_instance q ∷ [])) ⊎ (length (put (lead p r.start.piece)) < length (first_instance p ∷ (rest ++ first_instance q ∷ [])))
        go (here e f) =
            let piece_is : r.start.piece ≡ p.piece = ap (λ (v : Vertex). v.piece) e in
            inl (ap (λ (k : ℕ). put (lead p k)) piece_is ∙ ap put lead_own ∙ ap (λ (vs : List Vertex). first_instance p ∷ (vs ++ first_instance q ∷ [])) f)
        go (behind n e) =
            let share = siblings_share (first_instance p) r.start r.inside in
            let is : sibling p r.start.piece ≡ r.start = same_vertex (sibling p r.start.piece) r.start share.0 refl share.1 in
            inl (ap put (lead_other r.start.piece (own n)) ∙ ap (λ (v : Vertex). put (first_instance p ∷ v ∷ [])) is ∙ ap (λ (vs : List Vertex). first_instance p ∷ (vs ++ first_instance q ∷ [])) e)
        go (further n l) =
            inr (subst (λ ls. length (put ls) < length (first_instance p ∷ (rest ++ first_instance q ∷ []))) (sym (lead_other r.start.piece (own n))) (omega (arith, length-append rest (first_instance q ∷ []), length-append r.more (first_instance q ∷ []))))

  -- of each cycle
  pub early : (d : List Vertex) → IsCycleOf program immediate p q d → IsEarly d
  early d is =
      let cycle : IsUnreorderable program immediate (first_instance p ∷ (is.between ++ first_instance q ∷ [])) = subst (IsUnreorderable program immediate) is.ends is.unreorderable in
      let steps : AreFixed program immediate (steps_to (first_instance p) is.between (first_instance q) ++ steps_to (first_instance q) [] (first_instance p)) = subst (AreFixed program immediate) (steps-append (first_instance p) is.between (first_instance q) [] (first_instance p)) cycle.fixed in
      let goal_inside : Inside (first_instance q) = siblings_from (first_instance p) (first_instance q) same refl in
      let itself : Inside (first_instance p) = siblings_from (first_instance p) (first_instance p) refl refl in
      subst IsEarly (sym is.ends)
      (early_from is.between (back_of is.between cycle.present.1)
      (leaving (first_instance p) is.between itself cycle.present.0 (front_all _ (steps_to (first_instance p) is.between (first_instance q)) (steps_to (first_instance q) [] (first_instance p)) steps) cycle.distinct
      (front_all (λ v. HasPiece program (piece_id v)) is.between (first_instance q ∷ []) cycle.present.1)
      (has_all (λ v. v ≢ first_instance p) is.between (λ v h e. cycle.distinct.0 (has_listed is_vertex is_vertex-true is_vertex-same (is.between ++ first_instance q ∷ []) (first_instance p) (has_left (first_instance p) is.between (first_instance q ∷ []) (subst (λ w. Has w is.between) e h)))))
      (λ all. false≢true (sym (no_conflict_inside program immediate (first_instance p) (first_instance p) (is.between ++ first_instance q ∷ []) (first_instance p) itself (all_append Inside is.between (first_instance q ∷ []) all (goal_inside, tt)) itself) ∙ cycle.some_conflict))))
    where
      back_of : (vs : List Vertex) → AllByRecursion (λ v. HasPiece program (piece_id v)) (vs ++ first_instance q ∷ []) → HasPiece program (piece_id (first_instance q))
      back_of vs h = all_has (λ v. HasPiece program (piece_id v)) (first_instance q) (vs ++ first_instance q ∷ []) h (has_right (first_instance q) vs (first_instance q ∷ []) (inl refl))
