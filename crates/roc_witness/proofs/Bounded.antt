-- Where there is a cycle through two pieces, there is one that leaves their instance with a walk of at most five vertices
use Rattle.std.proofs.Common.{◌≡◌, ◌≢◌, ℕ, ◌<◌, ◌≤◌, Bool, true, false, ◌==◌, List, [], ◌∷◌, ◌++◌, length, refl, sym, ap, subst, ◌∙◌, ◌⊎◌, inl, inr, arith}
use Rattle.std.proofs.lemmas.Bool.{false≢true, eqb-true, eq-eqb}
use Rattle.std.specs.List.{AllByRecursion}
use Rattle.roc_sequence.specs.Lists.{Has}
use Rattle.roc_sequence.proofs.Members.{has_right}
use Rattle.roc_sequence.proofs.Holds.{all_has}
use Rattle.roc_sequence.proofs.Listed.{has_listed}
use Rattle.roc_program.specs.Program.{Workload}
use Rattle.roc_program.specs.Pieces.{HasPiece, pieces_in}
use Rattle.roc_program.specs.Conflict.{are_in_conflict}
use Rattle.roc_program.specs.declared.piece_id.PieceId.{PieceId}
use Rattle.roc_program.proofs.PieceIds.{same_id_parts}
use Rattle.roc_conflict.proofs.Mirrored.{conflict_mirrored}
use Rattle.roc_conflict.proofs.Present.{present_from_conflict}
use Rattle.roc_scgraph.specs.declared.vertex.Vertex.{Vertex}
use Rattle.roc_scgraph.specs.declared.vertex.Instance.TheVariants.{First}
use Rattle.roc_scgraph.specs.Graph.{piece_id, is_vertex, edge}
use Rattle.roc_scgraph.specs.Cycles.{steps_to, is_fixed, first_instance, IsUnreorderable}
use Rattle.roc_scgraph.proofs.Vertices.{siblings_share, siblings_from, same_vertex, same_piece, is_vertex-true, is_vertex-same, not_siblings, edge-siblings, edge-conflict}
use Rattle.roc_scgraph.proofs.Crossings.{Meets, AreTwo}
use Rattle.roc_scgraph.proofs.Middles.{second, first≢second}
use Rattle.roc_scgraph.proofs.Turned.{two_contended, steps-append}
use Rattle.roc_witness.specs.Shortest.{IsCycleOf}
use Rattle.roc_witness.specs.Inner.Table.{IsTableOf}
use Rattle.roc_witness.specs.Inner.Vertices.{vertices, open_vertices}
use Rattle.roc_witness.specs.Inner.Walks.{may_step, IsWalk}
use Rattle.roc_witness.specs.Inner.Candidates.{sibling}
use Rattle.roc_witness.proofs.Leaving.{Fixed, IsVisitable, walk_from}

same_or_not : (m n : PieceId) → (m ≡ n) ⊎ (m ≢ n)
same_or_not m n = go (m.proc == n.proc) (m.piece == n.piece) refl refl
  where
    go : (s t : Bool) → (m.proc == n.proc) ≡ s → (m.piece == n.piece) ≡ t → (m ≡ n) ⊎ (m ≢ n)
    go true true e f = inl (same_id_parts m n (eqb-true m.proc n.proc e) (eqb-true m.piece n.piece f))
    go false t e f = inr (λ is. false≢true (sym e ∙ eq-eqb m.proc n.proc (ap (λ (k : PieceId). k.proc) is)))
    go true false e f = inr (λ is. false≢true (sym f ∙ eq-eqb m.piece n.piece (ap (λ (k : PieceId). k.piece) is)))

module _ (program : Workload) (immediate : PieceId → Bool) (table : List (List Bool)) (exact : IsTableOf program immediate table) (p q : PieceId) (same : p.proc ≡ q.proc) where
  -- a step between second instances
  along : (m n : PieceId) → m ≢ n → are_in_conflict program m n ≡ true → immediate m ≡ true → immediate n ≡ true → is_fixed (edge program immediate (second m) (second n)) ≡ true
  along m n apart meets im jn = go (m.proc == n.proc) refl
    where
      go : (t : Bool) → (m.proc == n.proc) ≡ t → is_fixed (edge program immediate (second m) (second n)) ≡ true
      go true e =
          let is : m.proc ≡ n.proc = eqb-true m.proc n.proc e in
          ap is_fixed (edge-siblings program immediate (second m) (second n) (siblings_from (second m) (second n) is refl) (λ f. apart (same_id_parts m n is f)))
      go false e = ap is_fixed (edge-conflict program immediate (second m) (second n) (not_siblings (second m) (second n) (inl (λ f. false≢true (sym e ∙ eq-eqb m.proc n.proc f)))) meets im jn)

  -- the rest of a walk from u, of so few vertices
  record Tail (u a : Vertex) (most : ℕ) : Type 0 where
    way : List Vertex
    few : length way ≤ most
    fixed : Fixed program immediate table exact p q same a way (first_instance q)
    visit : AllByRecursion (IsVisitable program immediate table exact p q same u) way

  pub record IsShort : Type 0 where
    pub piece : ℕ
    pub below : piece < length (pieces_in program p.proc)
    pub other : piece ≢ q.piece
    pub way : List Vertex
    pub few : length way ≤ 5
    pub walk : IsWalk (may_step table (sibling p piece)) (open_vertices (vertices program) (first_instance p) (sibling p piece) (first_instance q)) (sibling p piece) (first_instance q) way

  module _ (last : HasPiece program q) (u v : Vertex) (u_first : u.instance ≡ First) (v_first : v.instance ≡ First) (u_of : u.proc ≡ q.proc) (v_of : v.proc ≡ q.proc) (u_meets : Meets program immediate u) (v_meets : Meets program immediate v)
      (apart : u ≢ v) (u_apart : u ≢ first_instance q) (v_apart : v ≢ first_instance p) where
    abbrev x : PieceId
    x = u_meets.other

    abbrev y : PieceId
    y = v_meets.other

    abbrev Visitable : Vertex → Type 0
    Visitable = IsVisitable program immediate table exact p q same u

    mirrored : (m n : PieceId) → are_in_conflict program m n ≡ true → are_in_conflict program n m ≡ true
    mirrored m n h = conflict_mirrored program n m ∙ h

    piece_there : (m n : PieceId) → are_in_conflict program m n ≡ true → HasPiece program m
    piece_there m n h = present_from_conflict program n m (mirrored m n h)

    visit_second : (m : PieceId) → HasPiece program m → Visitable (second m)
    visit_second m there =
        record {
          there = there;
          not_first = λ e. first≢second (sym (ap (λ (w : Vertex). w.instance) e));
          not_start = λ e. first≢second (sym (ap (λ (w : Vertex). w.instance) e ∙ u_first));
          not_last = λ e. first≢second (sym (ap (λ (w : Vertex). w.instance) e));
        }

    -- a first instance and a second one that it meets
    leap : (w : Vertex) (m : PieceId) → w.instance ≡ First → are_in_conflict program (piece_id w) m ≡ true → immediate (piece_id w) ≡ true → immediate m ≡ true → is_fixed (edge program immediate w (second m)) ≡ true
    leap w m is meets im jn = ap is_fixed (edge-conflict program immediate w (second m) (not_siblings w (second m) (inr (λ e. first≢second (sym is ∙ e)))) meets im jn)

    land : (w : Vertex) (m : PieceId) → w.instance ≡ First → are_in_conflict program (piece_id w) m ≡ true → immediate (piece_id w) ≡ true → immediate m ≡ true → is_fixed (edge program immediate (second m) w) ≡ true
    land w m is meets im jn =
        ap is_fixed (edge-conflict program immediate (second m) w (not_siblings (second m) w (inr (λ e. first≢second (sym is ∙ sym e)))) (mirrored (piece_id w) m meets) jn im)

    -- from y home to q
    home : Tail u (second y) 1
    home = go (same_or_not (piece_id v) q)
      where
        go : (piece_id v ≡ q) ⊎ (piece_id v ≢ q) → Tail u (second y) 1
        go (inl e) =
            let is : v ≡ first_instance q = same_piece v (first_instance q) e v_first in
            record { way = []; few = omega arith; fixed = (subst (λ w. is_fixed (edge program immediate (second y) w) ≡ true) is (land v y v_first v_meets.conflict v_meets.at_start v_meets.other_at_start), tt); visit = tt }
        go (inr n) =
            record {
              way = v ∷ [];
              few = omega arith;
              fixed = (
                land v y v_first v_meets.conflict v_meets.at_start v_meets.other_at_start,
                (ap is_fixed (edge-siblings program immediate v (first_instance q) (siblings_from v (first_instance q) v_of v_first) (λ e. n (same_id_parts (piece_id v) q v_of e))), tt),
              );
              visit = (
                record {
                  there = piece_there (piece_id v) y v_meets.conflict;
                  not_first = v_apart;
                  not_start = λ e. apart (sym e);
                  not_last = λ e. n (ap piece_id e);
                },
                tt,
              );
            }

    -- from v's second instance
    turn_back : Tail u (second (piece_id v)) 2
    turn_back = go (same_or_not (piece_id v) y)
      where
        go : (piece_id v ≡ y) ⊎ (piece_id v ≢ y) → Tail u (second (piece_id v)) 2
        go (inl e) = subst (λ m. Tail u (second m) 2) (sym e) (record { way = home.way; few = omega (arith, home.few); fixed = home.fixed; visit = home.visit })
        go (inr n) =
            record {
              way = second y ∷ home.way;
              few = omega (arith, home.few);
              fixed = (along (piece_id v) y n v_meets.conflict v_meets.at_start v_meets.other_at_start, home.fixed);
              visit = (visit_second y (present_from_conflict program (piece_id v) y v_meets.conflict), home.visit);
            }

    -- from u's
    cross : Tail u (second (piece_id u)) 3
    cross =
        record {
          way = second (piece_id v) ∷ turn_back.way;
          few = omega (arith, turn_back.few);
          fixed = (
            ap is_fixed (edge-siblings program immediate (second (piece_id u)) (second (piece_id v)) (siblings_from (second (piece_id u)) (second (piece_id v)) (u_of ∙ sym v_of) refl)
                (λ e. apart (same_vertex u v (u_of ∙ sym v_of) e (u_first ∙ sym v_first)))),
            turn_back.fixed,
          );
          visit = (visit_second (piece_id v) (piece_there (piece_id v) y v_meets.conflict), turn_back.visit);
        }

    -- from x
    turn : Tail u (second x) 4
    turn = go (same_or_not x (piece_id u))
      where
        go : (x ≡ piece_id u) ⊎ (x ≢ piece_id u) → Tail u (second x) 4
        go (inl e) = subst (λ m. Tail u (second m) 4) (sym e) (record { way = cross.way; few = omega (arith, cross.few); fixed = cross.fixed; visit = cross.visit })
        go (inr n) =
            record {
              way = second (piece_id u) ∷ cross.way;
              few = omega (arith, cross.few);
              fixed = (along x (piece_id u) n (mirrored (piece_id u) x u_meets.conflict) u_meets.other_at_start u_meets.at_start, cross.fixed);
              visit = (visit_second (piece_id u) (piece_there (piece_id u) x u_meets.conflict), cross.visit);
            }

    whole : IsShort
    whole =
        let is : u ≡ sibling p u.piece = same_vertex u (sibling p u.piece) (u_of ∙ sym same) refl u_first in
        let there : HasPiece program (piece_id u) = piece_there (piece_id u) x u_meets.conflict in
        record {
          piece = u.piece;
          below = subst (λ n. u.piece < length (pieces_in program n)) (u_of ∙ sym same) there.piece;
          other = λ e. u_apart (same_vertex u (first_instance q) u_of e u_first);
          way = second x ∷ turn.way;
          few = omega (arith, turn.few);
          walk = subst (λ w. IsWalk (may_step table w) (open_vertices (vertices program) (first_instance p) w (first_instance q)) w (first_instance q) (second x ∷ turn.way)) is
              (walk_from program immediate table exact p q same u (second x) turn.way there last (visit_second x (present_from_conflict program (piece_id u) x u_meets.conflict), turn.visit)
              (not_siblings u (second x) (inr (λ e. first≢second (sym u_first ∙ e)))) (leap u x u_first u_meets.conflict u_meets.at_start u_meets.other_at_start, turn.fixed));
        }

  vertex_or_not : (a b : Vertex) → a.instance ≡ b.instance → (a ≡ b) ⊎ (a ≢ b)
  vertex_or_not a b e = elim (same_or_not (piece_id a) (piece_id b)) [ inl f ↦ inl (same_piece a b f e) | inr n ↦ inr (λ f. n (ap piece_id f)) ]

  -- of each cycle
  pub bounded : (d : List Vertex) → IsCycleOf program immediate p q d → IsShort
  bounded d is = go (vertex_or_not two.one (first_instance q) one_first) (vertex_or_not two.other (first_instance p) other_first)
    where
      cycle : IsUnreorderable program immediate (first_instance p ∷ (is.between ++ first_instance q ∷ []))
      cycle = subst (IsUnreorderable program immediate) is.ends is.unreorderable

      closing : Has (first_instance q, first_instance p) (steps_to (first_instance p) (is.between ++ first_instance q ∷ []) (first_instance p))
      closing =
          subst (λ steps. Has (first_instance q, first_instance p) steps) (sym (steps-append (first_instance p) is.between (first_instance q) [] (first_instance p)))
          (has_right (first_instance q, first_instance p) (steps_to (first_instance p) is.between (first_instance q)) ((first_instance q, first_instance p) ∷ []) (inl refl))

      two : AreTwo program immediate (first_instance q)
      two = two_contended program immediate (conflict_mirrored program) (first_instance p ∷ (is.between ++ first_instance q ∷ [])) (first_instance q) (first_instance p) cycle closing (siblings_from (first_instance q) (first_instance p) (sym same) refl)

      one_of : two.one.proc ≡ q.proc
      one_of = sym (siblings_share (first_instance q) two.one two.one_inside).0

      one_first : two.one.instance ≡ First
      one_first = sym (siblings_share (first_instance q) two.one two.one_inside).1

      other_of : two.other.proc ≡ q.proc
      other_of = sym (siblings_share (first_instance q) two.other two.other_inside).0

      other_first : two.other.instance ≡ First
      other_first = sym (siblings_share (first_instance q) two.other two.other_inside).1

      there : HasPiece program q
      there = all_has (λ v. HasPiece program (piece_id v)) (first_instance q) (is.between ++ first_instance q ∷ []) cycle.present.1 (has_right (first_instance q) is.between (first_instance q ∷ []) (inl refl))

      ends_apart : first_instance p ≢ first_instance q
      ends_apart e = cycle.distinct.0 (has_listed is_vertex is_vertex-true is_vertex-same (is.between ++ first_instance q ∷ []) (first_instance p) (subst (λ v. Has v (is.between ++ first_instance q ∷ [])) (sym e) (has_right (first_instance q) is.between (first_instance q ∷ []) (inl refl))))

      swapped : two.other ≢ first_instance q → two.one ≢ first_instance p → IsShort
      swapped n m = whole there two.other two.one other_first one_first other_of one_of two.other_meets two.one_meets (λ e. two.apart (sym e)) n m

      go : (two.one ≡ first_instance q) ⊎ (two.one ≢ first_instance q) → (two.other ≡ first_instance p) ⊎ (two.other ≢ first_instance p) → IsShort
      go (inl e) t = swapped (λ f. two.apart (e ∙ sym f)) (λ f. ends_apart (sym f ∙ e))
      go (inr n) (inl f) = swapped (λ e. ends_apart (sym f ∙ e)) (λ e. two.apart (e ∙ sym f))
      go (inr n) (inr m) = whole there two.one two.other one_first other_first one_of other_of two.one_meets two.other_meets two.apart n m
