-- Cycles that begin and end in the first instance, and lead through second instances between
use Rattle.std.proofs.Common.{◌≡◌, ◌≢◌, Bool, true, false, ◌||◌, List, [], ◌∷◌, ◌++◌, map, Some, refl, sym, ap, subst, inl, inr, arith, length-append}
use Rattle.std.proofs.lemmas.Bool.{false≢true, or_right}
use Rattle.std.specs.List.{AllByRecursion, list_any}
use Rattle.roc_sequence.specs.Places.{NoneTwice, IsListed}
use Rattle.roc_sequence.specs.Lists.{Has}
use Rattle.roc_sequence.proofs.Listed.{listed_has}
use Rattle.roc_program.specs.Program.{Workload}
use Rattle.roc_program.specs.Pieces.{HasPiece}
use Rattle.roc_program.specs.Conflict.{are_in_conflict}
use Rattle.roc_program.specs.declared.piece_id.PieceId.{PieceId}
use Rattle.roc_program.proofs.PieceIds.{same_id_parts}
use Rattle.roc_scgraph.specs.declared.vertex.Vertex.{Vertex}
use Rattle.roc_scgraph.specs.declared.vertex.Instance.TheVariants.{First, Second}
use Rattle.roc_scgraph.specs.declared.vertex.Kind.TheVariants.{S, C}
use Rattle.roc_scgraph.specs.Graph.{piece_id, is_instance, is_vertex, edge}
use Rattle.roc_scgraph.specs.Cycles.{steps_to, is_fixed, is_sibling_edge, is_conflict_edge, first_instance, IsUnreorderable}
use Rattle.roc_scgraph.proofs.Vertices.{siblings_from, is_vertex-true, is_vertex-same, not_siblings, edge-siblings, edge-conflict}
use Rattle.roc_scgraph.proofs.Crossings.{AreFixed}

abbrev pub second : PieceId → Vertex
second p = record { proc = p.proc; piece = p.piece; instance = Second }

pub first≢second : First ≢ Second
first≢second e = false≢true (sym (ap (is_instance First) e))

-- none is another
abbrev pub AreApart : List PieceId → Type 0
AreApart [] = Unit {0}
AreApart (m ∷ ms) = AllByRecursion (λ n. m ≢ n) ms × AreApart ms

same_id : (m n : PieceId) → second m ≡ second n → m ≡ n
same_id m n e = ap piece_id e

-- a list of second instances, and one of a first behind it, hold none twice
not_listed : (m : PieceId) (ms : List PieceId) (q : PieceId) → AllByRecursion (λ n. m ≢ n) ms → ¬ IsListed is_vertex (map second ms ++ first_instance q ∷ []) (second m)
not_listed m ms q apart h = go ms apart (listed_has is_vertex is_vertex-true is_vertex-same (map second ms ++ first_instance q ∷ []) (second m) h)
  where
    go : (ns : List PieceId) → AllByRecursion (λ n. m ≢ n) ns → Has (second m) (map second ns ++ first_instance q ∷ []) → ⊥
    go [] a (inl e) = first≢second (sym (ap (λ (v : Vertex). v.instance) e))
    go [] a (inr k) = k
    go (n ∷ ns) a (inl e) = a.0 (same_id m n e)
    go (n ∷ ns) a (inr k) = go ns a.1 k

none_twice : (ms : List PieceId) (q : PieceId) → AreApart ms → NoneTwice is_vertex (map second ms ++ first_instance q ∷ [])
none_twice [] q a = (λ h. absurd (listed_has is_vertex is_vertex-true is_vertex-same [] (first_instance q) h), tt)
none_twice (m ∷ ms) q a = (not_listed m ms q a.0, none_twice ms q a.1)

first_not_listed : (p : PieceId) (ms : List PieceId) (q : PieceId) → p ≢ q → ¬ IsListed is_vertex (map second ms ++ first_instance q ∷ []) (first_instance p)
first_not_listed p ms q apart h = go ms (listed_has is_vertex is_vertex-true is_vertex-same (map second ms ++ first_instance q ∷ []) (first_instance p) h)
  where
    go : (ns : List PieceId) → Has (first_instance p) (map second ns ++ first_instance q ∷ []) → ⊥
    go [] (inl e) = apart (ap piece_id e)
    go [] (inr k) = k
    go (n ∷ ns) (inl e) = first≢second (ap (λ (v : Vertex). v.instance) e)
    go (n ∷ ns) (inr k) = go ns k

module _ (program : Workload) (immediate : PieceId → Bool) (q : PieceId) where
  -- each piece leads to the next, and the last one meets q
  abbrev pub LeadsOn : PieceId → List PieceId → Type 0
  LeadsOn m [] = are_in_conflict program m q ≡ true
  LeadsOn m (n ∷ ns) = (is_fixed (edge program immediate (second m) (second n)) ≡ true) × LeadsOn n ns

  leads_fixed : (p m : PieceId) (ms : List PieceId) → p ≢ q → p.proc ≡ q.proc → immediate q ≡ true → AllByRecursion (λ n. immediate n ≡ true) (m ∷ ms) → LeadsOn m ms → AreFixed program immediate (steps_to (second m) (map second ms ++ first_instance q ∷ []) (first_instance p))
  leads_fixed p m [] apart same iq im on = (
    ap is_fixed (edge-conflict program immediate (second m) (first_instance q) (not_siblings (second m) (first_instance q) (inr (λ e. first≢second (sym e)))) on im.0 iq),
    (ap is_fixed (edge-siblings program immediate (first_instance q) (first_instance p) (siblings_from (first_instance q) (first_instance p) (sym same) refl) (λ e. apart (same_id_parts p q same (sym e)))), tt),
  )
  leads_fixed p m (n ∷ ns) apart same iq im on = (on.0, leads_fixed p n ns apart same iq im.1 on.1)

  closing_sibling : (p : PieceId) (a : Vertex) (ms : List PieceId) → edge program immediate (first_instance q) (first_instance p) ≡ Some S
      → list_any (λ n. is_sibling_edge (edge program immediate n.0 n.1)) (steps_to a (map second ms ++ first_instance q ∷ []) (first_instance p)) ≡ true
  closing_sibling p a [] e = or_right (is_sibling_edge (edge program immediate a (first_instance q))) _ (subst (λ k. (is_sibling_edge k || false) ≡ true) (sym e) refl)
  closing_sibling p a (m ∷ ms) e = or_right (is_sibling_edge (edge program immediate a (second m))) _ (closing_sibling p (second m) ms e)

  present_all : (ms : List PieceId) → ((id : PieceId) → immediate id ≡ true → HasPiece program id) → AllByRecursion (λ n. immediate n ≡ true) ms → immediate q ≡ true
      → AllByRecursion (λ v. HasPiece program (piece_id v)) (map second ms ++ first_instance q ∷ [])
  present_all [] there im iq = (there q iq, tt)
  present_all (m ∷ ms) there im iq = (there m im.0, present_all ms there im.1 iq)

  -- the cycle
  pub through : (p m : PieceId) (ms : List PieceId) → ((id : PieceId) → immediate id ≡ true → HasPiece program id) → p ≢ q → p.proc ≡ q.proc → immediate p ≡ true → immediate q ≡ true
      → AllByRecursion (λ n. immediate n ≡ true) (m ∷ ms) → AreApart (m ∷ ms) → are_in_conflict program p m ≡ true → LeadsOn m ms
      → IsUnreorderable program immediate (first_instance p ∷ (map second (m ∷ ms) ++ first_instance q ∷ []))
  through p m ms there apart same ip iq im away meets on =
      let begins : edge program immediate (first_instance p) (second m) ≡ Some (C true) = edge-conflict program immediate (first_instance p) (second m) (not_siblings (first_instance p) (second m) (inr first≢second)) meets ip im.0 in
      let closing : edge program immediate (first_instance q) (first_instance p) ≡ Some S = edge-siblings program immediate (first_instance q) (first_instance p) (siblings_from (first_instance q) (first_instance p) (sym same) refl) (λ e. apart (same_id_parts p q same (sym e))) in
      record {
        long = omega (arith, length-append (map second ms) (first_instance q ∷ []));
        distinct = (first_not_listed p (m ∷ ms) q apart, none_twice (m ∷ ms) q away);
        present = (there p ip, present_all (m ∷ ms) there im iq);
        fixed = (ap is_fixed begins, leads_fixed p m ms apart same iq im on);
        some_sibling = closing_sibling p (first_instance p) (m ∷ ms) closing;
        some_conflict = subst (λ k. (is_conflict_edge k || list_any (λ n. is_conflict_edge (edge program immediate n.0 n.1)) (steps_to (second m) (map second ms ++ first_instance q ∷ []) (first_instance p))) ≡ true) (sym begins) refl;
      }
