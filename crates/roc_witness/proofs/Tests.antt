-- What tests of lists say
use Rattle.std.proofs.Common.{◌≡◌, ◌↔◌, Bool, true, false, List, [], ◌∷◌, IsTrue, sym, ◌∙◌, subst, refl}
use Rattle.std.proofs.lemmas.Bool.{false≢true, and_parts, and_from}
use Rattle.std.specs.List.{AllByRecursion, list_all, list_any}
use Rattle.roc_sequence.specs.Places.{NoneTwice}
use Rattle.roc_sequence.proofs.Listed.{any_listed, listed_any}
use Rattle.roc_scgraph.specs.declared.vertex.Vertex.{Vertex}
use Rattle.roc_scgraph.specs.Graph.{is_vertex}
use Rattle.roc_scgraph.proofs.Vertices.{is_vertex-true, is_vertex-same}

pub all_from_test : {A : Type 0} (p : A → Bool) (xs : List A) → list_all p xs ≡ true → AllByRecursion (λ x. IsTrue (p x)) xs
all_from_test p [] h = tt
all_from_test p (x ∷ xs) h = let q = and_parts (p x) (list_all p xs) h in (q.0, all_from_test p xs q.1)

pub test_from_all : {A : Type 0} (p : A → Bool) (xs : List A) → AllByRecursion (λ x. IsTrue (p x)) xs → list_all p xs ≡ true
test_from_all p [] h = refl
test_from_all p (x ∷ xs) h = and_from (p x) (list_all p xs) h.0 (test_from_all p xs h.1)

-- a list whose first stands there again, and one whose first does not
pub first_again : (v : Vertex) (vs all : List Vertex) → all ≡ v ∷ vs → list_any (is_vertex v) vs ≡ true → NoneTwice is_vertex all → ⊥
first_again v vs all e h once = (subst (NoneTwice is_vertex) e once).0 (any_listed is_vertex is_vertex-true is_vertex-same vs v h)

pub first_once : (v : Vertex) (vs all : List Vertex) → all ≡ v ∷ vs → list_any (is_vertex v) vs ≡ false → NoneTwice is_vertex all ↔ NoneTwice is_vertex vs
first_once v vs all e h = (
  λ once. (subst (NoneTwice is_vertex) e once).1,
  λ once. subst (NoneTwice is_vertex) (sym e) (λ l. false≢true (sym h ∙ listed_any is_vertex is_vertex-true is_vertex-same vs v l), once),
)
