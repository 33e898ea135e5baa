-- A cycle read from another of its vertices on
use Rattle.std.proofs.Common.{◌≡◌, Bool, true, false, List, [], ◌∷◌, ◌++◌, refl, sym, ap, subst, ◌∙◌, ◌⊎◌, inl, inr, append_assoc, arith}
use Rattle.std.proofs.lemmas.Bool.{false≢true}
use Rattle.std.specs.List.{AllByRecursion, list_any}
use Rattle.roc_sequence.specs.Lists.{Has}
use Rattle.roc_sequence.specs.Places.{NoneTwice, IsListed}
use Rattle.roc_sequence.proofs.Listed.{listed_has, has_listed}
use Rattle.roc_sequence.proofs.Members.{has_right}
use Rattle.roc_sequence.proofs.Appended.{listed_front, NoneTwice-append}
use Rattle.roc_sequence.proofs.Holds.{all_append}
use Rattle.roc_program.specs.Program.{Workload}
use Rattle.roc_program.specs.Conflict.{are_in_conflict}
use Rattle.roc_program.specs.declared.piece_id.PieceId.{PieceId}
use Rattle.roc_scgraph.specs.declared.vertex.Vertex.{Vertex}
use Rattle.roc_scgraph.specs.Graph.{are_siblings, is_vertex, edge}
use Rattle.roc_scgraph.specs.Cycles.{steps_to, neighbours, is_conflict_edge, IsUnreorderable}
use Rattle.roc_scgraph.proofs.Vertices.{siblings_from, is_vertex-true, is_vertex-same}
use Rattle.roc_scgraph.proofs.Crossings.{AreFixed, AreTwo, no_conflict_inside, inside_or_out, leaves}

-- ---- lists that hold none twice

front_none_twice : {A : Type 0} (is : A → A → Bool) (us vs : List A) → NoneTwice is (us ++ vs) → NoneTwice is us
front_none_twice is [] vs h = tt
front_none_twice is (u ∷ us) vs h = (λ l. h.0 (listed_front is us vs u l), front_none_twice is us vs h.1)

back_none_twice : {A : Type 0} (is : A → A → Bool) (us vs : List A) → NoneTwice is (us ++ vs) → NoneTwice is vs
back_none_twice is [] vs h = h
back_none_twice is (u ∷ us) vs h = back_none_twice is us vs h.1

-- what stands in the front does not stand behind it
pub front_apart : (us vs : List Vertex) → NoneTwice is_vertex (us ++ vs) → (a : Vertex) → Has a us → Has a vs → ⊥
front_apart [] vs h a here back = here
front_apart (u ∷ us) vs h a (inl e) back = h.0 (subst (IsListed is_vertex (us ++ vs)) e (has_listed is_vertex is_vertex-true is_vertex-same (us ++ vs) a (has_right a us vs back)))
front_apart (u ∷ us) vs h a (inr k) back = front_apart us vs h.1 a k back

turned_none_twice : (us vs : List Vertex) → NoneTwice is_vertex (us ++ vs) → NoneTwice is_vertex (vs ++ us)
turned_none_twice us vs h =
    NoneTwice-append is_vertex is_vertex-same vs us (back_none_twice is_vertex us vs h) (front_none_twice is_vertex us vs h)
    (λ a i j. front_apart us vs h a (listed_has is_vertex is_vertex-true is_vertex-same us a i) (listed_has is_vertex is_vertex-true is_vertex-same vs a j))

-- ---- steps

pub steps-append : (u : Vertex) (vs : List Vertex) (w : Vertex) (ws : List Vertex) (end : Vertex) → steps_to u (vs ++ w ∷ ws) end ≡ steps_to u vs w ++ steps_to w ws end
steps-append u [] w ws end = refl
steps-append u (v ∷ vs) w ws end = ap (λ rest. (u, v) ∷ rest) (steps-append v vs w ws end)

pub front_all : {A : Type 0} (P : A → Type 0) (xs ys : List A) → AllByRecursion P (xs ++ ys) → AllByRecursion P xs
front_all P [] ys h = tt
front_all P (x ∷ xs) ys h = (h.0, front_all P xs ys h.1)

back_all : {A : Type 0} (P : A → Type 0) (xs ys : List A) → AllByRecursion P (xs ++ ys) → AllByRecursion P ys
back_all P [] ys h = h
back_all P (x ∷ xs) ys h = back_all P xs ys h.1

-- where a step of a path stands
record StandsAt (c : Vertex) (ws : List Vertex) (end a b : Vertex) : Type 0 where
  before : List Vertex
  behind : List Vertex
  path : c ∷ ws ≡ before ++ a ∷ behind
  leads : (behind ≡ [] → end ≡ b) × ((v : Vertex) (vs : List Vertex) → behind ≡ v ∷ vs → v ≡ b)

place_of_step : (c : Vertex) (ws : List Vertex) (end a b : Vertex) → Has (a, b) (steps_to c ws end) → StandsAt c ws end a b
place_of_step c [] end a b (inl e) =
    record { before = []; behind = []; path = ap (λ (n : Vertex × Vertex). n.0 ∷ []) (sym e); leads = (λ _. ap (λ (n : Vertex × Vertex). n.1) (sym e), λ v vs f. cc) }
place_of_step c [] end a b (inr k) = absurd k
place_of_step c (w ∷ ws) end a b (inl e) =
    let g : w ≡ b = ap (λ (n : Vertex × Vertex). n.1) (sym e) in
    record { before = []; behind = w ∷ ws; path = ap (λ (n : Vertex × Vertex). n.0 ∷ w ∷ ws) (sym e); leads = (λ f. cc, λ v vs f. cc) }
place_of_step c (w ∷ ws) end a b (inr k) =
    let r = place_of_step w ws end a b k in
    record { before = c ∷ r.before; behind = r.behind; path = ap (λ vs. c ∷ vs) r.path; leads = r.leads }

module _ (program : Workload) (immediate : PieceId → Bool) (mirrored : (one other : PieceId) → are_in_conflict program one other ≡ are_in_conflict program other one) where
  -- a path between two of an instance, along the rest of a cycle
  two_on_path : (a b : Vertex) (vs : List Vertex) → are_siblings a b ≡ true → AreFixed program immediate (steps_to b vs a) → NoneTwice is_vertex (b ∷ (vs ++ a ∷ []))
      → (AllByRecursion (λ v. are_siblings a v ≡ true) vs → ⊥) → AreTwo program immediate a
  two_on_path a b vs inside fixed once out = go (inside_or_out a vs)
    where
      go : AllByRecursion (λ v. are_siblings a v ≡ true) vs ⊎ ((o : Vertex) × Has o vs × (are_siblings a o ≡ false)) → AreTwo program immediate a
      go (inl all) = absurd (out all)
      go (inr w) = leaves program immediate mirrored a b vs a inside (siblings_from a a refl refl) fixed w.0 w.1 w.2 once

  -- where all on a cycle are of one instance there is no conflict on it
  not_all_inside : (r c : Vertex) (ws : List Vertex) → list_any (λ n. is_conflict_edge (edge program immediate n.0 n.1)) (steps_to c ws c) ≡ true → AllByRecursion (λ v. are_siblings r v ≡ true) (c ∷ ws) → ⊥
  not_all_inside r c ws meets all = false≢true (sym (no_conflict_inside program immediate r c ws c all.0 all.1 all.0) ∙ meets)

  -- a cycle through siblings has two contended pieces of their procedure
  pub two_contended : (cycle : List Vertex) (a b : Vertex) → IsUnreorderable program immediate cycle → Has (a, b) (neighbours cycle) → are_siblings a b ≡ true → AreTwo program immediate a
  two_contended [] a b is has inside = absurd has
  two_contended (c ∷ ws) a b is has inside = go at.before at.behind at.path at.leads
    where
      at : StandsAt c ws c a b
      at = place_of_step c ws c a b has

      Inside : Vertex → Type 0
      Inside v = are_siblings a v ≡ true

      itself : Inside a
      itself = siblings_from a a refl refl

      to_cycle : (before behind : List Vertex) → c ∷ ws ≡ before ++ a ∷ behind → IsUnreorderable program immediate (before ++ a ∷ behind)
      to_cycle before behind e = subst (IsUnreorderable program immediate) e is

      go : (before behind : List Vertex) → c ∷ ws ≡ before ++ a ∷ behind → (behind ≡ [] → c ≡ b) × ((v : Vertex) (vs : List Vertex) → behind ≡ v ∷ vs → v ≡ b) → AreTwo program immediate a
      go [] [] e leads = let cycle = to_cycle [] [] e in absurd (omega (arith, cycle.long))
      go (d ∷ ds) [] e leads =
          let cycle = to_cycle (d ∷ ds) [] e in
          let starts : d ≡ b = let same : c ≡ d = cc in sym same ∙ leads.0 refl in
          let fixed : AreFixed program immediate (steps_to d ds a) = front_all _ (steps_to d ds a) (steps_to a [] d) (subst (AreFixed program immediate) (steps-append d ds a [] d) cycle.fixed) in
          two_on_path a b ds inside (subst (λ v. AreFixed program immediate (steps_to v ds a)) starts fixed) (subst (λ v. NoneTwice is_vertex (v ∷ (ds ++ a ∷ []))) starts cycle.distinct)
          (λ all. not_all_inside a d (ds ++ a ∷ []) cycle.some_conflict (subst (λ v. are_siblings a v ≡ true) (sym starts) inside, all_append Inside ds (a ∷ []) all (itself, tt)))
      go [] (w ∷ zs) e leads =
          let cycle = to_cycle [] (w ∷ zs) e in
          let next : w ≡ b = leads.1 w zs refl in
          two_on_path a b zs inside (subst (λ v. AreFixed program immediate (steps_to v zs a)) next cycle.fixed.1)
          (subst (λ v. NoneTwice is_vertex (v ∷ (zs ++ a ∷ []))) next (turned_none_twice (a ∷ []) (w ∷ zs) cycle.distinct))
          (λ all. not_all_inside a a (w ∷ zs) cycle.some_conflict (itself, (subst (λ v. are_siblings a v ≡ true) (sym next) inside, all)))
      go (d ∷ ds) (w ∷ zs) e leads =
          let cycle = to_cycle (d ∷ ds) (w ∷ zs) e in
          let next : w ≡ b = leads.1 w zs refl in
          let fixed : AreFixed program immediate (steps_to d ds a ++ steps_to a (w ∷ zs) d) = subst (AreFixed program immediate) (steps-append d ds a (w ∷ zs) d) cycle.fixed in
          let first_part : AreFixed program immediate (steps_to d ds a) = front_all _ (steps_to d ds a) (steps_to a (w ∷ zs) d) fixed in
          let second_part : AreFixed program immediate (steps_to w zs d) = (back_all _ (steps_to d ds a) (steps_to a (w ∷ zs) d) fixed).1 in
          let path : AreFixed program immediate (steps_to w (zs ++ d ∷ ds) a) = subst (AreFixed program immediate) (sym (steps-append w zs d ds a)) (all_append _ (steps_to w zs d) (steps_to d ds a) second_part first_part) in
          let grouped : (d ∷ ds) ++ a ∷ w ∷ zs ≡ ((d ∷ ds) ++ a ∷ []) ++ w ∷ zs = sym (append_assoc (d ∷ ds) (a ∷ []) (w ∷ zs)) in
          let turned : NoneTwice is_vertex (w ∷ (zs ++ ((d ∷ ds) ++ a ∷ []))) = turned_none_twice ((d ∷ ds) ++ a ∷ []) (w ∷ zs) (subst (NoneTwice is_vertex) grouped cycle.distinct) in
          let once : NoneTwice is_vertex (w ∷ ((zs ++ d ∷ ds) ++ a ∷ [])) = subst (λ vs. NoneTwice is_vertex (w ∷ vs)) (sym (append_assoc zs (d ∷ ds) (a ∷ []))) turned in
          two_on_path a b (zs ++ d ∷ ds) inside (subst (λ v. AreFixed program immediate (steps_to v (zs ++ d ∷ ds) a)) next path) (subst (λ v. NoneTwice is_vertex (v ∷ ((zs ++ d ∷ ds) ++ a ∷ []))) next once)
          (λ all. let rest = back_all Inside zs (d ∷ ds) all in
          not_all_inside a d (ds ++ a ∷ w ∷ zs) cycle.some_conflict
          (rest.0, all_append Inside ds (a ∷ w ∷ zs) rest.1 (itself, (subst (λ v. are_siblings a v ≡ true) (sym next) inside, front_all Inside zs (d ∷ ds) all))))
