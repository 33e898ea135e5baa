-- Programs none of whose pieces runs at the start, and procedures of one piece
use Rattle.std.proofs.Common.{◌≡◌, ℕ, Bool, true, false, ◌&&◌, ◌||◌, cond, ◌==◌, List, [], ◌∷◌, Some, None, length, refl, sym, ap, subst, ◌∙◌, arith, inl}
use Rattle.std.proofs.lemmas.Bool.{false≢true}
use Rattle.std.specs.List.{list_any, AllByRecursion}
use Rattle.std.specs.Prelude.{IsTrue}
use Rattle.roc_sequence.specs.Lists.{Has}
use Rattle.roc_sequence.proofs.Members.{has_one}
use Rattle.roc_program.specs.Program.{Workload}
use Rattle.roc_program.specs.Conflict.{are_in_conflict}
use Rattle.roc_program.specs.Pieces.{piece_of, pieces_in}
use Rattle.roc_program.specs.declared.piece_id.PieceId.{PieceId}
use Rattle.roc_conflict.specs.Immediate.{IsImmediate, declared, in_conflict}
use Rattle.roc_scgraph.specs.declared.vertex.Vertex.{Vertex}
use Rattle.roc_scgraph.specs.declared.vertex.Kind.TheVariants.{S, C}
use Rattle.roc_scgraph.specs.Graph.{are_siblings, piece_id, edge}
use Rattle.roc_scgraph.specs.Cycles.{is_conflict_edge, is_fixed, neighbours, IsUnreorderable}
use Rattle.roc_merge_groups.specs.Flow.{Leads, directly, onward}
use Rattle.roc_merge_groups.specs.Groups.{piece_numbered, groups_in, group_at}
use Rattle.roc_merge_groups.specs.Grouping.{AreTogether, IsGrouping}
use Rattle.roc_merge_groups.specs.Accepted.{is_immediate_group, IsAcceptedIn, group_feeds}

-- what conflicts with none that runs at the start does not run there
pub none_immediate : (program : Workload) → ((id : PieceId) → (piece_of program id).is_now ≡ false) → (id : PieceId) → ¬ IsImmediate program id
none_immediate program waits id (declared has now) = false≢true (sym (waits id) ∙ now)
none_immediate program waits id (in_conflict {one = one} rest meet) = none_immediate program waits one rest

module _ (is_immediate : PieceId → Bool) (none : (id : PieceId) → is_immediate id ≡ false) where
  -- nor does a group of such pieces
  pub no_group : (groups : List (List (List ℕ))) (id : PieceId) → is_immediate_group is_immediate groups id ≡ false
  no_group groups id = go (group_at (groups_in groups id.proc) id.piece)
    where
      go : (xs : List ℕ) → list_any (λ x. is_immediate (piece_numbered id.proc x)) xs ≡ false
      go [] = refl
      go (x ∷ xs) = ap (λ b. b || list_any (λ x. is_immediate (piece_numbered id.proc x)) xs) (none (piece_numbered id.proc x)) ∙ go xs

  -- an edge of conflict can be reordered, so there is no cycle that cannot
  module _ (program : Workload) where
    loose : (a b : Vertex) → is_fixed (edge program is_immediate a b) ≡ true → is_conflict_edge (edge program is_immediate a b) ≡ false
    loose a b =
        go (are_siblings a b) (a.piece == b.piece) (are_in_conflict program (piece_id a) (piece_id b)) (is_immediate (piece_id a) && is_immediate (piece_id b))
        (ap (λ i. i && is_immediate (piece_id b)) (none (piece_id a)))
      where
        go : (s p c i : Bool) → i ≡ false → is_fixed (cond s (cond p None (Some S)) (cond c (Some (C i)) None)) ≡ true → is_conflict_edge (cond s (cond p None (Some S)) (cond c (Some (C i)) None)) ≡ false
        go true true c i e h = refl
        go true false c i e h = refl
        go false p true i e h = absurd (false≢true (sym e ∙ h))
        go false p false i e h = refl

    none_meet : (ns : List (Vertex × Vertex)) → AllByRecursion (λ n. IsTrue (is_fixed (edge program is_immediate n.0 n.1))) ns
        → list_any (λ n. is_conflict_edge (edge program is_immediate n.0 n.1)) ns ≡ false
    none_meet [] all = refl
    none_meet (n ∷ ns) all = ap (λ b. b || list_any (λ n. is_conflict_edge (edge program is_immediate n.0 n.1)) ns) (loose n.0 n.1 all.0) ∙ none_meet ns all.1

    pub no_cycle : (cycle : List Vertex) → ¬ IsUnreorderable program is_immediate cycle
    no_cycle cycle u = false≢true (sym (none_meet (neighbours cycle) u.fixed) ∙ u.some_conflict)

-- ---- one group of one piece

abbrev pub one_group : List (List ℕ)
one_group = (0 ∷ []) ∷ []

the_one : (x : ℕ) (g : List ℕ) → Has g one_group → Has x g → x ≡ 0
the_one x g h k = has_one x 0 (subst (Has x) (has_one g (0 ∷ []) h) k)

same : (x y : ℕ) → AreTogether one_group x y → x ≡ y
same x y t = the_one x t.group t.is t.one ∙ sym (the_one y t.group t.is t.other)

grouped : IsGrouping 1 one_group
grouped =
    record {
      some = (omega arith, tt);
      rising = ((tt, tt), tt);
      numbered = (tt, tt);
      whole = λ x. (
        λ l. let e : x ≡ 0 = omega arith in record { group = 0 ∷ []; is = inl refl; one = inl e; other = inl e },
        λ t. let e = the_one x t.group t.is t.one in omega arith,
      );
      once = λ g h x i j k l. has_one g (0 ∷ []) i ∙ sym (has_one h (0 ∷ []) j);
    }

module _ (program : Workload) (is_immediate : PieceId → Bool) (proc : ℕ) (one : length (pieces_in program proc) ≡ 1) (feeds_own : (g h : ℕ) → group_feeds program proc one_group g h ≡ true → g ≡ h) where
  leads_own : (g h : ℕ) → Leads (group_feeds program proc one_group) g h → g ≡ h
  leads_own g _ (directly {to = h} e) = feeds_own g h e
  leads_own g _ (onward {by = x} {to = h} l e) = leads_own g x l ∙ feeds_own x h e

  pub accepted_alone : IsAcceptedIn program is_immediate proc one_group
  accepted_alone =
      record {
        grouping = subst (λ n. IsGrouping n one_group) (sym one) grouped;
        co_located = λ x y n t. absurd (n (same x y t));
        immediate = λ x y n t. absurd (n (same x y t));
        no_circle = λ g h n l. absurd (n (leads_own g h l));
      }
