-- The merged groups of an acceptable workload are accepted, and what follows for accepted groups
use Rattle.std.proofs.Common.{◌≡◌, ◌≢◌, ◌↔◌, ℕ, ◌<◌, Bool, true, false, List, length, IsTrue, refl, sym, ◌∙◌, [], ◌∷◌, subst, arith, inl, inr}
use Rattle.std.proofs.lemmas.Bool.{and_parts, and_from, false_from_ne_true}
use Rattle.std.specs.List.{list_any}
use Rattle.roc_sequence.specs.Lists.{Has}
use Rattle.roc_sequence.proofs.Holds.{any_has, has_any, all_at}
use Rattle.roc_program.specs.LookUps.{no_procedure}
use Rattle.roc_program.specs.Program.{Workload}
use Rattle.roc_program.specs.Conflict.{are_in_conflict}
use Rattle.roc_program.specs.WellFormed.{IsProgram, IsProcedure}
use Rattle.roc_program.specs.declared.piece_id.PieceId.{PieceId}
use Rattle.roc_conflict.specs.Immediate.{in_conflict, declared}
use Rattle.roc_conflict.specs.Contended.{has_conflict, is_contended}
use Rattle.roc_conflict.proofs.Mirrored.{conflict_mirrored}
use Rattle.roc_conflict.proofs.Present.{some_conflict, present_from_now}
use Rattle.roc_conflict.proofs.Least.{present_from_immediate}
use Rattle.roc_scgraph.specs.declared.vertex.Vertex.{Vertex}
use Rattle.roc_scgraph.specs.Cycles.{IsUnreorderable}
use Rattle.roc_scgraph.proofs.Contended.{AreLeast}
use Rattle.roc_merge_groups.specs.Flow.{feeds}
use Rattle.roc_merge_groups.proofs.Elements.{has_row}
use Rattle.roc_merge_groups.proofs.Forward.{forward}
use Rattle.roc_merge_groups.specs.Groups.{piece_numbered, groups_in, group_at}
use Rattle.roc_merge_groups.specs.Core.{contended, IsAcceptable}
use Rattle.roc_merge_groups.specs.Grouping.{AreTogether, IsMerged}
use Rattle.roc_merge_groups.specs.Accepted.{over_groups, is_immediate_group, IsAcceptedIn, IsAcceptedGrouping, group_feeds}
use Rattle.roc_merge_groups.proofs.Cores.{core_immediate}
use Rattle.roc_merge_groups.proofs.Circles.{no_circle}
use Rattle.roc_merge_groups.proofs.FusedClasses.{AreFit, AreContendedTogether, over_least, one_contended, together_from_no_cycle, no_cycle_from_together, same_group}

module _ (program : Workload) (is_immediate : PieceId → Bool) (groups : List (List (List ℕ))) where
  -- a contended piece belongs to a procedure that is there
  pub proc_of_contended : AreLeast program is_immediate → (proc x : ℕ) → is_contended program is_immediate (piece_numbered proc x) ≡ true → proc < length program.procedures
  proc_of_contended least proc x h =
      (present_from_immediate program (piece_numbered proc x) ((least (piece_numbered proc x)).0 (and_parts (is_immediate (piece_numbered proc x)) (has_conflict program (piece_numbered proc x)) h).0)).procedure

  fit_from_merged : IsProgram program → AreLeast program is_immediate → IsMerged program is_immediate groups → AreFit program is_immediate groups
  fit_from_merged well least merged = record {
    even = merged.procedures;
    grouping = λ proc below. (merged.each proc below).grouping;
    immediate = λ proc below x y n t. core_immediate program is_immediate proc well least x ((merged.each proc below).alone x y n t).0;
    least = least;
  }

  pub merged_accepted : IsProgram program → AreLeast program is_immediate → IsAcceptable program is_immediate → IsMerged program is_immediate groups → IsAcceptedGrouping program is_immediate groups
  merged_accepted well least acceptable merged =
      let fit = fit_from_merged well least merged in
      record {
        procedures = merged.procedures;
        each = λ proc below. let is = merged.each proc below in record {
          grouping = is.grouping;
          co_located = λ x y n t. let c = is.alone x y n t in acceptable proc x y c.0 c.1;
          immediate = λ x y n t. fit.immediate proc below x y n t;
          no_circle = no_circle program is_immediate proc (groups_in groups proc) well is;
        };
        least = least;
        no_cycle = no_cycle_from_together program is_immediate groups fit
            (λ proc x y cx cy. (merged.each proc (proc_of_contended least proc x cx)).together x y (contended cx) (contended cy));
      }

  pub fit_from_each : length groups ≡ length program.procedures → AreLeast program is_immediate
      → ((proc : ℕ) → proc < length program.procedures → IsAcceptedIn program is_immediate proc (groups_in groups proc)) → AreFit program is_immediate groups
  fit_from_each even least each = record {
    even = even;
    grouping = λ proc below. (each proc below).grouping;
    immediate = λ proc below x y n t. (each proc below).immediate x y n t;
    least = least;
  }

  pub no_cycle_exactly : length groups ≡ length program.procedures → AreLeast program is_immediate
      → ((proc : ℕ) → proc < length program.procedures → IsAcceptedIn program is_immediate proc (groups_in groups proc))
      → ((cycle : List Vertex) → ¬ IsUnreorderable (over_groups program groups) (is_immediate_group is_immediate groups) cycle) ↔ AreContendedTogether program is_immediate groups
  no_cycle_exactly even least each =
      let fit = fit_from_each even least each in
      (together_from_no_cycle program is_immediate groups fit, no_cycle_from_together program is_immediate groups fit)

  module _ (is : IsAcceptedGrouping program is_immediate groups) where
    fit : AreFit program is_immediate groups
    fit = fit_from_each is.procedures is.least is.each

    pub contended_together : AreContendedTogether program is_immediate groups
    contended_together = together_from_no_cycle program is_immediate groups fit is.no_cycle

    pub one_group_contended : (p q : PieceId) → p.proc ≡ q.proc → IsTrue (is_contended (over_groups program groups) (is_immediate_group is_immediate groups) p)
        → IsTrue (is_contended (over_groups program groups) (is_immediate_group is_immediate groups) q) → p ≡ q
    one_group_contended = one_contended program is_immediate groups fit contended_together

    -- groups in conflict are both immediate, or both deferrable
    pub one_class : (p q : PieceId) → IsTrue (are_in_conflict (over_groups program groups) p q) → is_immediate_group is_immediate groups p ≡ is_immediate_group is_immediate groups q
    one_class p q h = go (is_immediate_group is_immediate groups p) refl (is_immediate_group is_immediate groups q) refl
      where
        along : (a b : PieceId) → are_in_conflict (over_groups program groups) a b ≡ true → is_immediate_group is_immediate groups a ≡ true → is_immediate_group is_immediate groups b ≡ true
        along a b k e = (over_least program is_immediate groups fit b).1 (in_conflict ((over_least program is_immediate groups fit a).0 e) k)

        go : (s : Bool) → is_immediate_group is_immediate groups p ≡ s → (t : Bool) → is_immediate_group is_immediate groups q ≡ t → s ≡ t
        go true e true f = refl
        go true e false f = sym (along p q h e) ∙ f
        go false e true f = sym e ∙ along q p (conflict_mirrored (over_groups program groups) q p ∙ h) f
        go false e false f = refl

    -- two immediate groups of a procedure do not meet
    pub siblings_apart : (p q : PieceId) → p ≢ q → p.proc ≡ q.proc → IsTrue (is_immediate_group is_immediate groups p) → are_in_conflict (over_groups program groups) p q ≡ false
    siblings_apart p q n same h = false_from_ne_true (are_in_conflict (over_groups program groups) p q) meet
      where
        meet : are_in_conflict (over_groups program groups) p q ≡ true → ⊥
        meet k =
            let back : are_in_conflict (over_groups program groups) q p ≡ true = conflict_mirrored (over_groups program groups) q p ∙ k in
            n (one_group_contended p q same
            (and_from _ _ h (some_conflict (over_groups program groups) p q k))
            (and_from _ _ (sym (one_class p q k) ∙ h) (some_conflict (over_groups program groups) q p back)))

    -- nor do immediate pieces of two of its groups
    pub pieces_apart : (proc : ℕ) (g h : List ℕ) (x y : ℕ) → Has g (groups_in groups proc) → Has h (groups_in groups proc) → g ≢ h → Has x g → Has y h
        → IsTrue (is_immediate (piece_numbered proc x)) → are_in_conflict program (piece_numbered proc x) (piece_numbered proc y) ≡ false
    pieces_apart proc g h x y gs hs n one other i = false_from_ne_true (are_in_conflict program (piece_numbered proc x) (piece_numbered proc y)) meet
      where
        meet : are_in_conflict program (piece_numbered proc x) (piece_numbered proc y) ≡ true → ⊥
        meet k =
            let back : are_in_conflict program (piece_numbered proc y) (piece_numbered proc x) ≡ true = conflict_mirrored program (piece_numbered proc y) (piece_numbered proc x) ∙ k in
            let j : is_immediate (piece_numbered proc y) ≡ true = (is.least (piece_numbered proc y)).1 (in_conflict ((is.least (piece_numbered proc x)).0 i) k) in
            let cx = and_from _ _ i (some_conflict program (piece_numbered proc x) (piece_numbered proc y) k) in
            let cy = and_from _ _ j (some_conflict program (piece_numbered proc y) (piece_numbered proc x) back) in
            let t = contended_together proc x y cx cy in
            let of = (is.each proc (proc_of_contended is.least proc x cx)).grouping in
            n (of.once g t.group x gs t.is one t.one ∙ sym (of.once h t.group y hs t.is other t.other))

-- what another group needs is immediate
pub needed_immediate : (program : Workload) (is_immediate : PieceId → Bool) (groups : List (List (List ℕ))) → IsProgram program → IsAcceptedGrouping program is_immediate groups
    → (proc g h : ℕ) → proc < length program.procedures → g ≢ h → IsTrue (group_feeds program proc (groups_in groups proc) g h) → IsTrue (is_immediate_group is_immediate groups (piece_numbered proc g))
needed_immediate program is_immediate groups well is proc g h below apart feed =
    let z = any_has (λ z. list_any (feeds program proc z) (group_at (groups_in groups proc) h)) (group_at (groups_in groups proc) g) feed in
    let y = any_has (feeds program proc z.0) (group_at (groups_in groups proc) h) z.2 in
    elim (forward program well proc z.0 y.0 y.2) [
      | inl e ↦ (let inside : Has z.0 (group_at (groups_in groups proc) h) = subst (λ k. Has k (group_at (groups_in groups proc) h)) (sym e) y.1 in
          let t : AreTogether (groups_in groups proc) z.0 z.0 = record { group = group_at (groups_in groups proc) g; is = has_row z.0 (groups_in groups proc) g z.1; one = z.1; other = z.1 } in
          absurd (apart (same_group program is_immediate groups (fit program is_immediate groups is) proc g h z.0 z.0 z.1 inside below t)))
      | inr l ↦ has_any (λ x. is_immediate (piece_numbered proc x)) (group_at (groups_in groups proc) g) z.0 z.1
          ((is.least (piece_numbered proc z.0)).1 (declared (present_from_now program (piece_numbered proc z.0) l.1) l.1))
    ]

-- each procedure has a group
pub some_group : (program : Workload) (is_immediate : PieceId → Bool) (groups : List (List (List ℕ))) → IsProgram program → IsAcceptedGrouping program is_immediate groups
    → (proc : ℕ) → proc < length program.procedures → 0 < length (groups_in groups proc)
some_group program is_immediate groups well is proc below =
    let some = (all_at (IsProcedure program.tables) program.procedures proc no_procedure well.procedures below).some_piece in
    let t = ((is.each proc below).grouping.whole 0).0 some in
    some_of t.group (groups_in groups proc) t.is
  where
    some_of : (g : List ℕ) (gs : List (List ℕ)) → Has g gs → 0 < length gs
    some_of g [] h = absurd h
    some_of g (k ∷ gs) h = omega arith
