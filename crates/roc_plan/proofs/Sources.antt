-- Where the values come from that a group takes
use Rattle.std.proofs.Common.{◌≡◌, ◌≢◌, ◌∙◌, ℕ, suc, ◌+◌, ◌<◌, Bool, true, false, not, ◌&&◌, ◌||◌, ◌==◌, cond, IsTrue, List, [], ◌∷◌, length, get_or, refl, sym, ap, subst, arith}
use Rattle.std.proofs.lemmas.Bool.{false≢true, and_parts, not-true}
use Rattle.std.specs.List.{list_any, position_or_len}
use Rattle.roc_sequence.specs.Lists.{Has}
use Rattle.roc_sequence.proofs.Holds.{any_has, has_any}
use Rattle.roc_sequence.proofs.Members.{has_map, from_has_map, from_has_filter, has_flat_map, from_has_flat_map}
use Rattle.roc_program.specs.LookUps.{no_piece}
use Rattle.roc_program.specs.Names.{bindings_of, bindings, piece_uses, has_name}
use Rattle.roc_program.specs.Program.{Piece, Procedure}
use Rattle.roc_merge_groups.specs.Groups.{groups_in, group_at}
use Rattle.roc_merge_groups.specs.Flow.{feeds}
use Rattle.roc_merge_groups.specs.Accepted.{group_feeds}
use Rattle.roc_merge_groups.proofs.Accepting.{needed_immediate}
use Rattle.roc_merge_groups.proofs.Elements.{place_of_has, has_at_place}
use Rattle.roc_merge_groups.proofs.Forward.{name_has, has_named}
use Rattle.roc_plan.specs.declared.group.Input.{Input}
use Rattle.roc_plan.specs.Groups.{Plan, no_group, bound_in, inputs_in, source_in, procedure_of, groups_of, group_of, is_immediate_of, bound_of, inputs_of, pieces_at}
use Rattle.roc_plan.specs.Accepted.{grouping_of, is_piece_immediate, IsAccepted}
use Rattle.roc_plan.specs.Sized.{piece_at}
use Rattle.roc_plan.proofs.Placed.{group_again, procedure_there, accepted_at}
use Rattle.roc_plan.proofs.Classed.{class_of_group, group_there, in_grouping}

-- the first that passes a test, where one does
first_passes : {A : Type 0} (p : A → Bool) (xs : List A) (d : A) → list_any p xs ≡ true → (position_or_len p xs < length xs) × (p (get_or xs (position_or_len p xs) d) ≡ true)
first_passes p [] d h = absurd (false≢true h)
first_passes {A = A} p (x ∷ xs) d h = go (p x) refl h (first_passes p xs d)
  where
    go : (b : Bool) → p x ≡ b → (b || list_any p xs) ≡ true → (list_any p xs ≡ true → (position_or_len p xs < length xs) × (p (get_or xs (position_or_len p xs) d) ≡ true))
        → (cond (not b) (1 + position_or_len p xs) 0 < suc (length xs)) × (p (get_or (x ∷ xs) (cond (not b) (1 + position_or_len p xs) 0) d) ≡ true)
    go true e k ih = (omega arith, e)
    go false e k ih =
        let r = ih k in
        let l = r.0 in
        let one : 1 + position_or_len p xs ≡ suc (position_or_len p xs) = omega arith in
        (omega arith, ap (λ i. p (get_or (x ∷ xs) i d)) one ∙ r.1)

-- a piece of the group binds the name
binder : (p : Procedure) (group : List ℕ) (n : ℕ) → has_name (bound_in p group) n ≡ true → (z : ℕ) × Has z group × Has n (bindings_of (piece_at p z))
binder p group n h =
    let q = from_has_flat_map bindings_of n (pieces_at p group) (name_has (bound_in p group) n h) in
    let z = from_has_map (piece_at p) q.0 group q.1 in
    (z.0, z.1, subst (λ (r : Piece). Has n (bindings_of r)) z.2 q.2)

bound_by : (p : Procedure) (group : List ℕ) (n z : ℕ) → Has z group → Has n (bindings_of (piece_at p z)) → has_name (bound_in p group) n ≡ true
bound_by p group n z h k = has_named (bound_in p group) n (has_flat_map bindings_of n (piece_at p z) (pieces_at p group) (has_map (piece_at p) z group h) k)

module _ (plan : Plan) (is : IsAccepted plan) (proc g : ℕ) where
  pub record IsSource (input : Input) : Type 0 where
    pub apart : input.group ≢ g
    pub there : input.group < length (groups_of plan proc)
    pub immediate : IsTrue (is_immediate_of plan proc input.group)
    pub bound : input.at < length (bound_of plan proc input.group)
    pub feeds : IsTrue (group_feeds plan.program proc (groups_in (grouping_of plan) proc) input.group g)

  -- a group binds each name that the procedure binds
  bound_somewhere : (n : ℕ) → proc < length plan.program.procedures → Has n (bindings (procedure_of plan proc).pieces)
      → list_any (λ o. has_name (bound_in (procedure_of plan proc) o.pieces) n) (groups_of plan proc) ≡ true
  bound_somewhere n there h =
      let p = procedure_of plan proc in
      let q = from_has_flat_map bindings_of n p.pieces h in
      let z = place_of_has q.0 p.pieces no_piece q.1 in
      let t = ((accepted_at plan is proc there).grouping.whole z.0).0 z.1 in
      let k = place_of_has t.group (groups_in (grouping_of plan) proc) [] t.is in
      let held : Has z.0 (group_of plan proc k.0).pieces = subst (λ (ps : List ℕ). Has z.0 ps) (sym k.2 ∙ group_again plan is proc k.0) t.one in
      has_any (λ o. has_name (bound_in p o.pieces) n) (groups_of plan proc) (group_of plan proc k.0) (has_at_place (groups_of plan proc) k.0 no_group (group_there plan is proc k.0 z.0 held))
      (bound_by p (group_of plan proc k.0).pieces n z.0 held (subst (λ (r : Piece). Has n (bindings_of r)) (sym z.2) q.2))

  -- a group that binds a name feeds each one that uses it
  feeds_users : (n at : ℕ) → has_name (bound_in (procedure_of plan proc) (group_of plan proc at).pieces) n ≡ true
      → list_any (λ piece. piece_uses piece n) (pieces_at (procedure_of plan proc) (group_of plan proc g).pieces) ≡ true
      → group_feeds plan.program proc (groups_in (grouping_of plan) proc) at g ≡ true
  feeds_users n at bound used =
      let p = procedure_of plan proc in
      let groups = groups_in (grouping_of plan) proc in
      let b = binder p (group_of plan proc at).pieces n bound in
      let u = any_has (λ piece. piece_uses piece n) (pieces_at p (group_of plan proc g).pieces) used in
      let y = from_has_map (piece_at p) u.0 (group_of plan proc g).pieces u.1 in
      has_any (λ z. list_any (feeds plan.program proc z) (group_at groups g)) (group_at groups at) b.0 (in_grouping plan is proc at b.0 b.1)
      (has_any (feeds plan.program proc b.0) (group_at groups g) y.0 (in_grouping plan is proc g y.0 y.1)
      (has_any (piece_uses (piece_at p y.0)) (bindings_of (piece_at p b.0)) n b.2 (subst (λ (r : Piece). piece_uses r n ≡ true) y.2 u.2)))

  -- a group that uses a name is one of a procedure that is there
  user_there : (n : ℕ) → list_any (λ piece. piece_uses piece n) (pieces_at (procedure_of plan proc) (group_of plan proc g).pieces) ≡ true → proc < length plan.program.procedures
  user_there n used =
      let u = any_has (λ piece. piece_uses piece n) (pieces_at (procedure_of plan proc) (group_of plan proc g).pieces) used in
      let y = from_has_map (piece_at (procedure_of plan proc)) u.0 (group_of plan proc g).pieces u.1 in
      procedure_there plan is proc g (group_there plan is proc g y.0 y.1)

  source_at : (n at : ℕ) → proc < length plan.program.procedures → at < length (groups_of plan proc) → has_name (bound_in (procedure_of plan proc) (group_of plan proc at).pieces) n ≡ true
      → has_name (bound_in (procedure_of plan proc) (group_of plan proc g).pieces) n ≡ false
      → list_any (λ piece. piece_uses piece n) (pieces_at (procedure_of plan proc) (group_of plan proc g).pieces) ≡ true
      → IsSource (record { group = at; at = position_or_len (λ m. m == n) (bound_in (procedure_of plan proc) (group_of plan proc at).pieces) })
  source_at n at there within bound own used =
      let apart : at ≢ g = λ e. false≢true (sym own ∙ ap (λ m. has_name (bound_in (procedure_of plan proc) (group_of plan proc m).pieces) n) (sym e) ∙ bound) in
      let feed = feeds_users n at bound used in
      record {
        apart = apart;
        there = within;
        immediate = class_of_group plan is proc at (needed_immediate plan.program (is_piece_immediate plan) (grouping_of plan) is.well_formed is.grouping proc at g there apart feed);
        bound = (first_passes (λ m. m == n) (bound_in (procedure_of plan proc) (group_of plan proc at).pieces) 0 bound).0;
        feeds = feed;
      }

  source : (n : ℕ) → Has n (inputs_in (procedure_of plan proc) (group_of plan proc g).pieces) → IsSource (source_in (procedure_of plan proc) (groups_of plan proc) n)
  source n h =
      let p = procedure_of plan proc in
      let ours = (group_of plan proc g).pieces in
      let f = from_has_filter (λ n. list_any (λ piece. piece_uses piece n) (pieces_at p ours) && not (has_name (bound_in p ours) n)) n (bindings p.pieces) h in
      let parts = and_parts (list_any (λ piece. piece_uses piece n) (pieces_at p ours)) (not (has_name (bound_in p ours) n)) f.1 in
      let there : proc < length plan.program.procedures = user_there n parts.0 in
      let first = first_passes (λ o. has_name (bound_in p o.pieces) n) (groups_of plan proc) no_group (bound_somewhere n there f.0) in
      source_at n (position_or_len (λ o. has_name (bound_in p o.pieces) n) (groups_of plan proc)) there first.0 first.1 (not-true (has_name (bound_in p ours) n) parts.1) parts.0

  pub source_of : (input : Input) → Has input (inputs_of plan proc g) → IsSource input
  source_of input h =
      let n = from_has_map (source_in (procedure_of plan proc) (groups_of plan proc)) input (inputs_in (procedure_of plan proc) (group_of plan proc g).pieces) h in
      subst IsSource (sym n.2) (source n.0 n.1)
