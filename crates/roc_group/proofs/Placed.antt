-- All that a group of an accepted plan uses is at the group's place, and what a deferrable one uses follows from what it is given
use Rattle.std.proofs.Common.{◌≡◌, ℕ, ◌<◌, ◌≤◌, ℤ, true, false, List, [], ◌∷◌, length, map, get_or, refl, sym, ap, subst, ◌∙◌, inl, inr, arith}
use Rattle.std.specs.Bool.{nat_lt}
use Rattle.std.specs.List.{AllByRecursion}
use Rattle.std.proofs.lemmas.Bool.{ltb-true}
use Rattle.roc_sequence.specs.Lists.{Has}
use Rattle.roc_sequence.specs.Rising.{IsRising}
use Rattle.roc_sequence.proofs.Holds.{all_has, all_append}
use Rattle.roc_rows.specs.Store.{Store}
use Rattle.roc_program.specs.Program.{Expression, Statement, Get, Set, Out, Piece}
use Rattle.roc_program.specs.LookUps.{no_piece}
use Rattle.roc_program.specs.Names.{uses}
use Rattle.roc_program.specs.Values.{value}
use Rattle.roc_program.proofs.ValueLaws.{value_same}
use Rattle.roc_whole.specs.Run.{Progress, after_statement, after_piece}
use Rattle.roc_merge_groups.specs.Groups.{first_piece}
use Rattle.roc_plan.specs.Groups.{Plan, procedure_of, group_of, group_place}
use Rattle.roc_plan.specs.Accepted.{IsAccepted}
use Rattle.roc_group.specs.declared.access.Access.{Access}
use Rattle.roc_group.specs.Accesses.{uses_of_body, uses_of_piece, uses_of_pieces}
use Rattle.roc_group.specs.GroupRun.{GroupCall, begin, group_pieces, group_uses}
use Rattle.roc_group.proofs.Touches.{binds_in, not_true}
use Rattle.roc_group.proofs.Alike.{kept_value}
use Rattle.roc_group.proofs.GroupStarts.{at}
use Rattle.roc_group.proofs.Grouped.{group_rising, in_one_place, place_uses_earlier}

-- what a piece uses is at its place
body_placed : (place : ℤ) (p : Progress) (ss : List Statement) → AllByRecursion (λ (a : Access). a.cell.place ≡ place) (uses_of_body place p ss)
body_placed place p [] = tt
body_placed place p (Get number from ∷ ss) = (refl, body_placed place (after_statement place p (Get number from)) ss)
body_placed place p (Set to v ∷ ss) = (refl, body_placed place (after_statement place p (Set to v)) ss)
body_placed place p (Out v ∷ ss) = body_placed place (after_statement place p (Out v)) ss

module _ (plan : Plan) (proc : ℕ) (ok : IsAccepted plan) (there : proc < length plan.program.procedures) (group : ℕ) where
  abbrev piece : ℕ → Piece
  piece = at (procedure_of plan proc)

  -- no piece of a group binds a name that the place of another uses: data flows forward alone, and the first one has the same place
  unbound : (x y n : ℕ) → Has x (group_of plan proc group).pieces → Has y (group_of plan proc group).pieces → uses (at (procedure_of plan proc) y).place n ≡ true → binds_in (at (procedure_of plan proc) x) n ≡ false
  unbound x y n in_x in_y u =
      not_true (binds_in (piece x) n) (λ e.
      let first : ℕ = first_piece (group_of plan proc group).pieces in
      let same : uses (piece first).place n ≡ true = subst (λ p. uses p n ≡ true) (in_one_place plan proc ok there group y first in_y (first_has (group_of plan proc group).pieces in_y)) u in
      later x first n (in_first (group_of plan proc group).pieces (group_rising plan proc ok there group) in_x) same e)
    where
      first_has : (ks : List ℕ) → Has y ks → Has (first_piece ks) ks
      first_has [] h = absurd h
      first_has (k ∷ ks) h = inl refl

      in_first : (ks : List ℕ) → IsRising nat_lt ks → Has x ks → first_piece ks ≤ x
      in_first [] r h = absurd h
      in_first (k ∷ ks) r (inl e) = omega (arith, e)
      in_first (k ∷ ks) r (inr h) = let l = ltb-true k x (all_has (λ z. nat_lt k z ≡ true) x ks r.0 h) in omega (arith, l)

      later : (x first n : ℕ) → first ≤ x → uses (piece first).place n ≡ true → binds_in (piece x) n ≡ true → ⊥
      later x first n l u e = place_uses_earlier plan proc ok there first x n l u e

  -- so the place of each piece is the group's, whatever ran of the group before
  pieces_placed : (place : ℤ) (p : Progress) (ks : List ℕ) → ((k : ℕ) → Has k ks → Has k (group_of plan proc group).pieces)
      → ((k : ℕ) → Has k (group_of plan proc group).pieces → value (at (procedure_of plan proc) k).place p.environment ≡ place)
      → AllByRecursion (λ (a : Access). a.cell.place ≡ place) (uses_of_pieces p (map (at (procedure_of plan proc)) ks))
  pieces_placed place p [] among same = tt
  pieces_placed place p (k ∷ ks) among same =
      let here = same k (among k (inl refl)) in
      all_append _ (uses_of_piece p (piece k)) (uses_of_pieces (after_piece p (piece k)) (map piece ks))
      (subst (λ x. AllByRecursion (λ (a : Access). a.cell.place ≡ x) (uses_of_piece p (piece k))) here (body_placed (value (piece k).place p.environment) p (piece k).body))
      (pieces_placed place (after_piece p (piece k)) ks (λ j h. among j (inr h)) (λ j h.
      value_same (piece j).place (after_piece p (piece k)).environment p.environment (λ n u. kept_value (value (piece k).place p.environment) p (piece k).body n (unbound k j n (among k (inl refl)) h u)) ∙ same j h))

  first_place : (c : GroupCall) (s : Store) → c.proc ≡ proc → c.group ≡ group → (k : ℕ) → Has k (group_of plan proc group).pieces
      → value (at (procedure_of plan proc) k).place (begin plan c s).environment ≡ group_place plan c.proc c.group c.args c.inputs
  first_place c s p g k h =
      ap (λ (e : Expression). value e (begin plan c s).environment) (in_one_place plan proc ok there group k (first_piece (group_of plan proc group).pieces) h (some_first (group_of plan proc group).pieces h) ∙ first_is p g)
    where
      some_first : (ks : List ℕ) → Has k ks → Has (first_piece ks) ks
      some_first [] h = absurd h
      some_first (j ∷ js) h = inl refl

      first_of : (ks : List ℕ) → Has k ks → get_or (map (at (procedure_of plan proc)) ks) 0 no_piece ≡ at (procedure_of plan proc) (first_piece ks)
      first_of [] h = absurd h
      first_of (j ∷ js) h = refl

      first_is : c.proc ≡ proc → c.group ≡ group → (at (procedure_of plan proc) (first_piece (group_of plan proc group).pieces)).place ≡ (get_or (group_pieces plan c) 0 no_piece).place
      first_is p g =
          ap (λ (q : Piece). q.place) (sym (first_of (group_of plan proc group).pieces h))
          ∙ (λ i. (get_or (map (at (procedure_of plan (sym p i))) (group_of plan (sym p i) (sym g i)).pieces) 0 no_piece).place)

-- all that a group uses is at its place
pub uses_placed : (plan : Plan) (c : GroupCall) (s : Store) → IsAccepted plan → c.proc < length plan.program.procedures → AllByRecursion (λ (a : Access). a.cell.place ≡ group_place plan c.proc c.group c.args c.inputs) (group_uses plan c s)
uses_placed plan c s ok there =
    pieces_placed plan c.proc ok there c.group (group_place plan c.proc c.group c.args c.inputs) (begin plan c s) (group_of plan c.proc c.group).pieces (λ k h. h) (λ k h. first_place plan c.proc ok there c.group c s refl refl k h)
