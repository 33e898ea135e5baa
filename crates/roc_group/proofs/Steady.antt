-- What the pieces of an accepted plan use follows from the names' values as each piece begins, and that of a deferrable group from what it is given
use Rattle.std.proofs.Common.{◌≡◌, ℕ, zero, suc, ◌<◌, ◌≤◌, Bool, true, false, cond, List, [], ◌∷◌, ◌++◌, length, map, get_or, Result, Ok, Err, IfOk, refl, sym, ap, subst, ◌∙◌, ◌⊎◌, inl, inr, arith}
use Rattle.std.specs.List.{AllByRecursion, flat_map, range_with_len}
use Rattle.std.proofs.lemmas.Bool.{cases_lt}
use Rattle.std.proofs.lemmas.List.{get_or_past}
use Rattle.roc_sequence.specs.Lists.{Has}
use Rattle.roc_sequence.proofs.Holds.{has_all}
use Rattle.roc_rows.specs.Store.{Store}
use Rattle.roc_program.specs.Program.{Piece, Table}
use Rattle.roc_program.specs.LookUps.{no_piece}
use Rattle.roc_program.specs.Names.{bindings_of, has_name}
use Rattle.roc_program.specs.Values.{value}
use Rattle.roc_program.specs.WellFormed.{IsPiece, ArePieces, known_behind}
use Rattle.roc_whole.specs.Run.{Progress}
use Rattle.roc_merge_groups.proofs.Forward.{either_name, name_has, has_named}
use Rattle.roc_plan.specs.Groups.{Plan, procedure_of, group_of, is_immediate_of}
use Rattle.roc_plan.specs.Accepted.{IsAccepted}
use Rattle.roc_group.specs.declared.access.Access.{Access}
use Rattle.roc_group.specs.Accesses.{uses_of, uses_of_piece, uses_of_pieces}
use Rattle.roc_base.specs.declared.memory.NoMemory.{NoMemory}
use Rattle.roc_group.specs.Inner.Steady.{uses_with}
use Rattle.roc_group.specs.GroupRun.{GroupCall, begin, group_pieces, group_uses}
use Rattle.roc_group.proofs.KnownUses.{uses_of_body-known}
use Rattle.roc_group.proofs.Touches.{not_true}
use Rattle.roc_group.proofs.Starts.{bound_named}
use Rattle.roc_group.proofs.GroupStarts.{at, binder}
use Rattle.roc_group.proofs.Grouped.{is_procedure, has_names, argument_not_bound, two_alone}

-- the names that a piece may use of those before it
record KnowsAt (tables : List Table) (known : List ℕ) (ps : List Piece) (k : ℕ) : Type 0 where
  names : List ℕ
  is : IsPiece tables names (get_or ps k no_piece)
  from : (n : ℕ) → has_name names n ≡ true → (has_name known n ≡ true) ⊎ ((z : ℕ) × (z < k) × Has n (bindings_of (get_or ps z no_piece)))

knows_at : (tables : List Table) (known : List ℕ) (ps : List Piece) (k : ℕ) → ArePieces tables known ps → k < length ps → KnowsAt tables known ps k
knows_at tables known [] k is l = absurd (omega (arith, l))
knows_at tables known (p ∷ ps) zero is l = record { names = known; is = is.0; from = λ n h. inl h }
knows_at tables known (p ∷ ps) (suc k) is l =
    let r = knows_at tables (known_behind known p) ps k is.1 (omega (arith, l)) in
    record {
      names = r.names;
      is = r.is;
      from = λ n h. elim (r.from n h) [ inl i ↦ behind p.is_now n i | inr z ↦ (let m = z.1 in inr (suc z.0, omega (arith, m), z.2)) ];
    }
  where
    behind : (b : Bool) (n : ℕ) → has_name (cond b (known ++ bindings_of p) known) n ≡ true → (has_name known n ≡ true) ⊎ ((z : ℕ) × (z < suc k) × Has n (bindings_of (get_or (p ∷ ps) z no_piece)))
    behind true n h = elim (either_name known (bindings_of p) n h) [ inl i ↦ inl i | inr i ↦ inr (0, omega arith, name_has (bindings_of p) n i) ]
    behind false n h = inl h

module _ (plan : Plan) (proc : ℕ) (ok : IsAccepted plan) (there : proc < length plan.program.procedures) where
  known : (k : ℕ) → k < length (procedure_of plan proc).pieces → KnowsAt plan.program.tables (range_with_len 0 (procedure_of plan proc).arguments) (procedure_of plan proc).pieces k
  known k l = knows_at plan.program.tables (range_with_len 0 (procedure_of plan proc).arguments) (procedure_of plan proc).pieces k (is_procedure plan proc ok there).pieces l

  -- a piece binds none of the names that it may use of those before it
  new_names : (k : ℕ) (l : k < length (procedure_of plan proc).pieces) → AllByRecursion (λ n. has_name (known k l).names n ≡ false) (bindings_of (at (procedure_of plan proc) k))
  new_names k l = has_all _ (bindings_of (at (procedure_of plan proc) k)) (λ n h. not_true (has_name (known k l).names n) (λ e.
      let mine = bound_named (at (procedure_of plan proc) k) n ∙ has_named (bindings_of (at (procedure_of plan proc) k)) n h in
      elim ((known k l).from n e) [
        | inl i ↦ argument_not_bound plan proc ok there k n i mine
        | inr z ↦ (let m = z.1 in
            let same : z.0 ≡ k = binder (procedure_of plan proc) (has_names plan proc ok there) z.0 k n (bound_named (at (procedure_of plan proc) z.0) n ∙ has_named (bindings_of (at (procedure_of plan proc) z.0)) n z.2) mine in absurd (omega (arith, m, same)))
      ]))

  -- what a piece uses follows from the names' values as it begins
  pub piece_uses_known : (p : Progress) (k : ℕ) → uses_of_piece p (at (procedure_of plan proc) k) ≡ flat_map (uses_of (value (at (procedure_of plan proc) k).place p.environment) p.environment) (at (procedure_of plan proc) k).body
  piece_uses_known p k = elim (cases_lt k (length (procedure_of plan proc).pieces)) [
    | inl l ↦ uses_of_body-known plan.program.tables (known k l).names [] (value (at (procedure_of plan proc) k).place p.environment) p p.environment (at (procedure_of plan proc) k).body (known k l).is.body (new_names k l) (λ n h. refl)
    | inr past ↦ none_used p k past
  ]
    where
      none_used : (p : Progress) (k : ℕ) → length (procedure_of plan proc).pieces ≤ k → uses_of_piece p (at (procedure_of plan proc) k) ≡ flat_map (uses_of (value (at (procedure_of plan proc) k).place p.environment) p.environment) (at (procedure_of plan proc) k).body
      none_used p k past = subst (λ (q : Piece). uses_of_piece p q ≡ flat_map (uses_of (value q.place p.environment) p.environment) q.body) (sym (get_or_past (procedure_of plan proc).pieces k no_piece past)) refl

  -- a deferrable group is one piece
  one_piece : (g : ℕ) → is_immediate_of plan proc g ≡ false → ((k : ℕ) × ((group_of plan proc g).pieces ≡ k ∷ [])) ⊎ ((group_of plan proc g).pieces ≡ [])
  one_piece g e = go (group_of plan proc g).pieces refl
    where
      go : (ks : List ℕ) → (group_of plan proc g).pieces ≡ ks → ((k : ℕ) × ((group_of plan proc g).pieces ≡ k ∷ [])) ⊎ ((group_of plan proc g).pieces ≡ [])
      go [] is = inr is
      go (k ∷ []) is = inl (k, is)
      go (k ∷ j ∷ js) is = absurd (two_alone plan proc ok there g k j js is e)

-- what a deferrable group uses: its one piece, from what the group is given
pub uses_listed : (plan : Plan) (c : GroupCall) (s : Store) → IsAccepted plan → c.proc < length plan.program.procedures → is_immediate_of plan c.proc c.group ≡ false
    → group_uses plan c s ≡ flat_map (uses_with (begin plan c s).environment) (group_pieces plan c)
uses_listed plan c s ok there e = elim (one_piece plan c.proc ok there c.group e) [
  | inl one ↦ (
      let here : group_pieces plan c ≡ at (procedure_of plan c.proc) one.0 ∷ [] = ap (map (at (procedure_of plan c.proc))) one.1 in
      ap (uses_of_pieces (begin plan c s)) here
      ∙ ap (λ us. us ++ []) (piece_uses_known plan c.proc ok there (begin plan c s) one.0)
      ∙ sym (ap (flat_map (uses_with (begin plan c s).environment)) here))
  | inr none ↦ (λ i. uses_of_pieces (begin plan c s) (map (at (procedure_of plan c.proc)) (none i))) ∙ sym (λ i. flat_map (uses_with (begin plan c s).environment) (map (at (procedure_of plan c.proc)) (none i)))
]

-- so it is the same on every store
pub uses_steady : (plan : Plan) (c : GroupCall) (s t : Store) → IsAccepted plan → c.proc < length plan.program.procedures → is_immediate_of plan c.proc c.group ≡ false → group_uses plan c s ≡ group_uses plan c t
uses_steady plan c s t ok there e = uses_listed plan c s ok there e ∙ sym (uses_listed plan c t ok there e)

-- what was listed so is what the group uses
pub uses_deferrable : (result : Result (List Access) NoMemory) (plan : Plan) (c : GroupCall) → IsAccepted plan → c.proc < length plan.program.procedures → is_immediate_of plan c.proc c.group ≡ false
    → {listed : List Access} → ((s : Store) → listed ≡ flat_map (uses_with (begin plan c s).environment) (group_pieces plan c)) → IfOk result (λ uses. uses ≡ listed) → IfOk result (λ uses. (store : Store) → uses ≡ group_uses plan c store)
uses_deferrable (Ok uses) plan c ok there e same is = λ store. is ∙ same store ∙ sym (uses_listed plan c store ok there e)
uses_deferrable (Err fault) plan c ok there e same is = tt
