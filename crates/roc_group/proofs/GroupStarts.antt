-- A group begins with the names that all pieces before it left, as far as it knows them
use Rattle.std.proofs.Common.{◌≡◌, ℕ, zero, suc, ◌<◌, ◌≤◌, ◌-◌, ◌+◌, ℤ, pos, Bool, true, false, not, ◌&&◌, ◌||◌, ◌==◌, List, [], ◌∷◌, length, map, get_or, replicate, refl, sym, subst, ◌∙◌, inl, inr, arith}
use Rattle.std.specs.Bool.{nat_lt}
use Rattle.std.specs.List.{list_any, range_with_len}
use Rattle.std.proofs.lemmas.Bool.{false≢true}
use Rattle.std.proofs.lemmas.List.{length-append, length-replicate}
use Rattle.std.proofs.lemmas.List.Folds.{list_any-append}
use Rattle.roc_sequence.specs.Lists.{Has}
use Rattle.roc_sequence.specs.Rising.{IsRising}
use Rattle.roc_sequence.proofs.Holds.{all_has, any_has, has_any}
use Rattle.roc_sequence.proofs.Members.{has_filter, from_has_filter, has_map}
use Rattle.roc_sequence.proofs.Ranges.{range_below}
use Rattle.roc_program.specs.Program.{Piece, Procedure, Table}
use Rattle.roc_program.specs.LookUps.{no_piece}
use Rattle.roc_program.specs.Values.{Environment, value_of_name, with_arguments}
use Rattle.roc_program.specs.Names.{piece_uses, bindings_of, bindings, has_name}
use Rattle.roc_program.specs.WellFormed.{IsProcedure}
use Rattle.roc_plan.specs.Groups.{pieces_at, bound_in, inputs_in, with_values}
use Rattle.roc_plan.proofs.Values.{long_with}
use Rattle.roc_merge_groups.proofs.Elements.{range_rising}
use Rattle.roc_merge_groups.proofs.Forward as forward
use Rattle.roc_merge_groups.proofs.Forward.{name_has, has_named}
use Rattle.roc_group.proofs.Touches.{binds_in, known_in, binds_any, knows_any}
use Rattle.roc_group.proofs.Starts.{bound_named, used_or_bound, values_other, values_here, rising_filter}

module _ (procedure : Procedure) where
  abbrev pub at : ℕ → Piece
  at k = get_or procedure.pieces k no_piece

  -- the names that pieces bind, in the two ways of saying it
  pub pieces_bound : (ks : List ℕ) (n : ℕ) → has_name (bound_in procedure ks) n ≡ binds_any at ks n
  pieces_bound [] n = refl
  pieces_bound (k ∷ ks) n =
      list_any-append (λ m. m == n) (bindings_of (at k)) (bound_in procedure ks) ∙ (λ i. sym (bound_named (at k) n) i || pieces_bound ks n i)

  -- what is kept of a procedure: each name is bound once, and all are numbered
  pub record HasNames : Type 0 where
    pub rising : IsRising nat_lt (bindings procedure.pieces)
    pub below : (n : ℕ) → Has n (bindings procedure.pieces) → n < procedure.names
    pub above : (n : ℕ) → Has n (bindings procedure.pieces) → procedure.arguments ≤ n

  -- two pieces that bind one name are one
  pub binder : HasNames → (j k n : ℕ) → binds_in (at j) n ≡ true → binds_in (at k) n ≡ true → j ≡ k
  binder has j k n e f =
      forward.bound_once procedure.pieces j k n has.rising (name_has (bindings_of (at j)) n (sym (bound_named (at j) n) ∙ e)) (name_has (bindings_of (at k)) n (sym (bound_named (at k) n) ∙ f))

  -- what a piece binds, the procedure binds
  pub somewhere : (k n : ℕ) → binds_in (at k) n ≡ true → has_name (bindings procedure.pieces) n ≡ true
  somewhere k n e = has_named (bindings procedure.pieces) n (forward.bound_in procedure.pieces k n (name_has (bindings_of (at k)) n (sym (bound_named (at k) n) ∙ e)))

  -- no piece of one list binds a name that a piece of another binds, where they have none in common
  pub not_by_others : HasNames → (js ks : List ℕ) (n : ℕ) → ((k : ℕ) → Has k js → Has k ks → ⊥) → binds_any at ks n ≡ true → binds_any at js n ≡ false
  not_by_others has js ks n apart e = none (binds_any at js n) refl
    where
      none : (b : Bool) → binds_any at js n ≡ b → b ≡ false
      none false f = refl
      none true f =
          let j = any_has (λ k. binds_in (at k) n) js f in
          let k = any_has (λ k. binds_in (at k) n) ks e in
          absurd (apart k.0 (subst (λ x. Has x js) (binder has j.0 k.0 n j.2 k.2) j.1) k.1)

  -- what the procedure does not bind, no pieces bind
  pub not_bound : (ks : List ℕ) (n : ℕ) → has_name (bindings procedure.pieces) n ≡ false → binds_any at ks n ≡ false
  not_bound ks n e = none (binds_any at ks n) refl
    where
      none : (b : Bool) → binds_any at ks n ≡ b → b ≡ false
      none false f = refl
      none true f = let k = any_has (λ k. binds_in (at k) n) ks f in absurd (false≢true (sym e ∙ somewhere k.0 n k.2))

  -- a piece of those that know a name uses it, where none of them binds it
  used_by : (ks : List ℕ) (n : ℕ) → knows_any at ks n ≡ true → has_name (bound_in procedure ks) n ≡ false → list_any (λ piece. piece_uses piece n) (pieces_at procedure ks) ≡ true
  used_by ks n e none =
      let k = any_has (λ k. known_in (at k) n) ks e in
      elim (used_or_bound (at k.0) n k.2) [
        | inl u ↦ has_any (λ piece. piece_uses piece n) (pieces_at procedure ks) (at k.0) (has_map at k.0 ks k.1) u
        | inr b ↦ absurd (false≢true (sym none ∙ pieces_bound ks n ∙ has_any (λ k. binds_in (at k) n) ks k.0 k.1 b))
      ]

  -- the test for a name that a group takes
  abbrev pub takes : List ℕ → ℕ → Bool
  takes ks n = list_any (λ piece. piece_uses piece n) (pieces_at procedure ks) && not (has_name (bound_in procedure ks) n)

  pub taken_is : (ks : List ℕ) (n : ℕ) → Has n (inputs_in procedure ks) → Has n (bindings procedure.pieces) × (has_name (bound_in procedure ks) n ≡ false)
  taken_is ks n h =
      let r = from_has_filter (takes ks) n (bindings procedure.pieces) h in
      (r.0, second (list_any (λ piece. piece_uses piece n) (pieces_at procedure ks)) (has_name (bound_in procedure ks) n) r.1)
    where
      second : (a b : Bool) → (a && not b) ≡ true → b ≡ false
      second a true e = absurd (neither a e)
        where
          neither : (a : Bool) → (a && false) ≡ true → ⊥
          neither true e = false≢true e
          neither false e = false≢true e
      second a false e = refl

  pub is_taken : (ks : List ℕ) (n : ℕ) → Has n (bindings procedure.pieces) → list_any (λ piece. piece_uses piece n) (pieces_at procedure ks) ≡ true → has_name (bound_in procedure ks) n ≡ false → Has n (inputs_in procedure ks)
  is_taken ks n h u none = has_filter (takes ks) n (bindings procedure.pieces) h (λ i. u i && not (none i))

  -- all names' values at first
  pub init_long : (args : List ℤ) → procedure.names ≤ length (with_arguments procedure args)
  init_long args =
      let a = length-append args (replicate (procedure.names - length args) (pos 0)) in
      let b = length-replicate {A = ℤ} (procedure.names - length args) (pos 0) in
      omega (arith, a, b)

  module _ (has : HasNames) (args : List ℤ) (done ks : List ℕ) (apart : (k : ℕ) → Has k done → Has k ks → ⊥) (f : ℕ → ℤ) (env : Environment)
      (fresh : (n : ℕ) → binds_any at done n ≡ false → value_of_name env n ≡ value_of_name (with_arguments procedure args) n)
      (given : (n : ℕ) → Has n (inputs_in procedure ks) → f n ≡ value_of_name env n) where
    abbrev pub init : Environment
    init = with_arguments procedure args

    abbrev pub starts : Environment
    starts = with_values (inputs_in procedure ks) (map f (inputs_in procedure ks)) init

    untaken : (n : ℕ) → ¬ Has n (inputs_in procedure ks) → binds_any at done n ≡ false → value_of_name env n ≡ value_of_name starts n
    untaken n none e = fresh n e ∙ sym (values_other (inputs_in procedure ks) (map f (inputs_in procedure ks)) init n none)

    -- each name that the group knows
    pub start_values : (n : ℕ) → knows_any at ks n ≡ true → value_of_name env n ≡ value_of_name starts n
    start_values n e = bound (has_name (bound_in procedure ks) n) refl (has_name (bindings procedure.pieces) n) refl
      where
        bound : (a : Bool) → has_name (bound_in procedure ks) n ≡ a → (b : Bool) → has_name (bindings procedure.pieces) n ≡ b → value_of_name env n ≡ value_of_name starts n
        bound true h b g = untaken n (λ i. false≢true (sym (taken_is ks n i).1 ∙ h)) (not_by_others has done ks n apart (sym (pieces_bound ks n) ∙ h))
        bound false h true g =
            let there : Has n (bindings procedure.pieces) = name_has (bindings procedure.pieces) n g in
            let i = is_taken ks n there (used_by ks n e h) h in
            sym (given n i) ∙ sym (values_here (inputs_in procedure ks) f init n (rising_filter (takes ks) (bindings procedure.pieces) has.rising) i (let l = has.below n there in let m = init_long args in omega (arith, l, m)))
        bound false h false g = untaken n (λ i. false≢true (sym g ∙ has_named (bindings procedure.pieces) n (taken_is ks n i).0)) (not_bound done n g)

    pub start_long : length env ≡ length init → length env ≡ length starts
    start_long e = e ∙ sym (long_with (inputs_in procedure ks) (map f (inputs_in procedure ks)) init)

-- a well-formed procedure has its names so
pub names_of_procedure : (tables : List Table) (procedure : Procedure) → IsProcedure tables procedure → HasNames procedure
names_of_procedure tables procedure is = record {
  rising = subst (λ xs. IsRising nat_lt xs) (sym is.numbers) (range_rising procedure.arguments (length (bindings procedure.pieces)));
  below = λ n h.
      all_has (λ m. m < procedure.names) n (range_with_len procedure.arguments (length (bindings procedure.pieces)))
      (range_below procedure.arguments (length (bindings procedure.pieces)) procedure.names (sym is.names)) (subst (λ xs. Has n xs) is.numbers h);
  above = λ n h. range_from procedure.arguments (length (bindings procedure.pieces)) n (subst (λ xs. Has n xs) is.numbers h);
}
  where
    range_from : (from count n : ℕ) → Has n (range_with_len from count) → from ≤ n
    range_from from zero n h = absurd h
    range_from from (suc count) n (inl e) = omega (arith, e)
    range_from from (suc count) n (inr h) = let l = range_from (from + 1) count n h in omega (arith, l)
