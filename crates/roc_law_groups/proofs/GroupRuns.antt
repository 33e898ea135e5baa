-- A group's run, where all pieces before it have run, is that of its pieces there
use Rattle.std.proofs.Common.{◌≡◌, ℕ, ℤ, pos, Bool, true, false, ◌||◌, ◌==◌, if◌then◌else◌, List, [], ◌∷◌, ◌++◌, length, map, get_or, refl, sym, ap, subst, ◌∙◌, inl, inr, append-nil}
use Rattle.std.specs.List.{AllByRecursion, flat_map}
use Rattle.std.proofs.lemmas.Bool.{eq-eqb, eqb-true, or_parts}
use Rattle.std.proofs.lemmas.List.{get_or-map, map-append}
use Rattle.std.proofs.lemmas.List.Concat.{flat_map-append}
use Rattle.std.proofs.lemmas.List.Folds.{list_any-append}
use Rattle.roc_merge_groups.proofs.Forward.{name_has, has_named}
use Rattle.roc_sequence.specs.Lists.{Has}
use Rattle.roc_sequence.proofs.Holds.{all_has}
use Rattle.roc_sequence.proofs.Members.{has_append, has_map, has_flat_map}
use Rattle.roc_rows.proofs.Stored.{same_store}
use Rattle.roc_program.specs.Program.{Piece}
use Rattle.roc_program.specs.Values.{Environment, value_of_name, with_arguments}
use Rattle.roc_program.specs.Names.{bindings, has_name}
use Rattle.roc_whole.specs.Run.{Progress, progress, after_pieces}
use Rattle.roc_plan.specs.declared.group.Input.{Input}
use Rattle.roc_plan.specs.Groups.{Plan, procedure_of, groups_of, group_of, bound_of, inputs_in, inputs_of, source_in, with_values}
use Rattle.roc_group.specs.GroupRun.{GroupCall, group_run, bound_by_run}
use Rattle.roc_law_groups.specs.GroupsRun.{Given, TurnStage, bound_by, taken, call_of, after_turn}
use Rattle.roc_group.proofs.Alike.{Alike}
use Rattle.roc_law_groups.proofs.Moving.{run_all, spoken, run_in_words, run_all-quiet}
use Rattle.roc_group.proofs.Touches.{binds_in, known_in, any_implied, bound_known, not_true, binds_any, knows_any}
use Rattle.roc_group.proofs.Starts.{at_position, position_within}
use Rattle.roc_law_groups.proofs.Stages.{run_long, run_value, DoAlike, do_alike}
use Rattle.roc_group.proofs.GroupStarts.{at, HasNames, pieces_bound, not_by_others, start_values, start_long, taken_is}

-- ---- what was given

pub bound_before : (given : List Given) (x : Given) (h : ℕ) → (x.group == h) ≡ false → bound_by (given ++ x ∷ []) h ≡ bound_by given h
bound_before [] x h e = ap (λ b. if b then x.bound else []) e
bound_before (g ∷ gs) x h e = ap (λ rest. if g.group == h then g.bound else rest) (bound_before gs x h e)

bound_now : (given : List Given) (x : Given) → ¬ Has x.group (map (λ g. g.group) given) → bound_by (given ++ x ∷ []) x.group ≡ x.bound
bound_now [] x none = ap (λ b. if b then x.bound else []) (eq-eqb x.group x.group refl)
bound_now (g ∷ gs) x none = go (g.group == x.group) refl (bound_now gs x (λ h. none (inr h)))
  where
    go : (b : Bool) → (g.group == x.group) ≡ b → bound_by (gs ++ x ∷ []) x.group ≡ x.bound → (if b then g.bound else bound_by (gs ++ x ∷ []) x.group) ≡ x.bound
    go true e ih = absurd (none (inl (sym (eqb-true g.group x.group e))))
    go false e ih = ih

same_values_of : (ns : List ℕ) (xs ys : Environment) → ((n : ℕ) → Has n ns → value_of_name xs n ≡ value_of_name ys n) → map (value_of_name xs) ns ≡ map (value_of_name ys) ns
same_values_of [] xs ys h = refl
same_values_of (n ∷ ns) xs ys h = let one = h n (inl refl) in let rest = same_values_of ns xs ys (λ m k. h m (inr k)) in λ i. one i ∷ rest i

map_map : {A B C : Type 0} (f : A → B) (g : B → C) (xs : List A) → map g (map f xs) ≡ map (λ x. g (f x)) xs
map_map f g [] = refl
map_map f g (x ∷ xs) = ap (λ ys. g (f x) ∷ ys) (map_map f g xs)

module _ (plan : Plan) (proc : ℕ) (args : List ℤ) (has : HasNames (procedure_of plan proc))
    -- each name that a group takes is bound by the group that it is taken from
    (bound_there : (n : ℕ) → Has n (bindings (procedure_of plan proc).pieces) → has_name (bound_of plan proc (source_in (procedure_of plan proc) (groups_of plan proc) n).group) n ≡ true) where
  abbrev pub pieces_of : ℕ → List ℕ
  pieces_of g = (group_of plan proc g).pieces

  abbrev pub pieces_in_turn : List ℕ → List ℕ
  pieces_in_turn done = flat_map pieces_of done

  abbrev pub the_piece : ℕ → Piece
  the_piece = at (procedure_of plan proc)

  abbrev pub init : Environment
  init = with_arguments (procedure_of plan proc) args

  -- where groups stand: all their pieces have run, and what they gave are the values of the names that they bound
  pub record IsAt (done : List ℕ) (q : Progress) (s : TurnStage) : Type 0 where
    pub cells : s.store ≡ q.store
    pub nothing : q.reply ≡ []
    pub long : length q.environment ≡ length init
    pub fresh : (n : ℕ) → binds_any the_piece (pieces_in_turn done) n ≡ false → value_of_name q.environment n ≡ value_of_name init n
    pub groups : map (λ g. g.group) s.given ≡ done
    pub bound : (h : ℕ) → Has h done → bound_by s.given h ≡ map (value_of_name q.environment) (bound_of plan proc h)

  module _ (done : List ℕ) (q : Progress) (s : TurnStage) (is : IsAt done q s) (g : ℕ)
      (new : (k : ℕ) → Has k (pieces_in_turn done) → Has k (pieces_of g) → ⊥)
      (inputs : AllByRecursion (λ input. Has input.group done) (inputs_of plan proc g)) where
    abbrev pub source : ℕ → Input
    source n = source_in (procedure_of plan proc) (groups_of plan proc) n

    -- the value that is taken for a name
    abbrev pub value_for : ℕ → ℤ
    value_for n = taken s.given (source n)

    given_value : (n : ℕ) → Has n (inputs_in (procedure_of plan proc) (pieces_of g)) → value_for n ≡ value_of_name q.environment n
    given_value n h =
        let from : Has (source n).group done = all_has (λ input. Has input.group done) (source n) (inputs_of plan proc g) inputs (has_map source n (inputs_in (procedure_of plan proc) (pieces_of g)) h) in
        let names : List ℕ = bound_of plan proc (source n).group in
        let there : Has n names = name_has names n (bound_there n (taken_is (procedure_of plan proc) (pieces_of g) n h).0) in
        ap (λ vs. get_or vs (source n).at (pos 0)) (is.bound (source n).group from)
        ∙ get_or-map (value_of_name q.environment) names (source n).at 0 (pos 0) (position_within names n there)
        ∙ ap (value_of_name q.environment) (at_position names n there)

    abbrev pub c : GroupCall
    c = call_of plan proc args s.given g

    abbrev pub start : Progress
    start = progress q.store (with_values (inputs_in (procedure_of plan proc) (pieces_of g)) (map value_for (inputs_in (procedure_of plan proc) (pieces_of g))) init) []

    abbrev pub knows : ℕ → Bool
    knows n = knows_any the_piece (pieces_of g) n

    begins : Alike knows (λ c. true) q start
    begins = record {
      long = start_long (procedure_of plan proc) has args (pieces_in_turn done) (pieces_of g) new value_for q.environment is.fresh given_value is.long;
      values = start_values (procedure_of plan proc) has args (pieces_in_turn done) (pieces_of g) new value_for q.environment is.fresh given_value;
      numbers = λ c e. refl;
      said = is.nothing;
    }

    alike : DoAlike the_piece knows q start (pieces_of g)
    alike = do_alike the_piece knows q start (pieces_of g) (λ n e. e) begins

    -- the group's run, in words
    group_ran : group_run plan c s.store ≡ progress (run_all the_piece start (pieces_of g)).store (run_all the_piece start (pieces_of g)).environment (spoken the_piece start (pieces_of g))
    group_ran =
        (λ i. after_pieces (progress (is.cells i) (with_values (inputs_in (procedure_of plan proc) (pieces_of g)) (map_map source (taken s.given) (inputs_in (procedure_of plan proc) (pieces_of g)) i) init) []) (map the_piece (pieces_of g)))
        ∙ run_in_words the_piece start.store start.environment (pieces_of g)

    pub outs_are : (group_run plan c s.store).reply ≡ spoken the_piece q (pieces_of g)
    outs_are = ap (λ p. p.reply) group_ran ∙ sym alike.words

    cells_are : (group_run plan c s.store).store ≡ (run_all the_piece q (pieces_of g)).store
    cells_are = ap (λ p. p.store) group_ran ∙ sym (same_store _ _ (λ c. alike.end.numbers c refl))

    known_bound : (n : ℕ) → binds_any the_piece (pieces_of g) n ≡ true → knows n ≡ true
    known_bound n e = any_implied (λ k. binds_in (the_piece k) n) (λ k. known_in (the_piece k) n) (λ k f. bound_known (the_piece k) n f) (pieces_of g) e

    bound_are : bound_by_run plan c s.store ≡ map (value_of_name (run_all the_piece q (pieces_of g)).environment) (bound_of plan proc g)
    bound_are =
        ap (λ (p : Progress). map (value_of_name p.environment) (bound_of plan proc g)) group_ran
        ∙ sym (same_values_of (bound_of plan proc g) (run_all the_piece q (pieces_of g)).environment (run_all the_piece start (pieces_of g)).environment (λ n h.
        alike.end.values n (known_bound n (sym (pieces_bound (procedure_of plan proc) (pieces_of g) n) ∙ has_named (bound_of plan proc g) n h))))

    -- what an earlier group bound stays
    kept : (h : ℕ) → Has h done → map (value_of_name q.environment) (bound_of plan proc h) ≡ map (value_of_name (run_all the_piece q (pieces_of g)).environment) (bound_of plan proc h)
    kept h k =
        same_values_of (bound_of plan proc h) q.environment (run_all the_piece q (pieces_of g)).environment (λ n there.
        sym (run_value the_piece q (pieces_of g) n
        (not_by_others (procedure_of plan proc) has (pieces_of g) (pieces_of h) n (λ x i j. new x (has_flat_map pieces_of x h done k j) i)
        (sym (pieces_bound (procedure_of plan proc) (pieces_of h) n) ∙ has_named (bound_of plan proc h) n there))))

    pub next_stage : ¬ Has g done → IsAt (done ++ g ∷ []) (run_all the_piece q (pieces_of g)) (after_turn plan proc args s g)
    next_stage fresh_group = record {
      cells = cells_are;
      nothing = run_all-quiet the_piece q (pieces_of g) is.nothing;
      long = run_long the_piece q (pieces_of g) ∙ is.long;
      fresh = λ n e.
          let parts = or_parts (binds_any the_piece (pieces_in_turn done) n) (binds_any the_piece (pieces_of g) n) (sym (both n) ∙ e) in
          run_value the_piece q (pieces_of g) n parts.1 ∙ is.fresh n parts.0;
      groups = map-append (λ g. g.group) s.given (gave ∷ []) ∙ ap (λ xs. xs ++ g ∷ []) is.groups;
      bound = λ h k. elim (has_append h done (g ∷ []) k) [
        | inl i ↦ bound_before s.given gave h (other h i) ∙ is.bound h i ∙ kept h i
        | inr i ↦ elim i [ inl e ↦ subst (λ x. bound_by (s.given ++ gave ∷ []) x ≡ map (value_of_name (run_all the_piece q (pieces_of g)).environment) (bound_of plan proc x)) (sym e) (bound_now s.given gave (λ j. fresh_group (subst (λ xs. Has g xs) is.groups j)) ∙ bound_are) | inr none ↦ absurd none ]
      ];
    }
      where
        gave : Given
        gave = record { group = g; bound = bound_by_run plan c s.store; outs = (group_run plan c s.store).reply }

        other : (h : ℕ) → Has h done → (g == h) ≡ false
        other h i = not_true (g == h) (λ e. fresh_group (subst (λ x. Has x done) (sym (eqb-true g h e)) i))

        both : (n : ℕ) → binds_any the_piece (pieces_in_turn (done ++ g ∷ [])) n ≡ (binds_any the_piece (pieces_in_turn done) n || binds_any the_piece (pieces_of g) n)
        both n = ap (λ ks. binds_any the_piece ks n) (flat_map-append pieces_of done (g ∷ []) ∙ ap (λ ks. pieces_in_turn done ++ ks) (append-nil (pieces_of g))) ∙ list_any-append (λ k. binds_in (the_piece k) n) (pieces_in_turn done) (pieces_of g)
