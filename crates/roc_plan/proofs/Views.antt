-- The groups of a view: its pieces, one by one
use Rattle.std.proofs.Common.{◌≡◌, ◌≢◌, ◌∙◌, ℕ, zero, suc, ◌<◌, ◌+◌, true, false, List, [], ◌∷◌, length, map, get_or, refl, sym, ap, subst, inl, inr, arith}
use Rattle.std.proofs.lemmas.Bool.{cases_lt, false≢true, false_from_ne_true}
use Rattle.std.proofs.lemmas.List.{length-map, get_or_past}
use Rattle.std.proofs.lemmas.List.FromFn.{length-range_with_len, get_or-range_with_len}
use Rattle.std.specs.Bool.{nat_lt}
use Rattle.std.specs.List.{AllByRecursion, range_with_len}
use Rattle.roc_sequence.specs.Lists.{Has}
use Rattle.roc_sequence.specs.Rising.{IsRising}
use Rattle.roc_sequence.proofs.Holds.{all_has}
use Rattle.roc_sequence.proofs.Members.{has_map, from_has_map}
use Rattle.roc_program.specs.Pieces.{pieces_in}
use Rattle.roc_program.proofs.Conflicts.{in_conflict_parts}
use Rattle.roc_program.proofs.Views.{view_there}
use Rattle.roc_conflict.proofs.Views.{view_is_deferrable}
use Rattle.roc_merge_groups.specs.Groups.{piece_numbered, groups_in, group_at, first_piece}
use Rattle.roc_merge_groups.specs.Grouping.{AreTogether, IsGrouping}
use Rattle.roc_merge_groups.proofs.Elements.{has_at_place, rising_same, numbers_one_way, range_rising, has_range, from_has_range}
use Rattle.roc_plan.specs.declared.group.Input.{Input}
use Rattle.roc_plan.specs.Groups.{Group, Plan, no_group, procedure_of, is_view_of, groups_of, group_of, is_immediate_of, inputs_of}
use Rattle.roc_plan.specs.Accepted.{grouping_of, is_piece_immediate, IsAccepted}
use Rattle.roc_plan.specs.Turns.{may_meet}
use Rattle.roc_plan.proofs.Placed.{group_again, count_again, accepted_at}
use Rattle.roc_plan.proofs.Classed.{class_of_piece}
use Rattle.roc_plan.proofs.Sources.{source_of}
use Rattle.roc_plan.proofs.Meetings.{meeting}

-- a list that rises by the numbers of its elements
rising_numbers : {A : Type 0} (f : A → ℕ) (xs : List A) → IsRising (λ a b. nat_lt (f a) (f b)) xs → IsRising nat_lt (map f xs)
rising_numbers f [] rises = tt
rising_numbers {A} f (x ∷ xs) rises = (above xs rises.0, rising_numbers f xs rises.1)
  where
    above : (ys : List A) → AllByRecursion (λ y. nat_lt (f x) (f y) ≡ true) ys → AllByRecursion (λ n. nat_lt (f x) n ≡ true) (map f ys)
    above [] all = tt
    above (y ∷ ys) all = (all.0, above ys all.1)

number_at : {A : Type 0} (f : A → ℕ) (xs : List A) (i : ℕ) (d : A) (e : ℕ) → i < length xs → get_or (map f xs) i e ≡ f (get_or xs i d)
number_at f [] i d e l = absurd (omega arith)
number_at f (x ∷ xs) zero d e l = refl
number_at f (x ∷ xs) (suc i) d e l = number_at f xs i d e (omega arith)

below_not_same : (x y : ℕ) → nat_lt x y ≡ true → x ≢ y
below_not_same x y l e = numbers_one_way x y l (subst (λ z. nat_lt z x ≡ true) e (subst (λ z. nat_lt x z ≡ true) (sym e) l))

module _ (plan : Plan) (is : IsAccepted plan) (proc : ℕ) (viewed : is_view_of plan proc ≡ true) where
  there : proc < length plan.program.procedures
  there = view_there plan.program proc viewed

  gs : List (List ℕ)
  gs = groups_in (grouping_of plan) proc

  grouping : IsGrouping (length (pieces_in plan.program proc)) (groups_in (grouping_of plan) proc)
  grouping = (accepted_at plan is proc there).grouping

  piece_waits : (x : ℕ) → is_piece_immediate plan (piece_numbered proc x) ≡ false
  piece_waits x = false_from_ne_true (is_piece_immediate plan (piece_numbered proc x)) (λ e.
      view_is_deferrable plan.program (piece_numbered proc x) is.well_formed viewed ((is.grouping.least (piece_numbered proc x)).0 e))

  -- a group of it has one piece
  single : (group : List ℕ) → Has group (groups_in (grouping_of plan) proc) → group ≡ first_piece group ∷ []
  single group h = go group h (all_has (λ g. 0 < length g) group _ grouping.some h) (all_has (λ g. IsRising nat_lt g) group _ grouping.rising h)
    where
      go : (g : List ℕ) → Has g (groups_in (grouping_of plan) proc) → 0 < length g → IsRising nat_lt g → g ≡ first_piece g ∷ []
      go [] k some rises = absurd (omega arith)
      go (x ∷ []) k some rises = refl
      go (x ∷ y ∷ rest) k some rises =
          let together : AreTogether (groups_in (grouping_of plan) proc) x y = record { group = x ∷ y ∷ rest; is = k; one = inl refl; other = inr (inl refl) } in
          absurd (false≢true (sym (piece_waits x) ∙ (accepted_at plan is proc there).immediate x y (below_not_same x y rises.0.0) together))

  -- the first pieces are all its pieces
  firsts : map first_piece (groups_in (grouping_of plan) proc) ≡ range_with_len 0 (length (pieces_in plan.program proc))
  firsts =
      rising_same nat_lt numbers_one_way (map first_piece (groups_in (grouping_of plan) proc)) (range_with_len 0 (length (pieces_in plan.program proc)))
      (rising_numbers first_piece (groups_in (grouping_of plan) proc) grouping.numbered) (range_rising 0 (length (pieces_in plan.program proc)))
      (λ x h. forth x h) (λ x h. back x h)
    where
      forth : (x : ℕ) → Has x (map first_piece (groups_in (grouping_of plan) proc)) → Has x (range_with_len 0 (length (pieces_in plan.program proc)))
      forth x h =
          let g = from_has_map first_piece x (groups_in (grouping_of plan) proc) h in
          let own : Has x g.0 = subst (λ (ys : List ℕ). Has x ys) (sym (single g.0 g.1)) (inl g.2) in
          let below = (grouping.whole x).1 (record { group = g.0; is = g.1; one = own; other = own }) in
          has_range 0 (length (pieces_in plan.program proc)) x (omega arith) (omega arith)

      back : (x : ℕ) → Has x (range_with_len 0 (length (pieces_in plan.program proc))) → Has x (map first_piece (groups_in (grouping_of plan) proc))
      back x h =
          let l = from_has_range 0 (length (pieces_in plan.program proc)) x h in
          let t = (grouping.whole x).0 (omega (arith, l.1)) in
          let own : Has x (first_piece t.group ∷ []) = subst (λ (ys : List ℕ). Has x ys) (single t.group t.is) t.one in
          elim own [
            | inl e ↦ subst (λ n. Has n (map first_piece (groups_in (grouping_of plan) proc))) (sym e) (has_map first_piece t.group (groups_in (grouping_of plan) proc) t.is)
            | inr k ↦ absurd k
          ]

  pub view_count : length (groups_of plan proc) ≡ length (procedure_of plan proc).pieces
  view_count =
      sym (count_again plan is proc) ∙ sym (length-map (groups_in (grouping_of plan) proc) first_piece) ∙ ap (λ (ns : List ℕ). length ns) firsts
      ∙ length-range_with_len 0 (length (pieces_in plan.program proc))

  pub view_group : (g : ℕ) → g < length (groups_of plan proc) → (group_of plan proc g).pieces ≡ g ∷ []
  view_group g l =
      let inside : g < length (groups_in (grouping_of plan) proc) = omega (arith, l, count_again plan is proc) in
      let none_before : 0 + g ≡ g = omega arith in
      let first : first_piece (group_at (groups_in (grouping_of plan) proc) g) ≡ g =
      sym (number_at first_piece (groups_in (grouping_of plan) proc) g [] g inside) ∙ ap (λ (ns : List ℕ). get_or ns g g) firsts
      ∙ get_or-range_with_len 0 (length (pieces_in plan.program proc)) g g (omega (arith, l, view_count)) ∙ none_before in
      sym (group_again plan is proc g) ∙ single (group_at (groups_in (grouping_of plan) proc) g) (has_at_place (groups_in (grouping_of plan) proc) g [] inside)
      ∙ ap (λ (n : ℕ). n ∷ []) first

  pub view_waits : (g : ℕ) → is_immediate_of plan proc g ≡ false
  view_waits g = elim (cases_lt g (length (groups_of plan proc))) [
    | inl l ↦ (let own : Has g (group_of plan proc g).pieces = subst (λ (ys : List ℕ). Has g ys) (sym (view_group g l)) (inl refl) in
        sym (class_of_piece plan is proc g g own) ∙ piece_waits g)
    | inr past ↦ ap (λ (o : Group). o.is_immediate) (get_or_past (groups_of plan proc) g no_group past)
  ]

  pub view_takes_nothing : (g : ℕ) → inputs_of plan proc g ≡ []
  view_takes_nothing g = go (inputs_of plan proc g) (λ input h. false≢true (sym (view_waits input.group) ∙ (source_of plan is proc g input h).immediate))
    where
      go : (inputs : List Input) → ((input : Input) → Has input inputs → ⊥) → inputs ≡ []
      go [] none = refl
      go (input ∷ inputs) none = absurd (none input (inl refl))

pub view_meets_no_group : (plan : Plan) (p g q h : ℕ) → is_view_of plan p ≡ true → may_meet plan p g q h ≡ false
view_meets_no_group plan p g q h viewed = false_from_ne_true (may_meet plan p g q h) (λ m.
    let k = meeting plan p g q h m in
    false≢true (sym (in_conflict_parts plan.program (piece_numbered p k.x) (piece_numbered q k.y) k.conflict).first ∙ viewed))
