-- An order in which the groups of a procedure can run
use Rattle.std.proofs.Common.{◌≡◌, ◌≢◌, ◌∙◌, ℕ, zero, suc, ◌+◌, ◌<◌, Bool, true, false, not, ◌==◌, cond, IsTrue, List, [], ◌∷◌, ◌++◌, length, map, filter, refl, sym, ap, inl, inr, arith}
use Rattle.std.proofs.lemmas.Bool.{false≢true, cases_lt, cases_Bool, ltb-true, not-true, not_from_true, not_from_false}
use Rattle.std.proofs.lemmas.List.{get_or_past, length-map}
use Rattle.std.specs.Bool.{nat_lt}
use Rattle.std.specs.List.{range_with_len}
use Rattle.roc_sequence.specs.Lists.{Has}
use Rattle.roc_sequence.specs.Places.{IsListed, IsListedBefore, NoneTwice}
use Rattle.roc_sequence.proofs.Appended.{before_front, before_new, NoneTwice-append}
use Rattle.roc_sequence.proofs.Filtered.{NoneTwice-filter}
use Rattle.roc_sequence.proofs.Holds.{all_has, has_all}
use Rattle.roc_sequence.proofs.Listed.{listed_has, has_listed}
use Rattle.roc_sequence.proofs.Members.{has_left, has_right, has_append, has_filter, from_has_filter}
use Rattle.roc_merge_groups.specs.Groups.{groups_in}
use Rattle.roc_merge_groups.specs.Flow.{directly}
use Rattle.roc_merge_groups.specs.Accepted.{group_feeds}
use Rattle.roc_merge_groups.specs.Paths.{leads_below}
use Rattle.roc_merge_groups.proofs.Cores.{leads_through}
use Rattle.roc_merge_groups.proofs.Elements.{range_above, has_range, from_has_range}
use Rattle.roc_merge_groups.proofs.Paths.{feeds_inside, leads_from_below, below_from_leads}
use Rattle.roc_plan.specs.declared.group.Input.{Input}
use Rattle.roc_plan.specs.Groups.{Plan, groups_of, is_immediate_of, inputs_of}
use Rattle.roc_plan.specs.Accepted.{grouping_of, IsAccepted}
use Rattle.roc_plan.specs.Turns.{AreInTurn}
use Rattle.roc_plan.proofs.Ordered.{is_number, number_exact, number_own, ordered, ordered_has, has_ordered, ordered_once, ordered_rises, stands_before}
use Rattle.roc_plan.proofs.Placed.{count_again, accepted_at}
use Rattle.roc_plan.proofs.Sources.{source_of}

-- ---- the numbers below a bound

range_once : (a n : ℕ) → NoneTwice is_number (range_with_len a n)
range_once a zero = tt
range_once a (suc n) = (
  λ l. (let k = ltb-true a a (all_has (λ m. nat_lt a m ≡ true) a (range_with_len (a + 1) n) (range_above a (a + 1) n (omega arith)) (listed_has is_number number_exact number_own (range_with_len (a + 1) n) a l)) in omega arith),
  range_once (a + 1) n,
)

-- ---- what a test passes

filter_behind : (p : ℕ → Bool) (xs ys : List ℕ) → filter p (xs ++ ys) ≡ filter p xs ++ filter p ys
filter_behind p [] ys = refl
filter_behind p (x ∷ xs) ys = go (p x) (filter_behind p xs ys)
  where
    go : (b : Bool) → filter p (xs ++ ys) ≡ filter p xs ++ filter p ys → cond b (x ∷ filter p (xs ++ ys)) (filter p (xs ++ ys)) ≡ cond b (x ∷ filter p xs) (filter p xs) ++ filter p ys
    go true h = ap (λ zs. x ∷ zs) h
    go false h = h

none_pass : (p : ℕ → Bool) (xs : List ℕ) → ((x : ℕ) → Has x xs → p x ≡ false) → filter p xs ≡ []
none_pass p [] h = refl
none_pass p (x ∷ xs) h = ap (λ b. cond b (x ∷ filter p xs) (filter p xs)) (h x (inl refl)) ∙ none_pass p xs (λ y k. h y (inr k))

all_pass : (p : ℕ → Bool) (xs : List ℕ) → ((x : ℕ) → Has x xs → p x ≡ true) → filter p xs ≡ xs
all_pass p [] h = refl
all_pass p (x ∷ xs) h = ap (λ b. cond b (x ∷ filter p xs) (filter p xs)) (h x (inl refl)) ∙ ap (λ ys. x ∷ ys) (all_pass p xs (λ y k. h y (inr k)))

-- ---- the order

module _ (plan : Plan) (is : IsAccepted plan) (proc : ℕ) (there : proc < length plan.program.procedures) where
  abbrev count : ℕ
  count = length (groups_of plan proc)

  abbrev step : ℕ → ℕ → Bool
  step = group_feeds plan.program proc (groups_in (grouping_of plan) proc)

  abbrev before : ℕ → ℕ → Bool
  before = leads_below (group_feeds plan.program proc (groups_in (grouping_of plan) proc)) (length (groups_of plan proc))

  abbrev immediate : ℕ → Bool
  immediate g = is_immediate_of plan proc g

  abbrev deferrable : ℕ → Bool
  deferrable g = not (is_immediate_of plan proc g)

  abbrev all : List ℕ
  all = range_with_len 0 (length (groups_of plan proc))

  abbrev firsts : List ℕ
  firsts = ordered before (filter immediate all)

  abbrev lasts : List ℕ
  lasts = filter deferrable all

  inside : (a b : ℕ) → step a b ≡ true → (a < count) × (b < count)
  inside = feeds_inside plan.program proc (groups_in (grouping_of plan) proc) count (count_again plan is proc)

  through : (a b c : ℕ) → before a b ≡ true → before b c ≡ true → before a c ≡ true
  through a b c h k = below_from_leads step count (λ a b s. (inside a b s).0) a c (leads_through step a b c (leads_from_below step count a b h) (leads_from_below step count b c k))

  one_way : (a b : ℕ) → a ≢ b → before a b ≡ true → before b a ≡ true → ⊥
  one_way a b n h k = (accepted_at plan is proc there).no_circle a b n (leads_from_below step count a b h) (leads_from_below step count b a k)

  in_firsts : (g : ℕ) → g < count → immediate g ≡ true → Has g firsts
  in_firsts g l h = has_ordered before g (filter immediate all) (has_filter immediate g all (has_range 0 count g (omega arith) (omega arith)) h)

  from_firsts : (g : ℕ) → Has g firsts → (g < count) × (immediate g ≡ true)
  from_firsts g h = let r = from_has_filter immediate g all (ordered_has before g (filter immediate all) h) in let l = (from_has_range 0 count g r.0).1 in (omega arith, r.1)

  in_lasts : (g : ℕ) → g < count → immediate g ≡ false → Has g lasts
  in_lasts g l h = has_filter deferrable g all (has_range 0 count g (omega arith) (omega arith)) (not_from_false (immediate g) h)

  from_lasts : (g : ℕ) → Has g lasts → (g < count) × (immediate g ≡ false)
  from_lasts g h = let r = from_has_filter deferrable g all h in let l = (from_has_range 0 count g r.0).1 in (omega arith, not-true (immediate g) r.1)

  once_all : NoneTwice is_number all
  once_all = range_once 0 count

  once_filtered : NoneTwice is_number (filter immediate all)
  once_filtered = NoneTwice-filter is_number number_exact immediate all once_all

  listed : (xs : List ℕ) (g : ℕ) → Has g xs → IsListed is_number xs g
  listed xs g h = has_listed is_number number_exact number_own xs g h

  has : (xs : List ℕ) (g : ℕ) → IsListed is_number xs g → Has g xs
  has xs g h = listed_has is_number number_exact number_own xs g h

  behind : (g : ℕ) (input : Input) → Has input (inputs_of plan proc g) → IsTrue (is_immediate_of plan proc input.group) × IsListedBefore is_number (firsts ++ lasts) input.group g
  behind g input h =
      let s = source_of plan is proc g input h in
      let first = in_firsts input.group s.there s.immediate in (
        s.immediate,
        elim (cases_Bool (immediate g)) [
          | inl t ↦ before_front is_number firsts lasts input.group g
              (stands_before before firsts input.group g (ordered_rises before through one_way (filter immediate all) once_filtered) first (in_firsts g (inside input.group g s.feeds).1 t) s.apart
              (below_from_leads step count (λ a b k. (inside a b k).0) input.group g (directly s.feeds)))
          | inr f ↦ before_new is_number firsts lasts input.group g (listed firsts input.group first)
              (λ l. false≢true (sym f ∙ (from_firsts g (has firsts g l)).1))
        ],
      )

  turn : AreInTurn plan proc (firsts ++ lasts)
  turn = record {
    once = NoneTwice-append is_number number_own firsts lasts (ordered_once before (filter immediate all) once_filtered) (NoneTwice-filter is_number number_exact deferrable all once_all)
        (λ a l m. false≢true (sym (from_lasts a (has lasts a l)).1 ∙ (from_firsts a (has firsts a m)).1));
    members = λ g. (
      λ l. listed (firsts ++ lasts) g (elim (cases_Bool (immediate g)) [
        | inl t ↦ has_left g firsts lasts (in_firsts g l t)
        | inr f ↦ has_right g firsts lasts (in_lasts g l f)
      ]),
      λ h. elim (has_append g firsts lasts (has (firsts ++ lasts) g h)) [ inl k ↦ (from_firsts g k).0 | inr k ↦ (from_lasts g k).0 ],
    );
    deferrable =
        filter_behind deferrable firsts lasts
        ∙ ap (λ zs. zs ++ filter deferrable lasts) (none_pass deferrable firsts (λ g h. not_from_true (immediate g) (from_firsts g h).1))
        ∙ all_pass deferrable lasts (λ g h. not_from_false (immediate g) (from_lasts g h).1);
    behind = λ g. has_all (λ input. IsTrue (is_immediate_of plan proc input.group) × IsListedBefore is_number (firsts ++ lasts) input.group g) (inputs_of plan proc g) (behind g);
  }

-- also of a procedure that is not there
pub in_turn : (plan : Plan) → IsAccepted plan → (proc : ℕ) → (order : List ℕ) × AreInTurn plan proc order
in_turn plan is proc =
    elim (cases_lt proc (length plan.program.procedures)) [
      | inl there ↦ (_, turn plan is proc there)
      | inr past ↦ (let none : groups_of plan proc ≡ [] = get_or_past plan.groups proc [] (omega (arith, past, is.grouping.procedures, length-map plan.groups (map (λ g. g.pieces)))) in
          let zero_groups : length (groups_of plan proc) ≡ 0 = ap length none in (
            [],
            record {
              once = tt;
              members = λ g. (λ l. absurd (omega arith), λ h. absurd (omega arith));
              deferrable = ap (λ n. filter (λ g. not (is_immediate_of plan proc g)) (range_with_len 0 n)) (sym zero_groups);
              behind = λ g. has_all (λ input. IsTrue (is_immediate_of plan proc input.group) × IsListedBefore (λ a b. a == b) [] input.group g) (inputs_of plan proc g)
                  (λ input h. let l = (source_of plan is proc g input h).there in absurd (omega arith));
            },
          ))
    ]
