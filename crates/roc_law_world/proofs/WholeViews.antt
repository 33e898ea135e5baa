-- The whole run of a view says what its groups say one after another, each on the same store
use Rattle.std.proofs.Common.{◌≡◌, ◌∙◌, ℕ, zero, suc, ◌+◌, ◌<◌, ◌≤◌, ◌==◌, ℤ, pos, true, IsTrue, List, [], ◌∷◌, ◌++◌, length, map, take, refl, sym, ap, subst, arith, append-nil, inl, inr}
use Rattle.std.specs.Prelude.{slice_index_or}
use Rattle.std.specs.List.{AllByRecursion, flat_map, filter_map, range_with_len}
use Rattle.std.proofs.lemmas.Bool.{ltb-true}
use Rattle.std.proofs.lemmas.List.{length-append, map-append, take_more, take_all}
use Rattle.std.proofs.lemmas.List.Concat.{flat_map-append}
use Rattle.std.specs.Bool.{nat_lt}
use Rattle.roc_sequence.specs.Lists.{Has}
use Rattle.roc_sequence.specs.Places.{IsListedBefore, NoneTwice}
use Rattle.roc_sequence.proofs.Holds.{all_has}
use Rattle.roc_sequence.proofs.Listed.{listed_has, has_listed}
use Rattle.roc_sequence.proofs.Ranges.{range_more}
use Rattle.roc_program.specs.Program.{Expression, Piece}
use Rattle.roc_program.specs.LookUps.{no_piece}
use Rattle.roc_program.specs.Names.{output, outputs}
use Rattle.roc_program.specs.Values.{with_arguments}
use Rattle.roc_program.proofs.Views.{view_there}
use Rattle.roc_merge_groups.proofs.Elements.{range_above, has_range, from_has_range}
use Rattle.roc_plan.specs.declared.group.Input.{Input}
use Rattle.roc_plan.specs.Groups.{Plan, procedure_of, groups_of, group_of, is_view_of, is_immediate_of, inputs_of, outs_of, outs_in, places_in}
use Rattle.roc_plan.specs.Accepted.{IsAccepted}
use Rattle.roc_plan.specs.Turns.{AreInTurn}
use Rattle.roc_plan.proofs.Ordered.{is_number, number_exact, number_own}
use Rattle.roc_rows.specs.Store.{Store}
use Rattle.roc_whole.specs.Run.{Progress, progress, whole_run}
use Rattle.roc_group.specs.GroupRun.{GroupCall, call, group_run, bound_by_run}
use Rattle.roc_law_groups.specs.GroupsRun.{Given, TurnStage, taken, after_turn, after_turns, DoAs}
use Rattle.roc_law_protocol.proofs.Grows.{flat_map_same}
use Rattle.roc_law_plans.proofs.OfPlan.{whole_long}

-- what the laws say of the parts of a view
pub record ViewParts (plan : Plan) : Type 0 where
  -- groups in turn are the whole run
  pub whole :
      (proc : ℕ) (args : List ℤ) (store : Store) (order : List ℕ) → IsAccepted plan → proc < length plan.program.procedures → AreInTurn plan proc order
      → DoAs plan proc (whole_run (procedure_of plan proc) args store) (after_turns plan proc args (record { store = store; given = [] }) order)
  -- views are apart
  pub count : IsAccepted plan → (proc : ℕ) → IsTrue (is_view_of plan proc) → length (groups_of plan proc) ≡ length (procedure_of plan proc).pieces
  pub pieces : IsAccepted plan → (proc : ℕ) → IsTrue (is_view_of plan proc) → (g : ℕ) → g < length (groups_of plan proc) → (group_of plan proc g).pieces ≡ g ∷ []
  pub inputs : IsAccepted plan → (proc : ℕ) → IsTrue (is_view_of plan proc) → (g : ℕ) → inputs_of plan proc g ≡ []
  -- views read alone
  pub store : (c : GroupCall) (s : Store) → IsAccepted plan → IsTrue (is_view_of plan c.proc) → (group_run plan c s).store ≡ s

-- ---- numbers in a row

range_once : (a n : ℕ) → NoneTwice is_number (range_with_len a n)
range_once a zero = tt
range_once a (suc n) = (
  λ l.
      let h = listed_has is_number number_exact number_own (range_with_len (a + 1) n) a l in
      let k = ltb-true a a (all_has (λ m. nat_lt a m ≡ true) a (range_with_len (a + 1) n) (range_above a (a + 1) n (omega arith)) h) in
      omega arith,
  range_once (a + 1) n,
)

below : (n g : ℕ) → Has g (range_with_len 0 n) → g < n
below n g h = let r = (from_has_range 0 n g h).1 in omega (arith, r)

range_append : (a m b n k : ℕ) → a + m ≡ b → m + n ≡ k → range_with_len a k ≡ range_with_len a m ++ range_with_len b n
range_append a zero b n k e f = let here : a ≡ b = omega (arith, e) in let long : k ≡ n = omega (arith, f) in λ i. range_with_len (here i) (long i)
range_append a (suc m) b n zero e f = absurd (omega (arith, f))
range_append a (suc m) b n (suc k) e f = ap (λ xs. a ∷ xs) (range_append (a + 1) m b n k (omega (arith, e)) (omega (arith, f)))

map_flat : {A B C : Type 0} (f : B → C) (g : A → List B) (xs : List A) → flat_map (λ x. map f (g x)) xs ≡ map f (flat_map g xs)
map_flat f g [] = refl
map_flat f g (x ∷ xs) = ap (λ ys. map f (g x) ++ ys) (map_flat f g xs) ∙ sym (map-append f (g x) (flat_map g xs))

all_both : {A : Type 0} (P : A → Type 0) (xs ys : List A) → AllByRecursion P (xs ++ ys) → AllByRecursion P xs × AllByRecursion P ys
all_both P [] ys h = (tt, h)
all_both P (x ∷ xs) ys h = let r = all_both P xs ys h.1 in ((h.0, r.0), r.1)

places_next : (x : ℤ) (ys : List ℤ) (from at count : ℕ) → at ≡ suc from
    → map (λ k. slice_index_or (x ∷ ys) k (pos 0)) (range_with_len at count) ≡ map (λ k. slice_index_or ys k (pos 0)) (range_with_len from count)
places_next x ys from at zero e = refl
places_next x ys from at (suc count) e =
    let here : slice_index_or (x ∷ ys) at (pos 0) ≡ slice_index_or ys from (pos 0) = ap (λ k. slice_index_or (x ∷ ys) k (pos 0)) e in
    let rest = places_next x ys (from + 1) (at + 1) count (omega (arith, e)) in
    λ i. here i ∷ rest i

-- all places of a reply, one after another, hold the reply
all_places : (reply : List ℤ) → map (λ k. slice_index_or reply k (pos 0)) (range_with_len 0 (length reply)) ≡ reply
all_places [] = refl
all_places (x ∷ reply) = ap (λ xs. x ∷ xs) (places_next x reply 0 1 (length reply) (omega arith) ∙ all_places reply)

module _ (plan : Plan) (accepted : IsAccepted plan) (laws : ViewParts plan) (proc : ℕ) (viewed : is_view_of plan proc ≡ true) where
  abbrev count : ℕ
  count = length (groups_of plan proc)

  abbrev ps : List Piece
  ps = (procedure_of plan proc).pieces

  -- how much the first pieces say
  abbrev before : ℕ → ℕ
  before k = length (outputs (take k ps))

  abbrev Before : ℕ → Input → Type 0
  Before g input = IsTrue (is_immediate_of plan proc input.group) × IsListedBefore (λ a b. a == b) (range_with_len 0 count) input.group g

  -- the groups by number are in turn
  turn : AreInTurn plan proc (range_with_len 0 count)
  turn =
      record {
        once = range_once 0 count;
        members = λ g. (
          λ l. has_listed is_number number_exact number_own (range_with_len 0 count) g (has_range 0 count g (omega arith) (omega (arith, l))),
          λ h. below count g (listed_has is_number number_exact number_own (range_with_len 0 count) g h),
        );
        deferrable = refl;
        behind = λ g. subst (AllByRecursion (Before g)) (sym (laws.inputs accepted proc viewed g)) tt;
      }

  -- the places of the first groups are the first places
  places : (m : ℕ) → m ≤ length ps → flat_map (places_in (procedure_of plan proc)) (range_with_len 0 m) ≡ range_with_len 0 (before m)
  places zero l = refl
  places (suc m) l =
      let one : length (outputs (slice_index_or ps m no_piece ∷ [])) + before m ≡ before (m + 1) =
      (let a = ap (λ xs. length (outputs xs)) (take_more ps m no_piece (omega (arith, l))) in
      let b = ap (λ (xs : List Expression). length xs) (flat_map-append (λ (piece : Piece). filter_map output piece.body) (take m ps) (slice_index_or ps m no_piece ∷ [])) in
      let c = length-append (outputs (take m ps)) (outputs (slice_index_or ps m no_piece ∷ [])) in
      omega (arith, a, b, c)) in
      let next : suc m ≡ m + 1 = omega arith in
      let own = length (outputs (slice_index_or ps m no_piece ∷ [])) in
      ap (λ n. flat_map (places_in (procedure_of plan proc)) (range_with_len 0 n)) next
      ∙ (ap (flat_map (places_in (procedure_of plan proc))) (range_more 0 m m (omega arith))
      ∙ (flat_map-append (places_in (procedure_of plan proc)) (range_with_len 0 m) (m ∷ [])
      ∙ ((λ i. places m (omega (arith, l)) i ++ append-nil (range_with_len (before m) own) i)
      ∙ sym (range_append 0 (before m) (before m) own (before (suc m)) (omega arith) (let f = ap before next in omega (arith, one, f))))))

  module _ (args : List ℤ) (store : Store) where
    abbrev own_reply : ℕ → List ℤ
    own_reply g = (group_run plan (call proc g args []) store).reply

    abbrev whole : Progress
    whole = whole_run (procedure_of plan proc) args store

    abbrev placed : ℕ → List ℤ
    placed g = map (λ k. slice_index_or whole.reply k (pos 0)) (outs_of plan proc g)

    -- each group that ran in turn ran on the store, and gave what stands in its places
    turns_give : (order : List ℕ) (s : TurnStage) → s.store ≡ store
        → AllByRecursion (λ g. g.outs ≡ placed g.group) (after_turns plan proc args s order).given
        → AllByRecursion (λ g. g.outs ≡ placed g.group) s.given × ((g : ℕ) → Has g order → own_reply g ≡ placed g)
    turns_give [] s e all = (all, λ g h. absurd h)
    turns_give (x ∷ order) s e all =
        let rest = turns_give order (after_turn plan proc args s x) (laws.store (call proc x args (map (taken s.given) (inputs_of plan proc x))) s.store accepted viewed ∙ e) all in
        let c = call proc x args (map (taken s.given) (inputs_of plan proc x)) in
        let parts = all_both (λ (g : Given). g.outs ≡ placed g.group) s.given (record { group = x; bound = bound_by_run plan c s.store; outs = (group_run plan c s.store).reply } ∷ []) rest.0 in
        let nothing = sym (laws.inputs accepted proc viewed x) in
        let here = sym e in (
          parts.0,
          λ g h. elim h [
            | inl f ↦ subst (λ g. own_reply g ≡ placed g) (sym f) ((λ i. (group_run plan (call proc x args (map (taken s.given) (nothing i))) (here i)).reply) ∙ parts.1.0)
            | inr k ↦ rest.1 g k
          ],
        )

    each : (g : ℕ) → Has g (range_with_len 0 count) → own_reply g ≡ map (λ k. slice_index_or whole.reply k (pos 0)) (places_in (procedure_of plan proc) g)
    each g h =
        (turns_give (range_with_len 0 count) (record { store = store; given = [] }) refl
        (laws.whole proc args store (range_with_len 0 count) accepted (view_there plan.program proc viewed) turn).outs).1 g h
        ∙ ap (map (λ k. slice_index_or whole.reply k (pos 0)))
        (ap (outs_in (procedure_of plan proc)) (laws.pieces accepted proc viewed g (below count g h)) ∙ append-nil (places_in (procedure_of plan proc) g))

    long : before count ≡ length whole.reply
    long =
        let said = whole_long (progress store (with_arguments (procedure_of plan proc) args) []) ps in
        let all = ap (λ qs. length (outputs qs)) (take_all count ps (let c = laws.count accepted proc viewed in omega (arith, c))) in
        omega (arith, said, all)

    pub view_whole : (whole_run (procedure_of plan proc) args store).reply
        ≡ flat_map (λ g. (group_run plan (call proc g args []) store).reply) (range_with_len 0 (length (groups_of plan proc)))
    view_whole = sym (
        flat_map_same own_reply (λ g. map (λ k. slice_index_or whole.reply k (pos 0)) (places_in (procedure_of plan proc) g)) (range_with_len 0 count) each
        ∙ (map_flat (λ k. slice_index_or whole.reply k (pos 0)) (places_in (procedure_of plan proc)) (range_with_len 0 count)
        ∙ (ap (map (λ k. slice_index_or whole.reply k (pos 0))) (places count (omega (arith, laws.count accepted proc viewed)) ∙ ap (λ n. range_with_len 0 n) long)
        ∙ all_places whole.reply)))
