-- The scheme of an accepted plan does what the plan's groups do
use Rattle.std.proofs.Common.{◌≡◌, ◌-◌, ◌%◌, ℕ, zero, suc, ◌<◌, ◌≤◌, ◌+◌, ℤ, pos, negsuc, true, List, [], ◌∷◌, ◌++◌, length, get_or, take, refl, sym, ap, subst, ◌∙◌, ◌⊎◌, inl, inr, arith, mod-lt, append-nil}
use Rattle.std.specs.Bool.{nat_lt}
use Rattle.std.specs.List.{flat_map, filter_map, range_with_len}
use Rattle.std.proofs.lemmas.Bool.{cases_lt}
use Rattle.std.proofs.lemmas.List.{length-append, take_more}
use Rattle.std.proofs.lemmas.List.Concat.{flat_map-append}
use Rattle.std.proofs.lemmas.List.FromFn.{length-range_with_len}
use Rattle.roc_sequence.specs.Lists.{Has}
use Rattle.roc_sequence.specs.Rising.{IsRising}
use Rattle.roc_sequence.proofs.Holds.{all_has}
use Rattle.roc_sequence.proofs.Members.{has_append, has_flat_map, from_has_flat_map}
use Rattle.roc_base.specs.declared.id.TxnId.{TxnId}
use Rattle.roc_rows.specs.Store.{Store}
use Rattle.roc_program.specs.Program.{Expression, Piece, Procedure}
use Rattle.roc_program.specs.LookUps.{no_piece}
use Rattle.roc_program.specs.Names.{output, outputs}
use Rattle.roc_program.specs.Values.{value, with_arguments}
use Rattle.roc_whole.specs.Serial as whole
use Rattle.roc_whole.specs.Run.{Progress, progress, whole_run, after_piece, after_pieces}
use Rattle.roc_whole.proofs.Replied.{body_long}
use Rattle.roc_merge_groups.proofs.Elements.{from_has_range, has_range, range_rising, numbers_one_way}
use Rattle.roc_plan.specs.declared.group.Input.{Input}
use Rattle.roc_plan.specs.Groups.{Plan, procedure_of, groups_of, group_of, inputs_of, is_immediate_of, outs_of, outs_in, pieces_at, places_in, shard_of}
use Rattle.roc_plan.specs.Accepted.{IsAccepted}
use Rattle.roc_group.specs.GroupRun.{GroupCall, group_run, begin}
use Rattle.roc_group.proofs.Grouped.{one_group, group_rising, in_a_group, is_piece}
use Rattle.roc_law_protocol.specs.PlanAssumptions.{IsSchemeOf}
use Rattle.roc_law_plans.specs.Scheme.{scheme_of, AreOrders}

-- ---- shards

pub few_shards : (plan : Plan) → IsAccepted plan → (place : ℤ) → shard_of plan place < 64
few_shards plan ok (pos a) = let l = mod-lt a ok.well_formed.some_shard in let m : plan.program.shards ≤ 64 = ok.well_formed.few_shards in omega (arith, l, m)
few_shards plan ok (negsuc a) = let l = ok.well_formed.some_shard in let m : plan.program.shards ≤ 64 = ok.well_formed.few_shards in below plan.program.shards (a % plan.program.shards) l m
  where
    below : (n r : ℕ) → 0 < n → n ≤ 64 → n - 1 - r < 64
    below n r l m = omega (arith, l, m)

-- ---- how much a group says

pieces_long : (procedure : Procedure) (p : Progress) (ks : List ℕ) → length (after_pieces p (pieces_at procedure ks)).reply ≡ length p.reply + length (outs_in procedure ks)
pieces_long procedure p [] = omega arith
pieces_long procedure p (k ∷ ks) =
    let piece : Piece = get_or procedure.pieces k no_piece in
    let one = body_long (value piece.place p.environment) p piece.body in
    let rest = pieces_long procedure (after_piece p piece) ks in
    let own = ap (λ (xs : List Expression). length xs) (append-nil (filter_map output piece.body)) in
    let places = length-range_with_len (length (outputs (take k procedure.pieces))) (length (outputs (pieces_at procedure (k ∷ [])))) in
    let both = length-append (places_in procedure k) (outs_in procedure ks) in
    omega (arith, one, rest, own, places, both)

-- and how much a whole run says
pub whole_long : (p : Progress) (pieces : List Piece) → length (after_pieces p pieces).reply ≡ length p.reply + length (outputs pieces)
whole_long p [] = omega arith
whole_long p (x ∷ xs) =
    let one = body_long (value x.place p.environment) p x.body in
    let rest = whole_long (after_piece p x) xs in
    let both = length-append (filter_map output x.body) (outputs xs) in
    omega (arith, one, rest, both)

take_whole : (pieces : List Piece) → take (length pieces) pieces ≡ pieces
take_whole [] = refl
take_whole (x ∷ xs) = ap (λ ys. x ∷ ys) (take_whole xs)

pub group_long : (plan : Plan) (c : GroupCall) (s : Store) → length (group_run plan c s).reply ≡ length (outs_of plan c.proc c.group)
group_long plan c s = let r = pieces_long (procedure_of plan c.proc) (begin plan c s) (group_of plan c.proc c.group).pieces in omega (arith, r)

-- ---- lists of what each of distinct numbers gives

abbrev Distinct : List ℕ → Type 0
Distinct [] = Unit {0}
Distinct (k ∷ ks) = (¬ Has k ks) × Distinct ks

distinct_rising : (ks : List ℕ) → IsRising nat_lt ks → Distinct ks
distinct_rising [] r = tt
distinct_rising (k ∷ ks) r = ((λ h. let t = all_has (λ x. nat_lt k x ≡ true) k ks r.0 h in numbers_one_way k k t t), distinct_rising ks r.1)

distinct_both : (xs ys : List ℕ) → Distinct xs → Distinct ys → ((k : ℕ) → Has k xs → Has k ys → ⊥) → Distinct (xs ++ ys)
distinct_both [] ys d e apart = e
distinct_both (x ∷ xs) ys d e apart =
    ((λ h. elim (has_append x xs ys h) [ inl i ↦ d.0 i | inr j ↦ apart x (inl refl) j ]), distinct_both xs ys d.1 e (λ k i j. apart k (inr i) j))

distinct_each : (f : ℕ → List ℕ) (gs : List ℕ) → Distinct gs → ((g : ℕ) → Distinct (f g)) → ((g h x : ℕ) → Has x (f g) → Has x (f h) → g ≡ h) → Distinct (flat_map f gs)
distinct_each f [] d each one = tt
distinct_each f (g ∷ gs) d each one =
    distinct_both (f g) (flat_map f gs) (each g) (distinct_each f gs d.1 each one)
    (λ x i j. let r = from_has_flat_map f x gs j in d.0 (subst (λ h. Has h gs) (sym (one g r.0 x i r.2)) r.1))

module _ (f : ℕ → List ℕ) where
  -- one of them drawn out
  drawn : (x : ℕ) (ys : List ℕ) → Has x ys → (zs : List ℕ) × (length (flat_map f ys) ≡ length (f x) + length (flat_map f zs)) × ((k : ℕ) → Has k ys → (k ≡ x) ⊎ Has k zs)
  drawn x [] h = absurd h
  drawn x (y ∷ ys) (inl e) =
      let l = length-append (f y) (flat_map f ys) in
      let same = ap (λ k. length (f k)) e in
      (ys, omega (arith, l, same), λ k h. elim h [ inl i ↦ inl (i ∙ sym e) | inr j ↦ inr j ])
  drawn x (y ∷ ys) (inr h) =
      let r = drawn x ys h in
      let l = length-append (f y) (flat_map f ys) in
      let m = length-append (f y) (flat_map f r.0) in
      let n = r.1 in
      (y ∷ r.0, omega (arith, l, m, n), λ k h. elim h [ inl i ↦ inr (inl i) | inr j ↦ elim (r.2 k j) [ inl e ↦ inl e | inr i ↦ inr (inr i) ] ])

  -- distinct numbers, all among these, give no more than these do
  no_more : (xs ys : List ℕ) → Distinct xs → ((k : ℕ) → Has k xs → Has k ys) → length (flat_map f xs) ≤ length (flat_map f ys)
  no_more [] ys d h = omega arith
  no_more (x ∷ xs) ys d h =
      let r = drawn x ys (h x (inl refl)) in
      let ih = no_more xs r.0 d.1 (λ k i. elim (r.2 k (h k (inr i))) [ inl e ↦ absurd (d.0 (subst (λ y. Has y xs) e i)) | inr j ↦ j ]) in
      let l = length-append (f x) (flat_map f xs) in
      let n = r.1 in
      omega (arith, ih, l, n)

  flat_twice : (p : ℕ → List ℕ) (gs : List ℕ) → flat_map f (flat_map p gs) ≡ flat_map (λ g. flat_map f (p g)) gs
  flat_twice p [] = refl
  flat_twice p (g ∷ gs) = flat_map-append f (p g) (flat_map p gs) ∙ ap (λ xs. flat_map f (p g) ++ xs) (flat_twice p gs)

-- ---- places in the reply

module _ (procedure : Procedure) where
  abbrev ps : List Piece
  ps = procedure.pieces

  -- how much the first pieces say
  abbrev before : ℕ → ℕ
  before k = length (outputs (take k ps))

  abbrev own : ℕ → ℕ
  own k = length (outputs (pieces_at procedure (k ∷ [])))

  one_more : (k : ℕ) → k < length ps → before (k + 1) ≡ before k + own k
  one_more k l =
      let a = ap (λ xs. length (outputs xs)) (take_more ps k no_piece l) in
      let b = ap (λ (xs : List Expression). length xs) (flat_map-append (λ (piece : Piece). filter_map output piece.body) (take k ps) (get_or ps k no_piece ∷ [])) in
      let c = length-append (outputs (take k ps)) (outputs (get_or ps k no_piece ∷ [])) in
      omega (arith, a, b, c)

  -- the pieces' places are as many
  all_places : (from count : ℕ) → from + count ≤ length ps → before from + length (outs_in procedure (range_with_len from count)) ≡ before (from + count)
  all_places from zero l = let same = ap before (let e : from + 0 ≡ from = omega arith in e) in omega (arith, same)
  all_places from (suc count) l =
      let next = one_more from (omega (arith, l)) in
      let ih = all_places (from + 1) count (omega (arith, l)) in
      let places = length-range_with_len (before from) (own from) in
      let both = length-append (places_in procedure from) (outs_in procedure (range_with_len (from + 1) count)) in
      let same = ap before (let e : (from + 1) + count ≡ from + suc count = omega arith in e) in
      omega (arith, next, ih, places, both, same)

  -- each of them is a piece's
  piece_at_place : (k at : ℕ) → k ≤ length ps → at < before k → (x : ℕ) × (x < length ps) × Has at (places_in procedure x)
  piece_at_place zero at l h = absurd (omega (arith, h))
  piece_at_place (suc k) at l h =
      elim (cases_lt at (before k)) [
        | inl less ↦ piece_at_place k at (omega (arith, l)) less
        | inr past ↦ (k, omega (arith, l), has_range (before k) (own k) at past (let next = one_more k (omega (arith, l)) in let same = ap before (let e : k + 1 ≡ suc k = omega arith in e) in omega (arith, next, same, h)))
      ]

module _ (plan : Plan) (proc : ℕ) (ok : IsAccepted plan) (there : proc < length plan.program.procedures) where
  abbrev pr : Procedure
  pr = procedure_of plan proc

  abbrev pieces_of : ℕ → List ℕ
  pieces_of g = (group_of plan proc g).pieces

  abbrev numbers : List ℕ
  numbers = range_with_len 0 (length (groups_of plan proc))

  -- the groups' places are no more than the pieces'
  no_more_places : length (flat_map (outs_of plan proc) numbers) ≤ before pr (length pr.pieces)
  no_more_places =
      let distinct = distinct_each pieces_of numbers (distinct_rising numbers (range_rising 0 (length (groups_of plan proc)))) (λ g. distinct_rising (pieces_of g) (group_rising plan proc ok there g)) (one_group plan proc ok there) in
      let fewer = no_more (places_in pr) (flat_map pieces_of numbers) (range_with_len 0 (length pr.pieces)) distinct (λ k h.
      let r = from_has_flat_map pieces_of k numbers h in has_range 0 (length pr.pieces) k (omega arith) (let l = is_piece plan proc ok there r.0 k r.2 in omega (arith, l))) in
      let twice = ap (λ (xs : List ℕ). length xs) (flat_twice (places_in pr) pieces_of numbers) in
      let all = all_places pr 0 (length pr.pieces) (omega arith) in
      let same = ap (before pr) (let e : 0 + length pr.pieces ≡ length pr.pieces = omega arith in e) in
      omega (arith, fewer, twice, all, same)

  -- and no fewer: they are as many values as the whole run gives
  as_many_places : length (flat_map (outs_of plan proc) numbers) ≡ before pr (length pr.pieces)
  as_many_places =
      let most = no_more_places in
      let fewer = no_more (places_in pr) (range_with_len 0 (length pr.pieces)) (flat_map pieces_of numbers) (distinct_rising (range_with_len 0 (length pr.pieces)) (range_rising 0 (length pr.pieces))) (λ k h.
      let g = in_a_group plan proc ok there k (let r = from_has_range 0 (length pr.pieces) k h in omega (arith, r.1)) in
      has_flat_map pieces_of k g.0 numbers (has_range 0 (length (groups_of plan proc)) g.0 (omega arith) (let l = g.1 in omega (arith, l))) g.2) in
      let twice = ap (λ (xs : List ℕ). length xs) (flat_twice (places_in pr) pieces_of numbers) in
      let all = all_places pr 0 (length pr.pieces) (omega arith) in
      let same = ap (before pr) (let e : 0 + length pr.pieces ≡ length pr.pieces = omega arith in e) in
      omega (arith, most, fewer, twice, all, same)

  pub whole_counted : (args : List ℤ) (store : Store) → length (whole_run pr args store).reply ≡ length (flat_map (outs_of plan proc) numbers)
  whole_counted args store =
      let r = whole_long (progress store (with_arguments pr args) []) pr.pieces in
      let all = ap (λ xs. length (outputs xs)) (take_whole pr.pieces) in
      let many = as_many_places in
      omega (arith, r, all, many)

  pub place_of_group : (at : ℕ) → at < length (flat_map (outs_of plan proc) (range_with_len 0 (length (groups_of plan proc)))) → (g : ℕ) × (g < length (groups_of plan proc)) × Has at (outs_of plan proc g)
  place_of_group at l =
      let most = no_more_places in
      let x = piece_at_place pr (length pr.pieces) at (omega arith) (omega (arith, l, most)) in
      let g = in_a_group plan proc ok there x.0 x.1 in
      (g.0, g.1, has_flat_map (places_in pr) at x.0 (pieces_of g.0) g.2 x.2)

-- ---- all of it

module _ (plan : Plan) (orders : ℕ → List ℕ) (asked : TxnId → whole.Call) (ok : IsAccepted plan) (turn : AreOrders plan orders) (there : (t : TxnId) → (asked t).procedure < length plan.program.procedures)
    (some : (proc : ℕ) → proc < length plan.program.procedures → 0 < length (groups_of plan proc))
    (from : (proc g : ℕ) (input : Input) → Has input (inputs_of plan proc g) → is_immediate_of plan proc input.group ≡ true) where
  pub of_plan : IsSchemeOf plan asked (scheme_of plan orders asked)
  of_plan = record {
    groups = λ t g. let m = (turn (asked t).procedure).members g in (m.1, m.0);
    some = λ t. some (asked t).procedure (there t);
    later = λ t. (turn (asked t).procedure).deferrable;
    sources = λ r. refl;
    from_immediate = λ r i h. from (asked r.txn).procedure r.group i h;
    uses = λ r given s. refl;
    yields = λ r given s. refl;
    after = λ r given s. refl;
    immediate = λ r. refl;
    cell_shard = λ x. refl;
    group_shard = λ r given. refl;
    outs = λ r given s. group_long plan _ s;
    places = λ t at l. place_of_group plan (asked t).procedure ok (there t) at l;
    few_shards = few_shards plan ok;
  }
