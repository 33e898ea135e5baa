-- Groups that run one after another
use Rattle.std.proofs.Common.{◌≡◌, ℕ, ℤ, unwrap_or, append_assoc, zero, suc, ◌+◌, ◌-◌, ◌<◌, ◌≤◌, List, [], ◌∷◌, ◌++◌, length, map, Option, Some, None, Bool, true, false, not, cond, Result, Ok, Err, OnOk, find, position, slice_get, refl, sym, ap, subst, ◌∙◌, arith}
use Rattle.std.proofs.lemmas.List.Concat.{flat_map-append}
use Rattle.std.proofs.lemmas.List.Elements.{filter-append}
use Rattle.std.specs.List.{filter_map, flat_map, range_with_len, cons_option}
use Rattle.std.specs.Option.{option_map, option_to_list}
use Rattle.roc_sequence.specs.Places.{NoneTwice}
use Rattle.roc_base.specs.declared.id.TxnId.{TxnId}
use Rattle.roc_base.specs.TxnId.{is_txn}
use Rattle.roc_group.specs.GroupRun.{group_run}
use Rattle.roc_plan.specs.Groups.{Plan, is_immediate_of}
use Rattle.roc_rows.specs.Store.{Store}
use Rattle.roc_step.specs.declared.started.StartedGroup.{StartedGroup}
use Rattle.roc_step.specs.Runs.{count_of_groups, groups_here, buffered_here, run_group, run_groups, take_all, group_call}
use Rattle.roc_step.specs.Fits.{AreGroupsOf}
use Rattle.roc_server_groups.specs.Groups.{holding, is_same_group, AreSameGroups}
use Rattle.roc_server_groups.specs.Inner.Runs.{buffered, RunsAt, RunsIfBuffered}
use Rattle.roc_step.specs.State.{is_group, find_group, unrun, ServerState}
use Rattle.roc_sequence.proofs.Found.{found_at, found_within, set_where_it_stands}
use Rattle.roc_server_groups.proofs.SameGroups.{same_own, same_swap, set_same, fits_same, once_same, find_same}

run_groups-append : (plan : Plan) (s : ServerState) (xs ys : List StartedGroup) → run_groups plan s (xs ++ ys) ≡ run_groups plan (run_groups plan s xs) ys
run_groups-append plan s [] ys = refl
run_groups-append plan s (x ∷ xs) ys = run_groups-append plan (run_group plan s x) xs ys

-- what they gave before does not matter
run_groups-same : (plan : Plan) (s : ServerState) (xs ys : List StartedGroup) → map unrun xs ≡ map unrun ys → run_groups plan s xs ≡ run_groups plan s ys
run_groups-same plan s [] [] same = refl
run_groups-same plan s [] (y ∷ ys) same = cc
run_groups-same plan s (x ∷ xs) [] same = cc
run_groups-same plan s (x ∷ xs) (y ∷ ys) same =
    let head : unrun x ≡ unrun y = cc in
    ap (λ e. run_groups plan (run_group plan s e) xs) head ∙ run_groups-same plan (run_group plan s y) xs ys (cc)

-- a group that stands at a place runs
pub ran_at : (plan : Plan) (e : StartedGroup) (at : ℕ) (old new : List StartedGroup) (before after : Store) (s : ServerState) → NoneTwice is_same_group old → slice_get old at ≡ Some e → RunsAt plan e at old new before after → run_group plan (holding s before old) e ≡ holding s after new
ran_at plan e at old new before after s once got ran =
    let reply = (group_run plan (group_call e) before).reply in
    let set = set_where_it_stands is_same_group same_own same_swap (λ (g : StartedGroup). record g { later = Some reply }) old at e once got in
    λ i. holding s (sym ran.store i) ((sym set ∙ sym ran.groups) i)

ran_same : (plan : Plan) (e : StartedGroup) (at : ℕ) (old new : List StartedGroup) (before after : Store) → slice_get old at ≡ Some e → RunsAt plan e at old new before after → AreSameGroups old new
ran_same plan e at old new before after got ran =
    let gave : StartedGroup = record e { later = Some (group_run plan (group_call e) before).reply } in
    subst (AreSameGroups old) (sym ran.groups) (set_same old at e gave got refl)

pub got : {A : Type 0} (xs : List A) (at : ℕ) → at < length xs → (x : A) × (slice_get xs at ≡ Some x)
got [] at l = absurd (omega arith)
got (x ∷ xs) zero l = (x, refl)
got (x ∷ xs) (suc k) l = got xs k (omega arith)

-- a group that stands at a place runs where it is buffered
module _ (plan : Plan) (e : StartedGroup) (at : ℕ) (old new : List StartedGroup) (before after : Store) (stands : slice_get old at ≡ Some e) (ran : RunsIfBuffered plan e at old new before after) where
  ran_if : (s : ServerState) → NoneTwice is_same_group old → run_groups plan (holding s before old) (buffered plan (e ∷ [])) ≡ holding s after new
  ran_if s once = go (is_immediate_of plan e.proc e.group) refl
    where
      go : (b : Bool) → is_immediate_of plan e.proc e.group ≡ b → run_groups plan (holding s before old) (cond (not b) (e ∷ []) []) ≡ holding s after new
      go true k = λ i. holding s (sym (ran.store k) i) (sym (ran.groups k) i)
      go false k = ran_at plan e at old new before after s once stands (ran.runs k)

  same_if : AreSameGroups old new
  same_if = go (is_immediate_of plan e.proc e.group) refl
    where
      go : (b : Bool) → is_immediate_of plan e.proc e.group ≡ b → AreSameGroups old new
      go true k = ap (map unrun) (ran.groups k)
      go false k = ran_same plan e at old new before after stands (ran.runs k)

-- the group of a number, where one is at a place, has run or memory was wanting
module _ {E : Type 0} (plan : Plan) (id : TxnId) (number at : ℕ) (old new : List StartedGroup) (before after : Store) (once : NoneTwice is_same_group old) (stands : position (is_group id number) old ≡ Some at) where
  pub number_runs : (r : Result (Unit {0}) E) → OnOk r ((e : StartedGroup) → slice_get old at ≡ Some e → RunsIfBuffered plan e at old new before after) → OnOk r ((s : ServerState) → run_groups plan (holding s before old) (buffered plan (option_to_list (find_group id number old))) ≡ holding s after new)
  number_runs (Err e) ran = tt
  number_runs (Ok u) ran = λ s.
      let here = got old at (found_within (is_group id number) old at stands) in
      ap (λ o. run_groups plan (holding s before old) (buffered plan (option_to_list o))) (found_at (is_group id number) old at stands ∙ here.1)
      ∙ ran_if plan here.0 at old new before after here.1 (ran here.0 here.1) s once

  pub number_same : (r : Result (Unit {0}) E) → OnOk r ((e : StartedGroup) → slice_get old at ≡ Some e → RunsIfBuffered plan e at old new before after) → OnOk r (AreSameGroups old new)
  number_same (Err e) ran = tt
  number_same (Ok u) ran =
      let here = got old at (found_within (is_group id number) old at stands) in
      same_if plan here.0 at old new before after here.1 (ran here.0 here.1)

-- ---- buffered ones

pub buffered-append : (plan : Plan) (xs ys : List StartedGroup) → buffered plan (xs ++ ys) ≡ buffered plan xs ++ buffered plan ys
buffered-append plan xs ys = filter-append (λ (e : StartedGroup). not (is_immediate_of plan e.proc e.group)) xs ys

buffered-unrun : (plan : Plan) (xs : List StartedGroup) → map unrun (buffered plan xs) ≡ buffered plan (map unrun xs)
buffered-unrun plan [] = refl
buffered-unrun plan (x ∷ xs) = go (not (is_immediate_of plan x.proc x.group)) (buffered-unrun plan xs)
  where
    go : (b : Bool) → map unrun (buffered plan xs) ≡ buffered plan (map unrun xs) → map unrun (cond b (x ∷ buffered plan xs) (buffered plan xs)) ≡ cond b (unrun x ∷ buffered plan (map unrun xs)) (buffered plan (map unrun xs))
    go true ih = ap (λ zs. unrun x ∷ zs) ih
    go false ih = ih

-- ---- by number

-- the groups of a transaction from a number on
abbrev pub groups_from : TxnId → List StartedGroup → (number count : ℕ) → List StartedGroup
groups_from id started number count = filter_map (λ k. find_group id k started) (range_with_len number (count - number))

cons-list : {A : Type 0} (o : Option A) (xs : List A) → cons_option o xs ≡ option_to_list o ++ xs
cons-list None xs = refl
cons-list (Some x) xs = refl

pub groups_from-more : (id : TxnId) (started : List StartedGroup) (number count : ℕ) → number < count → groups_from id started number count ≡ option_to_list (find_group id number started) ++ groups_from id started (number + 1) count
groups_from-more id started number count l =
    let e : count - number ≡ suc (count - (number + 1)) = omega arith in
    ap (λ n. filter_map (λ k. find_group id k started) (range_with_len number n)) e ∙ cons-list (find_group id number started) _

pub groups_from-end : (id : TxnId) (started : List StartedGroup) (number count : ℕ) → count ≤ number → groups_from id started number count ≡ []
groups_from-end id started number count l =
    let e : count - number ≡ 0 = omega arith in ap (λ n. filter_map (λ k. find_group id k started) (range_with_len number n)) e

groups_from-start : (id : TxnId) (started : List StartedGroup) (count : ℕ) → groups_from id started 0 count ≡ filter_map (λ k. find_group id k started) (range_with_len 0 count)
groups_from-start id started count =
    let e : count - 0 ≡ count = omega arith in ap (λ n. filter_map (λ k. find_group id k started) (range_with_len 0 n)) e

pub groups_here-from : (plan : Plan) (id : TxnId) (started : List StartedGroup) (count : ℕ) → count ≡ count_of_groups plan (find (λ e. is_txn e.id id) started) → groups_here plan id started ≡ groups_from id started 0 count
groups_here-from plan id started count e =
    ap (λ n. filter_map (λ k. find_group id k started) (range_with_len 0 n)) (sym e) ∙ sym (groups_from-start id started count)

-- how far a transaction's groups have run
pub record RunsFrom (plan : Plan) (id : TxnId) (count number : ℕ) (first now : List StartedGroup) (before after : Store) : Type 0 where
  pub runs : (s : ServerState) → run_groups plan (holding s after now) (buffered plan (groups_from id first number count)) ≡ run_groups plan (holding s before first) (buffered plan (groups_from id first 0 count))
  pub same : AreSameGroups first now
  pub fits : AreGroupsOf plan now
  pub once : NoneTwice is_same_group now

map-list : (o : Option StartedGroup) → map unrun (option_to_list o) ≡ option_to_list (option_map unrun o)
map-list None = refl
map-list (Some x) = refl

pub runs_more : (plan : Plan) (id : TxnId) (count number : ℕ) (first now next : List StartedGroup) (before after later : Store)
    → number < count → RunsFrom plan id count number first now before after
    → ((s : ServerState) → run_groups plan (holding s after now) (buffered plan (option_to_list (find_group id number now))) ≡ holding s later next) → AreSameGroups now next
    → RunsFrom plan id count (number + 1) first next before later
runs_more plan id count number first now next before after later l sofar ran same =
    let o = option_to_list (find_group id number first) in
    let o2 = option_to_list (find_group id number now) in
    let rest = groups_from id first (number + 1) count in
    let alike : map unrun o ≡ map unrun o2 = map-list (find_group id number first) ∙ ap option_to_list (sym (find_same id number first now sofar.same)) ∙ sym (map-list (find_group id number now)) in
    let alike2 : map unrun (buffered plan o) ≡ map unrun (buffered plan o2) = buffered-unrun plan o ∙ ap (buffered plan) alike ∙ sym (buffered-unrun plan o2) in
    record {
      runs = λ s.
          ap (λ x. run_groups plan x (buffered plan rest)) (sym (ran s) ∙ sym (run_groups-same plan (holding s after now) (buffered plan o) (buffered plan o2) alike2))
          ∙ sym (run_groups-append plan (holding s after now) (buffered plan o) (buffered plan rest))
          ∙ ap (run_groups plan (holding s after now)) (sym (buffered-append plan o rest) ∙ ap (buffered plan) (sym (groups_from-more id first number count l)))
          ∙ sofar.runs s;
      same = same ∙ sofar.same;
      fits = fits_same plan now next same sofar.fits;
      once = once_same now next same sofar.once;
    }

-- ---- transactions

-- how far transactions were taken: these are left
pub record TakesFrom (plan : Plan) (all left : List TxnId) (first now : List StartedGroup) (before after : Store) : Type 0 where
  pub takes : (s : ServerState) → take_all plan (holding s after now) left ≡ take_all plan (holding s before first) all
  pub same : AreSameGroups first now
  pub fits : AreGroupsOf plan now
  pub once : NoneTwice is_same_group now

pub takes_more : (plan : Plan) (all left rest : List TxnId) (id : TxnId) (first now next : List StartedGroup) (before after later : Store)
    → left ≡ id ∷ rest → TakesFrom plan all left first now before after
    → ((s : ServerState) → run_groups plan (holding s after now) (buffered_here plan id now) ≡ holding s later next) → AreSameGroups now next
    → TakesFrom plan all rest first next before later
takes_more plan all left rest id first now next before after later e sofar ran same =
    record {
      takes = λ s. ap (λ x. take_all plan x rest) (sym (ran s)) ∙ ap (take_all plan (holding s after now)) (sym e) ∙ sofar.takes s;
      same = same ∙ sofar.same;
      fits = fits_same plan now next same sofar.fits;
      once = once_same now next same sofar.once;
    }

-- ---- what was given

abbrev pub given : List StartedGroup → List ℤ
given es = flat_map (λ e. unwrap_or e.later []) es

pub given_more : (id : TxnId) (started : List StartedGroup) (number count : ℕ) (outs next all : List ℤ) → number < count → next ≡ outs ++ given (option_to_list (find_group id number started))
    → outs ++ given (groups_from id started number count) ≡ all → next ++ given (groups_from id started (number + 1) count) ≡ all
given_more id started number count outs next all l is sofar =
    let o = option_to_list (find_group id number started) in
    let rest = groups_from id started (number + 1) count in
    ap (λ xs. xs ++ given rest) is
    ∙ append_assoc outs (given o) (given rest)
    ∙ ap (λ xs. outs ++ xs) (sym (flat_map-append (λ (e : StartedGroup). unwrap_or e.later []) o rest) ∙ ap given (sym (groups_from-more id started number count l)))
    ∙ sofar
