-- Groups that differ in nothing but what they gave
use Rattle.std.proofs.Common.{◌≡◌, ℕ, zero, suc, Bool, true, false, cond, List, [], ◌∷◌, map, filter, Some, slice_get, slice_set, refl, sym, ap, subst, ◌∙◌, arith, ◌||◌}
use Rattle.std.proofs.lemmas.List.{length-map}
use Rattle.std.proofs.lemmas.Bool.Decides.{nat_tests}
use Rattle.std.specs.Option.{option_map}
use Rattle.roc_sequence.specs.Places.{place_of, NoneTwice}
use Rattle.roc_sequence.proofs.Holds.{all_has, has_all}
use Rattle.roc_sequence.proofs.Members.{from_has_filter}
use Rattle.roc_base.specs.declared.id.TxnId.{TxnId}
use Rattle.roc_base.specs.TxnId.{is_txn}
use Rattle.roc_plan.specs.Groups.{Plan}
use Rattle.roc_step.specs.declared.started.StartedGroup.{StartedGroup}
use Rattle.roc_step.specs.Runs.{group_call}
use Rattle.roc_step.specs.Fits.{IsCallOf, AreGroupsOf}
use Rattle.roc_server_groups.specs.Groups.{is_same_group, AreSameGroups}
use Rattle.roc_step.specs.State.{is_group, find_group, is_here, unrun}

pub same_own : (e : StartedGroup) → is_same_group e e ≡ true
same_own e = grind (arith, nat_tests)

pub same_swap : (a b : StartedGroup) → is_same_group a b ≡ is_same_group b a
same_swap a b = grind (arith, nat_tests)

-- what one of them gave is set
pub set_same : (xs : List StartedGroup) (at : ℕ) (e after : StartedGroup) → slice_get xs at ≡ Some e → unrun after ≡ unrun e → AreSameGroups xs (slice_set xs at after)
set_same [] at e after got same = cc
set_same (x ∷ xs) zero e after got same =
    let is : x ≡ e = cc in λ i. (same ∙ ap unrun (sym is)) i ∷ map unrun xs
set_same (x ∷ xs) (suc k) e after got same = ap (λ ys. unrun x ∷ ys) (set_same xs k e after got same)

pub fits_same : (plan : Plan) (old new : List StartedGroup) → AreSameGroups old new → AreGroupsOf plan old → AreGroupsOf plan new
fits_same plan [] [] same fits = tt
fits_same plan [] (y ∷ ys) same fits = cc
fits_same plan (x ∷ xs) [] same fits = cc
fits_same plan (x ∷ xs) (y ∷ ys) same fits =
    let head : unrun x ≡ unrun y = cc in
    (subst (λ (e : StartedGroup). IsCallOf plan (group_call e)) head fits.0, fits_same plan xs ys (cc) fits.1)

place-unrun : (x : StartedGroup) (xs : List StartedGroup) → place_of (is_same_group (unrun x)) (map unrun xs) ≡ place_of (is_same_group x) xs
place-unrun x [] = refl
place-unrun x (y ∷ ys) = ap (λ n. cond (is_same_group x y) 0 (suc n)) (place-unrun x ys)

once_unrun : (xs : List StartedGroup) → NoneTwice is_same_group xs → NoneTwice is_same_group (map unrun xs)
once_unrun [] once = tt
once_unrun (x ∷ xs) once = (λ l. once.0 (omega (arith, place-unrun x xs, length-map xs unrun)), once_unrun xs once.1)

once_run : (xs : List StartedGroup) → NoneTwice is_same_group (map unrun xs) → NoneTwice is_same_group xs
once_run [] once = tt
once_run (x ∷ xs) once = (λ l. once.0 (omega (arith, place-unrun x xs, length-map xs unrun)), once_run xs once.1)

pub once_same : (old new : List StartedGroup) → AreSameGroups old new → NoneTwice is_same_group old → NoneTwice is_same_group new
once_same old new same once = once_run new (subst (NoneTwice is_same_group) (sym same) (once_unrun old once))

any-unrun : (id : TxnId) (xs : List StartedGroup) → is_here id (map unrun xs) ≡ is_here id xs
any-unrun id [] = refl
any-unrun id (x ∷ xs) = ap (λ b. is_txn x.id id || b) (any-unrun id xs)

pub here_same : (id : TxnId) (old new : List StartedGroup) → AreSameGroups old new → is_here id new ≡ is_here id old
here_same id old new same = sym (any-unrun id new) ∙ ap (is_here id) same ∙ any-unrun id old

find-unrun : (id : TxnId) (g : ℕ) (xs : List StartedGroup) → find_group id g (map unrun xs) ≡ option_map unrun (find_group id g xs)
find-unrun id g [] = refl
find-unrun id g (x ∷ xs) = go (is_group id g x) (find-unrun id g xs)
  where
    go : (b : Bool) → find_group id g (map unrun xs) ≡ option_map unrun (find_group id g xs) → cond b (Some (unrun x)) (find_group id g (map unrun xs)) ≡ option_map unrun (cond b (Some x) (find_group id g xs))
    go true ih = refl
    go false ih = ih

pub find_same : (id : TxnId) (g : ℕ) (old new : List StartedGroup) → AreSameGroups old new → option_map unrun (find_group id g new) ≡ option_map unrun (find_group id g old)
find_same id g old new same = sym (find-unrun id g new) ∙ ap (find_group id g) same ∙ find-unrun id g old

-- some of the groups of a plan are of it
pub fits_some : (plan : Plan) (p : StartedGroup → Bool) (es : List StartedGroup) → AreGroupsOf plan es → AreGroupsOf plan (filter p es)
fits_some plan p es fits = has_all (λ (e : StartedGroup). IsCallOf plan (group_call e)) (filter p es) (λ e h. all_has (λ (e : StartedGroup). IsCallOf plan (group_call e)) e es fits (from_has_filter p e es h).0)
