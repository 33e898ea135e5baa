-- The reader of expressions is exact in every room.
use Rattle.std.proofs.Common.{◌≡◌, ℕ, zero, suc, ◌-◌, ◌<◌, ◌≤◌, List, refl, subst, arith}
use Rattle.roc_lang.specs.Tokens.{Token}
use Rattle.roc_lang_parse.specs.Stuck.{Reading}
use Rattle.roc_lang_parse.specs.Reading.{Deep, deep_at, rooms}
use Rattle.roc_lang_parse.proofs.Depths.{summed_deep}
use Rattle.roc_lang_parse.proofs.Loops.{depth_of, IsRead}
use Rattle.roc_lang_parse.proofs.Atoms.{SumRule, sum_stop, Inner}
use Rattle.roc_lang_parse.proofs.Sums.{exact_sum, complete_sum, sum_ends}

abbrev Reads : (room : ℕ) → (List Token → Reading Deep) → Type 0
Reads room r = IsRead SumRule depth_of room sum_stop r

record RoomsRead (k : ℕ) : Type 0 where
  here : Reads k (rooms k).here
  below : Reads (k - 1) (rooms k).below
  lower : Reads (k - 1 - 1) (rooms k).lower

nothing_read : (k : ℕ) (r : List Token → Reading Deep) → k ≡ 0 → Reads k r
nothing_read k r e ts us v is fits a = let d = summed_deep is in absurd (omega arith)

rooms_read : (k : ℕ) → RoomsRead k
unfolding rooms
rooms_read zero = record { here = nothing_read _ _ refl; below = nothing_read _ _ (omega arith); lower = nothing_read _ _ (omega arith) }
rooms_read (suc k) =
    let r = rooms_read k in
    let same : k ≡ suc k - 1 = omega arith in
    let i = subst (λ z. Reads z (rooms k).here) same r.here in
    let l = subst (λ z. Reads (z - 1) (rooms k).below) same r.below in
    let o = subst (λ z. Reads (z - 1 - 1) (rooms k).lower) same r.lower in
    record { here = complete_sum (suc k) (rooms k).here (rooms k).below (rooms k).lower i l o; below = i; lower = l }

record RoomsExact (k k' : ℕ) : Type 0 where
  here : 1 ≤ k → Inner k k' (rooms k).here (rooms k').here
  below : 2 ≤ k → Inner (k - 1) (k' - 1) (rooms k).below (rooms k').below
  lower : 3 ≤ k → Inner (k - 1 - 1) (k' - 1 - 1) (rooms k).lower (rooms k').lower

rooms_exact : (k k' : ℕ) → k < k' → RoomsExact k k'
unfolding rooms
rooms_exact zero k' lt = record { here = λ h. absurd (omega arith); below = λ h. absurd (omega arith); lower = λ h. absurd (omega arith) }
rooms_exact (suc k) zero lt = absurd (omega arith)
rooms_exact (suc k) (suc k') lt =
    let r = rooms_exact k k' (omega arith) in
    let q = rooms_read k' in
    let same : k ≡ suc k - 1 = omega arith in
    let same' : k' ≡ suc k' - 1 = omega arith in
    let i = subst (λ z. Reads z (rooms k').here) same' q.here in
    let l = subst (λ z. Reads (z - 1) (rooms k').below) same' q.below in
    let o = subst (λ z. Reads (z - 1 - 1) (rooms k').lower) same' q.lower in
    let inner : 1 ≤ k → Inner (suc k - 1) (suc k' - 1) (rooms k).here (rooms k').here = λ h. subst (λ z. Inner z (suc k' - 1) (rooms k).here (rooms k').here) same (subst (λ z. Inner k z (rooms k).here (rooms k').here) same' (r.here h)) in
    let inner_below : 2 ≤ k → Inner (suc k - 1 - 1) (suc k' - 1 - 1) (rooms k).below (rooms k').below = λ h. subst (λ z. Inner (z - 1) (suc k' - 1 - 1) (rooms k).below (rooms k').below) same (subst (λ z. Inner (k - 1) (z - 1) (rooms k).below (rooms k').below) same' (r.below h)) in
    let inner_lower : 3 ≤ k → Inner (suc k - 1 - 1 - 1) (suc k' - 1 - 1 - 1) (rooms k).lower (rooms k').lower = λ h. subst (λ z. Inner (z - 1 - 1) (suc k' - 1 - 1 - 1) (rooms k).lower (rooms k').lower) same (subst (λ z. Inner (k - 1 - 1) (z - 1 - 1) (rooms k).lower (rooms k').lower) same' (r.lower h)) in
    record {
      here = λ h. record {
        exact = exact_sum (suc k) (suc k') (rooms k).here (rooms k').here (rooms k).below (rooms k').below (rooms k).lower (rooms k').lower
            (record { above = omega arith; further = lt; inside = λ g. inner (omega arith); read = i })
            (λ g. record { above = omega arith; further = omega arith; inside = λ f. inner_below (omega arith); read = l })
            (λ g. record { above = omega arith; further = omega arith; inside = λ f. inner_lower (omega arith); read = o })
            l o;
        ends = λ ts us v read. sum_ends (rooms k).here (rooms k).below (rooms k).lower (suc k) ts us v read;
      };
      below = λ h. inner (omega arith);
      lower = λ h. inner_below (omega arith);
    }

pub exact_deep : (k k' : ℕ) → 1 ≤ k → k < k' → Inner k k' (deep_at k) (deep_at k')
exact_deep k k' above lt = (rooms_exact k k' lt).here above
