-- A search by bits: what is met is what was done so far leads to
use Rattle.std.proofs.Common.{◌≡◌, ℕ, true, false, ◌||◌, List, [], ◌∷◌, ◌++◌, length, refl, sym, ap, ◌∙◌, subst, inl, inr, zero-le, nat_eq}
use Rattle.std.proofs.lemmas.Bool.{cases_eq, both_ways, or_cases, or_left, or_right}
use Rattle.roc_sequence.specs.Lists.{Has}
use Rattle.roc_sequence.specs.Places.{NoneTwice}
use Rattle.roc_sequence.proofs.Members.{has_left, has_right, has_more}
use Rattle.roc_server_reach.specs.Bits.{BitTable, bit_at, row_bit, LeadsBy, itself, onward, AreReached}
use Rattle.roc_server_reach.specs.Inner.Words.{HasAllBits, IsBitPut, IsNext, IsSetOf}
use Rattle.roc_server_reach.proofs.Numbers.{named_has, has_named, once_more}

-- a chain of bits leads there from a member of a set
pub record LeadsFromBit (bits : BitTable) (starts : List ℕ) (m : ℕ) : Type 0 where
  pub start : ℕ
  pub among : row_bit starts start ≡ true
  pub leads : LeadsBy bits start m

-- of a search from these bits: what it has met, what of this is done, and the list of what is done
pub record IsSearch (bits : BitTable) (starts met done found : List ℕ) : Type 0 where
  pub each : length done ≡ length met
  pub sound : (m : ℕ) → row_bit met m ≡ true → LeadsFromBit bits starts m
  pub first : (m : ℕ) → row_bit starts m ≡ true → row_bit met m ≡ true
  pub goes_on : (n m : ℕ) → row_bit done n ≡ true → bit_at bits n m ≡ true → row_bit met m ≡ true
  pub told : (m : ℕ) → Has m found → row_bit met m ≡ true
  pub listed : (m : ℕ) → row_bit done m ≡ true → Has m found
  pub marked : (m : ℕ) → Has m found → row_bit done m ≡ true
  pub once : NoneTwice nat_eq found

pub none_done : (bits : BitTable) (met done : List ℕ) → length done ≡ length met → ((m : ℕ) → row_bit done m ≡ false) → IsSearch bits met met done []
none_done bits met done each none =
    record {
      each = each;
      sound = λ m h. record { start = m; among = h; leads = itself };
      first = λ m h. h;
      goes_on = λ n m h b. absurd (both_ways (row_bit done n) (none n) h);
      told = λ m h. absurd h;
      listed = λ m h. absurd (both_ways (row_bit done m) (none m) h);
      marked = λ m h. absurd h;
      once = tt;
    }

module _ (bits : BitTable) (starts met done found : List ℕ) (s : IsSearch bits starts met done found) where
  -- one more is done
  module _ (n : ℕ) (next : IsNext met done n) (met2 done2 : List ℕ) (put : IsBitPut n done done2) (same : length met2 ≡ length met)
      (joins : (m : ℕ) → row_bit met2 m ≡ (row_bit met m || bit_at bits n m)) where
    keeps : (m : ℕ) → row_bit met m ≡ true → row_bit met2 m ≡ true
    keeps m h = joins m ∙ or_left (row_bit met m) (bit_at bits n m) h

    pub one_done : IsSearch bits starts met2 done2 (found ++ n ∷ [])
    one_done =
        record {
          each = put.each ∙ (s.each ∙ sym same);
          sound = λ m h. elim (or_cases (row_bit met m) (bit_at bits n m) (sym (joins m) ∙ h)) [
            | inl k ↦ s.sound m k
            | inr k ↦ (let f = s.sound n next.has in record { start = f.start; among = f.among; leads = onward f.leads k })
          ];
          first = λ m h. keeps m (s.first m h);
          goes_on = λ k m h b. elim (cases_eq k n) [
            | inl e ↦ joins m ∙ or_right (row_bit met m) (bit_at bits n m) (subst (λ v. bit_at bits v m ≡ true) e b)
            | inr apart ↦ keeps m (s.goes_on k m (sym (put.others k apart) ∙ h) b)
          ];
          told = λ m h. elim (has_more m n found h) [
            | inl k ↦ keeps m (s.told m k)
            | inr e ↦ keeps m (subst (λ v. row_bit met v ≡ true) (sym e) next.has)
          ];
          listed = λ m h. elim (cases_eq m n) [
            | inl e ↦ subst (λ v. Has v (found ++ n ∷ [])) (sym e) (has_right n found (n ∷ []) (inl refl))
            | inr apart ↦ has_left m found (n ∷ []) (s.listed m (sym (put.others m apart) ∙ h))
          ];
          marked = λ m h. elim (cases_eq m n) [
            | inl e ↦ ap (row_bit done2) e ∙ put.own
            | inr apart ↦ elim (has_more m n found h) [ inl k ↦ put.others m apart ∙ s.marked m k | inr e ↦ absurd (apart e) ]
          ];
          once = once_more found n s.once (λ k. both_ways (row_bit done n) next.lacks (s.marked n k));
        }

  -- all that is met is done
  module _ (all : HasAllBits 0 met done) where
    met_on : (n m : ℕ) → row_bit met n ≡ true → LeadsBy bits n m → row_bit met m ≡ true
    met_on n _ h itself = h
    met_on n _ h (onward l b) = s.goes_on _ _ (all _ zero-le (met_on n _ h l)) b

    pub all_done : (names : List ℕ) → IsSetOf names starts → AreReached bits names found
    all_done names is =
        record {
          only = λ m h. (let f = s.sound m (s.told m h) in record { start = f.start; among = named_has names f.start (sym (is f.start) ∙ f.among); leads = f.leads });
          all = λ n m h l. s.listed m (all m zero-le (met_on n m (s.first n (is n ∙ has_named names n h)) l));
          once = s.once;
        }
