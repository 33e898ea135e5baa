-- Reading several fields one after the other, as a loop does
use Rattle.std.proofs.Common.{◌≡◌, ℕ, suc, ◌-◌, ◌+◌, ◌≤◌, ◌<◌, List, [], ◌∷◌, ◌++◌, Result, Ok, Err, refl, sym, ap, ◌∙◌, append_assoc, arith}
use Rattle.std.proofs.lemmas.List.{append-nil}
use Rattle.roc_wire.specs.declared.fault.WireFault.{WireFault}
use Rattle.roc_wire.specs.declared.fault.WireFault.TheVariants.{Short, Magic, Version, Kind, Count, Order, Rest, NoMemory}
use Rattle.roc_wire.specs.Reading.{◌>>=◌, Field, IsReadFault, several_read}

-- what was read before, and what is still read
abbrev pub with_front : {A : Type 0} → List A → Result (List A × List ℕ) WireFault → Result (List A × List ℕ) WireFault
with_front front read = read >>= λ x. Ok (front ++ x.0, x.1)

regroup : {A : Type 0} (front : List A) (a : A) (read : Result (List A × List ℕ) WireFault) → with_front front (read >>= λ x. Ok (a ∷ x.0, x.1)) ≡ with_front (front ++ a ∷ []) read
regroup {A} front a (Ok x) = ap (λ (all : List A). Ok (all, x.1)) (sym (append_assoc front (a ∷ []) x.0))
regroup front a (Err fault) = refl

pub goes_on : {A S : Type 0} (read : S → Field A) (next : S → A → S) (front : List A) (count i : ℕ) (s : S) (bytes : List ℕ) (a : A) (after : List ℕ) (total : Result (List A × List ℕ) WireFault) → i < count → read s bytes ≡ Ok (a, after)
    → with_front front (several_read read next (count - i) s bytes) ≡ total → with_front (front ++ a ∷ []) (several_read read next (count - (i + 1)) (next s a) after) ≡ total
unfolding several_read
goes_on read next front count i s bytes a after total lt h so_far =
    let k : count - i ≡ suc (count - (i + 1)) = omega arith in
    let one : with_front front (several_read read next (count - i) s bytes) ≡ with_front (front ++ a ∷ []) (several_read read next (count - (i + 1)) (next s a) after) = rw (k, h) (regroup front a (several_read read next (count - (i + 1)) (next s a) after)) in
    sym one ∙ so_far

fails_alike : {A B : Type 0} (e : WireFault) (read : Result A WireFault) (total : Result B WireFault) → ((f : WireFault) → read ≡ Err f → total ≡ Err f) → IsReadFault e read → IsReadFault e total
fails_alike NoMemory read total to h = tt
fails_alike Short read total to h = to Short h
fails_alike Magic read total to h = to Magic h
fails_alike Version read total to h = to Version h
fails_alike Kind read total to h = to Kind h
fails_alike Count read total to h = to Count h
fails_alike Order read total to h = to Order h
fails_alike Rest read total to h = to Rest h

pub ends : {A S : Type 0} (read : S → Field A) (next : S → A → S) (e : WireFault) (front : List A) (count i : ℕ) (s : S) (bytes : List ℕ) (total : Result (List A × List ℕ) WireFault) → i < count → IsReadFault e (read s bytes)
    → with_front front (several_read read next (count - i) s bytes) ≡ total → IsReadFault e total
unfolding several_read
ends read next e front count i s bytes total lt failed so_far = fails_alike e (read s bytes) total (λ f h.
    let k : count - i ≡ suc (count - (i + 1)) = omega arith in
    let one : with_front front (several_read read next (count - i) s bytes) ≡ Err f = rw (k, h) refl in
    sym so_far ∙ one) failed

pub is_done : {A S : Type 0} (read : S → Field A) (next : S → A → S) (front : List A) (count i : ℕ) (s : S) (bytes : List ℕ) (total : Result (List A × List ℕ) WireFault) → count ≤ i → with_front front (several_read read next (count - i) s bytes) ≡ total → total ≡ Ok (front, bytes)
unfolding several_read
is_done {A} read next front count i s bytes total le so_far =
    let k : count - i ≡ 0 = omega arith in
    let one : with_front front (several_read read next (count - i) s bytes) ≡ Ok (front, bytes) = rw k (ap (λ (all : List A). Ok (all, bytes)) (append-nil front)) in
    sym so_far ∙ one
