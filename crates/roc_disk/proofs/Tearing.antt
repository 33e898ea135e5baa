-- What a write and a cut leave, whole or torn.
use Rattle.std.proofs.Common.{◌≡◌, ◌⊎◌, inl, inr, ⊎_elim, ℕ, zero, suc, ◌+◌, ◌-◌, ◌≤◌, min, List, ◌++◌, length, take, drop, refl, sym, ◌∙◌, ap, subst, arith, append_assoc, length-append, length-drop}
use Rattle.std.proofs.lemmas.List.{take_at, take_all, length-take-le}
use Rattle.std.proofs.lemmas.Slice.{drop-append-drop}
use Rattle.roc_disk.specs.Answers.{put}
use Rattle.roc_disk.specs.Stops.{Torn, Cut}

one_way : (a b : ℕ) → (a ≤ b) ⊎ (b ≤ a)
one_way zero b = inl (omega arith)
one_way (suc a) zero = inr (omega arith)
one_way (suc a) (suc b) = ⊎_elim (λ h. inl (omega (arith, h))) (λ h. inr (omega (arith, h))) (one_way a b)

-- as far as there is anything
take_min : (n : ℕ) (xs : List ℕ) → take (min n (length xs)) xs ≡ take n xs
take_min n xs = ⊎_elim
    (λ inside. let same : min n (length xs) ≡ n = omega (arith, inside) in ap (λ k. take k xs) same)
    (λ past. let all : min n (length xs) ≡ length xs = omega (arith, past) in ap (λ k. take k xs) all ∙ take_all (length xs) xs (omega arith) ∙ sym (take_all n xs past))
    (one_way n (length xs))

pub torn_same : (at n : ℕ) (old : List ℕ) → Torn at n old old
torn_same at n old = record { before = take_min at old; behind = refl; no_shorter = omega arith; no_longer = omega arith }

pub torn_put : (at n : ℕ) (old bytes : List ℕ) → at ≤ length old → length bytes ≤ n → Torn at n old (put old at bytes)
torn_put at n old bytes inside short =
    let front : length (take at old) ≡ at = length-take-le at old inside in
    let both : length (take at old ++ bytes) ≡ at + length bytes = length-append (take at old) bytes ∙ ap (λ k. k + length bytes) front in
    let rest : length (drop (at + length bytes) old) ≡ length old - (at + length bytes) = length-drop (at + length bytes) old in
    let long : length (put old at bytes) ≡ at + length bytes + (length old - (at + length bytes)) =
    length-append (take at old ++ bytes) (drop (at + length bytes) old) ∙ ap (λ k. k + length (drop (at + length bytes) old)) both ∙ ap (λ k. at + length bytes + k) rest in
    let same : min at (length old) ≡ at = omega (arith, inside) in
    record {
      before = ap (λ k. take k (put old at bytes)) same ∙ ap (take at) (append_assoc (take at old) bytes (drop (at + length bytes) old)) ∙ take_at (take at old) (bytes ++ drop (at + length bytes) old) at front;
      behind = drop-append-drop (at + length bytes) old (take at old ++ bytes) (at + n) (omega (arith, short)) both;
      no_shorter = omega (arith, long);
      no_longer = omega (arith, long, inside, short);
    }

pub cut_same : (len : ℕ) (old : List ℕ) → Cut len old old
cut_same len old = record { before = take_min len old; no_shorter = omega arith; no_longer = omega arith }

pub cut_take : (len : ℕ) (old : List ℕ) → Cut len old (take len old)
cut_take len old = ⊎_elim
    (λ inside.
    let size : length (take len old) ≡ len = length-take-le len old inside in
    let same : min len (length old) ≡ len = omega (arith, inside) in
    record { before = ap (λ k. take k (take len old)) same ∙ take_all len (take len old) (omega (arith, size)); no_shorter = omega (arith, size); no_longer = omega (arith, size) })
    (λ past. subst (Cut len old) (sym (take_all len old past)) (cut_same len old))
    (one_way len (length old))
