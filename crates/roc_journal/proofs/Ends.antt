-- What tears at the end of a file leave, where a gate stands there.
use Rattle.std.proofs.Common.{◌≡◌, ℕ, suc, ◌+◌, ◌<◌, min, List, [], ◌∷◌, ◌++◌, length, take, drop, refl, sym, ◌∙◌, ap, subst, arith, append_assoc, length-append, length-drop, take-append-drop}
use Rattle.std.proofs.lemmas.List.{take_at, drop_at, take_all, drop_all, append-nil}
use Rattle.roc_disk.specs.Answers.{put}
use Rattle.roc_disk.specs.Stops.{Torn, Cut}

-- a list that is not empty has a first
pub first_of : (xs : List ℕ) → 0 < length xs → (x : ℕ) × (rest : List ℕ) × (xs ≡ x ∷ rest)
first_of [] some = absurd (omega (arith, some))
first_of (x ∷ xs) some = (x, xs, refl)

module _ (front : List ℕ) where
  pub size_of_end : (gate : ℕ) → length (front ++ gate ∷ []) ≡ length front + 1
  size_of_end gate = length-append front (gate ∷ [])

  pub split_end : (gate : ℕ) (behind : List ℕ) → front ++ gate ∷ behind ≡ (front ++ gate ∷ []) ++ behind
  split_end gate behind = sym (append_assoc front (gate ∷ []) behind)

  -- the bytes up to the gate stay
  kept : (gate : ℕ) (behind image : List ℕ) → take (length front + 1) image ≡ take (length front + 1) (front ++ gate ∷ behind) → image ≡ front ++ gate ∷ drop (length front + 1) image
  kept gate behind image same =
      let whole : take (length front + 1) (front ++ gate ∷ behind) ≡ front ++ gate ∷ [] =
      ap (λ (l : List ℕ). take (length front + 1) l) (split_end gate behind) ∙ take_at (front ++ gate ∷ []) behind (length front + 1) (size_of_end gate) in
      sym (take-append-drop (length front + 1) image) ∙ ap (λ (l : List ℕ). l ++ drop (length front + 1) image) (same ∙ whole)
      ∙ append_assoc front (gate ∷ []) (drop (length front + 1) image)

  -- a write behind the gate leaves it
  pub torn_behind : (gate n : ℕ) (image : List ℕ) → Torn (length front + 1) n (front ++ gate ∷ []) image → image ≡ front ++ gate ∷ drop (length front + 1) image
  torn_behind gate n image torn =
      let all : min (length front + 1) (length (front ++ gate ∷ [])) ≡ length front + 1 = omega (arith, size_of_end gate) in
      kept gate [] image (subst (λ k. take k image ≡ take (length front + 1) (front ++ gate ∷ [])) all torn.before)

  pub put_behind : (gate : ℕ) (bytes : List ℕ) → put (front ++ gate ∷ []) (length front + 1) bytes ≡ front ++ gate ∷ bytes
  put_behind gate bytes =
      ap (λ (l : List ℕ). l ++ bytes ++ drop (length front + 1 + length bytes) (front ++ gate ∷ [])) (take_all (length front + 1) (front ++ gate ∷ []) (omega (arith, size_of_end gate)))
      ∙ ap (λ (l : List ℕ). (front ++ gate ∷ []) ++ bytes ++ l) (drop_all (length front + 1 + length bytes) (front ++ gate ∷ []) (omega (arith, size_of_end gate)))
      ∙ append-nil ((front ++ gate ∷ []) ++ bytes) ∙ append_assoc front (gate ∷ []) bytes

  -- a write of the gate alone leaves all but it
  pub torn_gate : (gate : ℕ) (behind image : List ℕ) → Torn (length front) 1 (front ++ gate ∷ behind) image → (other : ℕ) × (image ≡ front ++ other ∷ behind)
  torn_gate gate behind image torn =
      let size : length (front ++ gate ∷ behind) ≡ length front + suc (length behind) = length-append front (gate ∷ behind) in
      let all : min (length front) (length (front ++ gate ∷ behind)) ≡ length front = omega (arith, size) in
      let before : take (length front) image ≡ front =
      subst (λ k. take k image ≡ take (length front) (front ++ gate ∷ behind)) all torn.before ∙ take_at front (gate ∷ behind) (length front) refl in
      let after : drop (length front + 1) image ≡ behind =
      torn.behind ∙ ap (λ (l : List ℕ). drop (length front + 1) l) (split_end gate behind) ∙ drop_at (front ++ gate ∷ []) behind (length front + 1) (size_of_end gate) in
      let found = first_of (drop (length front) image) (omega (arith, size, torn.no_shorter, length-drop (length front) image)) in
      let split : image ≡ front ++ found.0 ∷ found.1 =
      sym (take-append-drop (length front) image) ∙ ap (λ (l : List ℕ). l ++ drop (length front) image) before ∙ ap (λ (l : List ℕ). front ++ l) found.2 in
      let rest : found.1 ≡ behind =
      sym (drop_at (front ++ found.0 ∷ []) found.1 (length front + 1) (size_of_end found.0))
      ∙ ap (λ (l : List ℕ). drop (length front + 1) l) (sym (split_end found.0 found.1) ∙ sym split) ∙ after in
      (found.0, split ∙ ap (λ (l : List ℕ). front ++ found.0 ∷ l) rest)

  pub put_gate : (gate byte : ℕ) (behind : List ℕ) → put (front ++ gate ∷ behind) (length front) (byte ∷ []) ≡ front ++ byte ∷ behind
  put_gate gate byte behind =
      ap (λ (l : List ℕ). l ++ byte ∷ [] ++ drop (length front + 1) (front ++ gate ∷ behind)) (take_at front (gate ∷ behind) (length front) refl)
      ∙ ap (λ (l : List ℕ). (front ++ byte ∷ []) ++ l)
      (ap (λ (l : List ℕ). drop (length front + 1) l) (split_end gate behind) ∙ drop_at (front ++ gate ∷ []) behind (length front + 1) (size_of_end gate))
      ∙ append_assoc front (byte ∷ []) behind

  -- a cut behind the gate leaves it
  pub cut_behind : (gate : ℕ) (behind image : List ℕ) → Cut (length front + 1) (front ++ gate ∷ behind) image → image ≡ front ++ gate ∷ drop (length front + 1) image
  cut_behind gate behind image cut =
      let size : length (front ++ gate ∷ behind) ≡ length front + suc (length behind) = length-append front (gate ∷ behind) in
      let all : min (length front + 1) (length (front ++ gate ∷ behind)) ≡ length front + 1 = omega (arith, size) in
      kept gate behind image (subst (λ k. take k image ≡ take (length front + 1) (front ++ gate ∷ behind)) all cut.before)

  pub take_behind : (gate : ℕ) (behind : List ℕ) → take (length front + 1) (front ++ gate ∷ behind) ≡ front ++ gate ∷ []
  take_behind gate behind = ap (λ (l : List ℕ). take (length front + 1) l) (split_end gate behind) ∙ take_at (front ++ gate ∷ []) behind (length front + 1) (size_of_end gate)
