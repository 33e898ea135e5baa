-- What the head of a file says of it.
use Rattle.std.proofs.Common.{◌≡◌, ℕ, false, ◌<◌, List, [], ◌∷◌, ◌++◌, length, take, drop, sym, ◌∙◌, ap, arith, length-append, length-drop, take-append-drop}
use Rattle.std.specs.Prelude.{bytes_eq}
use Rattle.std.proofs.lemmas.List.{append-nil, take_all}
use Rattle.std.proofs.lemmas.Slice.Eq.{bytes_eq-Decides}
use Rattle.roc_journal.specs.Format.{magic, head}
use Rattle.roc_journal.specs.Faults.{IsFault, magic_is_wrong, tag_is_wrong, gate_is_missing}
use Rattle.roc_journal.specs.Reading.{IsReadTo}
use Rattle.roc_journal.proofs.Ends.{first_of}

pub nothing : (bytes : List ℕ) → length bytes ≡ 0 → bytes ≡ []
nothing [] e = cc
nothing (x ∷ xs) e = absurd (omega (arith, e))

pub something : (bytes : List ℕ) → 0 < length bytes → ¬ (bytes ≡ [])
something bytes some e = omega (arith, some, ap length e)

differs : (xs ys zs : List ℕ) → xs ≡ zs → bytes_eq xs ys ≡ false → ¬ (zs ≡ ys)
differs xs ys zs there other e = absurd (cc ((bytes_eq-Decides xs ys).1 (there ∙ e), other))

module _ (tag bytes : List ℕ) where
  pub other_magic : (found : List ℕ) → found ≡ take 4 bytes → bytes_eq found magic ≡ false → IsFault tag bytes 0
  other_magic found there other = magic_is_wrong (differs found magic (take 4 bytes) there other)

  pub other_tag : take 4 bytes ≡ magic → (found : List ℕ) → found ≡ take 8 (drop 4 bytes) → bytes_eq found tag ≡ false → IsFault tag bytes 4
  other_tag is_magic found there other = tag_is_wrong is_magic (differs found tag (take 8 (drop 4 bytes)) there other)

  pub no_magic : length bytes < 4 → IsFault tag bytes 0
  no_magic short = magic_is_wrong (λ e. omega (arith, short, ap length (sym (take_all 4 bytes (omega (arith, short))) ∙ e)))

  module _ (eight : length tag ≡ 8) (is_magic : take 4 bytes ≡ magic) where
    pub no_tag : length bytes < 12 → IsFault tag bytes 4
    no_tag short = tag_is_wrong is_magic
        (λ e. omega (arith, short, eight, length-drop 4 bytes, ap length (sym (take_all 8 (drop 4 bytes) (omega (arith, short, length-drop 4 bytes))) ∙ e)))

    module _ (is_tag : take 8 (drop 4 bytes) ≡ tag) where
      behind_head : bytes ≡ head tag ++ drop 8 (drop 4 bytes)
      behind_head =
          sym (take-append-drop 4 bytes) ∙ ap (λ (l : List ℕ). l ++ drop 4 bytes) is_magic
          ∙ ap (λ (l : List ℕ). magic ++ l) (sym (take-append-drop 8 (drop 4 bytes)) ∙ ap (λ (l : List ℕ). l ++ drop 8 (drop 4 bytes)) is_tag)

      pub no_gate : length bytes ≡ 12 → IsFault tag bytes 12
      no_gate short =
          let none = nothing (drop 8 (drop 4 bytes)) (omega (arith, short, length-drop 4 bytes, length-drop 8 (drop 4 bytes))) in
          gate_is_missing (behind_head ∙ ap (λ (l : List ℕ). head tag ++ l) none ∙ append-nil (head tag))

      pub at_gate : (len : ℕ) → 12 < length bytes → IsReadTo bytes [] (record { tag = tag; gate = 12; len = len })
      at_gate len long =
          let found = first_of (drop 8 (drop 4 bytes)) (omega (arith, long, length-drop 4 bytes, length-drop 8 (drop 4 bytes))) in
          record {
            each = tt;
            gate_byte = found.0;
            behind = found.1;
            is = behind_head ∙ ap (λ (l : List ℕ). head tag ++ l) found.2 ∙ ap (λ (l : List ℕ). l ++ found.0 ∷ found.1) (sym (append-nil (head tag)));
            gate = omega (arith, eight, ap length (append-nil (head tag)), length-append magic tag);
          }
