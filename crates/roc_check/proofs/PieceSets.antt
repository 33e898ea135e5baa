-- Sets of pieces: one piece more, and the pieces of two sets
use Rattle.std.proofs.Common.{◌≡◌, ℕ, ◌+◌, ◌*◌, ◌^◌, ◌%◌, ◌<◌, ◌≤◌, max, Bool, true, false, ◌&&◌, ◌||◌, ◌==◌, List, length, get_or, set, sym, ap, ◌∙◌, inl, inr, w16, arith}
use Rattle.std.proofs.lemmas.Bool.{cases_eq, cases_lt}
use Rattle.std.proofs.lemmas.Bool.Decides.{nat_tests}
use Rattle.std.proofs.lemmas.List.{length-set, get_or-set_same, get_or-set_other, get_or_past}
use Rattle.std.proofs.lemmas.Nat.Bits.{bit_at-lt, bit_at-zero, bit_at_or, bit_at_set_same, bit_at_set_other, bit_at_above}
use Rattle.std.specs.Int.{bit_at}
use Rattle.std.specs.Int.RustNames.{bit_or}
use Rattle.roc_program.specs.declared.piece_id.PieceId.{PieceId}
use Rattle.roc_check.specs.Inner.PieceSets.{word, holds}

not_more : (x b d : Bool) → b ≡ false → x ≡ (x || (b && d))
not_more x b d h = grind (arith, nat_tests)

not_more_in : (x b d : Bool) → d ≡ false → x ≡ (x || (b && d))
not_more_in x b d h = grind (arith, nat_tests)

more : (x b d : Bool) → b ≡ true → d ≡ true → true ≡ (x || (b && d))
more x b d h k = grind (arith, nat_tests)

pub with_bit : (set_of : List ℕ) (proc piece : ℕ) → proc < length set_of → piece < 16 → (other : PieceId)
    → holds (set set_of proc (bit_or (get_or set_of proc 0) (1 * 2 ^ piece % 65536))) other ≡ (holds set_of other || ((other.proc == proc) && (other.piece == piece)))
with_bit set_of proc piece l m other =
    let w = bit_or (get_or set_of proc 0) (1 * 2 ^ piece % 65536) in
    elim (cases_eq other.proc proc) [
      | inr n ↦ (let no : (other.proc == proc) ≡ false = grind (arith, nat_tests) in
          ap (λ v. bit_at v other.piece == 1) (get_or-set_other set_of proc other.proc w 0 n) ∙ not_more (holds set_of other) (other.proc == proc) (other.piece == piece) no)
      | inl e ↦ (let yes : (other.proc == proc) ≡ true = grind (arith, nat_tests) in
          let here : get_or (set set_of proc w) other.proc 0 ≡ w = ap (λ n. get_or (set set_of proc w) n 0) e ∙ get_or-set_same set_of proc w 0 l in
          elim (cases_eq other.piece piece) [
            | inl f ↦ (let there : (other.piece == piece) ≡ true = grind (arith, nat_tests) in
                ap (λ v. bit_at v other.piece == 1) here ∙ ap (λ k. bit_at w k == 1) f ∙ ap (λ b. b == 1) (bit_at_set_same w16 (get_or set_of proc 0) piece m)
                ∙ more (holds set_of other) (other.proc == proc) (other.piece == piece) yes there)
            | inr n ↦ (let other_bit : (other.piece == piece) ≡ false = grind (arith, nat_tests) in
                ap (λ v. bit_at v other.piece == 1) here ∙ ap (λ b. b == 1) (bit_at_set_other w16 (get_or set_of proc 0) piece m other.piece n)
                ∙ ap (λ p. bit_at (get_or set_of p 0) other.piece == 1) (sym e)
                ∙ not_more_in (holds set_of other) (other.proc == proc) (other.piece == piece) other_bit)
          ])
    ]

-- ---- the pieces of two sets

or_of_bits : (a b : ℕ) → a < 2 → b < 2 → (max a b == 1) ≡ ((a == 1) || (b == 1))
or_of_bits a b l m = grind (arith, nat_tests)

-- the words before a place are those of both, and the others those of the first
pub record AreUnited (one other all : List ℕ) (at : ℕ) : Type 0 where
  pub long : length all ≡ length one
  pub before : (p : ℕ) → p < at → word all p ≡ bit_or (word one p) (word other p)
  pub behind : (p : ℕ) → at ≤ p → word all p ≡ word one p

pub united_more : (one other all : List ℕ) (at : ℕ) → at < length all → AreUnited one other all at → AreUnited one other (set all at (bit_or (get_or one at 0) (get_or other at 0))) (at + 1)
united_more one other all at l h =
    let w = bit_or (get_or one at 0) (get_or other at 0) in
    record {
      long = length-set all at w ∙ h.long;
      before = λ p m. elim (cases_eq p at) [
        | inl e ↦ ap (λ n. get_or (set all at w) n 0) e ∙ get_or-set_same all at w 0 l ∙ ap (λ n. bit_or (word one n) (word other n)) (sym e)
        | inr n ↦ get_or-set_other all at p w 0 n ∙ h.before p (omega arith)
      ];
      behind = λ p m. get_or-set_other all at p w 0 (λ e. absurd (omega arith)) ∙ h.behind p (omega arith);
    }

pub united_all : (one other all : List ℕ) (at : ℕ) → length other ≤ at → AreUnited one other all at → (id : PieceId) → holds all id ≡ (holds one id || holds other id)
united_all one other all at l h id =
    elim (cases_lt id.proc at) [
      | inl m ↦ ap (λ w. bit_at w id.piece == 1) (h.before id.proc m) ∙ ap (λ b. b == 1) (bit_at_or (word one id.proc) (word other id.proc) id.piece)
          ∙ or_of_bits _ _ (bit_at-lt (word one id.proc) id.piece) (bit_at-lt (word other id.proc) id.piece)
      | inr m ↦ (let none : holds other id ≡ false = ap (λ w. bit_at w id.piece == 1) (get_or_past other id.proc 0 (omega arith)) ∙ ap (λ b. b == 1) (bit_at-zero id.piece) in
          ap (λ w. bit_at w id.piece == 1) (h.behind id.proc m) ∙ or_none (holds one id) (holds other id) none)
    ]
  where
    or_none : (x y : Bool) → y ≡ false → x ≡ (x || y)
    or_none x y e = grind (arith, nat_tests)

-- ---- a word has no bit from its width on

pub none_above : (w piece : ℕ) → w < 65536 → 16 ≤ piece → (bit_at w piece == 1) ≡ false
none_above w piece l m = ap (λ b. b == 1) (bit_at_above w 16 piece l m)
