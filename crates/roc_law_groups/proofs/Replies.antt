-- What the pieces say, piece by piece, and its places in the reply
use Rattle.std.proofs.Common.{◌≡◌, ℕ, zero, suc, ◌+◌, ℤ, pos, ◌==◌, if◌then◌else◌, List, [], ◌∷◌, ◌++◌, length, map, get_or, refl, sym, ap, subst, ◌∙◌, arith, append-nil, inl, inr}
use Rattle.std.specs.List.{flat_map, filter_map, range_with_len}
use Rattle.std.proofs.lemmas.Bool.{eq-eqb, eqb-true}
use Rattle.roc_sequence.specs.Lists.{Has}
use Rattle.roc_program.specs.Program.{Piece}
use Rattle.roc_program.specs.Values.{value}
use Rattle.roc_program.specs.Names.{output, outputs}
use Rattle.roc_whole.specs.Run.{Progress, after_piece}
use Rattle.roc_whole.proofs.Replied.{body_long}
use Rattle.roc_group.proofs.Touches.{not_true}
use Rattle.roc_law_groups.proofs.Commuting.{then_piece}
use Rattle.roc_law_groups.proofs.Moving.{run_all, spoken, said_by}

-- ---- how much a piece says

pub piece_long : (p : Progress) (piece : Piece) → p.reply ≡ [] → length (after_piece p piece).reply ≡ length (outputs (piece ∷ []))
piece_long p piece e =
    let r = body_long (value piece.place p.environment) p piece.body in
    let l = ap (λ (xs : List ℤ). length xs) e in
    let one = ap (λ (xs : List _). length xs) (append-nil (filter_map output piece.body)) in
    omega (arith, r, l, one)

module _ (at : ℕ → Piece) where
  -- ---- pieces in a longer list

  pub said_behind : (p : Progress) (js ks : List ℕ) (k : ℕ) → ¬ Has k js → said_by at p (js ++ ks) k ≡ said_by at (run_all at p js) ks k
  said_behind p [] ks k none = refl
  said_behind p (j ∷ js) ks k none =
      ap (λ b. if b then (after_piece p (at j)).reply else said_by at (then_piece p (at j)) (js ++ ks) k) (not_true (j == k) (λ e. none (inl (sym (eqb-true j k e)))))
      ∙ said_behind (then_piece p (at j)) js ks k (λ h. none (inr h))

  -- each but once
  abbrev pub Distinct : List ℕ → Type 0
  Distinct [] = Unit {0}
  Distinct (k ∷ ks) = (¬ Has k ks) × Distinct ks

  pub same_said_each : (f g : ℕ → List ℤ) (ks : List ℕ) → ((k : ℕ) → Has k ks → f k ≡ g k) → flat_map f ks ≡ flat_map g ks
  same_said_each f g [] h = refl
  same_said_each f g (k ∷ ks) h = let one = h k (inl refl) in let rest = same_said_each f g ks (λ j i. h j (inr i)) in λ i. one i ++ rest i

  pub spoken_each : (p : Progress) (ks more : List ℕ) → Distinct ks → spoken at p ks ≡ flat_map (said_by at p (ks ++ more)) ks
  spoken_each p [] more d = refl
  spoken_each p (k ∷ ks) more d =
      let here : (after_piece p (at k)).reply ≡ said_by at p (k ∷ (ks ++ more)) k = ap (λ b. if b then (after_piece p (at k)).reply else said_by at (then_piece p (at k)) (ks ++ more) k) (sym (eq-eqb k k refl)) in
      let rest = spoken_each (then_piece p (at k)) ks more d.1 in
      let later = same_said_each (said_by at (then_piece p (at k)) (ks ++ more)) (said_by at p (k ∷ (ks ++ more))) ks (λ j h.
      sym (ap (λ b. if b then (after_piece p (at k)).reply else said_by at (then_piece p (at k)) (ks ++ more) j) (not_true (k == j) (λ e. d.0 (subst (λ x. Has x ks) (sym (eqb-true k j e)) h))))) in
      λ i. here i ++ (rest ∙ later) i

  -- what several groups say, each among all the pieces in turn
  pub spoken_among : (p : Progress) (before ks more : List ℕ) → Distinct ks → ((k : ℕ) → Has k ks → ¬ Has k before) → spoken at (run_all at p before) ks ≡ flat_map (said_by at p (before ++ (ks ++ more))) ks
  spoken_among p before ks more d apart =
      spoken_each (run_all at p before) ks more d
      ∙ same_said_each (said_by at (run_all at p before) (ks ++ more)) (said_by at p (before ++ (ks ++ more))) ks (λ k h. sym (said_behind p before (ks ++ more) k (apart k h)))

-- ---- places in the reply

abbrev pub slice : List ℤ → ℕ → ℕ → List ℤ
slice reply from count = map (λ k. get_or reply k (pos 0)) (range_with_len from count)

slice_next : (x : ℤ) (ys : List ℤ) (from at count : ℕ) → at ≡ suc from → slice (x ∷ ys) at count ≡ slice ys from count
slice_next x ys from at zero e = refl
slice_next x ys from at (suc count) e =
    let here : get_or (x ∷ ys) at (pos 0) ≡ get_or ys from (pos 0) = ap (λ k. get_or (x ∷ ys) k (pos 0)) e in
    let rest = slice_next x ys (from + 1) (at + 1) count (omega (arith, e)) in
    λ i. here i ∷ rest i

pub slice_skip : (xs ys : List ℤ) (from at count : ℕ) → at ≡ length xs + from → slice (xs ++ ys) at count ≡ slice ys from count
slice_skip [] ys from at count e = let same : at ≡ from = omega (arith, e) in ap (λ k. slice ys k count) same
slice_skip (x ∷ xs) ys from at count e = slice_next x (xs ++ ys) (length xs + from) at count (omega (arith, e)) ∙ slice_skip xs ys from (length xs + from) count refl

pub slice_front : (xs ys : List ℤ) → slice (xs ++ ys) 0 (length xs) ≡ xs
slice_front [] ys = refl
slice_front (x ∷ xs) ys = ap (λ zs. x ∷ zs) (slice_next x (xs ++ ys) 0 1 (length xs) (omega arith) ∙ slice_front xs ys)
