-- Groups in turn: where they stand is where all their pieces so far would stand
use Rattle.std.proofs.Common.{◌≡◌, ℕ, Bool, true, false, ◌||◌, List, [], ◌∷◌, ◌++◌, length, refl, sym, ◌∙◌}
use Rattle.std.proofs.lemmas.Bool.{false≢true, or_left, or_right}
use Rattle.roc_rows.specs.declared.cell.Cell.{Cell}
use Rattle.roc_program.specs.Program.{Piece}
use Rattle.roc_program.specs.Values.{value_of_name}
use Rattle.roc_whole.specs.Run.{Progress, after_piece}
use Rattle.roc_group.proofs.Touches.{binds_in, known_in, binds_any, knows_any}
use Rattle.roc_group.proofs.Alike.{Alike, alike_piece}
use Rattle.roc_law_groups.proofs.Commuting.{then_piece, stays_value, stays_long}
use Rattle.roc_law_groups.proofs.Moving.{run_all, spoken}

module _ (at : ℕ → Piece) where
  pub run_long : (p : Progress) (ks : List ℕ) → length (run_all at p ks).environment ≡ length p.environment
  run_long p [] = refl
  run_long p (k ∷ ks) = run_long (then_piece p (at k)) ks ∙ stays_long p (at k)

  -- a name that none of them binds keeps its value
  pub run_value : (p : Progress) (ks : List ℕ) (n : ℕ) → binds_any at ks n ≡ false → value_of_name (run_all at p ks).environment n ≡ value_of_name p.environment n
  run_value p [] n e = refl
  run_value p (k ∷ ks) n e = parts (binds_in (at k) n) refl e (run_value (then_piece p (at k)) ks n)
    where
      parts : (b : Bool) → binds_in (at k) n ≡ b → (b || binds_any at ks n) ≡ false
          → (binds_any at ks n ≡ false → value_of_name (run_all at (then_piece p (at k)) ks).environment n ≡ value_of_name (then_piece p (at k)).environment n)
          → value_of_name (run_all at (then_piece p (at k)) ks).environment n ≡ value_of_name p.environment n
      parts true f e ih = absurd (false≢true (sym e))
      parts false f e ih = ih e ∙ stays_value p (at k) n f

  -- all cells
  abbrev everywhere : Cell → Bool
  everywhere c = true

  -- pieces do the same where they know the same, with the same cells
  pub record DoAlike (names : ℕ → Bool) (p q : Progress) (ks : List ℕ) : Type 0 where
    pub end : Alike names everywhere (run_all at p ks) (run_all at q ks)
    pub words : spoken at p ks ≡ spoken at q ks

  pub do_alike : (names : ℕ → Bool) (p q : Progress) (ks : List ℕ) → ((n : ℕ) → knows_any at ks n ≡ true → names n ≡ true) → Alike names everywhere p q → DoAlike names p q ks
  do_alike names p q [] f a = record { end = a; words = refl }
  do_alike names p q (k ∷ ks) f a =
      let one : Alike names everywhere (after_piece p (at k)) (after_piece q (at k)) =
      alike_piece names everywhere p q (at k) (λ n h. f n (or_left (known_in (at k) n) (knows_any at ks n) h)) (λ c h. refl) a in
      let rest = do_alike names (then_piece p (at k)) (then_piece q (at k)) ks (λ n h. f n (or_right (known_in (at k) n) (knows_any at ks n) h))
      (record { long = one.long; values = one.values; numbers = one.numbers; said = refl }) in
      record { end = rest.end; words = λ i. one.said i ++ rest.words i }
