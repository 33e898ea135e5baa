-- Two pieces that touch nothing of one another may run in either order
use Rattle.std.proofs.Common.{◌≡◌, ℕ, pos, Bool, true, false, [], length, refl, sym, ◌∙◌}
use Rattle.roc_rows.specs.declared.cell.Cell.{Cell}
use Rattle.roc_rows.specs.Store.{read}
use Rattle.roc_rows.proofs.Stored.{same_store}
use Rattle.roc_program.specs.Program.{Piece}
use Rattle.roc_program.specs.Values.{Environment, value_of_name, value}
use Rattle.roc_whole.specs.Run.{Progress, progress, after_piece}
use Rattle.roc_merge_groups.proofs.Elements.{same_at_each}
use Rattle.roc_group.proofs.Touches.{touches, writes, binds_in, known_in, untouched, unknown}
use Rattle.roc_group.proofs.Alike.{Alike, alike_piece, kept_number, kept_value, kept_long}

-- neither writes a column that the other accesses, nor binds a name that the other uses or binds
pub record AreIndependent (x y : Piece) : Type 0 where
  pub columns : (c : Cell) → touches y c ≡ true → writes x c ≡ false
  pub other_columns : (c : Cell) → touches x c ≡ true → writes y c ≡ false
  pub names : (n : ℕ) → known_in y n ≡ true → binds_in x n ≡ false
  pub other_names : (n : ℕ) → known_in x n ≡ true → binds_in y n ≡ false

-- where a run stands, with nothing said yet
abbrev pub quiet : Progress → Progress
quiet p = progress p.store p.environment []

abbrev pub then_piece : Progress → Piece → Progress
then_piece p x = quiet (after_piece p x)

-- ---- what stays

pub stays_number : (p : Progress) (x : Piece) (c : Cell) → writes x c ≡ false → read (after_piece p x).store c ≡ read p.store c
stays_number p x c e = kept_number (value x.place p.environment) p x.body c e

pub stays_value : (p : Progress) (x : Piece) (n : ℕ) → binds_in x n ≡ false → value_of_name (after_piece p x).environment n ≡ value_of_name p.environment n
stays_value p x n e = kept_value (value x.place p.environment) p x.body n e

pub stays_long : (p : Progress) (x : Piece) → length (after_piece p x).environment ≡ length p.environment
stays_long p x = kept_long (value x.place p.environment) p x.body

-- ---- what is the same

pub same_values : (xs ys : Environment) → length xs ≡ length ys → ((n : ℕ) → value_of_name xs n ≡ value_of_name ys n) → xs ≡ ys
same_values xs ys l h = same_at_each xs ys (pos 0) l (λ i k. h i)

-- one that runs second does what it does first
does_alike : (p : Progress) (x y : Piece) → p.reply ≡ [] → ((c : Cell) → touches y c ≡ true → writes x c ≡ false) → ((n : ℕ) → known_in y n ≡ true → binds_in x n ≡ false)
    → Alike (known_in y) (touches y) (after_piece p y) (after_piece (then_piece p x) y)
does_alike p x y e columns names =
    alike_piece (known_in y) (touches y) p (then_piece p x) y (λ n k. k) (λ c k. k)
    (record {
      long = sym (stays_long p x);
      values = λ n k. sym (stays_value p x n (names n k));
      numbers = λ c k. sym (stays_number p x c (columns c k));
      said = e;
    })

-- a value that only one of two changes is the same in either order: p before both, px and py after one, pxy and pyx after both
either_way : {A : Type 0} (ty tx : Bool) (p px py pxy pyx : A) → (ty ≡ true → (pxy ≡ py) × (pyx ≡ py)) → (ty ≡ false → (pxy ≡ px) × (py ≡ p)) → (tx ≡ true → pyx ≡ px) → (tx ≡ false → (px ≡ p) × (pyx ≡ py)) → pxy ≡ pyx
either_way true tx p px py pxy pyx f g h k = (f refl).0 ∙ sym (f refl).1
either_way false true p px py pxy pyx f g h k = (g refl).0 ∙ sym (h refl)
either_way false false p px py pxy pyx f g h k = ((g refl).0 ∙ (k refl).0) ∙ sym ((k refl).1 ∙ (g refl).1)

module _ (p : Progress) (x y : Piece) (none : p.reply ≡ []) (apart : AreIndependent x y) where
  first_y : Alike (known_in y) (touches y) (after_piece p y) (after_piece (then_piece p x) y)
  first_y = does_alike p x y none apart.columns apart.names

  first_x : Alike (known_in x) (touches x) (after_piece p x) (after_piece (then_piece p y) x)
  first_x = does_alike p y x none apart.other_columns apart.other_names

  -- what the second one says is what it says first
  pub says_alike : (after_piece (then_piece p x) y).reply ≡ (after_piece p y).reply
  says_alike = sym first_y.said

  pub says_alike_first : (after_piece (then_piece p y) x).reply ≡ (after_piece p x).reply
  says_alike_first = sym first_x.said

  stores : (after_piece (then_piece p x) y).store ≡ (after_piece (then_piece p y) x).store
  stores = same_store _ _ (λ c.
      either_way (touches y c) (touches x c) (read p.store c) (read (after_piece p x).store c) (read (after_piece p y).store c) (read (after_piece (then_piece p x) y).store c) (read (after_piece (then_piece p y) x).store c)
      (λ t. (sym (first_y.numbers c t), stays_number (then_piece p y) x c (apart.columns c t)))
      (λ f. (stays_number (then_piece p x) y c (untouched y c f), stays_number p y c (untouched y c f)))
      (λ t. sym (first_x.numbers c t))
      (λ f. (stays_number p x c (untouched x c f), stays_number (then_piece p y) x c (untouched x c f))))

  environments : (after_piece (then_piece p x) y).environment ≡ (after_piece (then_piece p y) x).environment
  environments = same_values _ _ (stays_long (then_piece p x) y ∙ stays_long p x ∙ sym (stays_long (then_piece p y) x ∙ stays_long p y)) (λ n.
      either_way (known_in y n) (known_in x n) (value_of_name p.environment n) (value_of_name (after_piece p x).environment n) (value_of_name (after_piece p y).environment n) (value_of_name (after_piece (then_piece p x) y).environment n) (value_of_name (after_piece (then_piece p y) x).environment n)
      (λ t. (sym (first_y.values n t), stays_value (then_piece p y) x n (apart.names n t)))
      (λ f. (stays_value (then_piece p x) y n (unknown y n f), stays_value p y n (unknown y n f)))
      (λ t. sym (first_x.values n t))
      (λ f. (stays_value p x n (unknown x n f), stays_value (then_piece p y) x n (unknown x n f))))

  -- the order of the two does not matter
  pub commute : then_piece (then_piece p x) y ≡ then_piece (then_piece p y) x
  commute = λ i. progress (stores i) (environments i) []
