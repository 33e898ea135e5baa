-- Runs from stores and names that agree on what a piece touches
use Rattle.std.proofs.Common.{◌≡◌, ℕ, zero, suc, ℤ, pos, Bool, true, false, ◌&&◌, ◌||◌, ◌==◌, if◌then◌else◌, List, [], ◌∷◌, ◌++◌, length, map, get_or, slice_set, refl, sym, ap, subst, ◌∙◌, arith}
use Rattle.std.specs.List.{list_any, AllByRecursion}
use Rattle.std.proofs.lemmas.Bool.{false≢true, eq-eqb, or_left, or_right, or_parts}
use Rattle.std.proofs.lemmas.List.{length-set, get_or-set_other}
use Rattle.roc_rows.specs.declared.cell.Cell.{Cell}
use Rattle.roc_rows.specs.Cells.{is_cell}
use Rattle.roc_rows.specs.Store.{Store, read, write}
use Rattle.roc_rows.proofs.Stored.{read-write}
use Rattle.roc_program.specs.Program.{Expression, Access, Statement, Get, Set, Out, Piece}
use Rattle.roc_program.specs.Values.{Environment, value_of_name, value}
use Rattle.roc_program.specs.Names.{uses, id_uses}
use Rattle.roc_program.proofs.ValueLaws.{value_same}
use Rattle.roc_whole.specs.Run.{Progress, access_cell, after_statement, after_statements, after_piece}
use Rattle.roc_group.proofs.Touches.{is_of, accesses, may_write, binds, knows, touches, known_in}

-- the two agree on these names and cells, and have said the same
pub record Alike (names : ℕ → Bool) (cells : Cell → Bool) (p q : Progress) : Type 0 where
  pub long : length p.environment ≡ length q.environment
  pub values : (n : ℕ) → names n ≡ true → value_of_name p.environment n ≡ value_of_name q.environment n
  pub numbers : (c : Cell) → cells c ≡ true → read p.store c ≡ read q.store c
  pub said : p.reply ≡ q.reply

-- ---- values

keys_same : (es : List Expression) (xs ys : Environment) → ((n : ℕ) → list_any (λ e. uses e n) es ≡ true → value_of_name xs n ≡ value_of_name ys n) → map (λ e. value e xs) es ≡ map (λ e. value e ys) es
keys_same [] xs ys h = refl
keys_same (e ∷ es) xs ys h =
    let one : value e xs ≡ value e ys = value_same e xs ys (λ n u. h n (or_left (uses e n) (list_any (λ e. uses e n) es) u)) in
    let rest = keys_same es xs ys (λ n u. h n (or_right (uses e n) (list_any (λ e. uses e n) es) u)) in
    cc

cell_same : (place : ℤ) (a : Access) (xs ys : Environment) → ((n : ℕ) → id_uses a n ≡ true → value_of_name xs n ≡ value_of_name ys n) → access_cell place xs a ≡ access_cell place ys a
cell_same place a xs ys h = ap (λ (k : List ℤ). record { table = a.table; place = place; id = k; column = a.column }) (keys_same a.id xs ys h)

of_itself : (place : ℤ) (a : Access) (env : Environment) → is_of a (access_cell place env a) ≡ true
of_itself place a env = subst (λ b. (b && (a.column == a.column)) ≡ true) (sym (eq-eqb a.table a.table refl)) (eq-eqb a.column a.column refl)

set_alike : (xs ys : List ℤ) (n m : ℕ) (v : ℤ) → length xs ≡ length ys → get_or xs m (pos 0) ≡ get_or ys m (pos 0) → get_or (slice_set xs n v) m (pos 0) ≡ get_or (slice_set ys n v) m (pos 0)
set_alike [] [] n m v l h = refl
set_alike [] (y ∷ ys) n m v l h = absurd (omega arith)
set_alike (x ∷ xs) [] n m v l h = absurd (omega arith)
set_alike (x ∷ xs) (y ∷ ys) zero zero v l h = refl
set_alike (x ∷ xs) (y ∷ ys) zero (suc m) v l h = h
set_alike (x ∷ xs) (y ∷ ys) (suc n) zero v l h = h
set_alike (x ∷ xs) (y ∷ ys) (suc n) (suc m) v l h = set_alike xs ys n m v (omega arith) h

-- ---- runs

module _ (names : ℕ → Bool) (cells : Cell → Bool) where
  -- a statement stays within the names and cells
  pub record Stays (s : Statement) : Type 0 where
    pub names_in : (n : ℕ) → knows s n ≡ true → names n ≡ true
    pub cells_in : (c : Cell) → accesses s c ≡ true → cells c ≡ true

  write_alike : (s t : Store) (c : Cell) (v : ℤ) (d : Cell) → read s d ≡ read t d → read (write s c v) d ≡ read (write t c v) d
  write_alike s t c v d h = read-write s c v d ∙ ap (λ x. if is_cell c d then v else x) h ∙ sym (read-write t c v d)

  alike_step : (place : ℤ) (p q : Progress) (s : Statement) → Stays s → Alike names cells p q → Alike names cells (after_statement place p s) (after_statement place q s)
  alike_step place p q (Get number from) stays a =
      let same = cell_same place from p.environment q.environment (λ n u. a.values n (stays.names_in n (or_left (id_uses from n) (number == n) u))) in
      let c = access_cell place q.environment from in
      let v : read p.store (access_cell place p.environment from) ≡ read q.store c = ap (read p.store) same ∙ a.numbers c (stays.cells_in c (of_itself place from q.environment)) in
      record {
        long = length-set p.environment number _ ∙ a.long ∙ sym (length-set q.environment number _);
        values = λ n k. ap (λ x. get_or (slice_set p.environment number x) n (pos 0)) v ∙ set_alike p.environment q.environment number n (read q.store c) a.long (a.values n k);
        numbers = a.numbers;
        said = a.said;
      }
  alike_step place p q (Set to e) stays a =
      let same = cell_same place to p.environment q.environment (λ n u. a.values n (stays.names_in n (or_left (id_uses to n || uses e n) false (or_left (id_uses to n) (uses e n) u)))) in
      let v : value e p.environment ≡ value e q.environment = value_same e p.environment q.environment (λ n u. a.values n (stays.names_in n (or_left (id_uses to n || uses e n) false (or_right (id_uses to n) (uses e n) u)))) in
      record {
        long = a.long;
        values = a.values;
        numbers = λ d k.
            ap (λ c. read (write p.store c (value e p.environment)) d) same
            ∙ ap (λ x. read (write p.store (access_cell place q.environment to) x) d) v
            ∙ write_alike p.store q.store (access_cell place q.environment to) (value e q.environment) d (a.numbers d k);
        said = a.said;
      }
  alike_step place p q (Out e) stays a =
      let v : value e p.environment ≡ value e q.environment = value_same e p.environment q.environment (λ n u. a.values n (stays.names_in n (or_left (uses e n) false u))) in
      record { long = a.long; values = a.values; numbers = a.numbers; said = ap (λ r. r ++ value e p.environment ∷ []) a.said ∙ ap (λ x. q.reply ++ x ∷ []) v }

  pub alike_steps : (place : ℤ) (p q : Progress) (ss : List Statement) → AllByRecursion Stays ss → Alike names cells p q → Alike names cells (after_statements place p ss) (after_statements place q ss)
  alike_steps place p q [] stays a = a
  alike_steps place p q (s ∷ ss) stays a = alike_steps place (after_statement place p s) (after_statement place q s) ss stays.1 (alike_step place p q s stays.0 a)

  stays_all : (ss : List Statement) → ((n : ℕ) → list_any (λ s. knows s n) ss ≡ true → names n ≡ true) → ((c : Cell) → list_any (λ s. accesses s c) ss ≡ true → cells c ≡ true) → AllByRecursion Stays ss
  stays_all [] f g = tt
  stays_all (s ∷ ss) f g = (
    record { names_in = λ n k. f n (or_left (knows s n) (list_any (λ s. knows s n) ss) k); cells_in = λ c k. g c (or_left (accesses s c) (list_any (λ s. accesses s c) ss) k) },
    stays_all ss (λ n k. f n (or_right (knows s n) (list_any (λ s. knows s n) ss) k)) (λ c k. g c (or_right (accesses s c) (list_any (λ s. accesses s c) ss) k)),
  )

  -- a piece does the same where its names and columns are among these
  pub alike_piece : (p q : Progress) (piece : Piece) → ((n : ℕ) → known_in piece n ≡ true → names n ≡ true) → ((c : Cell) → touches piece c ≡ true → cells c ≡ true) → Alike names cells p q → Alike names cells (after_piece p piece) (after_piece q piece)
  alike_piece p q piece f g a =
      let at : value piece.place p.environment ≡ value piece.place q.environment =
      value_same piece.place p.environment q.environment (λ n u. a.values n (f n (or_left (uses piece.place n) (list_any (λ s. knows s n) piece.body) u))) in
      let stays = stays_all piece.body (λ n k. f n (or_right (uses piece.place n) (list_any (λ s. knows s n) piece.body) k)) g in
      subst (λ (x : ℤ). Alike names cells (after_statements x p piece.body) (after_piece q piece)) (sym at) (alike_steps (value piece.place q.environment) p q piece.body stays a)

-- ---- what stays

other_column : (p x y q : Bool) → (p && q) ≡ false → (p && (x && (y && q))) ≡ false
other_column false x y q e = refl
other_column true false y q e = refl
other_column true true false q e = refl
other_column true true true q e = e

other_cell : (place : ℤ) (env : Environment) (a : Access) (c : Cell) → is_of a c ≡ false → is_cell (access_cell place env a) c ≡ false
other_cell place env a c e = other_column (a.table == c.table) _ _ (a.column == c.column) e

pub kept_number : (place : ℤ) (p : Progress) (ss : List Statement) (c : Cell) → list_any (λ s. may_write s c) ss ≡ false → read (after_statements place p ss).store c ≡ read p.store c
kept_number place p [] c e = refl
kept_number place p (Get number from ∷ ss) c e = kept_number place (after_statement place p (Get number from)) ss c e
kept_number place p (Set to v ∷ ss) c e =
    let parts = or_parts (is_of to c) (list_any (λ s. may_write s c) ss) e in
    let d = access_cell place p.environment to in
    kept_number place (after_statement place p (Set to v)) ss c parts.1
    ∙ (read-write p.store d (value v p.environment) c ∙ ap (λ b. if b then value v p.environment else read p.store c) (other_cell place p.environment to c parts.0))
kept_number place p (Out v ∷ ss) c e = kept_number place (after_statement place p (Out v)) ss c e

pub kept_value : (place : ℤ) (p : Progress) (ss : List Statement) (n : ℕ) → list_any (λ s. binds s n) ss ≡ false → value_of_name (after_statements place p ss).environment n ≡ value_of_name p.environment n
kept_value place p [] n e = refl
kept_value place p (Get number from ∷ ss) n e =
    let parts = or_parts (number == n) (list_any (λ s. binds s n) ss) e in
    kept_value place (after_statement place p (Get number from)) ss n parts.1
    ∙ get_or-set_other p.environment number n (read p.store (access_cell place p.environment from)) (pos 0) (λ (same : n ≡ number). false≢true (sym parts.0 ∙ subst (λ m. (number == m) ≡ true) (sym same) (eq-eqb number number refl)))
kept_value place p (Set to v ∷ ss) n e = kept_value place (after_statement place p (Set to v)) ss n e
kept_value place p (Out v ∷ ss) n e = kept_value place (after_statement place p (Out v)) ss n e

pub kept_long : (place : ℤ) (p : Progress) (ss : List Statement) → length (after_statements place p ss).environment ≡ length p.environment
kept_long place p [] = refl
kept_long place p (Get number from ∷ ss) = kept_long place (after_statement place p (Get number from)) ss ∙ length-set p.environment number _
kept_long place p (Set to v ∷ ss) = kept_long place (after_statement place p (Set to v)) ss
kept_long place p (Out v ∷ ss) = kept_long place (after_statement place p (Out v)) ss
