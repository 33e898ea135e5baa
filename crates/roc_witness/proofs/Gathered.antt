-- Conflicts, by the columns of each piece
use Rattle.std.proofs.Common.{◌≡◌, ℕ, ◌+◌, ◌*◌, ◌<◌, Bool, false, ◌&&◌, ◌||◌, ◌==◌, List, [], ◌∷◌, ◌++◌, length, map, get_or, refl, sym, ap, subst, ◌∙◌, ◌%◌, inl, inr, arith}
use Rattle.std.proofs.lemmas.List.FromFn.{get_or-map-range_with_len, length-map-range_with_len}
use Rattle.std.specs.List.{AllByRecursion, list_any, range_with_len}
use Rattle.roc_program.specs.Program.{Access, Expression, Statement, Get, Set, Out, Table, Piece, Workload}
use Rattle.roc_program.specs.LookUps.{no_piece, no_procedure, no_table}
use Rattle.roc_program.specs.Pieces.{piece_of, pieces_in}
use Rattle.roc_program.specs.Conflict.{is_same_column, collide, are_in_conflict, exposed}
use Rattle.roc_program.specs.WellFormed.{IsTable, IsColumn, IsBody, ArePieces, IsProcedure, IsProgram, known_behind}
use Rattle.roc_program.specs.Parts as view
use Rattle.roc_program.specs.declared.parts.Statement as code
use Rattle.roc_program.specs.declared.piece_id.PieceId.{PieceId}
use Rattle.roc_program.proofs.Conflicts.{in_conflict_exposed}
use Rattle.roc_program.proofs.Ranges.{map_pushed}
use Rattle.roc_conflict.proofs.Present.{present_or_none}
use Rattle.roc_sequence.proofs.Holds.{all_at, any_seen}
use Rattle.roc_witness.specs.declared.columns.Columns.{Columns}
use Rattle.roc_witness.specs.Inner.Columns.{column_of, is_at, touches, writes, marks, gathered_columns, collides, AreColumns}
use Rattle.roc_witness.specs.Inner.Table.{numbered_piece}
use Rattle.roc_witness.proofs.Joined.{quotient, remainder}
use Rattle.roc_conflict.proofs.Declared.{in_exposed}

any_same : {A : Type 0} (p q : A → Bool) → ((x : A) → p x ≡ q x) → (xs : List A) → list_any p xs ≡ list_any q xs
any_same p q same [] = refl
any_same p q same (x ∷ xs) = ap (λ b. b || list_any p xs) (same x) ∙ ap (λ b. q x || b) (any_same p q same xs)

-- one more mark
pub mark_pushed : (test : ℕ → Statement → Bool) (body : List code.Statement) (xs ys : List Bool) (mark : Bool) (n : ℕ) → ys ≡ xs ++ mark ∷ [] → xs ≡ marks test (map view.statement body) n
    → mark ≡ list_any (λ s. test n (view.statement s)) body → ys ≡ marks test (map view.statement body) (n + 1)
mark_pushed test body xs ys mark n e h m =
    map_pushed [] xs ys (λ k. list_any (test k) (map view.statement body)) n
    (e ∙ ap (λ (b : Bool). xs ++ b ∷ []) (m ∙ sym (any_seen (test n) view.statement body))) h

-- ---- columns that are declared

abbrev InTables : List Table → Statement → Type 0
InTables tables (Get number a) = (a.table < length tables) × (a.column < 16)
InTables tables (Set a value) = (a.table < length tables) × (a.column < 16)
InTables tables (Out value) = Unit {0}

module _ (tables : List Table) (formed : AllByRecursion IsTable tables) where
  declared : (table integers column : ℕ) → IsColumn tables table integers column → (table < length tables) × (column < 16)
  declared table integers column is = (is.has_table, let t = all_at IsTable tables table no_table formed is.has_table in omega (arith, is.has_column, t.columns))

  in_body : (known own : List ℕ) (body : List Statement) → IsBody tables known own body → AllByRecursion (InTables tables) body
  in_body known own [] h = tt
  in_body known own (Get number a ∷ body) h = (declared a.table (length a.id) a.column h.0.column, in_body known (own ++ number ∷ []) body h.1)
  in_body known own (Set a value ∷ body) h = (declared a.table (length a.id) a.column h.0.column, in_body known own body h.2)
  in_body known own (Out value ∷ body) h = (tt, in_body known own body h.1)

  in_pieces : (known : List ℕ) (pieces : List Piece) → ArePieces tables known pieces → AllByRecursion (λ p. AllByRecursion (InTables tables) p.body) pieces
  in_pieces known [] h = tt
  in_pieces known (p ∷ pieces) h = (in_body known [] p.body h.0.body, in_pieces (known_behind known p) pieces h.1)

in_piece : (program : Workload) → IsProgram program → (id : PieceId) → AllByRecursion (InTables program.tables) (piece_of program id).body
in_piece program formed id =
    elim (present_or_none program id) [
      | inr e ↦ subst (λ (p : Piece). AllByRecursion (InTables program.tables) p.body) (sym e) tt
      | inl there ↦
          (let one : IsProcedure program.tables (get_or program.procedures id.proc no_procedure) = all_at (IsProcedure program.tables) program.procedures id.proc no_procedure formed.procedures there.procedure in
          all_at (λ p. AllByRecursion (InTables program.tables) p.body) (pieces_in program id.proc) id.piece no_piece (in_pieces program.tables formed.tables (range_with_len 0 _) (pieces_in program id.proc) one.pieces) there.piece)
    ]

-- ---- a mark tells a collision

at_column : (a b : Access) → a.column < 16 → is_at (column_of a) b ≡ is_same_column a b
at_column a b small =
    ap (λ (n : ℕ). (n == b.table) && ((16 * a.table + a.column) % 16 == b.column)) (quotient a.table a.column small)
    ∙ ap (λ (n : ℕ). (a.table == b.table) && (n == b.column)) (remainder a.table a.column small)

writes_collide : (number : ℕ) (a : Access) → a.column < 16 → (s : Statement) → writes (column_of a) s ≡ collide (Get number a) s
writes_collide number a small (Get m b) = refl
writes_collide number a small (Set b value) = at_column a b small
writes_collide number a small (Out value) = refl

touches_collide : (a : Access) (value : Expression) → a.column < 16 → (s : Statement) → touches (column_of a) s ≡ collide (Set a value) s
touches_collide a value small (Get m b) = at_column a b small
touches_collide a value small (Set b v) = at_column a b small
touches_collide a value small (Out v) = refl

none_collide : (value : Expression) (ts : List Statement) → false ≡ list_any (collide (Out value)) ts
none_collide value [] = refl
none_collide value (t ∷ ts) = none_collide value ts

module _ (program : Workload) (id : PieceId) where
  abbrev body : List Statement
  body = exposed program id

  mark_at : (test : ℕ → Statement → Bool) (a : Access) → a.table < length program.tables → a.column < 16 → get_or (marks test body (16 * length program.tables)) (column_of a) false ≡ list_any (test (column_of a)) body
  mark_at test a table column = get_or-map-range_with_len (λ n. list_any (test n) body) 0 (16 * length program.tables) (column_of a) (column_of a) false (omega arith) (omega arith)

  collides_is : (s : Statement) → InTables program.tables s → collides (gathered_columns program id) s ≡ list_any (collide s) body
  collides_is (Get number a) h = mark_at writes a h.0 h.1 ∙ any_same (writes (column_of a)) (collide (Get number a)) (writes_collide number a h.1) body
  collides_is (Set a value) h = mark_at touches a h.0 h.1 ∙ any_same (touches (column_of a)) (collide (Set a value)) (touches_collide a value h.1) body
  collides_is (Out value) h = none_collide value body

  each_collides : (ss : List Statement) → AllByRecursion (InTables program.tables) ss → list_any (collides (gathered_columns program id)) ss ≡ list_any (λ s. list_any (collide s) body) ss
  each_collides [] h = refl
  each_collides (s ∷ ss) h =
      ap (λ b. b || list_any (collides (gathered_columns program id)) ss) (collides_is s h.0) ∙ ap (λ b. list_any (collide s) body || b) (each_collides ss h.1)

  pub conflict_is : IsProgram program → (one : PieceId) (statements : List code.Statement) (columns : Columns) (r : Bool) → columns ≡ gathered_columns program id → map view.statement statements ≡ exposed program one
      → r ≡ list_any (λ s. collides columns (view.statement s)) statements → r ≡ are_in_conflict program one id
  conflict_is formed one statements columns r known is h =
      h ∙ sym (any_seen (collides columns) view.statement statements) ∙ ap (list_any (collides columns)) is
      ∙ ap (λ (c : Columns). list_any (collides c) (exposed program one)) known ∙ each_collides (exposed program one) (in_exposed program formed one)
      ∙ sym (in_conflict_exposed program one id)

-- ---- those of all pieces

pub column_at : (program : Workload) (all : List Columns) (i : ℕ) (x : Columns) → AreColumns program all → i < length all → x ≡ get_or all i x → x ≡ gathered_columns program (numbered_piece i)
column_at program all i x are within is =
    is ∙ ap (λ (l : List Columns). get_or l i x) are ∙ get_or-map-range_with_len (λ n. gathered_columns program (numbered_piece n)) 0 (length all) i i x within (omega arith)

-- the columns that are read are those of the piece that they name
pub own_columns : (program : Workload) (id : PieceId) (x : Columns) → x ≡ gathered_columns program id → x ≡ gathered_columns program x.piece
own_columns program id x e = e ∙ ap (gathered_columns program) (sym (ap (λ (c : Columns). c.piece) e))

pub how_many : (program : Workload) (all : List Columns) (n : ℕ) → all ≡ map (λ k. gathered_columns program (numbered_piece k)) (range_with_len 0 n) → length all ≡ n
how_many program all n e = ap (λ (l : List Columns). length l) e ∙ length-map-range_with_len (λ k. gathered_columns program (numbered_piece k)) 0 n

pub are_columns : (program : Workload) (all : List Columns) (n : ℕ) → all ≡ map (λ k. gathered_columns program (numbered_piece k)) (range_with_len 0 n) → AreColumns program all
are_columns program all n e =
    e ∙ ap (λ (m : ℕ). map (λ k. gathered_columns program (numbered_piece k)) (range_with_len 0 m)) (sym (how_many program all n e))
