-- Groups that use a cell in common are in static conflict where one of them writes it
use Rattle.std.proofs.Common.{◌≡◌, ℕ, ℤ, Bool, true, false, ◌&&◌, ◌||◌, ◌==◌, List, [], ◌∷◌, get_or, refl, sym, ap, subst, ◌∙◌, inl, inr}
use Rattle.std.specs.List.{list_any}
use Rattle.std.proofs.lemmas.Bool.{false≢true, eqb-true, eq-eqb, or_cases}
use Rattle.roc_sequence.specs.Lists.{Has}
use Rattle.roc_sequence.proofs.Holds.{any_has, has_any}
use Rattle.roc_sequence.proofs.Members.{has_append, from_has_map}
use Rattle.roc_rows.specs.declared.cell.Cell.{Cell}
use Rattle.roc_rows.specs.Cells.{is_cell}
use Rattle.roc_rows.specs.Store.{Store}
use Rattle.roc_rows.proofs.CellLaws.{is_cell-true}
use Rattle.roc_program.specs.Program.{Access as Column, Statement, Get, Set, Out, Piece}
use Rattle.roc_program.specs.LookUps.{no_piece}
use Rattle.roc_program.specs.Conflict.{collide, conflict, are_in_conflict}
use Rattle.roc_program.specs.Values.{Environment, value}
use Rattle.roc_program.proofs.Conflicts.{in_conflict_from}
use Rattle.roc_whole.specs.Run.{Progress, after_statement, after_piece}
use Rattle.roc_merge_groups.specs.Groups.{piece_numbered}
use Rattle.roc_plan.specs.Groups.{Plan, procedure_of, is_view_of, group_of}
use Rattle.roc_plan.specs.Turns.{may_meet}
use Rattle.roc_group.specs.declared.access.Access.{Access}
use Rattle.roc_group.specs.Accesses.{uses_of_body, uses_of_piece, uses_of_pieces, meets, do_conflict}
use Rattle.roc_group.specs.GroupRun.{GroupCall, begin, group_pieces, group_uses}
use Rattle.roc_group.proofs.Touches.{is_of, accesses, may_write}

-- where a use comes from: a statement that accesses its column, and may write it where the use writes
record IsUseOf (a : Access) (s : Statement) : Type 0 where
  accessed : accesses s a.cell ≡ true
  written : a.writes ≡ true → may_write s a.cell ≡ true

of_column : (place : ℤ) (env : Environment) (row : Column) (c : Cell) → c.table ≡ row.table → c.column ≡ row.column → is_of row c ≡ true
of_column place env row c t k = both (row.table == c.table) (row.column == c.column) (eq-eqb row.table c.table (sym t)) (eq-eqb row.column c.column (sym k))
  where
    both : (a b : Bool) → a ≡ true → b ≡ true → (a && b) ≡ true
    both a b e f = cc

from_body : (place : ℤ) (p : Progress) (ss : List Statement) (a : Access) → Has a (uses_of_body place p ss) → (s : Statement) × Has s ss × IsUseOf a s
from_body place p [] a h = absurd h
from_body place p (Get number from ∷ ss) a (inl e) =
    (Get number from, inl refl, record { accessed = of_column place p.environment from a.cell (ap (λ (x : Access). x.cell.table) e) (ap (λ (x : Access). x.cell.column) e); written = λ w. absurd (false≢true (sym (ap (λ (x : Access). x.writes) e) ∙ w)) })
from_body place p (Get number from ∷ ss) a (inr h) = let r = from_body place (after_statement place p (Get number from)) ss a h in (r.0, inr r.1, r.2)
from_body place p (Set to v ∷ ss) a (inl e) =
    let of = of_column place p.environment to a.cell (ap (λ (x : Access). x.cell.table) e) (ap (λ (x : Access). x.cell.column) e) in
    (Set to v, inl refl, record { accessed = of; written = λ w. of })
from_body place p (Set to v ∷ ss) a (inr h) = let r = from_body place (after_statement place p (Set to v)) ss a h in (r.0, inr r.1, r.2)
from_body place p (Out v ∷ ss) a h = let r = from_body place (after_statement place p (Out v)) ss a h in (r.0, inr r.1, r.2)

from_pieces : (p : Progress) (ps : List Piece) (a : Access) → Has a (uses_of_pieces p ps) → (piece : Piece) × Has piece ps × (s : Statement) × Has s piece.body × IsUseOf a s
from_pieces p [] a h = absurd h
from_pieces p (piece ∷ ps) a h =
    elim (has_append a (uses_of_piece p piece) (uses_of_pieces (after_piece p piece) ps) h) [
      | inl k ↦ (let r = from_body (value piece.place p.environment) p piece.body a k in (piece, inl refl, r.0, r.1, r.2))
      | inr k ↦ (let r = from_pieces (after_piece p piece) ps a k in (r.0, inr r.1, r.2, r.3, r.4))
    ]

-- two statements that use one cell, one of which writes it
columns_meet : (t u k : ℕ) (m n l : ℕ) → ((t == k) && (m == l)) ≡ true → ((u == k) && (n == l)) ≡ true → ((t == u) && (m == n)) ≡ true
columns_meet t u k m n l e f =
    let a = both (t == k) (m == l) e in
    let b = both (u == k) (n == l) f in
    joined (t == u) (m == n) (eq-eqb t u (eqb-true t k a.0 ∙ sym (eqb-true u k b.0))) (eq-eqb m n (eqb-true m l a.1 ∙ sym (eqb-true n l b.1)))
  where
    both : (x y : Bool) → (x && y) ≡ true → (x ≡ true) × (y ≡ true)
    both true y e = (refl, e)
    both false y e = absurd (false≢true e)

    joined : (x y : Bool) → x ≡ true → y ≡ true → (x && y) ≡ true
    joined x y e f = cc

-- a statement that may write a column collides with one that accesses it, in either order
pub collides : (c : Cell) (s u : Statement) → may_write s c ≡ true → accesses u c ≡ true → collide s u ≡ true
collides c (Get n a) u w x = absurd (false≢true w)
collides c (Out v) u w x = absurd (false≢true w)
collides c (Set a v) (Get n b) w x = columns_meet a.table b.table c.table a.column b.column c.column w x
collides c (Set a v) (Set b v2) w x = columns_meet a.table b.table c.table a.column b.column c.column w x
collides c (Set a v) (Out v2) w x = absurd (false≢true x)

pub collides_back : (c : Cell) (s u : Statement) → accesses s c ≡ true → may_write u c ≡ true → collide s u ≡ true
collides_back c s (Get n a) x w = absurd (false≢true w)
collides_back c s (Out v) x w = absurd (false≢true w)
collides_back c (Get n b) (Set a v) x w = columns_meet b.table a.table c.table b.column a.column c.column x w
collides_back c (Set b v2) (Set a v) x w = columns_meet b.table a.table c.table b.column a.column c.column x w
collides_back c (Out v2) (Set a v) x w = absurd (false≢true x)

-- pieces that use one cell, one of which writes it, are in conflict
meet_in_conflict : (x y : Piece) (s u : Statement) (a b : Access) → Has s x.body → Has u y.body → IsUseOf a s → IsUseOf b u → is_cell a.cell b.cell ≡ true → (a.writes || b.writes) ≡ true → conflict x y ≡ true
meet_in_conflict x y s u a b in_x in_y from_s from_u same writes =
    has_any (λ s. list_any (collide s) y.body) x.body s in_x (has_any (collide s) y.body u in_y (elim (or_cases a.writes b.writes writes) [
      | inl w ↦ collides a.cell s u (from_s.written w) (there u from_u.accessed)
      | inr w ↦ collides_back a.cell s u from_s.accessed (there_too u (from_u.written w))
    ]))
  where
    there : (v : Statement) → accesses v b.cell ≡ true → accesses v a.cell ≡ true
    there v e = subst (λ c. accesses v c ≡ true) (sym (is_cell-true a.cell b.cell same)) e

    there_too : (v : Statement) → may_write v b.cell ≡ true → may_write v a.cell ≡ true
    there_too v e = subst (λ c. may_write v c ≡ true) (sym (is_cell-true a.cell b.cell same)) e

-- what groups do is within what their pieces may do
pub meet_covered : (plan : Plan) (b c : GroupCall) (s t : Store) → is_view_of plan b.proc ≡ false → is_view_of plan c.proc ≡ false → do_conflict (group_uses plan b s) (group_uses plan c t) ≡ true → may_meet plan b.proc b.group c.proc c.group ≡ true
meet_covered plan b c s t no_view no_other_view h =
    let one = any_has (meets (group_uses plan c t)) (group_uses plan b s) h in
    let other = any_has (λ u. is_cell one.0.cell u.cell && (one.0.writes || u.writes)) (group_uses plan c t) one.2 in
    let parts = and_parts (is_cell one.0.cell other.0.cell) (one.0.writes || other.0.writes) other.2 in
    let x = from_pieces (begin plan b s) (group_pieces plan b) one.0 one.1 in
    let y = from_pieces (begin plan c t) (group_pieces plan c) other.0 other.1 in
    let i = from_has_map (λ k. get_or (procedure_of plan b.proc).pieces k no_piece) x.0 (group_of plan b.proc b.group).pieces x.1 in
    let j = from_has_map (λ k. get_or (procedure_of plan c.proc).pieces k no_piece) y.0 (group_of plan c.proc c.group).pieces y.1 in
    let meeting : conflict x.0 y.0 ≡ true = meet_in_conflict x.0 y.0 x.2 y.2 one.0 other.0 x.3 y.3 x.4 y.4 parts.0 parts.1 in
    has_any (λ k. list_any (λ l. are_in_conflict plan.program (piece_numbered b.proc k) (piece_numbered c.proc l)) (group_of plan c.proc c.group).pieces) (group_of plan b.proc b.group).pieces i.0 i.1
    (has_any (λ l. are_in_conflict plan.program (piece_numbered b.proc i.0) (piece_numbered c.proc l)) (group_of plan c.proc c.group).pieces j.0 j.1
    (in_conflict_from plan.program (piece_numbered b.proc i.0) (piece_numbered c.proc j.0) (record {
      first = no_view;
      second = no_other_view;
      meet = subst (λ q. conflict (get_or (procedure_of plan b.proc).pieces i.0 no_piece) q ≡ true) j.2 (subst (λ q. conflict q y.0 ≡ true) i.2 meeting);
    })))
  where
    and_parts : (a b : Bool) → (a && b) ≡ true → (a ≡ true) × (b ≡ true)
    and_parts true b e = (refl, e)
    and_parts false b e = absurd (false≢true e)
