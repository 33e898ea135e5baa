-- Two lists of uses have a cell in common that one of the two writes: as the plan's tests say it, and as the log machine does
use Rattle.std.proofs.Common.{◌≡◌, Bool, true, false, ◌&&◌, ◌||◌, List, map, refl, sym, ap, subst, ◌∙◌, inl, inr}
use Rattle.std.proofs.lemmas.Bool.{false≢true, and_parts, and_from, or_left, or_right, or_cases}
use Rattle.roc_sequence.specs.Lists.{Has}
use Rattle.roc_sequence.proofs.Holds.{any_has, has_any}
use Rattle.roc_sequence.proofs.Members.{has_map, from_has_map}
use Rattle.roc_base.specs.Equality.{same_tag}
use Rattle.roc_rows.specs.declared.cell.Cell.{Cell}
use Rattle.roc_rows.specs.Cells.{is_cell}
use Rattle.roc_rows.proofs.CellLaws.{is_cell-same, is_cell-true}
use Rattle.roc_group.specs.declared.access.Access.{Access}
use Rattle.roc_group.specs.Accesses.{meets, do_conflict}
use Rattle.roc_law_orders.specs.Behaviour.{Use, is_used, is_written, Meet}
use Rattle.roc_law_protocol.specs.PlanAssumptions.{use_of}

-- two groups are of one class
pub same_class : (a b : Bool) → a ≡ b → same_tag a b ≡ true
same_class true b e = sym e
same_class false true e = absurd (false≢true e)
same_class false false e = refl

-- a use of a cell, among those of a list
used_by : (x : Cell) (uses : List Access) (a : Access) → Has a uses → a.cell ≡ x → is_used x (map use_of uses) ≡ true
used_by x uses a h e = has_any (λ (u : Use). is_cell u.cell x) (map use_of uses) (use_of a) (has_map use_of a uses h) (subst (λ y. is_cell a.cell y ≡ true) e (is_cell-same a.cell))

written_by : (x : Cell) (uses : List Access) (a : Access) → Has a uses → a.cell ≡ x → a.writes ≡ true → is_written x (map use_of uses) ≡ true
written_by x uses a h e w = has_any (λ (u : Use). u.writes && is_cell u.cell x) (map use_of uses) (use_of a) (has_map use_of a uses h) (and_from a.writes (is_cell a.cell x) w (subst (λ y. is_cell a.cell y ≡ true) e (is_cell-same a.cell)))

from_used : (x : Cell) (uses : List Access) → is_used x (map use_of uses) ≡ true → (a : Access) × Has a uses × (a.cell ≡ x)
from_used x uses h =
    let u = any_has (λ (u : Use). is_cell u.cell x) (map use_of uses) h in
    let a = from_has_map use_of u.0 uses u.1 in
    (a.0, a.1, ap (λ (z : Use). z.cell) (sym a.2) ∙ is_cell-true u.0.cell x u.2)

from_written : (x : Cell) (uses : List Access) → is_written x (map use_of uses) ≡ true → (a : Access) × Has a uses × (a.cell ≡ x) × (a.writes ≡ true)
from_written x uses h =
    let u = any_has (λ (u : Use). u.writes && is_cell u.cell x) (map use_of uses) h in
    let a = from_has_map use_of u.0 uses u.1 in
    let p = and_parts u.0.writes (is_cell u.0.cell x) u.2 in
    (a.0, a.1, ap (λ (z : Use). z.cell) (sym a.2) ∙ is_cell-true u.0.cell x p.1, ap (λ (z : Use). z.writes) (sym a.2) ∙ p.0)

pub meet_of : (a b : List Access) → do_conflict a b ≡ true → Meet (map use_of a) (map use_of b)
meet_of a b h =
    let x = any_has (meets b) a h in
    let y = any_has (λ (y : Access). is_cell x.0.cell y.cell && (x.0.writes || y.writes)) b x.2 in
    let p = and_parts (is_cell x.0.cell y.0.cell) (x.0.writes || y.0.writes) y.2 in
    let same = sym (is_cell-true x.0.cell y.0.cell p.0) in
    record {
      cell = x.0.cell;
      first = used_by x.0.cell a x.0 x.1 refl;
      second = used_by x.0.cell b y.0 y.1 same;
      one_writes = elim (or_cases x.0.writes y.0.writes p.1) [
        | inl w ↦ or_left (is_written x.0.cell (map use_of a)) (is_written x.0.cell (map use_of b)) (written_by x.0.cell a x.0 x.1 refl w)
        | inr w ↦ or_right (is_written x.0.cell (map use_of a)) (is_written x.0.cell (map use_of b)) (written_by x.0.cell b y.0 y.1 same w)
      ];
    }

both : (a b : List Access) (x y : Access) → Has x a → Has y b → x.cell ≡ y.cell → (x.writes || y.writes) ≡ true → do_conflict a b ≡ true
both a b x y h k e w =
    has_any (meets b) a x h
    (has_any (λ (y : Access). is_cell x.cell y.cell && (x.writes || y.writes)) b y k
    (and_from (is_cell x.cell y.cell) (x.writes || y.writes) (subst (λ c. is_cell x.cell c ≡ true) e (is_cell-same x.cell)) w))

pub of_meet : (a b : List Access) → Meet (map use_of a) (map use_of b) → do_conflict a b ≡ true
of_meet a b m =
    elim (or_cases (is_written m.cell (map use_of a)) (is_written m.cell (map use_of b)) m.one_writes) [
      | inl w ↦
          (let x = from_written m.cell a w in
          let y = from_used m.cell b m.second in
          both a b x.0 y.0 x.1 y.1 (x.2 ∙ sym y.2) (or_left x.0.writes y.0.writes x.3))
      | inr w ↦
          (let x = from_used m.cell a m.first in
          let y = from_written m.cell b w in
          both a b x.0 y.0 x.1 y.1 (x.2 ∙ sym y.2) (or_right x.0.writes y.0.writes y.3))
    ]
