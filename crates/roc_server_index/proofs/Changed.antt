-- What a table holds at each cell, once one cell has changed
use Rattle.std.proofs.Common.{◌≡◌, ◌≤◌, ◌+◌, ℕ, arith, Bool, true, false, cond, if◌then◌else◌, List, [], ◌∷◌, Option, Some, None, Result, Ok, Err, OnErr, Vec, unwrap_or, refl, sym, ap, subst, ◌∙◌}
use Rattle.std.specs.declared.alloc.Global.{Global}
use Rattle.std.specs.Map.{lookup}
use Rattle.std.specs.Option.{option_map}
use Rattle.std.specs.Ordering.{is_eq}
use Rattle.roc_rows.specs.declared.cell.Cell.{Cell}
use Rattle.roc_rows.specs.Cells.{is_cell, cell_cmp}
use Rattle.roc_rows.proofs.CellLaws.{is_cell-true, is_cell-same, is_cell-by_cmp}
use Rattle.roc_server_index.specs.declared.group_ref.GroupRef.{GroupRef}
use Rattle.roc_server_index.specs.GroupRefs.{CellRefs, no_refs, cell_refs_at, group_refs_at, spare_at, ChangesAt, HaveSameRefs, KeepsRoom, TakesRoomAt}
use Rattle.roc_server_index.specs.Inner.Held.{cell_refs, held}

-- the references of what was found, if anything was
abbrev pub found : Option (Vec GroupRef Global) → CellRefs
found o = unwrap_or (option_map cell_refs o) no_refs

abbrev pub refs_in : CellRefs → List GroupRef
refs_in r = r.refs

abbrev pub room_in : CellRefs → ℕ
room_in r = r.spare

lookup_held : (test : Cell → Bool) (es : List (Cell × Vec GroupRef Global)) → lookup test (held es) ≡ option_map cell_refs (lookup test es)
lookup_held test [] = refl
lookup_held test (e ∷ es) = go (test e.0) (lookup_held test es)
  where
    go : (t : Bool) → lookup test (held es) ≡ option_map cell_refs (lookup test es) → cond t (Some (cell_refs e.1)) (lookup test (held es)) ≡ option_map cell_refs (cond t (Some e.1) (lookup test es))
    go true ih = refl
    go false ih = ih

-- what is found by the order of cells
pub cell_refs_found : (c : Cell) (es : List (Cell × Vec GroupRef Global)) → cell_refs_at c (held es) ≡ found (lookup (λ k. is_eq (cell_cmp c k)) es)
cell_refs_found c es = ap (λ o. unwrap_or o no_refs) (lookup_held (is_cell c) es) ∙ (λ i. found (lookup (λ k. sym (is_cell-by_cmp c k) i) es))

-- where nothing is found by the order of cells, the cell has no entry
pub none_held : (c : Cell) (es : List (Cell × Vec GroupRef Global)) → lookup (λ k. is_eq (cell_cmp c k)) es ≡ None → lookup (is_cell c) (held es) ≡ None
none_held c es h = lookup_held (is_cell c) es ∙ (λ i. option_map cell_refs (lookup (λ k. sym (is_cell-by_cmp c k) i) es)) ∙ ap (option_map cell_refs) h

-- nor where it was removed from a table
pub removed_at : (cell : Cell) (es fs : List (Cell × Vec GroupRef Global))
    → ((q : Cell) → lookup (λ k. is_eq (cell_cmp q k)) fs ≡ cond (is_eq (cell_cmp cell q)) None (lookup (λ k. is_eq (cell_cmp q k)) es))
    → lookup (is_cell cell) (held fs) ≡ None
removed_at cell es fs h =
    none_held cell fs (h cell ∙ ap (λ t. cond t None (lookup (λ k. is_eq (cell_cmp cell k)) es)) (is_cell-by_cmp cell cell ∙ is_cell-same cell))

-- what is held at a cell is this now, and no other has changed
pub record IsSetAt (cell : Cell) (now : CellRefs) (old new : List (Cell × CellRefs)) : Type 0 where
  pub own : cell_refs_at cell new ≡ now
  pub others : (c : Cell) → is_cell cell c ≡ false → cell_refs_at c new ≡ cell_refs_at c old

-- a table that was updated at a cell
pub set_at : (cell : Cell) (es fs : List (Cell × Vec GroupRef Global)) (o : Option (Vec GroupRef Global))
    → ((q : Cell) → lookup (λ k. is_eq (cell_cmp q k)) fs ≡ cond (is_eq (cell_cmp cell q)) o (lookup (λ k. is_eq (cell_cmp q k)) es))
    → IsSetAt cell (found o) (held es) (held fs)
set_at cell es fs o h =
    record {
      own = at cell ∙ ap (λ t. found (cond t o (lookup (λ k. is_eq (cell_cmp cell k)) es))) (is_cell-same cell);
      others = λ c e. at c ∙ ap (λ t. found (cond t o (lookup (λ k. is_eq (cell_cmp c k)) es))) e ∙ sym (cell_refs_found c es);
    }
  where
    at : (c : Cell) → cell_refs_at c (held fs) ≡ found (cond (is_cell cell c) o (lookup (λ k. is_eq (cell_cmp c k)) es))
    at c = cell_refs_found c fs ∙ ap found (h c) ∙ ap (λ t. found (cond t o (lookup (λ k. is_eq (cell_cmp c k)) es))) (is_cell-by_cmp cell c)

module _ (cell : Cell) (now : CellRefs) (old new : List (Cell × CellRefs)) (s : IsSetAt cell now old new) where
  own_at : (c : Cell) → is_cell cell c ≡ true → cell_refs_at c new ≡ now
  own_at c e = subst (λ d. cell_refs_at d new ≡ now) (is_cell-true cell c e) s.own

  old_at : (c : Cell) → is_cell cell c ≡ true → cell_refs_at cell old ≡ cell_refs_at c old
  old_at c e = ap (λ d. cell_refs_at d old) (is_cell-true cell c e)

  pub changes : (change : List GroupRef → List GroupRef) → now.refs ≡ change (group_refs_at cell old) → ChangesAt cell change old new
  changes change is c = go (is_cell cell c) refl
    where
      go : (t : Bool) → is_cell cell c ≡ t → group_refs_at c new ≡ (if t then change (group_refs_at c old) else group_refs_at c old)
      go true e = ap refs_in (own_at c e) ∙ is ∙ ap (λ r. change (refs_in r)) (old_at c e)
      go false e = ap refs_in (s.others c e)

  pub same_refs : now.refs ≡ group_refs_at cell old → HaveSameRefs old new
  same_refs is c = go (is_cell cell c) refl
    where
      go : (t : Bool) → is_cell cell c ≡ t → group_refs_at c new ≡ group_refs_at c old
      go true e = ap refs_in (own_at c e) ∙ is ∙ ap refs_in (old_at c e)
      go false e = ap refs_in (s.others c e)

  pub takes_room : spare_at cell old ≤ now.spare + 1 → TakesRoomAt cell old new
  takes_room h c = go (is_cell cell c) refl
    where
      go : (t : Bool) → is_cell cell c ≡ t → spare_at c old ≤ spare_at c new + (if t then 1 else 0)
      go true e = let a = ap room_in (own_at c e) in let b = ap room_in (old_at c e) in omega (arith, a, b, h)
      go false e = let a = ap room_in (s.others c e) in omega (arith, a)

  pub keeps_room : spare_at cell old ≤ now.spare → KeepsRoom old new
  keeps_room h c = go (is_cell cell c) refl
    where
      go : (t : Bool) → is_cell cell c ≡ t → spare_at c old ≤ spare_at c new
      go true e = let a = ap room_in (own_at c e) in let b = ap room_in (old_at c e) in omega (arith, a, b, h)
      go false e = let a = ap room_in (s.others c e) in omega (arith, a)

-- a cell whose references do not change by it
pub stays : (cell : Cell) (change : List GroupRef → List GroupRef) (es : List (Cell × CellRefs)) → group_refs_at cell es ≡ change (group_refs_at cell es) → ChangesAt cell change es es
stays cell change es h c = go (is_cell cell c) refl
  where
    go : (t : Bool) → is_cell cell c ≡ t → group_refs_at c es ≡ (if t then change (group_refs_at c es) else group_refs_at c es)
    go true e = subst (λ d. group_refs_at d es ≡ change (group_refs_at d es)) (is_cell-true cell c e) h
    go false e = refl

-- a cell that was emptied, and is then left out
pub emptied : (cell : Cell) (change : List GroupRef → List GroupRef) (es fs gs : List (Cell × CellRefs)) → ChangesAt cell change es fs → group_refs_at cell fs ≡ [] → ChangesAt cell (λ ss. []) fs gs → ChangesAt cell change es gs
emptied cell change es fs gs h none k c = k c ∙ go (is_cell cell c) refl (h c)
  where
    go : (t : Bool) → is_cell cell c ≡ t → group_refs_at c fs ≡ (if t then change (group_refs_at c es) else group_refs_at c es) → (if t then [] else group_refs_at c fs) ≡ (if t then change (group_refs_at c es) else group_refs_at c es)
    go true e at = sym (ap (λ d. group_refs_at d fs) (sym (is_cell-true cell c e)) ∙ none) ∙ at
    go false e at = at

-- what holds, holds at an error
pub on_err : {T E P : Type 0} (r : Result T E) → P → OnErr r P
on_err (Ok x) h = tt
on_err (Err e) h = h
