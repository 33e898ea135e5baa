-- Which groups hold reads up is found cell by cell
use Rattle.std.proofs.Common.{◌≡◌, Bool, true, false, cond, not, ◌&&◌, ◌||◌, if◌then◌else◌, List, [], ◌∷◌, Some, refl, sym, ap, ◌∙◌}
use Rattle.std.proofs.lemmas.Bool.{and_from, and_parts, or_parts}
use Rattle.std.specs.List.{list_any}
use Rattle.roc_sequence.specs.Places.{NoneTwice, is_listed}
use Rattle.roc_sequence.proofs.Holds.{any_has, has_all, has_any, same_tests}
use Rattle.roc_base.specs.declared.id.TxnId.{TxnId}
use Rattle.roc_base.specs.TxnId.{is_txn}
use Rattle.roc_rows.specs.declared.cell.Cell.{Cell}
use Rattle.roc_rows.specs.Cells.{is_cell}
use Rattle.roc_group.specs.declared.access.Access.{Access}
use Rattle.roc_group.specs.Accesses.{do_write}
use Rattle.roc_server_index.specs.declared.group_ref.GroupRef.{GroupRef}
use Rattle.roc_step.specs.declared.started.StartedGroup.{StartedGroup}
use Rattle.roc_step.specs.Start.{uses_cell}
use Rattle.roc_step.specs.State.{find_group}
use Rattle.roc_server_reads.specs.Behind.{is_held_up, writes_one}
use Rattle.roc_server_groups.specs.Indexed.{group_ref_of, group_refs_of, undecided_refs}
use Rattle.roc_server_reads.specs.Inner.Holders.{holds_at, writes_cell}
use Rattle.roc_server_groups.specs.Groups.{is_same_group}
use Rattle.roc_server_groups.proofs.CellByCell.{AreFound}
use Rattle.roc_server_groups.proofs.Stands.{group_found}

-- a group that writes a cell uses it
write_uses : (e : StartedGroup) (c : Cell) → uses_cell c e ≡ false → do_write e.cells c ≡ false
write_uses e c h = go e.cells h
  where
    one : (w s : Bool) → s ≡ false → (w && s) ≡ false
    one true s k = k
    one false s k = refl

    go : (us : List Access) → list_any (λ u. is_cell u.cell c) us ≡ false → do_write us c ≡ false
    go [] k = refl
    go (u ∷ us) k =
        let p = or_parts (is_cell u.cell c) (list_any (λ v. is_cell v.cell c) us) k in
        ap (λ b. b || do_write us c) (one u.writes (is_cell u.cell c) p.0) ∙ go us p.1

module _ (decided newly : List TxnId) where
  abbrev decided_now : TxnId → Bool
  decided_now t = is_listed is_txn decided t || is_listed is_txn newly t

  -- ---- at one cell

  module _ (whole : List StartedGroup) (c : Cell) where
    abbrev holds : GroupRef → Bool
    holds = holds_at whole newly c

    abbrev held : List StartedGroup → Bool
    held es = list_any (λ e. not (decided_now e.id) && do_write e.cells c) es

    -- a group that uses the cell
    used : (s : GroupRef) (ss : List GroupRef) (rest d n w : Bool) → holds s ≡ (not n && w) → list_any holds ss ≡ rest → list_any holds (cond (not d) (s ∷ ss) ss) ≡ ((not (d || n) && w) || rest)
    used s ss rest true n w m ih = ih
    used s ss rest false n w m ih = λ i. m i || ih i

    -- one that does not
    unused : (rest b w : Bool) → w ≡ false → rest ≡ ((b && w) || rest)
    unused rest true w h = ap (λ x. x || rest) (sym h)
    unused rest false w h = refl

    held_from : (es : List StartedGroup) → AreFound whole es → list_any holds (undecided_refs decided (group_refs_of c es)) ≡ held es
    held_from [] h = refl
    held_from (e ∷ es) h = go (uses_cell c e) refl (held_from es h.1)
      where
        go : (u : Bool) → uses_cell c e ≡ u → list_any holds (undecided_refs decided (group_refs_of c es)) ≡ held es
            → list_any holds (undecided_refs decided (if u then group_ref_of e ∷ group_refs_of c es else group_refs_of c es)) ≡ held (e ∷ es)
        go true u ih =
            used (group_ref_of e) (undecided_refs decided (group_refs_of c es)) (held es) (is_listed is_txn decided e.id) (is_listed is_txn newly e.id) (do_write e.cells c)
            (ap (λ o. not (is_listed is_txn newly e.id) && writes_cell c o) h.0) ih
        go false u ih = ih ∙ unused (held es) (not (decided_now e.id)) (do_write e.cells c) (write_uses e c u)

  held_is : (es : List StartedGroup) (c : Cell) → NoneTwice is_same_group es → list_any (holds_at es newly c) (undecided_refs decided (group_refs_of c es)) ≡ held es c es
  held_is es c once = held_from es c es (has_all (λ e. find_group e.id e.group es ≡ Some e) es (λ e k. group_found es e once k))

  -- ---- over all cells

  -- what is held up cell by cell is held up group by group
  turned : (uses : List Access) (es : List StartedGroup) → list_any (λ (a : Access). held es a.cell es) uses ≡ is_held_up decided_now uses es
  turned uses es =
      same_tests (list_any (λ (a : Access). held es a.cell es) uses) (is_held_up decided_now uses es)
      (λ h.
      let a = any_has (λ (a : Access). held es a.cell es) uses h in
      let e = any_has (λ (e : StartedGroup). not (decided_now e.id) && do_write e.cells a.0.cell) es a.2 in
      let p = and_parts (not (decided_now e.0.id)) (do_write e.0.cells a.0.cell) e.2 in
      has_any (λ (e : StartedGroup). not (decided_now e.id) && writes_one uses e) es e.0 e.1
      (and_from (not (decided_now e.0.id)) (writes_one uses e.0) p.0 (has_any (λ (a : Access). do_write e.0.cells a.cell) uses a.0 a.1 p.1)))
      (λ h.
      let e = any_has (λ (e : StartedGroup). not (decided_now e.id) && writes_one uses e) es h in
      let p = and_parts (not (decided_now e.0.id)) (writes_one uses e.0) e.2 in
      let a = any_has (λ (a : Access). do_write e.0.cells a.cell) uses p.1 in
      has_any (λ (a : Access). held es a.cell es) uses a.0 a.1
      (has_any (λ (e : StartedGroup). not (decided_now e.id) && do_write e.cells a.0.cell) es e.0 e.1
      (and_from (not (decided_now e.0.id)) (do_write e.0.cells a.0.cell) p.0 a.2)))

  each_held : (es : List StartedGroup) (uses : List Access) → NoneTwice is_same_group es
      → list_any (λ (a : Access). list_any (holds_at es newly a.cell) (undecided_refs decided (group_refs_of a.cell es))) uses ≡ list_any (λ (a : Access). held es a.cell es) uses
  each_held es [] once = refl
  each_held es (a ∷ more) once = λ i. held_is es a.cell once i || each_held es more once i

  pub held_by_cell : (es : List StartedGroup) (uses : List Access) → NoneTwice is_same_group es
      → list_any (λ (a : Access). list_any (holds_at es newly a.cell) (undecided_refs decided (group_refs_of a.cell es))) uses ≡ is_held_up decided_now uses es
  held_by_cell es uses once = each_held es uses once ∙ turned uses es
