-- The groups that are found cell by cell are those that come before
use Rattle.std.proofs.Common.{◌≡◌, Bool, Some, true, false, cond, not, ◌&&◌, ◌||◌, if◌then◌else◌, List, [], ◌∷◌, ◌++◌, map, filter, refl, sym, ap, subst, ◌∙◌}
use Rattle.std.proofs.lemmas.Bool.{false≢true, or_parts}
use Rattle.std.specs.List.{AllByRecursion, flat_map, list_any}
use Rattle.roc_sequence.specs.Lists.{Has}
use Rattle.roc_sequence.specs.Places.{NoneTwice, is_listed}
use Rattle.roc_sequence.proofs.Holds.{any_has, has_any, has_all}
use Rattle.roc_sequence.proofs.Members.{has_map, from_has_map, has_filter, from_has_filter, has_flat_map, from_has_flat_map}
use Rattle.roc_base.specs.declared.id.TxnId.{TxnId}
use Rattle.roc_base.specs.declared.node.Shard.{Shard}
use Rattle.roc_base.specs.TxnId.{is_txn}
use Rattle.roc_base.specs.Edge.{Dependency}
use Rattle.roc_base.specs.Edges.{united}
use Rattle.roc_base.specs.Equality.{same_tag}
use Rattle.roc_rows.specs.declared.cell.Cell.{Cell}
use Rattle.roc_rows.specs.Cells.{is_cell}
use Rattle.roc_group.specs.declared.access.Access.{Access}
use Rattle.roc_group.specs.Accesses.{meets, do_conflict}
use Rattle.roc_server_index.specs.declared.group_ref.GroupRef.{GroupRef}
use Rattle.roc_server_index.specs.GroupRefs.{CellRefs, group_refs_at}
use Rattle.roc_plan.specs.Groups.{Plan, is_immediate_of}
use Rattle.roc_step.specs.declared.started.StartedGroup.{StartedGroup}
use Rattle.roc_step.specs.Start.{conflicts_before, edge_to, uses_cell}
use Rattle.roc_server_groups.specs.Indexed.{group_ref_of, group_refs_of, undecided_refs, IsIndexOf}
use Rattle.roc_server_groups.specs.Inner.Looks.{conflicts_with, is_met, edge_from}
use Rattle.roc_step.specs.State.{find_group}
use Rattle.roc_server_groups.specs.Groups.{is_same_group}
use Rattle.roc_server_groups.proofs.Stands.{group_found}
use Rattle.roc_step.proofs.Unions.{same_members}

-- each of the groups is found among all by its number
abbrev pub AreFound : (whole es : List StartedGroup) → Type 0
AreFound whole es = AllByRecursion (λ e. find_group e.id e.group whole ≡ Some e) es

-- a group that conflicts with a use uses its cell
conflict_uses : (e : StartedGroup) (a : Access) → uses_cell a.cell e ≡ false → do_conflict e.cells (a ∷ []) ≡ false
conflict_uses e a h = go e.cells h
  where
    one : (s w : Bool) → s ≡ false → ((s && w) || false) ≡ false
    one true w k = absurd (false≢true (sym k))
    one false w k = refl

    go : (us : List Access) → list_any (λ u. is_cell u.cell a.cell) us ≡ false → list_any (meets (a ∷ [])) us ≡ false
    go [] k = refl
    go (u ∷ us) k =
        let p = or_parts (is_cell u.cell a.cell) (list_any (λ v. is_cell v.cell a.cell) us) k in
        ap (λ b. b || list_any (meets (a ∷ [])) us) (one (is_cell u.cell a.cell) (u.writes || a.writes) p.0) ∙ go us p.1

module _ (plan : Plan) (shard : Shard) (left_out : List TxnId) (id : TxnId) (immediate : Bool) where
  abbrev pub entry : StartedGroup → Dependency
  entry = edge_to shard immediate

  abbrev pub met_at : List StartedGroup → Access → List GroupRef → List Dependency
  met_at whole a ss = map (edge_from shard immediate) (filter (is_met plan whole id immediate a) ss)

  abbrev pub before : List Access → List StartedGroup → List Dependency
  before cells es = map entry (filter (conflicts_before plan left_out id immediate cells) es)

  abbrev own : StartedGroup → Bool
  own e = is_txn e.id id

  abbrev left : StartedGroup → Bool
  left e = is_listed is_txn left_out e.id

  abbrev kind : StartedGroup → Bool
  kind e = same_tag (is_immediate_of plan e.proc e.group) immediate

  -- ---- at one cell

  module _ (whole : List StartedGroup) (a : Access) where
    abbrev met : GroupRef → Bool
    met = is_met plan whole id immediate a

    abbrev conflicts : StartedGroup → Bool
    conflicts e = do_conflict e.cells (a ∷ [])

    skipped : (e : StartedGroup) (ss : List GroupRef) (rest : List Dependency) → met (group_ref_of e) ≡ false → met_at whole a ss ≡ rest → met_at whole a (group_ref_of e ∷ ss) ≡ rest
    skipped e ss rest m ih = ap (λ b. map (edge_from shard immediate) (cond b (group_ref_of e ∷ filter met ss) (filter met ss))) m ∙ ih

    -- a group that uses the cell
    used : (e : StartedGroup) (ss : List GroupRef) (rest : List Dependency) (l o k f : Bool) → met (group_ref_of e) ≡ ((not o && k) && f) → met_at whole a ss ≡ rest
        → met_at whole a (cond (not l) (group_ref_of e ∷ ss) ss) ≡ (if not o && (not l && (k && f)) then entry e ∷ rest else rest)
    used e ss rest true true k f m ih = ih
    used e ss rest true false k f m ih = ih
    used e ss rest false true k f m ih = skipped e ss rest m ih
    used e ss rest false false true true m ih =
        ap (λ b. map (edge_from shard immediate) (cond b (group_ref_of e ∷ filter met ss) (filter met ss))) m ∙ ap (λ ds. entry e ∷ ds) ih
    used e ss rest false false true false m ih = skipped e ss rest m ih
    used e ss rest false false false f m ih = skipped e ss rest m ih

    -- one that does not
    unused : (e : StartedGroup) (rest : List Dependency) (l o k f : Bool) → f ≡ false → rest ≡ (if not o && (not l && (k && f)) then entry e ∷ rest else rest)
    unused e rest l true k f h = refl
    unused e rest true false k f h = refl
    unused e rest false false false f h = refl
    unused e rest false false true f h = ap (λ b. if b then entry e ∷ rest else rest) (sym h)

    pick : (e : StartedGroup) (es : List StartedGroup) (b : Bool) → map entry (cond b (e ∷ es) es) ≡ (if b then entry e ∷ map entry es else map entry es)
    pick e es true = refl
    pick e es false = refl

    met_from : (es : List StartedGroup) → AreFound whole es → met_at whole a (undecided_refs left_out (group_refs_of a.cell es)) ≡ before (a ∷ []) es
    met_from [] h = refl
    met_from (e ∷ es) h = go (uses_cell a.cell e) refl (met_from es h.1)
      where
        go : (u : Bool) → uses_cell a.cell e ≡ u → met_at whole a (undecided_refs left_out (group_refs_of a.cell es)) ≡ before (a ∷ []) es
            → met_at whole a (undecided_refs left_out (if u then group_ref_of e ∷ group_refs_of a.cell es else group_refs_of a.cell es)) ≡ before (a ∷ []) (e ∷ es)
        go true u ih =
            used e (undecided_refs left_out (group_refs_of a.cell es)) (before (a ∷ []) es) (left e) (own e) (kind e) (conflicts e) (ap (λ o. (not (own e) && kind e) && conflicts_with a o) h.0) ih
            ∙ sym (pick e (filter (conflicts_before plan left_out id immediate (a ∷ [])) es) (conflicts_before plan left_out id immediate (a ∷ []) e))
        go false u ih =
            ih ∙ unused e (before (a ∷ []) es) (left e) (own e) (kind e) (conflicts e) (conflict_uses e a u)
            ∙ sym (pick e (filter (conflicts_before plan left_out id immediate (a ∷ [])) es) (conflicts_before plan left_out id immediate (a ∷ []) e))

  -- what is met at a cell's references are the entries of the groups that come before one that makes this use alone
  pub met_is : (index : List (Cell × CellRefs)) (es : List StartedGroup) (a : Access) → NoneTwice is_same_group es → IsIndexOf index left_out es → met_at es a (group_refs_at a.cell index) ≡ before (a ∷ []) es
  met_is index es a once h = ap (met_at es a) (h a.cell) ∙ met_from es a es (has_all (λ e. find_group e.id e.group es ≡ Some e) es (λ e k. group_found es e once k))

  -- ---- over all cells

  one_of : (cells : List Access) (e : StartedGroup) → do_conflict e.cells cells ≡ true → (a : Access) × Has a cells × (do_conflict e.cells (a ∷ []) ≡ true)
  one_of cells e h =
      let u = any_has (meets cells) e.cells h in
      let b = any_has (λ (x : Access). is_cell u.0.cell x.cell && (u.0.writes || x.writes)) cells u.2 in
      (b.0, b.1, has_any (meets (b.0 ∷ [])) e.cells u.0 u.1 (ap (λ t. t || false) b.2))

  alone : (b : Bool) → (b || false) ≡ true → b ≡ true
  alone true e = refl
  alone false e = e

  of_one : (cells : List Access) (e : StartedGroup) (a : Access) → Has a cells → do_conflict e.cells (a ∷ []) ≡ true → do_conflict e.cells cells ≡ true
  of_one cells e a k h =
      let u = any_has (meets (a ∷ [])) e.cells h in
      has_any (meets cells) e.cells u.0 u.1 (has_any (λ (x : Access). is_cell u.0.cell x.cell && (u.0.writes || x.writes)) cells a k (alone (is_cell u.0.cell a.cell && (u.0.writes || a.writes)) u.2))

  -- of a group that comes before the last test holds, and with another one that holds it comes before too
  last_test : (o l k f : Bool) → (not o && (not l && (k && f))) ≡ true → f ≡ true
  last_test true l k f h = absurd (false≢true h)
  last_test false true k f h = absurd (false≢true h)
  last_test false false true f h = h
  last_test false false false f h = absurd (false≢true h)

  other_test : (o l k f g : Bool) → (not o && (not l && (k && f))) ≡ true → g ≡ true → (not o && (not l && (k && g))) ≡ true
  other_test true l k f g h e = h
  other_test false true k f g h e = h
  other_test false false true f g h e = e
  other_test false false false f g h e = h

  of_any : (cells : List Access) (es : List StartedGroup) (d : Dependency) → Has d (flat_map (λ a. before (a ∷ []) es) cells) → Has d (before cells es)
  of_any cells es d h =
      let a = from_has_flat_map (λ a. before (a ∷ []) es) d cells h in
      let g = from_has_map entry d (filter (conflicts_before plan left_out id immediate (a.0 ∷ [])) es) a.2 in
      let e = from_has_filter (conflicts_before plan left_out id immediate (a.0 ∷ [])) g.0 es g.1 in
      let f = last_test (own g.0) (left g.0) (kind g.0) (do_conflict g.0.cells (a.0 ∷ [])) e.1 in
      let passes = other_test (own g.0) (left g.0) (kind g.0) (do_conflict g.0.cells (a.0 ∷ [])) (do_conflict g.0.cells cells) e.1 (of_one cells g.0 a.0 a.1 f) in
      subst (λ x. Has x (before cells es)) (sym g.2) (has_map entry g.0 (filter (conflicts_before plan left_out id immediate cells) es) (has_filter (conflicts_before plan left_out id immediate cells) g.0 es e.0 passes))

  in_any : (cells : List Access) (es : List StartedGroup) (d : Dependency) → Has d (before cells es) → Has d (flat_map (λ a. before (a ∷ []) es) cells)
  in_any cells es d h =
      let g = from_has_map entry d (filter (conflicts_before plan left_out id immediate cells) es) h in
      let e = from_has_filter (conflicts_before plan left_out id immediate cells) g.0 es g.1 in
      let a = one_of cells g.0 (last_test (own g.0) (left g.0) (kind g.0) (do_conflict g.0.cells cells) e.1) in
      let passes = other_test (own g.0) (left g.0) (kind g.0) (do_conflict g.0.cells cells) (do_conflict g.0.cells (a.0 ∷ [])) e.1 a.2 in
      subst (λ x. Has x (flat_map (λ a. before (a ∷ []) es) cells)) (sym g.2)
      (has_flat_map (λ a. before (a ∷ []) es) (entry g.0) a.0 cells a.1 (has_map entry g.0 (filter (conflicts_before plan left_out id immediate (a.0 ∷ [])) es) (has_filter (conflicts_before plan left_out id immediate (a.0 ∷ [])) g.0 es e.0 passes)))

  -- cell by cell, with repetitions, it is the same list
  over_cells : (cells : List Access) (es : List StartedGroup) → united (flat_map (λ a. before (a ∷ []) es) cells) ≡ united (before cells es)
  over_cells cells es = same_members (flat_map (λ a. before (a ∷ []) es) cells) (before cells es) (λ d. (of_any cells es d, in_any cells es d))

  each_met : (index : List (Cell × CellRefs)) (es : List StartedGroup) (cells : List Access) → NoneTwice is_same_group es → IsIndexOf index left_out es → flat_map (λ a. met_at es a (group_refs_at a.cell index)) cells ≡ flat_map (λ a. before (a ∷ []) es) cells
  each_met index es [] once h = refl
  each_met index es (a ∷ more) once h = λ i. met_is index es a once h i ++ each_met index es more once h i

  -- what is met at the cells' references, united
  pub all_met : (index : List (Cell × CellRefs)) (es : List StartedGroup) (cells : List Access) → NoneTwice is_same_group es → IsIndexOf index left_out es → united (flat_map (λ a. met_at es a (group_refs_at a.cell index)) cells) ≡ united (before cells es)
  all_met index es cells once h = ap united (each_met index es cells once h) ∙ over_cells cells es
