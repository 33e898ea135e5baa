-- No more references are looked at than there are pairs of a cell and a group that uses it
use Rattle.std.proofs.Common.{◌≡◌, ℕ, zero, suc, ◌+◌, ◌≤◌, ◌<◌, Bool, true, false, cond, not, ◌&&◌, if◌then◌else◌, List, [], ◌∷◌, ◌++◌, length, map, filter, get_or, take, refl, sym, ap, subst, ◌∙◌, length-append, append_assoc, append-nil, arith}
use Rattle.std.proofs.lemmas.List.{take_more, take_all, map-append}
use Rattle.std.proofs.lemmas.List.Elements.{filter-append}
use Rattle.std.specs.List.{flat_map}
use Rattle.roc_sequence.specs.Places.{is_listed}
use Rattle.roc_base.specs.declared.id.TxnId.{TxnId}
use Rattle.roc_base.specs.TxnId.{is_txn}
use Rattle.roc_base.specs.Equality.{same_tag}
use Rattle.roc_rows.specs.declared.cell.Cell.{Cell}
use Rattle.roc_group.specs.declared.access.Access.{Access}
use Rattle.roc_server_index.specs.declared.group_ref.GroupRef.{GroupRef}
use Rattle.roc_server_index.specs.GroupRefs.{CellRefs, group_refs_at}
use Rattle.roc_plan.specs.Groups.{Plan, is_immediate_of}
use Rattle.roc_step.specs.declared.started.StartedGroup.{StartedGroup}
use Rattle.roc_step.specs.Start.{uses_cell, is_user, users}
use Rattle.roc_server_groups.specs.Indexed.{group_ref_of, group_refs_of, undecided_refs, IsIndexOf}
use Rattle.roc_server_groups.specs.Inner.Looks.{is_looked_at}

-- ---- counts of what passes a test, more a loop comes along

pub count_within : {A : Type 0} (p : A → Bool) (xs : List A) (k : ℕ) → length (filter p (take k xs)) ≤ length (filter p xs)
count_within {A = A} p [] k = (let same : length (filter p (take {A = A} k [])) ≡ 0 = ap (λ xs. length (filter p xs)) (take_all {A = A} k [] (omega arith)) in omega (arith, same))
count_within p (x ∷ xs) zero = omega arith
count_within p (x ∷ xs) (suc k) = go (p x) (count_within p xs k)
  where
    go : (b : Bool) → length (filter p (take k xs)) ≤ length (filter p xs) → length (cond b (x ∷ filter p (take k xs)) (filter p (take k xs))) ≤ length (cond b (x ∷ filter p xs) (filter p xs))
    go true ih = omega arith
    go false ih = ih

module _ {A B : Type 0} (f : A → B) (p : A → Bool) (xs : List A) (k : ℕ) (d : A) (within : k < length xs) (first mid : List B) (so_far : mid ≡ first ++ map f (filter p (take k xs))) where
  one_more : first ++ map f (filter p (take (k + 1) xs)) ≡ mid ++ map f (cond (p (get_or xs k d)) (get_or xs k d ∷ []) [])
  one_more =
      ap (λ ys. first ++ map f (filter p ys)) (take_more xs k d within) ∙ ap (λ ys. first ++ map f ys) (filter-append p (take k xs) (get_or xs k d ∷ []))
      ∙ ap (λ ys. first ++ ys) (map-append f (filter p (take k xs)) (filter p (get_or xs k d ∷ [])))
      ∙ sym (append_assoc first (map f (filter p (take k xs))) (map f (filter p (get_or xs k d ∷ [])))) ∙ ap (λ ys. ys ++ map f (filter p (get_or xs k d ∷ []))) (sym so_far)

  -- what passes is put behind, and what does not leaves all as it is
  pub passed_more : (new : List B) → p (get_or xs k d) ≡ true → new ≡ mid ++ f (get_or xs k d) ∷ [] → new ≡ first ++ map f (filter p (take (k + 1) xs))
  passed_more new h is = is ∙ ap (λ b. mid ++ map f (cond b (get_or xs k d ∷ []) [])) (sym h) ∙ sym one_more

  pub failed_more : (new : List B) → p (get_or xs k d) ≡ false → new ≡ mid → new ≡ first ++ map f (filter p (take (k + 1) xs))
  failed_more new h is = is ∙ sym (append-nil mid) ∙ ap (λ b. mid ++ map f (cond b (get_or xs k d ∷ []) [])) (sym h) ∙ sym one_more

module _ (plan : Plan) (left_out : List TxnId) (id : TxnId) (immediate : Bool) where
  abbrev looked : GroupRef → Bool
  looked = is_looked_at plan id immediate

  abbrev user : Cell → StartedGroup → Bool
  user = is_user plan left_out immediate

  -- one reference, or none, for a group that uses the cell
  pass : (e : StartedGroup) (ss : List GroupRef) (es : List StartedGroup) (l o k : Bool) → looked (group_ref_of e) ≡ (not o && k) → length (filter looked ss) ≤ length es
      → length (filter looked (cond (not l) (group_ref_of e ∷ ss) ss)) ≤ length (cond (not l && (k && true)) (e ∷ es) es)
  pass e ss es true o k m ih = ih
  pass e ss es false true k m ih =
      let none : length (cond (looked (group_ref_of e)) (group_ref_of e ∷ filter looked ss) (filter looked ss)) ≡ length (filter looked ss) = ap (λ b. length (cond b (group_ref_of e ∷ filter looked ss) (filter looked ss))) m in
      let more : length es ≤ length (cond (k && true) (e ∷ es) es) = longer (k && true) in
      omega (arith, ih, none, more)
    where
      longer : (b : Bool) → length es ≤ length (cond b (e ∷ es) es)
      longer true = omega arith
      longer false = omega arith
  pass e ss es false false true m ih =
      let one : length (cond (looked (group_ref_of e)) (group_ref_of e ∷ filter looked ss) (filter looked ss)) ≡ suc (length (filter looked ss)) = ap (λ b. length (cond b (group_ref_of e ∷ filter looked ss) (filter looked ss))) m in
      omega (arith, ih, one)
  pass e ss es false false false m ih =
      let none : length (cond (looked (group_ref_of e)) (group_ref_of e ∷ filter looked ss) (filter looked ss)) ≡ length (filter looked ss) = ap (λ b. length (cond b (group_ref_of e ∷ filter looked ss) (filter looked ss))) m in
      omega (arith, ih, none)

  not_a_user : (e : StartedGroup) (es : List StartedGroup) (l k : Bool) → length es ≤ length (cond (not l && (k && false)) (e ∷ es) es)
  not_a_user e es true k = omega arith
  not_a_user e es false true = omega arith
  not_a_user e es false false = omega arith

  looked_from : (c : Cell) (es : List StartedGroup) → length (filter looked (undecided_refs left_out (group_refs_of c es))) ≤ length (filter (user c) es)
  looked_from c [] = omega arith
  looked_from c (e ∷ es) = go (uses_cell c e) (looked_from c es)
    where
      go : (u : Bool) → length (filter looked (undecided_refs left_out (group_refs_of c es))) ≤ length (filter (user c) es)
          → length (filter looked (undecided_refs left_out (if u then group_ref_of e ∷ group_refs_of c es else group_refs_of c es)))
          ≤ length (cond (not (is_listed is_txn left_out e.id) && (same_tag (is_immediate_of plan e.proc e.group) immediate && u)) (e ∷ filter (user c) es) (filter (user c) es))
      go true ih = pass e (undecided_refs left_out (group_refs_of c es)) (filter (user c) es) (is_listed is_txn left_out e.id) (is_txn e.id id) (same_tag (is_immediate_of plan e.proc e.group) immediate) refl ih
      go false ih =
          let more = not_a_user e (filter (user c) es) (is_listed is_txn left_out e.id) (same_tag (is_immediate_of plan e.proc e.group) immediate) in
          omega (arith, ih, more)

  -- the references of the first cells that are looked at, against all pairs
  pub looked_within : (index : List (Cell × CellRefs)) (es : List StartedGroup) → IsIndexOf index left_out es → (cells : List Access) → length (flat_map (λ a. filter looked (group_refs_at a.cell index)) cells) ≤ length (users plan left_out immediate cells es)
  looked_within index es h [] = omega arith
  looked_within index es h (a ∷ more) =
      let here : length (filter looked (group_refs_at a.cell index)) ≤ length (filter (user a.cell) es) = subst (λ ss. length (filter looked ss) ≤ length (filter (user a.cell) es)) (sym (h a.cell)) (looked_from a.cell es) in
      let left = length-append (filter looked (group_refs_at a.cell index)) (flat_map (λ b. filter looked (group_refs_at b.cell index)) more) in
      let right = length-append (filter (user a.cell) es) (users plan left_out immediate more es) in
      omega (arith, here, left, right, looked_within index es h more)
