-- A group that was found holds reads up
use Rattle.std.proofs.Common.{◌≡◌, ◌&&◌, ◌+◌, ℕ, true, false, not, List, ◌∷◌, ◌++◌, Option, Some, None, take, drop, length, get_or, ◌<◌, refl, inl, sym, ap, subst, ◌∙◌}
use Rattle.std.proofs.lemmas.List.{take-append-drop}
use Rattle.std.proofs.lemmas.Bool.{and_from, and_parts, false≢true, not-true, or_from}
use Rattle.roc_sequence.specs.Lists.{Has}
use Rattle.roc_sequence.specs.Places.{is_listed}
use Rattle.roc_sequence.proofs.Found.{found_has}
use Rattle.roc_sequence.proofs.Holds.{all_at, has_all, has_any}
use Rattle.roc_sequence.proofs.Members.{from_has_filter, has_left, has_right}
use Rattle.roc_base.specs.Equalities.{is_txn-true}
use Rattle.roc_base.specs.TxnId.{is_txn}
use Rattle.roc_group.specs.declared.access.Access.{Access}
use Rattle.roc_group.specs.Accesses.{do_write}
use Rattle.roc_server_groups.specs.Indexed.{group_ref_of, group_refs_of, undecided_refs}
use Rattle.roc_server_groups.proofs.SameGroups.{same_own}
use Rattle.roc_server_index.specs.declared.group_ref.GroupRef.{GroupRef}
use Rattle.roc_step.specs.declared.started.StartedGroup.{StartedGroup}
use Rattle.roc_step.specs.State.{find_group, is_group}
use Rattle.roc_server_reads.specs.Behind.{decided_behind, is_held_up, writes_one, HoldsUp, IsHolder, LeftBehind}
use Rattle.roc_server_reads.specs.Inner.Holders.{holds_at, is_hint_right, writes_cell}
use Rattle.roc_server_reads.specs.Looks.{is_held_by, writes_some}

-- what stands at a place is there
pub has_place : {A : Type 0} (xs : List A) (i : ℕ) (d : A) → i < length xs → Has (get_or xs i d) xs
has_place {A} xs i d within = all_at (λ (a : A). Has a xs) xs i d (has_all (λ (a : A). Has a xs) xs (λ a h. h)) within

module _ (b : LeftBehind) (uses : List Access) where
  -- a group that was found by a reference of no decided transaction
  found_holds : (r : GroupRef) (e : StartedGroup) → find_group r.id r.group b.started ≡ Some e → decided_behind b r.id ≡ false → writes_one uses e ≡ true → HoldsUp b uses r
  found_holds r e found undecided writes =
      let k = found_has (is_group r.id r.group) b.started e found in
      let same : e.id ≡ r.id = is_txn-true e.id r.id (and_parts (is_txn e.id r.id) _ k.1).0 in
      record { group = e; has = has_left e b.started b.starting k.0; is = k.1; undecided = ap (decided_behind b) same ∙ undecided; writes = writes }

  hint_holds : (r : GroupRef) → is_held_by b uses r ≡ true → HoldsUp b uses r
  hint_holds r h = go (find_group r.id r.group b.started) refl p.1
    where
      p : (not (decided_behind b r.id) ≡ true) × (writes_some uses (find_group r.id r.group b.started) ≡ true)
      p = and_parts (not (decided_behind b r.id)) (writes_some uses (find_group r.id r.group b.started)) h

      go : (o : Option StartedGroup) → find_group r.id r.group b.started ≡ o → writes_some uses o ≡ true → HoldsUp b uses r
      go None found w = absurd (false≢true w)
      go (Some e) found w = found_holds r e found (not-true (decided_behind b r.id) p.0) w

  -- one that the index has at one of the cells
  pub indexed_holds : (a : Access) (r : GroupRef) → Has a uses → Has r (undecided_refs b.decided (group_refs_of a.cell b.started)) → holds_at b.started b.newly a.cell r ≡ true → HoldsUp b uses r
  indexed_holds a r used has h = go (find_group r.id r.group b.started) refl p.1
    where
      p : (not (is_listed is_txn b.newly r.id) ≡ true) × (writes_cell a.cell (find_group r.id r.group b.started) ≡ true)
      p = and_parts (not (is_listed is_txn b.newly r.id)) (writes_cell a.cell (find_group r.id r.group b.started)) h

      undecided : decided_behind b r.id ≡ false
      undecided =
          or_from (is_listed is_txn b.decided r.id) (is_listed is_txn b.newly r.id)
          (not-true (is_listed is_txn b.decided r.id) (from_has_filter (λ (s : GroupRef). not (is_listed is_txn b.decided s.id)) r (group_refs_of a.cell b.started) has).1)
          (not-true (is_listed is_txn b.newly r.id) p.0)

      go : (o : Option StartedGroup) → find_group r.id r.group b.started ≡ o → writes_cell a.cell o ≡ true → HoldsUp b uses r
      go None found w = absurd (false≢true w)
      go (Some e) found w = found_holds r e found undecided (has_any (λ (x : Access). do_write e.cells x.cell) uses a used w)

  -- so the reads are held up
  pub held_so : (r : GroupRef) → HoldsUp b uses r → is_held_up (decided_behind b) uses (b.started ++ b.starting) ≡ true
  held_so r h =
      has_any (λ (e : StartedGroup). not (decided_behind b e.id) && writes_one uses e) (b.started ++ b.starting) h.group h.has
      (and_from (not (decided_behind b h.group.id)) (writes_one uses h.group) (ap not h.undecided) h.writes)

  -- that of a hint that is right
  pub hint_is : (hint : Option GroupRef) → is_hint_right b uses hint ≡ true → IsHolder b uses hint
  hint_is None h = absurd (false≢true h)
  hint_is (Some r) h = hint_holds r h

  -- one that starts
  pub starts_holds : (e : StartedGroup) (at : ℕ) → drop at b.starting ≡ e ∷ drop (at + 1) b.starting → (not (decided_behind b e.id) && writes_one uses e) ≡ true → HoldsUp b uses (group_ref_of e)
  starts_holds e at here holds =
      let p = and_parts (not (decided_behind b e.id)) (writes_one uses e) holds in
      let there : Has e b.starting = subst (Has e) (take-append-drop at b.starting) (has_right e (take at b.starting) (drop at b.starting) (subst (Has e) (sym here) (inl refl))) in
      record {
        group = e;
        has = has_right e b.started b.starting there;
        is = same_own e;
        undecided = not-true (decided_behind b e.id) p.0;
        writes = p.1;
      }
