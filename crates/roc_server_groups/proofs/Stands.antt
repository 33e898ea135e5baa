-- The references of groups, and the groups that are found by them
use Rattle.std.proofs.Common.{◌≡◌, ◌<◌, suc, Bool, true, false, cond, not, if◌then◌else◌, List, [], ◌∷◌, ◌++◌, length, map, Some, is_some, refl, sym, ap, subst, ◌∙◌, inl, inr, arith}
use Rattle.std.specs.Prelude.{IsSome}
use Rattle.std.specs.List.{AllByRecursion}
use Rattle.roc_sequence.specs.Lists.{Has}
use Rattle.roc_sequence.specs.Places.{place_of, IsListed, NoneTwice, is_listed}
use Rattle.roc_sequence.proofs.Holds.{all_has, has_all}
use Rattle.roc_sequence.proofs.Members.{from_has_filter}
use Rattle.roc_sequence.proofs.Places.{listed_tail}
use Rattle.roc_base.specs.declared.id.TxnId.{TxnId}
use Rattle.roc_base.specs.TxnId.{is_txn}
use Rattle.roc_rows.specs.declared.cell.Cell.{Cell}
use Rattle.roc_server_index.specs.declared.group_ref.GroupRef.{GroupRef}
use Rattle.roc_server_index.specs.GroupRefs.{CellRefs, group_refs_at}
use Rattle.roc_plan.specs.Groups.{Plan, groups_of}
use Rattle.roc_step.specs.declared.started.StartedGroup.{StartedGroup}
use Rattle.roc_step.specs.Fits.{IsCallOf, AreGroupsOf}
use Rattle.roc_step.specs.Runs.{group_call}
use Rattle.roc_step.specs.Start.{uses_cell}
use Rattle.roc_step.specs.State.{unrun, find_group}
use Rattle.roc_server_groups.specs.Groups.{is_same_group, AreSameGroups}
use Rattle.roc_server_groups.specs.Indexed.{group_ref_of, group_refs_of, AreGroupRefsOf, IsIndexOf, IsGroupRefOf}
use Rattle.roc_server_groups.specs.Inner.Looks.{IsGroupRefWithin}
use Rattle.roc_server_groups.proofs.SameGroups.{same_own, same_swap}

-- ---- a group that is there once is found by its number

listed_by : {A : Type 0} (is : A → A → Bool) (xs : List A) (a y : A) → Has y xs → is a y ≡ true → IsListed is xs a
listed_by is [] a y h t = absurd h
listed_by is (x ∷ xs) a y (inl e) t = subst (λ b. cond b 0 (suc (place_of (is a) xs)) < length (x ∷ xs)) (sym (subst (λ z. is a z ≡ true) e t)) (omega arith)
listed_by is (x ∷ xs) a y (inr h) t = listed_tail is x xs a (listed_by is xs a y h t)

pub group_found : (es : List StartedGroup) (e : StartedGroup) → NoneTwice is_same_group es → Has e es → find_group e.id e.group es ≡ Some e
group_found [] e once h = absurd h
group_found (x ∷ xs) e once (inl is) = ap (λ y. find_group e.id e.group (y ∷ xs)) (sym is) ∙ ap (λ b. cond b (Some e) (find_group e.id e.group xs)) (same_own e)
group_found (x ∷ xs) e once (inr h) = ap (λ b. cond b (Some x) (find_group e.id e.group xs)) (go (is_same_group e x) refl) ∙ group_found xs e once.1 h
  where
    go : (b : Bool) → is_same_group e x ≡ b → is_same_group e x ≡ false
    go true same = absurd (once.0 (listed_by is_same_group xs x e h (same_swap x e ∙ same)))
    go false same = same

-- ---- the group of a reference

group_ref_more : (es : List StartedGroup) (e : StartedGroup) (c : Cell) (s : GroupRef) → IsGroupRefOf es c s → IsGroupRefOf (e ∷ es) c s
group_ref_more es e c s h = record { group = h.group; has = inr h.has; is = h.is; used = h.used }

group_ref_is : (c : Cell) (es : List StartedGroup) (s : GroupRef) → Has s (group_refs_of c es) → IsGroupRefOf es c s
group_ref_is c [] s k = absurd k
group_ref_is c (e ∷ es) s k = go (uses_cell c e) refl k (group_ref_is c es s)
  where
    go : (u : Bool) → uses_cell c e ≡ u → Has s (if u then group_ref_of e ∷ group_refs_of c es else group_refs_of c es) → (Has s (group_refs_of c es) → IsGroupRefOf es c s) → IsGroupRefOf (e ∷ es) c s
    go true u (inl p) ih = record { group = e; has = inl refl; is = p; used = u }
    go true u (inr m) ih = group_ref_more es e c s (ih m)
    go false u m ih = group_ref_more es e c s (ih m)

-- what the index has at a cell are such references
pub indexed_is : (c : Cell) (index : List (Cell × CellRefs)) (decided : List TxnId) (es : List StartedGroup) → IsIndexOf index decided es → (s : GroupRef) → Has s (group_refs_at c index) → IsGroupRefOf es c s
indexed_is c index decided es h s k = group_ref_is c es s (from_has_filter (λ (x : GroupRef). not (is_listed is_txn decided x.id)) s (group_refs_of c es) (subst (Has s) (h c) k)).0

-- of each the group is found, and the plan has it
pub refs_within : (plan : Plan) (c : Cell) (index : List (Cell × CellRefs)) (es : List StartedGroup) → AreGroupsOf plan es → NoneTwice is_same_group es → AreGroupRefsOf es index → AllByRecursion (IsGroupRefWithin plan es) (group_refs_at c index)
refs_within plan c index es fits once refs =
    has_all (IsGroupRefWithin plan es) (group_refs_at c index) (λ s k.
    let p = refs c s k in
    let fit = all_has (λ e. IsCallOf plan (group_call e)) p.group es fits p.has in
    (subst (λ (x : GroupRef). IsSome (find_group x.id x.group es)) (sym p.is) (ap is_some (group_found es p.group once p.has)), subst (λ (x : GroupRef). x.group < length (groups_of plan x.proc)) (sym p.is) fit.group))

-- ---- one more group

pub group_refs_more : (c : Cell) (es : List StartedGroup) (e : StartedGroup) → group_refs_of c (es ++ e ∷ []) ≡ group_refs_of c es ++ (if uses_cell c e then group_ref_of e ∷ [] else [])
group_refs_more c [] e = refl
group_refs_more c (x ∷ xs) e = go (uses_cell c x) (group_refs_more c xs e)
  where
    go : (u : Bool) → group_refs_of c (xs ++ e ∷ []) ≡ group_refs_of c xs ++ (if uses_cell c e then group_ref_of e ∷ [] else [])
        → (if u then group_ref_of x ∷ group_refs_of c (xs ++ e ∷ []) else group_refs_of c (xs ++ e ∷ []))
        ≡ (if u then group_ref_of x ∷ group_refs_of c xs else group_refs_of c xs) ++ (if uses_cell c e then group_ref_of e ∷ [] else [])
    go true ih = ap (λ ss. group_ref_of x ∷ ss) ih
    go false ih = ih

-- ---- groups that differ in nothing but what they gave

group_refs-unrun : (c : Cell) (es : List StartedGroup) → group_refs_of c (map unrun es) ≡ group_refs_of c es
group_refs-unrun c [] = refl
group_refs-unrun c (e ∷ es) = ap (λ ss. if uses_cell c e then group_ref_of e ∷ ss else ss) (group_refs-unrun c es)

pub group_refs_same : (c : Cell) (old new : List StartedGroup) → AreSameGroups old new → group_refs_of c new ≡ group_refs_of c old
group_refs_same c old new same = sym (group_refs-unrun c new) ∙ ap (group_refs_of c) same ∙ group_refs-unrun c old
