-- What is tried of the groups, and is kept or undone
use Rattle.std.proofs.Common.{◌≡◌, ◌<◌, ◌==◌, ℕ, ℤ, zero, suc, Bool, true, false, cond, not, ◌||◌, ◌&&◌, if◌then◌else◌, List, [], ◌∷◌, ◌++◌, Option, Some, None, length, filter, append-nil, refl, sym, ap, subst, ◌∙◌, inl, inr, arith}
use Rattle.std.proofs.lemmas.Bool.{eqb-true, and_parts}
use Rattle.std.proofs.lemmas.List.{nil_from_length}
use Rattle.std.proofs.lemmas.List.Folds.{list_any-append}
use Rattle.std.specs.List.{AllByRecursion}
use Rattle.std.specs.Option.{option_map, option_to_list}
use Rattle.roc_sequence.specs.Lists.{Has}
use Rattle.roc_sequence.specs.Places.{is_listed, place_of, IsListed, NoneTwice}
use Rattle.roc_sequence.proofs.Appended.{NoneTwice-append}
use Rattle.roc_sequence.proofs.Found.{none_found, unlisted}
use Rattle.roc_sequence.proofs.Holds.{has_all}
use Rattle.roc_sequence.proofs.Members.{from_has_map, has_append, has_left, has_map, has_one, has_right}
use Rattle.roc_sequence.proofs.Places.{listed_cases, listed_tail, listed_true, listed_test, place_of-here}
use Rattle.roc_base.specs.declared.id.TxnId.{TxnId}
use Rattle.roc_base.specs.TxnId.{is_txn}
use Rattle.roc_base.specs.Equalities.{is_txn-true}
use Rattle.roc_base.proofs.Ids.{is_listed-any}
use Rattle.roc_rows.specs.declared.cell.Cell.{Cell}
use Rattle.roc_server_index.specs.declared.group_ref.GroupRef.{GroupRef}
use Rattle.roc_server_index.specs.GroupRefs.{CellRefs, group_refs_at, is_same_ref}
use Rattle.roc_step.specs.declared.started.StartedGroup.{StartedGroup}
use Rattle.roc_step.specs.Start.{uses_cell}
use Rattle.roc_step.specs.State.{find_group, is_group, unrun}
use Rattle.roc_server_groups.specs.declared.runs.Earlier.{Earlier}
use Rattle.roc_server_groups.specs.Groups.{is_same_group, AreSameGroups}
use Rattle.roc_server_groups.specs.GroupsNow.{groups_without, AreDecidedBehind, AreOnce, IsUntried}
use Rattle.roc_server_groups.specs.Indexed.{group_ref_of, group_refs_of, undecided_refs, AreGroupRefsOf, IsGroupRefOf, IsIndexOf}
use Rattle.roc_server_groups.specs.Inner.Changes.{AreOut, IsAddedAt}
use Rattle.roc_server_groups.specs.Inner.Tried.{AreTried, CanEnter, HasRoomToEnter}
use Rattle.roc_server_groups.specs.Inner.Restored.{restored, with_later_at}
use Rattle.roc_server_groups.proofs.IndexSteps.{filter_all, index_decided}
use Rattle.roc_server_groups.proofs.Restored.{restored-none}
use Rattle.roc_server_groups.proofs.SameGroups.{find_same, once_same, same_own}
use Rattle.roc_server_groups.proofs.Stands.{group_refs_same}

abbrev Index : Type 0
Index = List (Cell × CellRefs)

-- ---- what runs are taken back are the same groups

with_later_same : (at : ℕ) (later : Option (List ℤ)) (es : List StartedGroup) → AreSameGroups es (with_later_at at later es)
with_later_same at later [] = refl
with_later_same zero later (e ∷ es) = refl
with_later_same (suc at) later (e ∷ es) = ap (λ ys. unrun e ∷ ys) (with_later_same at later es)

pub restored_same : (ws : List Earlier) (es : List StartedGroup) → AreSameGroups (restored ws es) es
unfolding restored
restored_same [] es = refl
restored_same (w ∷ ws) es = restored_same ws es ∙ sym (with_later_same w.at w.later (restored ws es))

-- ---- they have the same references, and the same ones can enter

pub refs_same : (index : Index) (es fs : List StartedGroup) → AreSameGroups es fs → AreGroupRefsOf es index → AreGroupRefsOf fs index
refs_same index es fs same refs c s k =
    let p = refs c s k in
    let g = from_has_map unrun (unrun p.group) fs (subst (Has (unrun p.group)) (sym same) (has_map unrun p.group es p.has)) in
    record { group = g.0; has = g.1; is = p.is ∙ ap group_ref_of g.2; used = ap (uses_cell c) (sym g.2) ∙ p.used }

pub index_same : (index : Index) (decided : List TxnId) (es fs : List StartedGroup) → AreSameGroups es fs → IsIndexOf index decided es → IsIndexOf index decided fs
index_same index decided es fs same h c = h c ∙ ap (undecided_refs decided) (sym (group_refs_same c es fs same))

none_either : (o : Option StartedGroup) → option_map unrun o ≡ None → o ≡ None
none_either None e = refl
none_either (Some x) e = cc

pub absent_same : (es fs : List StartedGroup) (e : StartedGroup) → AreSameGroups es fs → find_group e.id e.group es ≡ None → find_group e.id e.group fs ≡ None
absent_same es fs e same absent = none_either (find_group e.id e.group fs) (find_same e.id e.group es fs same ∙ ap (option_map unrun) absent)

pub enters_same : (es fs : List StartedGroup) (e : StartedGroup) (spare : ℕ) (index : Index) → AreSameGroups es fs → CanEnter e es spare index → CanEnter e fs spare index
enters_same es fs e spare index same c = record { absent = absent_same es fs e same c.absent; room = c.room }

-- ---- a group enters

-- it has no reference before
pub unmet : (index : Index) (es : List StartedGroup) (e : StartedGroup) → AreGroupRefsOf es index → find_group e.id e.group es ≡ None → (c : Cell) → AllByRecursion (λ s. is_same_ref s (group_ref_of e) ≡ false) (group_refs_at c index)
unmet index es e refs absent c =
    has_all (λ s. is_same_ref s (group_ref_of e) ≡ false) (group_refs_at c index) (λ s k.
    let p = refs c s k in ap (λ (x : GroupRef). is_same_ref x (group_ref_of e)) p.is ∙ none_found (is_group e.id e.group) es absent p.group p.has)

pub refs_entered : (old new : Index) (es : List StartedGroup) (e : StartedGroup) → AreGroupRefsOf es old → IsAddedAt (group_ref_of e) e.cells old new → AreGroupRefsOf (es ++ e ∷ []) new
refs_entered old new es e refs added c s k =
    elim (has_append s (group_refs_at c old) (if uses_cell c e then group_ref_of e ∷ [] else []) (subst (Has s) (added c) k)) [
      | inl h ↦ (let p = refs c s h in record { group = p.group; has = has_left p.group es (e ∷ []) p.has; is = p.is; used = p.used })
      | inr h ↦ go (uses_cell c e) refl h
    ]
  where
    go : (b : Bool) → uses_cell c e ≡ b → Has s (if b then group_ref_of e ∷ [] else []) → IsGroupRefOf (es ++ e ∷ []) c s
    go true u h = record { group = e; has = has_right e es (e ∷ []) (inl refl); is = has_one s (group_ref_of e) h; used = u }
    go false u h = absurd h

-- the same group has the same transaction and number
same_group : (a e : StartedGroup) → is_same_group a e ≡ true → (a.id ≡ e.id) × (a.group ≡ e.group)
same_group a e h =
    let parts = and_parts (is_txn e.id a.id) (e.group == a.group) h in
    (sym (is_txn-true e.id a.id parts.0), sym (eqb-true e.group a.group parts.1))

once_entered : (xs : List StartedGroup) (e : StartedGroup) → find_group e.id e.group xs ≡ None → NoneTwice is_same_group xs → NoneTwice is_same_group (xs ++ e ∷ [])
once_entered xs e absent once =
    NoneTwice-append is_same_group same_own xs (e ∷ []) once (λ l. absurd (omega arith), tt)
    (λ a l m. elim (listed_cases is_same_group e [] a l) [
      | inl h ↦
          let same = same_group a e h in
          unlisted (is_group e.id e.group) xs absent (subst (λ n. n < length xs) (λ i. place_of (is_group (same.0 i) (same.1 i)) xs) m)
      | inr p ↦ absurd (omega arith)
    ])

-- ---- some are forgotten

module _ {A : Type 0} (is : A → A → Bool) (p : A → Bool) where
  -- what is left was there
  listed_some : (xs : List A) (a : A) → IsListed is (filter p xs) a → IsListed is xs a
  listed_some [] a l = l
  listed_some (x ∷ xs) a l = go (p x) l (listed_some xs a)
    where
      go : (b : Bool) → IsListed is (cond b (x ∷ filter p xs) (filter p xs)) a → (IsListed is (filter p xs) a → IsListed is xs a) → IsListed is (x ∷ xs) a
      go false m ih = listed_tail is x xs a (ih m)
      go true m ih = elim (listed_cases is x (filter p xs) a m) [
        | inl e ↦ (let f = place_of-here (is a) x xs e in omega arith)
        | inr k ↦ listed_tail is x xs a (ih k.1)
      ]

  -- so what is left is there once, where all of it was
  pub once_some : (xs : List A) → NoneTwice is xs → NoneTwice is (filter p xs)
  once_some [] once = tt
  once_some (x ∷ xs) once = elim (p x) as (λ b. NoneTwice is (cond b (x ∷ filter p xs) (filter p xs))) [
    | true ↦ (λ l. once.0 (listed_some xs x l), once_some xs once.1)
    | false ↦ once_some xs once.1
  ]

-- where none are named, all stay
pub none_forgotten : (over : List TxnId) (b : Bool) (es : List StartedGroup) → b ≡ (length over == 0) → b ≡ true → es ≡ groups_without over es
none_forgotten over b es is e =
    let none : over ≡ [] = nil_from_length over (eqb-true (length over) 0 (sym is ∙ e)) in
    sym (filter_all (λ (x : StartedGroup). not (is_listed is_txn [] x.id)) es (λ x h. refl)) ∙ ap (λ ids. groups_without ids es) (sym none)

-- the index has the same references, where what is forgotten was decided and about the rest the same is
index_left : (forgotten : TxnId → Bool) (before after : List TxnId) → ((t : TxnId) → forgotten t ≡ true → is_listed is_txn before t ≡ true)
    → ((t : TxnId) → forgotten t ≡ false → is_listed is_txn after t ≡ is_listed is_txn before t)
    → (c : Cell) (es : List StartedGroup) → undecided_refs before (group_refs_of c es) ≡ undecided_refs after (group_refs_of c (filter (λ e. not (forgotten e.id)) es))
index_left forgotten before after were same c [] = refl
index_left forgotten before after were same c (e ∷ es) = go (forgotten e.id) refl (uses_cell c e) refl (index_left forgotten before after were same c es)
  where
    some : List StartedGroup
    some = filter (λ x. not (forgotten x.id)) es

    go : (b : Bool) → forgotten e.id ≡ b → (u : Bool) → uses_cell c e ≡ u → undecided_refs before (group_refs_of c es) ≡ undecided_refs after (group_refs_of c some)
        → undecided_refs before (if u then group_ref_of e ∷ group_refs_of c es else group_refs_of c es) ≡ undecided_refs after (group_refs_of c (cond (not b) (e ∷ some) some))
    go true f true used ih = ap (λ b. cond (not b) (group_ref_of e ∷ undecided_refs before (group_refs_of c es)) (undecided_refs before (group_refs_of c es))) (were e.id f) ∙ ih
    go true f false used ih = ih
    go false f true used ih =
        (λ i. cond (not (sym (same e.id f) i)) (group_ref_of e ∷ ih i) (ih i))
        ∙ ap (λ u. undecided_refs after (if u then group_ref_of e ∷ group_refs_of c some else group_refs_of c some)) (sym used)
    go false f false used ih = ih ∙ ap (λ u. undecided_refs after (if u then group_ref_of e ∷ group_refs_of c some else group_refs_of c some)) (sym used)

-- ---- the index follows what is newly decided and what is forgotten

either_listed : (xs ys : List TxnId) (t : TxnId) → is_listed is_txn (xs ++ ys) t ≡ (is_listed is_txn xs t || is_listed is_txn ys t)
either_listed xs ys t =
    is_listed-any (xs ++ ys) t ∙ list_any-append (λ x. is_txn x t) xs ys ∙ (λ i. sym (is_listed-any xs t) i || sym (is_listed-any ys t) i)

not_over : (b c : Bool) → c ≡ false → (b && not c) ≡ b
not_over true c e = ap not e
not_over false c e = refl

pub index_released : (old new : Index) (before newly over after : List TxnId) (es : List StartedGroup) → IsIndexOf old before es → AreOut newly old new → AreDecidedBehind before newly over after → IsIndexOf new after (groups_without over es)
index_released old new before newly over after es h out d c =
    index_decided old new before newly (before ++ newly) es es h out refl (either_listed before newly) c
    ∙ index_left (is_listed is_txn over) (before ++ newly) after
    (λ t e. listed_test is_txn (before ++ newly) t (d.gone t (listed_true is_txn over t e)))
    (λ t e. d.is t ∙ not_over (is_listed is_txn before t || is_listed is_txn newly t) (is_listed is_txn over t) e ∙ sym (either_listed before newly t)) c es

-- ---- behind a step each group that is left is there once

pub once_behind : (ran : List StartedGroup) (starting : Option StartedGroup) (over : List TxnId) → NoneTwice is_same_group ran → ((e : StartedGroup) → Has e (option_to_list starting) → find_group e.id e.group ran ≡ None)
    → NoneTwice is_same_group (groups_without over (ran ++ option_to_list starting))
once_behind ran starting over once absent = once_some is_same_group (λ (e : StartedGroup). not (is_listed is_txn over e.id)) (ran ++ option_to_list starting) (go starting absent)
  where
    go : (o : Option StartedGroup) → ((e : StartedGroup) → Has e (option_to_list o) → find_group e.id e.group ran ≡ None) → NoneTwice is_same_group (ran ++ option_to_list o)
    go None none = subst (NoneTwice is_same_group) (sym (append-nil ran)) once
    go (Some e) none = once_entered ran e (none e (inl refl)) once

-- ---- what the fields give

pub are_once : (ws : List Earlier) (es starting : List StartedGroup) (spare : ℕ) (index : Index) → AreTried (restored ws es) spare starting index → AreOnce (record { kept = restored ws es; ran = es; starting = starting; index = index })
are_once ws es starting spare index t = record { once = t.once; same = restored_same ws es; absent = λ e h. (t.enters e h).absent }

pub none_tried : (ws : List Earlier) (es starting : List StartedGroup) (index : Index) → ws ≡ [] → starting ≡ [] → IsUntried (record { kept = restored ws es; ran = es; starting = starting; index = index })
none_tried ws es starting index ran starts = record { ran = sym (restored-none ws es ran); starting = starts }

pub once_ran : (ws : List Earlier) (es : List StartedGroup) → NoneTwice is_same_group (restored ws es) → NoneTwice is_same_group es
once_ran ws es once = once_same (restored ws es) es (restored_same ws es) once

-- where none starts, that each is kept once is all
pub tried_none : (kept same starting : List StartedGroup) (spare : ℕ) (index : Index) → same ≡ kept → starting ≡ [] → NoneTwice is_same_group kept → AreTried same spare starting index
tried_none kept same starting spare index is none once = record { once = subst (NoneTwice is_same_group) (sym is) once; enters = λ e h. absurd (subst (Has e) none h) }

pub tried_start : (kept same : List StartedGroup) (starting : Option StartedGroup) (e : StartedGroup) (spare : ℕ) (index : Index) → same ≡ kept → starting ≡ Some e → NoneTwice is_same_group kept → find_group e.id e.group kept ≡ None → HasRoomToEnter e spare index
    → AreTried same spare (option_to_list starting) index
tried_start kept same starting e spare index is one once absent room =
    subst (λ es. AreTried es spare (option_to_list starting) index) (sym is)
    (subst (λ o. AreTried kept spare (option_to_list o) index) (sym one)
    (record { once = once; enters = λ x h. subst (λ y. CanEnter y kept spare index) (sym (has_one x e h)) (record { absent = absent; room = room }) }))

pub tried_ran : (kept same starting : List StartedGroup) (spare left : ℕ) (index : Index) → same ≡ kept → left ≡ spare → AreTried kept spare starting index → AreTried same left starting index
tried_ran kept same starting spare left index is room t = subst (λ es. AreTried es left starting index) (sym is) (subst (λ n. AreTried kept n starting index) (sym room) t)
