-- The index follows the started groups and what is decided
use Rattle.std.proofs.Common.{◌≡◌, ℕ, ◌+◌, ◌-◌, ◌<◌, ◌≤◌, Bool, true, false, cond, not, ◌&&◌, ◌||◌, if◌then◌else◌, List, [], ◌∷◌, ◌++◌, length, take, filter, get_or, ◌⊎◌, Option, Some, None, slice_get, refl, sym, ap, subst, ◌∙◌, inl, inr, length-append, append-nil, arith}
use Rattle.std.proofs.lemmas.Bool.{false≢true, true≢false}
use Rattle.std.proofs.lemmas.Bool.Decides.{nat_tests}
use Rattle.std.proofs.lemmas.List.{take_more}
use Rattle.std.proofs.lemmas.List.Elements.{filter-append}
use Rattle.std.proofs.lemmas.List.Folds.{list_any_more}
use Rattle.std.specs.List.{AllByRecursion, list_any}
use Rattle.roc_sequence.specs.Lists.{Has}
use Rattle.roc_sequence.specs.Places.{is_listed}
use Rattle.roc_sequence.proofs.Holds.{all_has, all_append, all_weaker, has_any}
use Rattle.roc_sequence.proofs.Members.{has_at, from_has_filter}
use Rattle.roc_base.specs.declared.id.TxnId.{TxnId}
use Rattle.roc_base.specs.TxnId.{is_txn}
use Rattle.roc_base.proofs.Ids.{is_listed-any, is_txn-swap}
use Rattle.roc_rows.specs.declared.cell.Cell.{Cell}
use Rattle.roc_rows.specs.Cells.{is_cell}
use Rattle.roc_group.specs.declared.access.Access.{Access}
use Rattle.roc_server_index.specs.declared.group_ref.GroupRef.{GroupRef}
use Rattle.roc_server_index.specs.GroupRefs.{CellRefs, group_refs_at, spare_at, is_same_ref, is_ref_of, ends_with, with_group_ref, without, ChangesAt, KeepsRoom, TakesRoomAt}
use Rattle.roc_step.specs.declared.started.StartedGroup.{StartedGroup}
use Rattle.roc_step.specs.Start.{uses_cell}
use Rattle.roc_server_groups.specs.Groups.{AreSameGroups}
use Rattle.roc_server_groups.specs.Indexed.{group_ref_of, group_refs_of, undecided_refs, IsIndexOf, IsGroupRefOf, AreGroupRefsOf}
use Rattle.roc_server_groups.specs.Inner.Changes.{HasRoomAtCells, IsAddedAt, AreOut, IsOutOf, IsOutOfAll}
use Rattle.roc_server_groups.proofs.Stands.{indexed_is, group_refs_more, group_refs_same}

abbrev Index : Type 0
Index = List (Cell × CellRefs)

-- ---- filters in a row

pub filter_both : {A : Type 0} (p q r : A → Bool) → ((x : A) → (p x && q x) ≡ r x) → (xs : List A) → filter q (filter p xs) ≡ filter r xs
filter_both p q r h [] = refl
filter_both p q r h (x ∷ xs) = go (p x) (q x) refl (filter_both p q r h xs) ∙ ap (λ b. cond b (x ∷ filter r xs) (filter r xs)) (h x)
  where
    go : (b c : Bool) → q x ≡ c → filter q (filter p xs) ≡ filter r xs → filter q (cond b (x ∷ filter p xs) (filter p xs)) ≡ cond (b && c) (x ∷ filter r xs) (filter r xs)
    go true true e ih = ap (λ t. cond t (x ∷ filter q (filter p xs)) (filter q (filter p xs))) e ∙ ap (λ ys. x ∷ ys) ih
    go true false e ih = ap (λ t. cond t (x ∷ filter q (filter p xs)) (filter q (filter p xs))) e ∙ ih
    go false c e ih = ih

pub filter_all : {A : Type 0} (p : A → Bool) (xs : List A) → ((x : A) → Has x xs → p x ≡ true) → filter p xs ≡ xs
filter_all p [] h = refl
filter_all p (x ∷ xs) h = ap (λ b. cond b (x ∷ filter p xs) (filter p xs)) (h x (inl refl)) ∙ ap (λ ys. x ∷ ys) (filter_all p xs (λ y k. h y (inr k)))

-- ---- a group is added at its cells

stands_last : (ss : List GroupRef) (s : GroupRef) → slice_get (ss ++ s ∷ []) (length ss) ≡ Some s
stands_last [] s = refl
stands_last (x ∷ xs) s = stands_last xs s

ends_new : (s : GroupRef) (ss : List GroupRef) → ends_with s (ss ++ s ∷ []) ≡ true
ends_new s ss =
    let long = length-append ss (s ∷ []) in
    let last : length (ss ++ s ∷ []) - 1 ≡ length ss = omega (arith, long) in
    let own : is_same_ref s s ≡ true = grind (arith, nat_tests) in
    ap (λ n. is_ref_of s (slice_get (ss ++ s ∷ []) n)) last ∙ ap (is_ref_of s) (stands_last ss s) ∙ own

ends_old : (s : GroupRef) (ss : List GroupRef) → AllByRecursion (λ x. is_same_ref x s ≡ false) ss → ends_with s ss ≡ false
ends_old s ss h = go (slice_get ss (length ss - 1)) refl
  where
    go : (o : Option GroupRef) → slice_get ss (length ss - 1) ≡ o → is_ref_of s (slice_get ss (length ss - 1)) ≡ false
    go None e = ap (is_ref_of s) e
    go (Some x) e = ap (is_ref_of s) e ∙ all_has (λ x. is_same_ref x s ≡ false) x ss h (has_at ss (length ss - 1) x e)

with_once : (s : GroupRef) (ss : List GroupRef) (u t : Bool) → AllByRecursion (λ x. is_same_ref x s ≡ false) ss → (if t then with_group_ref s (ss ++ (if u then s ∷ [] else [])) else ss ++ (if u then s ∷ [] else [])) ≡ ss ++ (if u || t then s ∷ [] else [])
with_once s ss true true h = ap (λ b. if b then ss ++ s ∷ [] else (ss ++ s ∷ []) ++ s ∷ []) (ends_new s ss)
with_once s ss false true h = ap (with_group_ref s) (append-nil ss) ∙ ap (λ b. if b then ss else ss ++ s ∷ []) (ends_old s ss h)
with_once s ss true false h = refl
with_once s ss false false h = refl

pub added_more : (s : GroupRef) (cells : List Access) (k : ℕ) (a : Access) (old mid new : Index) → ((c : Cell) → AllByRecursion (λ x. is_same_ref x s ≡ false) (group_refs_at c old)) → k < length cells → IsAddedAt s (take k cells) old mid
    → ChangesAt (get_or cells k a).cell (with_group_ref s) mid new → IsAddedAt s (take (k + 1) cells) old new
added_more s cells k a old mid new fresh within so_far step c =
    let x : Access = get_or cells k a in
    step c ∙ ap (λ ss. if is_cell x.cell c then with_group_ref s ss else ss) (so_far c)
    ∙ with_once s (group_refs_at c old) (list_any (λ b. is_cell b.cell c) (take k cells)) (is_cell x.cell c) (fresh c)
    ∙ ap (λ t. group_refs_at c old ++ (if t then s ∷ [] else [])) (sym (list_any_more (λ b. is_cell b.cell c) cells k a within))

-- ---- room for it

pub room_none : (index : Index) → HasRoomAtCells [] index
room_none index = tt

pub room_more : (cells : List Access) (k : ℕ) (a : Access) (mid new : Index) → k < length cells → HasRoomAtCells (take k cells) mid → KeepsRoom mid new → 0 < spare_at (get_or cells k a).cell new → HasRoomAtCells (take (k + 1) cells) new
room_more cells k a mid new within so_far kept now =
    let P : Index → Access → Type 0 = λ i b. 0 < spare_at b.cell i in
    subst (λ xs. HasRoomAtCells xs new) (sym (take_more cells k a within))
    (all_append (P new) (take k cells) (get_or cells k a ∷ []) (all_weaker (P mid) (P new) (λ b h. let m = kept b.cell in omega (arith, h, m)) (take k cells) so_far) (now, tt))

-- the cells that none of these uses have no less room
abbrev pub KeepsRoomBeside : List Access → (old new : Index) → Type 0
KeepsRoomBeside cells old new = (c : Cell) → list_any (λ a. is_cell a.cell c) cells ≡ false → spare_at c old ≤ spare_at c new

pub beside_more : (cells : List Access) (k : ℕ) (a : Access) (old mid new : Index) → k < length cells → KeepsRoomBeside (take k cells) old mid → TakesRoomAt (get_or cells k a).cell mid new → KeepsRoomBeside (take (k + 1) cells) old new
beside_more cells k a old mid new within so_far step c none =
    go (list_any (λ b. is_cell b.cell c) (take k cells)) (is_cell (get_or cells k a).cell c) refl refl (sym (list_any_more (λ b. is_cell b.cell c) cells k a within) ∙ none)
  where
    go : (t u : Bool) → list_any (λ b. is_cell b.cell c) (take k cells) ≡ t → is_cell (get_or cells k a).cell c ≡ u → (t || u) ≡ false → spare_at c old ≤ spare_at c new
    go true u e f h = absurd (true≢false h)
    go false true e f h = absurd (true≢false h)
    go false false e f h =
        let first = so_far c e in
        let next = subst (λ t. spare_at c mid ≤ spare_at c new + (if t then 1 else 0)) f (step c) in
        omega (arith, first, next)

-- where it has been added it is the last, and elsewhere there is room as before
pub finds_room : (s : GroupRef) (cells : List Access) (a : Access) (old mid : Index) → IsAddedAt s cells old mid → KeepsRoomBeside cells old mid → 0 < spare_at a.cell old → (0 < spare_at a.cell mid) ⊎ (ends_with s (group_refs_at a.cell mid) ≡ true)
finds_room s cells a old mid added kept room = go (list_any (λ b. is_cell b.cell a.cell) cells) refl
  where
    go : (t : Bool) → list_any (λ b. is_cell b.cell a.cell) cells ≡ t → (0 < spare_at a.cell mid) ⊎ (ends_with s (group_refs_at a.cell mid) ≡ true)
    go true e = inr (ap (ends_with s) (added a.cell ∙ ap (λ t. group_refs_at a.cell old ++ (if t then s ∷ [] else [])) e) ∙ ends_new s (group_refs_at a.cell old))
    go false e = let h = kept a.cell e in inl (omega (arith, room, h))

-- with one more group, whose transaction is not decided
pub index_started : (old new : Index) (decided : List TxnId) (es : List StartedGroup) (e : StartedGroup) → IsIndexOf old decided es → is_listed is_txn decided e.id ≡ false → IsAddedAt (group_ref_of e) e.cells old new → IsIndexOf new decided (es ++ e ∷ [])
index_started old new decided es e h unknown added c =
    added c ∙ ap (λ ss. ss ++ (if uses_cell c e then group_ref_of e ∷ [] else [])) (h c) ∙ go (uses_cell c e)
    ∙ sym (filter-append (λ (s : GroupRef). not (is_listed is_txn decided s.id)) (group_refs_of c es) (if uses_cell c e then group_ref_of e ∷ [] else []))
    ∙ ap (undecided_refs decided) (sym (group_refs_more c es e))
  where
    go : (u : Bool) → undecided_refs decided (group_refs_of c es) ++ (if u then group_ref_of e ∷ [] else []) ≡ undecided_refs decided (group_refs_of c es) ++ undecided_refs decided (if u then group_ref_of e ∷ [] else [])
    go true = ap (λ b. undecided_refs decided (group_refs_of c es) ++ (if not b then group_ref_of e ∷ [] else [])) (sym unknown)
    go false = refl

-- ---- what is decided is taken out

pub indexed_group_refs : (index : Index) (decided : List TxnId) (es : List StartedGroup) → IsIndexOf index decided es → AreGroupRefsOf es index
indexed_group_refs index decided es h c s k = indexed_is c index decided es h s k

without_again : (id : TxnId) (ss : List GroupRef) → without id (without id ss) ≡ without id ss
without_again id ss = filter_both (λ (s : GroupRef). not (is_txn s.id id)) (λ s. not (is_txn s.id id)) (λ s. not (is_txn s.id id)) (λ s. both (not (is_txn s.id id))) ss
  where
    both : (b : Bool) → (b && b) ≡ b
    both true = refl
    both false = refl

out_once : (id : TxnId) (ss : List GroupRef) (u t : Bool) → (if t then without id (if u then without id ss else ss) else (if u then without id ss else ss)) ≡ (if u || t then without id ss else ss)
out_once id ss true true = without_again id ss
out_once id ss true false = refl
out_once id ss false true = refl
out_once id ss false false = refl

pub out_more : (id : TxnId) (first next passes : Cell → Bool) (old mid new : Index) → ((c : Cell) → passes c ≡ (first c || next c)) → IsOutOf id first old mid → IsOutOf id next mid new → IsOutOf id passes old new
out_more id first next passes old mid new is so_far step c =
    step c ∙ ap (λ ss. if next c then without id ss else ss) (so_far c) ∙ out_once id (group_refs_at c old) (first c) (next c) ∙ ap (λ t. if t then without id (group_refs_at c old) else group_refs_at c old) (sym (is c))

-- out of the cells of all its groups, it is out of all cells
pub out_of_all : (id : TxnId) (es : List StartedGroup) (old new : Index) → AreGroupRefsOf es old → IsOutOf id (λ c. list_any (λ e. is_txn e.id id && uses_cell c e) es) old new → IsOutOfAll id old new
out_of_all id es old new group_refs out c = out c ∙ go (list_any (λ e. is_txn e.id id && uses_cell c e) es) refl
  where
    go : (b : Bool) → list_any (λ e. is_txn e.id id && uses_cell c e) es ≡ b → (if b then without id (group_refs_at c old) else group_refs_at c old) ≡ without id (group_refs_at c old)
    go true h = refl
    go false h = sym (filter_all (λ (s : GroupRef). not (is_txn s.id id)) (group_refs_at c old) (λ s k. none s (group_refs c s k) (is_txn s.id id) refl))
      where
        none : (s : GroupRef) → IsGroupRefOf es c s → (t : Bool) → is_txn s.id id ≡ t → not t ≡ true
        none s p false e = refl
        none s p true e =
            let own : is_txn p.group.id id ≡ true = ap (λ (x : GroupRef). is_txn x.id id) (sym p.is) ∙ e in
            absurd (false≢true (sym h ∙ has_any (λ e. is_txn e.id id && uses_cell c e) es p.group p.has (λ i. own i && p.used i)))

pub out_none : (old : Index) → AreOut [] old old
out_none old c = sym (filter_all (λ (s : GroupRef). not (is_listed is_txn [] s.id)) (group_refs_at c old) (λ s k. refl))

pub still_group_refs : (ids : List TxnId) (es : List StartedGroup) (old new : Index) → AreOut ids old new → AreGroupRefsOf es old → AreGroupRefsOf es new
still_group_refs ids es old new out group_refs c s k = group_refs c s (from_has_filter (λ (x : GroupRef). not (is_listed is_txn ids x.id)) s (group_refs_at c old) (subst (Has s) (out c) k)).0

listed_also : (ids : List TxnId) (k : ℕ) (d t : TxnId) → k < length ids → is_listed is_txn (take (k + 1) ids) t ≡ (is_listed is_txn (take k ids) t || is_txn (get_or ids k d) t)
listed_also ids k d t within =
    is_listed-any (take (k + 1) ids) t ∙ list_any_more (λ x. is_txn x t) ids k d within ∙ ap (λ b. b || is_txn (get_or ids k d) t) (sym (is_listed-any (take k ids) t))

pub are_out_more : (ids : List TxnId) (k : ℕ) (d : TxnId) (old mid new : Index) → k < length ids → AreOut (take k ids) old mid → IsOutOfAll (get_or ids k d) mid new → AreOut (take (k + 1) ids) old new
are_out_more ids k d old mid new within so_far step c =
    step c ∙ ap (without (get_or ids k d)) (so_far c)
    ∙ filter_both (λ (s : GroupRef). not (is_listed is_txn (take k ids) s.id)) (λ s. not (is_txn s.id (get_or ids k d))) (λ s. not (is_listed is_txn (take (k + 1) ids) s.id))
    (λ s. neither (is_listed is_txn (take k ids) s.id) (is_txn s.id (get_or ids k d)) ∙ ap not (sym (listed_also ids k d s.id within ∙ ap (λ b. is_listed is_txn (take k ids) s.id || b) (is_txn-swap (get_or ids k d) s.id)))) (group_refs_at c old)
  where
    neither : (a b : Bool) → (not a && not b) ≡ not (a || b)
    neither true b = refl
    neither false b = refl

-- what is decided is exactly what was, and these
pub index_decided : (old new : Index) (before ids after : List TxnId) (es fs : List StartedGroup) → IsIndexOf old before es → AreOut ids old new → AreSameGroups es fs → ((t : TxnId) → is_listed is_txn after t ≡ (is_listed is_txn before t || is_listed is_txn ids t)) → IsIndexOf new after fs
index_decided old new before ids after es fs h out same is c =
    out c ∙ ap (filter (λ (s : GroupRef). not (is_listed is_txn ids s.id))) (h c)
    ∙ filter_both (λ (s : GroupRef). not (is_listed is_txn before s.id)) (λ s. not (is_listed is_txn ids s.id)) (λ s. not (is_listed is_txn after s.id))
    (λ s. neither (is_listed is_txn before s.id) (is_listed is_txn ids s.id) ∙ ap not (sym (is s.id))) (group_refs_of c es)
    ∙ ap (undecided_refs after) (sym (group_refs_same c es fs same))
  where
    neither : (a b : Bool) → (not a && not b) ≡ not (a || b)
    neither true b = refl
    neither false b = refl
