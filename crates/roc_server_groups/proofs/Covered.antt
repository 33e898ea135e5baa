-- A use that another one covers meets nothing that the other does not meet
use Rattle.std.proofs.Common.{◌≡◌, ◌≤◌, Bool, true, false, cond, not, ◌&&◌, ◌||◌, List, [], ◌∷◌, ◌++◌, length, filter, refl, sym, ap, ◌∙◌, length-append, arith}
use Rattle.std.proofs.lemmas.Bool.{and_parts, false≢true}
use Rattle.std.proofs.lemmas.List.Concat.{flat_map-append}
use Rattle.std.proofs.lemmas.List.Folds.{list_any-append}
use Rattle.std.specs.List.{list_any, flat_map}
use Rattle.roc_sequence.proofs.Holds.{any_has, has_any}
use Rattle.roc_rows.specs.declared.cell.Cell.{Cell}
use Rattle.roc_rows.specs.Cells.{is_cell}
use Rattle.roc_rows.proofs.CellLaws.{is_cell-true}
use Rattle.roc_group.specs.declared.access.Access.{Access}
use Rattle.roc_group.specs.Accesses.{meets}
use Rattle.roc_base.specs.declared.id.TxnId.{TxnId}
use Rattle.roc_base.specs.TxnId.{is_txn}
use Rattle.roc_base.specs.Equality.{same_tag}
use Rattle.roc_sequence.specs.Places.{is_listed}
use Rattle.roc_plan.specs.Groups.{Plan, is_immediate_of}
use Rattle.roc_step.specs.declared.started.StartedGroup.{StartedGroup}
use Rattle.roc_step.specs.Start.{conflicts_before, is_user, users}
use Rattle.roc_server_groups.specs.Inner.Covered.{covers, with_use, AreSameUses}

abbrev touches : Access → Access → Bool
touches x a = is_cell x.cell a.cell && (x.writes || a.writes)

-- one that covers it meets what it meets
covered_test : (c x b a : Bool) → (b || not a) ≡ true → (c && (x || a)) ≡ true → (c && (x || b)) ≡ true
covered_test false x b a h k = k
covered_test true true b a h k = refl
covered_test true false true a h k = refl
covered_test true false false true h k = absurd (false≢true h)
covered_test true false false false h k = absurd (false≢true k)

touched : (x b a : Access) → covers b a ≡ true → touches x a ≡ true → touches x b ≡ true
touched x b a h k =
    let p = and_parts (is_cell b.cell a.cell) (b.writes || not a.writes) h in
    let here : touches x a ≡ (is_cell x.cell b.cell && (x.writes || a.writes)) = ap (λ (c : Cell). is_cell x.cell c && (x.writes || a.writes)) (sym (is_cell-true b.cell a.cell p.0)) in
    covered_test (is_cell x.cell b.cell) x.writes b.writes a.writes p.1 (sym here ∙ k)

implied : (t m : Bool) → (t ≡ true → m ≡ true) → m ≡ (t || m)
implied true m h = h refl
implied false m h = refl

last_or : (m t : Bool) → (m || (t || false)) ≡ (t || m)
last_or true true = refl
last_or true false = refl
last_or false true = refl
last_or false false = refl

-- one more before the others
pub one_used : (cells uses : List Access) (a : Access) → AreSameUses cells uses → AreSameUses (a ∷ cells) (with_use a uses)
one_used cells uses a o = go (list_any (λ b. covers b a) uses) refl
  where
    go : (t : Bool) → list_any (λ b. covers b a) uses ≡ t → AreSameUses (a ∷ cells) (cond t uses (uses ++ a ∷ []))
    go true e =
        let b = any_has (λ (b : Access). covers b a) uses e in
        record {
          met = λ x. implied (touches x a) (meets uses x) (λ k. has_any (touches x) uses b.0 b.1 (touched x b.0 a b.2 k)) ∙ ap (λ m. touches x a || m) (o.met x);
          fewer = λ f.
              let whole = length-append (f a) (flat_map f cells) in
              omega (arith, o.fewer f, whole);
        }
    go false e =
        record {
          met = λ x. list_any-append (touches x) uses (a ∷ []) ∙ last_or (meets uses x) (touches x a) ∙ ap (λ m. touches x a || m) (o.met x);
          fewer = λ f.
              let split = ap length (flat_map-append f uses (a ∷ [])) in
              let parts = length-append (flat_map f uses) (flat_map f (a ∷ [])) in
              let one = length-append (f a) [] in
              let whole = length-append (f a) (flat_map f cells) in
              omega (arith, o.fewer f, split, parts, one, whole);
        }

-- so the same groups come before
pub same_before : (plan : Plan) (left_out : List TxnId) (id : TxnId) (immediate : Bool) (cells uses : List Access) → AreSameUses cells uses
    → conflicts_before plan left_out id immediate uses ≡ conflicts_before plan left_out id immediate cells
same_before plan left_out id immediate cells uses o = λ i e.
    not (is_txn e.id id) && (not (is_listed is_txn left_out e.id) && (same_tag (is_immediate_of plan e.proc e.group) immediate && list_any (λ x. o.met x i) e.cells))

-- and there are no more pairs of a cell and a group that uses it
pub fewer_users : (plan : Plan) (left_out : List TxnId) (immediate : Bool) (cells uses : List Access) (es : List StartedGroup) → AreSameUses cells uses
    → length (users plan left_out immediate uses es) ≤ length (users plan left_out immediate cells es)
fewer_users plan left_out immediate cells uses es o = o.fewer (λ a. filter (is_user plan left_out immediate a.cell) es)
