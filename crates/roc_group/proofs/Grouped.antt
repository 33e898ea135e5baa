-- The groups of a procedure of an accepted plan: which pieces are in which, of what class, and which group binds a name
use Rattle.std.proofs.Common.{◌≡◌, ℕ, zero, suc, ◌<◌, ◌≤◌, ◌+◌, Bool, true, false, cond, not, ◌&&◌, ◌==◌, List, [], ◌∷◌, ◌++◌, length, map, get_or, refl, sym, ap, subst, ◌∙◌, ◌⊎◌, inl, inr, arith}
use Rattle.std.specs.Bool.{nat_lt}
use Rattle.std.specs.List.{list_any, range_with_len, position_or_len}
use Rattle.std.proofs.lemmas.Bool.{false≢true, eq-eqb, eqb-true, ltb-true, cases_eq, cases_lt}
use Rattle.std.proofs.lemmas.List.{length-map, get_or_past}
use Rattle.roc_sequence.specs.Lists.{Has}
use Rattle.roc_sequence.specs.Rising.{IsRising}
use Rattle.roc_sequence.proofs.Holds.{all_has, all_at, any_has, has_any}
use Rattle.roc_program.specs.Program.{Procedure, Piece}
use Rattle.roc_program.specs.LookUps.{no_piece, no_procedure}
use Rattle.roc_program.specs.Names.{uses, bindings_of, bindings, has_name}
use Rattle.roc_program.specs.WellFormed.{IsProcedure, ArePieces, known_behind}
use Rattle.roc_merge_groups.specs.Groups.{groups_in, first_piece, piece_numbered}
use Rattle.roc_merge_groups.specs.Accepted.{IsAcceptedIn}
use Rattle.roc_merge_groups.proofs.Elements.{place_of_has, has_at_place}
use Rattle.roc_merge_groups.proofs.Forward.{either_name, name_has, has_named}
use Rattle.roc_sequence.proofs.Ranges.{range_below}
use Rattle.roc_sequence.proofs.Members.{from_has_flat_map}
use Rattle.roc_program.proofs.ValueLaws.{uses_known}
use Rattle.roc_merge_groups.proofs.FusedClasses.{numbered_once}
use Rattle.roc_plan.specs.Groups.{Plan, Group, no_group, procedure_of, groups_of, group_of, is_immediate_of, bound_in, bound_of, source_in}
use Rattle.roc_plan.specs.Accepted.{IsAccepted, grouping_of, is_piece_immediate}
use Rattle.roc_group.proofs.Touches.{binds_in}
use Rattle.roc_group.proofs.Starts.{bound_named}
use Rattle.roc_group.proofs.GroupStarts.{at, HasNames, names_of_procedure, pieces_bound, binder, somewhere}

module _ (plan : Plan) (proc : ℕ) (ok : IsAccepted plan) (there : proc < length plan.program.procedures) where
  abbrev pub pr : Procedure
  pr = procedure_of plan proc

  abbrev pub pieces_of : ℕ → List ℕ
  pieces_of g = (group_of plan proc g).pieces

  abbrev pub rows : List (List ℕ)
  rows = groups_in (grouping_of plan) proc

  pub is_procedure : IsProcedure plan.program.tables pr
  is_procedure = all_at (IsProcedure plan.program.tables) plan.program.procedures proc no_procedure ok.well_formed.procedures there

  pub has_names : HasNames pr
  has_names = names_of_procedure plan.program.tables pr is_procedure

  accepted : IsAcceptedIn plan.program (is_piece_immediate plan) proc rows
  accepted = ok.grouping.each proc there

  -- ---- a group's pieces, among the groups

  -- the rows are the groups' pieces
  rows_are : rows ≡ map (λ g. g.pieces) (groups_of plan proc)
  rows_are = go plan.groups proc
    where
      go : (gs : List (List Group)) (k : ℕ) → get_or (map (map (λ (g : Group). g.pieces)) gs) k [] ≡ map (λ (g : Group). g.pieces) (get_or gs k [])
      go [] k = refl
      go (g ∷ gs) zero = refl
      go (g ∷ gs) (suc k) = go gs k

  row_at : (g : ℕ) → get_or rows g [] ≡ pieces_of g
  row_at g = ap (λ (rs : List (List ℕ)). get_or rs g []) rows_are ∙ go (groups_of plan proc) g
    where
      go : (gs : List Group) (k : ℕ) → get_or (map (λ (g : Group). g.pieces) gs) k [] ≡ (get_or gs k no_group).pieces
      go [] k = refl
      go (g ∷ gs) zero = refl
      go (g ∷ gs) (suc k) = go gs k

  row_count : length rows ≡ length (groups_of plan proc)
  row_count = ap (λ (rs : List (List ℕ)). length rs) rows_are ∙ length-map (groups_of plan proc) (λ g. g.pieces)

  -- a piece of a group is in one of the rows
  row_has : (g x : ℕ) → Has x (pieces_of g) → g < length rows
  row_has g x h = elim (cases_lt g (length rows)) [ inl l ↦ l | inr past ↦ absurd (subst (λ xs. Has x xs) (sym (row_at g) ∙ get_or_past rows g [] past) h) ]

  pub has_row : (g x : ℕ) → Has x (pieces_of g) → Has (pieces_of g) rows
  has_row g x h = subst (λ r. Has r rows) (row_at g) (has_at_place rows g [] (row_has g x h))

  -- a row has one number
  number_of_row : (g h : ℕ) → g < length rows → h < length rows → pieces_of g ≡ pieces_of h → g ≡ h
  number_of_row g h l m e = numbered_once rows accepted.grouping.numbered g h l m (row_at g ∙ e ∙ sym (row_at h))

  -- a piece is in one group
  pub one_group : (g h x : ℕ) → Has x (pieces_of g) → Has x (pieces_of h) → g ≡ h
  one_group g h x i j = number_of_row g h (row_has g x i) (row_has h x j) (accepted.grouping.once (pieces_of g) (pieces_of h) x (has_row g x i) (has_row h x j) i j)

  pub group_rising : (g : ℕ) → IsRising nat_lt (pieces_of g)
  group_rising g = elim (cases_lt g (length rows)) [
    | inl l ↦ subst (λ xs. IsRising nat_lt xs) (row_at g) (all_at (IsRising nat_lt) rows g [] accepted.grouping.rising l)
    | inr past ↦ subst (λ xs. IsRising nat_lt xs) (sym (get_or_past rows g [] past) ∙ row_at g) tt
  ]

  -- each piece of the procedure is in a group
  pub in_a_group : (x : ℕ) → x < length pr.pieces → (g : ℕ) × (g < length (groups_of plan proc)) × Has x (pieces_of g)
  in_a_group x l =
      let t = (accepted.grouping.whole x).0 l in
      let i = place_of_has t.group rows [] t.is in
      (i.0, omega (arith, i.1, row_count), subst (λ xs. Has x xs) (sym i.2 ∙ row_at i.0) t.one)

  pub is_piece : (g x : ℕ) → Has x (pieces_of g) → x < length pr.pieces
  is_piece g x h = (accepted.grouping.whole x).1 (record { group = pieces_of g; is = has_row g x h; one = h; other = h })

  -- ---- the group that a name is taken from

  found_passes : (p : Group → Bool) (gs : List Group) (i : ℕ) → i < length gs → p (get_or gs i no_group) ≡ true → p (get_or gs (position_or_len p gs) no_group) ≡ true
  found_passes p [] i l e = absurd (omega (arith, l))
  found_passes p (g ∷ gs) zero l e = first (p g) refl
    where
      first : (b : Bool) → p g ≡ b → p (get_or (g ∷ gs) (cond (not b) (1 + position_or_len p gs) 0) no_group) ≡ true
      first true f = f
      first false f = absurd (false≢true (sym f ∙ e))
  found_passes p (g ∷ gs) (suc i) l e = later (p g) refl (found_passes p gs i (omega (arith, l)) e)
    where
      later : (b : Bool) → p g ≡ b → p (get_or gs (position_or_len p gs) no_group) ≡ true → p (get_or (g ∷ gs) (cond (not b) (1 + position_or_len p gs) 0) no_group) ≡ true
      later true f ih = f
      later false f ih = let next : 1 + position_or_len p gs ≡ suc (position_or_len p gs) = omega arith in subst (λ k. p (get_or (g ∷ gs) k no_group) ≡ true) (sym next) ih

  abbrev pub source : ℕ → ℕ
  source n = (source_in pr (groups_of plan proc) n).group

  -- a piece that binds a name, and its group
  source_binds : (g x n : ℕ) → Has x (pieces_of g) → binds_in (at pr x) n ≡ true → has_name (bound_of plan proc (source n)) n ≡ true
  source_binds g x n h e =
      found_passes (λ group. has_name (bound_in pr group.pieces) n) (groups_of plan proc) g (let l = row_has g x h in omega (arith, l, row_count))
      (pieces_bound pr (pieces_of g) n ∙ has_any (λ k. binds_in (at pr k) n) (pieces_of g) x h e)

  pub source_is : (g x n : ℕ) → Has x (pieces_of g) → binds_in (at pr x) n ≡ true → source n ≡ g
  source_is g x n h e =
      let j = any_has (λ k. binds_in (at pr k) n) (pieces_of (source n)) (sym (pieces_bound pr (pieces_of (source n)) n) ∙ source_binds g x n h e) in
      one_group (source n) g x (subst (λ k. Has k (pieces_of (source n))) (binder pr has_names j.0 x n j.2 e) j.1) h

  bound_by_piece : (n : ℕ) → Has n (bindings pr.pieces) → (x : ℕ) × (x < length pr.pieces) × (binds_in (at pr x) n ≡ true)
  bound_by_piece n h =
      let r = from_has_flat_map bindings_of n pr.pieces h in
      let i = place_of_has r.0 pr.pieces no_piece r.1 in
      (i.0, i.1, bound_named (at pr i.0) n ∙ has_named (bindings_of (at pr i.0)) n (subst (λ p. Has n (bindings_of p)) (sym i.2) r.2))

  pub bound_there : (n : ℕ) → Has n (bindings pr.pieces) → has_name (bound_of plan proc (source_in pr (groups_of plan proc) n).group) n ≡ true
  bound_there n h = let x = bound_by_piece n h in let g = in_a_group x.0 x.1 in source_binds g.0 x.0 n g.2 x.2

  -- ---- places

  -- the names of a piece's place are arguments, or bound by pieces before it
  place_known : (known : List ℕ) (qs : List Piece) (y n : ℕ) → ArePieces plan.program.tables known qs → uses (get_or qs y no_piece).place n ≡ true
      → (has_name known n ≡ true) ⊎ ((z : ℕ) × (z < y) × Has n (bindings_of (get_or qs z no_piece)))
  place_known known [] y n is u = absurd (false≢true u)
  place_known known (q ∷ qs) zero n is u = inl (uses_known known q.place n is.0.place u)
  place_known known (q ∷ qs) (suc y) n is u =
      elim (place_known (known_behind known q) qs y n is.1 u) [
        | inl k ↦ behind q.is_now k
        | inr z ↦ (let l = z.1 in inr (suc z.0, omega (arith, l), z.2))
      ]
    where
      behind : (b : Bool) → has_name (cond b (known ++ bindings_of q) known) n ≡ true → (has_name known n ≡ true) ⊎ ((z : ℕ) × (z < suc y) × Has n (bindings_of (get_or (q ∷ qs) z no_piece)))
      behind true k = elim (either_name known (bindings_of q) n k) [ inl i ↦ inl i | inr i ↦ inr (0, omega arith, name_has (bindings_of q) n i) ]
      behind false k = inl k

  -- no piece binds an argument
  pub argument_not_bound : (x n : ℕ) → has_name (range_with_len 0 pr.arguments) n ≡ true → binds_in (at pr x) n ≡ true → ⊥
  argument_not_bound x n k e =
      let a : n < pr.arguments = all_has (λ m. m < pr.arguments) n (range_with_len 0 pr.arguments) (range_below 0 pr.arguments pr.arguments (omega arith)) (name_has (range_with_len 0 pr.arguments) n k) in
      let b = has_names.above n (name_has (bindings pr.pieces) n (somewhere pr x n e)) in omega (arith, a, b)

  -- so no piece from there on binds one of them
  pub place_uses_earlier : (y x n : ℕ) → y ≤ x → uses (at pr y).place n ≡ true → binds_in (at pr x) n ≡ true → ⊥
  place_uses_earlier y x n l u e =
      elim (place_known (range_with_len 0 pr.arguments) pr.pieces y n is_procedure.pieces u) [
        | inl k ↦ argument_not_bound x n k e
        | inr z ↦ (let m = z.1 in let same : z.0 ≡ x = binder pr has_names z.0 x n (bound_named (at pr z.0) n ∙ has_named (bindings_of (at pr z.0)) n z.2) e in absurd (omega (arith, l, m, same)))
      ]

  -- the pieces of a group have one place
  pub in_one_place : (g x y : ℕ) → Has x (pieces_of g) → Has y (pieces_of g) → (at pr x).place ≡ (at pr y).place
  in_one_place g x y h k =
      elim (cases_eq x y) [
        | inl e ↦ ap (λ z. (at pr z).place) e
        | inr n ↦ accepted.co_located x y n (record { group = pieces_of g; is = has_row g x h; one = h; other = k })
      ]

  -- ---- classes

  -- a piece of an immediate group is immediate, and so the other way
  pub piece_immediate : (g x : ℕ) → Has x (pieces_of g) → is_immediate_of plan proc g ≡ true → is_piece_immediate plan (piece_numbered proc x) ≡ true
  piece_immediate g x h e =
      has_any (λ (k : Group). k.is_immediate && list_any (λ y. y == x) k.pieces) (groups_of plan proc) (group_of plan proc g)
      (has_at_place (groups_of plan proc) g no_group (let l = row_has g x h in omega (arith, l, row_count)))
      (both (group_of plan proc g).is_immediate (list_any (λ y. y == x) (pieces_of g)) e (has_any (λ y. y == x) (pieces_of g) x h (eq-eqb x x refl)))
    where
      both : (a b : Bool) → a ≡ true → b ≡ true → (a && b) ≡ true
      both a b e f = cc

  group_immediate : (g x : ℕ) → Has x (pieces_of g) → is_piece_immediate plan (piece_numbered proc x) ≡ true → is_immediate_of plan proc g ≡ true
  group_immediate g x h e =
      let r = any_has (λ (k : Group). k.is_immediate && list_any (λ y. y == x) k.pieces) (groups_of plan proc) e in
      let i = place_of_has r.0 (groups_of plan proc) no_group r.1 in
      let p = parts r.0.is_immediate (list_any (λ y. y == x) r.0.pieces) r.2 in
      let y = any_has (λ y. y == x) r.0.pieces p.1 in
      let here : Has x (pieces_of i.0) = subst (λ (k : Group). Has x k.pieces) (sym i.2) (subst (λ z. Has z r.0.pieces) (eqb-true y.0 x y.2) y.1) in
      subst (λ k. is_immediate_of plan proc k ≡ true) (one_group i.0 g x here h) (ap (λ (k : Group). k.is_immediate) i.2 ∙ p.0)
    where
      parts : (a b : Bool) → (a && b) ≡ true → (a ≡ true) × (b ≡ true)
      parts true b e = (refl, e)
      parts false b e = absurd (false≢true e)

  -- a deferrable group is its first piece alone
  pub alone : (g x : ℕ) → Has x (pieces_of g) → is_immediate_of plan proc g ≡ false → first_piece (pieces_of g) ≡ x
  alone g x h e =
      let first : Has (first_piece (pieces_of g)) (pieces_of g) = has_at_place (pieces_of g) 0 0 (some (pieces_of g) h) in
      elim (cases_eq (first_piece (pieces_of g)) x) [
        | inl same ↦ same
        | inr n ↦ absurd (false≢true (sym e ∙ group_immediate g (first_piece (pieces_of g)) first (accepted.immediate (first_piece (pieces_of g)) x n (record { group = pieces_of g; is = has_row g x h; one = first; other = h }))))
      ]
    where
      some : (xs : List ℕ) → Has x xs → 0 < length xs
      some [] h = absurd h
      some (y ∷ ys) h = omega arith

  -- there are no two pieces in it
  pub two_alone : (g x y : ℕ) (rest : List ℕ) → pieces_of g ≡ x ∷ y ∷ rest → is_immediate_of plan proc g ≡ false → ⊥
  two_alone g x y rest is e =
      let one = alone g y (subst (λ xs. Has y xs) (sym is) (inr (inl refl))) e in
      let first : x ≡ y = ap first_piece (sym is) ∙ one in
      let l : x < y = ltb-true x y (subst (λ xs. IsRising nat_lt xs) is (group_rising g)).0.0 in
      omega (arith, l, first)

  -- the only pieces of two deferrable groups stand as these do
  pub first_pieces : (g h y x : ℕ) → Has y (pieces_of g) → Has x (pieces_of h) → is_immediate_of plan proc g ≡ false → is_immediate_of plan proc h ≡ false → g < h → y < x
  first_pieces g h y x i j e f less =
      let t : nat_lt (first_piece (get_or rows g [])) (first_piece (get_or rows h [])) ≡ true = rising_at rows accepted.grouping.numbered g h less (row_has h x j) in
      let one : first_piece (get_or rows g []) ≡ y = ap first_piece (row_at g) ∙ alone g y i e in
      let other : first_piece (get_or rows h []) ≡ x = ap first_piece (row_at h) ∙ alone h x j f in
      ltb-true y x (subst (λ k. nat_lt k x ≡ true) one (subst (λ k. nat_lt (first_piece (get_or rows g [])) k ≡ true) other t))
    where
      rising_at : (gs : List (List ℕ)) → IsRising (λ g h. nat_lt (first_piece g) (first_piece h)) gs → (i j : ℕ) → i < j → j < length gs → nat_lt (first_piece (get_or gs i [])) (first_piece (get_or gs j [])) ≡ true
      rising_at [] r i j l m = absurd (omega (arith, m))
      rising_at (g ∷ gs) r i zero l m = absurd (omega (arith, l))
      rising_at (g ∷ gs) r zero (suc j) l m = all_at (λ h. nat_lt (first_piece g) (first_piece h) ≡ true) gs j [] r.0 (omega (arith, m))
      rising_at (g ∷ gs) r (suc i) (suc j) l m = rising_at gs r.1 i j (omega (arith, l)) (omega (arith, m))
