-- Data flows forward, from pieces declared `now`
use Rattle.std.proofs.Common.{◌≡◌, ℕ, zero, suc, ◌<◌, ◌≤◌, Bool, true, false, ◌||◌, ◌==◌, cond, List, [], ◌∷◌, ◌++◌, length, get_or, refl, sym, ap, subst, ◌∙◌, ◌⊎◌, inl, inr, arith}
use Rattle.std.proofs.lemmas.Bool.{false≢true, or_cases, eq-eqb, eqb-true, cases_lt}
use Rattle.std.proofs.lemmas.List.{get_or_past}
use Rattle.std.proofs.lemmas.List.Folds.{list_any-append}
use Rattle.std.specs.Bool.{nat_lt}
use Rattle.std.specs.List.{AllByRecursion, list_any, filter_map, range_with_len}
use Rattle.roc_sequence.specs.Lists.{Has}
use Rattle.roc_sequence.specs.Rising.{IsRising}
use Rattle.roc_sequence.proofs.Holds.{all_at, all_has, any_has, has_any}
use Rattle.roc_sequence.proofs.Members.{has_left, has_right}
use Rattle.roc_sequence.proofs.Ranges.{range_below}
use Rattle.roc_program.specs.Program.{Workload, Procedure, Piece, Table, Expression, Statement, Get, Set, Out}
use Rattle.roc_program.specs.LookUps.{no_piece, no_procedure}
use Rattle.roc_program.specs.Pieces.{piece_of}
use Rattle.roc_program.specs.Names.{uses, id_uses, statement_uses, piece_uses, binding, bindings_of, bindings, has_name}
use Rattle.roc_program.specs.WellFormed.{IsOver, IsBody, IsPiece, known_behind, ArePieces, IsProcedure, IsProgram}
use Rattle.roc_program.proofs.ValueLaws.{uses_known}
use Rattle.roc_merge_groups.specs.Groups.{piece_numbered}
use Rattle.roc_merge_groups.specs.Flow.{feeds, Leads, directly, onward}
use Rattle.roc_merge_groups.proofs.Elements.{rising_behind, rising_across, numbers_one_way, range_above, range_rising}

-- ---- names that a piece uses

pub name_has : (names : List ℕ) (n : ℕ) → has_name names n ≡ true → Has n names
name_has names n h =
    let r = any_has (λ m. m == n) names h in
    subst (λ m. Has m names) (eqb-true r.0 n r.2) r.1

pub has_named : (names : List ℕ) (n : ℕ) → Has n names → has_name names n ≡ true
has_named names n h = has_any (λ m. m == n) names n h (eq-eqb n n refl)

pub either_name : (xs ys : List ℕ) (n : ℕ) → has_name (xs ++ ys) n ≡ true → (has_name xs n ≡ true) ⊎ (has_name ys n ≡ true)
either_name xs ys n h = or_cases (has_name xs n) (has_name ys n) (sym (list_any-append (λ m. m == n) xs ys) ∙ h)

id_known : (known : List ℕ) (id : List Expression) (n : ℕ) → AllByRecursion (IsOver known) id → list_any (λ e. uses e n) id ≡ true → has_name known n ≡ true
id_known known [] n over h = absurd (false≢true h)
id_known known (e ∷ es) n over h =
    elim (or_cases (uses e n) (list_any (λ e. uses e n) es) h) [
      | inl k ↦ uses_known known e n over.0 k
      | inr k ↦ id_known known es n over.1 k
    ]

-- a name that statements use was known, or bound before in the piece, or is bound by them
abbrev IsFrom : (known own : List ℕ) → List Statement → ℕ → Type 0
IsFrom known own body n = (has_name known n ≡ true) ⊎ ((has_name own n ≡ true) ⊎ Has n (filter_map binding body))

of_value : (known own : List ℕ) (body : List Statement) (n : ℕ) → has_name (known ++ own) n ≡ true → IsFrom known own body n
of_value known own body n h = elim (either_name known own n h) [ inl k ↦ inl k | inr k ↦ inr (inl k) ]

body_from : (tables : List Table) (known own : List ℕ) (body : List Statement) (n : ℕ) → IsBody tables known own body → list_any (λ s. statement_uses s n) body ≡ true → IsFrom known own body n
body_from tables known own [] n is h = absurd (false≢true h)
body_from tables known own (Get number from ∷ rest) n is h =
    elim (or_cases (id_uses from n) (list_any (λ s. statement_uses s n) rest) h) [
      | inl k ↦ inl (id_known known from.id n is.0.id k)
      | inr k ↦ elim (body_from tables known (own ++ number ∷ []) rest n is.1 k) [
        | inl i ↦ inl i
        | inr j ↦ elim j [
          | inl i ↦ elim (either_name own (number ∷ []) n i) [
            | inl l ↦ inr (inl l)
            | inr l ↦ elim (or_cases (number == n) false l) [ inl e ↦ inr (inr (inl (sym (eqb-true number n e)))) | inr e ↦ absurd (false≢true e) ]
          ]
          | inr i ↦ inr (inr (inr i))
        ]
      ]
    ]
body_from tables known own (Set to value ∷ rest) n is h =
    elim (or_cases (id_uses to n || uses value n) (list_any (λ s. statement_uses s n) rest) h) [
      | inl k ↦ elim (or_cases (id_uses to n) (uses value n) k) [
        | inl i ↦ inl (id_known known to.id n is.0.id i)
        | inr i ↦ of_value known own (Set to value ∷ rest) n (uses_known (known ++ own) value n is.1 i)
      ]
      | inr k ↦ body_from tables known own rest n is.2 k
    ]
body_from tables known own (Out value ∷ rest) n is h =
    elim (or_cases (uses value n) (list_any (λ s. statement_uses s n) rest) h) [
      | inl k ↦ of_value known own (Out value ∷ rest) n (uses_known (known ++ own) value n is.0 k)
      | inr k ↦ body_from tables known own rest n is.1 k
    ]

piece_from : (tables : List Table) (known : List ℕ) (piece : Piece) (n : ℕ) → IsPiece tables known piece → piece_uses piece n ≡ true → (has_name known n ≡ true) ⊎ Has n (bindings_of piece)
piece_from tables known piece n is h =
    elim (or_cases (uses piece.place n) (list_any (λ s. statement_uses s n) piece.body) h) [
      | inl k ↦ inl (uses_known known piece.place n is.place k)
      | inr k ↦ elim (body_from tables known [] piece.body n is.body k) [
        | inl i ↦ inl i
        | inr j ↦ elim j [ inl i ↦ absurd (false≢true i) | inr i ↦ inr i ]
      ]
    ]

-- ---- pieces in program order

abbrev piece_at : List Piece → ℕ → Piece
piece_at ps k = get_or ps k no_piece

-- a `now` piece before y binds the name
record IsEarlier (ps : List Piece) (y n : ℕ) : Type 0 where
  pub z : ℕ
  pub before : z < y
  pub now : (piece_at ps z).is_now ≡ true
  pub binds : Has n (bindings_of (piece_at ps z))

pieces_from : (tables : List Table) (known : List ℕ) (ps : List Piece) (y n : ℕ) → ArePieces tables known ps → piece_uses (piece_at ps y) n ≡ true
    → (has_name known n ≡ true) ⊎ (IsEarlier ps y n ⊎ Has n (bindings_of (piece_at ps y)))
pieces_from tables known [] y n is h = absurd (false≢true h)
pieces_from tables known (p ∷ ps) zero n is h = elim (piece_from tables known p n is.0 h) [ inl k ↦ inl k | inr k ↦ inr (inr k) ]
pieces_from tables known (p ∷ ps) (suc y) n is h =
    elim (pieces_from tables (known_behind known p) ps y n is.1 h) [
      | inl k ↦ behind p.is_now refl k
      | inr j ↦ elim j [
        | inl i ↦ (let l = i.before in inr (inl (record { z = suc i.z; before = omega arith; now = i.now; binds = i.binds })))
        | inr i ↦ inr (inr i)
      ]
    ]
  where
    behind : (b : Bool) → p.is_now ≡ b → has_name (cond b (known ++ bindings_of p) known) n ≡ true
        → (has_name known n ≡ true) ⊎ (IsEarlier (p ∷ ps) (suc y) n ⊎ Has n (bindings_of (piece_at (p ∷ ps) (suc y))))
    behind true e k = elim (either_name known (bindings_of p) n k) [
      | inl i ↦ inl i
      | inr i ↦ inr (inl (record { z = 0; before = omega arith; now = e; binds = name_has (bindings_of p) n i }))
    ]
    behind false e k = inl k

-- ---- each name is bound once

pub bound_in : (ps : List Piece) (z n : ℕ) → Has n (bindings_of (piece_at ps z)) → Has n (bindings ps)
bound_in [] z n h = absurd h
bound_in (p ∷ ps) zero n h = has_left n (bindings_of p) (bindings ps) h
bound_in (p ∷ ps) (suc z) n h = has_right n (bindings_of p) (bindings ps) (bound_in ps z n h)

pub bound_once : (ps : List Piece) (z y n : ℕ) → IsRising nat_lt (bindings ps) → Has n (bindings_of (piece_at ps z)) → Has n (bindings_of (piece_at ps y)) → z ≡ y
bound_once [] z y n r h k = absurd h
bound_once (p ∷ ps) zero zero n r h k = refl
bound_once (p ∷ ps) zero (suc y) n r h k =
    let t = rising_across nat_lt (bindings_of p) (bindings ps) n n r h (bound_in ps y n k) in absurd (numbers_one_way n n t t)
bound_once (p ∷ ps) (suc z) zero n r h k =
    let t = rising_across nat_lt (bindings_of p) (bindings ps) n n r k (bound_in ps z n h) in absurd (numbers_one_way n n t t)
bound_once (p ∷ ps) (suc z) (suc y) n r h k = ap suc (bound_once ps z y n (rising_behind nat_lt (bindings_of p) (bindings ps) r) h k)

-- ---- data flow

pub forward_in : (tables : List Table) (procedure : Procedure) (z y : ℕ) → IsProcedure tables procedure
    → list_any (piece_uses (piece_at procedure.pieces y)) (bindings_of (piece_at procedure.pieces z)) ≡ true
    → (z ≡ y) ⊎ ((z < y) × ((piece_at procedure.pieces z).is_now ≡ true))
forward_in tables procedure z y is h =
    let ps : List Piece = procedure.pieces in
    let r = any_has (piece_uses (piece_at ps y)) (bindings_of (piece_at ps z)) h in
    let n : ℕ = r.0 in
    let count : ℕ = length (bindings ps) in
    let rises : IsRising nat_lt (bindings ps) = subst (λ xs. IsRising nat_lt xs) (sym is.numbers) (range_rising procedure.arguments count) in
    elim (pieces_from tables (range_with_len 0 procedure.arguments) ps y n is.pieces r.2) [
      | inl k ↦ absurd (not_argument procedure.arguments count n (name_has _ n k) (subst (λ xs. Has n xs) is.numbers (bound_in ps z n r.1)))
      | inr j ↦ elim j [
        | inl i ↦ (let same : z ≡ i.z = bound_once ps z i.z n rises r.1 i.binds in let l = i.before in inr (omega arith, ap (λ k. (piece_at ps k).is_now) same ∙ i.now))
        | inr i ↦ inl (bound_once ps z y n rises r.1 i)
      ]
    ]
  where
    not_argument : (arguments count n : ℕ) → Has n (range_with_len 0 arguments) → Has n (range_with_len arguments count) → ⊥
    not_argument arguments count n h k =
        let l : n < arguments = all_has (λ m. m < arguments) n (range_with_len 0 arguments) (range_below 0 arguments arguments (omega arith)) h in
        let g = all_has (λ m. nat_lt n m ≡ true) n (range_with_len arguments count) (range_above n arguments count l) k in
        numbers_one_way n n g g

module _ (program : Workload) (is : IsProgram program) (proc : ℕ) where
  -- a piece that another needs stands before it and is declared `now`, unless the two are one
  pub forward : (z y : ℕ) → feeds program proc z y ≡ true → (z ≡ y) ⊎ ((z < y) × ((piece_of program (piece_numbered proc z)).is_now ≡ true))
  forward z y h =
      elim (cases_lt proc (length program.procedures)) [
        | inl l ↦ forward_in program.tables (get_or program.procedures proc no_procedure) z y (all_at (IsProcedure program.tables) program.procedures proc no_procedure is.procedures l) h
        | inr past ↦ (let none : get_or program.procedures proc no_procedure ≡ no_procedure = get_or_past program.procedures proc no_procedure past in
            absurd (false≢true (subst (λ (p : Procedure). list_any (piece_uses (get_or p.pieces y no_piece)) (bindings_of (get_or p.pieces z no_piece)) ≡ true) none h)))
      ]

  pub rises : (z y : ℕ) → Leads (feeds program proc) z y → z ≤ y
  rises z _ (directly {to} h) = elim (forward z to h) [ inl e ↦ omega arith | inr l ↦ (let k = l.0 in omega arith) ]
  rises z _ (onward {by} {to} k h) = let first = rises z by k in elim (forward by to h) [ inl e ↦ omega arith | inr l ↦ (let k = l.0 in omega arith) ]

  -- what leads to another piece is declared `now`
  pub now_before : (z y : ℕ) → Leads (feeds program proc) z y → (z ≡ y) ⊎ ((piece_of program (piece_numbered proc z)).is_now ≡ true)
  now_before z _ (directly {to} h) = elim (forward z to h) [ inl e ↦ inl e | inr l ↦ inr l.1 ]
  now_before z _ (onward {by} {to} k h) =
      elim (now_before z by k) [
        | inr now ↦ inr now
        | inl e ↦ elim (forward z to (subst (λ m. feeds program proc m to ≡ true) (sym e) h)) [ inl f ↦ inl f | inr l ↦ inr l.1 ]
      ]
