-- The pieces that use each column, gathered piece by piece, and what they say of conflicts
use Rattle.std.proofs.Common.{◌≡◌, ◌≢◌, ℕ, ◌+◌, ◌*◌, ◌<◌, ◌≤◌, Bool, true, false, cond, ◌&&◌, ◌||◌, ◌==◌, List, [], ◌∷◌, ◌++◌, length, get_or, set, replicate, refl, sym, ap, ◌∙◌, inl, inr, arith}
use Rattle.std.proofs.lemmas.Bool.{cases_lt, eqb-true, and_parts, false≢true}
use Rattle.std.proofs.lemmas.Bool.Decides.{nat_tests}
use Rattle.std.proofs.lemmas.List.{get_or-set_same, get_or-set_other, get_or-replicate, get_or_past}
use Rattle.std.proofs.lemmas.Nat.Bits.{bit_at-zero}
use Rattle.std.specs.Int.{bit_at}
use Rattle.roc_sequence.proofs.Holds.{all_at, all_append}
use Rattle.std.proofs.lemmas.List.Folds.{list_any-append}
use Rattle.std.specs.Prelude.{nat_lt}
use Rattle.std.specs.List.{AllByRecursion, list_any}
use Rattle.roc_program.specs.Program.{Access, Expression, Statement, Get, Set, Out, Piece, Workload}
use Rattle.roc_program.specs.Conflict.{collide, are_in_conflict, exposed}
use Rattle.roc_program.specs.LookUps.{is_view_in, no_piece}
use Rattle.roc_program.specs.Pieces.{pieces_in, piece_of}
use Rattle.roc_program.specs.WellFormed.{IsProgram}
use Rattle.roc_program.specs.declared.piece_id.PieceId.{PieceId}
use Rattle.roc_program.proofs.Conflicts.{in_conflict_exposed}
use Rattle.roc_conflict.proofs.Declared.{InTables, in_exposed}
use Rattle.roc_conflict.proofs.Present.{present_or_none}
use Rattle.roc_check.specs.Inner.PieceSets.{holds, is_piece}
use Rattle.roc_check.specs.Inner.Users.{is_at, counts, is_user, meets_by, Marks, Adds, AreUsers}
use Rattle.roc_conflict.proofs.Members.{is_piece-true}

-- ---- one piece more of one column

at_place : (t c : ℕ) (a : Access) → c < 16 → a.column < 16 → is_at t c a ≡ (t * 16 + c == a.table * 16 + a.column)
at_place t c a l m = grind (arith, nat_tests)

pub marked : (sets : List (List ℕ)) (row : List ℕ) (a : Access) (id : PieceId) → a.table < 64 → a.column < 16 → length sets ≡ 1024
    → ((other : PieceId) → holds row other ≡ (holds (get_or sets (a.table * 16 + a.column) []) other || is_piece other id))
    → (t c : ℕ) (other : PieceId) → t < 64 → c < 16
    → is_user (set sets (a.table * 16 + a.column) row) t c other ≡ (is_user sets t c other || (is_piece other id && is_at t c a))
marked sets row a id l m long more t c other k n = go (t * 16 + c == a.table * 16 + a.column) refl
  where
    at : ℕ
    at = a.table * 16 + a.column

    none_more : (x y z : Bool) → z ≡ false → x ≡ (x || (y && z))
    none_more x y z h = grind (arith, nat_tests)

    one_more : (x y z : Bool) → z ≡ true → (x || y) ≡ (x || (y && z))
    one_more x y z h = grind (arith, nat_tests)

    go : (b : Bool) → (t * 16 + c == a.table * 16 + a.column) ≡ b → is_user (set sets (a.table * 16 + a.column) row) t c other ≡ (is_user sets t c other || (is_piece other id && is_at t c a))
    go true e =
        let same : t * 16 + c ≡ a.table * 16 + a.column = eqb-true _ _ e in
        ap (λ p. holds (get_or (set sets (a.table * 16 + a.column) row) p []) other) same
        ∙ ap (λ r. holds r other) (get_or-set_same sets (a.table * 16 + a.column) row [] (omega arith))
        ∙ more other ∙ ap (λ p. holds (get_or sets p []) other || is_piece other id) (sym same)
        ∙ one_more (is_user sets t c other) (is_piece other id) (is_at t c a) (at_place t c a n m ∙ e)
    go false e =
        let apart : t * 16 + c ≢ a.table * 16 + a.column = λ s. absurd (false≢true (sym e ∙ grind (arith, nat_tests))) in
        ap (λ r. holds r other) (get_or-set_other sets (a.table * 16 + a.column) (t * 16 + c) row [] apart)
        ∙ none_more (is_user sets t c other) (is_piece other id) (is_at t c a) (at_place t c a n m ∙ e)

pub unmarked : (sets : List (List ℕ)) (a : Access) (id : PieceId) → (a.table < 64 → a.column < 16 → ⊥)
    → (t c : ℕ) (other : PieceId) → t < 64 → c < 16 → is_user sets t c other ≡ (is_user sets t c other || (is_piece other id && is_at t c a))
unmarked sets a id past t c other k n = none_more (is_user sets t c other) (is_piece other id) (is_at t c a) (go (is_at t c a) refl)
  where
    none_more : (x y z : Bool) → z ≡ false → x ≡ (x || (y && z))
    none_more x y z h = grind (arith, nat_tests)

    go : (b : Bool) → is_at t c a ≡ b → b ≡ false
    go false e = refl
    go true e =
        let both = and_parts (t == a.table) (c == a.column) e in
        let table = eqb-true t a.table both.0 in
        let column = eqb-true c a.column both.1 in
        absurd (past (omega (arith, table, k)) (omega (arith, column, n)))

-- ---- one statement, and more

or_false : (x y : Bool) → x ≡ (x || (y && false))
or_false x y = grind (arith, nat_tests)

or_one : (x y z : Bool) → (x || (y && z)) ≡ (x || (y && (z || false)))
or_one x y z = grind (arith, nat_tests)

pub marks_none : (writes_alone : Bool) (id : PieceId) (sets : List (List ℕ)) → Marks writes_alone id sets sets []
marks_none b id sets = record { long = refl; exact = λ t c other l m. or_false (is_user sets t c other) (is_piece other id) }

or_more : (x y z w : Bool) → ((x || (y && z)) || (y && w)) ≡ (x || (y && (z || w)))
or_more x y z w = grind (arith, nat_tests)

pub marks_more : (b : Bool) (id : PieceId) (old mid new : List (List ℕ)) (xs ys : List Statement) → Marks b id old mid xs → Marks b id mid new ys → Marks b id old new (xs ++ ys)
marks_more b id old mid new xs ys first next = record {
  long = next.long ∙ first.long;
  exact = λ t c other l m.
      next.exact t c other l m ∙ ap (λ x. x || (is_piece other id && list_any (counts b t c) ys)) (first.exact t c other l m)
      ∙ or_more (is_user old t c other) (is_piece other id) (list_any (counts b t c) xs) (list_any (counts b t c) ys)
      ∙ ap (λ x. is_user old t c other || (is_piece other id && x)) (sym (list_any-append (counts b t c) xs ys));
}

-- a statement that does not count leaves all as it was
pub marks_not : (b : Bool) (id : PieceId) (sets : List (List ℕ)) (s : Statement) → ((t c : ℕ) → counts b t c s ≡ false) → Marks b id sets sets (s ∷ [])
marks_not b id sets s h = record {
  long = refl;
  exact = λ t c other l m. or_false (is_user sets t c other) (is_piece other id) ∙ ap (λ z. is_user sets t c other || (is_piece other id && (z || false))) (sym (h t c));
}

pub marks_one : (b : Bool) (id : PieceId) (old new : List (List ℕ)) (s : Statement) (a : Access) → length new ≡ length old → ((t c : ℕ) → counts b t c s ≡ is_at t c a)
    → ((t c : ℕ) (other : PieceId) → t < 64 → c < 16 → is_user new t c other ≡ (is_user old t c other || (is_piece other id && is_at t c a))) → Marks b id old new (s ∷ [])
marks_one b id old new s a long h exact = record {
  long = long;
  exact = λ t c other l m. exact t c other l m ∙ or_one (is_user old t c other) (is_piece other id) (is_at t c a) ∙ ap (λ z. is_user old t c other || (is_piece other id && (z || false))) (sym (h t c));
}

-- ---- one piece, and more

pub piece_added : (program : Workload) (b : Bool) (id : PieceId) (old new : List (List ℕ)) → Marks b id old new (exposed program id) → Adds program b old new (λ other. is_piece other id)
piece_added program b id old new h = record {
  long = h.long;
  exact = λ t c other l m. h.exact t c other l m ∙ ap (λ z. is_user old t c other || z) (own (is_piece other id) t c other refl);
}
  where
    own : (d : Bool) → (t c : ℕ) (other : PieceId) → is_piece other id ≡ d → (d && list_any (counts b t c) (exposed program id)) ≡ (d && list_any (counts b t c) (exposed program other))
    own false t c other e = refl
    own true t c other e = ap (λ x. list_any (counts b t c) (exposed program x)) (sym (is_piece-true other id e))

or_both : (x p q z : Bool) → ((x || (p && z)) || (q && z)) ≡ (x || ((p || q) && z))
or_both x p q z = grind (arith, nat_tests)

pub adds_none : (program : Workload) (b : Bool) (sets : List (List ℕ)) (test : PieceId → Bool) → ((id : PieceId) → test id ≡ false) → Adds program b sets sets test
adds_none program b sets test h = record {
  long = refl;
  exact = λ t c id l m. none (is_user sets t c id) (test id) (list_any (counts b t c) (exposed program id)) (h id);
}
  where
    none : (x p z : Bool) → p ≡ false → x ≡ (x || (p && z))
    none x p z e = grind (arith, nat_tests)

pub adds_more : (program : Workload) (b : Bool) (old mid new : List (List ℕ)) (p q r : PieceId → Bool) → Adds program b old mid p → Adds program b mid new q
    → ((id : PieceId) → r id ≡ (p id || q id)) → Adds program b old new r
adds_more program b old mid new p q r first next h = record {
  long = next.long ∙ first.long;
  exact = λ t c id l m.
      next.exact t c id l m ∙ ap (λ x. x || (q id && list_any (counts b t c) (exposed program id))) (first.exact t c id l m)
      ∙ or_both (is_user old t c id) (p id) (q id) (list_any (counts b t c) (exposed program id))
      ∙ ap (λ z. is_user old t c id || (z && list_any (counts b t c) (exposed program id))) (sym (h id));
}

-- a piece that is not there uses no column
uses_none : (program : Workload) (test : Statement → Bool) (id : PieceId) → (id.proc < length program.procedures → id.piece < length (pieces_in program id.proc) → ⊥) → list_any test (exposed program id) ≡ false
uses_none program test id past =
    elim (present_or_none program id) [
      | inl there ↦ absurd (past there.procedure there.piece)
      | inr e ↦ go (is_view_in program id.proc) e
    ]
  where
    go : (v : Bool) → piece_of program id ≡ no_piece → list_any test (cond v [] (piece_of program id).body) ≡ false
    go true e = refl
    go false e = ap (λ (p : Piece). list_any test p.body) e

-- those that pass another test, which tells the same of pieces that are there
pub adds_same : (program : Workload) (b : Bool) (old new : List (List ℕ)) (p q : PieceId → Bool) → Adds program b old new p
    → ((id : PieceId) → id.proc < length program.procedures → id.piece < length (pieces_in program id.proc) → p id ≡ q id) → Adds program b old new q
adds_same program b old new p q h same = record {
  long = h.long;
  exact = λ t c id l m. h.exact t c id l m ∙ ap (λ z. is_user old t c id || z) (tested t c id);
}
  where
    neither : (x y z : Bool) → z ≡ false → (x && z) ≡ (y && z)
    neither x y z e = grind (arith, nat_tests)

    tested : (t c : ℕ) (id : PieceId) → (p id && list_any (counts b t c) (exposed program id)) ≡ (q id && list_any (counts b t c) (exposed program id))
    tested t c id =
        elim (cases_lt id.proc (length program.procedures)) [
          | inr past ↦ neither (p id) (q id) _ (uses_none program (counts b t c) id (λ l m. absurd (omega (arith, l, past))))
          | inl l ↦ elim (cases_lt id.piece (length (pieces_in program id.proc))) [
            | inr past ↦ neither (p id) (q id) _ (uses_none program (counts b t c) id (λ l m. absurd (omega (arith, m, past))))
            | inl m ↦ ap (λ z. z && list_any (counts b t c) (exposed program id)) (same id l m)
          ]
        ]

pub next_piece : (p q proc piece : ℕ) → ((p == proc) && nat_lt q (piece + 1)) ≡ (((p == proc) && nat_lt q piece) || ((p == proc) && (q == piece)))
next_piece p q proc piece = grind (arith, nat_tests)

pub next_procedure : (p proc : ℕ) → nat_lt p (proc + 1) ≡ (nat_lt p proc || (p == proc))
next_procedure p proc = grind (arith, nat_tests)

pub no_piece_yet : (p q proc : ℕ) → ((p == proc) && nat_lt q 0) ≡ false
no_piece_yet p q proc = grind (arith, nat_tests)

pub all_pieces_of : (p q proc count : ℕ) → (p ≡ proc → q < count) → ((p == proc) && nat_lt q count) ≡ (p == proc)
all_pieces_of p q proc count h = go (p == proc) refl
  where
    go : (b : Bool) → (p == proc) ≡ b → (b && nat_lt q count) ≡ b
    go false e = refl
    go true e = let l = h (eqb-true p proc e) in grind (arith, nat_tests)

-- ---- conflicts

same_any : {A : Type 0} (p q : A → Bool) → ((x : A) → p x ≡ q x) → (xs : List A) → list_any p xs ≡ list_any q xs
same_any p q same [] = refl
same_any p q same (x ∷ xs) = ap (λ b. b || list_any p xs) (same x) ∙ ap (λ b. q x || b) (same_any p q same xs)

by_writes : (number : ℕ) (a : Access) (s : Statement) → counts true a.table a.column s ≡ collide (Get number a) s
by_writes number a (Get m b) = refl
by_writes number a (Set b value) = refl
by_writes number a (Out value) = refl

by_touches : (a : Access) (value : Expression) (s : Statement) → counts false a.table a.column s ≡ collide (Set a value) s
by_touches a value (Get m b) = refl
by_touches a value (Set b v) = refl
by_touches a value (Out v) = refl

nothing_collides : (value : Expression) (ss : List Statement) → false ≡ list_any (collide (Out value)) ss
nothing_collides value [] = refl
nothing_collides value (s ∷ ss) = nothing_collides value ss

module _ (program : Workload) (few : length program.tables ≤ 64) (touched written : List (List ℕ)) (all : AreUsers program false touched) (writers : AreUsers program true written) (id : PieceId) where
  meets_one : (s : Statement) → InTables program.tables s → meets_by touched written s id ≡ list_any (collide s) (exposed program id)
  meets_one (Get number a) h = writers.exact a.table a.column id (omega (arith, h.0, few)) h.1 ∙ same_any (counts true a.table a.column) (collide (Get number a)) (by_writes number a) (exposed program id)
  meets_one (Set a value) h = all.exact a.table a.column id (omega (arith, h.0, few)) h.1 ∙ same_any (counts false a.table a.column) (collide (Set a value)) (by_touches a value) (exposed program id)
  meets_one (Out value) h = nothing_collides value (exposed program id)

  meets_all : (ss : List Statement) → AllByRecursion (InTables program.tables) ss → list_any (λ s. meets_by touched written s id) ss ≡ list_any (λ s. list_any (collide s) (exposed program id)) ss
  meets_all [] h = refl
  meets_all (s ∷ ss) h = ap (λ b. b || list_any (λ s. meets_by touched written s id) ss) (meets_one s h.0) ∙ ap (λ b. list_any (collide s) (exposed program id) || b) (meets_all ss h.1)

-- the pieces of which statements collide with those of a piece are in conflict with it
pub in_conflict_by : (program : Workload) → IsProgram program → (touched written : List (List ℕ)) → AreUsers program false touched → AreUsers program true written → (first id : PieceId)
    → list_any (λ s. meets_by touched written s id) (exposed program first) ≡ are_in_conflict program first id
in_conflict_by program formed touched written all writers first id =
    meets_all program formed.few_tables touched written all writers id (exposed program first) (in_exposed program formed first) ∙ sym (in_conflict_exposed program first id)

pub any_more : {A : Type 0} (p : A → Bool) (xs ys : List A) (x y : Bool) → x ≡ list_any p xs → y ≡ (x || list_any p ys) → y ≡ list_any p (xs ++ ys)
any_more p xs ys x y h e = e ∙ ap (λ b. b || list_any p ys) h ∙ sym (list_any-append p xs ys)

-- ---- sets without pieces

none_in_words : (p k : ℕ) → bit_at (get_or (replicate 64 0) p 0) k ≡ 0
none_in_words p k = elim (cases_lt p 64) [
  | inl l ↦ ap (λ w. bit_at w k) (get_or-replicate 64 p 0 0 l) ∙ bit_at-zero k
  | inr past ↦ ap (λ w. bit_at w k) (get_or_past (replicate 64 0) p 0 past) ∙ bit_at-zero k
]

pub none_held : (id : PieceId) → holds (replicate 64 0) id ≡ false
none_held id = ap (λ b. b == 1) (none_in_words id.proc id.piece)

pub none_used : (sets : List (List ℕ)) → AllByRecursion (λ set. (id : PieceId) → holds set id ≡ false) sets → (t c : ℕ) (id : PieceId) → is_user sets t c id ≡ false
none_used sets h t c id = elim (cases_lt (t * 16 + c) (length sets)) [
  | inl l ↦ all_at (λ (set : List ℕ). (id : PieceId) → holds set id ≡ false) sets (t * 16 + c) [] h l id
  | inr past ↦ ap (λ (set : List ℕ). holds set id) (get_or_past sets (t * 16 + c) [] past) ∙ ap (λ b. b == 1) (bit_at-zero id.piece)
]

pub one_more_empty : (sets : List (List ℕ)) (row : List ℕ) → AllByRecursion (λ set. (id : PieceId) → holds set id ≡ false) sets → ((id : PieceId) → holds row id ≡ false)
    → AllByRecursion (λ set. (id : PieceId) → holds set id ≡ false) (sets ++ row ∷ [])
one_more_empty sets row h e = all_append (λ (set : List ℕ). (id : PieceId) → holds set id ≡ false) sets (row ∷ []) h (e, tt)

-- the sets of all pieces are those that were added to none
pub all_added : (program : Workload) (b : Bool) (old new : List (List ℕ)) (procedures : ℕ) → length program.procedures ≤ procedures → ((t c : ℕ) (id : PieceId) → is_user old t c id ≡ false)
    → Adds program b old new (λ id. nat_lt id.proc procedures) → AreUsers program b new
all_added program b old new procedures l none h =
    let all = adds_same program b old new (λ id. nat_lt id.proc procedures) (λ id. true) h (λ id m n. below id.proc procedures (omega (arith, l, m))) in
    record { exact = λ t c id m n. all.exact t c id m n ∙ ap (λ x. x || list_any (counts b t c) (exposed program id)) (none t c id) }
  where
    below : (p n : ℕ) → p < n → nat_lt p n ≡ true
    below p n k = grind (arith, nat_tests)
