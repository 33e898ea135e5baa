-- What is read of a plan's workload: the procedure of a group, its pieces and its names
use Rattle.std.proofs.Common.{◌≡◌, ℕ, suc, ◌+◌, ◌-◌, ◌<◌, ◌≤◌, List, [], ◌∷◌, ◌++◌, length, map, take, replicate, get_or, ℤ, pos, sym, ap, subst, ◌∙◌, arith, inl, inr}
use Rattle.std.proofs.lemmas.Bool.{cases_lt}
use Rattle.std.proofs.lemmas.List.{length-map, take_all, get_or_past}
use Rattle.std.specs.List.{AllByRecursion}
use Rattle.roc_sequence.proofs.Holds.{has_all, all_at}
use Rattle.roc_program.specs.Keys.{HasKeys}
use Rattle.roc_program.specs.LookUps.{no_procedure, no_piece}
use Rattle.roc_program.specs.Parts as pure
use Rattle.roc_program.specs.Program as program
use Rattle.roc_program.specs.Values.{with_arguments}
use Rattle.roc_program.specs.declared.parts.Piece.{Piece}
use Rattle.roc_program.specs.declared.parts.Procedure.{Procedure}
use Rattle.roc_program.proofs.Keyed.{program_keyed}
use Rattle.roc_program.proofs.Rows.{read-map, all_read}
use Rattle.roc_plan.specs.Groups.{Plan, procedure_of, groups_of, group_of, inputs_in, pieces_at}
use Rattle.roc_plan.proofs.Taken.{map_taken}
use Rattle.roc_plan.specs.Accepted.{IsAccepted}
use Rattle.roc_group.specs.GroupRun.{statements_in}
use Rattle.roc_group.specs.Inner.Steady.{IsSteady, AreSteady}
use Rattle.roc_group.proofs.GroupStarts.{init_long, taken_is}
use Rattle.roc_group.proofs.Grouped.{is_piece, is_procedure, has_names}
use Rattle.roc_group.proofs.Ran.{statements_in-append, statements_taken}
use Rattle.roc_group.proofs.Steady.{piece_uses_known}

-- ---- pieces that a procedure lends, by number

module _ (p : Procedure) (pieces : List ℕ) (i from : ℕ) (all : AllByRecursion (λ k. k < length (pure.procedure p).pieces) pieces) (l : i < length pieces) (is_from : from ≡ get_or pieces i 0) where
  pub piece_within : from < length p.pieces.items
  piece_within = let low = all_at (λ k. k < length (pure.procedure p).pieces) pieces i 0 all l in omega (arith, low, is_from, length-map p.pieces.items pure.piece)

  -- the pieces so far, with the next one
  pub one_more : (x : Piece) → x ≡ get_or p.pieces.items from x → pieces_at (pure.procedure p) (take (i + 1) pieces) ≡ pieces_at (pure.procedure p) (take i pieces) ++ pure.piece x ∷ []
  one_more x is =
      map_taken (λ k. get_or (pure.procedure p).pieces k no_piece) pieces i 0 l
      ∙ ap (λ y. pieces_at (pure.procedure p) (take i pieces) ++ y ∷ []) (ap (λ k. get_or (pure.procedure p).pieces k no_piece) (sym is_from) ∙ read-map pure.piece p.pieces.items from x no_piece piece_within is)

  -- it adds its statements, and they are of all
  pub counts_one : (x : Piece) → x ≡ get_or p.pieces.items from x → statements_in (pieces_at (pure.procedure p) (take (i + 1) pieces)) ≡ statements_in (pieces_at (pure.procedure p) (take i pieces)) + length x.body.items
  counts_one x is =
      let more = ap statements_in (one_more x is) ∙ statements_in-append (pieces_at (pure.procedure p) (take i pieces)) (pure.piece x ∷ []) in
      omega (arith, more, length-map x.body.items pure.statement)

  pub fits_one : (x : Piece) → x ≡ get_or p.pieces.items from x → statements_in (pieces_at (pure.procedure p) (take i pieces)) + length x.body.items ≤ statements_in (pieces_at (pure.procedure p) pieces)
  fits_one x is = omega (arith, counts_one x is, statements_taken (λ k. get_or (pure.procedure p).pieces k no_piece) (i + 1) pieces)

-- a procedure with a group is there
pub procedure_there : (plan : Plan) (proc group : ℕ) → IsAccepted plan → group < length (groups_of plan proc) → proc < length plan.program.procedures
procedure_there plan proc group ok within =
    let even = ok.grouping.procedures in
    let rows = length-map plan.groups (map (λ g. g.pieces)) in
    elim (cases_lt proc (length plan.groups)) [
      | inl l ↦ omega (arith, l, even, rows)
      | inr past ↦ (let none = ap (λ (xs : List _). length xs) (get_or_past plan.groups proc [] past) in absurd (omega (arith, within, none)))
    ]

-- what holds at each number holds of each
pub all_numbered : {A : Type 0} (P : A → Type 0) (xs : List A) (d : A) → ((k : ℕ) → P (get_or xs k d)) → AllByRecursion P xs
all_numbered P [] d h = tt
all_numbered P (x ∷ xs) d h = (h 0, all_numbered P xs d (λ k. h (suc k)))

module _ (w : program.Workload) (lent : List Procedure) (plan : Plan) (proc group : ℕ) (p : Procedure) (e : w ≡ plan.program) (lends : map pure.procedure lent ≡ w.procedures) (ok : IsAccepted plan) (within : group < length (groups_of plan proc)) (is : p ≡ get_or lent proc p) where
  there : proc < length plan.program.procedures
  there = procedure_there plan proc group ok within

  lent_all : map pure.procedure lent ≡ plan.program.procedures
  lent_all = lends ∙ ap (λ x. x.procedures) e

  in_lent : proc < length lent
  in_lent = omega (arith, there, ap (λ (ps : List program.Procedure). length ps) lent_all, length-map lent pure.procedure)

  pub read : procedure_of plan proc ≡ pure.procedure p
  read = ap (λ (ps : List program.Procedure). get_or ps proc no_procedure) (sym lent_all) ∙ read-map pure.procedure lent proc p no_procedure in_lent is

  -- the group's pieces are the procedure's
  pub pieces_there : AllByRecursion (λ k. k < length (pure.procedure p).pieces) (group_of plan proc group).pieces
  pieces_there = has_all (λ k. k < length (pure.procedure p).pieces) (group_of plan proc group).pieces (λ k h. subst (λ (q : program.Procedure). k < length q.pieces) read (is_piece plan proc ok there group k h))

  pub keys_read : AllByRecursion HasKeys (pure.procedure p).pieces
  keys_read =
      let P : List program.Procedure → Type 0 = AllByRecursion (λ q. AllByRecursion HasKeys q.pieces) in
      all_read (λ q. AllByRecursion HasKeys q.pieces) pure.procedure lent proc p (subst P (sym lent_all) (program_keyed plan.program ok.well_formed)) in_lent is

  pub steady_read : AreSteady (pure.procedure p)
  steady_read = subst AreSteady read (all_numbered IsSteady (procedure_of plan proc).pieces no_piece (λ k q. piece_uses_known plan proc ok there q k))

  -- the names' values before the group takes any
  pub names_read : (args names filled : List ℤ) (count : ℕ) → length args ≡ (procedure_of plan proc).arguments → names ≡ args → count ≡ length args → filled ≡ take p.names names ++ replicate (p.names - count) (pos 0)
      → filled ≡ with_arguments (procedure_of plan proc) args
  names_read args names filled count many same counted is_filled =
      let enough : length args ≤ p.names = omega (arith, (is_procedure plan proc ok there).names, ap (λ x. x.names) read, many) in
      is_filled
      ∙ (λ i. take p.names (same i) ++ replicate (p.names - counted i) (pos 0))
      ∙ ap (λ xs. xs ++ replicate (p.names - length args) (pos 0)) (take_all p.names args enough)
      ∙ ap (λ x. args ++ replicate (x.names - length args) (pos 0)) (sym read)

  -- each name that it takes is among them
  pub taken_within : (args filled : List ℤ) → filled ≡ with_arguments (procedure_of plan proc) args → AllByRecursion (λ n. n < length filled) (inputs_in (procedure_of plan proc) (group_of plan proc group).pieces)
  taken_within args filled same = has_all (λ n. n < length filled) (inputs_in (procedure_of plan proc) (group_of plan proc group).pieces) (λ n h.
      let below = (has_names plan proc ok there).below n (taken_is (procedure_of plan proc) (group_of plan proc group).pieces n h).0 in
      let long = init_long (procedure_of plan proc) args in
      let known = ap (λ (xs : List ℤ). length xs) same in
      omega (arith, below, long, known))
