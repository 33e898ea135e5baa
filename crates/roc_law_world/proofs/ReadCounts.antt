-- A view's group reads as many cells as it binds names, and gives as many values as it has places in the reply
use Rattle.std.proofs.Common.{◌≡◌, ℕ, ℤ, true, List, [], ◌∷◌, length, map, get_or, refl, arith}
use Rattle.std.proofs.lemmas.List.{length-append}
use Rattle.std.specs.List.{AllByRecursion, filter_map}
use Rattle.roc_rows.specs.Store.{Store}
use Rattle.roc_program.specs.LookUps.{no_piece}
use Rattle.roc_program.specs.Names.{binding, bindings_of, bindings}
use Rattle.roc_program.specs.Program.{Statement, Get, Set, Out, Piece}
use Rattle.roc_program.specs.Values.{value}
use Rattle.roc_program.specs.WellFormed.{IsRead, ReadsOnly}
use Rattle.roc_program.proofs.Views.{view_reads}
use Rattle.roc_whole.specs.Run.{Progress, after_statement, after_piece}
use Rattle.roc_merge_groups.specs.Groups.{piece_numbered}
use Rattle.roc_plan.specs.Groups.{Plan, procedure_of, is_view_of, group_of, bound_of}
use Rattle.roc_plan.specs.Accepted.{IsAccepted}
use Rattle.roc_group.specs.Accesses.{uses_of_body, uses_of_piece, uses_of_pieces}
use Rattle.roc_group.specs.GroupRun.{GroupCall, begin, group_pieces, group_uses}

body_counts : (place : ℤ) (p : Progress) (ss : List Statement) → AllByRecursion IsRead ss → length (uses_of_body place p ss) ≡ length (filter_map binding ss)
body_counts place p [] all = refl
body_counts place p (Get number from ∷ ss) all = let r = body_counts place (after_statement place p (Get number from)) ss all.1 in omega (arith, r)
body_counts place p (Set to v ∷ ss) all = absurd all.0
body_counts place p (Out v ∷ ss) all = body_counts place (after_statement place p (Out v)) ss all.1

pieces_count : (p : Progress) (pieces : List Piece) → AllByRecursion ReadsOnly pieces → length (uses_of_pieces p pieces) ≡ length (bindings pieces)
pieces_count p [] all = refl
pieces_count p (x ∷ xs) all =
    let one = body_counts (value x.place p.environment) p x.body all.0.body in
    let rest = pieces_count (after_piece p x) xs all.1 in
    let used = length-append (uses_of_piece p x) (uses_of_pieces (after_piece p x) xs) in
    let bound = length-append (bindings_of x) (bindings xs) in
    omega (arith, one, rest, used, bound)

module _ (plan : Plan) (c : GroupCall) (s : Store) where
  pub uses_counted : IsAccepted plan → is_view_of plan c.proc ≡ true → length (group_uses plan c s) ≡ length (bound_of plan c.proc c.group)
  uses_counted accepted viewed = pieces_count (begin plan c s) (group_pieces plan c) (go (group_of plan c.proc c.group).pieces)
    where
      go : (ks : List ℕ) → AllByRecursion ReadsOnly (map (λ k. get_or (procedure_of plan c.proc).pieces k no_piece) ks)
      go [] = tt
      go (k ∷ ks) = (view_reads plan.program (piece_numbered c.proc k) accepted.well_formed viewed, go ks)
