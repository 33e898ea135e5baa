-- The program whose pieces are the groups: which of its pieces conflict, and which are declared `now`
use Rattle.std.proofs.Common.{◌≡◌, ℕ, zero, suc, ◌<◌, true, List, [], ◌∷◌, length, map, get_or, refl, sym, ap, subst, ◌∙◌, arith}
use Rattle.std.proofs.lemmas.List.{length-map}
use Rattle.std.specs.List.{list_any, flat_map}
use Rattle.roc_sequence.specs.Lists.{Has}
use Rattle.roc_sequence.proofs.Holds.{any_has, has_any}
use Rattle.roc_sequence.proofs.Members.{has_flat_map, from_has_flat_map}
use Rattle.roc_program.specs.Program.{Workload, Procedure, Piece, Statement}
use Rattle.roc_program.specs.LookUps.{no_piece, no_procedure, is_view_in}
use Rattle.roc_program.specs.Pieces.{pieces_in, piece_of, HasPiece}
use Rattle.roc_program.specs.Conflict.{collide, conflict, are_in_conflict}
use Rattle.roc_program.specs.declared.piece_id.PieceId.{PieceId}
use Rattle.roc_program.proofs.Conflicts.{in_conflict_parts, in_conflict_from}
use Rattle.roc_merge_groups.specs.Groups.{piece_numbered, groups_in, group_at}
use Rattle.roc_merge_groups.specs.Accepted.{fused, with_groups, over_groups}
use Rattle.roc_merge_groups.proofs.Elements.{row_of_has}

-- the groups of a procedure are its pieces
pieces_over : (ps : List Procedure) (groups : List (List (List ℕ))) (proc : ℕ) → length groups ≡ length ps
    → (get_or (with_groups ps groups) proc no_procedure).pieces ≡ map (fused (get_or ps proc no_procedure)) (get_or groups proc [])
pieces_over [] [] proc e = refl
pieces_over [] (g ∷ gs) proc e = absurd (omega arith)
pieces_over (p ∷ ps) [] proc e = absurd (omega arith)
pieces_over (p ∷ ps) (g ∷ gs) zero e = refl
pieces_over (p ∷ ps) (g ∷ gs) (suc proc) e = pieces_over ps gs proc (omega arith)

viewed_over : (ps : List Procedure) (groups : List (List (List ℕ))) (proc : ℕ) → (get_or (with_groups ps groups) proc no_procedure).is_view ≡ (get_or ps proc no_procedure).is_view
viewed_over [] groups proc = refl
viewed_over (p ∷ ps) [] zero = refl
viewed_over (p ∷ ps) [] (suc proc) = viewed_over ps [] proc
viewed_over (p ∷ ps) (g ∷ gs) zero = refl
viewed_over (p ∷ ps) (g ∷ gs) (suc proc) = viewed_over ps gs proc

procedures_over : (ps : List Procedure) (groups : List (List (List ℕ))) → length (with_groups ps groups) ≡ length ps
procedures_over [] groups = refl
procedures_over (p ∷ ps) [] = ap suc (procedures_over ps [])
procedures_over (p ∷ ps) (g ∷ gs) = ap suc (procedures_over ps gs)

-- one that is not there has no statements, and was not declared `now`
fused_body : (p : Procedure) (groups : List (List ℕ)) (g : ℕ) → (get_or (map (fused p) groups) g no_piece).body ≡ flat_map (λ x. (get_or p.pieces x no_piece).body) (get_or groups g [])
fused_body p [] g = refl
fused_body p (group ∷ groups) zero = refl
fused_body p (group ∷ groups) (suc g) = fused_body p groups g

fused_now : (p : Procedure) (groups : List (List ℕ)) (g : ℕ) → (get_or (map (fused p) groups) g no_piece).is_now ≡ list_any (λ x. (get_or p.pieces x no_piece).is_now) (get_or groups g [])
fused_now p [] g = refl
fused_now p (group ∷ groups) zero = refl
fused_now p (group ∷ groups) (suc g) = fused_now p groups g

-- pieces conflict where statements of theirs collide
conflict_from : (p q : Piece) → conflict p q ≡ true → (s t : Statement) × Has s p.body × Has t q.body × (collide s t ≡ true)
conflict_from p q h =
    let r = any_has (λ s. list_any (collide s) q.body) p.body h in
    let k = any_has (collide r.0) q.body r.2 in
    (r.0, k.0, r.1, k.1, k.2)

conflict_to : (p q : Piece) (s t : Statement) → Has s p.body → Has t q.body → collide s t ≡ true → conflict p q ≡ true
conflict_to p q s t h k e = has_any (λ s. list_any (collide s) q.body) p.body s h (has_any (collide s) q.body t k e)

-- the pieces of a group, by the group's number as a piece of that program
abbrev pub members : List (List (List ℕ)) → PieceId → List ℕ
members groups id = group_at (groups_in groups id.proc) id.piece

module _ (program : Workload) (groups : List (List (List ℕ))) (even : length groups ≡ length program.procedures) where
  in_over : (proc : ℕ) → pieces_in (over_groups program groups) proc ≡ map (fused (get_or program.procedures proc no_procedure)) (groups_in groups proc)
  in_over proc = pieces_over program.procedures groups proc even

  -- its views are the program's
  view_over : (proc : ℕ) → is_view_in (over_groups program groups) proc ≡ is_view_in program proc
  view_over proc = viewed_over program.procedures groups proc

  body_over : (id : PieceId) → (piece_of (over_groups program groups) id).body ≡ flat_map (λ x. (piece_of program (piece_numbered id.proc x)).body) (members groups id)
  body_over id =
      ap (λ (ps : List Piece). (get_or ps id.piece no_piece).body) (in_over id.proc) ∙ fused_body (get_or program.procedures id.proc no_procedure) (groups_in groups id.proc) id.piece

  pub now_over : (id : PieceId) → (piece_of (over_groups program groups) id).is_now ≡ list_any (λ x. (piece_of program (piece_numbered id.proc x)).is_now) (members groups id)
  now_over id =
      ap (λ (ps : List Piece). (get_or ps id.piece no_piece).is_now) (in_over id.proc) ∙ fused_now (get_or program.procedures id.proc no_procedure) (groups_in groups id.proc) id.piece

  -- that program has a piece for each group
  pub group_there : (id : PieceId) → HasPiece (over_groups program groups) id → (id.proc < length program.procedures) × (id.piece < length (groups_in groups id.proc))
  group_there id h =
      let a = h.procedure in let b = h.piece in
      let e : length (pieces_in (over_groups program groups) id.proc) ≡ length (groups_in groups id.proc) = ap (λ (ps : List Piece). length ps) (in_over id.proc) ∙ length-map (groups_in groups id.proc) (fused (get_or program.procedures id.proc no_procedure)) in
      (omega (arith, procedures_over program.procedures groups), omega arith)

  pub there_group : (id : PieceId) (x : ℕ) → Has x (members groups id) → id.proc < length program.procedures → HasPiece (over_groups program groups) id
  there_group id x h l =
      let e : length (pieces_in (over_groups program groups) id.proc) ≡ length (groups_in groups id.proc) = ap (λ (ps : List Piece). length ps) (in_over id.proc) ∙ length-map (groups_in groups id.proc) (fused (get_or program.procedures id.proc no_procedure)) in
      let k = row_of_has x (groups_in groups id.proc) id.piece h in
      record { procedure = omega (arith, procedures_over program.procedures groups); piece = omega arith }

  -- groups conflict where pieces of theirs do
  pub meets_from : (a b : PieceId) → are_in_conflict (over_groups program groups) a b ≡ true
      → (x y : ℕ) × Has x (members groups a) × Has y (members groups b) × (are_in_conflict program (piece_numbered a.proc x) (piece_numbered b.proc y) ≡ true)
  meets_from a b h =
      let f : ℕ → List Statement = λ x. (piece_of program (piece_numbered a.proc x)).body in
      let g : ℕ → List Statement = λ y. (piece_of program (piece_numbered b.proc y)).body in
      let parts = in_conflict_parts (over_groups program groups) a b h in
      let r = conflict_from (piece_of (over_groups program groups) a) (piece_of (over_groups program groups) b) parts.meet in
      let one = from_has_flat_map f r.0 (members groups a) (subst (λ xs. Has r.0 xs) (body_over a) r.2) in
      let two = from_has_flat_map g r.1 (members groups b) (subst (λ xs. Has r.1 xs) (body_over b) r.3) in (
        one.0,
        two.0,
        one.1,
        two.1,
        in_conflict_from program (piece_numbered a.proc one.0) (piece_numbered b.proc two.0) (record {
          first = sym (view_over a.proc) ∙ parts.first;
          second = sym (view_over b.proc) ∙ parts.second;
          meet = conflict_to (piece_of program (piece_numbered a.proc one.0)) (piece_of program (piece_numbered b.proc two.0)) r.0 r.1 one.2 two.2 r.4;
        }),
      )

  pub meets_to : (a b : PieceId) (x y : ℕ) → Has x (members groups a) → Has y (members groups b) → are_in_conflict program (piece_numbered a.proc x) (piece_numbered b.proc y) ≡ true
      → are_in_conflict (over_groups program groups) a b ≡ true
  meets_to a b x y h k e =
      let f : ℕ → List Statement = λ x. (piece_of program (piece_numbered a.proc x)).body in
      let g : ℕ → List Statement = λ y. (piece_of program (piece_numbered b.proc y)).body in
      let parts = in_conflict_parts program (piece_numbered a.proc x) (piece_numbered b.proc y) e in
      let r = conflict_from (piece_of program (piece_numbered a.proc x)) (piece_of program (piece_numbered b.proc y)) parts.meet in
      in_conflict_from (over_groups program groups) a b (record {
        first = view_over a.proc ∙ parts.first;
        second = view_over b.proc ∙ parts.second;
        meet = conflict_to (piece_of (over_groups program groups) a) (piece_of (over_groups program groups) b) r.0 r.1
            (subst (λ xs. Has r.0 xs) (sym (body_over a)) (has_flat_map f r.0 x (members groups a) h r.2))
            (subst (λ xs. Has r.1 xs) (sym (body_over b)) (has_flat_map g r.1 y (members groups b) k r.3)) r.4;
      })
