-- The classes of all pieces, where a test tells the immediate ones
use Rattle.std.proofs.Common.{◌≡◌, ◌↔◌, ℕ, ◌+◌, ◌<◌, ◌≤◌, Bool, true, false, List, [], ◌∷◌, ◌++◌, length, map, get_or, IsTrue, sym, ◌∙◌, ap, subst, inl, inr, arith}
use Rattle.std.proofs.lemmas.Bool.{cases_lt, false≢true}
use Rattle.std.proofs.lemmas.List.{get_or_past, get_or-map, length-map, map-append}
use Rattle.std.proofs.lemmas.List.FromFn.{length-map-range_with_len, get_or-map-range_with_len, fill_by_all}
use Rattle.std.specs.List.{range_with_len}
use Rattle.roc_program.specs.Program.{Workload, Procedure}
use Rattle.roc_program.specs.LookUps.{no_procedure}
use Rattle.roc_program.specs.declared.piece_id.PieceId.{PieceId}
use Rattle.roc_conflict.specs.Classes.{is_immediate}
use Rattle.roc_conflict.specs.Immediate.{IsImmediate}
use Rattle.roc_program.specs.Pieces.{pieces_in, HasPiece, piece_ids}
use Rattle.roc_conflict.proofs.Least.{present_from_immediate}
use Rattle.roc_program.proofs.Ranges.{map_map, map_pushed}

abbrev pub row_of : Workload → (PieceId → Bool) → ℕ → List Bool
row_of program holds proc = map holds (piece_ids program proc)

abbrev pub rows_of : Workload → (PieceId → Bool) → List (List Bool)
rows_of program holds = map (row_of program holds) (range_with_len 0 (length program.procedures))

module _ (program : Workload) (holds : PieceId → Bool) where
  length-row : (proc : ℕ) → length (row_of program holds proc) ≡ length (pieces_in program proc)
  length-row proc =
      length-map (piece_ids program proc) holds
      ∙ length-map-range_with_len (λ k. record { proc = proc; piece = k }) 0 (length (pieces_in program proc))

  -- one more row was pushed
  pub row_pushed : {R : Type 0} (v : R → List Bool) (xs ys : List R) (r : R) (proc count : ℕ) → ys ≡ xs ++ r ∷ [] → map v xs ≡ map (row_of program holds) (range_with_len 0 proc)
      → v r ≡ map (λ k. holds (record { proc = proc; piece = k })) (range_with_len 0 count) → count ≡ length (pieces_in program proc)
      → map v ys ≡ map (row_of program holds) (range_with_len 0 (proc + 1))
  row_pushed v xs ys r proc count e h last known =
      let at : ℕ → PieceId = λ k. record { proc = proc; piece = k } in
      let row : v r ≡ row_of program holds proc =
      last ∙ ap (λ n. map (λ k. holds (at k)) (range_with_len 0 n)) known ∙ sym (map_map holds at (range_with_len 0 (length (pieces_in program proc)))) in
      map_pushed [] (map v xs) (map v ys) (row_of program holds) proc (ap (map v) e ∙ map-append v xs (r ∷ []) ∙ ap (λ l. map v xs ++ l ∷ []) row) h

  -- one entry for each piece
  pub shape : (classes : List (List Bool)) → classes ≡ rows_of program holds → map (λ row. length row) classes ≡ map (λ p. length p.pieces) program.procedures
  shape classes e =
      let size : Procedure → ℕ = λ p. length p.pieces in
      let f : ℕ → ℕ = λ proc. length (row_of program holds proc) in
      ap (map (λ row. length row)) e ∙ map_map (λ row. length row) (row_of program holds) (range_with_len 0 (length program.procedures))
      ∙ sym (fill_by_all f (map size program.procedures) (length program.procedures) 0 (length-map program.procedures size)
      (λ k below. get_or-map size program.procedures k no_procedure 0 below ∙ sym (length-row k)))

  row_at : (classes : List (List Bool)) (proc : ℕ) → classes ≡ rows_of program holds → proc < length program.procedures → get_or classes proc [] ≡ row_of program holds proc
  row_at classes proc e below =
      ap (λ l. get_or l proc []) e ∙ get_or-map-range_with_len (row_of program holds) 0 (length program.procedures) proc proc [] below (omega arith)

  read : (classes : List (List Bool)) (id : PieceId) → classes ≡ rows_of program holds → HasPiece program id → is_immediate classes id ≡ holds id
  read classes id e h =
      let at : ℕ → PieceId = λ k. record { proc = id.proc; piece = k } in
      ap (λ row. get_or row id.piece false) (row_at classes id.proc e h.procedure)
      ∙ ap (λ row. get_or row id.piece false) (map_map holds at (range_with_len 0 (length (pieces_in program id.proc))))
      ∙ get_or-map-range_with_len (λ k. holds (at k)) 0 (length (pieces_in program id.proc)) id.piece id.piece false h.piece (omega arith)

  read_present : (classes : List (List Bool)) (id : PieceId) → classes ≡ rows_of program holds → is_immediate classes id ≡ true → HasPiece program id
  read_present classes id e h =
      elim (cases_lt id.proc (length program.procedures)) [
        | inr past ↦ absurd (false≢true
            (ap (λ (row : List Bool). get_or row id.piece false) (sym (get_or_past classes id.proc [] (subst (λ n. n ≤ id.proc) (sym (ap length e ∙ length-map-range_with_len (row_of program holds) 0 (length program.procedures))) past))) ∙ h))
        | inl there ↦ elim (cases_lt id.piece (length (pieces_in program id.proc))) [
          | inl below ↦ record { procedure = there; piece = below }
          | inr past ↦ absurd (false≢true
              (sym (get_or_past (get_or classes id.proc []) id.piece false (subst (λ n. n ≤ id.piece) (sym (ap length (row_at classes id.proc e there) ∙ length-row id.proc)) past)) ∙ h))
        ]
      ]

  -- exactly the immediate pieces
  pub exact : (classes : List (List Bool)) → classes ≡ rows_of program holds → ((id : PieceId) → IsTrue (holds id) ↔ IsImmediate program id) → (id : PieceId) → IsTrue (is_immediate classes id) ↔ IsImmediate program id
  exact classes e known id = (
    λ h. (known id).0 (sym (read classes id e (read_present classes id e h)) ∙ h),
    λ h. read classes id e (present_from_immediate program id h) ∙ (known id).1 h,
  )
