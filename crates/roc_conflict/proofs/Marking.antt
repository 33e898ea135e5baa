-- Marks, set one by one
use Rattle.std.proofs.Common.{◌≡◌, ◌≢◌, ℕ, zero, suc, ◌<◌, Bool, true, false, List, [], ◌∷◌, length, get_or, set, cond, refl, sym, ◌∙◌, ap, ◌⊎◌, inl, inr, arith}
use Rattle.std.proofs.lemmas.Bool.{cases_eq}
use Rattle.std.proofs.lemmas.List.{get_or-set_same, get_or-set_other}
use Rattle.roc_program.specs.declared.piece_id.PieceId.{PieceId}
use Rattle.roc_conflict.specs.Classes.{is_immediate}
use Rattle.roc_conflict.specs.Inner.Marks.{open_places, open_marks, IsMarked}

row_fewer : (row : List Bool) (q : ℕ) → q < length row → get_or row q false ≡ false → open_places (set row q true) < open_places row
row_fewer [] q l h = absurd (omega arith)
row_fewer (m ∷ row) zero l h = let e : open_places (m ∷ row) ≡ suc (open_places row) = ap (λ b. cond b (open_places row) (suc (open_places row))) h in omega arith
row_fewer (true ∷ row) (suc q) l h = row_fewer row q (omega arith) h
row_fewer (false ∷ row) (suc q) l h = let r = row_fewer row q (omega arith) h in omega arith

rows_fewer : (marks : List (List Bool)) (p : ℕ) (row : List Bool) → p < length marks → open_places row < open_places (get_or marks p []) → open_marks (set marks p row) < open_marks marks
rows_fewer [] p row l h = absurd (omega arith)
rows_fewer (r ∷ marks) zero row l h = omega arith
rows_fewer (r ∷ marks) (suc p) row l h = let k = rows_fewer marks p row (omega arith) h in omega arith

module _ (marks : List (List Bool)) (id : PieceId) (below : id.proc < length marks) (inside : id.piece < length (get_or marks id.proc [])) where
  abbrev old_row : List Bool
  old_row = get_or marks id.proc []

  abbrev new_row : List Bool
  new_row = set (get_or marks id.proc []) id.piece true

  same_row : (p : ℕ) → p ≡ id.proc → get_or (set marks id.proc new_row) p [] ≡ new_row
  same_row p e = ap (λ n. get_or (set marks id.proc new_row) n []) e ∙ get_or-set_same marks id.proc new_row [] below

  other_row : (p : ℕ) → p ≢ id.proc → get_or (set marks id.proc new_row) p [] ≡ get_or marks p []
  other_row p n = get_or-set_other marks id.proc p new_row [] n

  here : (other : PieceId) → other.proc ≡ id.proc → other.piece ≡ id.piece → is_immediate (set marks id.proc new_row) other ≡ true
  here other e f = ap (λ (r : List Bool). get_or r other.piece false) (same_row other.proc e) ∙ ap (λ n. get_or new_row n false) f ∙ get_or-set_same old_row id.piece true false inside

  elsewhere : (other : PieceId) → (other.proc ≢ id.proc) ⊎ (other.piece ≢ id.piece) → is_immediate (set marks id.proc new_row) other ≡ is_immediate marks other
  elsewhere other away = elim (cases_eq other.proc id.proc) [
    | inr n ↦ ap (λ (r : List Bool). get_or r other.piece false) (other_row other.proc n)
    | inl e ↦ elim away [
      | inl n ↦ absurd (n e)
      | inr n ↦ ap (λ (r : List Bool). get_or r other.piece false) (same_row other.proc e) ∙ get_or-set_other old_row id.piece other.piece true false n
          ∙ ap (λ p. get_or (get_or marks p []) other.piece false) (sym e)
    ]
  ]

  pub marked : IsMarked marks (set marks id.proc (set (get_or marks id.proc []) id.piece true)) id
  marked = record {
    here = here id refl refl;
    kept = λ other h. elim (cases_eq other.proc id.proc) [
      | inr n ↦ elsewhere other (inl n) ∙ h
      | inl e ↦ elim (cases_eq other.piece id.piece) [
        | inl f ↦ here other e f
        | inr n ↦ elsewhere other (inr n) ∙ h
      ]
    ];
    only = λ other h. elim (cases_eq other.proc id.proc) [
      | inr n ↦ inr (sym (elsewhere other (inl n)) ∙ h)
      | inl e ↦ elim (cases_eq other.piece id.piece) [
        | inl f ↦ inl (both other e f)
        | inr n ↦ inr (sym (elsewhere other (inr n)) ∙ h)
      ]
    ];
    fewer = λ h. rows_fewer marks id.proc new_row below (row_fewer old_row id.piece inside h);
  }
    where
      both : (other : PieceId) → other.proc ≡ id.proc → other.piece ≡ id.piece → other ≡ id
      both other e f = λ i. record { proc = e i; piece = f i }
