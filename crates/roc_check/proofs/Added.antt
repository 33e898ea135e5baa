-- Lines that are added to a text
use Rattle.std.proofs.Common.{◌≡◌, ℕ, suc, ◌+◌, ◌-◌, ◌<◌, List, [], ◌∷◌, ◌++◌, length, map, filter, take, drop, get_or, sym, ◌∙◌, ap, arith, append_assoc, append-nil}
use Rattle.std.proofs.Math.Seq.{drop-cons}
use Rattle.std.proofs.lemmas.List.{map-append, take_all, length-drop}
use Rattle.std.proofs.lemmas.List.Concat.{flat_map-append}
use Rattle.std.specs.List.{flat_map, range_with_len}
use Rattle.roc_program.specs.Program.{Workload}
use Rattle.roc_program.specs.Conflict.{are_in_conflict}
use Rattle.roc_program.specs.declared.piece_id.PieceId.{PieceId}
use Rattle.roc_check.specs.Lines.{conflict_lines}
use Rattle.roc_report.specs.Checked.{CheckedLine, Conflict}
use Rattle.roc_report.specs.Checked.{checked_text, checked_lines_text}
use Rattle.roc_program.proofs.Ranges.{flat_map-range_more}
use Rattle.roc_sequence.proofs.Ranges.{range_more}

module _ (program : Workload) (start old new : List ℕ) where
  pub added : (xs ys : List CheckedLine) → old ≡ start ++ checked_lines_text program xs → new ≡ old ++ checked_lines_text program ys → new ≡ start ++ checked_lines_text program (xs ++ ys)
  added xs ys h e =
      e ∙ ap (λ t. t ++ checked_lines_text program ys) h ∙ append_assoc start (checked_lines_text program xs) (checked_lines_text program ys)
      ∙ ap (λ t. start ++ t) (sym (flat_map-append (checked_text program) xs ys))

  pub one_added : (xs : List CheckedLine) (y : CheckedLine) → old ≡ start ++ checked_lines_text program xs → new ≡ old ++ checked_text program y → new ≡ start ++ checked_lines_text program (xs ++ y ∷ [])
  one_added xs y h e = added xs (y ∷ []) h (e ∙ ap (λ t. old ++ t) (sym (append-nil (checked_text program y))))

  -- lines of one more number
  pub number_added : (f : ℕ → List CheckedLine) (n : ℕ) → old ≡ start ++ checked_lines_text program (flat_map f (range_with_len 0 n)) → new ≡ old ++ checked_lines_text program (f n)
      → new ≡ start ++ checked_lines_text program (flat_map f (range_with_len 0 (n + 1)))
  number_added f n h e = added (flat_map f (range_with_len 0 n)) (f n) h e ∙ ap (λ ls. start ++ checked_lines_text program ls) (sym (flat_map-range_more f n))

  -- the line of one more number
  pub line_added : (f : ℕ → CheckedLine) (n : ℕ) → old ≡ start ++ checked_lines_text program (map f (range_with_len 0 n)) → new ≡ old ++ checked_text program (f n)
      → new ≡ start ++ checked_lines_text program (map f (range_with_len 0 (n + 1)))
  line_added f n h e =
      one_added (map f (range_with_len 0 n)) (f n) h e
      ∙ ap (λ ls. start ++ checked_lines_text program ls) (sym (ap (map f) (range_more 0 n n (omega arith)) ∙ map-append f (range_with_len 0 n) (n ∷ [])))

  -- the same, where a number gives what the line is of
  pub numbered_line_added : {A : Type 0} (f : A → CheckedLine) (g : ℕ → A) (n : ℕ) → old ≡ start ++ checked_lines_text program (map f (map g (range_with_len 0 n))) → new ≡ old ++ checked_text program (f (g n))
      → new ≡ start ++ checked_lines_text program (map f (map g (range_with_len 0 (n + 1))))
  numbered_line_added f g n h e =
      one_added (map f (map g (range_with_len 0 n))) (f (g n)) h e
      ∙ ap (λ ls. start ++ checked_lines_text program ls)
      (sym (ap (λ ns. map f (map g ns)) (range_more 0 n n (omega arith)) ∙ ap (map f) (map-append g (range_with_len 0 n) (n ∷ [])) ∙ map-append f (map g (range_with_len 0 n)) (g n ∷ [])))

-- a line, and two lists of lines behind it
pub procedure_added : (program : Workload) (start one two three : List ℕ) (line : CheckedLine) (xs ys : List CheckedLine) → one ≡ start ++ checked_text program line
    → two ≡ one ++ checked_lines_text program xs → three ≡ two ++ checked_lines_text program ys → three ≡ start ++ checked_lines_text program (line ∷ xs ++ ys)
procedure_added program start one two three line xs ys e f g =
    let h : one ≡ start ++ checked_lines_text program (line ∷ []) = e ∙ ap (λ t. start ++ t) (sym (append-nil (checked_text program line))) in
    added program start two three (line ∷ xs) ys (added program start one two (line ∷ []) xs h f) g

-- the conflicts of one more piece, where all lead to this text
pub conflicts_added : (program : Workload) (old new end : List ℕ) (pieces : List PieceId) (at : ℕ) (d : PieceId) → at < length pieces
    → old ++ checked_lines_text program (conflict_lines program (drop at pieces)) ≡ end
    → new ≡ old ++ checked_lines_text program (map (Conflict (get_or pieces at d)) (filter (are_in_conflict program (get_or pieces at d)) (take (length pieces - at) (drop at pieces))))
    → new ++ checked_lines_text program (conflict_lines program (drop (at + 1) pieces)) ≡ end
conflicts_added program old new end pieces at d within h e =
    let next : at + 1 ≡ suc at = omega arith in
    let p = get_or pieces at d in
    let rest = drop (suc at) pieces in
    let here : drop at pieces ≡ p ∷ rest = drop-cons pieces at d within in
    let behind : take (length pieces - at) (drop at pieces) ≡ drop at pieces = take_all (length pieces - at) (drop at pieces) (omega (arith, length-drop at pieces)) in
    let lines : List PieceId → List CheckedLine = λ ids. map (Conflict p) (filter (are_in_conflict program p) ids) in
    ap (λ n. new ++ checked_lines_text program (conflict_lines program (drop n pieces))) next
    ∙ ap (λ t. t ++ checked_lines_text program (conflict_lines program rest)) (e ∙ ap (λ ids. old ++ checked_lines_text program (lines ids)) (behind ∙ here))
    ∙ append_assoc old (checked_lines_text program (lines (p ∷ rest))) (checked_lines_text program (conflict_lines program rest))
    ∙ ap (λ t. old ++ t) (sym (flat_map-append (checked_text program) (lines (p ∷ rest)) (conflict_lines program rest)))
    ∙ ap (λ ids. old ++ checked_lines_text program (conflict_lines program ids)) (sym here)
    ∙ h
