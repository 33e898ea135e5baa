-- Groups in turn leave the cells of the whole run, and give its reply
use Rattle.std.proofs.Common.{◌≡◌, ◌-◌, ℕ, zero, suc, ◌<◌, ◌≤◌, ◌+◌, ℤ, pos, Bool, true, false, ◌==◌, if◌then◌else◌, List, [], ◌∷◌, ◌++◌, length, map, get_or, take, refl, sym, ap, ◌∙◌, inl, inr, arith}
use Rattle.std.specs.Bool.{nat_lt}
use Rattle.std.specs.List.{flat_map, filter_map, range_with_len}
use Rattle.std.proofs.lemmas.Bool.{false≢true, eq-eqb, eqb-true, cases_eq}
use Rattle.std.proofs.lemmas.List.{length-append, map-append, take_more}
use Rattle.std.proofs.lemmas.List.Concat.{flat_map-append}
use Rattle.roc_sequence.specs.Lists.{Has}
use Rattle.roc_sequence.specs.Rising.{IsRising}
use Rattle.roc_sequence.proofs.Holds.{all_has}
use Rattle.roc_program.specs.Program.{Expression, Piece, Procedure}
use Rattle.roc_program.specs.LookUps.{no_piece}
use Rattle.roc_program.specs.Names.{output, outputs}
use Rattle.roc_whole.specs.Run.{Progress, after_piece}
use Rattle.roc_merge_groups.proofs.Elements.{numbers_one_way}
use Rattle.roc_plan.specs.Groups.{pieces_at, places_in}
use Rattle.roc_law_groups.proofs.Commuting.{then_piece}
use Rattle.roc_law_groups.proofs.Moving.{spoken, said_by}
use Rattle.roc_group.proofs.GroupStarts.{at}
use Rattle.roc_law_groups.proofs.Replies.{slice, slice_skip, slice_front, piece_long, Distinct}

-- ---- pieces by number

behind_one : (p : Piece) (ps : List Piece) (from at count : ℕ) → at ≡ suc from → map (λ k. get_or (p ∷ ps) k no_piece) (range_with_len at count) ≡ map (λ k. get_or ps k no_piece) (range_with_len from count)
behind_one p ps from at zero e = refl
behind_one p ps from at (suc count) e =
    let here = ap (λ k. get_or (p ∷ ps) k no_piece) e in
    let rest = behind_one p ps (from + 1) (at + 1) count (omega (arith, e)) in
    λ i. here i ∷ rest i

pub by_number : (ps : List Piece) → map (λ k. get_or ps k no_piece) (range_with_len 0 (length ps)) ≡ ps
by_number [] = refl
by_number (p ∷ ps) = ap (λ rest. p ∷ rest) (behind_one p ps 0 1 (length ps) (omega arith) ∙ by_number ps)

pub distinct_rising : (at : ℕ → Piece) (ks : List ℕ) → IsRising nat_lt ks → Distinct at ks
distinct_rising at [] r = tt
distinct_rising at (k ∷ ks) r = ((λ h. let t = all_has (λ x. nat_lt k x ≡ true) k ks r.0 h in numbers_one_way k k t t), distinct_rising at ks r.1)

-- ---- places in the reply

module _ (procedure : Procedure) where
  abbrev ps : List Piece
  ps = procedure.pieces

  -- how much the first pieces say
  abbrev before : ℕ → ℕ
  before k = length (outputs (take k ps))

  abbrev own : ℕ → ℕ
  own k = length (outputs (pieces_at procedure (k ∷ [])))

  one_more : (k : ℕ) → k < length ps → before (k + 1) ≡ before k + own k
  one_more k l =
      let a = ap (λ xs. length (outputs xs)) (take_more ps k no_piece l) in
      let b = ap (λ (xs : List Expression). length xs) (flat_map-append (λ (piece : Piece). filter_map output piece.body) (take k ps) (get_or ps k no_piece ∷ [])) in
      let c = length-append (outputs (take k ps)) (outputs (get_or ps k no_piece ∷ [])) in
      omega (arith, a, b, c)

  rises : (i d : ℕ) → i + d ≤ length ps → before i ≤ before (i + d)
  rises i zero l = let same = ap before (let e : i ≡ i + 0 = omega arith in e) in omega (arith, same)
  rises i (suc d) l =
      let ih = rises i d (omega (arith, l)) in
      let next = one_more (i + d) (omega (arith, l)) in
      let same = ap before (let e : i + d + 1 ≡ i + suc d = omega arith in e) in
      omega (arith, ih, next, same)

  -- what a piece says stands in its places of all that is said
  said_at : (p : Progress) (from count k at_place : ℕ) → p.reply ≡ [] → from + count ≡ length ps → from ≤ k → k < from + count → at_place + before from ≡ before k
      → said_by (at procedure) p (range_with_len from count) k ≡ slice (spoken (at procedure) p (range_with_len from count)) at_place (own k)
  said_at p from zero k at_place q whole low high places = absurd (omega (arith, low, high))
  said_at p from (suc count) k at_place q whole low high places =
      go (from == k) refl (λ i e. said_at (then_piece p (at procedure from)) (from + 1) count k i refl (omega (arith, whole)) e (omega (arith, high)))
    where
      first : List ℤ
      first = (after_piece p (at procedure from)).reply

      later : List ℤ
      later = spoken (at procedure) (then_piece p (at procedure from)) (range_with_len (from + 1) count)

      long : length (after_piece p (at procedure from)).reply ≡ own from
      long = piece_long p (at procedure from) q

      go : (b : Bool) → (from == k) ≡ b
          → ((i : ℕ) → from + 1 ≤ k → i + before (from + 1) ≡ before k → said_by (at procedure) (then_piece p (at procedure from)) (range_with_len (from + 1) count) k ≡ slice (spoken (at procedure) (then_piece p (at procedure from)) (range_with_len (from + 1) count)) i (own k))
          → (if b then (after_piece p (at procedure from)).reply else said_by (at procedure) (then_piece p (at procedure from)) (range_with_len (from + 1) count) k)
          ≡ slice ((after_piece p (at procedure from)).reply ++ spoken (at procedure) (then_piece p (at procedure from)) (range_with_len (from + 1) count)) at_place (own k)
      go true e ih =
          let same : from ≡ k = eqb-true from k e in
          let here : at_place ≡ 0 = let b = ap before same in omega (arith, places, b) in
          let mine : length (after_piece p (at procedure from)).reply ≡ own k = long ∙ ap own same in
          sym (slice_front (after_piece p (at procedure from)).reply (spoken (at procedure) (then_piece p (at procedure from)) (range_with_len (from + 1) count)))
          ∙ (λ i. slice ((after_piece p (at procedure from)).reply ++ spoken (at procedure) (then_piece p (at procedure from)) (range_with_len (from + 1) count)) (sym here i) (mine i))
      go false e ih =
          let more : from + 1 ≤ k = elim (cases_eq from k) [ inl same ↦ absurd (false≢true (sym e ∙ eq-eqb from k same)) | inr n ↦ omega (arith, low, n) ] in
          let step = one_more from (omega (arith, whole)) in
          let grows = rises (from + 1) (k - (from + 1)) (omega (arith, more, high, whole)) in
          let end = ap before (let e : (from + 1) + (k - (from + 1)) ≡ k = omega (arith, more) in e) in
          let i : ℕ = before k - before (from + 1) in
          ih i more (omega (arith, grows, end))
          ∙ sym (slice_skip (after_piece p (at procedure from)).reply (spoken (at procedure) (then_piece p (at procedure from)) (range_with_len (from + 1) count)) i at_place (own k) (omega (arith, long, step, places, grows, end)))

  -- the same of several pieces
  pub said_in_places : (p : Progress) (ks : List ℕ) → p.reply ≡ [] → ((k : ℕ) → Has k ks → k < length ps)
      → flat_map (said_by (at procedure) p (range_with_len 0 (length ps))) ks ≡ map (λ k. get_or (spoken (at procedure) p (range_with_len 0 (length ps))) k (pos 0)) (flat_map (places_in procedure) ks)
  said_in_places p [] q all = refl
  said_in_places p (k ∷ ks) q all =
      let one = said_at p 0 (length ps) k (before k) q (omega arith) (omega arith) (let l = all k (inl refl) in omega (arith, l)) (omega arith) in
      let rest = said_in_places p ks q (λ j h. all j (inr h)) in
      (λ i. one i ++ rest i) ∙ sym (map-append (λ k. get_or (spoken (at procedure) p (range_with_len 0 (length ps))) k (pos 0)) (places_in procedure k) (flat_map (places_in procedure) ks))
