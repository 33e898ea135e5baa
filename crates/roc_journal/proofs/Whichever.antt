-- Each file is a journal or has a fault.
use Rattle.std.proofs.Common.{◌≡◌, ◌⊎◌, inl, inr, ⊎_elim, ℕ, zero, suc, ◌+◌, ◌<◌, ◌≤◌, Bool, true, false, List, [], ◌∷◌, ◌++◌, length, take, drop, refl, sym, ◌∙◌, ap, subst, arith}
use Rattle.std.proofs.Common.{length-drop, take-append-drop}
use Rattle.std.specs.Prelude.{bytes_eq}
use Rattle.std.specs.Int.{w32, from_be_bytes}
use Rattle.std.specs.List.{AllByRecursion}
use Rattle.std.proofs.lemmas.List.{append-nil, length-take-le}
use Rattle.std.proofs.lemmas.Nat.{be_bytes_4}
use Rattle.std.proofs.lemmas.Slice.Eq.{bytes_eq-Decides}
use Rattle.roc_wire.specs.Laws.{IsRight, IsWrong}
use Rattle.roc_wire.specs.Reading.{IsBytes}
use Rattle.roc_journal.specs.declared.record.Record.{Record}
use Rattle.roc_journal.specs.Format.{magic, head, datagram_of, record_bytes, IsRecordOf}
use Rattle.roc_journal.specs.Faults.{BeginsRecord, magic_is_wrong, tag_is_wrong, gate_is_missing, record_is_bad}
use Rattle.roc_journal.specs.Laws.{HasRecords, HasFault}
use Rattle.roc_journal.proofs.Beginnings.{SpelledApart, datagram_is, told_length, told_datagram, told_rest, told_size, begins_with}
use Rattle.roc_journal.proofs.Ends.{first_of}
use Rattle.roc_journal.proofs.Records.{front, one_or_other, all_more, gate_moves}

-- the law of datagrams that is needed here
abbrev pub RightOrWrong : Type 0
RightOrWrong = (bytes : List ℕ) → IsBytes bytes → IsRight bytes ⊎ IsWrong bytes

less_or_not : (a b : ℕ) → (a < b) ⊎ (b ≤ a)
less_or_not zero zero = inr (omega arith)
less_or_not zero (suc b) = inl (omega arith)
less_or_not (suc a) zero = inr (omega arith)
less_or_not (suc a) (suc b) = ⊎_elim (λ h. inl (omega (arith, h))) (λ h. inr (omega (arith, h))) (less_or_not a b)

same_or_not : (xs ys : List ℕ) → (xs ≡ ys) ⊎ ¬ (xs ≡ ys)
same_or_not xs ys = go (bytes_eq xs ys) refl
  where
    go : (b : Bool) → bytes_eq xs ys ≡ b → (xs ≡ ys) ⊎ ¬ (xs ≡ ys)
    go true e = inl ((bytes_eq-Decides xs ys).0 e)
    go false e = inr (λ same. absurd (cc ((bytes_eq-Decides xs ys).1 same, e)))

bytes_taken : (n : ℕ) (xs : List ℕ) → IsBytes xs → IsBytes (take n xs)
bytes_taken zero xs all i = omega arith
bytes_taken (suc n) [] all i = omega arith
bytes_taken (suc n) (x ∷ xs) all zero = all 0
bytes_taken (suc n) (x ∷ xs) all (suc i) = bytes_taken n xs (λ j. all (suc j)) i

bytes_dropped : (n : ℕ) (xs : List ℕ) → IsBytes xs → IsBytes (drop n xs)
bytes_dropped zero xs all i = all i
bytes_dropped (suc n) [] all i = omega arith
bytes_dropped (suc n) (x ∷ xs) all i = bytes_dropped n xs (λ j. all (suc j)) i

module _ (apart : SpelledApart) (right_or_wrong : RightOrWrong) (tag bytes : List ℕ) (all : IsBytes bytes) where
  -- too few bytes for the length that they begin with
  too_short : length bytes ≤ 4 + from_be_bytes w32 (take 4 bytes) → ¬ BeginsRecord tag bytes
  too_short short b =
      omega (arith, short, told_length tag b.first b.is_of (b.gate ∷ b.behind) bytes b.is, told_size tag b.first b.is_of (b.gate ∷ b.behind) bytes b.is)

  spelled_is : (n : ℕ) → n ≡ from_be_bytes w32 (take 4 bytes) → (b : BeginsRecord tag bytes) → take n (drop 4 bytes) ≡ datagram_of b.first
  spelled_is n e b =
      ap (λ k. take k (drop 4 bytes)) (e ∙ told_length tag b.first b.is_of (b.gate ∷ b.behind) bytes b.is) ∙ told_datagram tag b.first b.is_of (b.gate ∷ b.behind) bytes b.is

  wrong_there : (n : ℕ) → n ≡ from_be_bytes w32 (take 4 bytes) → IsWrong (take n (drop 4 bytes)) → ¬ BeginsRecord tag bytes
  wrong_there n e wrong b = wrong.spells_none b.first.header b.first.msg (record { fits = b.is_of.1; text = spelled_is n e b ∙ datagram_is b.first })

  other_there : (n : ℕ) → n ≡ from_be_bytes w32 (take 4 bytes) → (right : IsRight (take n (drop 4 bytes))) → ¬ (right.header.tag ≡ tag) → ¬ BeginsRecord tag bytes
  other_there n e right other b =
      let same = apart (take n (drop 4 bytes)) right.header b.first.header right.msg b.first.msg right.spells (record { fits = b.is_of.1; text = spelled_is n e b ∙ datagram_is b.first }) in
      other (ap (λ p. p.0.tag) same ∙ b.is_of.0)

  right_there : (n : ℕ) → n ≡ from_be_bytes w32 (take 4 bytes) → 4 + n < length bytes → (right : IsRight (take n (drop 4 bytes))) → right.header.tag ≡ tag → BeginsRecord tag bytes
  right_there n e within right same =
      let found : Record = record { header = right.header; msg = right.msg } in
      let four = length-take-le 4 bytes (omega (arith, within)) in
      let length_bytes = be_bytes_4 (take 4 bytes) n four (bytes_taken 4 bytes all) e in
      let whole = begins_with found n bytes length_bytes (right.spells.text ∙ sym (datagram_is found)) within in
      let next = first_of (drop n (drop 4 bytes)) (omega (arith, within, length-drop 4 bytes, length-drop n (drop 4 bytes))) in
      record { first = found; is_of = (same, right.spells.fits); gate = next.0; behind = next.1; is = whole ∙ ap (λ (l : List ℕ). record_bytes found ++ l) next.2 }

  begins_or_not : BeginsRecord tag bytes ⊎ ¬ BeginsRecord tag bytes
  begins_or_not =
      let n = from_be_bytes w32 (take 4 bytes) in
      ⊎_elim
      (λ within. ⊎_elim
      (λ right. ⊎_elim (λ same. inl (right_there n refl within right same)) (λ other. inr (other_there n refl right other)) (same_or_not right.header.tag tag))
      (λ wrong. inr (wrong_there n refl wrong))
      (right_or_wrong (take n (drop 4 bytes)) (bytes_taken n (drop 4 bytes) (bytes_dropped 4 bytes all))))
      (λ short. inr (too_short short))
      (less_or_not (4 + n) (length bytes))

-- what is left of bytes behind a record
left_bytes : (tag behind : List ℕ) (b : BeginsRecord tag behind) → IsBytes behind → IsBytes b.behind
left_bytes tag behind b all i =
    subst IsBytes (told_rest tag b.first b.is_of (b.gate ∷ b.behind) behind b.is) (bytes_dropped (length (datagram_of b.first)) (drop 4 behind) (bytes_dropped 4 behind all)) (suc i)

module _ (apart : SpelledApart) (right_or_wrong : RightOrWrong) (tag bytes : List ℕ) where
  abbrev Answer : Type 0
  Answer = HasRecords tag bytes ⊎ HasFault tag bytes

  -- what comes of a gate, where the rest behind a record has an answer
  at_gate : (records : List Record) → AllByRecursion (IsRecordOf tag) records → (gate : ℕ) (behind : List ℕ) → IsBytes behind → bytes ≡ front tag records ++ gate ∷ behind
      → ((b : BeginsRecord tag behind) → bytes ≡ front tag (records ++ b.first ∷ []) ++ b.gate ∷ b.behind → Answer) → Answer
  at_gate records each gate behind all is further =
      ⊎_elim
      (λ is_open.
      let here = is ∙ ap (λ byte. front tag records ++ byte ∷ behind) is_open in
      ⊎_elim
      (λ b. further b (here ∙ ap (λ (l : List ℕ). front tag records ++ 1 ∷ l) b.is ∙ gate_moves tag records b.first b.gate b.behind))
      (λ none. inr (record { at = length (front tag records) + 1; is = record_is_bad (record { records = records; each = each; rest = behind; is = here; none = none; place = refl }) }))
      (begins_or_not apart right_or_wrong tag behind all))
      (λ closed. inl (record { records = records; is = record { each = each; gate = gate; closed = closed; behind = behind; is = is } }))
      (one_or_other gate)

  walk : (n : ℕ) (records : List Record) → AllByRecursion (IsRecordOf tag) records → (gate : ℕ) (behind : List ℕ) → IsBytes behind → length behind ≤ n
      → bytes ≡ front tag records ++ gate ∷ behind → Answer
  walk zero records each gate behind all short is =
      at_gate records each gate behind all is (λ b next. absurd (omega (arith, short, told_size tag b.first b.is_of (b.gate ∷ b.behind) behind b.is)))
  walk (suc n) records each gate behind all short is =
      at_gate records each gate behind all is
      (λ b next. walk n (records ++ b.first ∷ []) (all_more (IsRecordOf tag) records b.first each b.is_of) b.gate b.behind (left_bytes tag behind b all)
      (omega (arith, short, told_size tag b.first b.is_of (b.gate ∷ b.behind) behind b.is)) next)

  behind_head : (rest : List ℕ) → IsBytes rest → bytes ≡ head tag ++ rest → Answer
  behind_head [] all is = inr (record { at = 12; is = gate_is_missing (is ∙ append-nil (head tag)) })
  behind_head (gate ∷ rest) all is =
      walk (length rest) [] tt gate rest (λ i. all (suc i)) (omega arith) (is ∙ ap (λ (l : List ℕ). l ++ gate ∷ rest) (sym (append-nil (head tag))))

  pub whichever : length tag ≡ 8 → IsBytes bytes → Answer
  whichever eight all =
      ⊎_elim
      (λ is_magic. ⊎_elim
      (λ is_tag. behind_head (drop 8 (drop 4 bytes)) (bytes_dropped 8 (drop 4 bytes) (bytes_dropped 4 bytes all))
      (sym (take-append-drop 4 bytes) ∙ ap (λ (l : List ℕ). l ++ drop 4 bytes) is_magic
      ∙ ap (λ (l : List ℕ). magic ++ l) (sym (take-append-drop 8 (drop 4 bytes)) ∙ ap (λ (l : List ℕ). l ++ drop 8 (drop 4 bytes)) is_tag)))
      (λ other. inr (record { at = 4; is = tag_is_wrong is_magic other }))
      (same_or_not (take 8 (drop 4 bytes)) tag))
      (λ other. inr (record { at = 0; is = magic_is_wrong other }))
      (same_or_not (take 4 bytes) magic)
