-- One record more of a journal.
use Rattle.std.proofs.Common.{◌≡◌, ℕ, ◌+◌, ◌<◌, ◌≤◌, List, [], ◌∷◌, ◌++◌, length, take, drop, refl, sym, ◌∙◌, ap, arith, append_assoc, length-append, length-drop, take-append-drop}
use Rattle.std.specs.Prelude.{None}
use Rattle.std.specs.Int.{w32, to_be_bytes, from_be_bytes}
use Rattle.std.proofs.lemmas.List.{drop_at, length-take-le}
use Rattle.roc_journal.specs.declared.reader.Reader.{Reader}
use Rattle.roc_journal.specs.declared.record.Record.{Record}
use Rattle.roc_journal.specs.Format.{datagram_of, record_bytes, IsRecordOf, IsJournal}
use Rattle.roc_journal.specs.Faults.{BeginsRecord, IsBadRecord}
use Rattle.roc_journal.specs.Inner.Pieces.{HasOpenGate, IsFound}
use Rattle.roc_journal.specs.Reading.{most_datagram, MayWantMemory, IsReadTo}
use Rattle.roc_journal.proofs.Beginnings.{datagram_size, told_length, told_datagram, told_size, begins_with}
use Rattle.roc_journal.proofs.Ends.{size_of_end, split_end, first_of}
use Rattle.roc_journal.proofs.Records.{front, all_more, gate_moves, front_size, record_size}

module _ (bytes : List ℕ) (records : List Record) (reader : Reader) where
  gate_stands : (gate : ℕ) (behind : List ℕ) → bytes ≡ front reader.tag records ++ gate ∷ behind → reader.gate ≡ length (front reader.tag records) → drop reader.gate bytes ≡ gate ∷ behind
  gate_stands gate behind is place = ap (λ (l : List ℕ). drop reader.gate l) is ∙ drop_at (front reader.tag records) (gate ∷ behind) reader.gate (sym place)

  pub as_open : (r : IsReadTo bytes records reader) → 1 ∷ [] ≡ take 1 (drop reader.gate bytes) → HasOpenGate bytes records reader r.behind
  as_open r e =
      let one : 1 ≡ r.gate_byte = cc (e ∙ ap (λ (l : List ℕ). take 1 l) (gate_stands r.gate_byte r.behind r.is r.gate)) in
      record { each = r.each; is = r.is ∙ ap (λ byte. front reader.tag records ++ byte ∷ r.behind) (sym one); gate = r.gate }

  pub as_closed : (r : IsReadTo bytes records reader) (byte : ℕ) → ¬ (byte ≡ 1) → byte ∷ [] ≡ take 1 (drop reader.gate bytes) → IsJournal reader.tag bytes records
  as_closed r byte other e =
      let same : byte ≡ r.gate_byte = cc (e ∙ ap (λ (l : List ℕ). take 1 l) (gate_stands r.gate_byte r.behind r.is r.gate)) in
      record { each = r.each; gate = r.gate_byte; closed = λ one. other (same ∙ one); behind = r.behind; is = r.is }

  module _ (behind : List ℕ) (open_at : HasOpenGate bytes records reader behind) where
    pub open_size : length bytes ≡ reader.gate + 1 + length behind
    open_size = omega (arith, open_at.gate, ap length open_at.is, length-append (front reader.tag records) (1 ∷ behind))

    pub open_behind : drop (reader.gate + 1) bytes ≡ behind
    open_behind =
        ap (λ (l : List ℕ). drop (reader.gate + 1) l) (open_at.is ∙ split_end (front reader.tag records) 1 behind)
        ∙ drop_at (front reader.tag records ++ 1 ∷ []) behind (reader.gate + 1) (omega (arith, open_at.gate, size_of_end (front reader.tag records) 1))

    pub open_further : 4 ≤ length behind → drop (reader.gate + 5) bytes ≡ drop 4 behind
    open_further long =
        let before = front reader.tag records ++ 1 ∷ take 4 behind in
        let all : bytes ≡ before ++ drop 4 behind =
        open_at.is ∙ ap (λ (l : List ℕ). front reader.tag records ++ 1 ∷ l) (sym (take-append-drop 4 behind))
        ∙ sym (append_assoc (front reader.tag records) (1 ∷ take 4 behind) (drop 4 behind)) in
        let size : length before ≡ reader.gate + 5 =
        omega (arith, open_at.gate, length-append (front reader.tag records) (1 ∷ take 4 behind), length-take-le 4 behind long) in
        ap (λ (l : List ℕ). drop (reader.gate + 5) l) all ∙ drop_at before (drop 4 behind) (reader.gate + 5) size

    -- what stands behind these records is none
    abbrev pub IsBadHere : Type 0
    IsBadHere = (bad : IsBadRecord reader.tag bytes (reader.gate + 1)) × (bad.records ≡ records)

    pub is_bad : ¬ BeginsRecord reader.tag behind → IsBadHere
    is_bad none = (
      record {
        records = records;
        each = open_at.each;
        rest = behind;
        is = open_at.is;
        none = none;
        place = omega (arith, open_at.gate);
      },
      refl,
    )

    -- there is no place for a length and a gate
    pub ends_early : length bytes < reader.gate + 5 → IsBadHere
    ends_early early = is_bad (λ b. omega (arith, early, open_size, told_size reader.tag b.first b.is_of (b.gate ∷ b.behind) behind b.is))

    module _ (n : ℕ) (is_length : n ≡ from_be_bytes w32 (take 4 behind)) where
      length_is : (b : BeginsRecord reader.tag behind) → n ≡ length (datagram_of b.first)
      length_is b = is_length ∙ told_length reader.tag b.first b.is_of (b.gate ∷ b.behind) behind b.is

      -- there is a datagram, for which memory may be wanted
      pub may_want : n ≤ most_datagram → reader.gate + 5 + n < length bytes → MayWantMemory bytes reader
      may_want few within =
          let told = is_length ∙ ap (λ (l : List ℕ). from_be_bytes w32 (take 4 l)) (sym open_behind) in
          (omega (arith, few, told), omega (arith, within, told))

      pub too_long : 60000 < n → IsBadHere
      too_long long = is_bad (λ b. omega (arith, long, length_is b, datagram_size reader.tag b.first b.is_of))

      pub too_short : length bytes ≤ reader.gate + 5 + n → IsBadHere
      too_short short = is_bad (λ b. omega (arith, short, open_size, length_is b, told_size reader.tag b.first b.is_of (b.gate ∷ b.behind) behind b.is))

      pub is_none : (datagram : List ℕ) → datagram ≡ take n (drop 4 behind) → IsFound reader.tag datagram None → IsBadHere
      is_none datagram e none =
          is_bad (λ b. none b.first b.is_of
          (e ∙ ap (λ k. take k (drop 4 behind)) (length_is b) ∙ told_datagram reader.tag b.first b.is_of (b.gate ∷ b.behind) behind b.is))

      pub is_next : (r : Record) (after : Reader) → after.tag ≡ reader.tag → after.gate ≡ reader.gate + (5 + n) → IsRecordOf reader.tag r → to_be_bytes w32 n ≡ take 4 behind
          → take n (drop 4 behind) ≡ datagram_of r → 4 + n < length behind → IsReadTo bytes (records ++ r ∷ []) (record { tag = reader.tag; gate = after.gate; len = after.len })
      is_next r after same moved is_of told datagram within =
          let whole = begins_with r n behind told datagram within in
          let next = first_of (drop n (drop 4 behind)) (omega (arith, within, length-drop 4 behind, length-drop n (drop 4 behind))) in
          let size : n ≡ length (datagram_of r) = omega (arith, ap length datagram, length-take-le n (drop 4 behind) (omega (arith, length-drop 4 behind, within))) in
          record {
            each = all_more (IsRecordOf reader.tag) records r open_at.each is_of;
            gate_byte = next.0;
            behind = next.1;
            is = open_at.is ∙ ap (λ (l : List ℕ). front reader.tag records ++ 1 ∷ l) (whole ∙ ap (λ (l : List ℕ). record_bytes r ++ l) next.2) ∙ gate_moves reader.tag records r next.0 next.1;
            gate = omega (arith, moved, open_at.gate, front_size reader.tag records r, record_size r, size);
          }
