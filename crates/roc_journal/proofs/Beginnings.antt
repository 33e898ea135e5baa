-- Bytes that begin with a record, told by the length that stands there.
use Rattle.std.proofs.Common.{◌≡◌, ℕ, ◌+◌, ◌<◌, ◌≤◌, List, ◌++◌, length, take, drop, refl, sym, ◌∙◌, ap, arith, append_assoc, length-append, length-drop, take-append-drop}
use Rattle.std.specs.Int.{w32, to_be_bytes, from_be_bytes}
use Rattle.std.proofs.lemmas.List.{take_at, drop_at, length-take-le}
use Rattle.std.proofs.lemmas.Nat.{from_be_bytes-to_be_bytes_4}
use Rattle.roc_wire.specs.Spelling.{spelling}
use Rattle.roc_wire.specs.Reading.{pair}
use Rattle.roc_wire.specs.Laws.{Spells}
use Rattle.roc_wire.specs.declared.header.Header.{Header}
use Rattle.roc_msg.specs.declared.msg.Msg.{Msg}
use Rattle.roc_journal.specs.declared.record.Record.{Record}
use Rattle.roc_journal.specs.Format.{datagram_of, record_bytes, IsRecordOf}
use Rattle.roc_journal.proofs.Bounds.{spelling_size}

pub record_is : (r : Record) → record_bytes r ≡ to_be_bytes w32 (length (datagram_of r)) ++ datagram_of r
unfolding record_bytes
record_is r = refl

pub datagram_size : (tag : List ℕ) (r : Record) → IsRecordOf tag r → length (datagram_of r) ≤ 60000
unfolding datagram_of
datagram_size tag r is_of = spelling_size r.header r.msg is_of.1

pub datagram_is : (r : Record) → datagram_of r ≡ spelling r.header r.msg
unfolding datagram_of
datagram_is r = refl

-- the law of datagrams that is needed here
abbrev pub SpelledApart : Type 0
SpelledApart = (bytes : List ℕ) (g h : Header) (m n : Msg) → Spells bytes g m → Spells bytes h n → pair g m ≡ pair h n

-- one datagram is of one record
pub one_record : SpelledApart → (tag : List ℕ) (r s : Record) → IsRecordOf tag r → IsRecordOf tag s → datagram_of r ≡ datagram_of s → r ≡ s
one_record apart tag r s of_r of_s same =
    ap (λ p. record { header = p.0; msg = p.1 })
    (apart (spelling r.header r.msg) r.header s.header r.msg s.msg (record { fits = of_r.1; text = refl })
    (record { fits = of_s.1; text = sym (datagram_is r) ∙ same ∙ datagram_is s }))

module _ (tag : List ℕ) (r : Record) (is_of : IsRecordOf tag r) (behind bytes : List ℕ) (is : bytes ≡ record_bytes r ++ behind) where
  parts : bytes ≡ to_be_bytes w32 (length (datagram_of r)) ++ (datagram_of r ++ behind)
  parts = is ∙ ap (λ (l : List ℕ). l ++ behind) (record_is r) ∙ append_assoc (to_be_bytes w32 (length (datagram_of r))) (datagram_of r) behind

  pub told_length : from_be_bytes w32 (take 4 bytes) ≡ length (datagram_of r)
  told_length =
      ap (λ (l : List ℕ). from_be_bytes w32 (take 4 l)) parts
      ∙ ap (from_be_bytes w32) (take_at (to_be_bytes w32 (length (datagram_of r))) (datagram_of r ++ behind) 4 refl)
      ∙ from_be_bytes-to_be_bytes_4 (length (datagram_of r)) (omega (arith, datagram_size tag r is_of))

  rest : drop 4 bytes ≡ datagram_of r ++ behind
  rest = ap (λ (l : List ℕ). drop 4 l) parts ∙ drop_at (to_be_bytes w32 (length (datagram_of r))) (datagram_of r ++ behind) 4 refl

  pub told_datagram : take (length (datagram_of r)) (drop 4 bytes) ≡ datagram_of r
  told_datagram = ap (λ (l : List ℕ). take (length (datagram_of r)) l) rest ∙ take_at (datagram_of r) behind (length (datagram_of r)) refl

  pub told_rest : drop (length (datagram_of r)) (drop 4 bytes) ≡ behind
  told_rest = ap (λ (l : List ℕ). drop (length (datagram_of r)) l) rest ∙ drop_at (datagram_of r) behind (length (datagram_of r)) refl

  pub told_size : length bytes ≡ 4 + length (datagram_of r) + length behind
  told_size = omega (arith, ap length parts, length-append (to_be_bytes w32 (length (datagram_of r))) (datagram_of r ++ behind), length-append (datagram_of r) behind)

-- bytes begin with one record at most
pub begin_alike : SpelledApart → (tag : List ℕ) (r s : Record) (x y : List ℕ) → IsRecordOf tag r → IsRecordOf tag s → record_bytes r ++ x ≡ record_bytes s ++ y → (r ≡ s) × (x ≡ y)
begin_alike apart tag r s x y of_r of_s same =
    let bytes = record_bytes r ++ x in
    let sizes : length (datagram_of r) ≡ length (datagram_of s) = sym (told_length tag r of_r x bytes refl) ∙ told_length tag s of_s y bytes same in
    let datagrams : datagram_of r ≡ datagram_of s =
    sym (told_datagram tag r of_r x bytes refl) ∙ ap (λ n. take n (drop 4 bytes)) sizes ∙ told_datagram tag s of_s y bytes same in
    let rests : x ≡ y = sym (told_rest tag r of_r x bytes refl) ∙ ap (λ n. drop n (drop 4 bytes)) sizes ∙ told_rest tag s of_s y bytes same in
    (one_record apart tag r s of_r of_s datagrams, rests)

-- what a length that was read, and the bytes behind it, are
pub begins_with : (r : Record) (n : ℕ) (bytes : List ℕ) → to_be_bytes w32 n ≡ take 4 bytes → take n (drop 4 bytes) ≡ datagram_of r → 4 + n < length bytes
    → bytes ≡ record_bytes r ++ drop n (drop 4 bytes)
begins_with r n bytes told datagram within =
    let size : n ≡ length (datagram_of r) = omega (arith, ap length datagram, length-take-le n (drop 4 bytes) (omega (arith, length-drop 4 bytes, within))) in
    let lengths : take 4 bytes ≡ to_be_bytes w32 (length (datagram_of r)) = sym told ∙ ap (to_be_bytes w32) size in
    sym (take-append-drop 4 bytes)
    ∙ ap (λ (l : List ℕ). take 4 bytes ++ l) (sym (take-append-drop n (drop 4 bytes)))
    ∙ ap (λ (l : List ℕ). l ++ (take n (drop 4 bytes) ++ drop n (drop 4 bytes))) lengths
    ∙ ap (λ (l : List ℕ). to_be_bytes w32 (length (datagram_of r)) ++ (l ++ drop n (drop 4 bytes))) datagram
    ∙ sym (append_assoc (to_be_bytes w32 (length (datagram_of r))) (datagram_of r) (drop n (drop 4 bytes)))
    ∙ ap (λ (l : List ℕ). l ++ drop n (drop 4 bytes)) (sym (record_is r))
