-- Records behind one another, up to where they end.
use Rattle.std.proofs.Common.{◌≡◌, ℕ, ◌<◌, List, [], ◌∷◌, ◌++◌, length, take, drop, refl, sym, ◌∙◌, ap, arith, append_assoc, length-append}
use Rattle.std.proofs.lemmas.List.{take_at, take_all, drop_at}
use Rattle.std.specs.List.{AllByRecursion}
use Rattle.roc_journal.specs.declared.record.Record.{Record}
use Rattle.roc_journal.specs.Format.{magic, head, record_bytes, opened, IsRecordOf, IsJournal}
use Rattle.roc_journal.specs.Faults.{BeginsRecord, IsBadRecord, IsFault, magic_is_wrong, tag_is_wrong, gate_is_missing, record_is_bad}
use Rattle.roc_journal.proofs.Beginnings.{SpelledApart, begin_alike}
use Rattle.roc_journal.proofs.Ends.{first_of}
use Rattle.roc_journal.proofs.Records.{front}

-- no record stands behind this gate
abbrev pub Ends : List ℕ → ℕ → List ℕ → Type 0
Ends tag gate behind = ¬ ((gate ≡ 1) × BeginsRecord tag behind)

head_is : (a b : ℕ) (xs ys : List ℕ) → a ∷ xs ≡ b ∷ ys → a ≡ b
head_is a b xs ys e = cc

tail_is : (a b : ℕ) (xs ys : List ℕ) → a ∷ xs ≡ b ∷ ys → xs ≡ ys
tail_is a b xs ys e = ap (λ (l : List ℕ). drop 1 l) e

not_empty : (records : List Record) (gate : ℕ) (behind : List ℕ) → 0 < length (opened records ++ gate ∷ behind)
not_empty records gate behind = omega (arith, length-append (opened records) (gate ∷ behind))

-- a record behind the gate
pub goes_on : (tag : List ℕ) (r : Record) (rs : List Record) (gate end_gate : ℕ) (behind end_behind : List ℕ) → IsRecordOf tag r
    → gate ∷ behind ≡ opened (r ∷ rs) ++ end_gate ∷ end_behind → (gate ≡ 1) × BeginsRecord tag behind
goes_on tag r rs gate end_gate behind end_behind is_of e =
    let after = opened rs ++ end_gate ∷ end_behind in
    let split : behind ≡ record_bytes r ++ after = tail_is gate 1 behind _ e ∙ append_assoc (record_bytes r) (opened rs) (end_gate ∷ end_behind) in
    let next = first_of after (not_empty rs end_gate end_behind) in
    (head_is gate 1 behind _ e, record { first = r; is_of = is_of; gate = next.0; behind = next.1; is = split ∙ ap (λ (l : List ℕ). record_bytes r ++ l) next.2 })

-- two walks through the same bytes end alike
pub same_end : SpelledApart → (tag : List ℕ) (rs ss : List Record) (gate other : ℕ) (behind rest : List ℕ) → AllByRecursion (IsRecordOf tag) rs → AllByRecursion (IsRecordOf tag) ss
    → Ends tag gate behind → Ends tag other rest → opened rs ++ gate ∷ behind ≡ opened ss ++ other ∷ rest → (rs ≡ ss) × (gate ∷ behind ≡ other ∷ rest)
same_end apart tag [] [] gate other behind rest each_r each_s ends_r ends_s e = (refl, e)
same_end apart tag [] (s ∷ ss) gate other behind rest each_r each_s ends_r ends_s e = absurd (ends_r (goes_on tag s ss gate other behind rest each_s.0 e))
same_end apart tag (r ∷ rs) [] gate other behind rest each_r each_s ends_r ends_s e = absurd (ends_s (goes_on tag r rs other gate rest behind each_r.0 (sym e)))
same_end apart tag (r ∷ rs) (s ∷ ss) gate other behind rest each_r each_s ends_r ends_s e =
    let here : record_bytes r ++ (opened rs ++ gate ∷ behind) ≡ record_bytes s ++ (opened ss ++ other ∷ rest) =
    sym (append_assoc (record_bytes r) (opened rs) (gate ∷ behind)) ∙ ap (λ (l : List ℕ). drop 1 l) e ∙ append_assoc (record_bytes s) (opened ss) (other ∷ rest) in
    let one = begin_alike apart tag r s _ _ each_r.0 each_s.0 here in
    let more = same_end apart tag rs ss gate other behind rest each_r.1 each_s.1 ends_r ends_s one.1 in
    (ap (λ x. x ∷ rs) one.0 ∙ ap (λ xs. s ∷ xs) more.0, more.1)

-- ---- of whole files

-- a walk behind the head
pub record Walk (tag bytes : List ℕ) : Type 0 where
  pub records : List Record
  pub each : AllByRecursion (IsRecordOf tag) records
  pub gate : ℕ
  pub behind : List ℕ
  pub ends : Ends tag gate behind
  pub is : bytes ≡ front tag records ++ gate ∷ behind

pub of_journal : (tag bytes : List ℕ) (records : List Record) → IsJournal tag bytes records → Walk tag bytes
of_journal tag bytes records j = record { records = records; each = j.each; gate = j.gate; behind = j.behind; ends = λ both. j.closed both.0; is = j.is }

pub of_bad : (tag bytes : List ℕ) (at : ℕ) → IsBadRecord tag bytes at → Walk tag bytes
of_bad tag bytes at b = record { records = b.records; each = b.each; gate = 1; behind = b.rest; ends = λ both. b.none both.1; is = b.is }

pub one_walk : SpelledApart → (tag bytes : List ℕ) (w v : Walk tag bytes) → (w.records ≡ v.records) × (w.gate ∷ w.behind ≡ v.gate ∷ v.behind)
one_walk apart tag bytes w v =
    let strip : (u : Walk tag bytes) → drop (length (head tag)) bytes ≡ opened u.records ++ u.gate ∷ u.behind =
    λ u. ap (λ (l : List ℕ). drop (length (head tag)) l) (u.is ∙ append_assoc (head tag) (opened u.records) (u.gate ∷ u.behind))
    ∙ drop_at (head tag) (opened u.records ++ u.gate ∷ u.behind) (length (head tag)) refl in
    same_end apart tag w.records v.records w.gate v.gate w.behind v.behind w.each v.each w.ends v.ends (sym (strip w) ∙ strip v)

pub one_journal : SpelledApart → (tag bytes : List ℕ) (records others : List Record) → IsJournal tag bytes records → IsJournal tag bytes others → records ≡ others
unfolding of_journal
one_journal apart tag bytes records others j k = (one_walk apart tag bytes (of_journal tag bytes records j) (of_journal tag bytes others k)).0

-- records behind the head, and a gate behind them
pub record Begun (tag bytes : List ℕ) : Type 0 where
  pub records : List Record
  pub gate : ℕ
  pub behind : List ℕ
  pub is : bytes ≡ front tag records ++ gate ∷ behind

begun : (tag bytes : List ℕ) → Walk tag bytes → Begun tag bytes
begun tag bytes w = record { records = w.records; gate = w.gate; behind = w.behind; is = w.is }

begun_magic : (tag bytes : List ℕ) → Begun tag bytes → take 4 bytes ≡ magic
begun_magic tag bytes w = ap (λ (l : List ℕ). take 4 l) w.is

begun_tag : (tag bytes : List ℕ) → length tag ≡ 8 → Begun tag bytes → take 8 (drop 4 bytes) ≡ tag
begun_tag tag bytes eight w =
    ap (λ (l : List ℕ). take 8 (drop 4 l)) w.is ∙ ap (λ (l : List ℕ). take 8 l) (append_assoc tag (opened w.records) (w.gate ∷ w.behind))
    ∙ take_at tag (opened w.records ++ w.gate ∷ w.behind) 8 eight

begun_gate : (tag bytes : List ℕ) → Begun tag bytes → bytes ≡ head tag → ⊥
begun_gate tag bytes w e =
    omega (arith, ap length (sym e ∙ w.is), length-append (front tag w.records) (w.gate ∷ w.behind), length-append (head tag) (opened w.records))

-- where records begin, only one behind them is wrong
pub only_end : (tag bytes : List ℕ) (at : ℕ) → length tag ≡ 8 → Begun tag bytes → IsFault tag bytes at → IsBadRecord tag bytes at
only_end tag bytes at eight w (magic_is_wrong wrong) = absurd (wrong (begun_magic tag bytes w))
only_end tag bytes at eight w (tag_is_wrong right wrong) = absurd (wrong (begun_tag tag bytes eight w))
only_end tag bytes at eight w (gate_is_missing e) = absurd (begun_gate tag bytes w e)
only_end tag bytes at eight w (record_is_bad b) = b

pub no_fault : SpelledApart → (tag bytes : List ℕ) (records : List Record) (at : ℕ) → length tag ≡ 8 → IsJournal tag bytes records → IsFault tag bytes at → ⊥
unfolding of_journal of_bad only_end
no_fault apart tag bytes records at eight j fault =
    let bad = only_end tag bytes at eight (begun tag bytes (of_journal tag bytes records j)) fault in
    let ends = (one_walk apart tag bytes (of_journal tag bytes records j) (of_bad tag bytes at bad)).1 in
    j.closed (head_is j.gate 1 j.behind bad.rest ends)

bad_alike : SpelledApart → (tag bytes : List ℕ) (at other : ℕ) → IsBadRecord tag bytes at → IsBadRecord tag bytes other → at ≡ other
unfolding of_bad
bad_alike apart tag bytes at other a b =
    let same = (one_walk apart tag bytes (of_bad tag bytes at a) (of_bad tag bytes other b)).0 in
    omega (arith, a.place, b.place, ap (λ rs. length (front tag rs)) same)

head_tag : (tag bytes : List ℕ) → length tag ≡ 8 → bytes ≡ head tag → take 8 (drop 4 bytes) ≡ tag
head_tag tag bytes eight e = ap (λ (l : List ℕ). take 8 (drop 4 l)) e ∙ take_all 8 tag (omega (arith, eight))

pub one_fault : SpelledApart → (tag bytes : List ℕ) (at other : ℕ) → length tag ≡ 8 → IsFault tag bytes at → IsFault tag bytes other → at ≡ other
one_fault apart tag bytes at other eight (record_is_bad a) b = bad_alike apart tag bytes at other a (only_end tag bytes other eight (begun tag bytes (of_bad tag bytes at a)) b)
one_fault apart tag bytes at other eight a (record_is_bad b) = bad_alike apart tag bytes at other (only_end tag bytes at eight (begun tag bytes (of_bad tag bytes other b)) a) b
one_fault apart tag bytes at other eight (magic_is_wrong a) (magic_is_wrong b) = refl
one_fault apart tag bytes at other eight (magic_is_wrong a) (tag_is_wrong right b) = absurd (a right)
one_fault apart tag bytes at other eight (magic_is_wrong a) (gate_is_missing b) = absurd (a (ap (λ (l : List ℕ). take 4 l) b))
one_fault apart tag bytes at other eight (tag_is_wrong right a) (magic_is_wrong b) = absurd (b right)
one_fault apart tag bytes at other eight (tag_is_wrong right a) (tag_is_wrong also b) = refl
one_fault apart tag bytes at other eight (tag_is_wrong right a) (gate_is_missing b) = absurd (a (head_tag tag bytes eight b))
one_fault apart tag bytes at other eight (gate_is_missing a) (magic_is_wrong b) = absurd (b (ap (λ (l : List ℕ). take 4 l) a))
one_fault apart tag bytes at other eight (gate_is_missing a) (tag_is_wrong right b) = absurd (b (head_tag tag bytes eight a))
one_fault apart tag bytes at other eight (gate_is_missing a) (gate_is_missing b) = refl
