-- What is left of a file that is being made a journal.
use Rattle.std.proofs.Common.{◌≡◌, ℕ, ◌+◌, ◌≤◌, List, [], ◌∷◌, ◌++◌, length, refl, sym, ◌∙◌, ap, subst, arith, length-append}
use Rattle.std.proofs.lemmas.List.{append-nil, drop_all}
use Rattle.roc_disk.specs.declared.disk.Disk.{Ghosts as DiskOf}
use Rattle.roc_disk.specs.declared.disk.DiskDone.{DiskDone}
use Rattle.roc_disk.specs.Answers.{put}
use Rattle.roc_disk.specs.Stops.{Torn, Only}
use Rattle.roc_disk.specs.Over.{LeavesOnly}
use Rattle.roc_disk.proofs.Moments.{joined, weaker}
use Rattle.roc_journal.specs.declared.journal.Journal.{Journal}
use Rattle.roc_journal.specs.declared.record.Record.{Record}
use Rattle.roc_journal.specs.Format.{magic, head, record_bytes, opened, IsJournal}
use Rattle.roc_journal.specs.Inner.Steps.{IsThrough}
use Rattle.roc_journal.specs.Settled.{IsDurable, IsSynced, IsUnmade}
use Rattle.roc_journal.proofs.Records.{front, record_size}

-- so short a file holds no record
holds_none : (tag image : List ℕ) → length tag ≡ 8 → length image ≤ 13 → (records : List Record) → IsJournal tag image records → records ≡ []
holds_none tag image eight short [] journal = refl
holds_none tag image eight short (r ∷ rs) journal =
    let all = ap length journal.is ∙ length-append (front tag (r ∷ rs)) (journal.gate ∷ journal.behind) in
    let before = length-append (head tag) (opened (r ∷ rs)) in
    let first = length-append (record_bytes r) (opened rs) in
    absurd (omega (arith, all, before, first, record_size r, eight, short))

pub unmade : (tag image : List ℕ) → length tag ≡ 8 → length image ≤ 13 → IsUnmade tag image
unmade tag image eight short = record { short = short; no_record = holds_none tag image eight short }

module _ {D : Type 0} (disk : DiskOf D) (name tag blank : List ℕ) (eight : length tag ≡ 8) (text : blank ≡ 0 ∷ 0 ∷ 0 ∷ 0 ∷ tag ++ 0 ∷ []) where
  abbrev pub whole : List ℕ
  whole = 0 ∷ 0 ∷ 0 ∷ 0 ∷ tag ++ 0 ∷ []

  whole_size : length whole ≡ 13
  whole_size = omega (arith, eight, length-append tag (0 ∷ []))

  pub first_leaves : (old mid : D) (result : DiskDone) (after : List ℕ) → IsThrough disk old mid name (Torn 0 (length blank) []) result after → LeavesOnly disk old mid name (IsUnmade tag)
  first_leaves old mid result after through =
      weaker disk name old mid (Torn 0 (length blank) []) (IsUnmade tag) (λ image torn. unmade tag image eight (omega (arith, torn.no_longer, ap length text, whole_size))) through.leaves

  pub first_done : (mid : D) → IsDurable disk mid name (put [] 0 blank) → IsDurable disk mid name whole
  first_done mid durable =
      let is_blank : put [] 0 blank ≡ blank = ap (λ (l : List ℕ). blank ++ l) (drop_all (0 + length blank) [] (omega arith)) ∙ append-nil blank in
      subst (IsDurable disk mid name) (is_blank ∙ text) durable

  pub second_leaves : (old mid new : D) (result : DiskDone) (after : List ℕ) → LeavesOnly disk old mid name (IsUnmade tag) → IsThrough disk mid new name (Torn 0 4 whole) result after
      → LeavesOnly disk old new name (IsUnmade tag)
  second_leaves old mid new result after first through =
      joined disk name old mid new (IsUnmade tag) first
      (weaker disk name mid new (Torn 0 4 whole) (IsUnmade tag) (λ image torn. unmade tag image eight (omega (arith, torn.no_longer, whole_size))) through.leaves)

  pub second_done : (new : D) (journal : Journal) → journal.gate ≡ 12 → IsDurable disk new name (put whole 0 magic) → IsSynced disk new name tag [] journal
  second_done new journal twelve durable =
      let is_whole : put whole 0 magic ≡ front tag [] ++ 0 ∷ [] = ap (λ (l : List ℕ). l ++ 0 ∷ []) (sym (append-nil (head tag))) in
      record {
        file = durable.file;
        rests = record { each = tt; gate = 0; closed = λ e. omega (arith, e); is = durable.content ∙ is_whole };
        gate = omega (arith, twelve, eight, ap length (append-nil (head tag)));
        durable = subst (λ now. Only now (disk.may_leave new name)) (sym durable.content) durable.only;
      }
