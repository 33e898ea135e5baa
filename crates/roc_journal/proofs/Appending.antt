-- What is left of a journal by each of the two writes of an append.
use Rattle.std.proofs.Common.{◌≡◌, inl, inr, ⊎_elim, ℕ, ◌+◌, ◌≤◌, List, [], ◌∷◌, ◌++◌, length, sym, ◌∙◌, ap, subst, arith, length-append}
use Rattle.roc_disk.specs.declared.disk.Disk.{Ghosts as DiskOf}
use Rattle.roc_disk.specs.declared.disk.DiskDone.{DiskDone}
use Rattle.roc_disk.specs.Answers.{put}
use Rattle.roc_disk.specs.Stops.{Torn, Only}
use Rattle.roc_disk.specs.Over.{LeavesOnly}
use Rattle.roc_disk.proofs.Moments.{joined, weaker}
use Rattle.roc_journal.specs.declared.journal.Journal.{Journal}
use Rattle.roc_journal.specs.declared.record.Record.{Record}
use Rattle.roc_journal.specs.Format.{record_bytes, IsRecordOf}
use Rattle.roc_journal.specs.Inner.Steps.{IsThrough}
use Rattle.roc_journal.specs.Settled.{IsDurable, IsSynced, IsBeforeOrAfter}
use Rattle.roc_journal.proofs.Ends.{size_of_end, torn_behind, put_behind, torn_gate, put_gate}
use Rattle.roc_journal.proofs.Records.{front, one_or_other, all_more, gate_moves, front_size}

module _ {D : Type 0} (disk : DiskOf D) (name tag : List ℕ) (records : List Record) (added : Record) (journal : Journal) (bytes : List ℕ)
    (is_of : IsRecordOf tag added) (text : bytes ≡ record_bytes added ++ 0 ∷ []) (old : D) (settled : IsSynced disk old name tag records journal) where
  abbrev pub held : List ℕ
  held = front tag records ++ settled.rests.gate ∷ []

  abbrev pub staged : List ℕ
  staged = front tag records ++ settled.rests.gate ∷ bytes

  pub begun : IsDurable disk old name held
  begun = record { file = settled.file; content = settled.rests.is; only = subst (λ now. Only now (disk.may_leave old name)) settled.rests.is settled.durable }

  pub behind_is_within : journal.gate + 1 ≤ length held
  behind_is_within = omega (arith, settled.gate, size_of_end (front tag records) settled.rests.gate)

  pub gate_is_within : journal.gate ≤ length staged
  gate_is_within = omega (arith, settled.gate, length-append (front tag records) (settled.rests.gate ∷ bytes))

  torn_first : (n : ℕ) (image : List ℕ) → Torn (journal.gate + 1) n held image → IsBeforeOrAfter tag records added image
  torn_first n image torn =
      let at_front = subst (λ k. Torn (k + 1) n held image) settled.gate torn in
      inl (record { each = settled.rests.each; gate = settled.rests.gate; closed = settled.rests.closed; behind = _; is = torn_behind (front tag records) settled.rests.gate n image at_front })

  torn_second : (image : List ℕ) → Torn journal.gate 1 staged image → IsBeforeOrAfter tag records added image
  torn_second image torn =
      let found = torn_gate (front tag records) settled.rests.gate bytes image (subst (λ k. Torn k 1 staged image) settled.gate torn) in
      ⊎_elim
      (λ is_open. inr (record {
        each = all_more (IsRecordOf tag) records added settled.rests.each is_of;
        gate = 0;
        closed = λ e. omega (arith, e);
        behind = [];
        is = found.1 ∙ ap (λ byte. front tag records ++ byte ∷ bytes) is_open ∙ ap (λ (l : List ℕ). front tag records ++ 1 ∷ l) text ∙ gate_moves tag records added 0 [];
      }))
      (λ is_closed. inl (record { each = settled.rests.each; gate = found.0; closed = is_closed; behind = bytes; is = found.1 }))
      (one_or_other found.0)

  -- the record is written behind the closed gate
  pub first_leaves : (mid : D) (result : DiskDone) (n : ℕ) (after : List ℕ) → IsThrough disk old mid name (Torn (journal.gate + 1) n held) result after
      → LeavesOnly disk old mid name (IsBeforeOrAfter tag records added)
  first_leaves mid result n after through = weaker disk name old mid (Torn (journal.gate + 1) n held) (IsBeforeOrAfter tag records added) (torn_first n) through.leaves

  pub first_done : (mid : D) → IsDurable disk mid name (put held (journal.gate + 1) bytes) → IsDurable disk mid name staged
  first_done mid durable =
      subst (IsDurable disk mid name) (ap (λ k. put held (k + 1) bytes) settled.gate ∙ put_behind (front tag records) settled.rests.gate bytes) durable

  -- the gate is opened
  pub second_leaves : (mid new : D) (result : DiskDone) (after : List ℕ) → LeavesOnly disk old mid name (IsBeforeOrAfter tag records added)
      → IsThrough disk mid new name (Torn journal.gate 1 staged) result after → LeavesOnly disk old new name (IsBeforeOrAfter tag records added)
  second_leaves mid new result after first through =
      joined disk name old mid new (IsBeforeOrAfter tag records added) first
      (weaker disk name mid new (Torn journal.gate 1 staged) (IsBeforeOrAfter tag records added) torn_second through.leaves)

  pub second_done : (new : D) (after : Journal) → after.gate ≡ journal.gate + length bytes → IsDurable disk new name (put staged journal.gate (1 ∷ []))
      → IsSynced disk new name tag (records ++ added ∷ []) after
  second_done new after grown durable =
      let is_open : put staged journal.gate (1 ∷ []) ≡ front tag (records ++ added ∷ []) ++ 0 ∷ [] =
      ap (λ k. put staged k (1 ∷ [])) settled.gate ∙ put_gate (front tag records) settled.rests.gate 1 bytes
      ∙ ap (λ (l : List ℕ). front tag records ++ 1 ∷ l) text ∙ gate_moves tag records added 0 [] in
      record {
        file = durable.file;
        rests = record {
          each = all_more (IsRecordOf tag) records added settled.rests.each is_of;
          gate = 0;
          closed = λ e. omega (arith, e);
          is = durable.content ∙ is_open;
        };
        gate = omega (arith, grown, settled.gate, front_size tag records added, ap length text, length-append (record_bytes added) (0 ∷ []));
        durable = subst (λ now. Only now (disk.may_leave new name)) (sym durable.content) durable.only;
      }
