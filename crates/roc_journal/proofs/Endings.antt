-- What is left of a journal where what stands behind its closed gate is cut.
use Rattle.std.proofs.Common.{◌≡◌, ℕ, ◌+◌, ◌≤◌, List, ◌∷◌, length, take, sym, ◌∙◌, ap, subst, arith, length-append}
use Rattle.roc_disk.specs.declared.disk.Disk.{Ghosts as DiskOf}
use Rattle.roc_disk.specs.declared.disk.DiskDone.{DiskDone}
use Rattle.roc_disk.specs.Stops.{Cut, Only}
use Rattle.roc_disk.specs.Over.{LeavesOnly}
use Rattle.roc_disk.proofs.Moments.{weaker}
use Rattle.roc_journal.specs.declared.journal.Journal.{Journal}
use Rattle.roc_journal.specs.declared.record.Record.{Record}
use Rattle.roc_journal.specs.Format.{IsJournal}
use Rattle.roc_journal.specs.Inner.Steps.{IsThrough}
use Rattle.roc_journal.specs.Settled.{IsDurable, IsSynced}
use Rattle.roc_journal.proofs.Ends.{cut_behind, take_behind}
use Rattle.roc_journal.proofs.Records.{front}

module _ {D : Type 0} (disk : DiskOf D) (name tag bytes : List ℕ) (records : List Record) (place : ℕ) (journal : IsJournal tag bytes records) (at : place ≡ length (front tag records)) where
  pub gate_inside : place + 1 ≤ length bytes
  gate_inside = omega (arith, at, ap length journal.is, length-append (front tag records) (journal.gate ∷ journal.behind))

  pub cut_leaves : (old new : D) (result : DiskDone) (after : List ℕ) → IsThrough disk old new name (Cut (place + 1) bytes) result after
      → LeavesOnly disk old new name (λ image. IsJournal tag image records)
  cut_leaves old new result after through =
      weaker disk name old new (Cut (place + 1) bytes) (λ image. IsJournal tag image records)
      (λ image cut. record {
        each = journal.each;
        gate = journal.gate;
        closed = journal.closed;
        behind = _;
        is = cut_behind (front tag records) journal.gate journal.behind image
            (subst (λ held. Cut (length (front tag records) + 1) held image) journal.is (subst (λ k. Cut (k + 1) bytes image) at cut));
      })
      through.leaves

  pub cut_done : (new : D) (made : Journal) → made.gate ≡ place → IsDurable disk new name (take (place + 1) bytes) → IsSynced disk new name tag records made
  cut_done new made same durable =
      let is = ap (λ k. take (k + 1) bytes) at ∙ ap (λ (l : List ℕ). take (length (front tag records) + 1) l) journal.is ∙ take_behind (front tag records) journal.gate journal.behind in
      record {
        file = durable.file;
        rests = record { each = journal.each; gate = journal.gate; closed = journal.closed; is = durable.content ∙ is };
        gate = same ∙ at;
        durable = subst (λ now. Only now (disk.may_leave new name)) (sym durable.content) durable.only;
      }
