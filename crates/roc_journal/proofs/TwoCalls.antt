-- One call that changes a file, and a sync behind it.
use Rattle.std.proofs.Common.{◌≡◌, ℕ, List, sym, ◌∙◌, subst}
use Rattle.roc_disk.specs.declared.disk.Disk.{Ghosts as DiskOf}
use Rattle.roc_disk.specs.declared.disk.DiskDone.{DiskDone}
use Rattle.roc_disk.specs.declared.disk.DiskDone.TheVariants.{Ok, Failed}
use Rattle.roc_disk.specs.Answers.{OnDone}
use Rattle.roc_disk.specs.Stops.{Follows, NoMore, Only, Elapses}
use Rattle.roc_disk.specs.Over.{LeavesOnly}
use Rattle.roc_disk.proofs.Moments.{started, one_more}
use Rattle.roc_journal.specs.Inner.Steps.{IsThrough}
use Rattle.roc_journal.specs.Settled.{IsDurable}

pub on_done : (result : DiskDone) (P Q : Type 0) → (P → Q) → OnDone result P → OnDone result Q
on_done Ok P Q to p = to p
on_done Failed P Q to p = tt

module _ {D : Type 0} (disk : DiskOf D) (old mid new : D) (name bytes : List ℕ) (step : List ℕ → List ℕ → Type 0) (same : step bytes bytes) (durable : IsDurable disk old name bytes) where
  module _ (now : (image : List ℕ) → disk.left_since old name (disk.moment old) image → disk.may_leave old name image)
      (stop : Follows step (disk.may_leave old name) (disk.may_leave mid name))
      (time : Elapses (disk.moment old) (disk.moment mid) (disk.left_since old name) (disk.left_since mid name) (disk.may_leave mid name)) where
    -- what may be left behind the call
    left : (image : List ℕ) → disk.may_leave mid name image → step bytes image
    left image may = let from = stop image may in subst (λ before. step before image) (durable.only from.0 from.1) from.2

    leaves : LeavesOnly disk old mid name (step bytes)
    leaves =
        let here : (image : List ℕ) → disk.left_since old name (disk.moment old) image → step bytes image =
        λ image past. subst (step bytes) (sym (durable.only image (now image past))) same in
        one_more disk name old old mid (step bytes) (started disk name old (step bytes) here) time left

    pub call_fails : (after : List ℕ) → IsThrough disk old mid name (step bytes) Failed after
    call_fails after = record { leaves = leaves; done = tt }

    pub sync_follows : (result : DiskDone) (after : List ℕ) → disk.file mid ≡ disk.file old → disk.content mid name ≡ after → disk.file new ≡ disk.file mid
        → disk.content new name ≡ disk.content mid name → NoMore (disk.may_leave mid name) (disk.may_leave new name)
        → Elapses (disk.moment mid) (disk.moment new) (disk.left_since mid name) (disk.left_since new name) (disk.may_leave new name)
        → OnDone result (Only (disk.content mid name) (disk.may_leave new name)) → IsThrough disk old new name (step bytes) result after
    sync_follows result after file content same_file same_content no_more goes_on durable_now = record {
      leaves = one_more disk name old mid new (step bytes) leaves goes_on (λ image may. left image (no_more image may));
      done = on_done result _ _
          (λ only. record { file = same_file ∙ file ∙ durable.file; content = same_content ∙ content; only = subst (λ held. Only held (disk.may_leave new name)) content only })
          durable_now;
    }
