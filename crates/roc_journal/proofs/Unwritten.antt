-- Calls of a disk that change nothing.
use Rattle.std.proofs.Common.{◌≡◌, ℕ, List, true, ◌∙◌}
use Rattle.roc_disk.specs.declared.disk.Disk.{Ghosts as DiskOf}
use Rattle.roc_disk.specs.Stops.{NoMore, Elapses}
use Rattle.roc_disk.specs.Over.{Stays}
use Rattle.roc_disk.proofs.Moments.{started, one_more, joined, weaker}

module _ {D : Type 0} (disk : DiskOf D) where
  -- one call
  pub one_read : (old new : D) → disk.tells old ≡ true → disk.file new ≡ disk.file old → ((name : List ℕ) → disk.content new name ≡ disk.content old name)
      → ((name : List ℕ) → NoMore (disk.may_leave old name) (disk.may_leave new name))
      → ((name : List ℕ) → Elapses (disk.moment old) (disk.moment new) (disk.left_since old name) (disk.left_since new name) (disk.may_leave new name))
      → ((name image : List ℕ) → disk.left_since old name (disk.moment old) image → disk.may_leave old name image) → Stays disk old new
  one_read old new tells file content no_more time now = record {
    told = tells;
    file = file;
    content = content;
    no_more = no_more;
    leaves = λ name. one_more disk name old old new (disk.may_leave old name) (started disk name old (disk.may_leave old name) (now name)) (time name) (no_more name);
  }

  -- several, and several more
  pub reads_on : (old mid new : D) → Stays disk old mid → Stays disk mid new → Stays disk old new
  reads_on old mid new first next = record {
    told = first.told;
    file = next.file ∙ first.file;
    content = λ name. next.content name ∙ first.content name;
    no_more = λ name image may. first.no_more name image (next.no_more name image may);
    leaves = λ name. joined disk name old mid new (disk.may_leave old name) (first.leaves name)
        (weaker disk name mid new (disk.may_leave mid name) (disk.may_leave old name) (first.no_more name) (next.leaves name));
  }
