-- How a run of a disk's calls goes on.
use Rattle.std.proofs.Common.{inl, inr, ⊎_elim, ℕ, List, arith}
use Rattle.roc_disk.specs.declared.disk.Disk.{Ghosts as DiskOf}
use Rattle.roc_disk.specs.Stops.{Elapses}
use Rattle.roc_disk.specs.Over.{LeavesOnly}

module _ {D : Type 0} (disk : DiskOf D) (name : List ℕ) where
  -- before the first call
  pub started : (old : D) (P : List ℕ → Type 0) → ((image : List ℕ) → disk.left_since old name (disk.moment old) image → P image) → LeavesOnly disk old old name P
  started old P here = record { later = omega arith; each = here; before = λ t image le left. inl left }

  -- one call more, after which a stop leaves what has P
  pub one_more : (old mid new : D) (P : List ℕ → Type 0) → LeavesOnly disk old mid name P
      → Elapses (disk.moment mid) (disk.moment new) (disk.left_since mid name) (disk.left_since new name) (disk.may_leave new name)
      → ((image : List ℕ) → disk.may_leave new name image → P image) → LeavesOnly disk old new name P
  one_more old mid new P so_far time here = record {
    later = omega (arith, so_far.later, time.later);
    each = λ image left. ⊎_elim (so_far.each image) (here image) (time.nothing_else (disk.moment old) image so_far.later left);
    before = λ t image le left. ⊎_elim (so_far.before t image le) (λ now. inr (here image now)) (time.nothing_else t image (omega (arith, le, so_far.later)) left);
  }

  -- several calls, and several more
  pub joined : (old mid new : D) (P : List ℕ → Type 0) → LeavesOnly disk old mid name P → LeavesOnly disk mid new name P → LeavesOnly disk old new name P
  joined old mid new P so_far next = record {
    later = omega (arith, so_far.later, next.later);
    each = λ image left. ⊎_elim (so_far.each image) (λ has. has) (next.before (disk.moment old) image so_far.later left);
    before = λ t image le left. ⊎_elim (so_far.before t image le) (λ has. inr has) (next.before t image (omega (arith, le, so_far.later)) left);
  }

  -- what has P has Q
  pub weaker : (old new : D) (P Q : List ℕ → Type 0) → ((image : List ℕ) → P image → Q image) → LeavesOnly disk old new name P → LeavesOnly disk old new name Q
  weaker old new P Q to leaves = record {
    later = leaves.later;
    each = λ image left. to image (leaves.each image left);
    before = λ t image le left. ⊎_elim (λ past. inl past) (λ has. inr (to image has)) (leaves.before t image le left);
  }
