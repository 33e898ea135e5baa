-- One call of `run`, as its contract sees it
use Rattle.std.specs.Prelude.{◌≡◌, ℕ, List}
use Rattle.roc_book.specs.Call.{BookCall}
use Rattle.roc_io.specs.declared.files.Files.{Ghosts as FilesOf}
use Rattle.roc_io.specs.declared.sink.Sink.{Ghosts as SinkOf}
use Rattle.roc_disk.specs.declared.disk.Disk.{Ghosts as DiskOf}
use Rattle.roc_io.specs.Call.{FilesCall, SinkCall, LinkCall, ChildrenCall, files_call, sink_call}

-- the words, what is told of the files, and what standard output took
pub record RunCall : Type 0 where
  pub words : List (List ℕ)
  pub files : FilesCall
  pub out : SinkCall

abbrev pub run_call : {F S : Type 0} → FilesOf F → SinkOf S → (words : List (List ℕ)) → (files_old files_new : F) → (out_old out_new : S) → RunCall
run_call F S words files_old files_new out_old out_new = record { words = words; files = files_call F files_old files_new; out = sink_call S out_old out_new }

-- a disk before and after the call: what it tells is read off its values
pub record DiskCall : Type 1 where
  pub D : Type 0
  pub of : DiskOf D
  pub old : D
  pub new : D

abbrev pub disk_call : {D : Type 0} → DiskOf D → (old new : D) → DiskCall
disk_call {D} disk old new = record { D = D; of = disk; old = old; new = new }

-- all that is seen of a call
pub record WholeCall : Type 1 where
  pub run : RunCall
  pub link : LinkCall
  pub children : ChildrenCall
  pub disk : DiskCall
  pub book : BookCall

-- no book was opened or written to, as far as it tells
abbrev pub LeavesBook : BookCall → Type 0
LeavesBook book = book.new ≡ book.old

-- standard output took nothing
abbrev pub TakesNothing : RunCall → Type 0
TakesNothing call = call.out.new ≡ call.out.old

-- no read failed
abbrev pub ReadsAll : RunCall → Type 0
ReadsAll call = call.files.failed_new ≡ call.files.failed_old
