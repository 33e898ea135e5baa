-- How a command with nodes ends, before it is told
use Rattle.std.specs.Prelude.{◌≡◌, ◌⊎◌, ℕ, Bool, true, false, Option, Result, Ok, Err}
use Rattle.roc_base.specs.declared.node.Shard.{Shard}
use Rattle.roc_cli_files.specs.declared.fault.Fault.{Fault}
use Rattle.roc_cli_files.specs.declared.fault.Fault.TheVariants.{Journal, Memory, Unanswered, Sink, Link, Child, Disk, Full, Book}
use Rattle.roc_cli_files.specs.Held.{NodeFiles}
use Rattle.roc_cli_files.specs.NodeNames.{NodesFail}
use Rattle.roc_cli_nodes.specs.Call.{RunCall, WholeCall}
use Rattle.roc_cli_nodes.specs.Words.{NamesNodeFiles}
use Rattle.roc_cli_nodes.specs.NodeEnds as nodes_end
use Rattle.roc_cli_nodes.specs.NodeEnds.{NodesEnd}
use Rattle.roc_cli_nodes.specs.Nodes.{AreNodesEnded, IsChildBlamed}

-- the files that the words name do not hold what the command needs, and this is why
abbrev pub FilesFail : RunCall → Fault → Type 0
FilesFail call fault = (files : NodeFiles) × NamesNodeFiles call.words files × NodesFail call.files.content files call.out.old call.out.new fault

-- how a loop ends, once the files were read: P is what is told of each end, and C of a child that is to blame
abbrev pub LoopEnded : (P : NodesEnd → Type 0) → (C : Shard → Option ℕ → Type 0) → Result Unit Fault → Type 0
LoopEnded P C (Ok done) = P nodes_end.Done
LoopEnded P C (Err Memory) = P nodes_end.NoMemory
LoopEnded P C (Err Unanswered) = P nodes_end.Unanswered
LoopEnded P C (Err Sink) = P nodes_end.SinkFault
LoopEnded P C (Err Link) = P nodes_end.LinkFault
LoopEnded P C (Err (Child shard status)) = C shard status
LoopEnded P C (Err (Journal file)) = P (nodes_end.Journal file.now)
LoopEnded P C (Err (Disk file)) = P (nodes_end.DiskFault file.now)
LoopEnded P C (Err (Full file)) = P (nodes_end.Full file.now)
LoopEnded P C (Err (Book file)) = P (nodes_end.BookFault file.now)
LoopEnded P C (Err _) = ⊥

-- the same, or why the files were not read
abbrev pub LaunchEnds : RunCall → (P : NodesEnd → Type 0) → (C : Shard → Option ℕ → Type 0) → Result Unit Fault → Type 0
LaunchEnds call P C (Ok done) = LoopEnded P C (Ok done)
LaunchEnds call P C (Err fault) = FilesFail call fault ⊎ LoopEnded P C (Err fault)

-- how any command with nodes ends
abbrev pub IsLaunched : WholeCall → Result Unit Fault → Type 0
IsLaunched call result = LaunchEnds call.run (AreNodesEnded call) (IsChildBlamed call) result

-- where all is done, no start or wait failed
abbrev pub CountsChildren : Result Unit Fault → (old new : ℕ) → Type 0
CountsChildren (Ok done) old new = new ≡ old
CountsChildren (Err fault) old new = Unit {0}

-- what is found before any node runs and any book is opened: a journal is opened before that
abbrev pub precedes_loop : Fault → Bool
precedes_loop Memory = false
precedes_loop Unanswered = false
precedes_loop Sink = false
precedes_loop Link = false
precedes_loop (Child shard status) = false
precedes_loop (Disk file) = false
precedes_loop (Full file) = false
precedes_loop (Book file) = false
precedes_loop _ = true

-- what is found before a journal is opened
abbrev pub precedes_journal : Fault → Bool
precedes_journal (Journal file) = false
precedes_journal fault = precedes_loop fault
