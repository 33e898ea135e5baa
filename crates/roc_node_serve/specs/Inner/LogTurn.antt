-- What one turn of a server's node does to its book, and several
use Rattle.std.specs.Prelude.{◌≡◌, ◌⊎◌, ℕ, Bool, true, false, List, [], ◌∷◌, ◌++◌, map, take, Option, Some, None}
use Rattle.std.specs.Borrow.{Bor}
use Rattle.roc_book.specs.Call.{BookView, BookCall, Keeps, KeepsFront}
use Rattle.roc_io.specs.Link.{Reception, receiving}
use Rattle.roc_io.specs.Observed.{Adds, AddsFront}
use Rattle.roc_io.specs.declared.sink.Written.{Written}
use Rattle.roc_io.specs.declared.sink.Written.TheVariants as written
use Rattle.roc_log.specs.declared.line.LogLine.{LogLine}
use Rattle.roc_log.specs.declared.line.LogLine.TheVariants.{In, Tick}
use Rattle.roc_log.specs.LogLine.{lines_text}
use Rattle.roc_program.specs.Program.{Workload}
use Rattle.roc_node.specs.NodeEvent.{NodeEvent, NodeSetting, receive_of}
use Rattle.roc_node_serve.specs.declared.ends.ServeEnd.{ServeEnd}
use Rattle.roc_node_serve.specs.declared.logging.BookStart.{BookStart}
use Rattle.roc_node_serve.specs.declared.logging.BookStart.TheVariants as start
use Rattle.roc_node_serve.specs.Logging.{LogReached, log_unopened, log_begins, log_holds, log_cut, log_reached}
use Rattle.roc_node_serve.specs.ServeEnd.{Reached}
use Rattle.roc_node_serve.specs.ServerRun.{ServerNodeState, AfterTurn}

-- ---- lines

-- the line of a datagram, or of silence
abbrev pub event_line : Option (Bor (List ℕ)) → LogLine
event_line None = Tick
event_line (Some bytes) = In bytes.now

-- the text for the book of these lines
abbrev pub text_for : (logs : Bool) → Workload → List LogLine → List ℕ
text_for true program lines = lines_text program lines
text_for false program lines = []

-- ---- one piece

-- the book took this text where a log is kept, and else nothing
abbrev pub Took : (logs : Bool) → (old new : BookView) → (text : List ℕ) → Type 0
Took true old new text = (new.opened ≡ old.opened) × Adds old.taken new.taken text
Took false old new text = new ≡ old

-- a log is kept, and the book took a front of this text
abbrev pub TookFront : (logs : Bool) → (old new : BookView) → (text : List ℕ) → Type 0
TookFront logs old new text = (logs ≡ true) × (new.opened ≡ old.opened) × AddsFront old.taken new.taken text

-- what came of putting it there
abbrev pub PutsText : (logs : Bool) → (text : List ℕ) → (old new : BookView) → Written → Type 0
PutsText logs text old new written.Ok = Took logs old new text
PutsText logs text old new written.Failed = TookFront logs old new text

-- ---- several turns

-- the book took all lines that a node has more than another
pub record TookAll (logs : Bool) (old new : BookView) (program : Workload) (first node : ServerNodeState) : Type 0 where
  pub lines : List LogLine
  pub is : node.logged ≡ first.logged ++ lines
  pub took : Took logs old new (lines_text program lines)

-- and behind them a front of the lines of the event that a receive gave
pub record TookCut (logs : Bool) (old new : BookView) (S : NodeSetting) (first node : ServerNodeState) (last : List Reception) : Type 0 where
  pub kept : logs ≡ true
  pub event : NodeEvent
  pub is : map receiving last ≡ receive_of event ∷ []
  pub next : ServerNodeState
  pub after : AfterTurn S node event next
  pub lines : List LogLine
  pub before : node.logged ≡ first.logged ++ lines
  pub more : List LogLine
  pub adds : next.logged ≡ node.logged ++ more
  pub cut : ℕ
  pub took : Took logs old new (lines_text S.plan.program lines ++ take cut (lines_text S.plan.program more))

-- what the book took since the first lines of a log, of one that came so far
abbrev pub TookTo : (logs : Bool) → (old new : BookView) → NodeSetting → (first : ServerNodeState) → LogReached → Type 0
TookTo logs old new S first log_unopened = ⊥
TookTo logs old new S first (log_begins node) = ⊥
TookTo logs old new S first (log_holds node) = TookAll logs old new S.plan.program first node
TookTo logs old new S first (log_cut node last) = TookCut logs old new S first node last

-- the same in a call that came so far and ended so
abbrev pub TookSo : (logs : Bool) → (old new : BookView) → NodeSetting → (first : ServerNodeState) → Reached → ServeEnd → Type 0
TookSo logs old new S first reached end = TookTo logs old new S first (log_reached reached end)

-- ---- the book is opened

abbrev pub start_failed : BookStart → Bool
start_failed start.Failed = true
start_failed start.Ready = false
start_failed start.NoMemory = false

-- a log begins with this text: the book was opened, where a log is named, and took it
abbrev pub Begins : (log : Option (List ℕ)) → BookCall → (text : List ℕ) → BookStart → Type 0
Begins log book text start.Ready = Keeps log book text
Begins log book text start.NoMemory = book.new ≡ book.old
Begins None book text start.Failed = ⊥
Begins (Some name) book text start.Failed = (book.new ≡ book.old) ⊎ KeepsFront (Some name) book [] text
