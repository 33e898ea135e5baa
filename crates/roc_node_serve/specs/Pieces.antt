-- In how many writes a server's node writes: docs/FORMATS.md, "Lines of nodes"
use Rattle.std.specs.Prelude.{◌≡◌, ℕ, Bool, true, false, List, [], ◌∷◌, Option}
use Rattle.roc_base.specs.declared.node.Shard.{Shard}
use Rattle.roc_io.specs.Observed.{Adds}
use Rattle.roc_io.specs.Sink.{AddsCut}
use Rattle.roc_node.specs.declared.counts.Counts.{Counts}
use Rattle.roc_node.specs.NodeLine.{node_lines_text, end_lines}
use Rattle.roc_node_serve.specs.declared.ends.ServeEnd.{ServeEnd}
use Rattle.roc_node_serve.specs.declared.ends.ServeEnd.TheVariants.{Done, LinkFault, SinkFault, NoMemory, Journal, Full, Disk, BookFault}
use Rattle.roc_node_serve.specs.ServeEnd.{first_text}

-- the last lines were not written, and the sink did not fail
abbrev pub has_no_last_lines : ServeEnd → Bool
has_no_last_lines LinkFault = true
has_no_last_lines NoMemory = true
has_no_last_lines (Journal at) = true
has_no_last_lines Full = true
has_no_last_lines Disk = true
has_no_last_lines BookFault = true
has_no_last_lines Done = false
has_no_last_lines SinkFault = false

-- The first line goes out in one write, and all last lines in one behind it: those of a node that was stopped or was not, with its counts. A write
-- that failed took a front of these lines
pub data WritesInPieces (shard : Shard) (counts : Bool) (old new : Option (List (List ℕ))) : ServeEnd → Type 0 where
  silent : (end : ServeEnd) → has_no_last_lines end ≡ true → new ≡ old → WritesInPieces shard counts old new end
  greeted : (end : ServeEnd) → has_no_last_lines end ≡ true → Adds old new (first_text shard ∷ []) → WritesInPieces shard counts old new end
  cut_first : AddsCut old new [] (first_text shard) → WritesInPieces shard counts old new SinkFault
  cut_last : (stopped : Bool) (counted : Counts) → AddsCut old new (first_text shard ∷ []) (node_lines_text (end_lines shard stopped counts counted))
      → WritesInPieces shard counts old new SinkFault
  closed : (stopped : Bool) (counted : Counts) → Adds old new (first_text shard ∷ node_lines_text (end_lines shard stopped counts counted) ∷ [])
      → WritesInPieces shard counts old new Done

-- a text was written at the end, in one write, of which the sink took a front where it failed
abbrev pub ClosesInPiece : ServeEnd → List ℕ → Option (List (List ℕ)) → Option (List (List ℕ)) → Type 0
ClosesInPiece Done text old new = Adds old new (text ∷ [])
ClosesInPiece SinkFault text old new = AddsCut old new [] text
ClosesInPiece NoMemory text old new = new ≡ old
ClosesInPiece LinkFault text old new = ⊥
ClosesInPiece (Journal at) text old new = ⊥
ClosesInPiece Full text old new = ⊥
ClosesInPiece Disk text old new = ⊥
ClosesInPiece BookFault text old new = ⊥
