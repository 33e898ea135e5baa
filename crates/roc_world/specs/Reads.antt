-- What is read of a world
use Rattle.std.specs.Prelude.{ℤ, List, map}
use Rattle.std.specs.List.{flat_map}
use Rattle.roc_base.specs.declared.id.TxnId.{TxnId}
use Rattle.roc_rows.specs.declared.cell.Cell.{Cell}
use Rattle.roc_rows.specs.Store.{entries}
use Rattle.roc_epoch.specs.declared.file.File.{File}
use Rattle.roc_two_files.specs.Sealed.{Sealed}
use Rattle.roc_growth.specs.World.{GrownWorld}

-- the file of each message
abbrev pub files_of : List Sealed → List File
files_of sent = map (λ m. m.file) sent

-- the cells that are not 0, shard by shard
abbrev pub cells_of : GrownWorld → List (Cell × ℤ)
cells_of w = flat_map (λ s. entries s.core.store) w.servers

-- the transactions and views without a reply, coordinator by coordinator
abbrev pub unanswered_of : GrownWorld → List TxnId
unanswered_of w = flat_map (λ c. c.core.unanswered) w.coords
