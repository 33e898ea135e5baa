-- What is kept beside the groups of a server, so that what is tried is kept or undone without memory
use Rattle.std.specs.Prelude.{◌≡◌, ◌<◌, ℕ, List, None}
use Rattle.roc_sequence.specs.Lists.{Has}
use Rattle.roc_sequence.specs.Places.{NoneTwice}
use Rattle.roc_rows.specs.declared.cell.Cell.{Cell}
use Rattle.roc_server_index.specs.GroupRefs.{CellRefs}
use Rattle.roc_step.specs.declared.started.StartedGroup.{StartedGroup}
use Rattle.roc_step.specs.State.{find_group}
use Rattle.roc_server_groups.specs.Groups.{is_same_group}
use Rattle.roc_server_groups.specs.Inner.Changes.{HasRoomAtCells}

-- there is room for a group, and for its references
pub record HasRoomToEnter (e : StartedGroup) (spare : ℕ) (index : List (Cell × CellRefs)) : Type 0 where
  pub place : 0 < spare
  pub cells : HasRoomAtCells e.cells index

-- it is not here, and there is room for it
pub record CanEnter (e : StartedGroup) (started : List StartedGroup) (spare : ℕ) (index : List (Cell × CellRefs)) : Type 0 where
  pub absent : find_group e.id e.group started ≡ None
  pub room : HasRoomToEnter e spare index

-- each group that is kept is there once, and each that starts can enter
pub record AreTried (kept : List StartedGroup) (spare : ℕ) (starting : List StartedGroup) (index : List (Cell × CellRefs)) : Type 0 where
  pub once : NoneTwice is_same_group kept
  pub enters : (e : StartedGroup) → Has e starting → CanEnter e kept spare index
