-- The cells of a table with the references that they hold
use Rattle.std.specs.Prelude.{◌-◌, ℕ, List, Vec, map, vec_len, vec_capacity}
use Rattle.std.specs.declared.alloc.Global.{Global}
use Rattle.roc_rows.specs.declared.cell.Cell.{Cell}
use Rattle.roc_server_index.specs.declared.group_ref.GroupRef.{GroupRef}
use Rattle.roc_server_index.specs.GroupRefs.{CellRefs}

-- how many more find room
abbrev pub room_of : Vec GroupRef Global → ℕ
room_of v = vec_capacity v - vec_len v

abbrev pub cell_refs : Vec GroupRef Global → CellRefs
cell_refs v = record { refs = v.items; spare = room_of v }

-- the entries of a table
abbrev pub held : List (Cell × Vec GroupRef Global) → List (Cell × CellRefs)
held es = map (λ e. (e.0, cell_refs e.1)) es
