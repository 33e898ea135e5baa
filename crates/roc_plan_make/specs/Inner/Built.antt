-- What is kept of a group, by what it is built from: the procedure, and the names that each of its groups binds
use Rattle.std.specs.Prelude.{◌≡◌, ℕ, Bool, ◌==◌, ◌<◌, List, [], length, map, Some, slice_get, slice_index_or, if◌then◌else◌}
use Rattle.std.specs.List.{list_any, position_or_len}
use Rattle.roc_program.specs.LookUps.{no_procedure}
use Rattle.roc_program.specs.Names.{has_name}
use Rattle.roc_program.specs.Program.{Workload, Procedure}
use Rattle.roc_program.specs.declared.piece_id.PieceId.{PieceId}
use Rattle.roc_merge_groups.specs.Groups.{piece_numbered, groups_in, group_at}
use Rattle.roc_plan.specs.declared.group.Class.{Class}
use Rattle.roc_plan.specs.declared.group.Class.TheVariants.{Immediate, Deferrable}
use Rattle.roc_plan.specs.declared.group.Input.{Input}
use Rattle.roc_plan.specs.declared.outline.Outline.{Outline}
use Rattle.roc_plan.specs.Groups.{bound_in, inputs_in, outs_in}

-- the group that binds a name, and the name's place there, by what each group binds
abbrev pub source_by : List (List ℕ) → ℕ → Input
source_by bounds n =
    let at = position_or_len (λ row. has_name row n) bounds
    in record { group = at; at = position_or_len (λ m. m == n) (slice_index_or bounds at []) }

-- what is kept of a group of these pieces
pub record IsDrawn (procedure : Procedure) (bounds : List (List ℕ)) (class : Class) (pieces : List ℕ) (o : Outline) : Type 0 where
  pub is_of : o.pieces.items ≡ pieces
  pub is_class : o.class ≡ class
  pub binds : o.bound ≡ length (bound_in procedure pieces)
  pub takes : o.names.items ≡ inputs_in procedure pieces
  pub sources : o.inputs.items ≡ map (source_by bounds) (inputs_in procedure pieces)
  pub adds : o.outs.items ≡ outs_in procedure pieces

-- of the first n groups of a procedure, of which a test tells the immediate pieces
pub record AreDrawn (procedure : Procedure) (is_immediate : ℕ → Bool) (groups : List (List ℕ)) (row : List Outline) (n : ℕ) : Type 0 where
  pub count : length row ≡ n
  pub each : (k : ℕ) (o : Outline) → slice_get row k ≡ Some o
      → IsDrawn procedure (map (bound_in procedure) groups) (if list_any is_immediate (group_at groups k) then Immediate else Deferrable) (group_at groups k) o

-- of all groups of a program
pub record AreAllDrawn (program : Workload) (is_immediate : PieceId → Bool) (groups : List (List (List ℕ))) (rows : List (List Outline)) : Type 0 where
  pub procedures : length rows ≡ length program.procedures
  pub each : (proc : ℕ) → proc < length program.procedures
      → AreDrawn (slice_index_or program.procedures proc no_procedure) (λ x. is_immediate (piece_numbered proc x)) (groups_in groups proc) (slice_index_or rows proc [])
      (length (groups_in groups proc))
