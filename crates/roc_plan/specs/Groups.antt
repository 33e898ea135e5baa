-- Plans: programs whose pieces are put into groups; and what a group takes and gives
use Rattle.std.specs.Prelude.{ℕ, ℤ, pos, Bool, false, not, ◌&&◌, ◌==◌, List, [], ◌∷◌, length, map, filter, take, slice_index_or, slice_set, unsigned_abs, if◌then◌else◌}
use Rattle.std.specs.List.{flat_map, list_any, position_or_len, range_with_len}
use Rattle.std.specs.Int.{int_rem_euclid}
use Rattle.roc_program.specs.Program.{Workload, Procedure, Piece}
use Rattle.roc_program.specs.LookUps.{no_piece, no_procedure, is_view_in, is_transaction_in}
use Rattle.roc_program.specs.Names.{piece_uses, bindings, outputs, has_name}
use Rattle.roc_program.specs.Values.{Environment, with_arguments, value}
use Rattle.roc_plan.specs.declared.group.Class.{Class}
use Rattle.roc_plan.specs.declared.group.Class.TheVariants.{Immediate, Deferrable}
use Rattle.roc_plan.specs.declared.group.Input.{Input}

-- pieces of one procedure that run together, by number, and whether they run at the start
pub record Group : Type 0 where
  pub pieces : List ℕ
  pub is_immediate : Bool

-- a program with the groups of each procedure
pub record Plan : Type 0 where
  pub program : Workload
  pub groups : List (List Group)

-- what stands for a group that is not there
abbrev pub no_group : Group
no_group = record { pieces = []; is_immediate = false }

-- the pieces of these numbers
abbrev pub pieces_at : Procedure → List ℕ → List Piece
pieces_at procedure numbers = map (λ k. slice_index_or procedure.pieces k no_piece) numbers

-- the names that a group binds, in program order: the first one's value stands first in the group's bound list
abbrev pub bound_in : Procedure → List ℕ → List ℕ
bound_in procedure group = bindings (pieces_at procedure group)

-- the names of other groups' pieces that a group uses, in the order in which they are bound
abbrev pub inputs_in : Procedure → List ℕ → List ℕ
inputs_in procedure group =
    filter (λ n. list_any (λ piece. piece_uses piece n) (pieces_at procedure group) && not (has_name (bound_in procedure group) n))
    (bindings procedure.pieces)

-- the group that binds a name, and the name's place in that group's bound list
abbrev pub source_in : Procedure → List Group → ℕ → Input
source_in procedure groups n =
    let at = position_or_len (λ group. has_name (bound_in procedure group.pieces) n) groups
    in record { group = at; at = position_or_len (λ m. m == n) (bound_in procedure (slice_index_or groups at no_group).pieces) }

-- the places in the reply of what a piece adds to it
abbrev pub places_in : Procedure → ℕ → List ℕ
places_in procedure k = range_with_len (length (outputs (take k procedure.pieces))) (length (outputs (pieces_at procedure (k ∷ []))))

-- the places in the reply of what a group adds to it
abbrev pub outs_in : Procedure → List ℕ → List ℕ
outs_in procedure group = flat_map (places_in procedure) group

-- with these names' values set
abbrev pub with_values : List ℕ → List ℤ → Environment → Environment
with_values [] values env = env
with_values (name ∷ names) [] env = env
with_values (name ∷ names) (v ∷ values) env = with_values names values (slice_set env name v)

-- the names' values as a group knows them before it runs
abbrev pub environment_in : Procedure → List ℕ → (arguments inputs : List ℤ) → Environment
environment_in procedure group arguments inputs = with_values (inputs_in procedure group) inputs (with_arguments procedure arguments)

-- the place of a group: that of its first piece
abbrev pub place_in : Procedure → List ℕ → (arguments inputs : List ℤ) → ℤ
place_in procedure group arguments inputs =
    value (slice_index_or (pieces_at procedure group) 0 no_piece).place (environment_in procedure group arguments inputs)

-- the same of a plan's procedures and groups, by number

abbrev pub procedure_of : Plan → ℕ → Procedure
procedure_of plan proc = slice_index_or plan.program.procedures proc no_procedure

-- the procedure only reads; one that is not there is no view
abbrev pub is_view_of : Plan → ℕ → Bool
is_view_of plan proc = is_view_in plan.program proc

-- there is such a procedure, and it may write
abbrev pub is_transaction : Plan → ℕ → Bool
is_transaction plan proc = is_transaction_in plan.program proc

abbrev pub groups_of : Plan → ℕ → List Group
groups_of plan proc = slice_index_or plan.groups proc []

abbrev pub group_of : Plan → ℕ → ℕ → Group
group_of plan proc group = slice_index_or (groups_of plan proc) group no_group

abbrev pub is_immediate_of : Plan → ℕ → ℕ → Bool
is_immediate_of plan proc group = (group_of plan proc group).is_immediate

abbrev pub group_class : Plan → ℕ → ℕ → Class
group_class plan proc group = if is_immediate_of plan proc group then Immediate else Deferrable

abbrev pub bound_of : Plan → ℕ → ℕ → List ℕ
bound_of plan proc group = bound_in (procedure_of plan proc) (group_of plan proc group).pieces

abbrev pub inputs_of : Plan → ℕ → ℕ → List Input
inputs_of plan proc group =
    map (source_in (procedure_of plan proc) (groups_of plan proc)) (inputs_in (procedure_of plan proc) (group_of plan proc group).pieces)

abbrev pub outs_of : Plan → ℕ → ℕ → List ℕ
outs_of plan proc group = outs_in (procedure_of plan proc) (group_of plan proc group).pieces

abbrev pub group_place : Plan → ℕ → ℕ → (arguments inputs : List ℤ) → ℤ
group_place plan proc group arguments inputs = place_in (procedure_of plan proc) (group_of plan proc group).pieces arguments inputs

-- the shard of a place, modulo the number of shards
abbrev pub shard_of : Plan → ℤ → ℕ
shard_of plan place = unsigned_abs (int_rem_euclid place (pos plan.program.shards))
