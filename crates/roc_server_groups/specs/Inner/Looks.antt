-- What is looked at through the index
use Rattle.std.specs.Prelude.{◌<◌, IsSome, length, Bool, false, not, ◌&&◌, List, [], ◌∷◌, Option, Some, None}
use Rattle.roc_base.specs.declared.id.TxnId.{TxnId}
use Rattle.roc_base.specs.declared.node.Shard.{Shard}
use Rattle.roc_base.specs.TxnId.{is_txn}
use Rattle.roc_base.specs.Edge.{Dependency}
use Rattle.roc_base.specs.Equality.{same_tag}
use Rattle.roc_group.specs.declared.access.Access.{Access}
use Rattle.roc_group.specs.Accesses.{do_conflict}
use Rattle.roc_server_index.specs.declared.group_ref.GroupRef.{GroupRef}
use Rattle.roc_plan.specs.Groups.{Plan, groups_of, is_immediate_of}
use Rattle.roc_step.specs.declared.started.StartedGroup.{StartedGroup}
use Rattle.roc_step.specs.State.{find_group}

-- there is such a group, and the plan has it
abbrev pub IsGroupRefWithin : Plan → List StartedGroup → GroupRef → Type 0
IsGroupRefWithin plan started s = IsSome (find_group s.id s.group started) × (s.group < length (groups_of plan s.proc))

-- the group of a reference is looked at: it is of another transaction and of this class
abbrev pub is_looked_at : Plan → TxnId → (immediate : Bool) → GroupRef → Bool
is_looked_at plan id immediate s = not (is_txn s.id id) && same_tag (is_immediate_of plan s.proc s.group) immediate

-- the group that was found conflicts with a use
abbrev pub conflicts_with : Access → Option StartedGroup → Bool
conflicts_with a None = false
conflicts_with a (Some e) = do_conflict e.cells (a ∷ [])

-- it is looked at, and conflicts with the use
abbrev pub is_met : Plan → List StartedGroup → TxnId → (immediate : Bool) → Access → GroupRef → Bool
is_met plan started id immediate a s = is_looked_at plan id immediate s && conflicts_with a (find_group s.id s.group started)

-- the entry for the group of a reference
abbrev pub edge_from : Shard → (immediate : Bool) → GroupRef → Dependency
edge_from shard immediate s = record { from = s.id; imm = immediate; def = not immediate; at = shard }
