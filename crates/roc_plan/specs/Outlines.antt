-- The outlines that a plan is made of: what is kept of each group, so that readers take no memory
use Rattle.std.specs.Prelude.{◌≡◌, ℕ, ◌≤◌, Bool, true, false, List, [], length, map, Some, slice_get, slice_index_or, Vec}
use Rattle.std.specs.List.{AllByRecursion}
use Rattle.std.specs.declared.alloc.Global.{Global}
use Rattle.roc_lang.specs.Grammar.{standard}
use Rattle.roc_program.specs.Program.{Workload}
use Rattle.roc_plan.specs.declared.group.Class.{Class}
use Rattle.roc_plan.specs.declared.group.Class.TheVariants.{Immediate, Deferrable}
use Rattle.roc_plan.specs.declared.outline.Outline.{Outline}
use Rattle.roc_plan.specs.Groups as groups
use Rattle.roc_plan.specs.Groups.{group_class, bound_of, inputs_in, inputs_of, outs_of}
use Rattle.roc_plan.specs.Accepted.{IsAccepted}

abbrev pub is_immediate_class : Class → Bool
is_immediate_class Immediate = true
is_immediate_class Deferrable = false

-- the group that an outline is of
abbrev pub group : Outline → groups.Group
group o = record { pieces = o.pieces.items; is_immediate = is_immediate_class o.class }

-- the program with the groups of a row of outlines for each procedure
abbrev pub outlined_plan : Workload → List (Vec Outline Global) → groups.Plan
outlined_plan program outlines = record { program = program; groups = map (λ row. map group row.items) outlines }

-- what is kept of a group is what the plan says of it
pub record IsOutline (grouped : groups.Plan) (proc group : ℕ) (o : Outline) : Type 0 where
  pub class : o.class ≡ group_class grouped proc group
  pub bound : o.bound ≡ length (bound_of grouped proc group)
  pub names : o.names.items ≡ inputs_in (groups.procedure_of grouped proc) (groups.group_of grouped proc group).pieces
  pub inputs : o.inputs.items ≡ inputs_of grouped proc group
  pub outs : o.outs.items ≡ outs_of grouped proc group

-- what is kept of the groups of a procedure
abbrev pub row_of : List (List Outline) → ℕ → List Outline
row_of outlines proc = slice_index_or outlines proc []

-- a row for each procedure, which has no more groups than pieces may be, and what is kept of each group; the plan is accepted
pub record AreOutlines (program : Workload) (outlines : List (Vec Outline Global)) : Type 0 where
  pub rows : length outlines ≡ length program.procedures
  pub few : AllByRecursion (λ row. length row.items ≤ standard.pieces) outlines
  pub each : (proc group : ℕ) (o : Outline) → slice_get (row_of (map (λ row. row.items) outlines) proc) group ≡ Some o → IsOutline (outlined_plan program outlines) proc group o
  pub accepted : IsAccepted (outlined_plan program outlines)
