use Rattle.std.proofs.Common.{◌≡◌, ℕ, ◌<◌, [], length, map, get_or}
use Rattle.roc_program.specs.LookUps.{no_procedure}
use Rattle.roc_conflict.specs.Classes.{is_immediate}
use Rattle.roc_merge_groups.specs.Groups.{piece_numbered, groups_in}
use Rattle.roc_plan_make.specs.Inner.Built.{AreDrawn}
use Rattle.roc_plan_make.proofs.build.outlines_of.Given as goal

abbrev pub invariant-loop-proc : goal.invariant-loop-proc
invariant-loop-proc l =
    (length l.rows.items ≡ l.proc)
    × ((proc : ℕ) → proc < l.proc
    → AreDrawn (get_or l.workload.procedures proc no_procedure) (λ x. is_immediate l.classes (piece_numbered proc x)) (groups_in l.groups proc) (get_or (map (λ row. row.items) l.rows.items) proc []) (length (groups_in l.groups proc)))
