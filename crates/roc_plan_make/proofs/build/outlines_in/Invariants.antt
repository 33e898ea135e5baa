use Rattle.roc_program.specs.Parts as view
use Rattle.roc_conflict.specs.Classes.{is_immediate}
use Rattle.roc_merge_groups.specs.Groups.{piece_numbered, groups_in}
use Rattle.roc_plan_make.specs.Inner.Built.{AreDrawn}
use Rattle.roc_plan_make.proofs.build.outlines_in.Given as goal

abbrev pub invariant-loop-group : goal.invariant-loop-group
invariant-loop-group l = AreDrawn (view.procedure l.procedure) (λ x. is_immediate l.classes (piece_numbered l.proc x)) (groups_in l.groups l.proc) l.row.items l.group
