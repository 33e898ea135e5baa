use Rattle.std.proofs.Common.{◌∙◌, sym, arith}
use Rattle.roc_merge_groups.specs.Groups.{piece_numbered}
use Rattle.roc_merge_groups.proofs.Accepting.{some_group}
use Rattle.roc_plan.specs.Accepted.{grouping_of, is_piece_immediate}
use Rattle.roc_plan.proofs.Classed.{class_of_piece}
use Rattle.roc_plan.proofs.Placed.{count_again}
use Rattle.roc_plan.proofs.laws.groups_have_the_class_of_their_pieces.Goals as goal

pub returns-clause-some : goal.returns-clause-some
returns-clause-some c = λ plan is proc l.
    omega (arith, some_group plan.program (is_piece_immediate plan) (grouping_of plan) is.well_formed is.grouping proc l, count_again plan is proc)

pub returns-clause-class : goal.returns-clause-class
returns-clause-class c = λ plan is proc g x h.
    let class = class_of_piece plan is proc g x h in
    let least = is.grouping.least (piece_numbered proc x) in
    (λ e. least.0 (class ∙ e), λ i. sym class ∙ least.1 i)
