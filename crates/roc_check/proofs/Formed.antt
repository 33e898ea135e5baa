-- The plan of a text is accepted
use Rattle.std.proofs.Common.{ℕ, List, sym, subst}
use Rattle.roc_lang.proofs.Limited.{within_limits}
use Rattle.roc_program.specs.Program.{Workload}
use Rattle.roc_program.specs.WellFormed.{IsProgram}
use Rattle.roc_lang_resolve.proofs.Formed.{program_formed}
use Rattle.roc_merge_groups.proofs.Accepting.{merged_accepted}
use Rattle.roc_plan.specs.Groups.{Plan}
use Rattle.roc_plan.specs.Accepted.{IsAccepted}
use Rattle.roc_plan_make.proofs.Grouped.{plan_accepted}
use Rattle.roc_check.specs.Checked.{IsPlanOf, IsTextOf, IsPlanOfText}

text_formed : (bytes : List ℕ) (program : Workload) → IsTextOf bytes program → IsProgram program
text_formed bytes program of = subst IsProgram (sym of.is) (program_formed of.tree (within_limits of.text.tokens of.tree of.text.text) of.in_scope)

accepted_by_form : (program : Workload) (plan : Plan) → IsProgram program → IsPlanOf program plan → IsAccepted plan
accepted_by_form program plan well of =
    subst IsAccepted (sym of.is) (plan_accepted program of.immediate of.groups (merged_accepted program of.immediate of.groups well of.are_immediate of.acceptable of.merged) well)

pub accepted_by_text : (bytes : List ℕ) (plan : Plan) → IsPlanOfText bytes plan → IsAccepted plan
accepted_by_text bytes plan of = accepted_by_form plan.program plan (text_formed bytes plan.program of.text) of.has
