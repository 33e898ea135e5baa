use Rattle.roc_cli.proofs.FittingNodes.{only_memory}
use Rattle.roc_cli.proofs.FaultyFiles.{one_cluster_fault}
use Rattle.roc_cli.proofs.fit.texts_keep_laws.Goals as goal

pub returns : goal.returns
returns c = record {
  one_tree = c.tree_is_unique.ensures;
  no_fault = c.text_has_no_fault.ensures;
  one_plan = c.plans_are_unique.ensures.plan;
  accepted = c.plans_are_accepted.ensures;
  no_refusal = c.refusals_are_unique.ensures.no_plan;
  no_cluster_fault = only_memory c.cluster_files_keep_the_rules.ensures;
  one_cluster_fault = one_cluster_fault c.first_faults_are_unique.ensures;
  one_list = c.lines_are_unique.ensures.requests;
  no_list_fault = c.texts_are_right_or_wrong.ensures.one_of_each;
  one_list_fault = c.first_faults_are_unique-2.ensures.requests;
  no_text_fault = c.sent_schedules_have_no_fault.ensures;
  sent = c.sent_schedules_are_played.ensures.sent;
  one_growth = c.growth_is_one.ensures;
  one_log = c.logs_are_unique.ensures.logs;
  no_log_fault = c.texts_are_right_or_wrong-2.ensures.not_both;
  whole_logs = c.honest_verdicts_are_yes.ensures.whole;
  yes_logs = c.honest_verdicts_are_yes.ensures.yes;
}
