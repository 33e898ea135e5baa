use Rattle.std.proofs.Common.{◌++◌, sym, ap, ◌∙◌, append-nil, arith}
use Rattle.std.specs.Option.{option_to_list}
use Rattle.roc_server_groups.proofs.GroupRuns.{given, groups_from, given_more}
use Rattle.roc_server_groups.proofs.runs.outs_here.Goals as goal
use Rattle.roc_server_groups.proofs.runs.outs_here.Goals.{in-Some+in_ok-push_outs, in_default}

pub loop-number-preserved : goal.loop-number-preserved
loop-number-preserved c =
    elim c.match-find_group.branch [
      | in-Some+in_ok-push_outs w ↦
          given_more c.args.id c.args.started.now.groups c.loop-number.number c.count_of_groups-count.result c.loop-number.outs c.match-find_group.outs (given (groups_from c.args.id c.args.started.now.groups 0 c.count_of_groups-count.result)) (omega arith)
          (w.outs-is ∙ w.in_ok-push_outs.ensures ∙ ap (λ xs. c.loop-number.outs ++ xs) (sym (append-nil _)) ∙ ap (λ o. c.loop-number.outs ++ given (option_to_list o)) w.in-Some.ensures) c.loop-number.invariant
      | in_default w ↦
          given_more c.args.id c.args.started.now.groups c.loop-number.number c.count_of_groups-count.result c.loop-number.outs c.match-find_group.outs (given (groups_from c.args.id c.args.started.now.groups 0 c.count_of_groups-count.result)) (omega arith)
          (w.outs-is ∙ sym (append-nil c.loop-number.outs) ∙ ap (λ o. c.loop-number.outs ++ given (option_to_list o)) w.in_default.ensures) c.loop-number.invariant
    ]
