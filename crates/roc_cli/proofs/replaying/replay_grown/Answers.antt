use Rattle.std.proofs.Common.{Some, refl}
use Rattle.roc_cli.specs.Done.{in_replay}
use Rattle.roc_cli.proofs.Faults.{may_come, next_fails, under, files_end}
use Rattle.roc_cli.proofs.Verdicts.{still_read, still_counted}
use Rattle.roc_cli.proofs.replaying.replay_grown.Goals as goal

pub replay_under-requires : goal.replay_under-requires
replay_under-requires g c = record { next = may_come c.reports_keep_laws.ensures _ c.args.plan.now _ _ c.in-Ok.next c.in-Ok.ensures.held c.requires.within }

-- the replay
pub returns-in-Ok-clause-ends : goal.returns-in-Ok-clause-ends
returns-in-Ok-clause-ends g c words workload given planned held =
    files_end _ workload _ _ given _ planned _ held c.reports_keep_laws.ensures (Some c.in-Ok.next) _ _ c.in-Ok.ensures.untouched c.in-Ok.ensures.held c.replay_under.ensures.ends

pub returns-in-Ok-clause-failed : goal.returns-in-Ok-clause-failed
returns-in-Ok-clause-failed g c = still_read _ _ _ c.replay_under.ensures.no_file c.in-Ok.ensures.failed

pub returns-in-Ok-clause-file_faults : goal.returns-in-Ok-clause-file_faults
returns-in-Ok-clause-file_faults g c = still_counted _ _ _ c.replay_under.ensures.no_file c.in-Ok.ensures.file_faults

-- what it was to grow to
pub returns-in-Err-clause-ends : goal.returns-in-Err-clause-ends
returns-in-Err-clause-ends g c words workload given planned held =
    next_fails _ _ _ (in_replay _ _ (under _ workload _ _ given _ planned _ held) refl) c.in-Err.fault c.in-Err.ensures.failed c.in-Err.ensures.fails
