use Rattle.std.proofs.Common.{None, refl, subst}
use Rattle.roc_cli_words.specs.Commands.{growth_of}
use Rattle.roc_cli_nodes.specs.Words.{IsReplay}
use Rattle.roc_cli.proofs.Faults.{files_end}
use Rattle.roc_cli.proofs.Verdicts.{still_read, still_counted}
use Rattle.roc_cli.proofs.replaying.replay_bytes.Goals as goal

-- the workload grows
pub returns-in-Some-clause-ends : goal.returns-in-Some-clause-ends
returns-in-Some-clause-ends g c words workload given planned held =
    c.replay_grown.ensures.ends words workload (subst (λ growth. IsReplay words workload c.args.schedule.now (growth_of growth)) c.in-Some.is given) planned held

-- it does not
pub returns-in-None-clause-ends : goal.returns-in-None-clause-ends
returns-in-None-clause-ends g c words workload given planned held =
    files_end _ workload _ None (subst (λ growth. IsReplay words workload c.args.schedule.now (growth_of growth)) c.in-None.is given) _ planned _ held c.reports_keep_laws.ensures None _ _ refl tt
    c.replay_under.ensures.ends

pub returns-in-None-clause-failed : goal.returns-in-None-clause-failed
returns-in-None-clause-failed g c = still_read _ _ _ c.replay_under.ensures.no_file refl

pub returns-in-None-clause-file_faults : goal.returns-in-None-clause-file_faults
returns-in-None-clause-file_faults g c = still_counted _ _ _ c.replay_under.ensures.no_file refl
