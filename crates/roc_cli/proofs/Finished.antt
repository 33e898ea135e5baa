-- What status 0 says
use Rattle.std.proofs.Common.{◌≡◌, inl, inr, Ok, refl, arith}
use Rattle.roc_node_local.specs.declared.stops.StopEnd.TheVariants as stop_end
use Rattle.roc_node_local.specs.declared.local.LocalEnd.TheVariants as local_end
use Rattle.roc_cli_words.specs.Commands.{check, print, replay, serve, submit, stop, local, gen}
use Rattle.roc_cli_files.specs.Says.{Errors}
use Rattle.roc_cli_nodes.specs.Call.{WholeCall, ReadsAll}
use Rattle.roc_cli_nodes.specs.NodeEnds as nodes_end
use Rattle.roc_cli_nodes.specs.Words.{AreReplayWords, ArePrintWords, AreCheckWords, AreGenWords, AreAuditWords, AreServeWords, AreSubmitWords, AreStopWords, AreLocalWords, AreCommandWords}
use Rattle.roc_cli_nodes.specs.Words.{NamesNodes, node_files}
use Rattle.roc_cli_nodes.specs.Nodes.{StopEnded, LocalEnded}
use Rattle.roc_cli_nodes.proofs.Naming.{unlike, no_name}
use Rattle.roc_cli_nodes.proofs.Named.{Served, Submitted, nodes_named, nodes_words, serve_done, submit_done, stop_done, local_done}
use Rattle.roc_cli.specs.Done.{Replays, Prints, Checks, Generates}
use Rattle.roc_cli.specs.Audited.{Audits}
use Rattle.roc_cli.proofs.Commands.{not_audit, audit_words, audit_alone, audited_words}
use Rattle.roc_cli.specs.Status.{Answers}
use Rattle.roc_cli.specs.Inner.Faultless.{IsShardless, IsUndone, AreFitting}
use Rattle.roc_cli.specs.Inner.Ends.{Ends, WholeEnds}

-- of the commands, the one that the words ask for was done
module _ (call : WholeCall) where
  replay_done : WholeEnds call (Ok tt) → AreReplayWords call.run.words → Replays call.run
  replay_done (inl (inl done)) are = done
  replay_done (inl (inr (inl done))) (workload, schedule, growth, given) = unlike (Replays call.run) call.run.words (print done.workload) (replay workload schedule growth) done.given given refl
  replay_done (inl (inr (inr (inl done)))) (workload, schedule, growth, given) = unlike (Replays call.run) call.run.words (check done.workload) (replay workload schedule growth) done.given given refl
  replay_done (inl (inr (inr (inr (inl done))))) (workload, schedule, growth, given) = unlike (Replays call.run) call.run.words (gen done.seed done.shards done.txns done.part) (replay workload schedule growth) done.given given refl
  replay_done (inl (inr (inr (inr (inr done))))) (workload, schedule, growth, given) = not_audit (Replays call.run) call.run.words (replay workload schedule growth) given refl (audited_words call.run done)
  replay_done (inr h) (workload, schedule, growth, given) = absurd (no_name node_files call.run.words (replay workload schedule growth) given refl _ (nodes_named call nodes_end.Done h).1)

  print_done : WholeEnds call (Ok tt) → ArePrintWords call.run.words → Prints call.run
  print_done (inl (inl done)) (workload, given) = unlike (Prints call.run) call.run.words (replay done.asked.under.workload done.asked.under.schedule done.asked.under.growth) (print workload) done.asked.under.given given refl
  print_done (inl (inr (inl done))) are = done
  print_done (inl (inr (inr (inl done)))) (workload, given) = unlike (Prints call.run) call.run.words (check done.workload) (print workload) done.given given refl
  print_done (inl (inr (inr (inr (inl done))))) (workload, given) = unlike (Prints call.run) call.run.words (gen done.seed done.shards done.txns done.part) (print workload) done.given given refl
  print_done (inl (inr (inr (inr (inr done))))) (workload, given) = not_audit (Prints call.run) call.run.words (print workload) given refl (audited_words call.run done)
  print_done (inr h) (workload, given) = absurd (no_name node_files call.run.words (print workload) given refl _ (nodes_named call nodes_end.Done h).1)

  check_done : WholeEnds call (Ok tt) → AreCheckWords call.run.words → Checks call.run
  check_done (inl (inl done)) (workload, given) = unlike (Checks call.run) call.run.words (replay done.asked.under.workload done.asked.under.schedule done.asked.under.growth) (check workload) done.asked.under.given given refl
  check_done (inl (inr (inl done))) (workload, given) = unlike (Checks call.run) call.run.words (print done.workload) (check workload) done.given given refl
  check_done (inl (inr (inr (inl done)))) are = done
  check_done (inl (inr (inr (inr (inl done))))) (workload, given) = unlike (Checks call.run) call.run.words (gen done.seed done.shards done.txns done.part) (check workload) done.given given refl
  check_done (inl (inr (inr (inr (inr done))))) (workload, given) = not_audit (Checks call.run) call.run.words (check workload) given refl (audited_words call.run done)
  check_done (inr h) (workload, given) = absurd (no_name node_files call.run.words (check workload) given refl _ (nodes_named call nodes_end.Done h).1)

  gen_done : WholeEnds call (Ok tt) → AreGenWords call.run.words → Generates call.run
  gen_done (inl (inl done)) (seed, shards, txns, part, given) = unlike (Generates call.run) call.run.words (replay done.asked.under.workload done.asked.under.schedule done.asked.under.growth) (gen seed shards txns part) done.asked.under.given given refl
  gen_done (inl (inr (inl done))) (seed, shards, txns, part, given) = unlike (Generates call.run) call.run.words (print done.workload) (gen seed shards txns part) done.given given refl
  gen_done (inl (inr (inr (inl done)))) (seed, shards, txns, part, given) = unlike (Generates call.run) call.run.words (check done.workload) (gen seed shards txns part) done.given given refl
  gen_done (inl (inr (inr (inr (inl done))))) are = done
  gen_done (inl (inr (inr (inr (inr done))))) (seed, shards, txns, part, given) = not_audit (Generates call.run) call.run.words (gen seed shards txns part) given refl (audited_words call.run done)
  gen_done (inr h) (seed, shards, txns, part, given) = absurd (no_name node_files call.run.words (gen seed shards txns part) given refl _ (nodes_named call nodes_end.Done h).1)

  audit_done : WholeEnds call (Ok tt) → AreAuditWords call.run.words → Audits call.run
  audit_done (inl (inl done)) are = not_audit (Audits call.run) call.run.words (replay done.asked.under.workload done.asked.under.schedule done.asked.under.growth) done.asked.under.given refl are
  audit_done (inl (inr (inl done))) are = not_audit (Audits call.run) call.run.words (print done.workload) done.given refl are
  audit_done (inl (inr (inr (inl done)))) are = not_audit (Audits call.run) call.run.words (check done.workload) done.given refl are
  audit_done (inl (inr (inr (inr (inl done))))) are = not_audit (Audits call.run) call.run.words (gen done.seed done.shards done.txns done.part) done.given refl are
  audit_done (inl (inr (inr (inr (inr done))))) are = done
  audit_done (inr h) are = absurd (audit_alone call.run.words are (nodes_named call nodes_end.Done h))

  -- a command without nodes was done, though the words ask for one with them
  not_without : (A : Type 0) → Ends call.run (Ok tt) → NamesNodes call.run.words → A
  not_without A (inl done) (files, names) = absurd (no_name node_files call.run.words (replay done.asked.under.workload done.asked.under.schedule done.asked.under.growth) done.asked.under.given refl files names)
  not_without A (inr (inl done)) (files, names) = absurd (no_name node_files call.run.words (print done.workload) done.given refl files names)
  not_without A (inr (inr (inl done))) (files, names) = absurd (no_name node_files call.run.words (check done.workload) done.given refl files names)
  not_without A (inr (inr (inr (inl done)))) (files, names) = absurd (no_name node_files call.run.words (gen done.seed done.shards done.txns done.part) done.given refl files names)
  not_without A (inr (inr (inr (inr done)))) named = absurd (audit_alone call.run.words (audited_words call.run done) named)

  served : WholeEnds call (Ok tt) → AreServeWords call.run.words → Served call
  served (inl h) (workload, cluster, shard, turns, counts, journal, log, growth, given) = not_without (Served call) h (_, (serve workload cluster shard turns counts journal log growth, given, refl))
  served (inr h) are = serve_done call h are

  submitted : WholeEnds call (Ok tt) → AreSubmitWords call.run.words → Submitted call
  submitted (inl h) (workload, cluster, requests, coord, turns, log, growth, given) = not_without (Submitted call) h (_, (submit workload cluster requests coord turns log growth, given, refl))
  submitted (inr h) are = submit_done call h are

  stopped : WholeEnds call (Ok tt) → AreStopWords call.run.words → StopEnded call.run call.link stop_end.Done
  stopped (inl h) (workload, cluster, given) = not_without (StopEnded call.run call.link stop_end.Done) h (_, (stop workload cluster, given, refl))
  stopped (inr h) are = stop_done call h are

  ran : WholeEnds call (Ok tt) → AreLocalWords call.run.words → LocalEnded call.run call.link call.children local_end.Done
  ran (inl h) (workload, cluster, requests, turns, given) = not_without (LocalEnded call.run call.link call.children local_end.Done) h (_, (local workload cluster requests turns, given, refl))
  ran (inr h) are = local_done call h are

  done_words : WholeEnds call (Ok tt) → AreCommandWords call.run.words
  done_words (inl (inl done)) = (replay done.asked.under.workload done.asked.under.schedule done.asked.under.growth, done.asked.under.given)
  done_words (inl (inr (inl done))) = (print done.workload, done.given)
  done_words (inl (inr (inr (inl done)))) = (check done.workload, done.given)
  done_words (inl (inr (inr (inr (inl done))))) = (gen done.seed done.shards done.txns done.part, done.given)
  done_words (inl (inr (inr (inr (inr done))))) = audit_words call.run.words (audited_words call.run done)
  done_words (inr h) = nodes_words call nodes_end.Done h

  shardless_undone : IsShardless call → WholeEnds call (Ok tt) → ⊥
  shardless_undone is (inl h) = is.undone h
  shardless_undone is (inr h) = is.unrun nodes_end.Done h

  not_undone : IsUndone call → WholeEnds call (Ok tt) → ⊥
  not_undone is (inl h) = is.undone h
  not_undone is (inr h) = is.unrun nodes_end.Done h

  pub done_answers : (err : Errors) → AreFitting call → WholeEnds call (Ok tt) → ReadsAll call.run → call.children.faults_new ≡ call.children.faults_old → Answers call err 0
  done_answers err laws done read childless = record {
    statuses = omega arith;
    replayed = λ _ are. replay_done done are;
    printed = λ _ are. print_done done are;
    checked = λ _ are. check_done done are;
    generated = λ _ are. gen_done done are;
    audited = λ _ are. audit_done done are;
    served = λ _ are. served done are;
    submitted = λ _ are. submitted done are;
    stopped = λ _ are. stopped done are;
    ran = λ _ are. ran done are;
    childless = λ _. childless;
    complete = λ _. inl refl;
    complete_audit = λ _. inl refl;
    honest = λ _. inl refl;
    complete_nodes = λ _. inl refl;
    rejected = λ e. absurd (omega arith);
    no_plan = λ lacks. absurd (not_undone (laws.planless lacks).is done);
    no_words = λ e. absurd (omega arith);
    words = λ none. absurd (none (done_words done));
    no_shard = λ missing. absurd (shardless_undone (laws.shardless missing) done);
    refused = λ e. absurd (omega arith);
    no_workload = λ lacks. absurd (not_undone (laws.workloadless lacks).is done);
    no_schedule = λ lacks. absurd (not_undone (laws.scheduleless lacks).is done);
    no_cluster = λ lacks. absurd (not_undone (laws.clusterless lacks).is done);
    no_requests = λ lacks. absurd (not_undone (laws.listless lacks).is done);
    faulty = λ line lacks. absurd (not_undone (laws.faulty line lacks).is.is done);
    no_logs = λ lacks. absurd (not_undone (laws.logless lacks).is done);
    memory = λ e. absurd (omega arith);
    unanswered = λ e. absurd (omega arith);
    unread = λ e. absurd (omega arith);
    read = λ _. read;
    cut = λ e. absurd (omega arith);
    cut_off = λ e. absurd (omega arith);
    child = λ e. absurd (omega arith);
    disk = λ e. absurd (omega arith);
    full = λ e. absurd (omega arith);
    refuted = λ e. absurd (omega arith);
    unlogged = λ e. absurd (omega arith);
  }
