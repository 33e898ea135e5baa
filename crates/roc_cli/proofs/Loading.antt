-- What a command with nodes tells of its end
use Rattle.std.proofs.Common.{◌≡◌, inl, inr, ℕ, List, Option, Some, Result, Ok, Err, sym, ap, subst, ◌∙◌}
use Rattle.roc_io.specs.declared.link.Addr.{Addr}
use Rattle.roc_plan.specs.Groups.{Plan}
use Rattle.roc_epoch.specs.declared.next.Next.{Next}
use Rattle.roc_sched.specs.declared.line.Request.{Request}
use Rattle.roc_replay.specs.BoundLine.{last_program}
use Rattle.roc_cluster.specs.FaultText.{fault_text as cluster_text}
use Rattle.roc_cli_files.specs.declared.fault.Fault.{Fault}
use Rattle.roc_cli_files.specs.declared.fault.Fault.TheVariants.{TooLong, At, Cluster, Same, Memory, File}
use Rattle.roc_cli_files.specs.Held.{NodeFiles, HoldsPlan, HoldsCluster}
use Rattle.roc_cli_files.specs.Says.{long_line, text_line, fault_line}
use Rattle.roc_cli_files.specs.Fault.{Blames, ReadsBut}
use Rattle.roc_cli_files.specs.Listed.{ClusterFails, RequestsFail}
use Rattle.roc_cli_files.specs.NodeNames.{HoldFirst, GrowthFails, NodesFail, by_workload, by_shard, by_cluster, by_requests, by_next, by_later}
use Rattle.roc_cli_nodes.specs.Call.{RunCall, WholeCall, TakesNothing}
use Rattle.roc_cli_nodes.specs.Words.{NamesNodeFiles}
use Rattle.roc_cli.specs.Done.{in_nodes, ComesToLater}
use Rattle.roc_cli.specs.Stopped.{IsInput, the_cluster, the_requests, the_later, with_nothing}
use Rattle.roc_cli.specs.Refused.{same_tag, long_later, bad_later}
use Rattle.roc_cli.specs.Refused.{no_shard, IsRefused, bad_next, long_cluster, bad_cluster, long_requests, bad_requests}
use Rattle.roc_cli_nodes.specs.Ends.{IsLaunched}
use Rattle.roc_cli.specs.Inner.Ends.{Fails, WholeEnds}
use Rattle.roc_cli_nodes.proofs.Naming.{as_program}
use Rattle.roc_cli.proofs.Faults.{plan_fails, next_fails}

module _ (call : RunCall) (files : NodeFiles) (names : NamesNodeFiles call.words files) (plan : Plan) (planned : HoldsPlan call.files.content files.workload plan) (same : TakesNothing call) where
  -- there is no cluster
  pub cluster_fails : (fault : Fault) → Blames call.files.failed_old call.files.failed_new fault → ClusterFails call.files.content files.cluster plan.program.shards fault → Fails call fault
  cluster_fails (Cluster file fault) blames (e, held) = subst (λ n. IsRefused call (text_line n (cluster_text fault))) (sym e) (bad_cluster files plan fault names planned held same)
  cluster_fails (TooLong file) blames (e, more) = subst (λ n. IsRefused call (long_line n)) (sym e) (long_cluster files plan names planned more same)
  cluster_fails (File file) blames e = record { input = the_cluster files plan names planned (sym e); only = blames; untouched = same }
  cluster_fails Memory blames h = with_nothing same
  cluster_fails _ blames h = absurd h

  -- there are no requests
  module _ (addrs : List Addr) (held : HoldsCluster call.files.content files.cluster plan.program.shards addrs) (name : List ℕ) (is : files.requests ≡ Some name) where
    pub requests_fail : (fault : Fault) → Blames call.files.failed_old call.files.failed_new fault → RequestsFail call.files.content name plan.program fault → Fails call fault
    requests_fail (At file line what) blames (e, (w, not, g)) =
        subst (λ n. IsRefused call (fault_line n line what.now)) (sym e)
        (subst (λ t. IsRefused call (fault_line name line t)) (sym g) (bad_requests files plan addrs name line w names planned held is not same))
    requests_fail (TooLong file) blames (e, more) = subst (λ n. IsRefused call (long_line n)) (sym e) (long_requests files plan addrs name names planned held is more same)
    requests_fail (File file) blames e = record { input = the_requests files plan addrs names planned held (is ∙ ap Some (sym e)); only = blames; untouched = same }
    requests_fail Memory blames h = with_nothing same
    requests_fail _ blames h = absurd h

-- there are no requests to submit behind growth
module _ (call : RunCall) (name : List ℕ) (plan : Plan) (next : Option Next) (comes : ComesToLater call name plan next) (same : TakesNothing call) where
  later_fails : (fault : Fault) → Blames call.files.failed_old call.files.failed_new fault → RequestsFail call.files.content name (last_program plan next) fault → Fails call fault
  later_fails (At file line what) blames (e, (w, not, g)) =
      subst (λ n. IsRefused call (fault_line n line what.now)) (sym e)
      (subst (λ t. IsRefused call (fault_line name line t)) (sym g) (bad_next _ (bad_later name plan next line w comes not) same))
  later_fails (TooLong file) blames (e, more) = subst (λ n. IsRefused call (long_line n)) (sym e) (bad_next _ (long_later name plan next comes more) same)
  later_fails (File file) blames e = record { input = subst (IsInput call) (sym e) (the_later plan next comes); only = blames; untouched = same }
  later_fails Memory blames h = with_nothing same
  later_fails _ blames h = absurd h

-- there is no workload to grow to, or none with another tag
module _ (call : RunCall) (files : NodeFiles) (names : NamesNodeFiles call.words files) (plan : Plan) (tag : List ℕ) (addrs : List Addr) (requests : List Request)
    (first : HoldFirst call.files.content files plan tag addrs requests) where
  growth_fails : (fault : Fault) → Blames call.files.failed_old call.files.failed_new fault
      → GrowthFails call.files.content files.next plan.program tag call.out.old call.out.new fault → Fails call fault
  growth_fails (Same file) blames (coords, next, is, held, same, untouched) = bad_next _ (same_tag files plan tag addrs requests file.now coords next names first is held same) untouched
  growth_fails fault blames h = next_fails call h.0 plan (in_nodes files tag addrs requests h.1 names first h.2) fault blames h.3

-- the files do not hold what is needed
pub nodes_fail : (call : RunCall) (files : NodeFiles) (fault : Fault) → NamesNodeFiles call.words files → Blames call.files.failed_old call.files.failed_new fault
    → NodesFail call.files.content files call.out.old call.out.new fault → Fails call fault
nodes_fail call files _ names blames (by_workload fault fails) = plan_fails call files.workload fault (as_program call.words files names) blames fails
nodes_fail call files _ names blames (by_shard lacks same) = (same, no_shard files names lacks)
nodes_fail call files _ names blames (by_next plan tag addrs requests fault first fails) = growth_fails call files names plan tag addrs requests first fault blames fails
nodes_fail call files _ names blames (by_later plan tag addrs requests next name fault first follows is fails same) =
    later_fails call name plan next (record { files = files; tag = tag; addrs = addrs; requests = requests; named = names; held = first; follows = follows; is = is }) same fault blames fails
nodes_fail call files _ names blames (by_cluster plan fault planned fails same) = cluster_fails call files names plan planned same fault blames fails
nodes_fail call files _ names blames (by_requests plan addrs name fault planned held is fails same) =
    requests_fail call files names plan planned same addrs held name is fault blames fails

-- a command with nodes ended
pub launched : (call : WholeCall) (result : Result Unit Fault) → ReadsBut call.run.files.failed_old call.run.files.failed_new result → IsLaunched call result → WholeEnds call result
launched call (Ok done) reads h = inr h
launched call (Err fault) reads (inl (files, names, fails)) = inl (nodes_fail call.run files fault names reads fails)
launched call (Err fault) reads (inr h) = inr h
