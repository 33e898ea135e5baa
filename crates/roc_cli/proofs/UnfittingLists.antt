-- Why a command with nodes is not done whose cluster file or request file is none, and what is said of that
use Rattle.std.proofs.Common.{◌≡◌, inl, inr, ℕ, ◌<◌, ◌≤◌, List, [], length, Option, Some, None, refl, sym, ap, subst, ◌∙◌, arith}
use Rattle.std.proofs.lemmas.Option.{none-some, same_Some}
use Rattle.roc_base.specs.declared.node.Shard.{Shard}
use Rattle.roc_io.specs.declared.link.Addr.{Addr}
use Rattle.roc_lang.specs.Grammar.{text_limit}
use Rattle.roc_program.specs.Program.{Workload}
use Rattle.roc_plan.specs.Groups.{Plan}
use Rattle.roc_epoch.specs.declared.next.Next.{Next}
use Rattle.roc_report.specs.Checked.{CheckedLine}
use Rattle.roc_cluster.specs.declared.fault.ClusterFault.{ClusterFault}
use Rattle.roc_cluster.specs.FaultText.{fault_text as cluster_text}
use Rattle.roc_cluster.specs.File.{IsClusterFile}
use Rattle.roc_cluster.specs.Answer.{IsClusterFault}
use Rattle.roc_sched.specs.declared.fault.What.{What}
use Rattle.roc_sched.specs.declared.line.Request.{Request}
use Rattle.roc_sched.specs.FaultText.{what_text}
use Rattle.roc_sched.specs.Schedule.{most_bytes}
use Rattle.roc_replay.specs.BoundLine.{last_program}
use Rattle.roc_cli_words.specs.Commands.{stop, local}
use Rattle.roc_cli_files.specs.Held.{NodeFiles, Holds, HoldsMore, HoldsPlan, HoldsRejected, HoldsCluster, HoldsNoCluster, HoldsRequests, HoldsNoRequests, HoldsListed}
use Rattle.roc_cli_files.specs.NodeNames.{tag_of_bytes, HoldsGrowth, LacksShard}
use Rattle.roc_cli_files.specs.Says.{long_line, text_line, fault_line}
use Rattle.roc_cli_nodes.specs.Call.{WholeCall}
use Rattle.roc_cli_nodes.specs.NodeEnds.{NodesEnd}
use Rattle.roc_cli_nodes.specs.Nodes.{AreNodesEnded, IsChildBlamed}
use Rattle.roc_cli_nodes.specs.Words.{node_files, workload_of, NamesWorkload, NamesNodeFiles}
use Rattle.roc_cli_nodes.proofs.Naming.{same_name, as_workload, as_program}
use Rattle.roc_cli_nodes.proofs.Named.{plain_serve, grown_serve, plain_submit, grown_submit}
use Rattle.roc_cli.specs.Done.{ComesToNext, in_replay, in_nodes, ComesToLater, ComesToWorkload}
use Rattle.roc_cli.specs.Refused.{IsRefused, long_workload, no_text, out_of_scope, long_schedule, bad_next, bad_schedule, long_cluster}
use Rattle.roc_cli.specs.Refused.{bad_cluster, long_requests, bad_requests, bad_logs}
use Rattle.roc_cli.specs.Unfit as unfit
use Rattle.roc_cli.specs.Unfit.{ClusterAsked, ListAsked, LaterAsked, LacksCluster, AreNoRequests, LacksRequests, IsClusterLine, cluster_too_long, cluster_faulty, IsListLine}
use Rattle.roc_cli.specs.Unfit.{HasFaultyFile, in_cluster, in_requests, in_later}
use Rattle.roc_cli.specs.Inner.Faultless.{IsUnwritten, IsSaidBy}
use Rattle.roc_cli.specs.Inner.Texts.{TextLaws}
use Rattle.roc_cli.proofs.Commands.{audit_alone, refused_logs, Comes, refused_next}
use Rattle.roc_cli.proofs.Fitting.{told, told_more, not_long, not_faulty, in_scope, same_plan, not_rejected}
use Rattle.roc_cli.proofs.FittingReplays.{same_grown}
use Rattle.roc_cli.proofs.FittingNodes.{their_plan, their_files, asked_by, next_by, next_told, later_named, later_plan, next_unrejected}
use Rattle.roc_cli.proofs.NothingDone.{no_replay, nodes_unwritten}
use Rattle.roc_cli.proofs.ToldLists.{right_list_said, none_held, as_long, as_faulty}

-- ---- a cluster file, told

module _ (laws : TextLaws) (call : WholeCall) (asked : ClusterAsked call.run) where
  abbrev content : List ℕ → Option (List ℕ)
  content = call.run.files.content

  same_files : (files : NodeFiles) → NamesNodeFiles call.run.words files → files ≡ asked.files
  same_files files names = same_name node_files call.run.words files asked.files names asked.given

  same_workload : (name : List ℕ) → NamesWorkload call.run.words name → name ≡ asked.files.workload
  same_workload name names =
      same_name workload_of call.run.words name asked.files.workload names (as_workload call.run.words asked.files.workload (as_program call.run.words asked.files asked.given))

  plan_asked : (files : NodeFiles) (plan : Plan) → NamesNodeFiles call.run.words files → HoldsPlan content files.workload plan → plan ≡ asked.plan
  plan_asked files plan names planned =
      same_plan laws content asked.files.workload asked.bytes asked.held asked.plan asked.planned files.workload plan (ap (λ (f : NodeFiles). f.workload) (same_files files names)) planned

  cluster_asked : (files : NodeFiles) → NamesNodeFiles call.run.words files → files.cluster ≡ asked.files.cluster
  cluster_asked files names = ap (λ (f : NodeFiles). f.cluster) (same_files files names)

  -- the bytes that are held, and what is wrong with them
  text_held : (files : NodeFiles) (bytes : List ℕ) → NamesNodeFiles call.run.words files → Holds content files.cluster bytes → asked.text ≡ bytes
  text_held files bytes names held = told content asked.files.cluster files.cluster asked.text bytes asked.clustered (cluster_asked files names) held

  fault_held : (files : NodeFiles) (plan : Plan) (fault : ClusterFault) → NamesNodeFiles call.run.words files → HoldsPlan content files.workload plan
      → HoldsNoCluster content files.cluster plan.program.shards fault → IsClusterFault asked.plan.program.shards asked.text fault
  fault_held files plan fault names planned h =
      subst (λ b. IsClusterFault asked.plan.program.shards b fault) (sym (text_held files h.bytes names h.held))
      (subst (λ (p : Plan). IsClusterFault p.program.shards h.bytes fault) (plan_asked files plan names planned) h.is)

  abbrev NoneHeld : Type 0
  NoneHeld = (files : NodeFiles) (plan : Plan) (addrs : List Addr) (requests : List Request) → NamesNodeFiles call.run.words files → HoldsPlan content files.workload plan
      → HoldsCluster content files.cluster plan.program.shards addrs → HoldsListed content files.requests plan.program requests → ⊥

  -- where no cluster is held, or no requests are, nothing behind them is read
  module _ (none : NoneHeld) where
    unrun : (end : NodesEnd) → AreNodesEnded call end → ⊥
    unrun end (inl (inl (own, h, e))) =
        none _ h.plan h.addrs [] (plain_serve call own h, h.given, refl) (record { bytes = h.bytes; held = h.held.of_workload; is = h.held.planned }) h.held.of_cluster h.held.of_requests
    unrun end (inl (inr (own, e, h))) =
        none _ h.plan h.addrs [] (grown_serve call own h, h.given, refl) (record { bytes = h.bytes; held = h.held.of_workload; is = h.held.planned }) h.held.of_cluster h.held.of_requests
    unrun end (inr (inl (inl (own, h, e)))) =
        none _ h.plan h.addrs h.requests (plain_submit call own h, h.given, refl) (record { bytes = h.bytes; held = h.held.of_workload; is = h.held.planned }) h.held.of_cluster h.held.of_requests
    unrun end (inr (inl (inr (own, e, h)))) =
        none _ h.plan h.addrs h.requests (grown_submit call own h, h.given, refl) (record { bytes = h.bytes; held = h.held.of_workload; is = h.held.planned }) h.held.of_cluster h.held.of_requests
    unrun end (inr (inr (inl (own, e, h)))) =
        none _ h.plan h.addrs [] (stop h.workload h.cluster, h.given, refl) (record { bytes = h.bytes; held = h.held.of_workload; is = h.held.planned }) h.held.of_cluster h.held.of_requests
    unrun end (inr (inr (inr (own, e, h)))) =
        none _ h.plan h.addrs h.requests (local h.workload h.cluster h.listed h.turns, h.given, refl) (record { bytes = h.bytes; held = h.held.of_workload; is = h.held.planned }) h.held.of_cluster h.held.of_requests

    unspawned : (shard : Shard) (status : Option ℕ) → IsChildBlamed call shard status → ⊥
    unspawned shard status blamed =
        let h = blamed.ended in
        none _ h.plan h.addrs h.requests (local h.workload h.cluster h.listed h.turns, h.given, refl) (record { bytes = h.bytes; held = h.held.of_workload; is = h.held.planned }) h.held.of_cluster h.held.of_requests

    there : (files : NodeFiles) → NamesNodeFiles call.run.words files → LacksShard content files → ⊥
    there files names lacks = none files lacks.plan lacks.cluster lacks.requests names lacks.of_workload lacks.of_cluster lacks.of_requests

    nothing_next : (name : List ℕ) (plan : Plan) → ComesToNext call.run name plan → ⊥
    nothing_next name plan (in_replay bytes coords under is) = no_replay laws call asked.files asked.given under.workload under.schedule under.growth under.given
    nothing_next name plan (in_nodes files tag addrs requests coords named held is) = none files plan addrs requests named held.of_workload.0 held.of_cluster held.of_requests

    nothing_comes : Comes call.run → ⊥
    nothing_comes (inl (name, plan, comes)) = nothing_next name plan comes
    nothing_comes (inr (name, plan, next, comes)) =
        none comes.files plan comes.addrs comes.requests comes.named comes.held.of_workload.0 comes.held.of_cluster comes.held.of_requests

    unrejected : (workload : List ℕ) (program : Workload) (said : CheckedLine) → ComesToWorkload call.run workload → HoldsRejected content workload program said → ⊥
    unrejected workload program said (inl names) held =
        not_rejected laws content asked.files.workload asked.bytes asked.held asked.plan asked.planned workload program said (same_workload workload (as_workload call.run.words workload names)) held
    unrejected workload program said (inr (plan, comes)) held = nothing_next workload plan comes

    none_unwritten : IsUnwritten call
    none_unwritten = nodes_unwritten laws call asked.files asked.given unrun unspawned there unrejected

    -- only the cluster file and the requests are refused
    only_these : (P : List ℕ → Type 0)
        → ((files : NodeFiles) (plan : Plan) → NamesNodeFiles call.run.words files → HoldsPlan content files.workload plan → HoldsMore content files.cluster text_limit → P (long_line files.cluster))
        → ((files : NodeFiles) (plan : Plan) (fault : ClusterFault) → NamesNodeFiles call.run.words files → HoldsPlan content files.workload plan
        → HoldsNoCluster content files.cluster plan.program.shards fault → P (text_line files.cluster (cluster_text fault)))
        → ((files : NodeFiles) (plan : Plan) (addrs : List Addr) (name : List ℕ) → NamesNodeFiles call.run.words files → HoldsPlan content files.workload plan
        → HoldsCluster content files.cluster plan.program.shards addrs → files.requests ≡ Some name → HoldsMore content name most_bytes → P (long_line name))
        → ((files : NodeFiles) (plan : Plan) (addrs : List Addr) (name : List ℕ) (number : ℕ) (what : What) → NamesNodeFiles call.run.words files → HoldsPlan content files.workload plan
        → HoldsCluster content files.cluster plan.program.shards addrs → files.requests ≡ Some name → HoldsNoRequests content name plan.program number what
        → P (fault_line name number (what_text what)))
        → (line : List ℕ) → IsRefused call.run line → P line
    only_these P long bad longs bads _ (long_workload workload names more same) =
        absurd (not_long laws content asked.files.workload asked.bytes asked.held asked.planned.text.tree asked.planned.text.text workload (same_workload workload names) more)
    only_these P long bad longs bads _ (no_text workload line what names held same) =
        absurd (not_faulty laws content asked.files.workload asked.bytes asked.held asked.planned.text.tree asked.planned.text.text workload line what (same_workload workload names) held)
    only_these P long bad longs bads _ (out_of_scope workload fault names held same) =
        absurd (in_scope laws content asked.files.workload asked.bytes asked.held asked.plan.program asked.planned.text workload fault
        (same_workload workload (as_workload call.run.words workload names)) held)
    only_these P long bad longs bads _ (long_schedule workload schedule growth plan is planned more same) = absurd (no_replay laws call asked.files asked.given workload schedule growth is)
    only_these P long bad longs bads _ (bad_next line refused same) = absurd (nothing_comes (refused_next call.run line refused))
    only_these P long bad longs bads _ (bad_schedule plan next bytes of number what h) =
        absurd (no_replay laws call asked.files asked.given of.under.workload of.under.schedule of.under.growth of.under.given)
    only_these P long bad longs bads _ (long_cluster files plan names planned more same) = long files plan names planned more
    only_these P long bad longs bads _ (bad_cluster files plan fault names planned held same) = bad files plan fault names planned held
    only_these P long bad longs bads _ (long_requests files plan addrs name names planned held is more same) = longs files plan addrs name names planned held is more
    only_these P long bad longs bads _ (bad_requests files plan addrs name number what names planned held is not same) = bads files plan addrs name number what names planned held is not
    only_these P long bad longs bads _ (bad_logs line refused same) = absurd (audit_alone call.run.words (refused_logs call.run line refused) (asked.files, asked.given))

  -- ---- it is none

  module _ (none : (addrs : List Addr) → length asked.text ≤ text_limit → IsClusterFile asked.plan.program.shards asked.text addrs → ⊥) where
    no_cluster_held : (files : NodeFiles) (plan : Plan) (addrs : List Addr) → NamesNodeFiles call.run.words files → HoldsPlan content files.workload plan
        → HoldsCluster content files.cluster plan.program.shards addrs → ⊥
    no_cluster_held files plan addrs names planned h =
        let e : asked.text ≡ h.bytes = text_held files h.bytes names h.held in
        none addrs (subst (λ b. length b ≤ text_limit) (sym e) h.size)
        (subst (λ b. IsClusterFile asked.plan.program.shards b addrs) (sym e)
        (subst (λ (p : Plan). IsClusterFile p.program.shards h.bytes addrs) (plan_asked files plan names planned) h.is))

    cluster_unheld : NoneHeld
    cluster_unheld files plan addrs requests names planned held listed = no_cluster_held files plan addrs names planned held

  -- ..and this is said of it
  module _ (line : List ℕ) (said : IsClusterLine asked.files.cluster asked.text asked.plan.program.shards line) where
    is_none : (addrs : List Addr) → length asked.text ≤ text_limit → IsClusterFile asked.plan.program.shards asked.text addrs → ⊥
    is_none addrs few is = go line said
      where
        go : (l : List ℕ) → IsClusterLine asked.files.cluster asked.text asked.plan.program.shards l → ⊥
        go _ (cluster_too_long past) = absurd (omega (arith, past, few))
        go _ (cluster_faulty fault size faulty not) = not (laws.no_cluster_fault asked.plan.program.shards asked.text addrs fault is faulty)

    cluster_long : (files : NodeFiles) (plan : Plan) → NamesNodeFiles call.run.words files → HoldsPlan content files.workload plan → HoldsMore content files.cluster text_limit
        → long_line files.cluster ≡ line
    cluster_long files plan names planned more = go line said
      where
        past : text_limit < length asked.text
        past = told_more content asked.files.cluster files.cluster asked.text text_limit asked.clustered (cluster_asked files names) more

        go : (l : List ℕ) → IsClusterLine asked.files.cluster asked.text asked.plan.program.shards l → long_line files.cluster ≡ l
        go _ (cluster_too_long h) = ap long_line (cluster_asked files names)
        go _ (cluster_faulty fault few faulty not) = absurd (omega (arith, past, few))

    cluster_bad : (files : NodeFiles) (plan : Plan) (fault : ClusterFault) → NamesNodeFiles call.run.words files → HoldsPlan content files.workload plan
        → HoldsNoCluster content files.cluster plan.program.shards fault → text_line files.cluster (cluster_text fault) ≡ line
    cluster_bad files plan fault names planned h = go line said
      where
        go : (l : List ℕ) → IsClusterLine asked.files.cluster asked.text asked.plan.program.shards l → text_line files.cluster (cluster_text fault) ≡ l
        go _ (cluster_too_long past) = absurd (let size = subst (λ b. length b ≤ text_limit) (sym (text_held files h.bytes names h.held)) h.size in omega (arith, past, size))
        go _ (cluster_faulty own few faulty not) =
            let one : fault ≡ own = laws.one_cluster_fault asked.plan.program.shards asked.text fault own (fault_held files plan fault names planned h) faulty h.of_bytes not in
            ap (λ (n : List ℕ). text_line n (cluster_text fault)) (cluster_asked files names) ∙ ap (λ (f : ClusterFault). text_line asked.files.cluster (cluster_text f)) one

    cluster_said : IsSaidBy call line
    cluster_said = record {
      is = none_unwritten (cluster_unheld is_none);
      only = only_these (cluster_unheld is_none) (λ l. l ≡ line) cluster_long cluster_bad
          (λ files plan addrs name names planned held is more. absurd (no_cluster_held is_none files plan addrs names planned held))
          (λ files plan addrs name number what names planned held is not. absurd (no_cluster_held is_none files plan addrs names planned held));
    }

-- ---- requests, told

module _ (laws : TextLaws) (call : WholeCall) (asked : ListAsked call.run) where
  abbrev before : ClusterAsked call.run
  before = asked.before

  list_asked : (files : NodeFiles) (name : List ℕ) → NamesNodeFiles call.run.words files → files.requests ≡ Some name → name ≡ asked.name
  list_asked files name names is = same_Some name asked.name (sym is ∙ (ap (λ (f : NodeFiles). f.requests) (same_files laws call before files names) ∙ asked.named))

  list_unheld : AreNoRequests before.plan.program asked.list → NoneHeld laws call before
  list_unheld none files plan addrs requests names planned held listed =
      none_held laws call.run.files.content asked.name asked.list asked.listed before.plan.program asked.name requests none refl
      (subst (λ (p : Plan). HoldsRequests call.run.files.content asked.name p.program requests) (plan_asked laws call before files plan names planned)
      (subst (λ (o : Option (List ℕ)). HoldsListed call.run.files.content o plan.program requests) (ap (λ (f : NodeFiles). f.requests) (same_files laws call before files names) ∙ asked.named) listed))

  -- the cluster file is right
  cluster_short : (files : NodeFiles) → NamesNodeFiles call.run.words files → HoldsMore call.run.files.content files.cluster text_limit → ⊥
  cluster_short files names more =
      let past = told_more call.run.files.content before.files.cluster files.cluster before.text text_limit before.clustered (cluster_asked laws call before files names) more in
      let size = asked.few in
      absurd (omega arith)

  cluster_right : (files : NodeFiles) (plan : Plan) (fault : ClusterFault) → NamesNodeFiles call.run.words files → HoldsPlan call.run.files.content files.workload plan
      → HoldsNoCluster call.run.files.content files.cluster plan.program.shards fault → ⊥
  cluster_right files plan fault names planned h =
      h.of_bytes (laws.no_cluster_fault before.plan.program.shards before.text asked.addrs fault asked.of_text (fault_held laws call before files plan fault names planned h))

  module _ (line : List ℕ) (said : IsListLine asked.name asked.list before.plan.program line) where
    are_none : AreNoRequests before.plan.program asked.list
    are_none = right_list_said laws call.run.files.content asked.name asked.list asked.listed before.plan.program line said

    list_said : IsSaidBy call line
    list_said = record {
      is = none_unwritten laws call before (list_unheld are_none);
      only = only_these laws call before (list_unheld are_none) (λ l. l ≡ line)
          (λ files plan names planned more. absurd (cluster_short files names more))
          (λ files plan fault names planned held. absurd (cluster_right files plan fault names planned held))
          (λ files plan addrs name names planned held is more.
          as_long laws call.run.files.content asked.name asked.list asked.listed before.plan.program line said name (list_asked files name names is) more)
          (λ files plan addrs name number what names planned held is not.
          as_faulty laws call.run.files.content asked.name asked.list asked.listed before.plan.program line said name number what (list_asked files name names is)
          (subst (λ (p : Plan). HoldsNoRequests call.run.files.content name p.program number what) (plan_asked laws call before files plan names planned) not));
    }

-- ---- requests to submit once the workload has grown, told

module _ (laws : TextLaws) (call : WholeCall) (asked : LaterAsked call.run) where
  abbrev program : Workload
  program = last_program asked.before.plan asked.next

  later_asked : (name : List ℕ) (plan : Plan) (next : Option Next) → ComesToLater call.run name plan next → name ≡ asked.name
  later_asked name plan next comes = same_Some name asked.name (sym (later_named laws call.run asked.before name plan next comes) ∙ asked.named)

  -- files without such are not those that the words name
  none_later : (files : NodeFiles) → NamesNodeFiles call.run.words files → files.later ≡ None → ⊥
  none_later files names e = none-some asked.name (sym e ∙ (ap (λ (f : NodeFiles). f.later) (their_files laws call.run asked.before files names) ∙ asked.named))

  module _ (none : AreNoRequests program asked.list) where
    later_unheld : (files : NodeFiles) (plan : Plan) (tag : List ℕ) (next : Option Next) (later : List Request) → NamesNodeFiles call.run.words files → HoldsPlan call.run.files.content files.workload plan
        → HoldsGrowth call.run.files.content files.next plan.program tag next → HoldsListed call.run.files.content files.later (last_program plan next) later → ⊥
    later_unheld files plan tag next later names planned follows listed =
        let same = their_files laws call.run asked.before files names in
        let p : plan ≡ asked.before.plan = their_plan laws call.run asked.before files plan names planned in
        let n : next ≡ asked.next =
        same_grown laws call.run.files.content asked.before.plan tag asked.before.files.next asked.next next asked.following
        (subst (λ (q : Plan). HoldsGrowth call.run.files.content asked.before.files.next q.program tag next) p
        (subst (λ (g : Option (List ℕ × ℕ)). HoldsGrowth call.run.files.content g plan.program tag next) (ap (λ (f : NodeFiles). f.next) same) follows)) in
        none_held laws call.run.files.content asked.name asked.list asked.listed program asked.name later none refl
        (subst (λ (m : Option Next). HoldsRequests call.run.files.content asked.name (last_program asked.before.plan m) later) n
        (subst (λ (q : Plan). HoldsRequests call.run.files.content asked.name (last_program q next) later) p
        (subst (λ (o : Option (List ℕ)). HoldsListed call.run.files.content o (last_program plan next) later) (ap (λ (f : NodeFiles). f.later) same ∙ asked.named) listed)))

    later_unrun : (end : NodesEnd) → AreNodesEnded call end → ⊥
    later_unrun end (inl (inl (own, h, e))) = none_later _ (plain_serve call own h, h.given, refl) refl
    later_unrun end (inl (inr (own, e, h))) = none_later _ (grown_serve call own h, h.given, refl) refl
    later_unrun end (inr (inl (inl (own, h, e)))) = none_later _ (plain_submit call own h, h.given, refl) refl
    later_unrun end (inr (inl (inr (own, e, h)))) =
        later_unheld _ h.plan (tag_of_bytes h.bytes) (Some h.next) h.later (grown_submit call own h, h.given, refl)
        (record { bytes = h.bytes; held = h.held.of_workload; is = h.held.planned }) (h.follows, h.apart) h.of_later
    later_unrun end (inr (inr (inl (own, e, h)))) = none_later _ (stop h.workload h.cluster, h.given, refl) refl
    later_unrun end (inr (inr (inr (own, e, h)))) = none_later _ (local h.workload h.cluster h.listed h.turns, h.given, refl) refl

    later_unspawned : (shard : Shard) (status : Option ℕ) → IsChildBlamed call shard status → ⊥
    later_unspawned shard status h = none_later _ (local h.ended.workload h.ended.cluster h.ended.listed h.ended.turns, h.ended.given, refl) refl

    later_unwritten : IsUnwritten call
    later_unwritten =
        nodes_unwritten laws call asked.before.files asked.before.given later_unrun later_unspawned
        (λ files names lacks.
        later_unheld files lacks.plan (tag_of_bytes lacks.of_workload.bytes) lacks.next lacks.later names lacks.of_workload lacks.of_growth.of_next lacks.of_growth.of_later)
        (next_unrejected laws call.run asked.before asked.next asked.following asked.apart)

  module _ (line : List ℕ) (said : IsListLine asked.name asked.list program line) where
    later_long : (name : List ℕ) (plan : Plan) (next : Option Next) → ComesToLater call.run name plan next → HoldsMore call.run.files.content name most_bytes → long_line name ≡ line
    later_long name plan next comes more = as_long laws call.run.files.content asked.name asked.list asked.listed program line said name (later_asked name plan next comes) more

    later_bad : (name : List ℕ) (plan : Plan) (next : Option Next) (number : ℕ) (what : What) → ComesToLater call.run name plan next
        → HoldsNoRequests call.run.files.content name (last_program plan next) number what → fault_line name number (what_text what) ≡ line
    later_bad name plan next number what comes not =
        as_faulty laws call.run.files.content asked.name asked.list asked.listed program line said name number what (later_asked name plan next comes)
        (subst (λ (m : Option Next). HoldsNoRequests call.run.files.content name (last_program asked.before.plan m) number what)
        (next_told laws call.run asked.before asked.next asked.following asked.apart name plan next comes)
        (subst (λ (p : Plan). HoldsNoRequests call.run.files.content name (last_program p next) number what) (later_plan laws call.run asked.before name plan next comes) not))

    later_said : IsSaidBy call line
    later_said = record {
      is = later_unwritten (right_list_said laws call.run.files.content asked.name asked.list asked.listed program line said);
      only = asked_by laws call.run asked.before (λ l. l ≡ line)
          (next_by laws call.run asked.before asked.next asked.following asked.apart (λ l. l ≡ line) later_long later_bad);
    }

-- ---- each of these

pub unclustered : (laws : TextLaws) (call : WholeCall) → LacksCluster call.run → IsUnwritten call
unclustered laws call lacks = none_unwritten laws call lacks.asked (cluster_unheld laws call lacks.asked lacks.none)

pub unlisted : (laws : TextLaws) (call : WholeCall) → LacksRequests call.run → IsUnwritten call
unlisted laws call (unfit.no_requests asked none) = none_unwritten laws call asked.before (list_unheld laws call asked none)
unlisted laws call (unfit.no_later asked none) = later_unwritten laws call asked none

pub said_by : (laws : TextLaws) (call : WholeCall) (line : List ℕ) → HasFaultyFile call.run line → IsSaidBy call line
said_by laws call line (in_cluster asked said) = cluster_said laws call asked line said
said_by laws call line (in_requests asked said) = list_said laws call asked line said
said_by laws call line (in_later asked said) = later_said laws call asked line said
