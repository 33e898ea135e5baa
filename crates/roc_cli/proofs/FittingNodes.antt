-- Why nothing is wrong with a call of a command with nodes whose files fit, and what comes of one for a shard that the workload lacks
use Rattle.std.specs.Prelude.{◌≢◌}
use Rattle.std.proofs.Common.{◌≡◌, inl, inr, ℕ, ◌<◌, ◌≤◌, List, [], ◌∷◌, ◌++◌, Option, Some, None, IfSome, Ok, refl, sym, ap, subst, ◌∙◌, arith}
use Rattle.std.specs.List.{AllByRecursion}
use Rattle.std.proofs.lemmas.Option.{none-some}
use Rattle.roc_base.specs.declared.node.Shard.{Shard}
use Rattle.roc_lang.specs.Grammar.{text_limit}
use Rattle.roc_program.specs.Program.{Workload}
use Rattle.roc_plan.specs.Groups.{Plan}
use Rattle.roc_epoch.specs.declared.next.Next.{Next}
use Rattle.roc_report.specs.Checked.{CheckedLine}
use Rattle.roc_cluster.specs.declared.fault.ClusterFault.{ClusterFault}
use Rattle.roc_io.specs.declared.link.Addr.{Addr}
use Rattle.roc_cluster.specs.declared.fault.ClusterFault.TheVariants as cluster_fault
use Rattle.roc_cluster.specs.File.{IsClusterFile}
use Rattle.roc_cluster.specs.Answer.{IsFirstIn, IsClusterFault}
use Rattle.roc_sched.specs.declared.fault.What.{What}
use Rattle.roc_sched.specs.FaultText.{what_text}
use Rattle.roc_sched.specs.declared.line.Request.{Request}
use Rattle.roc_sched.specs.Schedule.{most_bytes}
use Rattle.roc_replay.specs.BoundLine.{last_program}
use Rattle.roc_cli_words.specs.Commands.{check, print, replay, stop, local, gen}
use Rattle.roc_cli_nodes.specs.Call.{RunCall, WholeCall}
use Rattle.roc_cli_nodes.specs.Words.{IsReplay, node_files, workload_of, NamesProgram, NamesWorkload, NamesNodeFiles}
use Rattle.roc_cli_files.specs.Held.{NodeFiles, HasShard, HoldsMore, HoldsPlan, HoldsRejected, HoldsNoCluster, HoldsNoRequests}
use Rattle.roc_cli_files.specs.NodeNames.{tag_of_bytes, HoldFirst, HoldsNext, HoldsNoGrowth, HoldsGrowth}
use Rattle.roc_cli_files.specs.Says.{long_line, fault_line}
use Rattle.roc_cli_files.specs.Requests.{request_fault, FitEach, IsFirstUnfitRequest, IsRequestsFault, no_requests, unfit_request}
use Rattle.roc_cli_nodes.specs.NodeEnds.{NodesEnd}
use Rattle.roc_cli_nodes.specs.Nodes.{AreNodesEnded, IsChildBlamed}
use Rattle.roc_cli.specs.Done.{ComesToNext, in_replay, in_nodes, ComesToLater, ComesToWorkload}
use Rattle.roc_cli.specs.Refused.{IsRefusedNext, long_next, no_next_text, next_out_of_scope, no_growth, same_tag, long_later, bad_later}
use Rattle.roc_cli.specs.Stopped.{CutsOutput, in_report, in_text, in_check, in_rejection, in_generated, in_verdict}
use Rattle.roc_cli.specs.Refused.{AreRefusedWords, by_clap, no_value, no_shard, IsRefused, long_workload, no_text, out_of_scope, long_schedule, bad_next, bad_schedule, long_cluster}
use Rattle.roc_cli.specs.Refused.{bad_cluster, long_requests, bad_requests, bad_logs}
use Rattle.roc_cli.specs.Fit.{IsListOfRequests, TellsNext, TellsFollowing, NodesAsked, NodeFilesFit, NodesFit, MissesShard}
use Rattle.roc_cli.specs.Inner.Ends.{Ends}
use Rattle.roc_cli.specs.Inner.Faultless.{IsFaultless, IsShardless}
use Rattle.roc_cli.proofs.Commands.{audit_alone, audited_words, refuted_words, refused_logs}
use Rattle.roc_cli.proofs.FittingReplays.{same_next, told_next, same_grown, is_grown}
use Rattle.roc_cli_nodes.proofs.Naming.{same_name, no_name, as_workload, as_program}
use Rattle.roc_cli_nodes.proofs.Named.{plain_serve, grown_serve, plain_submit, grown_submit}
use Rattle.roc_cli.specs.Inner.Texts.{TextLaws}
use Rattle.roc_cli.proofs.Fitting.{told, told_more, not_long, not_faulty, in_scope, same_plan, not_rejected, no_such_value}

-- what holds of each holds of the one behind some
pub at_behind : {A : Type 0} (P : A → Type 0) (before : List A) (x : A) (behind : List A) → AllByRecursion P (before ++ x ∷ behind) → P x
at_behind P [] x behind all = all.0
at_behind P (y ∷ before) x behind all = at_behind P before x behind all.1

all_fit_none_unfit : (program : Workload) (requests : List Request) (line : ℕ) (what : What) → FitEach program requests → IsFirstUnfitRequest program requests line what → ⊥
all_fit_none_unfit program requests line what fit h =
    none-some what (sym (at_behind (λ r. request_fault program r ≡ None) h.before h.request h.behind (subst (FitEach program) h.parts fit)) ∙ h.is)

-- a shard is one of the plan's, or not
there_or_past : (files : NodeFiles) (plan : Plan) (number : ℕ) → HasShard files plan → files.shard ≡ Some number → plan.program.shards ≤ number → ⊥
there_or_past files plan number has asked past = let below : number < plan.program.shards = subst (λ o. IfSome o (λ n. n < plan.program.shards)) asked has in absurd (omega arith)

-- a list that is told has not too many bytes, and no fault
pub list_is_short : (content : List ℕ → Option (List ℕ)) (program : Workload) (name : List ℕ) → IsListOfRequests content program name → HoldsMore content name most_bytes → ⊥
list_is_short content program name list more = let past = told_more content name name list.text most_bytes list.held refl more in let size = list.few in absurd (omega arith)

pub list_is_right : (laws : TextLaws) (content : List ℕ → Option (List ℕ)) (program : Workload) (name : List ℕ) (line : ℕ) (what : What) → IsListOfRequests content program name
    → HoldsNoRequests content name program line what → ⊥
list_is_right laws content program name line what list held = go (subst (λ b. IsRequestsFault program b line what) (sym (told content name name list.text held.bytes list.held refl held.held)) held.fault)
  where
    go : IsRequestsFault program list.text line what → ⊥
    go (no_requests fault) = laws.no_list_fault list.text list.requests line what list.are.are fault
    go (unfit_request requests are unfit) =
        all_fit_none_unfit program requests line what (subst (FitEach program) (laws.one_list list.text list.requests requests list.are.are are) list.are.fit) unfit

module _ (laws : TextLaws) (call : RunCall) where
  -- ---- the words, the workload, the cluster and the requests

  module _ (asked : NodesAsked call) where
    abbrev content : List ℕ → Option (List ℕ)
    content = call.files.content

    pub their_files : (files : NodeFiles) → NamesNodeFiles call.words files → files ≡ asked.files
    their_files files names = same_name node_files call.words files asked.files names asked.given

    their_workload : (name : List ℕ) → NamesWorkload call.words name → name ≡ asked.files.workload
    their_workload name names =
        same_name workload_of call.words name asked.files.workload names (as_workload call.words asked.files.workload (as_program call.words asked.files asked.given))

    their_program : (name : List ℕ) → NamesProgram call.words name → name ≡ asked.files.workload
    their_program name names = their_workload name (as_workload call.words name names)

    pub their_plan : (files : NodeFiles) (plan : Plan) → NamesNodeFiles call.words files → HoldsPlan content files.workload plan → plan ≡ asked.plan
    their_plan files plan names planned =
        same_plan laws content asked.files.workload asked.bytes asked.held asked.plan asked.planned files.workload plan (ap (λ (f : NodeFiles). f.workload) (their_files files names)) planned

    pub no_replay : (workload schedule : List ℕ) (growth : Option (List ℕ × ℕ)) → IsReplay call.words workload schedule growth → ⊥
    no_replay workload schedule growth is = no_name node_files call.words (replay workload schedule growth) is refl asked.files asked.given

    listed_in : (files : NodeFiles) (name : List ℕ) → NamesNodeFiles call.words files → files.requests ≡ Some name → IsListOfRequests content asked.plan.program name
    listed_in files name names is =
        subst (λ o. IfSome o (IsListOfRequests content asked.plan.program)) (sym (ap (λ (f : NodeFiles). f.requests) (their_files files names)) ∙ is) asked.listed

    no_bad_cluster : (files : NodeFiles) (plan : Plan) (fault : ClusterFault) → NamesNodeFiles call.words files → HoldsPlan content files.workload plan
        → HoldsNoCluster content files.cluster plan.program.shards fault → ⊥
    no_bad_cluster files plan fault names planned held =
        let e : plan ≡ asked.plan = their_plan files plan names planned in
        let f : asked.text ≡ held.bytes = told content asked.files.cluster files.cluster asked.text held.bytes asked.clustered (ap (λ (f : NodeFiles). f.cluster) (their_files files names)) held.held in
        held.of_bytes (laws.no_cluster_fault asked.plan.program.shards asked.text asked.addrs fault asked.of_text
        (subst (λ b. IsClusterFault asked.plan.program.shards b fault) (sym f) (subst (λ (p : Plan). IsClusterFault p.program.shards held.bytes fault) e held.is)))

    -- what is held before a workload to grow to
    module _ (files : NodeFiles) (plan : Plan) (tag : List ℕ) (addrs : List Addr) (requests : List Request) (named : NamesNodeFiles call.words files) (held : HoldFirst content files plan tag addrs requests) where
      pub first_plan : plan ≡ asked.plan
      first_plan = their_plan files plan named held.of_workload.0

      pub first_tag : tag ≡ tag_of_bytes asked.bytes
      first_tag =
          held.of_workload.1
          ∙ ap tag_of_bytes (sym (told content asked.files.workload files.workload asked.bytes held.of_workload.0.bytes asked.held (ap (λ (f : NodeFiles). f.workload) (their_files files named))
          held.of_workload.0.held))

      pub first_next : (name : List ℕ) (coords : ℕ) → files.next ≡ Some (name, coords) → asked.files.next ≡ Some (name, coords)
      first_next name coords is = sym (ap (λ (f : NodeFiles). f.next) (their_files files named)) ∙ is

    pub comes_plan : (name : List ℕ) (plan : Plan) → ComesToNext call name plan → plan ≡ asked.plan
    comes_plan name plan (in_replay bytes coords under is) = absurd (no_replay under.workload under.schedule under.growth under.given)
    comes_plan name plan (in_nodes files tag addrs requests coords named held is) = first_plan files plan tag addrs requests named held

    pub comes_named : (name : List ℕ) (plan : Plan) → ComesToNext call name plan → (coords : ℕ) × (asked.files.next ≡ Some (name, coords))
    comes_named name plan (in_replay bytes coords under is) = absurd (no_replay under.workload under.schedule under.growth under.given)
    comes_named name plan (in_nodes files tag addrs requests coords named held is) = (coords, first_next files plan tag addrs requests named held name coords is)

    -- what follows, where the requests to submit then are read
    module _ (name : List ℕ) (plan : Plan) (next : Option Next) (comes : ComesToLater call name plan next) where
      pub later_plan : plan ≡ asked.plan
      later_plan = first_plan comes.files plan comes.tag comes.addrs comes.requests comes.named comes.held

      pub later_named : asked.files.later ≡ Some name
      later_named = sym (ap (λ (f : NodeFiles). f.later) (their_files comes.files comes.named)) ∙ comes.is

      pub later_follows : HoldsGrowth content asked.files.next asked.plan.program (tag_of_bytes asked.bytes) next
      later_follows =
          subst (λ (t : List ℕ). HoldsGrowth content asked.files.next asked.plan.program t next) (first_tag comes.files plan comes.tag comes.addrs comes.requests comes.named comes.held)
          (subst (λ (p : Plan). HoldsGrowth content asked.files.next p.program comes.tag next) later_plan
          (subst (λ (g : Option (List ℕ × ℕ)). HoldsGrowth content g plan.program comes.tag next) (ap (λ (f : NodeFiles). f.next) (their_files comes.files comes.named)) comes.follows))

    -- only a workload to grow to, and what is behind it, is refused
    pub asked_by : (P : List ℕ → Type 0) → ((line : List ℕ) → IsRefusedNext call line → P line) → (line : List ℕ) → IsRefused call line → P line
    asked_by P next _ (long_workload workload names more same) =
        absurd (not_long laws content asked.files.workload asked.bytes asked.held asked.planned.text.tree asked.planned.text.text workload (their_workload workload names) more)
    asked_by P next _ (no_text workload line what names held same) =
        absurd (not_faulty laws content asked.files.workload asked.bytes asked.held asked.planned.text.tree asked.planned.text.text workload line what (their_workload workload names) held)
    asked_by P next _ (out_of_scope workload fault names held same) =
        absurd (in_scope laws content asked.files.workload asked.bytes asked.held asked.plan.program asked.planned.text workload fault (their_program workload names) held)
    asked_by P next _ (long_schedule workload schedule growth plan given planned more same) = absurd (no_replay workload schedule growth given)
    asked_by P next _ (bad_next line refused same) = next line refused
    asked_by P next _ (bad_schedule plan following bytes of number what h) = absurd (no_replay of.under.workload of.under.schedule of.under.growth of.under.given)
    asked_by P next _ (long_cluster files plan names planned more same) =
        let past = told_more content asked.files.cluster files.cluster asked.text text_limit asked.clustered (ap (λ (f : NodeFiles). f.cluster) (their_files files names)) more in
        let size = asked.few in
        absurd (omega arith)
    asked_by P next _ (bad_cluster files plan fault names planned held same) = absurd (no_bad_cluster files plan fault names planned held)
    asked_by P next _ (long_requests files plan addrs name names planned held is more same) =
        absurd (list_is_short content asked.plan.program name (listed_in files name names is) more)
    asked_by P next _ (bad_requests files plan addrs name number what names planned held is not same) =
        absurd (list_is_right laws content asked.plan.program name number what (listed_in files name names is)
        (subst (λ (p : Plan). HoldsNoRequests content name p.program number what) (their_plan files plan names planned) not))
    asked_by P next _ (bad_logs line refused same) = absurd (audit_alone call.words (refused_logs call line refused) (asked.files, asked.given))

    pub asked_right : ((line : List ℕ) → IsRefusedNext call line → ⊥) → (line : List ℕ) → IsRefused call line → ⊥
    asked_right = asked_by (λ _. ⊥)

    -- only a workload to grow to is not acceptable
    pub asked_acceptable : ((name : List ℕ) (plan : Plan) (program : Workload) (said : CheckedLine) → ComesToNext call name plan → HoldsRejected content name program said → ⊥)
        → (name : List ℕ) (program : Workload) (said : CheckedLine) → ComesToWorkload call name → HoldsRejected content name program said → ⊥
    asked_acceptable none name program said (inl names) held =
        not_rejected laws content asked.files.workload asked.bytes asked.held asked.plan asked.planned name program said (their_program name names) held
    asked_acceptable none name program said (inr (plan, comes)) held = none name plan program said comes held

  -- ---- a workload to grow to that is right

  module _ (before : NodesAsked call) (next : Option Next) (following : TellsFollowing call.files.content before.plan before.files.next next)
      (apart : IfSome next (λ (n : Next). n.tag ≢ tag_of_bytes before.bytes)) where
    grows_told : (name : List ℕ) (plan : Plan) → ComesToNext call name plan → (coords : ℕ) × (n : Next) × TellsNext call.files.content name before.plan coords n × (next ≡ Some n)
    grows_told name plan comes =
        let found = comes_named before name plan comes in
        let tells = told_next call.files.content before.plan name found.0 before.files.next next found.1 following in
        (found.0, tells.0, tells.1, tells.2)

    -- the one that is told has another tag
    other_tag : (n : Next) → next ≡ Some n → n.tag ≢ tag_of_bytes before.bytes
    other_tag n is = subst (λ o. IfSome o (λ (m : Next). m.tag ≢ tag_of_bytes before.bytes)) is apart

    -- and follows, where requests to submit then are read
    pub next_told : (name : List ℕ) (plan : Plan) (n : Option Next) → ComesToLater call name plan n → n ≡ next
    next_told name plan n comes =
        same_grown laws call.files.content before.plan (tag_of_bytes before.bytes) before.files.next next n following (later_follows before name plan n comes)

    -- only these requests are refused
    pub next_by : (P : List ℕ → Type 0)
        → ((name : List ℕ) (plan : Plan) (n : Option Next) → ComesToLater call name plan n → HoldsMore call.files.content name most_bytes → P (long_line name))
        → ((name : List ℕ) (plan : Plan) (n : Option Next) (number : ℕ) (what : What) → ComesToLater call name plan n
        → HoldsNoRequests call.files.content name (last_program plan n) number what → P (fault_line name number (what_text what)))
        → (line : List ℕ) → IsRefusedNext call line → P line
    next_by P long bad _ (long_next name plan comes more) =
        let t = grows_told name plan comes in absurd (not_long laws call.files.content name t.2.bytes t.2.held t.2.planned.text.tree t.2.planned.text.text name refl more)
    next_by P long bad _ (no_next_text name plan line what comes not) =
        let t = grows_told name plan comes in absurd (not_faulty laws call.files.content name t.2.bytes t.2.held t.2.planned.text.tree t.2.planned.text.text name line what refl not)
    next_by P long bad _ (next_out_of_scope name plan fault comes not) =
        let t = grows_told name plan comes in absurd (in_scope laws call.files.content name t.2.bytes t.2.held t.1.plan.program t.2.planned.text name fault refl not)
    next_by P long bad _ (no_growth name plan fault comes not) =
        let t = grows_told name plan comes in
        absurd (is_grown laws call.files.content before.plan name t.0 t.1 t.2 fault
        (subst (λ (p : Plan). HoldsNoGrowth call.files.content name p.program fault) (comes_plan before name plan comes) not))
    next_by P long bad _ (same_tag files plan tag addrs requests name coords n named held is follows same) =
        let known = first_next before files plan tag addrs requests named held name coords is in
        let t = told_next call.files.content before.plan name coords before.files.next next known following in
        let e : n ≡ t.0 =
        same_next laws call.files.content before.plan name coords t.0 n t.1 (subst (λ (p : Plan). HoldsNext call.files.content name p.program coords n) (first_plan before files plan tag addrs requests named held) follows) in
        absurd (other_tag t.0 t.2 (ap (λ (m : Next). m.tag) (sym e) ∙ (same ∙ first_tag before files plan tag addrs requests named held)))
    next_by P long bad _ (long_later name plan n comes more) = long name plan n comes more
    next_by P long bad _ (bad_later name plan n number what comes not) = bad name plan n number what comes not

    no_bad_workload : (name : List ℕ) (plan : Plan) (program : Workload) (said : CheckedLine) → ComesToNext call name plan → HoldsRejected call.files.content name program said → ⊥
    no_bad_workload name plan program said comes held =
        let t = grows_told name plan comes in not_rejected laws call.files.content name t.2.bytes t.2.held t.1.plan t.2.planned name program said refl held

    pub next_unrejected : (workload : List ℕ) (program : Workload) (said : CheckedLine) → ComesToWorkload call workload → HoldsRejected call.files.content workload program said → ⊥
    next_unrejected = asked_acceptable before no_bad_workload

  -- ---- all files

  module _ (fit : NodeFilesFit call) where
    -- the requests to submit then are told
    behind_told : (name : List ℕ) (plan : Plan) (next : Option Next) → ComesToLater call name plan next → IsListOfRequests call.files.content (last_program plan next) name
    behind_told name plan next comes =
        let list : IsListOfRequests call.files.content (last_program fit.asked.plan fit.next) name =
        subst (λ o. IfSome o (IsListOfRequests call.files.content (last_program fit.asked.plan fit.next))) (later_named fit.asked name plan next comes) fit.behind in
        subst (λ (p : Plan). IsListOfRequests call.files.content (last_program p next) name) (sym (later_plan fit.asked name plan next comes))
        (subst (λ (m : Option Next). IsListOfRequests call.files.content (last_program fit.asked.plan m) name)
        (sym (next_told fit.asked fit.next fit.following fit.apart name plan next comes)) list)

    no_bad_next : (line : List ℕ) → IsRefusedNext call line → ⊥
    no_bad_next =
        next_by fit.asked fit.next fit.following fit.apart (λ _. ⊥)
        (λ name plan next comes more. list_is_short call.files.content (last_program plan next) name (behind_told name plan next comes) more)
        (λ name plan next number what comes not. list_is_right laws call.files.content (last_program plan next) name number what (behind_told name plan next comes) not)

    pub nodes_right : (line : List ℕ) → IsRefused call line → ⊥
    nodes_right = asked_right fit.asked no_bad_next

    pub no_rejection : (workload : List ℕ) (program : Workload) (said : CheckedLine) → ComesToWorkload call workload → HoldsRejected call.files.content workload program said → ⊥
    no_rejection = next_unrejected fit.asked fit.next fit.following fit.apart

  module _ (fit : NodesFit call) where
    nodes_taken : (line : List ℕ) → AreRefusedWords call line → ⊥
    nodes_taken _ (by_clap text not) = not fit.right.asked.given.1.taken
    nodes_taken _ (no_value value none) = no_such_value call.words fit.right.asked.given.0 value fit.right.asked.given.1 none
    nodes_taken _ (no_shard files names lacks) =
        let e : lacks.plan ≡ fit.right.asked.plan = their_plan fit.right.asked files lacks.plan names lacks.of_workload in
        there_or_past fit.right.asked.files fit.right.asked.plan lacks.number fit.has_shard (sym (ap (λ (f : NodeFiles). f.shard) (their_files fit.right.asked files names)) ∙ lacks.asked)
        (subst (λ (p : Plan). p.program.shards ≤ lacks.number) e lacks.past)

    pub nodes_faultless : IsFaultless call
    nodes_faultless = record {
      taken = nodes_taken;
      acceptable = λ h. no_rejection fit.right h.workload h.program h.said h.named h.held;
      right = nodes_right fit.right;
    }

module _ (laws : TextLaws) (call : WholeCall) (missing : MissesShard call.run) where
  same_files : (files : NodeFiles) → NamesNodeFiles call.run.words files → files ≡ missing.right.asked.files
  same_files = their_files laws call.run missing.right.asked

  -- no plan of the named workload has the shard
  nowhere : (files : NodeFiles) (plan : Plan) → NamesNodeFiles call.run.words files → HoldsPlan call.run.files.content files.workload plan → HasShard files plan → ⊥
  nowhere files plan names planned has =
      let p : plan ≡ missing.right.asked.plan = their_plan laws call.run missing.right.asked files plan names planned in
      there_or_past files plan missing.number has (ap (λ (f : NodeFiles). f.shard) (same_files files names) ∙ missing.asked) (subst (λ (q : Plan). q.program.shards ≤ missing.number) (sym p) missing.past)

  not_alone : (workload schedule : List ℕ) (growth : Option (List ℕ × ℕ)) → IsReplay call.run.words workload schedule growth → ⊥
  not_alone workload schedule growth is = no_name node_files call.run.words (replay workload schedule growth) is refl missing.right.asked.files missing.right.asked.given

  missing_uncut : CutsOutput call.run → ⊥
  missing_uncut (in_report plan next bytes asked h) = not_alone asked.under.workload asked.under.schedule asked.under.growth asked.under.given
  missing_uncut (in_text workload tree given held front) = no_name node_files call.run.words (print workload) given refl missing.right.asked.files missing.right.asked.given
  missing_uncut (in_check workload plan given held front) = no_name node_files call.run.words (check workload) given refl missing.right.asked.files missing.right.asked.given
  missing_uncut (in_generated seed shards txns part text given generated front) = no_name node_files call.run.words (gen seed shards txns part) given refl missing.right.asked.files missing.right.asked.given
  missing_uncut (in_rejection workload program said comes held front) = no_rejection laws call.run missing.right workload program said comes held
  missing_uncut (in_verdict plan logs asked verdict is front) = audit_alone call.run.words (asked.asked.workload, _, asked.asked.given) (missing.right.asked.files, missing.right.asked.given)

  missing_unrun : (end : NodesEnd) → AreNodesEnded call end → ⊥
  missing_unrun end (inl (inl (own, h, e))) =
      nowhere _ h.plan (plain_serve call own h, h.given, refl) (record { bytes = h.bytes; held = h.held.of_workload; is = h.held.planned }) h.held.has_shard
  missing_unrun end (inl (inr (own, e, h))) =
      nowhere _ h.plan (grown_serve call own h, h.given, refl) (record { bytes = h.bytes; held = h.held.of_workload; is = h.held.planned }) h.held.has_shard
  missing_unrun end (inr (inl (inl (own, h, e)))) = none-some missing.number (ap (λ (f : NodeFiles). f.shard) (same_files _ (plain_submit call own h, h.given, refl)) ∙ missing.asked)
  missing_unrun end (inr (inl (inr (own, e, h)))) = none-some missing.number (ap (λ (f : NodeFiles). f.shard) (same_files _ (grown_submit call own h, h.given, refl)) ∙ missing.asked)
  missing_unrun end (inr (inr (inl (own, e, h)))) = none-some missing.number (ap (λ (f : NodeFiles). f.shard) (same_files _ (stop h.workload h.cluster, h.given, refl)) ∙ missing.asked)
  missing_unrun end (inr (inr (inr (own, e, h)))) = none-some missing.number (ap (λ (f : NodeFiles). f.shard) (same_files _ (local h.workload h.cluster h.listed h.turns, h.given, refl)) ∙ missing.asked)

  missing_no_child : (shard : Shard) (status : Option ℕ) → IsChildBlamed call shard status → ⊥
  missing_no_child shard status h =
      none-some missing.number (ap (λ (f : NodeFiles). f.shard) (same_files _ (local h.ended.workload h.ended.cluster h.ended.listed h.ended.turns, h.ended.given, refl)) ∙ missing.asked)

  missing_undone : Ends call.run (Ok tt) → ⊥
  missing_undone (inl done) = not_alone done.asked.under.workload done.asked.under.schedule done.asked.under.growth done.asked.under.given
  missing_undone (inr (inl done)) = no_name node_files call.run.words (print done.workload) done.given refl missing.right.asked.files missing.right.asked.given
  missing_undone (inr (inr (inl done))) = no_name node_files call.run.words (check done.workload) done.given refl missing.right.asked.files missing.right.asked.given
  missing_undone (inr (inr (inr (inl done)))) = no_name node_files call.run.words (gen done.seed done.shards done.txns done.part) done.given refl missing.right.asked.files missing.right.asked.given
  missing_undone (inr (inr (inr (inr done)))) = audit_alone call.run.words (audited_words call.run done) (missing.right.asked.files, missing.right.asked.given)

  pub shardless : IsShardless call
  shardless = record {
    acceptable = λ h. no_rejection laws call.run missing.right h.workload h.program h.said h.named h.held;
    right = nodes_right laws call.run missing.right;
    uncut = missing_uncut;
    unrun = missing_unrun;
    no_child = missing_no_child;
    undone = missing_undone;
    unrefuted = λ h. audit_alone call.run.words (refuted_words call.run h) (missing.right.asked.files, missing.right.asked.given);
  }

-- a cluster file has no fault
module _ (keep : (shards : ℕ) (bytes : List ℕ) (cluster : List Addr) (fault : ClusterFault) → IsClusterFile shards bytes cluster → ¬ IsFirstIn shards bytes fault) where
  pub only_memory : (shards : ℕ) (bytes : List ℕ) (cluster : List Addr) (fault : ClusterFault) → IsClusterFile shards bytes cluster → IsClusterFault shards bytes fault → fault ≡ cluster_fault.NoMemory
  only_memory shards bytes cluster cluster_fault.Toml file none = absurd (none file.document file.is_document)
  only_memory shards bytes cluster (cluster_fault.Field name) file first = absurd (keep shards bytes cluster (cluster_fault.Field name) file first)
  only_memory shards bytes cluster (cluster_fault.Twice shard) file first = absurd (keep shards bytes cluster (cluster_fault.Twice shard) file first)
  only_memory shards bytes cluster (cluster_fault.Gap shard) file first = absurd (keep shards bytes cluster (cluster_fault.Gap shard) file first)
  only_memory shards bytes cluster cluster_fault.NoMemory file first = refl
