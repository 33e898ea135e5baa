-- What the loops of nodes tell of their commands
use Rattle.std.specs.Prelude.{◌≢◌}
use Rattle.std.proofs.Common.{◌≡◌, inl, inr, ℕ, zero, suc, ◌<◌, Bool, List, [], ◌∷◌, length, Option, Some, None, IfSome, Result, Ok, Err, slice_get, refl, sym, ap, subst, ◌∙◌, arith}
use Rattle.roc_base.specs.declared.node.Shard.{Shard}
use Rattle.roc_base.specs.declared.node.Node.TheVariants.{Server, Coord}
use Rattle.roc_io.specs.declared.link.Addr.{Addr}
use Rattle.roc_plan.specs.Groups.{Plan}
use Rattle.roc_epoch.specs.declared.next.Next.{Next}
use Rattle.roc_epoch.specs.Files.{last_plan}
use Rattle.roc_epoch.specs.Grown.{IsGrownFrom}
use Rattle.roc_sched.specs.declared.line.Request.{Request}
use Rattle.roc_cli_words.specs.Commands.{serve, submit, stop, local, GrowsAlone}
use Rattle.roc_cli_words.specs.Answer.{AreWordsOf}
use Rattle.roc_node.specs.NodeEvent.{node_setting}
use Rattle.roc_node_serve.specs.Keeping.{ServesWith}
use Rattle.roc_node_submit.specs.SubmitEnd.{BindsAndSubmits}
use Rattle.roc_grown_node.specs.Setting.{grown_node_setting}
use Rattle.roc_grown_serve.specs.GrownRun.{first_grown_node}
use Rattle.roc_grown_serve.specs.ServesGrowing.{ServesGrowing}
use Rattle.roc_grown_submit.specs.GrownEnd.{BindsAndSubmitsGrowing}
use Rattle.roc_book.specs.Call.{BookCall}
use Rattle.roc_node_local.specs.declared.local.LocalEnd.{LocalEnd}
use Rattle.roc_node_local.specs.declared.local.LocalEnd.TheVariants.{ChildFault}
use Rattle.roc_node_local.specs.Stops.{SendsStops}
use Rattle.roc_node_local.specs.Local.{RunsLocal, local_ask}
use Rattle.roc_cli_files.specs.declared.fault.Fault.{Fault}
use Rattle.roc_cli_files.specs.declared.nodes.Nodes.{Nodes}
use Rattle.roc_io.specs.Call.{LinkCall, ChildrenCall}
use Rattle.roc_cli_nodes.specs.Call.{RunCall, DiskCall, WholeCall}
use Rattle.roc_cli_nodes.specs.NodeEnds as nodes_end
use Rattle.roc_cli_nodes.specs.NodeEnds.{NodesEnd}
use Rattle.roc_cli_files.specs.Held.{NodeFiles, HoldNodes, HoldsListed, HoldsRequests}
use Rattle.roc_cli_files.specs.NodeNames.{HoldsAll, HoldsNext, HoldsGrowth, NodesFail}
use Rattle.roc_cli_nodes.specs.Words.{next_to_submit, later_to_submit}
use Rattle.roc_cli_nodes.specs.Nodes.{node_call, local_call, IsServedPlain, IsServedGrowing, IsServed, AreSubmittedPlain, AreSubmittedGrowing, AreSubmitted, AreStopped, AreRunHere}
use Rattle.roc_cli_nodes.specs.Nodes.{AreNodesEnded, LocalEnded, BlamesChildOf, IsChildBlamed}
use Rattle.roc_cli_nodes.specs.Ends.{LoopEnded, LaunchEnds, IsLaunched}
use Rattle.roc_cli_nodes.proofs.Telling.{loop_told}
use Rattle.roc_cli_nodes.specs.Inner.Running.{ServesAs, ServesGrowingAs, SubmitsAs, SubmitsGrowingAs, ByNext, StopsAs, LocalAs, LocalBlames, no_child}

loop_ends : (call : RunCall) (P Q : NodesEnd → Type 0) (C D : Shard → Option ℕ → Type 0) (result : Result Unit Fault) → ((end : NodesEnd) → P end → Q end)
    → ((shard : Shard) (status : Option ℕ) → C shard status → D shard status) → LoopEnded P C result → LaunchEnds call Q D result
loop_ends call P Q C D (Ok done) more child h = more nodes_end.Done h
loop_ends call P Q C D (Err fault) more child h = inr (loop_told P Q C D (Err fault) more child h)

-- one kind of end among all
launch_among : (call : RunCall) (P Q : NodesEnd → Type 0) (C D : Shard → Option ℕ → Type 0) (result : Result Unit Fault) → ((end : NodesEnd) → P end → Q end)
    → ((shard : Shard) (status : Option ℕ) → C shard status → D shard status) → LaunchEnds call P C result → LaunchEnds call Q D result
launch_among call P Q C D (Ok done) more child h = more nodes_end.Done h
launch_among call P Q C D (Err fault) more child (inl h) = inl h
launch_among call P Q C D (Err fault) more child (inr h) = inr (loop_told P Q C D (Err fault) more child h)

-- one that is there can be had
pub address_there : (addrs : List Addr) (n : ℕ) → n < length addrs → (own : Addr) × (slice_get addrs n ≡ Some own)
address_there [] n h = absurd (omega (arith, h))
address_there (addr ∷ addrs) zero h = (addr, refl)
address_there (addr ∷ addrs) (suc n) h = address_there addrs n (omega (arith, h))

-- the requests of a command that names none
without_requests : (content : List ℕ → Option (List ℕ)) (workload cluster : List ℕ) (next : Option (List ℕ × ℕ)) (shard : Option ℕ) (bytes : List ℕ) (plan : Plan) (addrs : List Addr)
    (requests : List Request) → HoldNodes content (record { workload = workload; cluster = cluster; requests = None; next = next; later = None; shard = shard }) bytes plan addrs requests
    → HoldNodes content (record { workload = workload; cluster = cluster; requests = None; next = next; later = None; shard = shard }) bytes plan addrs []
without_requests content workload cluster next shard bytes plan addrs requests h =
    record { of_workload = h.of_workload; planned = h.planned; has_shard = h.has_shard; of_cluster = h.of_cluster; of_requests = refl }

module _ (call : RunCall) (link : LinkCall) (nodes : Nodes) (middle : Option (List ℕ)) (same : middle ≡ call.out.old) (workload cluster : List ℕ) where
  -- a server
  module _ (disk : DiskCall) (book : BookCall) (shard : Shard) (turns : ℕ) (counts : Bool) (journal log : Option (List ℕ)) where
    -- that does not grow
    served : (given : AreWordsOf call.words (serve workload cluster shard.0 turns counts journal log None))
        → HoldsAll call.files.content (record { workload = workload; cluster = cluster; requests = None; next = None; later = None; shard = Some shard.0 }) nodes
        → (own : Addr) → slice_get nodes.cluster shard.0 ≡ Some own → (end : NodesEnd)
        → ServesAs disk journal log (node_setting nodes.plan nodes.tag (Server shard) nodes.cluster) shard own turns counts
        (record { link = link; out = record { old = middle; new = call.out.new } }) book end
        → IsServedPlain call link disk book end
    served given held own address end (e, is, serves) = (
      e,
      record {
        workload = workload;
        cluster = cluster;
        shard = shard.0;
        turns = turns;
        counts = counts;
        journal = journal;
        log = log;
        given = given;
        bytes = held.0;
        plan = nodes.plan;
        addrs = nodes.cluster;
        held = without_requests call.files.content workload cluster None (Some shard.0) held.0 nodes.plan nodes.cluster nodes.requests.items held.1;
        own = own;
        address = address;
        serves =
            subst (λ (tag : List ℕ). ServesWith disk.of disk.old disk.new journal log (node_setting nodes.plan tag (Server shard) nodes.cluster) shard own turns counts (node_call call link) book e) held.2
            (subst (λ (o : Option (List ℕ)). ServesWith disk.of disk.old disk.new journal log (node_setting nodes.plan nodes.tag (Server shard) nodes.cluster) shard own turns counts
            (record { link = link; out = record { old = o; new = call.out.new } }) book e) same serves);
      },
      is,
    )

    -- that does
    served_growing : (grown : List ℕ) (coords : ℕ) (next : Next) → AreWordsOf call.words (serve workload cluster shard.0 turns counts None None (Some (grown, coords)))
        → HoldsAll call.files.content (record { workload = workload; cluster = cluster; requests = None; next = Some (grown, coords); later = None; shard = Some shard.0 }) nodes
        → HoldsNext call.files.content grown nodes.plan.program coords next × (next.tag ≢ nodes.tag) → (own : Addr) → slice_get nodes.cluster shard.0 ≡ Some own → (end : NodesEnd)
        → ServesGrowingAs (grown_node_setting nodes.plan nodes.tag next (Server shard) nodes.cluster) shard own turns counts
        (record { link = link; out = record { old = middle; new = call.out.new } }) end
        → IsServedGrowing call link end
    served_growing grown coords next given held follows own address end (e, is, serves) = (
      e,
      is,
      record {
        workload = workload;
        cluster = cluster;
        shard = shard.0;
        turns = turns;
        counts = counts;
        grown = grown;
        coords = coords;
        given = given;
        bytes = held.0;
        plan = nodes.plan;
        addrs = nodes.cluster;
        held = without_requests call.files.content workload cluster (Some (grown, coords)) (Some shard.0) held.0 nodes.plan nodes.cluster nodes.requests.items held.1;
        next = next;
        follows = follows.0;
        apart = subst (λ (t : List ℕ). next.tag ≢ t) held.2 follows.1;
        own = own;
        address = address;
        serves =
            subst (λ (tag : List ℕ). ServesGrowing (grown_node_setting nodes.plan tag next (Server shard) nodes.cluster) (first_grown_node nodes.plan shard) shard own turns counts (node_call call link) e) held.2
            (subst (λ (o : Option (List ℕ)). ServesGrowing (grown_node_setting nodes.plan nodes.tag next (Server shard) nodes.cluster) (first_grown_node nodes.plan shard) shard own turns counts
            (record { link = link; out = record { old = o; new = call.out.new } }) e) same serves);
      },
    )

    -- either
    module _ (own : Addr) (address : slice_get nodes.cluster shard.0 ≡ Some own) where
      abbrev Plain : NodesEnd → Type 0
      Plain = ServesAs disk journal log (node_setting nodes.plan nodes.tag (Server shard) nodes.cluster) shard own turns counts (record { link = link; out = record { old = middle; new = call.out.new } }) book

      abbrev Grown : Next → NodesEnd → Type 0
      Grown next = ServesGrowingAs (grown_node_setting nodes.plan nodes.tag next (Server shard) nodes.cluster) shard own turns counts (record { link = link; out = record { old = middle; new = call.out.new } })

      served_by : (growth : Option (List ℕ × ℕ)) (next : Option Next) → GrowsAlone journal log growth → AreWordsOf call.words (serve workload cluster shard.0 turns counts journal log growth)
          → HoldsAll call.files.content (record { workload = workload; cluster = cluster; requests = None; next = growth; later = None; shard = Some shard.0 }) nodes
          → HoldsGrowth call.files.content growth nodes.plan.program nodes.tag next → (end : NodesEnd) → ByNext next Plain Grown end → IsServed call link disk book end
      served_by None None alone given held follows end told = inl (served given held own address end told)
      served_by None (Some next) alone given held follows end told = absurd follows
      served_by (Some growth) None alone given held follows end told = absurd follows
      served_by (Some growth) (Some next) alone given held follows end told =
          inr (served_growing growth.0 growth.1 next
          (subst (λ (l : Option (List ℕ)). AreWordsOf call.words (serve workload cluster shard.0 turns counts None l (Some growth))) alone.1
          (subst (λ (j : Option (List ℕ)). AreWordsOf call.words (serve workload cluster shard.0 turns counts j log (Some growth))) alone.0 given))
          held follows own address end told)

    pub serve_ended : (growth : Option (List ℕ × ℕ)) → GrowsAlone journal log growth → AreWordsOf call.words (serve workload cluster shard.0 turns counts journal log growth)
        → HoldsAll call.files.content (record { workload = workload; cluster = cluster; requests = None; next = growth; later = None; shard = Some shard.0 }) nodes → (result : Result Unit Fault)
        → ((own : Addr) → slice_get nodes.cluster shard.0 ≡ Some own
        → LoopEnded (ByNext nodes.next (ServesAs disk journal log (node_setting nodes.plan nodes.tag (Server shard) nodes.cluster) shard own turns counts
        (record { link = link; out = record { old = middle; new = call.out.new } }) book)
        (λ next. ServesGrowingAs (grown_node_setting nodes.plan nodes.tag next (Server shard) nodes.cluster) shard own turns counts
        (record { link = link; out = record { old = middle; new = call.out.new } }))) no_child result)
        → LaunchEnds call (IsServed call link disk book) no_child result
    serve_ended growth alone given held result ends =
        let each : length nodes.cluster ≡ nodes.plan.program.shards = held.1.of_cluster.is.is_cluster.each in
        let there = address_there nodes.cluster shard.0 (subst (λ n. shard.0 < n) (sym each) held.1.has_shard) in
        loop_ends call _ (IsServed call link disk book) no_child no_child result (served_by there.0 there.1 growth nodes.next alone given held held.3.of_next) (λ shard status h. h) (ends there.0 there.1)

  -- stops
  module _ (given : AreWordsOf call.words (stop workload cluster)) (held : HoldsAll call.files.content (record { workload = workload; cluster = cluster; requests = None; next = None; later = None; shard = None }) nodes)
      (silent : call.out.new ≡ call.out.old) where
    stopped : (end : NodesEnd) → StopsAs nodes.tag nodes.cluster link end → AreStopped call link end
    stopped end (e, is, h) = (
      e,
      is,
      record {
        workload = workload;
        cluster = cluster;
        given = given;
        bytes = held.0;
        plan = nodes.plan;
        addrs = nodes.cluster;
        held = without_requests call.files.content workload cluster None None held.0 nodes.plan nodes.cluster nodes.requests.items held.1;
        bound = h.bound;
        sends = subst (λ (tag : List ℕ). SendsStops e tag nodes.cluster link.old link.new) held.2 h.sends;
        arrivals = h.arrivals;
        silent = silent;
      },
    )

    pub stop_ended : (result : Result Unit Fault) → LoopEnded (StopsAs nodes.tag nodes.cluster link) no_child result → LaunchEnds call (AreStopped call link) no_child result
    stop_ended result ends = loop_ends call _ (AreStopped call link) no_child no_child result stopped (λ shard status h. h) ends

  -- a coordinator
  module _ (listed : List ℕ) (turns coord : ℕ) (log : Option (List ℕ)) (book : BookCall) where
    -- that does not grow
    submitted : AreWordsOf call.words (submit workload cluster listed coord turns log None)
        → HoldsAll call.files.content (record { workload = workload; cluster = cluster; requests = Some listed; next = None; later = None; shard = None }) nodes → (end : NodesEnd)
        → SubmitsAs (node_setting nodes.plan nodes.tag (Coord coord) nodes.cluster) coord nodes.requests.items turns log (record { link = link; out = record { old = middle; new = call.out.new } }) book end
        → AreSubmittedPlain call link book end
    submitted given held end (e, is, h) = (
      e,
      record {
        workload = workload;
        cluster = cluster;
        listed = listed;
        coord = coord;
        turns = turns;
        log = log;
        given = given;
        bytes = held.0;
        plan = nodes.plan;
        addrs = nodes.cluster;
        requests = nodes.requests.items;
        held = held.1;
        submits =
            subst (λ (tag : List ℕ). BindsAndSubmits (node_setting nodes.plan tag (Coord coord) nodes.cluster) coord nodes.requests.items turns log (node_call call link) book e) held.2
            (subst
            (λ (o : Option (List ℕ)). BindsAndSubmits (node_setting nodes.plan nodes.tag (Coord coord) nodes.cluster) coord nodes.requests.items turns log
            (record { link = link; out = record { old = o; new = call.out.new } }) book e)
            same h);
      },
      is,
    )

    -- that does
    submitted_growing : (grown behind : List ℕ) (next : Next) → AreWordsOf call.words (submit workload cluster listed coord turns None (Some (grown, behind)))
        → HoldsAll call.files.content (record { workload = workload; cluster = cluster; requests = Some listed; next = Some (grown, 16); later = Some behind; shard = None }) nodes
        → HoldsNext call.files.content grown nodes.plan.program 16 next × (next.tag ≢ nodes.tag) → HoldsRequests call.files.content behind next.plan.program nodes.later.items → (end : NodesEnd)
        → SubmitsGrowingAs (grown_node_setting nodes.plan nodes.tag next (Coord coord) nodes.cluster) coord nodes.requests.items nodes.later.items turns
        (record { link = link; out = record { old = middle; new = call.out.new } }) end
        → AreSubmittedGrowing call link end
    submitted_growing grown behind next given held follows of_later end (e, is, h) = (
      e,
      is,
      record {
        workload = workload;
        cluster = cluster;
        listed = listed;
        coord = coord;
        turns = turns;
        grown = grown;
        behind = behind;
        given = given;
        bytes = held.0;
        plan = nodes.plan;
        addrs = nodes.cluster;
        requests = nodes.requests.items;
        held = held.1;
        next = next;
        follows = follows.0;
        apart = subst (λ (t : List ℕ). next.tag ≢ t) held.2 follows.1;
        later = nodes.later.items;
        of_later = of_later;
        submits =
            subst (λ (tag : List ℕ). BindsAndSubmitsGrowing (grown_node_setting nodes.plan tag next (Coord coord) nodes.cluster) coord nodes.requests.items nodes.later.items turns (node_call call link) e) held.2
            (subst
            (λ (o : Option (List ℕ)). BindsAndSubmitsGrowing (grown_node_setting nodes.plan nodes.tag next (Coord coord) nodes.cluster) coord nodes.requests.items nodes.later.items turns
            (record { link = link; out = record { old = o; new = call.out.new } }) e)
            same h);
      },
    )

    abbrev PlainSubmits : NodesEnd → Type 0
    PlainSubmits = SubmitsAs (node_setting nodes.plan nodes.tag (Coord coord) nodes.cluster) coord nodes.requests.items turns log (record { link = link; out = record { old = middle; new = call.out.new } }) book

    abbrev GrownSubmits : Next → NodesEnd → Type 0
    GrownSubmits next = SubmitsGrowingAs (grown_node_setting nodes.plan nodes.tag next (Coord coord) nodes.cluster) coord nodes.requests.items nodes.later.items turns
        (record { link = link; out = record { old = middle; new = call.out.new } })

    -- either
    submitted_by : (growth : Option (List ℕ × List ℕ)) (next : Option Next) → GrowsAlone None log growth → AreWordsOf call.words (submit workload cluster listed coord turns log growth)
        → HoldsAll call.files.content (record { workload = workload; cluster = cluster; requests = Some listed; next = next_to_submit growth; later = later_to_submit growth; shard = None }) nodes
        → HoldsGrowth call.files.content (next_to_submit growth) nodes.plan.program nodes.tag next
        → HoldsListed call.files.content (later_to_submit growth) (last_plan nodes.plan next).program nodes.later.items → (end : NodesEnd)
        → ByNext next PlainSubmits GrownSubmits end → AreSubmitted call link book end
    submitted_by None None alone given held follows of_later end told = inl (submitted given held end told)
    submitted_by None (Some next) alone given held follows of_later end told = absurd follows
    submitted_by (Some growth) None alone given held follows of_later end told = absurd follows
    submitted_by (Some growth) (Some next) alone given held follows of_later end told =
        inr (submitted_growing growth.0 growth.1 next (subst (λ (l : Option (List ℕ)). AreWordsOf call.words (submit workload cluster listed coord turns l (Some growth))) alone.1 given)
        held follows of_later end told)

    pub submit_ended : (growth : Option (List ℕ × List ℕ)) → GrowsAlone None log growth → AreWordsOf call.words (submit workload cluster listed coord turns log growth)
        → HoldsAll call.files.content (record { workload = workload; cluster = cluster; requests = Some listed; next = next_to_submit growth; later = later_to_submit growth; shard = None }) nodes
        → (result : Result Unit Fault)
        → LoopEnded (ByNext nodes.next (SubmitsAs (node_setting nodes.plan nodes.tag (Coord coord) nodes.cluster) coord nodes.requests.items turns log
        (record { link = link; out = record { old = middle; new = call.out.new } }) book)
        (λ next. SubmitsGrowingAs (grown_node_setting nodes.plan nodes.tag next (Coord coord) nodes.cluster) coord nodes.requests.items nodes.later.items turns
        (record { link = link; out = record { old = middle; new = call.out.new } }))) no_child result
        → LaunchEnds call (AreSubmitted call link book) no_child result
    submit_ended growth alone given held result ends =
        loop_ends call _ (AreSubmitted call link book) no_child no_child result (submitted_by growth nodes.next alone given held held.3.of_next held.3.of_later) (λ shard status h. h) ends

  module _ (listed : List ℕ) (turns : ℕ) (held : HoldsAll call.files.content (record { workload = workload; cluster = cluster; requests = Some listed; next = None; later = None; shard = None }) nodes) where
    -- servers and a coordinator
    module _ (children : ChildrenCall) (given : AreWordsOf call.words (local workload cluster listed turns)) where
      ran : (end : LocalEnd) → RunsLocal (local_ask nodes.plan nodes.tag nodes.cluster nodes.requests.items workload cluster turns)
          (record { node = record { link = link; out = record { old = middle; new = call.out.new } }; children = children }) end
          → LocalEnded call link children end
      ran end h = record {
        workload = workload;
        cluster = cluster;
        listed = listed;
        turns = turns;
        given = given;
        bytes = held.0;
        plan = nodes.plan;
        addrs = nodes.cluster;
        requests = nodes.requests.items;
        held = held.1;
        runs =
            subst (λ (tag : List ℕ). RunsLocal (local_ask nodes.plan tag nodes.cluster nodes.requests.items workload cluster turns)
            (local_call call link children) end) held.2
            (subst (λ (o : Option (List ℕ)). RunsLocal (local_ask nodes.plan nodes.tag nodes.cluster nodes.requests.items workload cluster turns)
            (record { node = record { link = link; out = record { old = o; new = call.out.new } }; children = children }) end) same h);
      }

      ran_as : (end : NodesEnd)
          → LocalAs (local_ask nodes.plan nodes.tag nodes.cluster nodes.requests.items workload cluster turns) (record { node = record { link = link; out = record { old = middle; new = call.out.new } }; children = children }) end
          → AreRunHere call link children end
      ran_as end (e, is, h) = (e, is, ran e h)

      pub local_ended : (result : Result Unit Fault)
          → LoopEnded
          (LocalAs (local_ask nodes.plan nodes.tag nodes.cluster nodes.requests.items workload cluster turns) (record { node = record { link = link; out = record { old = middle; new = call.out.new } }; children = children }))
          (LocalBlames (local_ask nodes.plan nodes.tag nodes.cluster nodes.requests.items workload cluster turns) (record { node = record { link = link; out = record { old = middle; new = call.out.new } }; children = children }))
          result
          → LaunchEnds call (AreRunHere call link children) (BlamesChildOf call link children) result
      local_ended result ends =
          loop_ends call _ (AreRunHere call link children) _ (BlamesChildOf call link children) result
          ran_as (λ shard status h. record { ended = ran (ChildFault shard status) h.0; cause = h.1 }) ends

-- what the workload grows to is a grown one
pub next_is_grown : (content : List ℕ → Option (List ℕ)) (files : NodeFiles) (nodes : Nodes) → HoldsAll content files nodes → IfSome nodes.next (λ next. IsGrownFrom nodes.plan.program next.plan.program)
next_is_grown content files nodes held = go files.next nodes.next held.3.of_next
  where
    go : (growth : Option (List ℕ × ℕ)) (next : Option Next) → HoldsGrowth content growth nodes.plan.program nodes.tag next → IfSome next (λ n. IsGrownFrom nodes.plan.program n.plan.program)
    go None None h = tt
    go None (Some next) h = absurd h
    go (Some growth) None h = absurd h
    go (Some growth) (Some next) h = h.0.grown

-- the files of a coordinator, as the words name them
abbrev submit_names : (workload cluster listed : List ℕ) → (next : Option (List ℕ × ℕ)) → (later : Option (List ℕ)) → NodeFiles
submit_names workload cluster listed next later = record { workload = workload; cluster = cluster; requests = Some listed; next = next; later = later; shard = None }

submit_named : (workload cluster listed : List ℕ) (growth : Option (List ℕ × List ℕ)) (next : Option (List ℕ × ℕ)) (later : Option (List ℕ)) → next ≡ next_to_submit growth → later ≡ later_to_submit growth
    → submit_names workload cluster listed next later ≡ submit_names workload cluster listed (next_to_submit growth) (later_to_submit growth)
submit_named workload cluster listed growth next later e f =
    ap (λ (n : Option (List ℕ × ℕ)). submit_names workload cluster listed n later) e ∙ ap (λ (l : Option (List ℕ)). submit_names workload cluster listed (next_to_submit growth) l) f

module _ (content : List ℕ → Option (List ℕ)) (workload cluster listed : List ℕ) (growth : Option (List ℕ × List ℕ)) (next : Option (List ℕ × ℕ)) (later : Option (List ℕ)) (e : next ≡ next_to_submit growth)
    (f : later ≡ later_to_submit growth) where
  pub submit_held : (nodes : Nodes) → HoldsAll content (record { workload = workload; cluster = cluster; requests = Some listed; next = next; later = later; shard = None }) nodes
      → HoldsAll content (record { workload = workload; cluster = cluster; requests = Some listed; next = next_to_submit growth; later = later_to_submit growth; shard = None }) nodes
  submit_held nodes h = subst (λ (files : NodeFiles). HoldsAll content files nodes) (submit_named workload cluster listed growth next later e f) h

  pub submit_fails : (old new : Option (List ℕ)) (fault : Fault) → NodesFail content (record { workload = workload; cluster = cluster; requests = Some listed; next = next; later = later; shard = None }) old new fault
      → NodesFail content (record { workload = workload; cluster = cluster; requests = Some listed; next = next_to_submit growth; later = later_to_submit growth; shard = None }) old new fault
  submit_fails old new fault h = subst (λ (files : NodeFiles). NodesFail content files old new fault) (submit_named workload cluster listed growth next later e f) h

-- ---- one command among all

module _ (call : WholeCall) (result : Result Unit Fault) where
  pub served_among : LaunchEnds call.run (IsServed call.run call.link call.disk call.book) no_child result → IsLaunched call result
  served_among h = launch_among call.run (IsServed call.run call.link call.disk call.book) (AreNodesEnded call) no_child (IsChildBlamed call) result (λ end h. inl h) (λ shard status h. absurd h) h

  pub submitted_among : LaunchEnds call.run (AreSubmitted call.run call.link call.book) no_child result → IsLaunched call result
  submitted_among h = launch_among call.run (AreSubmitted call.run call.link call.book) (AreNodesEnded call) no_child (IsChildBlamed call) result (λ end h. inr (inl h)) (λ shard status h. absurd h) h

  pub stopped_among : LaunchEnds call.run (AreStopped call.run call.link) no_child result → IsLaunched call result
  stopped_among h = launch_among call.run (AreStopped call.run call.link) (AreNodesEnded call) no_child (IsChildBlamed call) result (λ end h. inr (inr (inl h))) (λ shard status h. absurd h) h

  pub local_among : LaunchEnds call.run (AreRunHere call.run call.link call.children) (IsChildBlamed call) result → IsLaunched call result
  local_among h = launch_among call.run (AreRunHere call.run call.link call.children) (AreNodesEnded call) (IsChildBlamed call) (IsChildBlamed call) result (λ end h. inr (inr (inr h))) (λ shard status h. h) h
