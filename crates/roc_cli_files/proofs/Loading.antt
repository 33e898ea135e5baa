-- What reading the files of a command with nodes gives
use Rattle.std.proofs.Common.{◌≡◌, ℕ, ◌<◌, ◌≤◌, true, false, List, length, Option, Some, None, IfSome, Result, Ok, Err, IfOk, IfErr, refl, sym, ap, subst, option_map}
use Rattle.std.proofs.Math.Path.{fun_ext}
use Rattle.std.proofs.lemmas.Bool.{leb-false, leb-true, false≢true}
use Rattle.roc_base.specs.declared.node.Shard.{Shard}
use Rattle.roc_io.specs.declared.link.Addr.{Addr}
use Rattle.roc_program.specs.Program.{Workload}
use Rattle.roc_plan.specs.Groups.{Plan}
use Rattle.roc_epoch.specs.declared.next.Next.{Next}
use Rattle.roc_epoch.specs.Files.{last_plan}
use Rattle.roc_cluster.specs.File.{IsClusterFile}
use Rattle.roc_cli_files.specs.declared.fault.Fault.{Fault}
use Rattle.roc_cli_files.specs.declared.nodes.NodeNames.{NodeNames}
use Rattle.roc_cli_files.specs.declared.nodes.Nodes.{Nodes}
use Rattle.roc_cli_files.specs.Held.{NodeFiles, Holds, HoldsCluster, HoldsListed}
use Rattle.roc_cli_files.specs.Input.{HoldsWithin}
use Rattle.roc_cli_files.specs.NodeNames.{files_named, HoldLater, HoldsGrowth, HoldsAll, NodesFail, by_shard}
use Rattle.roc_cli_files.specs.Inner.First.{HoldsFirst}
use Rattle.roc_cli_files.specs.Inner.Shards.{lacks_shard, IsJudgedShard}

-- a shard that is not lacked is there
pub shard_is_there : (shard : Option Shard) (plan : Plan) → lacks_shard shard plan.program.shards ≡ false → IfSome (option_map (λ (s : Shard). s.0) shard) (λ n. n < plan.program.shards)
shard_is_there None plan e = tt
shard_is_there (Some shard) plan e = leb-false plan.program.shards shard.0 e

-- one that is lacked stands past the last
pub shard_is_past : (shard : Option Shard) (shards : ℕ) → lacks_shard shard shards ≡ true → (number : ℕ) × (option_map (λ (s : Shard). s.0) shard ≡ Some number) × (shards ≤ number)
shard_is_past None shards e = absurd (false≢true e)
shard_is_past (Some shard) shards e = (shard.0, refl, leb-true shards shard.0 e)

-- why there is nothing behind a first step that left all as it was
pub fails_behind : (later content : List ℕ → Option (List ℕ)) (files : NodeFiles) (middle old new : Option (List ℕ)) {A : Type 0} (result : Result A Fault)
    → ((name : List ℕ) → later name ≡ content name) → middle ≡ old → IfErr result (NodesFail later files middle new) → IfErr result (NodesFail content files old new)
fails_behind later content files middle old new result same untouched fails =
    subst (λ (o : Option (List ℕ)). IfErr result (NodesFail content files o new)) untouched
    (subst (λ (c : List ℕ → Option (List ℕ)). IfErr result (NodesFail c files middle new)) (fun_ext same) fails)

-- what files hold behind such a step
pub holds_behind : (later content : List ℕ → Option (List ℕ)) (files : NodeFiles) (result : Result Nodes Fault) → ((name : List ℕ) → later name ≡ content name)
    → IfOk result (HoldsAll later files) → IfOk result (HoldsAll content files)
holds_behind later content files result same h = subst (λ (c : List ℕ → Option (List ℕ)). IfOk result (HoldsAll c files)) (fun_ext same) h

pub within_taken : (later content : List ℕ → Option (List ℕ)) (name : List ℕ) (most : ℕ) (bytes taken : List ℕ) → later name ≡ content name → taken ≡ bytes
    → HoldsWithin content name most bytes → HoldsWithin later name most taken
within_taken later content name most bytes taken same e h = record {
  held = subst (λ o. IfSome o (λ held. held ≡ taken)) (sym same) (subst (Holds content name) (sym e) h.held);
  few = subst (λ n. n ≤ most) (sym (ap length e)) h.few;
}

-- what holds in any case
pub in_any_case : {A E : Type 0} (result : Result A E) (P : Type 0) → P → IfOk result (λ _. P)
in_any_case (Ok value) P h = h
in_any_case (Err fault) P h = tt

-- what the files up to the requests hold, before and behind such a step
pub first_still : (later content : List ℕ → Option (List ℕ)) (files : NodeFiles) (nodes : Nodes) → ((name : List ℕ) → later name ≡ content name)
    → HoldsFirst content files nodes → HoldsFirst later files nodes
first_still later content files nodes same h = subst (λ (c : List ℕ → Option (List ℕ)). HoldsFirst c files nodes) (sym (fun_ext same)) h

pub first_behind : (later content : List ℕ → Option (List ℕ)) (files : NodeFiles) (result : Result Nodes Fault) → ((name : List ℕ) → later name ≡ content name)
    → IfOk result (HoldsFirst later files) → IfOk result (HoldsFirst content files)
first_behind later content files result same h = subst (λ (c : List ℕ → Option (List ℕ)). IfOk result (HoldsFirst c files)) (fun_ext same) h

-- what the workload to grow to holds behind such a step
pub growth_still : (later content : List ℕ → Option (List ℕ)) (growth : Option (List ℕ × ℕ)) (program : Workload) (tag : List ℕ) (next : Option Next)
    → ((name : List ℕ) → later name ≡ content name) → HoldsGrowth content growth program tag next → HoldsGrowth later growth program tag next
growth_still later content growth program tag next same h = subst (λ (c : List ℕ → Option (List ℕ)). HoldsGrowth c growth program tag next) (sym (fun_ext same)) h

-- standard output took nothing, if it took nothing before
pub untouched_still : {A : Type 0} (old middle new : Option (List ℕ)) (result : Result A Fault) → middle ≡ old → IfOk result (λ _. new ≡ middle) → IfOk result (λ _. new ≡ old)
untouched_still old middle new result e h = subst (λ (o : Option (List ℕ)). IfOk result (λ _. new ≡ o)) e h

module _ (content : List ℕ → Option (List ℕ)) (names : NodeNames) (nodes : Nodes) (first : HoldsFirst content (files_named names) nodes)
    (grown : HoldsGrowth content (files_named names).next nodes.plan.program nodes.tag nodes.next)
    (listed : HoldsListed content (files_named names).later (last_plan nodes.plan nodes.next).program nodes.later.items) where
  behind : HoldLater content (files_named names) nodes.plan nodes.tag nodes.next nodes.later.items
  behind = record { of_next = grown; of_later = listed }

  -- all is held, where the workload has the shard
  pub all_held : (result : Result Nodes Fault) → IsJudgedShard names.shard nodes result → IfOk result (HoldsAll content (files_named names))
  all_held (Ok kept) (e, there) =
      subst (HoldsAll content (files_named names)) (sym e) (
        first.of_workload.0.bytes,
        record {
          of_workload = first.of_workload.0.held;
          planned = first.of_workload.0.is;
          has_shard = shard_is_there names.shard nodes.plan there;
          of_cluster = first.of_cluster;
          of_requests = first.of_requests;
        },
        first.of_workload.1,
        behind,
      )
  all_held (Err fault) h = tt

  -- why there is nothing, where it lacks the shard
  pub shard_is_lacking : (out : Option (List ℕ)) (result : Result Nodes Fault) → IsJudgedShard names.shard nodes result → IfErr result (NodesFail content (files_named names) out out)
  shard_is_lacking out (Ok kept) h = tt
  shard_is_lacking out (Err fault) (e, lacks) =
      let past = shard_is_past names.shard nodes.plan.program.shards lacks in
      subst (NodesFail content (files_named names) out out) (sym e)
      (by_shard (record {
        plan = nodes.plan;
        cluster = nodes.cluster;
        requests = nodes.requests.items;
        of_workload = first.of_workload.0;
        of_cluster = first.of_cluster;
        of_requests = first.of_requests;
        next = nodes.next;
        later = nodes.later.items;
        of_growth = subst (λ (t : List ℕ). HoldLater content (files_named names) nodes.plan t nodes.next nodes.later.items) first.of_workload.1 behind;
        number = past.0;
        asked = past.1;
        past = past.2;
      }) refl)

-- what a file holds behind a step that left all as it was
pub held_still : (later content : List ℕ → Option (List ℕ)) (name bytes : List ℕ) → ((n : List ℕ) → later n ≡ content n) → Holds content name bytes → Holds later name bytes
held_still later content name bytes same h = subst (λ o. IfSome o (λ held. held ≡ bytes)) (sym (same name)) h

pub cluster_still : (later content : List ℕ → Option (List ℕ)) (name : List ℕ) (some shards : ℕ) (cluster : List Addr) → ((n : List ℕ) → later n ≡ content n) → some ≡ shards
    → HoldsCluster content name some cluster → HoldsCluster later name shards cluster
cluster_still later content name some shards cluster same count h = record {
  bytes = h.bytes;
  held = held_still later content name h.bytes same h.held;
  size = h.size;
  is = subst (λ n. IsClusterFile n h.bytes cluster) count h.is;
}
