-- What is counted of a disk and of a book, and that files which do not hold what is needed blame none
use Rattle.std.proofs.Common.{◌≡◌, ℕ, Bool, false, List, Option, refl, sym, subst}
use Rattle.roc_io.specs.Cause.{HasCause}
use Rattle.roc_plan.specs.Groups.{Plan}
use Rattle.roc_epoch.specs.Files.{last_plan}
use Rattle.roc_cli_files.specs.declared.fault.Fault.{Fault}
use Rattle.roc_cli_files.specs.declared.fault.Fault.TheVariants.{Growth, Same, Disk, Book}
use Rattle.roc_cli_files.specs.Fault.{blames_disk, blames_book}
use Rattle.roc_cli_files.specs.Held.{NodeFiles}
use Rattle.roc_cli_files.specs.Input.{PlanFails}
use Rattle.roc_cli_files.specs.Listed.{ClusterFails, RequestsFail}
use Rattle.roc_cli_files.specs.NodeNames.{NextFails, GrowthFails, NodesFail, by_workload, by_shard, by_cluster, by_requests, by_next, by_later}

-- one cause for another
pub caused : (test other : Bool) (old new : ℕ) → test ≡ other → HasCause other old new → HasCause test old new
caused test other old new e h = subst (λ b. HasCause b old new) (sym e) h

module _ (content : List ℕ → Option (List ℕ)) where
  plan_undisked : (name : List ℕ) (old new : Option (List ℕ)) (fault : Fault) → PlanFails content name old new fault → blames_disk fault ≡ false
  plan_undisked name old new (Disk file) h = absurd h.0
  plan_undisked name old new _ h = refl

  cluster_undisked : (name : List ℕ) (shards : ℕ) (fault : Fault) → ClusterFails content name shards fault → blames_disk fault ≡ false
  cluster_undisked name shards (Disk file) h = absurd h
  cluster_undisked name shards _ h = refl

  requests_undisked : (name : List ℕ) (plan : Plan) (fault : Fault) → RequestsFail content name plan.program fault → blames_disk fault ≡ false
  requests_undisked name plan (Disk file) h = absurd h
  requests_undisked name plan _ h = refl

  next_undisked : (name : List ℕ) (plan : Plan) (old new : Option (List ℕ)) (fault : Fault) → NextFails content name plan.program old new fault → blames_disk fault ≡ false
  next_undisked name plan old new (Growth file fault) h = refl
  next_undisked name plan old new fault h = plan_undisked name old new fault h

  growth_undisked : (growth : Option (List ℕ × ℕ)) (plan : Plan) (tag : List ℕ) (old new : Option (List ℕ)) (fault : Fault) → GrowthFails content growth plan.program tag old new fault
      → blames_disk fault ≡ false
  growth_undisked growth plan tag old new (Same file) h = refl
  growth_undisked growth plan tag old new fault h = next_undisked h.0 plan old new fault h.3

  pub files_undisked : (files : NodeFiles) (old new : Option (List ℕ)) (fault : Fault) → NodesFail content files old new fault → blames_disk fault ≡ false
  files_undisked files old new _ (by_workload fault fails) = plan_undisked files.workload old new fault fails
  files_undisked files old new _ (by_cluster plan fault planned fails same) = cluster_undisked files.cluster plan.program.shards fault fails
  files_undisked files old new _ (by_requests plan addrs name fault planned held is fails same) = requests_undisked name plan fault fails
  files_undisked files old new _ (by_next plan tag addrs requests fault first fails) = growth_undisked files.next plan tag old new fault fails
  files_undisked files old new _ (by_later plan tag addrs requests next name fault first follows is fails same) = requests_undisked name (last_plan plan next) fault fails
  files_undisked files old new _ (by_shard lacks same) = refl

  plan_unbooked : (name : List ℕ) (old new : Option (List ℕ)) (fault : Fault) → PlanFails content name old new fault → blames_book fault ≡ false
  plan_unbooked name old new (Book file) h = absurd h.0
  plan_unbooked name old new _ h = refl

  cluster_unbooked : (name : List ℕ) (shards : ℕ) (fault : Fault) → ClusterFails content name shards fault → blames_book fault ≡ false
  cluster_unbooked name shards (Book file) h = absurd h
  cluster_unbooked name shards _ h = refl

  requests_unbooked : (name : List ℕ) (plan : Plan) (fault : Fault) → RequestsFail content name plan.program fault → blames_book fault ≡ false
  requests_unbooked name plan (Book file) h = absurd h
  requests_unbooked name plan _ h = refl

  next_unbooked : (name : List ℕ) (plan : Plan) (old new : Option (List ℕ)) (fault : Fault) → NextFails content name plan.program old new fault → blames_book fault ≡ false
  next_unbooked name plan old new (Growth file fault) h = refl
  next_unbooked name plan old new fault h = plan_unbooked name old new fault h

  growth_unbooked : (growth : Option (List ℕ × ℕ)) (plan : Plan) (tag : List ℕ) (old new : Option (List ℕ)) (fault : Fault) → GrowthFails content growth plan.program tag old new fault
      → blames_book fault ≡ false
  growth_unbooked growth plan tag old new (Same file) h = refl
  growth_unbooked growth plan tag old new fault h = next_unbooked h.0 plan old new fault h.3

  pub files_unbooked : (files : NodeFiles) (old new : Option (List ℕ)) (fault : Fault) → NodesFail content files old new fault → blames_book fault ≡ false
  files_unbooked files old new _ (by_workload fault fails) = plan_unbooked files.workload old new fault fails
  files_unbooked files old new _ (by_cluster plan fault planned fails same) = cluster_unbooked files.cluster plan.program.shards fault fails
  files_unbooked files old new _ (by_requests plan addrs name fault planned held is fails same) = requests_unbooked name plan fault fails
  files_unbooked files old new _ (by_next plan tag addrs requests fault first fails) = growth_unbooked files.next plan tag old new fault fails
  files_unbooked files old new _ (by_later plan tag addrs requests next name fault first follows is fails same) = requests_unbooked name (last_plan plan next) fault fails
  files_unbooked files old new _ (by_shard lacks same) = refl
