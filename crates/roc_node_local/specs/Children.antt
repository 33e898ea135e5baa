-- The servers that are started as children, and how they end
use Rattle.std.specs.Prelude.{◌≡◌, ℕ, zero, suc, ◌+◌, List, [], ◌∷◌, ◌++◌, map, codes, Option, Some, None, if◌then◌else◌}
use Rattle.std.specs.Fmt.{decimal}
use Rattle.roc_io.specs.declared.spawner.ChildWait.{ChildWait}
use Rattle.roc_io.specs.Spawner.{ended_badly}
use Rattle.roc_io.specs.Observed.{Adds}
use Rattle.roc_node_local.specs.declared.children.ChildEnd.{ChildEnd}

-- the words with which the server of a shard is started: `serve`, the names of the workload and of the cluster file, and how long it serves
abbrev pub serve_words : (workload cluster : List ℕ) → (turns shard : ℕ) → List (List ℕ)
serve_words workload cluster turns shard = codes "serve" ∷ workload ∷ cluster ∷ codes "--shard" ∷ decimal shard ∷ codes "--turns" ∷ decimal turns ∷ []

-- those of so many shards, in order
abbrev pub serve_commands : (workload cluster : List ℕ) → (turns shards : ℕ) → List (List (List ℕ))
serve_commands workload cluster turns zero = []
serve_commands workload cluster turns (suc n) = serve_commands workload cluster turns n ++ serve_words workload cluster turns n ∷ []

-- the first wait that did not end with status 0, by its place, which is its shard
abbrev pub first_bad : (shard : ℕ) → List ChildWait → Option ChildEnd
first_bad shard [] = None
first_bad shard (wait ∷ waits) = if ended_badly wait then Some (record { shard = record { 0 = shard }; status = wait.status }) else first_bad (shard + 1) waits

-- each of the children was awaited, in order, and this is the first that did not end with status 0
pub record AwaitsAll (old new : Option (List ChildWait)) (children : List ℕ) (first : Option ChildEnd) : Type 0 where
  pub waits : List ChildWait
  pub told : Adds old new waits
  pub each : map (λ wait. wait.child) waits ≡ children
  pub bad : first ≡ first_bad 0 waits
