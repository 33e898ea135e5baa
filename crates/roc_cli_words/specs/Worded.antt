-- Words that ask a node for something, in one of the orders that `clap` takes: docs/FORMATS.md, "Words"
use Rattle.std.specs.Prelude.{◌≡◌, ℕ, Bool, true, false, List, [], ◌∷◌, Ok, codes}
use Rattle.clap.specs.Words.{Text}
use Rattle.roc_cli_words.specs.Values.{shard_in, turns_in, coord_in}
use Rattle.roc_cli_words.specs.Answer.{IsPlainWord}

-- `serve WORKLOAD CLUSTER --shard N --turns T [--counts]`, and what else is asked for
abbrev pub server_words : (workload cluster shard turns : Text) → (counts : Bool) → (more : List Text) → List Text
server_words workload cluster shard turns true more =
    codes "serve" ∷ workload ∷ cluster ∷ codes "--shard" ∷ shard ∷ codes "--turns" ∷ turns ∷ codes "--counts" ∷ more
server_words workload cluster shard turns false more = codes "serve" ∷ workload ∷ cluster ∷ codes "--shard" ∷ shard ∷ codes "--turns" ∷ turns ∷ more

-- `submit WORKLOAD CLUSTER REQUESTS --coord C --turns T`, and what else is asked for
abbrev pub coordinator_words : (workload cluster requests coord turns : Text) → (more : List Text) → List Text
coordinator_words workload cluster requests coord turns more =
    codes "submit" ∷ workload ∷ cluster ∷ requests ∷ codes "--coord" ∷ coord ∷ codes "--turns" ∷ turns ∷ more

-- `--next WORKLOAD2 --coords M`, and `--next WORKLOAD2 --then REQUESTS2`
abbrev pub next_words : (next coords : Text) → List Text
next_words next coords = codes "--next" ∷ next ∷ codes "--coords" ∷ coords ∷ []

abbrev pub later_words : (next requests : Text) → List Text
later_words next requests = codes "--next" ∷ next ∷ codes "--then" ∷ requests ∷ []

-- names of a server's files, and texts of its numbers
pub record AreForServer (workload cluster shard_text turns_text : Text) (shard turns : ℕ) : Type 0 where
  pub workload_word : IsPlainWord workload
  pub cluster_word : IsPlainWord cluster
  pub shard_number : shard_in shard_text ≡ Ok shard
  pub turns_number : turns_in turns_text ≡ Ok turns

-- names of a coordinator's files, and texts of its numbers
pub record AreForCoordinator (workload cluster requests coord_text turns_text : Text) (coord turns : ℕ) : Type 0 where
  pub workload_word : IsPlainWord workload
  pub cluster_word : IsPlainWord cluster
  pub requests_word : IsPlainWord requests
  pub coord_number : coord_in coord_text ≡ Ok coord
  pub turns_number : turns_in turns_text ≡ Ok turns
