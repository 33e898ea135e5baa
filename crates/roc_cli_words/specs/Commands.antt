-- What words that `clap` takes ask for: docs/FORMATS.md, "Words"
use Rattle.std.specs.Prelude.{◌≡◌, ℕ, ◌≤◌, Bool, false, if◌then◌else◌, List, [], length, min, take, map, Option, Some, None, Result, Ok, Err, codes, bytes_eq, option_and_then, option_map}
use Rattle.std.specs.Prelude.{unwrap_or, IfSome}
use Rattle.std.specs.Option.{option_map_or}
use Rattle.clap.specs.Words.{Row, Text, all_of, first_of, subcommand_of}
use Rattle.roc_cli_words.specs.declared.value.ValueName.{ValueName}
use Rattle.roc_cli_words.specs.declared.value.Part.{Part}
use Rattle.roc_cli_words.specs.declared.command.Ask.{Ask}
use Rattle.roc_cli_words.specs.declared.command.Asked.{Asked}
use Rattle.roc_cli_words.specs.declared.command.Growth.{Growth}
use Rattle.roc_cli_words.specs.declared.command.Later.{Later}
use Rattle.roc_cli_words.specs.declared.command.LogNames.{LogNames}
use Rattle.roc_cli_words.specs.declared.command.Serving.{Serving}
use Rattle.roc_cli_words.specs.declared.command.Submitting.{Submitting}
use Rattle.roc_cli_words.specs.declared.command.Ask.TheVariants as ask
use Rattle.roc_cli_words.specs.Program.{program_app}
use Rattle.roc_cli_words.specs.Values.{shard_in, turns_in, coord_in, coords_in, seed_in, shards_in, txns_in, part_in, log_beside, keeps_any, with_partner}

-- a command, with the names of its files and its values; growth is to this workload, with so many coordinators, or
-- with these requests to submit under it
pub data Command : Type 0 where
  check : (workload : Text) → Command
  print : (workload : Text) → Command
  replay : (workload schedule : Text) → (growth : Option (Text × ℕ)) → Command
  serve : (workload cluster : Text) → (shard turns : ℕ) → (counts : Bool) → (journal log : Option Text) → (growth : Option (Text × ℕ)) → Command
  submit : (workload cluster requests : Text) → (coord turns : ℕ) → (log : Option Text) → (growth : Option (Text × Text)) → Command
  stop : (workload cluster : Text) → Command
  local : (workload cluster requests : Text) → (turns : ℕ) → Command
  gen : (seed shards txns : ℕ) → (part : Part) → Command
  audit : (workload : Text) → (logs : List Text) → Command

-- the same, as the code has it
abbrev pub growth_of : Option Growth → Option (Text × ℕ)
growth_of growth = option_map (λ (g : Growth). (g.workload.now, g.coords)) growth

abbrev pub later_of : Option Later → Option (Text × Text)
later_of growth = option_map (λ (g : Later). (g.workload.now, g.requests.now)) growth

abbrev pub serve_command_of : Serving → Command
serve_command_of asked =
    serve asked.workload.now asked.cluster.now asked.shard.0 asked.turns asked.counts (option_map (λ name. name.now) asked.journal) (option_map (λ name. name.now) asked.log)
    (growth_of asked.growth)

abbrev pub submit_command_of : Submitting → Command
submit_command_of asked =
    submit asked.workload.now asked.cluster.now asked.requests.now asked.coord asked.turns (option_map (λ name. name.now) asked.log) (later_of asked.growth)

-- how many logs may be named
abbrev pub most_logs : ℕ
most_logs = 80

-- the names that are counted
abbrev pub log_names : LogNames → List Text
log_names logs = take (min logs.count most_logs) (map (λ name. name.now) logs.names)

-- with the names that stand beside it
abbrev pub command_with : (logs : List Text) → Ask → Command
command_with logs (ask.Check workload) = check workload.now
command_with logs (ask.Print workload) = print workload.now
command_with logs (ask.Replay workload schedule growth) = replay workload.now schedule.now (growth_of growth)
command_with logs (ask.Serve asked) = serve_command_of asked
command_with logs (ask.Submit asked) = submit_command_of asked
command_with logs (ask.Stop workload cluster) = stop workload.now cluster.now
command_with logs (ask.Local workload cluster requests turns) = local workload.now cluster.now requests.now turns
command_with logs (ask.Gen seed shards txns part) = gen seed shards txns part
command_with logs (ask.Audit workload) = audit workload.now logs

abbrev pub command_of : Asked → Command
command_of asked = command_with (log_names asked.logs) asked.ask

-- there are 1 to 16 coordinators
abbrev pub IsGrowthWithin : Option (Text × ℕ) → Type 0
IsGrowthWithin growth = IfSome growth (λ g. (1 ≤ g.1) × (g.1 ≤ 16))

-- where a workload grows, neither a journal nor a log is kept
abbrev pub GrowsAlone : {A : Type 0} → (journal log : Option Text) → (growth : Option A) → Type 0
GrowsAlone journal log growth = IfSome growth (λ g. (journal ≡ None) × (log ≡ None))

-- its numbers are in their ranges, and it keeps nothing where it grows
abbrev pub IsWithin : Command → Type 0
IsWithin (check workload) = Unit {0}
IsWithin (print workload) = Unit {0}
IsWithin (replay workload schedule growth) = IsGrowthWithin growth
IsWithin (serve workload cluster shard turns counts journal log growth) = (shard ≤ 63) × IsGrowthWithin growth × GrowsAlone journal log growth
IsWithin (submit workload cluster requests coord turns log growth) = (coord ≤ 15) × GrowsAlone None log growth
IsWithin (stop workload cluster) = Unit {0}
IsWithin (local workload cluster requests turns) = Unit {0}
IsWithin (gen seed shards txns part) = (1 ≤ shards) × (shards ≤ 64) × (txns ≤ 1000)
IsWithin (audit workload logs) = length logs ≤ most_logs

infixl 10 ◌>>=◌
abbrev pub ◌>>=◌ : {A B : Type 0} → Result A ValueName → (A → Result B ValueName) → Result B ValueName
(Ok x) >>= f = f x
(Err e) >>= f = Err e

-- what stands for a name; `clap` takes no words in which it is missing
abbrev pub text_in : Text → List Row → Text
text_in name rows = unwrap_or (first_of name rows) []

abbrev pub replay_in : List Row → Result Command ValueName
replay_in rows = coords_in (first_of (codes "coords") rows) >>= λ coords. with_partner false (first_of (codes "next") rows) coords >>= λ growth.
    Ok (replay (text_in (codes "workload") rows) (text_in (codes "schedule") rows) growth)

abbrev pub serve_in : List Row → Result Command ValueName
serve_in rows = shard_in (text_in (codes "shard") rows) >>= λ shard. turns_in (text_in (codes "turns") rows) >>= λ turns. coords_in (first_of (codes "coords") rows) >>= λ coords.
    log_beside (first_of (codes "journal") rows) (first_of (codes "log") rows) >>= λ log.
    with_partner (keeps_any (first_of (codes "journal") rows) log) (first_of (codes "next") rows) coords >>= λ growth.
    Ok (serve (text_in (codes "workload") rows) (text_in (codes "cluster") rows) shard turns (bytes_eq (text_in (codes "counts") rows) (codes "true")) (first_of (codes "journal") rows) log
    growth)

abbrev pub submit_in : List Row → Result Command ValueName
submit_in rows = coord_in (text_in (codes "coord") rows) >>= λ coord. turns_in (text_in (codes "turns") rows) >>= λ turns.
    with_partner (keeps_any None (first_of (codes "log") rows)) (first_of (codes "next") rows) (first_of (codes "then") rows) >>= λ growth.
    Ok (submit (text_in (codes "workload") rows) (text_in (codes "cluster") rows) (text_in (codes "requests") rows) coord turns (first_of (codes "log") rows) growth)

abbrev pub local_in : List Row → Result Command ValueName
local_in rows = turns_in (text_in (codes "turns") rows) >>= λ turns.
    Ok (local (text_in (codes "workload") rows) (text_in (codes "cluster") rows) (text_in (codes "requests") rows) turns)

abbrev pub gen_in : List Row → Result Command ValueName
gen_in rows = seed_in (text_in (codes "seed") rows) >>= λ seed. shards_in (text_in (codes "shards") rows) >>= λ shards.
    txns_in (text_in (codes "txns") rows) >>= λ txns. part_in (text_in (codes "part") rows) >>= λ part. Ok (gen seed shards txns part)

-- the logs, in the order of the words; `clap` takes no words with more
abbrev pub logs_in : List Row → List Text
logs_in rows = take most_logs (unwrap_or (all_of (codes "logs") rows) [])

abbrev pub audit_in : List Row → Command
audit_in rows = audit (text_in (codes "workload") rows) (logs_in rows)

-- what a subcommand asks for, by its name and what was given to it: a command, or its first value that is none
abbrev pub command_in : Text × List Row → Option (Result Command ValueName)
command_in p = if bytes_eq p.0 (codes "check") then Some (Ok (check (text_in (codes "workload") p.1)))
    else if bytes_eq p.0 (codes "print") then Some (Ok (print (text_in (codes "workload") p.1)))
    else if bytes_eq p.0 (codes "replay") then Some (replay_in p.1)
    else if bytes_eq p.0 (codes "serve") then Some (serve_in p.1)
    else if bytes_eq p.0 (codes "submit") then Some (submit_in p.1)
    else if bytes_eq p.0 (codes "stop") then Some (Ok (stop (text_in (codes "workload") p.1) (text_in (codes "cluster") p.1)))
    else if bytes_eq p.0 (codes "local") then Some (local_in p.1)
    else if bytes_eq p.0 (codes "gen") then Some (gen_in p.1)
    else if bytes_eq p.0 (codes "audit") then Some (Ok (audit_in p.1))
    else None

-- the logs among what was given to a subcommand
abbrev pub logs_by : Option (Text × List Row) → List Text
logs_by given = option_map_or (λ p. logs_in p.1) given []

-- what the words ask for, where `clap` takes them
unfoldable pub command_by : List Text → Option (Result Command ValueName)
command_by words = option_and_then command_in (subcommand_of program_app words)
