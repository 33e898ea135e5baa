-- The words that `clap` takes: docs/FORMATS.md, "Words"
use Rattle.std.specs.Prelude.{◌≡◌, List, [], Some, true, codes}
use Rattle.clap.specs.Words.{App, Rule, Text, new_app, new_rule, with_rule, with_subcommand}
use Rattle.clap.specs.Faults.{fault_of}
use Rattle.clap.specs.declared.builder.ArgAction.TheVariants.{Set, SetTrue}

-- a word that must stand
abbrev pub standing_rule : Text → Rule
standing_rule name = record (new_rule name) { action = Some Set; required = true }

-- a value behind its name, as `--turns 5`, that must stand
abbrev pub named_rule : Text → Rule
named_rule name = record (standing_rule name) { long = Some name }

-- a name alone, as `--counts`, that may stand
abbrev pub flag_rule : Text → Rule
flag_rule name = record (new_rule name) { action = Some SetTrue; long = Some name }

-- a value behind its name, as `--journal FILE`, that may stand
abbrev pub choice_rule : Text → Rule
choice_rule name = record (new_rule name) { action = Some Set; long = Some name }

-- words of which one must stand and 80 may, behind all others
abbrev pub many_rule : Text → Rule
many_rule name = record (standing_rule name) { range = Some (record { start_inclusive = 1; end_inclusive = 80 }) }

-- `check W` and `print W`
abbrev pub workload_app : Text → App
workload_app name = with_rule (new_app name) (standing_rule (codes "workload"))

-- `replay W SCHEDULE [--next GROWN] [--coords M]`
abbrev pub replay_app : App
replay_app = with_rule (with_rule (with_rule (workload_app (codes "replay")) (standing_rule (codes "schedule"))) (choice_rule (codes "next"))) (choice_rule (codes "coords"))

-- `stop W CLUSTER`, and what `serve`, `submit` and `local` begin with
abbrev pub cluster_app : Text → App
cluster_app name = with_rule (workload_app name) (standing_rule (codes "cluster"))

-- `serve W CLUSTER --shard N --turns T [--counts] [--journal FILE] [--log FILE] [--next GROWN] [--coords M]`
abbrev pub serve_app : App
serve_app =
    with_rule (with_rule (with_rule (with_rule (with_rule (with_rule (with_rule (cluster_app (codes "serve")) (named_rule (codes "shard"))) (named_rule (codes "turns")))
    (flag_rule (codes "counts"))) (choice_rule (codes "journal"))) (choice_rule (codes "log"))) (choice_rule (codes "next"))) (choice_rule (codes "coords"))

-- `submit W CLUSTER REQUESTS --coord C --turns T [--log FILE] [--next GROWN] [--then REQUESTS2]`
abbrev pub submit_app : App
submit_app =
    with_rule (with_rule (with_rule (with_rule (with_rule (with_rule (cluster_app (codes "submit")) (standing_rule (codes "requests"))) (named_rule (codes "coord"))) (named_rule (codes "turns")))
    (choice_rule (codes "log"))) (choice_rule (codes "next"))) (choice_rule (codes "then"))

-- `local W CLUSTER REQUESTS --turns T`
abbrev pub local_app : App
local_app = with_rule (with_rule (cluster_app (codes "local")) (standing_rule (codes "requests"))) (named_rule (codes "turns"))

-- `gen SEED SHARDS TXNS PART`
abbrev pub gen_app : App
gen_app =
    with_rule (with_rule (with_rule (with_rule (new_app (codes "gen")) (standing_rule (codes "seed"))) (standing_rule (codes "shards"))) (standing_rule (codes "txns")))
    (standing_rule (codes "part"))

-- `audit W LOGS..`
abbrev pub audit_app : App
audit_app = with_rule (workload_app (codes "audit")) (many_rule (codes "logs"))

-- the program's name is no word; one of the commands must stand, and there is no help
abbrev pub bare_app : App
bare_app = let empty = new_app (codes "rococo") in record empty {
  top = record empty.top {
    no_binary_name = true;
    disable_help_flag = true;
    disable_help_subcommand = true;
    subcommand_required = true;
  };
}

unfoldable pub program_app : App
program_app = with_subcommand (with_subcommand (with_subcommand (with_subcommand (with_subcommand (with_subcommand (with_subcommand (with_subcommand (with_subcommand bare_app
    (workload_app (codes "check")).top) (workload_app (codes "print")).top) replay_app.top) serve_app.top) submit_app.top) (cluster_app (codes "stop")).top) local_app.top) gen_app.top)
    audit_app.top

-- `clap` finds no fault in the words
unfoldable pub IsTakenByClap : List Text → Type 0
IsTakenByClap words = fault_of program_app words ≡ []
