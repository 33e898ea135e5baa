-- What is printed for a value that is none: its name, as it stands on the command line, and what it may be; of a log and of a workload to grow to, which may have any name, its name alone
use Rattle.std.specs.Prelude.{List, ℕ, codes}
use Rattle.roc_cli_words.specs.declared.value.ValueName.{ValueName}
use Rattle.roc_cli_words.specs.declared.value.ValueName.TheVariants.{Shard, Turns, Coord, Coords, Seed, Shards, Txns, Part, Log, Next}

abbrev pub value_text : ValueName → List ℕ
value_text Shard = codes "shard: 0 to 63"
value_text Turns = codes "turns: 1 to 4294967295"
value_text Coord = codes "coord: 0 to 15"
value_text Coords = codes "coords: 1 to 16"
value_text Seed = codes "seed: 0 to 18446744073709551615"
value_text Shards = codes "shards: 1 to 64"
value_text Txns = codes "txns: 1 to 1000"
value_text Part = codes "part: workload, schedule or run"
value_text Log = codes "log"
value_text Next = codes "next"
