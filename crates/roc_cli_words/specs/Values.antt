-- The values among the words that are numbers, and the part of a generated text: docs/FORMATS.md, "Words"
use Rattle.std.specs.Prelude.{ℕ, Bool, true, false, not, ◌&&◌, ◌||◌, ◌==◌, nat_le, if◌then◌else◌, List, [], ◌∷◌, length, Option, Some, None, Result, Ok, Err, codes}
use Rattle.std.specs.Prelude.{bytes_eq, ok_or}
use Rattle.std.specs.Option.{option_map_or}
use Rattle.std.specs.List.{list_all}
use Rattle.std.specs.Char.{is_ascii_digit}
use Rattle.std.specs.Str.Parse.{digits_value}
use Rattle.roc_cli_words.specs.declared.value.ValueName.{ValueName}
use Rattle.roc_cli_words.specs.declared.value.ValueName.TheVariants as name
use Rattle.roc_cli_words.specs.declared.value.Part.{Part}
use Rattle.roc_cli_words.specs.declared.value.Part.TheVariants.{Workload, Schedule, Run}

-- decimal digits without a sign, and without a leading zero but 0 itself
abbrev pub is_plain_number : List ℕ → Bool
is_plain_number [] = false
is_plain_number (d ∷ ds) = list_all is_ascii_digit (d ∷ ds) && (length ds == 0 || not (d == 48))

-- the number that such a text writes, from a least to a greatest one
unfoldable pub number_within : (least most : ℕ) → (text : List ℕ) → Option ℕ
number_within least most text =
    if is_plain_number text && (nat_le least (digits_value 10 text) && nat_le (digits_value 10 text) most) then Some (digits_value 10 text) else None

-- the number, or the name of the value, where it is none in its range
abbrev pub number_named : ValueName → (least most : ℕ) → (text : List ℕ) → Result ℕ ValueName
number_named value least most text = ok_or (number_within least most text) value

abbrev pub shard_in : List ℕ → Result ℕ ValueName
shard_in text = number_named name.Shard 0 63 text

abbrev pub turns_in : List ℕ → Result ℕ ValueName
turns_in text = number_named name.Turns 1 4294967295 text

abbrev pub coord_in : List ℕ → Result ℕ ValueName
coord_in text = number_named name.Coord 0 15 text

abbrev pub seed_in : List ℕ → Result ℕ ValueName
seed_in text = number_named name.Seed 0 18446744073709551615 text

abbrev pub shards_in : List ℕ → Result ℕ ValueName
shards_in text = number_named name.Shards 1 64 text

abbrev pub txns_in : List ℕ → Result ℕ ValueName
txns_in text = number_named name.Txns 1 1000 text

abbrev pub part_in : List ℕ → Result Part ValueName
part_in text =
    if bytes_eq text (codes "workload") then Ok Workload
    else if bytes_eq text (codes "schedule") then Ok Schedule
    else if bytes_eq text (codes "run") then Ok Run
    else Err name.Part

-- how many coordinators there are, where that is given
abbrev pub coords_in : (text : Option (List ℕ)) → Result (Option ℕ) ValueName
coords_in None = Ok None
coords_in (Some text) = option_map_or (λ n. Ok (Some n)) (number_within 1 16 text) (Err name.Coords)

-- a log, where no journal is named
abbrev pub log_beside : (journal log : Option (List ℕ)) → Result (Option (List ℕ)) ValueName
log_beside (Some journal) (Some log) = Err name.Log
log_beside journal log = Ok log

-- a node keeps something: a journal or a log
abbrev pub keeps_any : (journal log : Option (List ℕ)) → Bool
keeps_any None None = false
keeps_any journal log = true

-- a workload to grow to, and what has to be given beside it: both, where nothing is kept, or neither
abbrev pub with_partner : {A B : Type 0} → (kept : Bool) → (workload : Option A) → (partner : Option B) → Result (Option (A × B)) ValueName
with_partner kept None None = Ok None
with_partner false (Some workload) (Some partner) = Ok (Some (workload, partner))
with_partner kept workload partner = Err name.Next
