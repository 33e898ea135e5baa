-- Numbers and parts of generated texts are words that do not begin with a dash.
use Rattle.std.proofs.Common.{◌≡◌, ℕ, Bool, true, false, List, [], ◌∷◌, Option, Some, None, Ok, Err, refl, subst}
use Rattle.std.specs.Prelude.{◌≢◌, ok_or}
use Rattle.std.specs.Option.{option_map_or}
use Rattle.roc_cli_words.specs.declared.value.ValueName.{ValueName}
use Rattle.roc_cli_words.specs.declared.value.Part.{Part}
use Rattle.roc_cli_words.specs.declared.value.ValueName.TheVariants as value
use Rattle.roc_cli_words.specs.Values.{is_plain_number, number_within, number_named, part_in, shard_in, turns_in, coord_in, coords_in, seed_in, shards_in, txns_in}
use Rattle.roc_cli_words.specs.Answer.{IsPlainWord}
use Rattle.roc_cli_words.proofs.Named.{plain_word}
use Rattle.roc_cli_words.proofs.Several.{IsName}

no_dash : (d : ℕ) (ds : List ℕ) → is_plain_number (d ∷ ds) ≡ true → d ≢ 45
no_dash d ds plain is = let dash : is_plain_number (45 ∷ ds) ≡ true = subst (λ b. is_plain_number (b ∷ ds) ≡ true) is plain in absurd cc

number_is_plain : (text : List ℕ) → is_plain_number text ≡ true → IsPlainWord text
number_is_plain [] plain = absurd cc
number_is_plain (d ∷ ds) plain = no_dash d ds plain

some_plain : (least most n : ℕ) (text : List ℕ) (b : Bool) → is_plain_number text ≡ b → number_within least most text ≡ Some n → is_plain_number text ≡ true
unfolding number_within
some_plain least most n text true plain is = plain
some_plain least most n text false plain is = let none : None ≡ Some n = rw plain at is in absurd cc

named_within : (name : ValueName) (o : Option ℕ) (n : ℕ) → ok_or o name ≡ Ok n → o ≡ Some n
named_within name None n is = absurd cc
named_within name (Some m) n is = cc

within_word : (least most n : ℕ) (text : List ℕ) → number_within least most text ≡ Some n → IsName text
within_word least most n text is = plain_word text (number_is_plain text (some_plain least most n text (is_plain_number text) refl is))

number_word : (name : ValueName) (least most n : ℕ) (text : List ℕ) → number_named name least most text ≡ Ok n → IsName text
number_word name least most n text is = within_word least most n text (named_within name (number_within least most text) n is)

pub shard_word : (text : List ℕ) (n : ℕ) → shard_in text ≡ Ok n → IsName text
shard_word text n is = number_word value.Shard 0 63 n text is

pub turns_word : (text : List ℕ) (n : ℕ) → turns_in text ≡ Ok n → IsName text
turns_word text n is = number_word value.Turns 1 4294967295 n text is

pub coord_word : (text : List ℕ) (n : ℕ) → coord_in text ≡ Ok n → IsName text
coord_word text n is = number_word value.Coord 0 15 n text is

pub seed_word : (text : List ℕ) (n : ℕ) → seed_in text ≡ Ok n → IsName text
seed_word text n is = number_word value.Seed 0 18446744073709551615 n text is

pub shards_word : (text : List ℕ) (n : ℕ) → shards_in text ≡ Ok n → IsName text
shards_word text n is = number_word value.Shards 1 64 n text is

pub txns_word : (text : List ℕ) (n : ℕ) → txns_in text ≡ Ok n → IsName text
txns_word text n is = number_word value.Txns 1 1000 n text is

coords_within : (o : Option ℕ) (n : ℕ) → option_map_or (λ (m : ℕ). Ok (Some m)) o (Err value.Coords) ≡ Ok (Some n) → o ≡ Some n
coords_within None n is = absurd cc
coords_within (Some m) n is = cc

pub coords_word : (text : List ℕ) (n : ℕ) → coords_in (Some text) ≡ Ok (Some n) → IsName text
coords_word text n is = within_word 1 16 n text (coords_within (number_within 1 16 text) n is)

part_is_plain : (text : List ℕ) (part : Part) → part_in text ≡ Ok part → IsPlainWord text
part_is_plain [] part is = absurd cc
part_is_plain (b ∷ bs) part is = λ dash. let none : part_in (45 ∷ bs) ≡ Ok part = subst (λ c. part_in (c ∷ bs) ≡ Ok part) dash is in absurd cc

pub part_word : (text : List ℕ) (part : Part) → part_in text ≡ Ok part → IsName text
part_word text part is = plain_word text (part_is_plain text part is)
