-- What the program makes of `stop`, `local` and `gen`, and of `replay` where the workload grows.
use Rattle.std.proofs.Common.{◌≡◌, ℕ, false, List, [], ◌∷◌, Some, Result, Ok, codes, refl, ap, ◌∙◌}
use Rattle.clap.specs.Words.{Text}
use Rattle.clap.proofs.OnLiterals.{clap_on_literals}
use Rattle.roc_cli_words.specs.declared.value.Part.{Part}
use Rattle.roc_cli_words.specs.declared.value.ValueName.{ValueName}
use Rattle.roc_cli_words.specs.Program.{program_app}
use Rattle.roc_cli_words.specs.Values.{turns_in, coords_in, seed_in, shards_in, txns_in, part_in, with_partner}
use Rattle.roc_cli_words.specs.Commands.{Command, ◌>>=◌, replay, stop, local, gen, command_in}
use Rattle.roc_cli_words.specs.Answer.{AreWordsOf, IsPlainWord}
use Rattle.roc_cli_words.specs.Worded.{next_words}
use Rattle.roc_cli_words.proofs.Named.{plain_word}
use Rattle.roc_cli_words.proofs.NumberWords.{turns_word, coords_word, seed_word, shards_word, txns_word, part_word}
use Rattle.roc_cli_words.proofs.Entering.{IsEntered, entering, words_fault, words_rows, shape_named, Word, written, given}

-- ---- what a command asks for, once its numbers are known

pub same_value : {A : Type 0} (a : Result A ValueName) (x : A) (f : A → Result Command ValueName) → a ≡ Ok x → (a >>= f) ≡ f x
same_value a x f is = ap (λ r. r >>= f) is

pub one_value : {A : Type 0} (a : Result A ValueName) (x : A) (f : A → Result Command ValueName) → a ≡ Ok x → Some (a >>= f) ≡ Some (f x)
one_value a x f is = ap (λ r. Some (r >>= f)) is

enters_replay : IsEntered (codes "replay")
unfolding clap_on_literals program_app
enters_replay = record { stops = refl; clear = refl; found = refl; named = refl }

enters_stop : IsEntered (codes "stop")
unfolding clap_on_literals program_app
enters_stop = record { stops = refl; clear = refl; found = refl; named = refl }

enters_local : IsEntered (codes "local")
unfolding clap_on_literals program_app
enters_local = record { stops = refl; clear = refl; found = refl; named = refl }

enters_gen : IsEntered (codes "gen")
unfolding clap_on_literals program_app
enters_gen = record { stops = refl; clear = refl; found = refl; named = refl }

-- ---- `stop`

module _ (w c : Text) where
  stop_clear : words_fault (shape_named (codes "stop")) (given w ∷ given c ∷ []) ≡ []
  unfolding clap_on_literals program_app
  stop_clear = refl

  stop_asks : command_in (codes "stop", words_rows (shape_named (codes "stop")) (given w ∷ given c ∷ [])) ≡ Some (Ok (stop w c))
  unfolding clap_on_literals program_app
  stop_asks = refl

pub stops : (workload cluster : Text) → IsPlainWord workload → IsPlainWord cluster → AreWordsOf (codes "stop" ∷ workload ∷ cluster ∷ []) (stop workload cluster)
stops w c first second =
    entering (codes "stop") enters_stop (given w ∷ given c ∷ []) (plain_word w first, (plain_word c second, tt)) (stop w c) (stop_clear w c) (stop_asks w c)

-- ---- `local`

module _ (w c r t : Text) where
  abbrev local_words : List Word
  local_words = given w ∷ given c ∷ given r ∷ written (codes "--turns") ∷ given t ∷ []

  local_clear : words_fault (shape_named (codes "local")) local_words ≡ []
  unfolding clap_on_literals program_app
  local_clear = refl

  local_asks : command_in (codes "local", words_rows (shape_named (codes "local")) local_words) ≡ Some (turns_in t >>= λ turns. Ok (local w c r turns))
  unfolding clap_on_literals program_app
  local_asks = refl

pub locals : (workload cluster requests text : Text) (turns : ℕ) → IsPlainWord workload → IsPlainWord cluster → IsPlainWord requests → turns_in text ≡ Ok turns
    → AreWordsOf (codes "local" ∷ workload ∷ cluster ∷ requests ∷ codes "--turns" ∷ text ∷ []) (local workload cluster requests turns)
locals w c r t turns first second third number =
    entering (codes "local") enters_local (local_words w c r t) (plain_word w first, (plain_word c second, (plain_word r third, (tt, (turns_word t turns number, tt)))))
    (local w c r turns) (local_clear w c r t) (local_asks w c r t ∙ one_value _ turns _ number)

-- ---- `gen`

module _ (a b c d : Text) where
  abbrev gen_words : List Word
  gen_words = given a ∷ given b ∷ given c ∷ given d ∷ []

  gen_clear : words_fault (shape_named (codes "gen")) gen_words ≡ []
  unfolding clap_on_literals program_app
  gen_clear = refl

  gen_asks : command_in (codes "gen", words_rows (shape_named (codes "gen")) gen_words)
      ≡ Some (seed_in a >>= λ seed. shards_in b >>= λ shards. txns_in c >>= λ txns. part_in d >>= λ part. Ok (gen seed shards txns part))
  unfolding clap_on_literals program_app
  gen_asks = refl

pub gens : (first second third fourth : Text) (seed shards txns : ℕ) (part : Part) → seed_in first ≡ Ok seed → shards_in second ≡ Ok shards → txns_in third ≡ Ok txns
    → part_in fourth ≡ Ok part → AreWordsOf (codes "gen" ∷ first ∷ second ∷ third ∷ fourth ∷ []) (gen seed shards txns part)
gens a b c d seed shards txns part first second third fourth =
    entering (codes "gen") enters_gen (gen_words a b c d)
    (seed_word a seed first, (shards_word b shards second, (txns_word c txns third, (part_word d part fourth, tt)))) (gen seed shards txns part) (gen_clear a b c d)
    (gen_asks a b c d ∙ one_value _ seed _ first ∙ one_value _ shards _ second ∙ one_value _ txns _ third ∙ one_value _ part _ fourth)

-- ---- `replay`, where the workload grows

module _ (w s next t : Text) where
  abbrev replay_words : List Word
  replay_words = given w ∷ given s ∷ written (codes "--next") ∷ given next ∷ written (codes "--coords") ∷ given t ∷ []

  replay_clear : words_fault (shape_named (codes "replay")) replay_words ≡ []
  unfolding clap_on_literals program_app
  replay_clear = refl

  replay_asks : command_in (codes "replay", words_rows (shape_named (codes "replay")) replay_words)
      ≡ Some (coords_in (Some t) >>= λ coords. with_partner false (Some next) coords >>= λ growth. Ok (replay w s growth))
  unfolding clap_on_literals program_app
  replay_asks = refl

pub grown_replays : (workload schedule next text : Text) (coords : ℕ) → IsPlainWord workload → IsPlainWord schedule → IsPlainWord next → coords_in (Some text) ≡ Ok (Some coords)
    → AreWordsOf (codes "replay" ∷ workload ∷ schedule ∷ next_words next text) (replay workload schedule (Some (next, coords)))
grown_replays w s next t coords first second third number =
    entering (codes "replay") enters_replay (replay_words w s next t)
    (plain_word w first, (plain_word s second, (tt, (plain_word next third, (tt, (coords_word t coords number, tt)))))) (replay w s (Some (next, coords)))
    (replay_clear w s next t) (replay_asks w s next t ∙ one_value _ (Some coords) _ number)
