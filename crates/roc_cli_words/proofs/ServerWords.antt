-- What the program makes of `serve`, alone and with what may stand beside.
use Rattle.std.proofs.Common.{◌≡◌, ℕ, Bool, true, false, List, [], ◌∷◌, Option, Some, None, Result, Ok, codes, refl, ap, subst, ◌∙◌}
use Rattle.clap.specs.Words.{Text}
use Rattle.clap.proofs.OnLiterals.{clap_on_literals}
use Rattle.roc_cli_words.specs.declared.value.ValueName.{ValueName}
use Rattle.roc_cli_words.specs.Program.{program_app}
use Rattle.roc_cli_words.specs.Values.{shard_in, turns_in, coords_in, with_partner}
use Rattle.roc_cli_words.specs.Commands.{Command, ◌>>=◌, serve, command_in}
use Rattle.roc_cli_words.specs.Answer.{AreWordsOf, IsPlainWord}
use Rattle.roc_cli_words.specs.Worded.{server_words, next_words, AreForServer}
use Rattle.roc_cli_words.proofs.Named.{plain_word}
use Rattle.roc_cli_words.proofs.NumberWords.{shard_word, turns_word, coords_word}
use Rattle.roc_cli_words.proofs.NodeWords.{one_value, same_value}
use Rattle.roc_cli_words.proofs.Entering.{IsEntered, entering, words_fault, words_rows, shape_named, texts_of, AreKnown, Word, written, given}

enters_serve : IsEntered (codes "serve")
unfolding clap_on_literals program_app
enters_serve = record { stops = refl; clear = refl; found = refl; named = refl }

module _ (w c n t : Text) (counts : Bool) where
  abbrev with_counts : Bool → List Word → List Word
  with_counts true more = written (codes "--counts") ∷ more
  with_counts false more = more

  abbrev words : List Word → List Word
  words more = given w ∷ given c ∷ written (codes "--shard") ∷ given n ∷ written (codes "--turns") ∷ given t ∷ with_counts counts more

module _ (w c n t : Text) where
  alone_clear : (counts : Bool) → words_fault (shape_named (codes "serve")) (words w c n t counts []) ≡ []
  unfolding clap_on_literals program_app
  alone_clear true = refl
  alone_clear false = refl

  alone_asks : (counts : Bool) → command_in (codes "serve", words_rows (shape_named (codes "serve")) (words w c n t counts []))
      ≡ Some (shard_in n >>= λ shard. turns_in t >>= λ turns. Ok (serve w c shard turns counts None None None))
  unfolding clap_on_literals program_app
  alone_asks true = refl
  alone_asks false = refl

  module _ (file : Text) where
    abbrev journal_words : List Word
    journal_words = written (codes "--journal") ∷ given file ∷ []

    journal_clear : (counts : Bool) → words_fault (shape_named (codes "serve")) (words w c n t counts journal_words) ≡ []
    unfolding clap_on_literals program_app
    journal_clear true = refl
    journal_clear false = refl

    journal_asks : (counts : Bool) → command_in (codes "serve", words_rows (shape_named (codes "serve")) (words w c n t counts journal_words))
        ≡ Some (shard_in n >>= λ shard. turns_in t >>= λ turns. Ok (serve w c shard turns counts (Some file) None None))
    unfolding clap_on_literals program_app
    journal_asks true = refl
    journal_asks false = refl

    abbrev log_words : List Word
    log_words = written (codes "--log") ∷ given file ∷ []

    log_clear : (counts : Bool) → words_fault (shape_named (codes "serve")) (words w c n t counts log_words) ≡ []
    unfolding clap_on_literals program_app
    log_clear true = refl
    log_clear false = refl

    log_asks : (counts : Bool) → command_in (codes "serve", words_rows (shape_named (codes "serve")) (words w c n t counts log_words))
        ≡ Some (shard_in n >>= λ shard. turns_in t >>= λ turns. Ok (serve w c shard turns counts None (Some file) None))
    unfolding clap_on_literals program_app
    log_asks true = refl
    log_asks false = refl

    module _ (text : Text) where
      abbrev grown_words : List Word
      grown_words = written (codes "--next") ∷ given file ∷ written (codes "--coords") ∷ given text ∷ []

      growth_clear : (counts : Bool) → words_fault (shape_named (codes "serve")) (words w c n t counts grown_words) ≡ []
      unfolding clap_on_literals program_app
      growth_clear true = refl
      growth_clear false = refl

      growth_asks : (counts : Bool) → command_in (codes "serve", words_rows (shape_named (codes "serve")) (words w c n t counts grown_words))
          ≡ Some (shard_in n >>= λ shard. turns_in t >>= λ turns. coords_in (Some text) >>= λ coords. with_partner false (Some file) coords
          >>= λ growth. Ok (serve w c shard turns counts None None growth))
      unfolding clap_on_literals program_app
      growth_asks true = refl
      growth_asks false = refl

-- ---- the words as they stand in the laws

are_words : (w c n t : Text) (counts : Bool) (more : List Word) → codes "serve" ∷ texts_of (words w c n t counts more) ≡ server_words w c n t counts (texts_of more)
are_words w c n t true more = refl
are_words w c n t false more = refl

module _ (w c n t : Text) (shard turns : ℕ) (counts : Bool) (are : AreForServer w c n t shard turns) where
  known : (counts : Bool) (more : List Word) → AreKnown more → AreKnown (words w c n t counts more)
  known true more rest =
      (plain_word w are.workload_word, (plain_word c are.cluster_word, (tt, (shard_word n shard are.shard_number, (tt, (turns_word t turns are.turns_number, (tt, rest)))))))
  known false more rest =
      (plain_word w are.workload_word, (plain_word c are.cluster_word, (tt, (shard_word n shard are.shard_number, (tt, (turns_word t turns are.turns_number, rest))))))

  -- what is asked for once the shard and the turns are read
  abbrev found : (ℕ → ℕ → Result Command ValueName) → Option (Result Command ValueName)
  found f = Some (shard_in n >>= λ shard. turns_in t >>= λ turns. f shard turns)

  served : (more : List Word) → AreKnown more → (f : ℕ → ℕ → Result Command ValueName) → (asked : Command) → words_fault (shape_named (codes "serve")) (words w c n t counts more) ≡ []
      → command_in (codes "serve", words_rows (shape_named (codes "serve")) (words w c n t counts more)) ≡ found f → f shard turns ≡ Ok asked
      → AreWordsOf (server_words w c n t counts (texts_of more)) asked
  served more rest f asked clear asks is =
      subst (λ ws. AreWordsOf ws asked) (are_words w c n t counts more)
      (entering (codes "serve") enters_serve (words w c n t counts more) (known counts more rest) asked clear
      (asks ∙ one_value _ shard _ are.shard_number ∙ one_value _ turns _ are.turns_number ∙ ap Some is))

  pub alone : AreWordsOf (server_words w c n t counts []) (serve w c shard turns counts None None None)
  alone = served [] tt (λ shard turns. Ok (serve w c shard turns counts None None None)) _ (alone_clear w c n t counts) (alone_asks w c n t counts) refl

  module _ (file : Text) (plain : IsPlainWord file) where
    pub with_journal : AreWordsOf (server_words w c n t counts (codes "--journal" ∷ file ∷ [])) (serve w c shard turns counts (Some file) None None)
    with_journal =
        served (journal_words w c n t file) (tt, (plain_word file plain, tt)) (λ shard turns. Ok (serve w c shard turns counts (Some file) None None)) _
        (journal_clear w c n t file counts) (journal_asks w c n t file counts) refl

    pub with_log : AreWordsOf (server_words w c n t counts (codes "--log" ∷ file ∷ [])) (serve w c shard turns counts None (Some file) None)
    with_log =
        served (log_words w c n t file) (tt, (plain_word file plain, tt)) (λ shard turns. Ok (serve w c shard turns counts None (Some file) None)) _
        (log_clear w c n t file counts) (log_asks w c n t file counts) refl

    pub with_growth : (text : Text) (coords : ℕ) → coords_in (Some text) ≡ Ok (Some coords)
        → AreWordsOf (server_words w c n t counts (next_words file text)) (serve w c shard turns counts None None (Some (file, coords)))
    with_growth text coords number =
        served (grown_words w c n t file text) (tt, (plain_word file plain, (tt, (coords_word text coords number, tt))))
        (λ shard turns. coords_in (Some text) >>= λ coords. with_partner false (Some file) coords >>= λ growth. Ok (serve w c shard turns counts None None growth)) _
        (growth_clear w c n t file text counts) (growth_asks w c n t file text counts) (same_value _ (Some coords) _ number)
