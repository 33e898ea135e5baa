-- What the program makes of `submit`, alone and with what may stand beside.
use Rattle.std.proofs.Common.{◌≡◌, ℕ, List, [], ◌∷◌, Some, None, Ok, codes, refl, ◌∙◌}
use Rattle.clap.specs.Words.{Text}
use Rattle.clap.proofs.OnLiterals.{clap_on_literals}
use Rattle.roc_cli_words.specs.Program.{program_app}
use Rattle.roc_cli_words.specs.Values.{coord_in, turns_in}
use Rattle.roc_cli_words.specs.Commands.{Command, ◌>>=◌, submit, command_in}
use Rattle.roc_cli_words.specs.Answer.{AreWordsOf, IsPlainWord}
use Rattle.roc_cli_words.specs.Worded.{coordinator_words, later_words, AreForCoordinator}
use Rattle.roc_cli_words.proofs.Named.{plain_word}
use Rattle.roc_cli_words.proofs.NumberWords.{coord_word, turns_word}
use Rattle.roc_cli_words.proofs.NodeWords.{one_value}
use Rattle.roc_cli_words.proofs.Entering.{IsEntered, entering, words_fault, words_rows, shape_named, texts_of, AreKnown, Word, written, given}

enters_submit : IsEntered (codes "submit")
unfolding clap_on_literals program_app
enters_submit = record { stops = refl; clear = refl; found = refl; named = refl }

module _ (w c r n t : Text) where
  abbrev words : List Word → List Word
  words more = given w ∷ given c ∷ given r ∷ written (codes "--coord") ∷ given n ∷ written (codes "--turns") ∷ given t ∷ more

  alone_clear : words_fault (shape_named (codes "submit")) (words []) ≡ []
  unfolding clap_on_literals program_app
  alone_clear = refl

  alone_asks : command_in (codes "submit", words_rows (shape_named (codes "submit")) (words []))
      ≡ Some (coord_in n >>= λ coord. turns_in t >>= λ turns. Ok (submit w c r coord turns None None))
  unfolding clap_on_literals program_app
  alone_asks = refl

  module _ (file : Text) where
    abbrev log_words : List Word
    log_words = written (codes "--log") ∷ given file ∷ []

    log_clear : words_fault (shape_named (codes "submit")) (words log_words) ≡ []
    unfolding clap_on_literals program_app
    log_clear = refl

    log_asks : command_in (codes "submit", words_rows (shape_named (codes "submit")) (words log_words))
        ≡ Some (coord_in n >>= λ coord. turns_in t >>= λ turns. Ok (submit w c r coord turns (Some file) None))
    unfolding clap_on_literals program_app
    log_asks = refl

    module _ (later : Text) where
      abbrev grown_words : List Word
      grown_words = written (codes "--next") ∷ given file ∷ written (codes "--then") ∷ given later ∷ []

      growth_clear : words_fault (shape_named (codes "submit")) (words grown_words) ≡ []
      unfolding clap_on_literals program_app
      growth_clear = refl

      growth_asks : command_in (codes "submit", words_rows (shape_named (codes "submit")) (words grown_words))
          ≡ Some (coord_in n >>= λ coord. turns_in t >>= λ turns. Ok (submit w c r coord turns None (Some (file, later))))
      unfolding clap_on_literals program_app
      growth_asks = refl

module _ (w c r n t : Text) (coord turns : ℕ) (are : AreForCoordinator w c r n t coord turns) where
  known : (more : List Word) → AreKnown more → AreKnown (words w c r n t more)
  known more rest = (
    plain_word w are.workload_word,
    (
      plain_word c are.cluster_word,
      (
        plain_word r are.requests_word,
        (
          tt,
          (
            coord_word n coord are.coord_number,
            (tt, (turns_word t turns are.turns_number, rest)),
          ),
        ),
      ),
    ),
  )

  submitted : (more : List Word) → AreKnown more → (f : ℕ → ℕ → Command) → words_fault (shape_named (codes "submit")) (words w c r n t more) ≡ []
      → command_in (codes "submit", words_rows (shape_named (codes "submit")) (words w c r n t more)) ≡ Some (coord_in n >>= λ coord. turns_in t >>= λ turns. Ok (f coord turns))
      → AreWordsOf (coordinator_words w c r n t (texts_of more)) (f coord turns)
  submitted more rest f clear asks =
      entering (codes "submit") enters_submit (words w c r n t more) (known more rest) (f coord turns) clear
      (asks ∙ one_value _ coord _ are.coord_number ∙ one_value _ turns _ are.turns_number)

  pub alone : AreWordsOf (coordinator_words w c r n t []) (submit w c r coord turns None None)
  alone = submitted [] tt (λ coord turns. submit w c r coord turns None None) (alone_clear w c r n t) (alone_asks w c r n t)

  module _ (file : Text) (plain : IsPlainWord file) where
    pub with_log : AreWordsOf (coordinator_words w c r n t (codes "--log" ∷ file ∷ [])) (submit w c r coord turns (Some file) None)
    with_log =
        submitted (log_words w c r n t file) (tt, (plain_word file plain, tt)) (λ coord turns. submit w c r coord turns (Some file) None)
        (log_clear w c r n t file) (log_asks w c r n t file)

    pub with_growth : (later : Text) → IsPlainWord later → AreWordsOf (coordinator_words w c r n t (later_words file later)) (submit w c r coord turns None (Some (file, later)))
    with_growth later then =
        submitted (grown_words w c r n t file later) (tt, (plain_word file plain, (tt, (plain_word later then, tt)))) (λ coord turns. submit w c r coord turns None (Some (file, later)))
        (growth_clear w c r n t file later) (growth_asks w c r n t file later)
