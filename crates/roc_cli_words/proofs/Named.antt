-- What the program makes of a command and names of files.
use Rattle.std.proofs.Common.{◌≡◌, Bool, true, false, ◌&&◌, [], ◌∷◌, Some, None, Ok, codes, refl, bytes_eq}
use Rattle.std.proofs.lemmas.Bool.{ne_eqb}
use Rattle.clap.specs.Words.{Text}
use Rattle.clap.specs.Faults.{fault_of}
use Rattle.clap.proofs.OnLiterals.{clap_on_literals}
use Rattle.roc_cli_words.specs.Program.{program_app}
use Rattle.roc_cli_words.specs.Commands.{check, print, replay, command_by}
use Rattle.roc_cli_words.specs.Answer.{AreWordsOf, IsPlainWord}
use Rattle.roc_cli_words.proofs.Taken.{taken}
use Rattle.roc_cli_words.proofs.Several.{IsName}

false_and : (b : Bool) → (false && b) ≡ false
false_and true = refl
false_and false = refl

pub plain_word : (word : Text) → IsPlainWord word → IsName word
plain_word [] plain = absurd plain
plain_word (b ∷ bs) plain = let no_dash = ne_eqb b 45 plain in record { no_end = rw no_dash (false_and (bytes_eq bs (45 ∷ []))); no_flag = rw no_dash }

module _ (w : Text) (asked : IsName w) where
  check_taken : fault_of program_app (codes "check" ∷ w ∷ []) ≡ []
  unfolding clap_on_literals program_app
  check_taken = simp (asked.no_end, asked.no_flag)

  check_asked : command_by (codes "check" ∷ w ∷ []) ≡ Some (Ok (check w))
  unfolding clap_on_literals program_app command_by
  check_asked = simp (asked.no_end, asked.no_flag)

  print_taken : fault_of program_app (codes "print" ∷ w ∷ []) ≡ []
  unfolding clap_on_literals program_app
  print_taken = simp (asked.no_end, asked.no_flag)

  print_asked : command_by (codes "print" ∷ w ∷ []) ≡ Some (Ok (print w))
  unfolding clap_on_literals program_app command_by
  print_asked = simp (asked.no_end, asked.no_flag)

  module _ (s : Text) (second : IsName s) where
    replay_taken : fault_of program_app (codes "replay" ∷ w ∷ s ∷ []) ≡ []
    unfolding clap_on_literals program_app
    replay_taken = simp (asked.no_end, asked.no_flag, second.no_end, second.no_flag)

    replay_asked : command_by (codes "replay" ∷ w ∷ s ∷ []) ≡ Some (Ok (replay w s None))
    unfolding clap_on_literals program_app command_by
    replay_asked = simp (asked.no_end, asked.no_flag, second.no_end, second.no_flag)

pub checks : (workload : Text) → IsPlainWord workload → AreWordsOf (codes "check" ∷ workload ∷ []) (check workload)
checks w plain = let asked = plain_word w plain in record { taken = taken _ (check_taken w asked); asked = check_asked w asked }

pub prints : (workload : Text) → IsPlainWord workload → AreWordsOf (codes "print" ∷ workload ∷ []) (print workload)
prints w plain = let asked = plain_word w plain in record { taken = taken _ (print_taken w asked); asked = print_asked w asked }

pub replays : (workload schedule : Text) → IsPlainWord workload → IsPlainWord schedule → AreWordsOf (codes "replay" ∷ workload ∷ schedule ∷ []) (replay workload schedule None)
replays w s plain second =
    let asked = plain_word w plain in
    let other = plain_word s second in
    record { taken = taken _ (replay_taken w asked s other); asked = replay_asked w asked s other }
