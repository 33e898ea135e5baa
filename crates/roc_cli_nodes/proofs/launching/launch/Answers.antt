use Rattle.std.proofs.Common.{refl, sym, ap, subst, ◌∙◌}
use Rattle.roc_cli_nodes.specs.Words.{journal_of, log_of}
use Rattle.roc_cli_words.specs.Answer.{AreWordsOf}
use Rattle.roc_cli_words.specs.Commands.{IsWithin, command_with, log_names}
use Rattle.roc_cli_nodes.proofs.Looping.{served_among, submitted_among, stopped_among, local_among}
use Rattle.roc_cli_nodes.proofs.Reading.{caused}
use Rattle.roc_cli_nodes.proofs.launching.launch.Goals as goal

pub returns-in-Serve-clause-ends : goal.returns-in-Serve-clause-ends
returns-in-Serve-clause-ends g c words given =
    served_among _ _ (c.serve_files.ensures.ends words (subst (λ a. AreWordsOf words (command_with (log_names c.args.asked.logs) a)) c.in-Serve.is given))

pub returns-in-Submit-clause-ends : goal.returns-in-Submit-clause-ends
returns-in-Submit-clause-ends g c words given =
    submitted_among _ _ (c.submit_files.ensures.ends words (subst (λ a. AreWordsOf words (command_with (log_names c.args.asked.logs) a)) c.in-Submit.is given))

pub returns-in-Stop-clause-ends : goal.returns-in-Stop-clause-ends
returns-in-Stop-clause-ends g c words given =
    stopped_among _ _ (c.stop_files.ensures.ends words (subst (λ a. AreWordsOf words (command_with (log_names c.args.asked.logs) a)) c.in-Stop.is given))

pub returns-in-Local-clause-ends : goal.returns-in-Local-clause-ends
returns-in-Local-clause-ends g c words given =
    local_among _ _ (c.local_files.ensures.ends words (subst (λ a. AreWordsOf words (command_with (log_names c.args.asked.logs) a)) c.in-Local.is given))

pub returns-in-Local-clause-unspawned : goal.returns-in-Local-clause-unspawned
returns-in-Local-clause-unspawned g c words given none = absurd (none (_, _, _, _, subst (λ a. AreWordsOf words (command_with (log_names c.args.asked.logs) a)) c.in-Local.is given))

pub returns-in-Serve-clause-unkept : goal.returns-in-Serve-clause-unkept
returns-in-Serve-clause-unkept g c none = c.serve_files.ensures.unkept (ap (λ a. journal_of (command_with (log_names c.args.asked.logs) a)) (sym c.in-Serve.is) ∙ none)

pub returns-in-Submit-clause-disk_faults : goal.returns-in-Submit-clause-disk_faults
returns-in-Submit-clause-disk_faults g c = caused _ _ _ _ c.submit_files.ensures.no_disk refl

pub returns-in-Stop-clause-disk_faults : goal.returns-in-Stop-clause-disk_faults
returns-in-Stop-clause-disk_faults g c = caused _ _ _ _ c.stop_files.ensures.no_disk refl

pub returns-in-Local-clause-disk_faults : goal.returns-in-Local-clause-disk_faults
returns-in-Local-clause-disk_faults g c = caused _ _ _ _ c.local_files.ensures.no_disk refl

pub returns-in-Serve-clause-unlogged : goal.returns-in-Serve-clause-unlogged
returns-in-Serve-clause-unlogged g c none = c.serve_files.ensures.unlogged (ap (λ a. log_of (command_with (log_names c.args.asked.logs) a)) (sym c.in-Serve.is) ∙ none)

pub returns-in-Submit-clause-unlogged : goal.returns-in-Submit-clause-unlogged
returns-in-Submit-clause-unlogged g c none = c.submit_files.ensures.unlogged (ap (λ a. log_of (command_with (log_names c.args.asked.logs) a)) (sym c.in-Submit.is) ∙ none)

pub returns-in-Stop-clause-book_faults : goal.returns-in-Stop-clause-book_faults
returns-in-Stop-clause-book_faults g c = caused _ _ _ _ c.stop_files.ensures.no_book refl

pub returns-in-Local-clause-book_faults : goal.returns-in-Local-clause-book_faults
returns-in-Local-clause-book_faults g c = caused _ _ _ _ c.local_files.ensures.no_book refl

-- where it grows, neither a journal nor a log is kept
pub serve_files-requires : goal.serve_files-requires
serve_files-requires g c = record { alone = (subst (λ a. IsWithin (command_with (log_names c.args.asked.logs) a)) c.in-Serve.is c.requires.within).2 }

pub submit_files-requires-clause-coord : goal.submit_files-requires-clause-coord
submit_files-requires-clause-coord g c = (subst (λ a. IsWithin (command_with (log_names c.args.asked.logs) a)) c.in-Submit.is c.requires.within).0

pub submit_files-requires-clause-alone : goal.submit_files-requires-clause-alone
submit_files-requires-clause-alone g c = (subst (λ a. IsWithin (command_with (log_names c.args.asked.logs) a)) c.in-Submit.is c.requires.within).1
