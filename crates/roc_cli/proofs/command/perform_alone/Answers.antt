use Rattle.std.proofs.Common.{refl, subst, sym}
use Rattle.roc_cli_nodes.specs.Words.{IsAudit}
use Rattle.roc_cli_words.specs.Answer.{AreWordsOf}
use Rattle.roc_cli_words.specs.Commands.{IsWithin, command_with, log_names}
use Rattle.roc_cli.proofs.Faults.{print_ends, check_ends, gen_ends}
use Rattle.roc_cli.proofs.Counts.{gen_reads, gen_blames_no_file}
use Rattle.roc_cli.proofs.command.perform_alone.Goals as goal

pub returns-in-Replay-clause-ends : goal.returns-in-Replay-clause-ends
returns-in-Replay-clause-ends g c words given = c.replay_files.ensures.ends words (subst (λ a. AreWordsOf words (command_with (log_names c.args.asked.logs) a)) c.in-Replay.is given)

-- a workload to grow to is for 1 to 16 coordinators
pub replay_files-requires : goal.replay_files-requires
replay_files-requires g c = record { within = subst (λ a. IsWithin (command_with (log_names c.args.asked.logs) a)) c.in-Replay.is c.requires.within }

pub returns-in-Print-clause-ends : goal.returns-in-Print-clause-ends
returns-in-Print-clause-ends g c words given = print_ends _ _ _ (subst (λ a. AreWordsOf words (command_with (log_names c.args.asked.logs) a)) c.in-Print.is given) c.print_file.ensures.failed c.print_file.ensures.ends

pub returns-in-Check-clause-ends : goal.returns-in-Check-clause-ends
returns-in-Check-clause-ends g c words given = check_ends _ _ _ (subst (λ a. AreWordsOf words (command_with (log_names c.args.asked.logs) a)) c.in-Check.is given) c.check_file.ensures.failed c.check_file.ensures.ends

pub returns-in-Gen-clause-ends : goal.returns-in-Gen-clause-ends
returns-in-Gen-clause-ends g c words given = gen_ends _ _ _ _ _ _ (subst (λ a. AreWordsOf words (command_with (log_names c.args.asked.logs) a)) c.in-Gen.is given) c.write_generated.ensures.ends

pub returns-in-Replay-clause-failed : goal.returns-in-Replay-clause-failed
returns-in-Replay-clause-failed g c = c.replay_files.ensures.failed

pub returns-in-Replay-clause-file_faults : goal.returns-in-Replay-clause-file_faults
returns-in-Replay-clause-file_faults g c = c.replay_files.ensures.file_faults

pub returns-in-Replay-clause-sink_faults : goal.returns-in-Replay-clause-sink_faults
returns-in-Replay-clause-sink_faults g c = c.replay_files.ensures.sink_faults

pub returns-in-Replay-clause-content : goal.returns-in-Replay-clause-content
returns-in-Replay-clause-content g c = c.replay_files.ensures.content

pub returns-in-Print-clause-failed : goal.returns-in-Print-clause-failed
returns-in-Print-clause-failed g c = c.print_file.ensures.failed

pub returns-in-Print-clause-file_faults : goal.returns-in-Print-clause-file_faults
returns-in-Print-clause-file_faults g c = c.print_file.ensures.file_faults

pub returns-in-Print-clause-sink_faults : goal.returns-in-Print-clause-sink_faults
returns-in-Print-clause-sink_faults g c = c.print_file.ensures.sink_faults

pub returns-in-Check-clause-failed : goal.returns-in-Check-clause-failed
returns-in-Check-clause-failed g c = c.check_file.ensures.failed

pub returns-in-Check-clause-file_faults : goal.returns-in-Check-clause-file_faults
returns-in-Check-clause-file_faults g c = c.check_file.ensures.file_faults

pub returns-in-Check-clause-sink_faults : goal.returns-in-Check-clause-sink_faults
returns-in-Check-clause-sink_faults g c = c.check_file.ensures.sink_faults

pub returns-in-Print-clause-content : goal.returns-in-Print-clause-content
returns-in-Print-clause-content g c = c.print_file.ensures.unchanged

pub returns-in-Check-clause-content : goal.returns-in-Check-clause-content
returns-in-Check-clause-content g c = c.check_file.ensures.unchanged

pub returns-in-Gen-clause-failed : goal.returns-in-Gen-clause-failed
returns-in-Gen-clause-failed g c = gen_reads _ _ _ _ _ _ _ _ c.write_generated.ensures.ends

pub returns-in-Gen-clause-file_faults : goal.returns-in-Gen-clause-file_faults
returns-in-Gen-clause-file_faults g c = gen_blames_no_file _ _ _ _ _ _ _ _ c.write_generated.ensures.ends

pub returns-in-Gen-clause-sink_faults : goal.returns-in-Gen-clause-sink_faults
returns-in-Gen-clause-sink_faults g c = c.write_generated.ensures.faults

pub returns-in-Gen-clause-content : goal.returns-in-Gen-clause-content
returns-in-Gen-clause-content g c name = refl

pub returns-in-Audit-clause-ends : goal.returns-in-Audit-clause-ends
returns-in-Audit-clause-ends g c words given =
    c.audit_files.ensures.ends words
    (subst (λ names. IsAudit words c.in-Audit.workload.now names) (sym c.as_slice.ensures) (subst (λ a. AreWordsOf words (command_with (log_names c.args.asked.logs) a)) c.in-Audit.is given))

pub returns-in-Audit-clause-failed : goal.returns-in-Audit-clause-failed
returns-in-Audit-clause-failed g c = c.audit_files.ensures.failed

pub returns-in-Audit-clause-file_faults : goal.returns-in-Audit-clause-file_faults
returns-in-Audit-clause-file_faults g c = c.audit_files.ensures.file_faults

pub returns-in-Audit-clause-sink_faults : goal.returns-in-Audit-clause-sink_faults
returns-in-Audit-clause-sink_faults g c = c.audit_files.ensures.sink_faults

pub returns-in-Audit-clause-content : goal.returns-in-Audit-clause-content
returns-in-Audit-clause-content g c = c.audit_files.ensures.content
