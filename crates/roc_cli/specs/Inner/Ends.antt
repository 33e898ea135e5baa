-- How the work for some words ends, before it is told
use Rattle.std.specs.Prelude.{◌≡◌, ◌⊎◌, false, ℕ, List, Option, Result, Ok, Err}
use Rattle.roc_io.specs.Observed.{Adds, AddsFront}
use Rattle.roc_plan.specs.Groups.{Plan}
use Rattle.roc_epoch.specs.declared.next.Next.{Next}
use Rattle.roc_base.specs.declared.id.TxnId.{TxnId}
use Rattle.roc_log.specs.declared.line.Log.{Log}
use Rattle.roc_judge.specs.declared.judgement.Judgement.TheVariants.{Yes}
use Rattle.roc_auditor.specs.declared.verdict.Verdict.{Verdict}
use Rattle.roc_auditor.specs.declared.verdict.Verdict.TheVariants.{Judged}
use Rattle.roc_auditor.specs.Verdict.{HaveNoGap, IsGap, IsVerdict}
use Rattle.roc_auditor.specs.VerdictText.{verdict_text}
use Rattle.roc_sched.specs.declared.fault.What.{What as ScheduleWhat}
use Rattle.roc_sched.specs.FaultText.{what_text as schedule_text}
use Rattle.roc_replay.specs.declared.ended.Summary.{Summary}
use Rattle.roc_replay.specs.Ended.{IsReplayed, IsTextFault, IsCut, IsUnfinished}
use Rattle.roc_cli_files.specs.declared.fault.Fault.{Fault}
use Rattle.roc_cli_files.specs.declared.fault.Fault.TheVariants.{Refused, Value, NoShard, At, Journal, Rejected, Memory, Unanswered, Gap, File, Sink, Link, Child, Disk, Full, Refuted, Book}
use Rattle.roc_cli_words.specs.declared.value.Part.{Part}
use Rattle.roc_cli_words.specs.declared.answer.WordsFault.{WordsFault}
use Rattle.roc_cli_words.specs.declared.answer.WordsFault.TheVariants as words_fault
use Rattle.roc_cli_nodes.specs.Call.{RunCall, WholeCall, TakesNothing}
use Rattle.roc_cli_nodes.specs.Nodes.{AreNodesEnded, IsChildBlamed}
use Rattle.roc_cli_nodes.specs.Ends.{LoopEnded}
use Rattle.roc_cli.specs.Done.{Replays, Prints, Checks, Generates, IsGenerated, Rejects}
use Rattle.roc_cli.specs.Audited.{Audits, Refutes, is_yes}
use Rattle.roc_cli.specs.Refused.{AreRefusedWords, IsRefused}
use Rattle.roc_cli.specs.Stopped.{IsUnread, RunsOut, CutsOutput}
use Rattle.roc_cli_files.specs.Fault.{line_of}

-- ---- one command

-- how the replay of a schedule's bytes ends
abbrev pub ReplayEnds : Plan → Option Next → (bytes name : List ℕ) → (old new : Option (List ℕ)) → Result Unit Fault → Type 0
ReplayEnds plan next bytes name old new (Ok done) = (summary : Summary) × IsReplayed plan next bytes summary old new
ReplayEnds plan next bytes name old new (Err (At file line what)) =
    (file.now ≡ name) × ((w : ScheduleWhat) × (what.now ≡ schedule_text w) × IsTextFault plan next bytes line w old new)
ReplayEnds plan next bytes name old new (Err Memory) = IsUnfinished plan next bytes old new
ReplayEnds plan next bytes name old new (Err Sink) = IsCut plan next bytes old new
ReplayEnds plan next bytes name old new _ = ⊥

-- how generated load ends
abbrev pub GenEnds : (seed shards txns : ℕ) → Part → (old new : Option (List ℕ)) → Result Unit Fault → Type 0
GenEnds seed shards txns part old new (Ok done) = (text : List ℕ) × IsGenerated seed shards txns part text × Adds old new text
GenEnds seed shards txns part old new (Err Memory) = new ≡ old
GenEnds seed shards txns part old new (Err Sink) = (text : List ℕ) × IsGenerated seed shards txns part text × AddsFront old new text
GenEnds seed shards txns part old new _ = ⊥

-- how the audit of these logs ends, whose files have these names
abbrev pub AuditEnds : Plan → List Log → (names : List (List ℕ)) → (old new : Option (List ℕ)) → Result Unit Fault → Type 0
AuditEnds plan logs names old new (Ok done) =
    HaveNoGap plan logs × (order : List TxnId) × (answered : ℕ) × IsVerdict plan logs (Judged (Yes order answered))
    × Adds old new (verdict_text names (Judged (Yes order answered)))
AuditEnds plan logs names old new (Err Refuted) =
    HaveNoGap plan logs × (verdict : Verdict) × IsVerdict plan logs verdict × (is_yes verdict ≡ false) × Adds old new (verdict_text names verdict)
AuditEnds plan logs names old new (Err Sink) = HaveNoGap plan logs × (verdict : Verdict) × IsVerdict plan logs verdict × AddsFront old new (verdict_text names verdict)
AuditEnds plan logs names old new (Err (Gap shard)) = IsGap plan logs shard × (new ≡ old)
AuditEnds plan logs names old new (Err Memory) = new ≡ old
AuditEnds plan logs names old new _ = ⊥

-- ---- any command

-- the words are refused, before anything is written
abbrev pub RefusesWords : RunCall → (line : List ℕ) → Type 0
RefusesWords call line = TakesNothing call × AreRefusedWords call line

-- what each fault means that does not come of running nodes
abbrev pub Fails : RunCall → Fault → Type 0
Fails call Rejected = Rejects call
Fails call (Refused text) = RefusesWords call (line_of (Refused text))
Fails call (Value name) = RefusesWords call (line_of (Value name))
Fails call NoShard = RefusesWords call (line_of NoShard)
Fails call Memory = RunsOut call
Fails call Unanswered = ⊥
Fails call (File file) = IsUnread call file.now
Fails call Sink = CutsOutput call
Fails call Link = ⊥
Fails call (Child shard status) = ⊥
Fails call (Journal file) = ⊥
Fails call (Disk file) = ⊥
Fails call (Full file) = ⊥
Fails call (Book file) = ⊥
Fails call Refuted = Refutes call
Fails call fault = IsRefused call (line_of fault)

abbrev pub Ends : RunCall → Result Unit Fault → Type 0
Ends call (Ok done) = Replays call ⊎ (Prints call ⊎ (Checks call ⊎ (Generates call ⊎ Audits call)))
Ends call (Err fault) = Fails call fault

-- how any command ends: without nodes or before these ran, or with them
abbrev pub WholeEnds : WholeCall → Result Unit Fault → Type 0
WholeEnds call result = Ends call.run result ⊎ LoopEnded (AreNodesEnded call) (IsChildBlamed call) result

-- what refused words are told as
abbrev pub fault_of_words : WordsFault → Fault
fault_of_words (words_fault.Refused text) = Refused text
fault_of_words (words_fault.Value name) = Value name
fault_of_words words_fault.NoMemory = Memory
