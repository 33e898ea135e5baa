-- What stopped a command on the way, and what standard output took before: docs/FORMATS.md, "The program"
use Rattle.std.specs.Prelude.{◌≡◌, ℕ, List, [], ◌∷◌, Option, Some}
use Rattle.roc_io.specs.declared.link.Addr.{Addr}
use Rattle.roc_io.specs.Observed.{Adds, AddsFront}
use Rattle.roc_lang.specs.Syntax.{Tree}
use Rattle.roc_lang_print.specs.Canonical.{canonical}
use Rattle.roc_program.specs.Program.{Workload}
use Rattle.roc_plan.specs.Groups.{Plan}
use Rattle.roc_epoch.specs.declared.next.Next.{Next}
use Rattle.roc_log.specs.declared.line.Log.{Log}
use Rattle.roc_auditor.specs.declared.verdict.Verdict.{Verdict}
use Rattle.roc_auditor.specs.Verdict.{IsVerdict}
use Rattle.roc_auditor.specs.VerdictText.{verdict_text}
use Rattle.roc_report.specs.Checked.{CheckedLine, checked_text}
use Rattle.roc_replay.specs.Ended.{IsCut, IsUnfinished}
use Rattle.roc_cli_nodes.specs.Call.{RunCall, TakesNothing}
use Rattle.roc_cli_words.specs.declared.value.Part.{Part}
use Rattle.roc_cli_nodes.specs.Words.{IsReplay, IsPrint, IsCheck, IsGen, NamesWorkload, NamesNodeFiles}
use Rattle.roc_cli_files.specs.Held.{NodeFiles, HoldsPlan, HoldsText, HoldsRejected, HoldsCluster}
use Rattle.roc_cli.specs.Done.{IsReplayOf, ComesToNext, ComesToLater, ComesToWorkload, IsGenerated}
use Rattle.roc_cli.specs.Audited.{ComesToLog, IsAuditOf}
use Rattle.roc_cli_files.specs.Input.{check_text}

-- the name is that of a file that is to be read: the workload; the schedule, the cluster file or the first log where the workload has a plan; the requests
-- where the cluster file is one of the workload; a further log where those before it are logs; the workload to grow to, and the requests to submit
-- then, where all before is right
pub data IsInput (call : RunCall) (name : List ℕ) : Type 0 where
  the_workload : NamesWorkload call.words name → IsInput call name
  the_schedule : (workload : List ℕ) (growth : Option (List ℕ × ℕ)) (plan : Plan) → IsReplay call.words workload name growth → HoldsPlan call.files.content workload plan → IsInput call name
  the_next : (plan : Plan) → ComesToNext call name plan → IsInput call name
  the_later : (plan : Plan) (next : Option Next) → ComesToLater call name plan next → IsInput call name
  the_cluster : (files : NodeFiles) (plan : Plan) → NamesNodeFiles call.words files → HoldsPlan call.files.content files.workload plan → files.cluster ≡ name → IsInput call name
  the_requests : (files : NodeFiles) (plan : Plan) (addrs : List Addr) → NamesNodeFiles call.words files → HoldsPlan call.files.content files.workload plan
      → HoldsCluster call.files.content files.cluster plan.program.shards addrs → files.requests ≡ Some name → IsInput call name
  the_log : (plan : Plan) (logs : List Log) → ComesToLog call name plan logs → IsInput call name

-- the file of this name could not be read, and no other read failed; standard output took nothing
pub record IsUnread (call : RunCall) (name : List ℕ) : Type 0 where
  pub input : IsInput call name
  pub only : Adds call.files.failed_old call.files.failed_new (name ∷ [])
  pub untouched : TakesNothing call

-- memory ran out: standard output took nothing, or the whole text of some first lines of the named schedule
pub data RunsOut (call : RunCall) : Type 0 where
  with_nothing : TakesNothing call → RunsOut call
  with_lines : (plan : Plan) (next : Option Next) (bytes : List ℕ) → IsReplayOf call plan next bytes → IsUnfinished plan next bytes call.out.old call.out.new → RunsOut call

-- standard output failed at a text that was due, and took a front of it: of the named workload's canonical text, the text of its check or the
-- line that says why it, or one that is to come next, is not acceptable, of what was to be generated, of the verdict over the named logs, or of a next line's or the closing
-- lines' text in the report of the named schedule
pub data CutsOutput (call : RunCall) : Type 0 where
  in_report : (plan : Plan) (next : Option Next) (bytes : List ℕ) → IsReplayOf call plan next bytes → IsCut plan next bytes call.out.old call.out.new → CutsOutput call
  in_text : (workload : List ℕ) (tree : Tree) → IsPrint call.words workload → HoldsText call.files.content workload tree
      → AddsFront call.out.old call.out.new (canonical tree) → CutsOutput call
  in_check : (workload : List ℕ) (plan : Plan) → IsCheck call.words workload → HoldsPlan call.files.content workload plan
      → AddsFront call.out.old call.out.new (check_text plan) → CutsOutput call
  in_rejection : (workload : List ℕ) (program : Workload) (said : CheckedLine) → ComesToWorkload call workload → HoldsRejected call.files.content workload program said
      → AddsFront call.out.old call.out.new (checked_text program said) → CutsOutput call
  in_generated : (seed shards txns : ℕ) (part : Part) (text : List ℕ) → IsGen call.words seed shards txns part → IsGenerated seed shards txns part text
      → AddsFront call.out.old call.out.new text → CutsOutput call
  in_verdict : (plan : Plan) (logs : List Log) (asked : IsAuditOf call plan logs) (verdict : Verdict) → IsVerdict plan logs verdict
      → AddsFront call.out.old call.out.new (verdict_text asked.names verdict) → CutsOutput call
