-- What each status of `run` says: docs/FORMATS.md, "The program"
use Rattle.std.specs.Prelude.{◌≡◌, ◌≤◌, ◌⊎◌, ℕ, List, [], ◌∷◌, Option, codes}
use Rattle.roc_node_serve.specs.declared.ends.ServeEnd.TheVariants as serve_end
use Rattle.roc_node_submit.specs.declared.ends.SubmitEnd.TheVariants as submit_end
use Rattle.roc_cli_nodes.specs.NodeEnds as nodes_end
use Rattle.roc_base.specs.declared.node.Shard.{Shard}
use Rattle.roc_node_local.specs.declared.stops.StopEnd.TheVariants as stop_end
use Rattle.roc_node_local.specs.declared.local.LocalEnd.TheVariants as local_end
use Rattle.roc_cli_nodes.specs.Call.{WholeCall, TakesNothing, ReadsAll}
use Rattle.roc_cli_files.specs.Says.{Errors, Says, word_line, journal_line, file_line, child_line, disk_line, full_line, book_line}
use Rattle.roc_cli_nodes.specs.Words.{AreReplayWords, ArePrintWords, AreCheckWords, AreGenWords, AreAuditWords, AreServeWords, AreSubmitWords, AreStopWords, AreLocalWords}
use Rattle.roc_cli_nodes.specs.Words.{AreCommandWords, NamesJournal, NamesLog, NamesNodes}
use Rattle.roc_cli.specs.Done.{Replays, Prints, Checks, Generates, Rejects}
use Rattle.roc_cli_nodes.specs.Nodes.{ServeEnded, GrownServeEnded, SubmitEnded, GrownSubmitEnded, StopEnded, LocalEnded, AreNodesEnded, IsServedWith, IsBookBlamed, IsChildBlamed, BlamesAnyChild}
use Rattle.roc_cli.specs.Audited.{Audits, Refutes}
use Rattle.roc_cli.specs.Fit.{IsFit, AuditFits, NodesFit, MissesShard}
use Rattle.roc_cli.specs.Honest.{HonestFits}
use Rattle.roc_cli.specs.Unfit.{LacksPlan, LacksWorkload, LacksSchedule, LacksCluster, LacksRequests, HasFaultyFile, LacksLogs}
use Rattle.roc_cli.specs.Refused.{AreRefusedWords, IsRefused, RefusesJournal}
use Rattle.roc_cli.specs.Stopped.{IsUnread, RunsOut, CutsOutput}

-- the status is one of these
abbrev pub IsOneOf : List ℕ → (status : ℕ) → Type 0
IsOneOf [] status = ⊥
IsOneOf (s ∷ statuses) status = (status ≡ s) ⊎ IsOneOf statuses status

-- what the call did, by the status with which it answers
pub record Answers (call : WholeCall) (err : Errors) (status : ℕ) : Type 0 where
  pub statuses : status ≤ 13
  -- 0: the schedule was replayed, and its report was written, which explains itself: every reply that it shows is the one that the serial order
  -- which it shows gives, in real-time order; and where a workload is named to grow to, it is a grown one, and nothing of it stands there before anything of
  -- the first
  pub replayed : status ≡ 0 → AreReplayWords call.run.words → Replays call.run
  -- ..or the workload's canonical text was written, or the text of its check, which is acceptable
  pub printed : status ≡ 0 → ArePrintWords call.run.words → Prints call.run
  pub checked : status ≡ 0 → AreCheckWords call.run.words → Checks call.run
  -- ..or what was to be generated was written
  pub generated : status ≡ 0 → AreGenWords call.run.words → Generates call.run
  -- ..or the order was written that explains all that the named logs tell
  pub audited : status ≡ 0 → AreAuditWords call.run.words → Audits call.run
  -- ..or the shard was served to the end, or each request has its reply; by a node that may go over to a grown workload with another tag, where one is named
  pub served : status ≡ 0 → AreServeWords call.run.words
      → ServeEnded call.run call.link call.disk call.book serve_end.Done ⊎ GrownServeEnded call.run call.link serve_end.Done
  pub submitted : status ≡ 0 → AreSubmitWords call.run.words → SubmitEnded call.run call.link call.book submit_end.Done ⊎ GrownSubmitEnded call.run call.link submit_end.Done
  -- ..or the stops were sent
  pub stopped : status ≡ 0 → AreStopWords call.run.words → StopEnded call.run call.link stop_end.Done
  -- ..or servers were started, each request has its reply, and the servers ended well
  pub ran : status ≡ 0 → AreLocalWords call.run.words → LocalEnded call.run call.link call.children local_end.Done
  pub childless : status ≡ 0 → call.children.faults_new ≡ call.children.faults_old
  -- a command whose words and files fit is done, unless memory, a file or standard output failed it
  pub complete : IsFit call.run → IsOneOf (0 ∷ 4 ∷ 6 ∷ 7 ∷ []) status
  -- ..and so is an audit, or finds that the logs are not explained
  pub complete_audit : AuditFits call.run → IsOneOf (0 ∷ 4 ∷ 6 ∷ 7 ∷ 12 ∷ []) status
  -- ..which it does not find of the logs of all nodes of one run: one order explains these. Nothing is said of runs in which a server stops and starts again
  -- or a view is submitted, of logs that are cut or longer than an audit takes, and of the memory that it needs
  pub honest : HonestFits call.run → IsOneOf (0 ∷ 4 ∷ 6 ∷ 7 ∷ []) status
  -- ..and one with nodes is done, or as far as its turns led, unless the link failed it too, or its journal did or is refused
  pub complete_nodes : NodesFit call.run → (status ≡ 0) ⊎ ((4 ≤ status) ⊎ ((name : List ℕ) × RefusesJournal call name))
  -- 1: exactly where the workload is not acceptable, or one to grow to once what is read before is right, unless memory, a file or standard output failed it;
  -- and the line that says why was written
  pub rejected : status ≡ 1 → Rejects call.run
  pub no_plan : LacksPlan call.run → IsOneOf (1 ∷ 4 ∷ 6 ∷ 7 ∷ []) status
  -- 2: exactly where the words are not those of a command, or the files are right and the words ask for a shard that the workload lacks, unless memory or
  -- the reading of a file failed it before
  pub no_words : status ≡ 2 → TakesNothing call.run × (line : List ℕ) × AreRefusedWords call.run line × Says err line
  pub words : (AreCommandWords call.run.words → ⊥) → IsOneOf (2 ∷ 4 ∷ []) status
  pub no_shard : MissesShard call.run → IsOneOf (2 ∷ 4 ∷ 6 ∷ []) status
  -- 3: a file is too long, no text of its grammar, out of scope, or does not fit the plan or the run; a workload is no grown one, or nodes could not tell it
  -- from the first; a shard has no log; or a journal is refused. Exactly so for the workload of any command, one to grow to once what is read before is right,
  -- the schedule of a replay, the cluster file and the request files of a command with nodes and the logs of an audit, unless memory or a file failed it before,
  -- or standard output at the lines before that of a message that was not sent. Of a cluster file and of a request file it is the first fault that is said
  pub refused : status ≡ 3 → ((line : List ℕ) × IsRefused call.run line × Says err line) ⊎ ((name : List ℕ) × RefusesJournal call name × Says err (journal_line name))
  pub no_workload : LacksWorkload call.run → IsOneOf (3 ∷ 4 ∷ 6 ∷ []) status
  pub no_schedule : LacksSchedule call.run → IsOneOf (3 ∷ 4 ∷ 6 ∷ 7 ∷ []) status
  pub no_cluster : LacksCluster call.run → IsOneOf (3 ∷ 4 ∷ 6 ∷ []) status
  pub no_requests : LacksRequests call.run → IsOneOf (3 ∷ 4 ∷ 6 ∷ []) status
  pub faulty : (line : List ℕ) → HasFaultyFile call.run line → IsOneOf (3 ∷ 4 ∷ 6 ∷ []) status × (status ≡ 3 → Says err line)
  pub no_logs : LacksLogs call.run → IsOneOf (3 ∷ 4 ∷ 6 ∷ []) status
  -- 4: no memory, if only for the line of status 3 or 9
  pub memory : status ≡ 4 → (RunsOut call.run ⊎ (AreNodesEnded call nodes_end.NoMemory ⊎ BlamesAnyChild call)) × Says err (word_line (codes "memory"))
  -- 5: all turns were taken, and a request is unanswered or was not submitted
  pub unanswered : status ≡ 5 → AreNodesEnded call nodes_end.Unanswered
  -- 6: a file could not be read; at any other status no read failed
  pub unread : status ≡ 6 → (name : List ℕ) × IsUnread call.run name × Says err (file_line name)
  pub read : (status ≡ 6 → ⊥) → ReadsAll call.run
  -- 7: what was due could not be written
  pub cut : status ≡ 7 → (CutsOutput call.run ⊎ AreNodesEnded call nodes_end.SinkFault) × Says err (word_line (codes "sink"))
  -- 8: the link could not be bound, or a receive failed
  pub cut_off : status ≡ 8 → AreNodesEnded call nodes_end.LinkFault × Says err (word_line (codes "link"))
  -- 9: a server that was started as a child could not be started or awaited, or ended with another status than 0
  pub child : status ≡ 9 → (shard : Shard) × (own : Option ℕ) × IsChildBlamed call shard own × Says err (child_line shard.0 own)
  -- 10: a call of the disk failed, on which the named journal is
  pub disk : status ≡ 10 → (name : List ℕ) × IsServedWith call name serve_end.Disk × Says err (disk_line name)
  -- 11: the named journal has no room for a message that came
  pub full : status ≡ 11 → (name : List ℕ) × IsServedWith call name serve_end.Full × Says err (full_line name)
  -- 12: what is wrong was written of what the named logs tell
  pub refuted : status ≡ 12 → Refutes call.run
  -- 13: the book of the named log failed
  pub unlogged : status ≡ 13 → (name : List ℕ) × IsBookBlamed call name × Says err (book_line name)

-- the words are not those of a command with nodes, or it ended before any of these ran
abbrev pub IsQuiet : List (List ℕ) → (status : ℕ) → Type 0
IsQuiet words status = (NamesNodes words → ⊥) ⊎ IsOneOf (1 ∷ 2 ∷ 3 ∷ 6 ∷ 12 ∷ []) status

-- the words name no journal, or the command ended before any was opened
abbrev pub IsUnkept : List (List ℕ) → (status : ℕ) → Type 0
IsUnkept words status = ((name : List ℕ) → NamesJournal words name → ⊥) ⊎ IsOneOf (1 ∷ 2 ∷ 6 ∷ []) status

-- the words name no log to keep, or the command ended before any book was opened
abbrev pub IsUnlogged : List (List ℕ) → (status : ℕ) → Type 0
IsUnlogged words status = ((name : List ℕ) → NamesLog words name → ⊥) ⊎ IsOneOf (1 ∷ 2 ∷ 3 ∷ 6 ∷ 12 ∷ []) status
