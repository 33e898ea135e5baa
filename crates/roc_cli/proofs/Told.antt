-- What the status says, where a fault was told
use Rattle.std.proofs.Common.{◌≡◌, ◌⊎◌, inl, inr, ℕ, ◌≤◌, List, Option, codes, refl, sym, subst, ◌∙◌, arith, [], ◌∷◌, Err}
use Rattle.roc_replay.specs.Ended.{no_schedule, unfit, unsent, behind_lines}
use Rattle.roc_node_serve.specs.declared.ends.ServeEnd.TheVariants as serve_end
use Rattle.roc_node_submit.specs.declared.ends.SubmitEnd.TheVariants as submit_end
use Rattle.roc_cli_nodes.specs.NodeEnds as nodes_end
use Rattle.roc_base.specs.declared.node.Shard.{Shard}
use Rattle.roc_node_local.specs.declared.stops.StopEnd.TheVariants as stop_end
use Rattle.roc_node_local.specs.declared.local.LocalEnd.TheVariants as local_end
use Rattle.roc_cli_files.specs.declared.fault.Fault.{Fault}
use Rattle.roc_cli_files.specs.declared.fault.Fault.TheVariants.{Rejected, Refused, Value, NoShard, Growth, Same, Journal, Memory, Unanswered, File, Sink, Link, Child, Disk, Full, Refuted, Book}
use Rattle.roc_cli_nodes.specs.Call.{RunCall, WholeCall, TakesNothing, ReadsAll}
use Rattle.roc_cli_files.specs.Says.{Errors, Says, word_line, journal_line, file_line, child_line, disk_line, full_line, book_line}
use Rattle.roc_cli_nodes.specs.Words.{AreReplayWords, ArePrintWords, AreCheckWords, AreGenWords, AreAuditWords, AreServeWords, AreSubmitWords, AreStopWords, AreLocalWords, AreCommandWords, NamesNodes}
use Rattle.roc_cli.specs.Done.{Replays, Prints, Checks, Generates, Rejects}
use Rattle.roc_cli.specs.Audited.{Audits, Refutes}
use Rattle.roc_cli.specs.Fit.{IsFit}
use Rattle.roc_cli_nodes.specs.Nodes.{ServeEnded, GrownServeEnded, SubmitEnded, GrownSubmitEnded, StopEnded, LocalEnded, AreNodesEnded, IsServedWith, IsBookBlamed, IsChildBlamed, BlamesAnyChild}
use Rattle.roc_cli.specs.Stopped.{IsUnread, RunsOut, with_nothing, with_lines, CutsOutput}
use Rattle.roc_cli.specs.Refused.{AreRefusedWords, IsRefused, RefusesJournal, long_workload, no_text, out_of_scope, long_schedule, bad_next, bad_schedule, long_cluster, bad_cluster}
use Rattle.roc_cli.specs.Refused.{long_requests, bad_requests, bad_logs}
use Rattle.roc_cli.specs.Status.{IsOneOf, Answers}
use Rattle.roc_cli.specs.Inner.Faultless.{IsFaultless, IsShardless, IsUndone, IsUnplanned, IsUnwritten, IsSaidBy, IsUnplayed, IsAuditable, IsExplicable, AreFitting}
use Rattle.roc_cli_files.specs.Fault.{IsTold, EndsWith, line_of, Blames}
use Rattle.roc_cli.specs.Inner.Ends.{RefusesWords, Fails, WholeEnds}
use Rattle.roc_cli_nodes.specs.Ends.{LoopEnded}
use Rattle.roc_cli_nodes.proofs.Named.{nodes_named, child_named, nodes_words, ended_by_journal, keeper_ended, keeper_named, keeper_words, logger_ended}
use Rattle.roc_cli.proofs.Commands.{judged_words, refused_words, input_words, cut_words, audit_words, refuted_words, fit_names_no_nodes, fit_names_no_logs}

-- ---- one fault, told

module _ (call : RunCall) where
  -- where a file is refused, and there is no memory to say so, memory ran out
  refused_out : (line : List ℕ) → IsRefused call line → RunsOut call
  refused_out _ (long_workload workload names more same) = with_nothing same
  refused_out _ (no_text workload line what names held same) = with_nothing same
  refused_out _ (out_of_scope workload fault names held same) = with_nothing same
  refused_out _ (long_schedule workload schedule growth plan given planned more same) = with_nothing same
  refused_out _ (bad_next line refused same) = with_nothing same
  refused_out _ (bad_schedule plan next bytes asked number what (no_schedule fault same)) = with_nothing same
  refused_out _ (bad_schedule plan next bytes asked number what (unfit fault same)) = with_nothing same
  refused_out _ (bad_schedule plan next bytes asked number what (unsent is h)) =
      with_lines plan next bytes asked (behind_lines h.before (h.line ∷ h.behind) h.steps h.world h.of_schedule h.played h.taken)
  refused_out _ (long_cluster files plan names planned more same) = with_nothing same
  refused_out _ (bad_cluster files plan fault names planned held same) = with_nothing same
  refused_out _ (long_requests files plan addrs name names planned held is more same) = with_nothing same
  refused_out _ (bad_requests files plan addrs name number what names planned held is not same) = with_nothing same
  refused_out _ (bad_logs line refused same) = with_nothing same

-- what a call failed by, with its status and the line on standard error: one rule for each status
data IsFailure (call : WholeCall) : (status : ℕ) → (line : List ℕ) → Type 0 where
  rejected : Rejects call.run → ReadsAll call.run → IsFailure call 1 (line_of Rejected)
  no_words : (line : List ℕ) → RefusesWords call.run line → ReadsAll call.run → IsFailure call 2 line
  refused : (line : List ℕ) → IsRefused call.run line → ReadsAll call.run → IsFailure call 3 line
  memory : RunsOut call.run ⊎ (AreNodesEnded call nodes_end.NoMemory ⊎ BlamesAnyChild call) → ReadsAll call.run → IsFailure call 4 (word_line (codes "memory"))
  unanswered : AreNodesEnded call nodes_end.Unanswered → ReadsAll call.run → IsFailure call 5 (line_of Unanswered)
  no_journal : (name : List ℕ) → RefusesJournal call name → ReadsAll call.run → IsFailure call 3 (journal_line name)
  disk : (name : List ℕ) → IsServedWith call name serve_end.Disk → ReadsAll call.run → IsFailure call 10 (disk_line name)
  full : (name : List ℕ) → IsServedWith call name serve_end.Full → ReadsAll call.run → IsFailure call 11 (full_line name)
  unread : (name : List ℕ) → IsUnread call.run name → IsFailure call 6 (file_line name)
  cut : CutsOutput call.run ⊎ AreNodesEnded call nodes_end.SinkFault → ReadsAll call.run → IsFailure call 7 (word_line (codes "sink"))
  cut_off : AreNodesEnded call nodes_end.LinkFault → ReadsAll call.run → IsFailure call 8 (word_line (codes "link"))
  child : (shard : Shard) (own : Option ℕ) → IsChildBlamed call shard own → ReadsAll call.run → IsFailure call 9 (child_line shard.0 own)
  refuted : Refutes call.run → ReadsAll call.run → IsFailure call 12 (line_of Refuted)
  book : (name : List ℕ) → IsBookBlamed call name → ReadsAll call.run → IsFailure call 13 (book_line name)

-- a failure that was said, but for that of status 1, 5 or 12, which is not said on standard error
abbrev SaysUnlessSilent : Errors → (status : ℕ) → (line : List ℕ) → Type 0
SaysUnlessSilent err status line = (status ≡ 1 → ⊥) → (status ≡ 5 → ⊥) → (status ≡ 12 → ⊥) → Says err line

record IsSaid (call : WholeCall) (err : Errors) (status : ℕ) : Type 0 where
  line : List ℕ
  is : IsFailure call status line
  says : SaysUnlessSilent err status line

module _ (call : WholeCall) (err : Errors) where
  ended : (status n : ℕ) (line : List ℕ) → status ≡ n → Says err line → IsFailure call n line → IsSaid call err status
  ended status n line e says is = record { line = line; is = subst (λ (m : ℕ). IsFailure call m line) (sym e) is; says = λ _ _ _. says }

  -- one that is not said on standard error
  silent : (status n : ℕ) (line : List ℕ) → status ≡ n → (n ≡ 1) ⊎ ((n ≡ 5) ⊎ (n ≡ 12)) → IsFailure call n line → IsSaid call err status
  silent status n line e among is = record { line = line; is = subst (λ (m : ℕ). IsFailure call m line) (sym e) is; says = none among }
    where
      none : (n ≡ 1) ⊎ ((n ≡ 5) ⊎ (n ≡ 12)) → SaysUnlessSilent err status line
      none (inl f) one five twelve = absurd (one (e ∙ f))
      none (inr (inl f)) one five twelve = absurd (five (e ∙ f))
      none (inr (inr f)) one five twelve = absurd (twelve (e ∙ f))

  -- a refused file, told, if only as want of memory
  said_refused : (status : ℕ) (line : List ℕ) → IsRefused call.run line → ReadsAll call.run → EndsWith 3 line status err ⊎ EndsWith 4 (line_of Memory) status err → IsSaid call err status
  said_refused status line h read (inl (e, says)) = ended status 3 line e says (refused line h read)
  said_refused status line h read (inr (e, says)) = ended status 4 (line_of Memory) e says (memory (inl (refused_out call.run line h)) read)

  -- each fault, told: one that comes without nodes, and one that comes of them
  said : (fault : Fault) (status : ℕ) → Fails call.run fault → Blames call.run.files.failed_old call.run.files.failed_new fault → IsTold fault status err → IsSaid call err status
  said Rejected status h read e = silent status 1 (line_of Rejected) e (inl refl) (rejected h read)
  said (Refused text) status none read (e, says) = ended status 2 (line_of (Refused text)) e says (no_words (line_of (Refused text)) none read)
  said (Value name) status none read (e, says) = ended status 2 (line_of (Value name)) e says (no_words (line_of (Value name)) none read)
  said NoShard status none read (e, says) = ended status 2 (line_of NoShard) e says (no_words (line_of NoShard) none read)
  said (Growth file fault) status h read (e, says) = ended status 3 (line_of (Growth file fault)) e says (refused (line_of (Growth file fault)) h read)
  said (Same file) status h read (e, says) = ended status 3 (line_of (Same file)) e says (refused (line_of (Same file)) h read)
  said Memory status h read (e, says) = ended status 4 (line_of Memory) e says (memory (inl h) read)
  said Unanswered status h read told = absurd h
  said (File file) status h only (e, says) = ended status 6 (line_of (File file)) e says (unread file.now h)
  said Sink status h read (e, says) = ended status 7 (line_of Sink) e says (cut (inl h) read)
  said Link status h read told = absurd h
  said (Child shard own) status h read told = absurd h
  said (Journal file) status h read told = absurd h
  said (Disk file) status h read told = absurd h
  said (Full file) status h read told = absurd h
  said (Book file) status h read told = absurd h
  said Refuted status h read e = silent status 12 (line_of Refuted) e (inr (inr refl)) (refuted h read)
  said fault status h read told = said_refused status (line_of fault) h read told

  said_child : (status : ℕ) (shard : Shard) (own : Option ℕ) → IsChildBlamed call shard own → ReadsAll call.run
      → EndsWith 9 (line_of (Child shard own)) status err ⊎ EndsWith 4 (line_of Memory) status err → IsSaid call err status
  said_child status shard own h read (inl (e, says)) = ended status 9 (line_of (Child shard own)) e says (child shard own h read)
  said_child status shard own h read (inr (e, says)) = ended status 4 (line_of Memory) e says (memory (inr (inr (shard, own, h))) read)

  said_of_nodes : (fault : Fault) (status : ℕ) → LoopEnded (AreNodesEnded call) (IsChildBlamed call) (Err fault) → Blames call.run.files.failed_old call.run.files.failed_new fault → IsTold fault status err → IsSaid call err status
  said_of_nodes Memory status h read (e, says) = ended status 4 (line_of Memory) e says (memory (inr (inl h)) read)
  said_of_nodes Unanswered status h read e = silent status 5 (line_of Unanswered) e (inr (inl refl)) (unanswered h read)
  said_of_nodes Sink status h read (e, says) = ended status 7 (line_of Sink) e says (cut (inr h) read)
  said_of_nodes Link status h read (e, says) = ended status 8 (line_of Link) e says (cut_off h read)
  said_of_nodes (Child shard own) status h read told = said_child status shard own h read told
  said_of_nodes (Journal file) status h read (e, says) =
      ended status 3 (line_of (Journal file)) e says (no_journal file.now (ended_by_journal call (nodes_end.Journal file.now) h) read)
  said_of_nodes (Disk file) status h read (e, says) = ended status 10 (line_of (Disk file)) e says (disk file.now (ended_by_journal call (nodes_end.DiskFault file.now) h) read)
  said_of_nodes (Full file) status h read (e, says) = ended status 11 (line_of (Full file)) e says (full file.now (ended_by_journal call (nodes_end.Full file.now) h) read)
  said_of_nodes (Book file) status h read (e, says) = ended status 13 (line_of (Book file)) e says (book file.now (ended_by_journal call (nodes_end.BookFault file.now) h) read)
  said_of_nodes _ status h blames told = absurd h

  said_whole : (fault : Fault) (status : ℕ) → WholeEnds call (Err fault) → Blames call.run.files.failed_old call.run.files.failed_new fault → IsTold fault status err → IsSaid call err status
  said_whole fault status (inl h) blames told = said fault status h blames told
  said_whole fault status (inr h) blames told = said_of_nodes fault status h blames told

  -- ---- what each status says of a failure

  at_most : (status : ℕ) (line : List ℕ) → IsFailure call status line → status ≤ 13
  at_most _ _ (rejected h read) = omega arith
  at_most _ _ (no_words said none read) = omega arith
  at_most _ _ (refused line h read) = omega arith
  at_most _ _ (memory h read) = omega arith
  at_most _ _ (unanswered h read) = omega arith
  at_most _ _ (unread name h) = omega arith
  at_most _ _ (cut h read) = omega arith
  at_most _ _ (cut_off h read) = omega arith
  at_most _ _ (child shard own h read) = omega arith
  at_most _ _ (no_journal name h read) = omega arith
  at_most _ _ (disk name h read) = omega arith
  at_most _ _ (full name h read) = omega arith
  at_most _ _ (refuted h read) = omega arith
  at_most _ _ (book name h read) = omega arith

  not_done : (A : Type 0) (status : ℕ) (line : List ℕ) → IsFailure call status line → status ≡ 0 → A
  not_done A _ _ (no_words said none read) e = absurd (omega arith)
  not_done A _ _ _ e = absurd (omega arith)

  -- where nothing is wrong with the call, the statuses that may come, and what may be refuted
  at_fitting : (allowed : List ℕ) (status : ℕ) (line : List ℕ) → IsFailure call status line → (NamesNodes call.run.words → ⊥) → IsFaultless call.run
      → IsOneOf allowed 4 → IsOneOf allowed 6 → IsOneOf allowed 7 → (Refutes call.run → IsOneOf allowed 12) → IsOneOf allowed status
  at_fitting allowed _ _ (rejected h read) none is four six seven twelve = absurd (is.acceptable h)
  at_fitting allowed _ _ (no_words said refuses read) none is four six seven twelve = absurd (is.taken said refuses.1)
  at_fitting allowed _ _ (refused line h read) none is four six seven twelve = absurd (is.right line h)
  at_fitting allowed _ _ (memory h read) none is four six seven twelve = four
  at_fitting allowed _ _ (unanswered h read) none is four six seven twelve = absurd (none (nodes_named call nodes_end.Unanswered h))
  at_fitting allowed _ _ (unread name h) none is four six seven twelve = six
  at_fitting allowed _ _ (cut h read) none is four six seven twelve = seven
  at_fitting allowed _ _ (cut_off h read) none is four six seven twelve = absurd (none (nodes_named call nodes_end.LinkFault h))
  at_fitting allowed _ _ (child shard own h read) none is four six seven twelve = absurd (none (child_named call shard own h))
  at_fitting allowed _ _ (no_journal name h read) none is four six seven twelve = absurd (none (keeper_named call name (serve_end.Journal h.0) h.1))
  at_fitting allowed _ _ (disk name h read) none is four six seven twelve = absurd (none (keeper_named call name serve_end.Disk h))
  at_fitting allowed _ _ (full name h read) none is four six seven twelve = absurd (none (keeper_named call name serve_end.Full h))
  at_fitting allowed _ _ (refuted h read) none is four six seven twelve = twelve h
  at_fitting allowed _ _ (book name h read) none is four six seven twelve = absurd (none (let end = logger_ended call name h in nodes_named call end.0 end.1))

  at_alone : (status : ℕ) (line : List ℕ) → IsFailure call status line → IsFit call.run → IsFaultless call.run → IsOneOf (0 ∷ 4 ∷ 6 ∷ 7 ∷ []) status
  at_alone status line h fit is =
      at_fitting (0 ∷ 4 ∷ 6 ∷ 7 ∷ []) status line h (fit_names_no_nodes call.run fit) is (inr (inl refl)) (inr (inr (inl refl))) (inr (inr (inr (inl refl))))
      (λ r. absurd (fit_names_no_logs call.run fit (refuted_words call.run r)))

  at_audit : (status : ℕ) (line : List ℕ) → IsFailure call status line → IsAuditable call.run → IsOneOf (0 ∷ 4 ∷ 6 ∷ 7 ∷ 12 ∷ []) status
  at_audit status line h fit =
      at_fitting (0 ∷ 4 ∷ 6 ∷ 7 ∷ 12 ∷ []) status line h fit.alone fit.is (inr (inl refl)) (inr (inr (inl refl))) (inr (inr (inr (inl refl)))) (λ r. inr (inr (inr (inr (inl refl)))))

  at_honest : (status : ℕ) (line : List ℕ) → IsFailure call status line → IsExplicable call.run → IsOneOf (0 ∷ 4 ∷ 6 ∷ 7 ∷ []) status
  at_honest status line h fit =
      at_fitting (0 ∷ 4 ∷ 6 ∷ 7 ∷ []) status line h fit.is.alone fit.is.is (inr (inl refl)) (inr (inr (inl refl))) (inr (inr (inr (inl refl)))) (λ r. absurd (fit.unrefuted r))

  at_fitting_nodes : (status : ℕ) (line : List ℕ) → IsFailure call status line → IsFaultless call.run → (status ≡ 0) ⊎ ((4 ≤ status) ⊎ ((name : List ℕ) × RefusesJournal call name))
  at_fitting_nodes _ _ (rejected h read) is = absurd (is.acceptable h)
  at_fitting_nodes _ _ (no_words said refuses read) is = absurd (is.taken said refuses.1)
  at_fitting_nodes _ _ (refused line h read) is = absurd (is.right line h)
  at_fitting_nodes _ _ (no_journal name h read) is = inr (inr (name, h))
  at_fitting_nodes _ _ (memory h read) is = inr (inl (omega arith))
  at_fitting_nodes _ _ (unanswered h read) is = inr (inl (omega arith))
  at_fitting_nodes _ _ (unread name h) is = inr (inl (omega arith))
  at_fitting_nodes _ _ (cut h read) is = inr (inl (omega arith))
  at_fitting_nodes _ _ (cut_off h read) is = inr (inl (omega arith))
  at_fitting_nodes _ _ (child shard own h read) is = inr (inl (omega arith))
  at_fitting_nodes _ _ (disk name h read) is = inr (inl (omega arith))
  at_fitting_nodes _ _ (full name h read) is = inr (inl (omega arith))
  at_fitting_nodes _ _ (refuted h read) is = inr (inl (omega arith))
  at_fitting_nodes _ _ (book name h read) is = inr (inl (omega arith))

  at_rejected : (status : ℕ) (line : List ℕ) → IsFailure call status line → status ≡ 1 → Rejects call.run
  at_rejected _ _ (rejected h read) e = h
  at_rejected _ _ _ e = absurd (omega arith)

  at_words : (status : ℕ) (line : List ℕ) → IsFailure call status line → SaysUnlessSilent err status line → status ≡ 2
      → TakesNothing call.run × (said : List ℕ) × AreRefusedWords call.run said × Says err said
  at_words _ _ (no_words said none read) says e = (none.0, said, none.1, says (λ f. absurd (omega arith)) (λ f. absurd (omega arith)) (λ f. absurd (omega arith)))
  at_words _ _ _ says e = absurd (omega arith)

  at_refused : (status : ℕ) (line : List ℕ) → IsFailure call status line → SaysUnlessSilent err status line → status ≡ 3
      → ((said : List ℕ) × IsRefused call.run said × Says err said) ⊎ ((name : List ℕ) × RefusesJournal call name × Says err (journal_line name))
  at_refused _ _ (refused line h read) says e = inl (line, h, says (λ f. absurd (omega arith)) (λ f. absurd (omega arith)) (λ f. absurd (omega arith)))
  at_refused _ _ (no_journal name h read) says e = inr (name, h, says (λ f. absurd (omega arith)) (λ f. absurd (omega arith)) (λ f. absurd (omega arith)))
  at_refused _ _ _ says e = absurd (omega arith)

  at_memory : (status : ℕ) (line : List ℕ) → IsFailure call status line → SaysUnlessSilent err status line → status ≡ 4
      → (RunsOut call.run ⊎ (AreNodesEnded call nodes_end.NoMemory ⊎ BlamesAnyChild call)) × Says err (word_line (codes "memory"))
  at_memory _ _ (memory h read) says e = (h, says (λ f. absurd (omega arith)) (λ f. absurd (omega arith)) (λ f. absurd (omega arith)))
  at_memory _ _ _ says e = absurd (omega arith)

  at_unanswered : (status : ℕ) (line : List ℕ) → IsFailure call status line → status ≡ 5 → AreNodesEnded call nodes_end.Unanswered
  at_unanswered _ _ (unanswered h read) e = h
  at_unanswered _ _ _ e = absurd (omega arith)

  at_unread : (status : ℕ) (line : List ℕ) → IsFailure call status line → SaysUnlessSilent err status line → status ≡ 6 → (name : List ℕ) × IsUnread call.run name × Says err (file_line name)
  at_unread _ _ (unread name h) says e = (name, h, says (λ f. absurd (omega arith)) (λ f. absurd (omega arith)) (λ f. absurd (omega arith)))
  at_unread _ _ _ says e = absurd (omega arith)

  at_cut : (status : ℕ) (line : List ℕ) → IsFailure call status line → SaysUnlessSilent err status line → status ≡ 7
      → (CutsOutput call.run ⊎ AreNodesEnded call nodes_end.SinkFault) × Says err (word_line (codes "sink"))
  at_cut _ _ (cut h read) says e = (h, says (λ f. absurd (omega arith)) (λ f. absurd (omega arith)) (λ f. absurd (omega arith)))
  at_cut _ _ _ says e = absurd (omega arith)

  at_cut_off : (status : ℕ) (line : List ℕ) → IsFailure call status line → SaysUnlessSilent err status line → status ≡ 8 → AreNodesEnded call nodes_end.LinkFault × Says err (word_line (codes "link"))
  at_cut_off _ _ (cut_off h read) says e = (h, says (λ f. absurd (omega arith)) (λ f. absurd (omega arith)) (λ f. absurd (omega arith)))
  at_cut_off _ _ _ says e = absurd (omega arith)

  at_child : (status : ℕ) (line : List ℕ) → IsFailure call status line → SaysUnlessSilent err status line → status ≡ 9
      → (shard : Shard) × (own : Option ℕ) × IsChildBlamed call shard own × Says err (child_line shard.0 own)
  at_child _ _ (child shard own h read) says e = (shard, own, h, says (λ f. absurd (omega arith)) (λ f. absurd (omega arith)) (λ f. absurd (omega arith)))
  at_child _ _ _ says e = absurd (omega arith)

  at_disk : (status : ℕ) (line : List ℕ) → IsFailure call status line → SaysUnlessSilent err status line → status ≡ 10
      → (name : List ℕ) × IsServedWith call name serve_end.Disk × Says err (disk_line name)
  at_disk _ _ (disk name h read) says e = (name, h, says (λ f. absurd (omega arith)) (λ f. absurd (omega arith)) (λ f. absurd (omega arith)))
  at_disk _ _ _ says e = absurd (omega arith)

  at_full : (status : ℕ) (line : List ℕ) → IsFailure call status line → SaysUnlessSilent err status line → status ≡ 11
      → (name : List ℕ) × IsServedWith call name serve_end.Full × Says err (full_line name)
  at_full _ _ (full name h read) says e = (name, h, says (λ f. absurd (omega arith)) (λ f. absurd (omega arith)) (λ f. absurd (omega arith)))
  at_full _ _ _ says e = absurd (omega arith)

  at_refuted : (status : ℕ) (line : List ℕ) → IsFailure call status line → status ≡ 12 → Refutes call.run
  at_refuted _ _ (refuted h read) e = h
  at_refuted _ _ _ e = absurd (omega arith)

  at_book : (status : ℕ) (line : List ℕ) → IsFailure call status line → SaysUnlessSilent err status line → status ≡ 13 → (name : List ℕ) × IsBookBlamed call name × Says err (book_line name)
  at_book _ _ (book name h read) says e = (name, h, says (λ f. absurd (omega arith)) (λ f. absurd (omega arith)) (λ f. absurd (omega arith)))
  at_book _ _ _ says e = absurd (omega arith)

  at_others : (status : ℕ) (line : List ℕ) → IsFailure call status line → (status ≡ 6 → ⊥) → ReadsAll call.run
  at_others _ _ (rejected h read) other = read
  at_others _ _ (no_words said none read) other = read
  at_others _ _ (refused line h read) other = read
  at_others _ _ (memory h read) other = read
  at_others _ _ (unanswered h read) other = read
  at_others _ _ (unread name h) other = absurd (other refl)
  at_others _ _ (cut h read) other = read
  at_others _ _ (cut_off h read) other = read
  at_others _ _ (child shard own h read) other = read
  at_others _ _ (no_journal name h read) other = read
  at_others _ _ (disk name h read) other = read
  at_others _ _ (full name h read) other = read
  at_others _ _ (refuted h read) other = read
  at_others _ _ (book name h read) other = read

  -- words that are none of a command's: only refused words and want of memory
  of_words : (status : ℕ) (line : List ℕ) → IsFailure call status line → (AreCommandWords call.run.words → ⊥) → IsOneOf (2 ∷ 4 ∷ []) status
  of_words _ _ (rejected h read) none = absurd (none (judged_words call.run h.workload h.named))
  of_words _ _ (no_words said h read) none = inl refl
  of_words _ _ (refused line h read) none = absurd (none (refused_words call.run line h))
  of_words _ _ (memory h read) none = inr (inl refl)
  of_words _ _ (unanswered h read) none = absurd (none (nodes_words call nodes_end.Unanswered h))
  of_words _ _ (unread name h) none = absurd (none (input_words call.run name h.input))
  of_words _ _ (cut (inl h) read) none = absurd (none (cut_words call.run h))
  of_words _ _ (cut (inr h) read) none = absurd (none (nodes_words call nodes_end.SinkFault h))
  of_words _ _ (cut_off h read) none = absurd (none (nodes_words call nodes_end.LinkFault h))
  of_words _ _ (child shard own h read) none = let named = child_named call shard own h in absurd (none (named.1.0, named.1.1))
  of_words _ _ (no_journal name h read) none = absurd (none (keeper_words call name (serve_end.Journal h.0) h.1))
  of_words _ _ (disk name h read) none = absurd (none (keeper_words call name serve_end.Disk h))
  of_words _ _ (full name h read) none = absurd (none (keeper_words call name serve_end.Full h))
  of_words _ _ (refuted h read) none = absurd (none (audit_words call.run.words (refuted_words call.run h)))
  of_words _ _ (book name h read) none = let end = logger_ended call name h in absurd (none (nodes_words call end.0 end.1))

  -- a shard that the workload lacks
  of_missing : (status : ℕ) (line : List ℕ) → IsFailure call status line → IsShardless call → IsOneOf (2 ∷ 4 ∷ 6 ∷ []) status
  of_missing _ _ (rejected h read) is = absurd (is.acceptable h)
  of_missing _ _ (no_words said h read) is = inl refl
  of_missing _ _ (refused line h read) is = absurd (is.right line h)
  of_missing _ _ (memory h read) is = inr (inl refl)
  of_missing _ _ (unanswered h read) is = absurd (is.unrun nodes_end.Unanswered h)
  of_missing _ _ (unread name h) is = inr (inr (inl refl))
  of_missing _ _ (cut (inl h) read) is = absurd (is.uncut h)
  of_missing _ _ (cut (inr h) read) is = absurd (is.unrun nodes_end.SinkFault h)
  of_missing _ _ (cut_off h read) is = absurd (is.unrun nodes_end.LinkFault h)
  of_missing _ _ (child shard own h read) is = absurd (is.no_child shard own h)
  of_missing _ _ (no_journal name h read) is = absurd (is.unrun _ (keeper_ended call name (serve_end.Journal h.0) h.1))
  of_missing _ _ (disk name h read) is = absurd (is.unrun _ (keeper_ended call name serve_end.Disk h))
  of_missing _ _ (full name h read) is = absurd (is.unrun _ (keeper_ended call name serve_end.Full h))
  of_missing _ _ (refuted h read) is = absurd (is.unrefuted h)
  of_missing _ _ (book name h read) is = let end = logger_ended call name h in absurd (is.unrun end.0 end.1)

  -- where nothing was done, the statuses that may come of a workload that is rejected, of a file that is refused and of what could not be written
  of_undone : (allowed : List ℕ) (status : ℕ) (line : List ℕ) → IsFailure call status line → IsUndone call
      → (Rejects call.run → IsOneOf allowed 1) → ((said : List ℕ) → IsRefused call.run said → IsOneOf allowed 3) → (CutsOutput call.run → IsOneOf allowed 7)
      → IsOneOf allowed 4 → IsOneOf allowed 6 → IsOneOf allowed status
  of_undone allowed _ _ (rejected h read) is one three seven four six = one h
  of_undone allowed _ _ (no_words said h read) is one three seven four six = absurd (is.taken said h.1)
  of_undone allowed _ _ (refused line h read) is one three seven four six = three line h
  of_undone allowed _ _ (memory h read) is one three seven four six = four
  of_undone allowed _ _ (unanswered h read) is one three seven four six = absurd (is.unrun nodes_end.Unanswered h)
  of_undone allowed _ _ (unread name h) is one three seven four six = six
  of_undone allowed _ _ (cut (inl h) read) is one three seven four six = seven h
  of_undone allowed _ _ (cut (inr h) read) is one three seven four six = absurd (is.unrun nodes_end.SinkFault h)
  of_undone allowed _ _ (cut_off h read) is one three seven four six = absurd (is.unrun nodes_end.LinkFault h)
  of_undone allowed _ _ (child shard own h read) is one three seven four six = absurd (is.no_child shard own h)
  of_undone allowed _ _ (no_journal name h read) is one three seven four six = absurd (is.unrun _ (keeper_ended call name (serve_end.Journal h.0) h.1))
  of_undone allowed _ _ (disk name h read) is one three seven four six = absurd (is.unrun _ (keeper_ended call name serve_end.Disk h))
  of_undone allowed _ _ (full name h read) is one three seven four six = absurd (is.unrun _ (keeper_ended call name serve_end.Full h))
  of_undone allowed _ _ (refuted h read) is one three seven four six = absurd (is.unrefuted h)
  of_undone allowed _ _ (book name h read) is one three seven four six = let end = logger_ended call name h in absurd (is.unrun end.0 end.1)

  of_planless : (status : ℕ) (line : List ℕ) → IsFailure call status line → IsUnplanned call → IsOneOf (1 ∷ 4 ∷ 6 ∷ 7 ∷ []) status
  of_planless status line h lacks =
      of_undone (1 ∷ 4 ∷ 6 ∷ 7 ∷ []) status line h lacks.is (λ r. inl refl) (λ said r. absurd (lacks.right said r)) (λ c. inr (inr (inr (inl refl)))) (inr (inl refl)) (inr (inr (inl refl)))

  of_workloadless : (status : ℕ) (line : List ℕ) → IsFailure call status line → IsUnwritten call → IsOneOf (3 ∷ 4 ∷ 6 ∷ []) status
  of_workloadless status line h lacks =
      of_undone (3 ∷ 4 ∷ 6 ∷ []) status line h lacks.is (λ r. absurd (lacks.acceptable r)) (λ said r. inl refl) (λ c. absurd (lacks.uncut c)) (inr (inl refl)) (inr (inr (inl refl)))

  of_scheduleless : (status : ℕ) (line : List ℕ) → IsFailure call status line → IsUnplayed call → IsOneOf (3 ∷ 4 ∷ 6 ∷ 7 ∷ []) status
  of_scheduleless status line h lacks =
      of_undone (3 ∷ 4 ∷ 6 ∷ 7 ∷ []) status line h lacks.is (λ r. absurd (lacks.acceptable r)) (λ said r. inl refl) (λ c. inr (inr (inr (inl refl)))) (inr (inl refl)) (inr (inr (inl refl)))

  of_faulty : (status : ℕ) (line : List ℕ) → IsFailure call status line → SaysUnlessSilent err status line → (due : List ℕ) → IsSaidBy call due
      → IsOneOf (3 ∷ 4 ∷ 6 ∷ []) status × (status ≡ 3 → Says err due)
  of_faulty status line h says due is = (of_workloadless status line h is.is, λ e. go (at_refused status line h says e))
    where
      go : ((other : List ℕ) × IsRefused call.run other × Says err other) ⊎ ((name : List ℕ) × RefusesJournal call name × Says err (journal_line name)) → Says err due
      go (inl (other, wrong, told)) = subst (Says err) (is.only other wrong) told
      go (inr (name, journal, told)) = absurd (is.is.is.unrun _ (keeper_ended call name (serve_end.Journal journal.0) journal.1))

  pub fault_answers : (fault : Fault) (status : ℕ) → AreFitting call → WholeEnds call (Err fault) → Blames call.run.files.failed_old call.run.files.failed_new fault → IsTold fault status err → Answers call err status
  fault_answers fault status laws fails blames told =
      let h : IsSaid call err status = said_whole fault status fails blames told in
      record {
        statuses = at_most status h.line h.is;
        replayed = not_done (AreReplayWords call.run.words → Replays call.run) status h.line h.is;
        printed = not_done (ArePrintWords call.run.words → Prints call.run) status h.line h.is;
        checked = not_done (AreCheckWords call.run.words → Checks call.run) status h.line h.is;
        generated = not_done (AreGenWords call.run.words → Generates call.run) status h.line h.is;
        audited = not_done (AreAuditWords call.run.words → Audits call.run) status h.line h.is;
        served = not_done (AreServeWords call.run.words → ServeEnded call.run call.link call.disk call.book serve_end.Done ⊎ GrownServeEnded call.run call.link serve_end.Done) status h.line h.is;
        submitted = not_done (AreSubmitWords call.run.words → SubmitEnded call.run call.link call.book submit_end.Done ⊎ GrownSubmitEnded call.run call.link submit_end.Done) status h.line h.is;
        stopped = not_done (AreStopWords call.run.words → StopEnded call.run call.link stop_end.Done) status h.line h.is;
        ran = not_done (AreLocalWords call.run.words → LocalEnded call.run call.link call.children local_end.Done) status h.line h.is;
        childless = not_done (call.children.faults_new ≡ call.children.faults_old) status h.line h.is;
        complete = λ fit. at_alone status h.line h.is fit (laws.files fit);
        complete_audit = λ fit. at_audit status h.line h.is (laws.audits fit);
        honest = λ fit. at_honest status h.line h.is (laws.honest fit);
        complete_nodes = λ fit. at_fitting_nodes status h.line h.is (laws.nodes fit);
        rejected = at_rejected status h.line h.is;
        no_plan = λ lacks. of_planless status h.line h.is (laws.planless lacks);
        no_words = at_words status h.line h.is h.says;
        words = of_words status h.line h.is;
        no_shard = λ missing. of_missing status h.line h.is (laws.shardless missing);
        refused = at_refused status h.line h.is h.says;
        no_workload = λ lacks. of_workloadless status h.line h.is (laws.workloadless lacks);
        no_schedule = λ lacks. of_scheduleless status h.line h.is (laws.scheduleless lacks);
        no_cluster = λ lacks. of_workloadless status h.line h.is (laws.clusterless lacks);
        no_requests = λ lacks. of_workloadless status h.line h.is (laws.listless lacks);
        faulty = λ line lacks. of_faulty status h.line h.is h.says line (laws.faulty line lacks);
        no_logs = λ lacks. of_workloadless status h.line h.is (laws.logless lacks);
        memory = at_memory status h.line h.is h.says;
        unanswered = at_unanswered status h.line h.is;
        unread = at_unread status h.line h.is h.says;
        read = at_others status h.line h.is;
        cut = at_cut status h.line h.is h.says;
        cut_off = at_cut_off status h.line h.is h.says;
        child = at_child status h.line h.is h.says;
        disk = at_disk status h.line h.is h.says;
        full = at_full status h.line h.is h.says;
        refuted = at_refuted status h.line h.is;
        unlogged = at_book status h.line h.is h.says;
      }
