-- Of which words each end of a command with nodes is
use Rattle.std.proofs.Common.{◌≡◌, ◌⊎◌, ◌==◌, inl, inr, ℕ, Bool, true, false, List, [], Option, Some, None, refl, sym, subst, ◌∙◌, is_some}
use Rattle.std.specs.Prelude.{unwrap_or}
use Rattle.std.proofs.lemmas.Bool.{false≢true}
use Rattle.roc_base.specs.declared.node.Shard.{Shard}
use Rattle.roc_node_serve.specs.declared.ends.ServeEnd.{ServeEnd}
use Rattle.roc_node_serve.specs.declared.ends.ServeEnd.TheVariants as serve_end
use Rattle.roc_node_submit.specs.declared.ends.SubmitEnd.{SubmitEnd}
use Rattle.roc_node_submit.specs.declared.ends.SubmitEnd.TheVariants as submit_end
use Rattle.roc_node_local.specs.declared.stops.StopEnd.{StopEnd}
use Rattle.roc_node_local.specs.declared.stops.StopEnd.TheVariants as stop_end
use Rattle.roc_node_local.specs.declared.local.LocalEnd.TheVariants as local_end
use Rattle.roc_node_local.specs.declared.local.LocalEnd.{LocalEnd}
use Rattle.roc_book.specs.Call.{BookCall}
use Rattle.std.proofs.lemmas.Option.{none-some, same_Some}
use Rattle.roc_cli_nodes.proofs.Booked.{log_there, submitted_log, no_journal_grown, no_log_grown, no_log_grown_submit}
use Rattle.roc_node.specs.NodeEvent.{NodeSetting}
use Rattle.roc_node_serve.specs.ServeEnd.{is_end_of_journal}
use Rattle.roc_node_serve.specs.Keeping.{ServesWith}
use Rattle.roc_disk.specs.declared.disk.Disk.{Ghosts as DiskOf}
use Rattle.roc_io.specs.Call.{NodeCall}
use Rattle.roc_io.specs.declared.link.Addr.{Addr}
use Rattle.roc_cli_words.specs.Commands.{Command, serve, submit, stop, local}
use Rattle.roc_cli_words.specs.Answer.{AreWordsOf}
use Rattle.roc_cli_files.specs.Held.{NodeFiles}
use Rattle.roc_cli_nodes.specs.Call.{WholeCall}
use Rattle.roc_cli_nodes.specs.Words.{AreServeWords, AreSubmitWords, AreStopWords, AreLocalWords, AreCommandWords, Name, NamesJournal, NamesLog, NamesNodes, journal_of, log_of, node_files}
use Rattle.roc_cli_nodes.specs.Words.{needs_nodes}
use Rattle.roc_cli_nodes.specs.NodeEnds as nodes_end
use Rattle.roc_cli_nodes.specs.NodeEnds.{NodesEnd, end_of_serve, end_of_submit, end_of_stops, end_of_local}
use Rattle.roc_cli_nodes.specs.Nodes.{ServeEnded, GrownServeEnded, SubmitEnded, GrownSubmitEnded, StopEnded, LocalEnded, AreNodesEnded, IsServedWith, IsBookBlamed, IsChildBlamed}
use Rattle.roc_cli_nodes.proofs.Naming.{kind, unlike}

-- words of a command with nodes name its files
pub needing_named : (words : List (List ℕ)) (c : Command) → AreWordsOf words c → needs_nodes c ≡ true → NamesNodes words
needing_named words c is needs = go (node_files c) refl needs
  where
    go : (files : Option NodeFiles) → node_files c ≡ files → is_some files ≡ true → NamesNodes words
    go (Some files) e needs = (files, (c, is, e))
    go None e needs = absurd (false≢true needs)

module _ (call : WholeCall) where
  -- the command of each
  abbrev pub plain_serve : (own : ServeEnd) → ServeEnded call.run call.link call.disk call.book own → Command
  plain_serve own h = serve h.workload h.cluster h.shard h.turns h.counts h.journal h.log None

  abbrev pub grown_serve : (own : ServeEnd) → GrownServeEnded call.run call.link own → Command
  grown_serve own h = serve h.workload h.cluster h.shard h.turns h.counts None None (Some (h.grown, h.coords))

  abbrev pub plain_submit : (own : SubmitEnd) → SubmitEnded call.run call.link call.book own → Command
  plain_submit own h = submit h.workload h.cluster h.listed h.coord h.turns h.log None

  abbrev pub grown_submit : (own : SubmitEnd) → GrownSubmitEnded call.run call.link own → Command
  grown_submit own h = submit h.workload h.cluster h.listed h.coord h.turns None (Some (h.grown, h.behind))

  pub nodes_named : (end : NodesEnd) → AreNodesEnded call end → NamesNodes call.run.words
  nodes_named end (inl (inl (own, h, e))) = (_, (plain_serve own h, h.given, refl))
  nodes_named end (inl (inr (own, e, h))) = (_, (grown_serve own h, h.given, refl))
  nodes_named end (inr (inl (inl (own, h, e)))) = (_, (plain_submit own h, h.given, refl))
  nodes_named end (inr (inl (inr (own, e, h)))) = (_, (grown_submit own h, h.given, refl))
  nodes_named end (inr (inr (inl (own, e, h)))) = (_, (stop h.workload h.cluster, h.given, refl))
  nodes_named end (inr (inr (inr (own, e, h)))) = (_, (local h.workload h.cluster h.listed h.turns, h.given, refl))

  pub child_named : (shard : Shard) (status : Option ℕ) → IsChildBlamed call shard status → NamesNodes call.run.words
  child_named shard status h = (_, (local h.ended.workload h.ended.cluster h.ended.listed h.ended.turns, h.ended.given, refl))

  pub nodes_words : (end : NodesEnd) → AreNodesEnded call end → AreCommandWords call.run.words
  nodes_words end h = let named = nodes_named end h in (named.1.0, named.1.1)

-- ---- what was done

served_done : (file log : List ℕ) (end : ServeEnd) → end_of_serve file log end ≡ nodes_end.Done → end ≡ serve_end.Done
served_done file log serve_end.Done e = refl
served_done file log serve_end.LinkFault e = absurd (cc)
served_done file log serve_end.SinkFault e = absurd (cc)
served_done file log serve_end.NoMemory e = absurd (cc)
served_done file log (serve_end.Journal at) e = absurd (cc)
served_done file log serve_end.Full e = absurd (cc)
served_done file log serve_end.Disk e = absurd (cc)
served_done file log serve_end.BookFault e = absurd (cc)

submitted_done : (log : List ℕ) (end : SubmitEnd) → end_of_submit log end ≡ nodes_end.Done → end ≡ submit_end.Done
submitted_done log submit_end.Done e = refl
submitted_done log submit_end.Unanswered e = absurd (cc)
submitted_done log submit_end.LinkFault e = absurd (cc)
submitted_done log submit_end.SinkFault e = absurd (cc)
submitted_done log submit_end.BookFault e = absurd (cc)
submitted_done log submit_end.NoMemory e = absurd (cc)

stopped_done : (end : StopEnd) → end_of_stops end ≡ nodes_end.Done → end ≡ stop_end.Done
stopped_done stop_end.Done e = refl
stopped_done stop_end.LinkFault e = absurd (cc)
stopped_done stop_end.NoMemory e = absurd (cc)

ran_done : (end : LocalEnd) → end_of_local end ≡ Some nodes_end.Done → end ≡ local_end.Done
ran_done local_end.Done e = refl
ran_done local_end.Unanswered e = absurd (cc)
ran_done local_end.LinkFault e = absurd (cc)
ran_done local_end.SinkFault e = absurd (cc)
ran_done local_end.NoMemory e = absurd (cc)
ran_done (local_end.ChildFault shard status) e = absurd (none-some nodes_end.Done e)

-- of the commands with nodes, the one that the words ask for was done
module _ (call : WholeCall) where
  abbrev pub Served : Type 0
  Served = ServeEnded call.run call.link call.disk call.book serve_end.Done ⊎ GrownServeEnded call.run call.link serve_end.Done

  abbrev pub Submitted : Type 0
  Submitted = SubmitEnded call.run call.link call.book submit_end.Done ⊎ GrownSubmitEnded call.run call.link submit_end.Done

  abbrev pub Stopped : Type 0
  Stopped = StopEnded call.run call.link stop_end.Done

  abbrev pub Ran : Type 0
  Ran = LocalEnded call.run call.link call.children local_end.Done

  -- words of another kind
  module _ (A : Type 0) (c : Command) (given : AreWordsOf call.run.words c) where
    not_serve : (kind c == 3) ≡ false → AreServeWords call.run.words → A
    not_serve differ (workload, cluster, shard, turns, counts, journal, log, growth, is) = unlike A call.run.words c (serve workload cluster shard turns counts journal log growth) given is differ

    not_submit : (kind c == 4) ≡ false → AreSubmitWords call.run.words → A
    not_submit differ (workload, cluster, requests, coord, turns, log, growth, is) = unlike A call.run.words c (submit workload cluster requests coord turns log growth) given is differ

    not_stop : (kind c == 5) ≡ false → AreStopWords call.run.words → A
    not_stop differ (workload, cluster, is) = unlike A call.run.words c (stop workload cluster) given is differ

    not_local : (kind c == 6) ≡ false → AreLocalWords call.run.words → A
    not_local differ (workload, cluster, requests, turns, is) = unlike A call.run.words c (local workload cluster requests turns) given is differ

  pub serve_done : AreNodesEnded call nodes_end.Done → AreServeWords call.run.words → Served
  serve_done (inl (inl (end, h, e))) are = inl (subst (ServeEnded call.run call.link call.disk call.book) (served_done _ _ end e) h)
  serve_done (inl (inr (end, e, h))) are = inr (subst (GrownServeEnded call.run call.link) (served_done _ _ end e) h)
  serve_done (inr (inl (inl (end, h, e)))) are = not_serve Served (plain_submit call end h) h.given refl are
  serve_done (inr (inl (inr (end, e, h)))) are = not_serve Served (grown_submit call end h) h.given refl are
  serve_done (inr (inr (inl (end, e, h)))) are = not_serve Served (stop h.workload h.cluster) h.given refl are
  serve_done (inr (inr (inr (end, e, h)))) are = not_serve Served (local h.workload h.cluster h.listed h.turns) h.given refl are

  pub submit_done : AreNodesEnded call nodes_end.Done → AreSubmitWords call.run.words → Submitted
  submit_done (inl (inl (end, h, e))) are = not_submit Submitted (plain_serve call end h) h.given refl are
  submit_done (inl (inr (end, e, h))) are = not_submit Submitted (grown_serve call end h) h.given refl are
  submit_done (inr (inl (inl (end, h, e)))) are = inl (subst (SubmitEnded call.run call.link call.book) (submitted_done _ end e) h)
  submit_done (inr (inl (inr (end, e, h)))) are = inr (subst (GrownSubmitEnded call.run call.link) (submitted_done _ end e) h)
  submit_done (inr (inr (inl (end, e, h)))) are = not_submit Submitted (stop h.workload h.cluster) h.given refl are
  submit_done (inr (inr (inr (end, e, h)))) are = not_submit Submitted (local h.workload h.cluster h.listed h.turns) h.given refl are

  pub stop_done : AreNodesEnded call nodes_end.Done → AreStopWords call.run.words → Stopped
  stop_done (inl (inl (end, h, e))) are = not_stop Stopped (plain_serve call end h) h.given refl are
  stop_done (inl (inr (end, e, h))) are = not_stop Stopped (grown_serve call end h) h.given refl are
  stop_done (inr (inl (inl (end, h, e)))) are = not_stop Stopped (plain_submit call end h) h.given refl are
  stop_done (inr (inl (inr (end, e, h)))) are = not_stop Stopped (grown_submit call end h) h.given refl are
  stop_done (inr (inr (inl (end, e, h)))) are = subst (StopEnded call.run call.link) (stopped_done end e) h
  stop_done (inr (inr (inr (end, e, h)))) are = not_stop Stopped (local h.workload h.cluster h.listed h.turns) h.given refl are

  pub local_done : AreNodesEnded call nodes_end.Done → AreLocalWords call.run.words → Ran
  local_done (inl (inl (end, h, e))) are = not_local Ran (plain_serve call end h) h.given refl are
  local_done (inl (inr (end, e, h))) are = not_local Ran (grown_serve call end h) h.given refl are
  local_done (inr (inl (inl (end, h, e)))) are = not_local Ran (plain_submit call end h) h.given refl are
  local_done (inr (inl (inr (end, e, h)))) are = not_local Ran (grown_submit call end h) h.given refl are
  local_done (inr (inr (inl (end, e, h)))) are = not_local Ran (stop h.workload h.cluster) h.given refl are
  local_done (inr (inr (inr (end, e, h)))) are = subst (LocalEnded call.run call.link call.children) (ran_done end e) h

-- what words do not name, their command has not
unnamed_of : {A : Type 0} (of : Command → Option A) (words : List (List ℕ)) (c : Command) → AreWordsOf words c → ((a : A) → Name of words a → ⊥) → of c ≡ None
unnamed_of {A} of words c is none = go (of c) refl
  where
    go : (o : Option A) → of c ≡ o → of c ≡ None
    go None e = e
    go (Some a) e = absurd (none a (c, is, e))

-- ---- what a journal or a log brought

-- how a call ended that ended so, by the end of its node
abbrev pub IsBrought : WholeCall → NodesEnd → Type 0
IsBrought call (nodes_end.Journal file) = (at : ℕ) × IsServedWith call file (serve_end.Journal at)
IsBrought call (nodes_end.DiskFault file) = IsServedWith call file serve_end.Disk
IsBrought call (nodes_end.Full file) = IsServedWith call file serve_end.Full
IsBrought call (nodes_end.BookFault file) = IsBookBlamed call file
IsBrought call _ = Unit {0}

module _ {D : Type 0} (disk : DiskOf D) (old new : D) (journal log : Option (List ℕ)) (S : NodeSetting) (shard : Shard) (own : Addr) (turns : ℕ) (counts : Bool) (call : NodeCall) (book : BookCall) (end : ServeEnd) where
  -- such an end has a journal of this name
  journal_there : ServesWith disk old new journal log S shard own turns counts call book end → is_end_of_journal end ≡ true → journal ≡ Some (unwrap_or journal [])
  journal_there h brings = go journal refl h
    where
      go : (o : Option (List ℕ)) → journal ≡ o → ServesWith disk old new o log S shard own turns counts call book end → o ≡ Some (unwrap_or o [])
      go None e h = absurd (false≢true (sym h.of_none ∙ brings))
      go (Some name) e h = refl

module _ (call : WholeCall) where
  brought : (end : ServeEnd) (h : ServeEnded call.run call.link call.disk call.book end) → IsBrought call (end_of_serve (unwrap_or h.journal []) (unwrap_or h.log []) end)
  brought serve_end.Done h = tt
  brought serve_end.LinkFault h = tt
  brought serve_end.SinkFault h = tt
  brought serve_end.NoMemory h = tt
  brought (serve_end.Journal at) h = (at, (h, journal_there call.disk.of call.disk.old call.disk.new h.journal h.log _ _ h.own h.turns h.counts _ _ _ h.serves refl))
  brought serve_end.Full h = (h, journal_there call.disk.of call.disk.old call.disk.new h.journal h.log _ _ h.own h.turns h.counts _ _ _ h.serves refl)
  brought serve_end.Disk h = (h, journal_there call.disk.of call.disk.old call.disk.new h.journal h.log _ _ h.own h.turns h.counts _ _ _ h.serves refl)
  brought serve_end.BookFault h = inl (h, log_there call.disk.of call.disk.old call.disk.new h.journal h.log _ _ h.own h.turns h.counts _ _ h.serves)

  submitting_brings : (end : SubmitEnd) (h : SubmitEnded call.run call.link call.book end) → IsBrought call (end_of_submit (unwrap_or h.log []) end)
  submitting_brings submit_end.Done h = tt
  submitting_brings submit_end.Unanswered h = tt
  submitting_brings submit_end.LinkFault h = tt
  submitting_brings submit_end.SinkFault h = tt
  submitting_brings submit_end.BookFault h = inr (h, submitted_log _ _ _ _ h.log _ _ h.submits)
  submitting_brings submit_end.NoMemory h = tt

  -- nodes that go over have neither
  growing_serve_brings : (end : ServeEnd) → GrownServeEnded call.run call.link end → IsBrought call (end_of_serve [] [] end)
  growing_serve_brings serve_end.Done h = tt
  growing_serve_brings serve_end.LinkFault h = tt
  growing_serve_brings serve_end.SinkFault h = tt
  growing_serve_brings serve_end.NoMemory h = tt
  growing_serve_brings (serve_end.Journal at) h = absurd (no_journal_grown _ _ _ _ _ _ _ _ h.serves refl)
  growing_serve_brings serve_end.Full h = absurd (no_journal_grown _ _ _ _ _ _ _ _ h.serves refl)
  growing_serve_brings serve_end.Disk h = absurd (no_journal_grown _ _ _ _ _ _ _ _ h.serves refl)
  growing_serve_brings serve_end.BookFault h = absurd (no_log_grown _ _ _ _ _ _ _ h.serves)

  growing_submit_brings : (end : SubmitEnd) → GrownSubmitEnded call.run call.link end → IsBrought call (end_of_submit [] end)
  growing_submit_brings submit_end.Done h = tt
  growing_submit_brings submit_end.Unanswered h = tt
  growing_submit_brings submit_end.LinkFault h = tt
  growing_submit_brings submit_end.SinkFault h = tt
  growing_submit_brings submit_end.BookFault h = absurd (no_log_grown_submit _ _ _ _ _ _ h.submits)
  growing_submit_brings submit_end.NoMemory h = tt

  stopping_brings : (end : StopEnd) → IsBrought call (end_of_stops end)
  stopping_brings stop_end.Done = tt
  stopping_brings stop_end.LinkFault = tt
  stopping_brings stop_end.NoMemory = tt

  running_brings : (own : LocalEnd) (end : NodesEnd) → end_of_local own ≡ Some end → IsBrought call end
  running_brings local_end.Done end e = subst (IsBrought call) (same_Some _ end e) tt
  running_brings local_end.Unanswered end e = subst (IsBrought call) (same_Some _ end e) tt
  running_brings local_end.LinkFault end e = subst (IsBrought call) (same_Some _ end e) tt
  running_brings local_end.SinkFault end e = subst (IsBrought call) (same_Some _ end e) tt
  running_brings local_end.NoMemory end e = subst (IsBrought call) (same_Some _ end e) tt
  running_brings (local_end.ChildFault shard status) end e = absurd (none-some end e)

  pub ended_by_journal : (end : NodesEnd) → AreNodesEnded call end → IsBrought call end
  ended_by_journal end (inl (inl (own, h, e))) = subst (IsBrought call) e (brought own h)
  ended_by_journal end (inl (inr (own, e, h))) = subst (IsBrought call) e (growing_serve_brings own h)
  ended_by_journal end (inr (inl (inl (own, h, e)))) = subst (IsBrought call) e (submitting_brings own h)
  ended_by_journal end (inr (inl (inr (own, e, h)))) = subst (IsBrought call) e (growing_submit_brings own h)
  ended_by_journal end (inr (inr (inl (own, e, h)))) = subst (IsBrought call) e (stopping_brings own)
  ended_by_journal end (inr (inr (inr (own, e, h)))) = running_brings own end e

  -- a server with a journal is a command with nodes that ended
  pub keeper_ended : (name : List ℕ) (end : ServeEnd) (is : IsServedWith call name end) → AreNodesEnded call (end_of_serve (unwrap_or is.0.journal []) (unwrap_or is.0.log []) end)
  keeper_ended name end (h, is) = inl (inl (end, h, refl))

  pub keeper_named : (name : List ℕ) (end : ServeEnd) → IsServedWith call name end → NamesNodes call.run.words
  keeper_named name end is = nodes_named call _ (keeper_ended name end is)

  pub keeper_words : (name : List ℕ) (end : ServeEnd) → IsServedWith call name end → AreCommandWords call.run.words
  keeper_words name end is = nodes_words call _ (keeper_ended name end is)

  -- and so is one whose book failed
  pub logger_ended : (name : List ℕ) → IsBookBlamed call name → (end : NodesEnd) × AreNodesEnded call end
  logger_ended name (inl (h, is)) = (_, inl (inl (serve_end.BookFault, h, refl)))
  logger_ended name (inr (h, is)) = (_, inr (inl (inl (submit_end.BookFault, h, refl))))

-- words that name no journal are those of a command without one
pub journal_unnamed : (words : List (List ℕ)) (c : Command) → AreWordsOf words c → ((name : List ℕ) → NamesJournal words name → ⊥) → journal_of c ≡ None
journal_unnamed words c is none = unnamed_of journal_of words c is none

-- ..and the same of a log
pub log_unnamed : (words : List (List ℕ)) (c : Command) → AreWordsOf words c → ((name : List ℕ) → NamesLog words name → ⊥) → log_of c ≡ None
log_unnamed words c is none = unnamed_of log_of words c is none
