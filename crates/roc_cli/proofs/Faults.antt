-- What each step of a command tells of its end
use Rattle.std.proofs.Common.{◌≡◌, inl, inr, ℕ, List, Option, Some, None, IfSome, Result, Ok, Err, refl, sym, subst, ◌≤◌, string_bytes, arith}
use Rattle.std.proofs.Math.Path.{fun_ext}
use Rattle.roc_lang.specs.Grammar.{text_limit}
use Rattle.roc_lang.specs.FaultText.{what_text}
use Rattle.roc_lang_scope.specs.FaultText.{what_text as scope_text}
use Rattle.roc_sched.specs.FaultText.{what_text as schedule_text}
use Rattle.roc_lang_scope.specs.Fault.{kind}
use Rattle.roc_base.specs.declared.id.TxnId.{TxnId}
use Rattle.roc_plan.specs.Groups.{Plan}
use Rattle.roc_plan.specs.Accepted.{IsAccepted}
use Rattle.roc_epoch.specs.declared.next.Next.{Next}
use Rattle.roc_epoch.specs.Files.{IsNextOf}
use Rattle.roc_sched.specs.Schedule.{most_bytes}
use Rattle.roc_report.specs.Line.{Line}
use Rattle.roc_report.specs.ReportLine.{HasNames}
use Rattle.roc_report.specs.Reading.{IsReadInOneWay}
use Rattle.roc_replay.specs.declared.ended.Summary.{Summary}
use Rattle.roc_replay.specs.BoundLine.{last_program}
use Rattle.roc_replay.specs.Readback.{FilesStandApart}
use Rattle.roc_replay.specs.Ended.{IsReplayed}
use Rattle.roc_cli_files.specs.declared.fault.Fault.{Fault}
use Rattle.roc_cli_files.specs.declared.fault.Fault.TheVariants.{TooLong, At, Scope, Growth, Rejected, Memory, File, Sink}
use Rattle.roc_cli_nodes.specs.Call.{RunCall, WholeCall, TakesNothing}
use Rattle.roc_cli_words.specs.declared.answer.WordsFault.{WordsFault}
use Rattle.roc_cli_words.specs.declared.answer.WordsFault.TheVariants as words_fault
use Rattle.roc_cli_words.specs.Answer.{AnswersWords}
use Rattle.roc_cli_words.specs.declared.value.Part.{Part}
use Rattle.roc_cli_words.specs.Commands.{check, print}
use Rattle.roc_cli_nodes.specs.Words.{IsReplay, IsPrint, IsCheck, IsGen, NamesProgram, NamesWorkload}
use Rattle.roc_cli_nodes.proofs.Naming.{as_workload}
use Rattle.roc_cli_files.specs.Held.{HoldsPlan}
use Rattle.roc_cli_files.specs.NodeNames.{HoldsNext, NextFails}
use Rattle.roc_cli_files.specs.Says.{long_line, fault_line, growth_line}
use Rattle.roc_cli.specs.Done.{IsReplayUnder, HoldsFollowing, IsReplayOf, ShowsGrowth, ComesToNext}
use Rattle.roc_cli.specs.Stopped.{IsInput, the_workload, the_schedule, the_next, with_nothing, with_lines, in_report, in_text, in_check, in_rejection, in_generated}
use Rattle.roc_cli.specs.Refused.{by_clap, no_value, IsRefusedNext, long_next, no_next_text, next_out_of_scope, no_growth}
use Rattle.roc_cli.specs.Refused.{IsRefused, long_workload, no_text, out_of_scope, long_schedule, bad_next, bad_schedule}
use Rattle.roc_cli_files.specs.Input.{HoldsWithin, IsReadFault, IsProgramFault, PlanFails, PrintEnds, CheckEnds}
use Rattle.roc_cli.specs.Inner.Ends.{Fails, Ends, WholeEnds, ReplayEnds, GenEnds, fault_of_words}
use Rattle.roc_cli.specs.Inner.Texts.{ReportLaws}
use Rattle.roc_cli_files.specs.Fault.{Blames, ReadsBut, growth_word}

-- ---- what is to come next

module _ (laws : ReportLaws) (content : List ℕ → Option (List ℕ)) (plan : Plan) where
  -- names tell the parts of the last program apart
  names_last : (growth : Option (List ℕ × ℕ)) (next : Option Next) → HasNames plan.program → HoldsFollowing content plan growth next → HasNames (last_program plan next)
  names_last None None names h = names
  names_last None (Some next) names h = absurd h
  names_last (Some growth) None names h = absurd h
  names_last (Some growth) (Some next) names h = laws.names h.held.0.bytes next.plan.program h.held.0.is.text

  growth_shown : (growth : Option (List ℕ × ℕ)) (next : Option Next) → IsAccepted plan → HoldsFollowing content plan growth next → (lines : List Line) (order : List TxnId)
      → FilesStandApart lines order → IfSome next (λ following. ShowsGrowth plan following lines order)
  growth_shown None None accepted h lines order apart = tt
  growth_shown None (Some next) accepted h lines order apart = absurd h
  growth_shown (Some growth) None accepted h lines order apart = absurd h
  growth_shown (Some growth) (Some next) accepted h lines order apart =
      record { first = accepted; second = laws.accepted h.held.0.bytes next.plan h.held.0.is; grown = h.grown; apart = apart }

  -- so the schedule can be played
  pub may_come : (name : List ℕ) (coords : ℕ) (next : Next) → HoldsNext content name plan.program coords next → (1 ≤ coords) × (coords ≤ 16) → IsNextOf plan (Some next)
  may_come name coords next h within =
      let count : next.coords ≡ coords = h.count in
      let least : 1 ≤ coords = within.0 in
      let most : coords ≤ 16 = within.1 in
      (laws.accepted h.held.0.bytes next.plan h.held.0.is, h.grown, omega arith, omega arith)

module _ (call : RunCall) where
  -- where a file's name, a line and what is wrong there are known, so is the line of standard error
  line_known : (file name : List ℕ) (line number : ℕ) (what word : List ℕ) → file ≡ name → line ≡ number → what ≡ word
      → IsRefused call (fault_line name number word) → IsRefused call (fault_line file line what)
  line_known file name line number what word e f g h =
      subst (λ n. IsRefused call (fault_line n line what)) (sym e)
      (subst (λ n. IsRefused call (fault_line name n what)) (sym f)
      (subst (λ n. IsRefused call (fault_line name number n)) (sym g) h))

  -- ---- reading

  -- the workload gave no bytes
  pub workload_unread : (workload : List ℕ) (fault : Fault) → NamesWorkload call.words workload → TakesNothing call → Blames call.files.failed_old call.files.failed_new fault
      → IsReadFault call.files.content workload text_limit fault → Fails call fault
  workload_unread workload (TooLong file) names same blames (e, more) = subst (λ n. IsRefused call (long_line n)) (sym e) (long_workload workload names more same)
  workload_unread workload (File file) names same blames e = record { input = the_workload (subst (NamesWorkload call.words) (sym e) names); only = blames; untouched = same }
  workload_unread workload Memory names same blames h = with_nothing same
  workload_unread workload _ names same blames h = absurd h

  -- the workload gave no program
  pub program_fails : (workload : List ℕ) (fault : Fault) → NamesProgram call.words workload → TakesNothing call → Blames call.files.failed_old call.files.failed_new fault
      → IsProgramFault call.files.content workload fault → Fails call fault
  program_fails workload (At file line what) names same blames (e, (w, held, g)) =
      line_known file.now workload line line what.now (what_text w) e refl g (no_text workload line w (as_workload call.words workload names) held same)
  program_fails workload (Scope file line what) names same blames (e, held) =
      subst (λ n. IsRefused call (fault_line n line (scope_text what))) (sym e) (out_of_scope workload (record { kind = kind what; line = line }) names held same)
  program_fails workload fault names same blames h = workload_unread workload fault (as_workload call.words workload names) same blames h

  -- the workload gave no plan
  pub plan_fails : (workload : List ℕ) (fault : Fault) → NamesProgram call.words workload → Blames call.files.failed_old call.files.failed_new fault
      → PlanFails call.files.content workload call.out.old call.out.new fault → Fails call fault
  plan_fails workload Rejected names blames h = record { workload = workload; named = inl names; program = h.0; said = h.1; held = h.2; taken = h.3 }
  plan_fails workload Sink names blames h = in_rejection workload h.0 h.1 (inl names) h.2 h.3
  plan_fails workload fault names blames h = program_fails workload fault names h.1 blames h.0

  -- the schedule gave no bytes
  pub schedule_unread : (workload schedule : List ℕ) (growth : Option (List ℕ × ℕ)) (plan : Plan) (fault : Fault) → IsReplay call.words workload schedule growth
      → HoldsPlan call.files.content workload plan → TakesNothing call → Blames call.files.failed_old call.files.failed_new fault
      → IsReadFault call.files.content schedule most_bytes fault → Fails call fault
  schedule_unread workload schedule growth plan (TooLong file) given planned same blames (e, more) =
      subst (λ n. IsRefused call (long_line n)) (sym e) (long_schedule workload schedule growth plan given planned more same)
  schedule_unread workload schedule growth plan (File file) given planned same blames e =
      record { input = the_schedule workload growth plan (subst (λ n. IsReplay call.words workload n growth) (sym e) given) planned; only = blames; untouched = same }
  schedule_unread workload schedule growth plan Memory given planned same blames h = with_nothing same
  schedule_unread workload schedule growth plan _ given planned same blames h = absurd h

  -- the workload to grow to gave nothing
  module _ (name : List ℕ) (plan : Plan) (comes : ComesToNext call name plan) where
    next_unread : (fault : Fault) → TakesNothing call → Blames call.files.failed_old call.files.failed_new fault → IsReadFault call.files.content name text_limit fault → Fails call fault
    next_unread (TooLong file) same blames (e, more) = bad_next _ (subst (λ n. IsRefusedNext call (long_line n)) (sym e) (long_next name plan comes more)) same
    next_unread (File file) same blames e = record { input = subst (IsInput call) (sym e) (the_next plan comes); only = blames; untouched = same }
    next_unread Memory same blames h = with_nothing same
    next_unread _ same blames h = absurd h

    next_textless : (fault : Fault) → TakesNothing call → Blames call.files.failed_old call.files.failed_new fault → IsProgramFault call.files.content name fault → Fails call fault
    next_textless (At file line what) same blames (e, (w, held, g)) =
        line_known file.now name line line what.now (what_text w) e refl g (bad_next _ (no_next_text name plan line w comes held) same)
    next_textless (Scope file line what) same blames (e, held) =
        subst (λ n. IsRefused call (fault_line n line (scope_text what))) (sym e) (bad_next _ (next_out_of_scope name plan (record { kind = kind what; line = line }) comes held) same)
    next_textless fault same blames h = next_unread fault same blames h

    next_planless : (fault : Fault) → Blames call.files.failed_old call.files.failed_new fault → PlanFails call.files.content name call.out.old call.out.new fault → Fails call fault
    next_planless Rejected blames h = record { workload = name; named = inr (plan, comes); program = h.0; said = h.1; held = h.2; taken = h.3 }
    next_planless Sink blames h = in_rejection name h.0 h.1 (inr (plan, comes)) h.2 h.3
    next_planless fault blames h = next_textless fault h.1 blames h.0

    pub next_fails : (fault : Fault) → Blames call.files.failed_old call.files.failed_new fault → NextFails call.files.content name plan.program call.out.old call.out.new fault → Fails call fault
    next_fails (Growth file fault) blames (e, not, same) =
        subst (λ n. IsRefused call (growth_line n (growth_word fault))) (sym e) (bad_next _ (no_growth name plan fault comes not) same)
    next_fails fault blames h = next_planless fault blames h

  -- ---- replay

  -- the replay ended; whatever was replayed is read in one way, and shows growth
  replay_ends : (plan : Plan) (next : Option Next) (bytes : List ℕ) (result : Result Unit Fault) → (asked : IsReplayOf call plan next bytes)
      → ((summary : Summary) (h : IsReplayed plan next bytes summary call.out.old call.out.new) → IsReadInOneWay (last_program plan next) h.lines)
      → ((lines : List Line) (order : List TxnId) → FilesStandApart lines order → IfSome next (λ following. ShowsGrowth plan following lines order))
      → ReplayEnds plan next bytes asked.under.schedule call.out.old call.out.new result → Ends call result
  replay_ends plan next bytes (Ok done) asked reads grows (summary, h) =
      inl (record {
        plan = plan;
        next = next;
        bytes = bytes;
        asked = asked;
        lines = h.lines;
        taken = h.taken;
        explained = h.explained;
        read = reads summary h;
        run = h.run;
        filed = h.filed;
        answers = h.answers;
        grown = grows h.lines h.explained.order h.apart;
      })
  replay_ends plan next bytes (Err (At file line what)) asked reads grows (e, (w, g, h)) =
      line_known file.now asked.under.schedule line line what.now (schedule_text w) e refl g (bad_schedule plan next bytes asked line w h)
  replay_ends plan next bytes (Err Memory) asked reads grows h = with_lines plan next bytes asked h
  replay_ends plan next bytes (Err Sink) asked reads grows h = in_report plan next bytes asked h
  replay_ends plan next bytes (Err _) asked reads grows h = absurd h

  -- all files were read, and the replay ended
  module _ (workload schedule : List ℕ) (growth : Option (List ℕ × ℕ)) (given : IsReplay call.words workload schedule growth) (plan : Plan)
      (planned : HoldsPlan call.files.content workload plan) (bytes : List ℕ) (held : HoldsWithin call.files.content schedule most_bytes bytes) where
    abbrev pub under : IsReplayUnder call plan bytes
    under = record { workload = workload; schedule = schedule; growth = growth; given = given; of_workload = planned; of_schedule = held.held; size = held.few }

    pub files_end : (laws : ReportLaws) (next : Option Next) (result : Result Unit Fault) (middle : Option (List ℕ)) → middle ≡ call.out.old
        → HoldsFollowing call.files.content plan growth next → ReplayEnds plan next bytes schedule middle call.out.new result → Ends call result
    files_end laws next result middle same following ends =
        replay_ends plan next bytes result (record { under = under; of_next = following })
        (λ summary h. laws.read plan next bytes summary call.out.old call.out.new (names_last laws call.files.content plan growth next (laws.names planned.bytes plan.program planned.is.text) following) h)
        (growth_shown laws call.files.content plan growth next (laws.accepted planned.bytes plan planned.is) following)
        (subst (λ (o : Option (List ℕ)). ReplayEnds plan next bytes schedule o call.out.new result) same ends)

  -- ---- print and check

  -- the print ended
  pub print_ends : (workload : List ℕ) (result : Result Unit Fault) → IsPrint call.words workload → ReadsBut call.files.failed_old call.files.failed_new result
      → PrintEnds call.files.content workload call.out.old call.out.new result → Ends call result
  print_ends workload (Ok done) given reads (tree, held, adds) = inr (inl (record { workload = workload; given = given; tree = tree; held = held; taken = adds }))
  print_ends workload (Err (At file line what)) given reads ((e, (w, held, g)), same) =
      line_known file.now workload line line what.now (what_text w) e refl g (no_text workload line w (print workload, given, refl) held same)
  print_ends workload (Err Sink) given reads (tree, held, front) = in_text workload tree given held front
  print_ends workload (Err fault) given reads h = workload_unread workload fault (print workload, given, refl) h.1 reads h.0

  -- the check ended
  pub check_ends : (workload : List ℕ) (result : Result Unit Fault) → IsCheck call.words workload → ReadsBut call.files.failed_old call.files.failed_new result
      → CheckEnds call.files.content workload call.out.old call.out.new result → Ends call result
  check_ends workload (Ok done) given reads (plan, held, adds) = inr (inr (inl (record { workload = workload; given = given; plan = plan; held = held; taken = adds })))
  check_ends workload (Err Sink) given reads (inl h) = plan_fails workload Sink (check workload, given, refl) reads h
  check_ends workload (Err Sink) given reads (inr (plan, held, front)) = in_check workload plan given held front
  check_ends workload (Err fault) given reads h = plan_fails workload fault (check workload, given, refl) reads h

  -- ---- gen

  pub gen_ends : (seed shards txns : ℕ) (part : Part) (result : Result Unit Fault) → IsGen call.words seed shards txns part
      → GenEnds seed shards txns part call.out.old call.out.new result → Ends call result
  gen_ends seed shards txns part (Ok done) given (text, generated, adds) =
      inr (inr (inr (inl (record { seed = seed; shards = shards; txns = txns; part = part; given = given; text = text; generated = generated; taken = adds }))))
  gen_ends seed shards txns part (Err Memory) given same = with_nothing same
  gen_ends seed shards txns part (Err Sink) given (text, generated, front) = in_generated seed shards txns part text given generated front
  gen_ends seed shards txns part (Err _) given h = absurd h

-- the bytes of a file behind a step that left all as it was
pub within_later : (later content : List ℕ → Option (List ℕ)) (name : List ℕ) (most : ℕ) (bytes taken : List ℕ) → later name ≡ content name → taken ≡ bytes
    → HoldsWithin content name most bytes → HoldsWithin later name most taken
within_later later content name most bytes taken e f h =
    subst (λ b. HoldsWithin later name most b) (sym f) (record { held = subst (λ o. IfSome o (λ held. held ≡ bytes)) (sym e) h.held; few = h.few })

-- the end of what was done behind a first step that left all as it was
pub behind : (words : List (List ℕ)) (later content : List ℕ → Option (List ℕ)) (between before after : Option (List (List ℕ))) (middle old new : Option (List ℕ)) (result : Result Unit Fault)
    → ((name : List ℕ) → later name ≡ content name) → between ≡ before → middle ≡ old
    → Ends (record { words = words; files = record { content = later; failed_old = between; failed_new = after }; out = record { old = middle; new = new } }) result
    → Ends (record { words = words; files = record { content = content; failed_old = before; failed_new = after }; out = record { old = old; new = new } }) result
behind words later content between before after middle old new result same failed untouched ends =
    subst (λ (o : Option (List ℕ)). Ends (record { words = words; files = record { content = content; failed_old = before; failed_new = after }; out = record { old = o; new = new } }) result) untouched
    (subst (λ (f : Option (List (List ℕ))). Ends (record { words = words; files = record { content = content; failed_old = f; failed_new = after }; out = record { old = middle; new = new } }) result) failed
    (subst (λ (c : List ℕ → Option (List ℕ)). Ends (record { words = words; files = record { content = c; failed_old = between; failed_new = after }; out = record { old = middle; new = new } }) result) (fun_ext same) ends))

-- ---- words that name no command

pub words_refused : (call : WholeCall) (refused : WordsFault) (fault : Fault) → fault ≡ fault_of_words refused → TakesNothing call.run → AnswersWords call.run.words (Err refused) → WholeEnds call (Err fault)
words_refused call (words_fault.Refused text) fault e same h = subst (λ f. WholeEnds call (Err f)) (sym e) (inl (same, by_clap (string_bytes text) h))
words_refused call (words_fault.Value name) fault e same h = subst (λ f. WholeEnds call (Err f)) (sym e) (inl (same, no_value name h))
words_refused call words_fault.NoMemory fault e same h = subst (λ f. WholeEnds call (Err f)) (sym e) (inl (with_nothing same))
