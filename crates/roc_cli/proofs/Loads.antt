-- Why no generated schedule is to blame for anything
use Rattle.std.proofs.Common.{◌≡◌, ℕ, ℤ, if◌then◌else◌, true, List, ◌∷◌, ◌++◌, length, Option, Some, None, Result, Ok, Err, IfOk, refl, sym, ap, subst, ◌∙◌}
use Rattle.std.specs.List.{AllByRecursion}
use Rattle.std.proofs.lemmas.Bool.{eq-eqb}
use Rattle.std.proofs.lemmas.Option.{same_Some}
use Rattle.roc_program.specs.Program.{Workload}
use Rattle.roc_program.specs.LookUps.{procedure_named}
use Rattle.roc_plan.specs.Groups.{Plan}
use Rattle.roc_growth.specs.declared.event.Event.TheVariants as event
use Rattle.roc_growth.specs.World.{GrownWorld}
use Rattle.roc_sched.specs.declared.fault.What.{What}
use Rattle.roc_sched.specs.declared.fault.What.TheVariants as what
use Rattle.roc_sched.specs.declared.line.Act.{Act}
use Rattle.roc_sched.specs.declared.line.Act.TheVariants as act
use Rattle.roc_sched.specs.declared.line.Line.{Line}
use Rattle.roc_sched.specs.declared.forms.Forms.{Forms}
use Rattle.roc_sched.specs.Schedule.{IsSchedule, IsScheduleFault, item_of}
use Rattle.roc_generate.specs.Load.{IsCallOrChoice, IsLoadOf}
use Rattle.roc_replay.specs.declared.asked.BoundLine.{BoundLine}
use Rattle.roc_replay.specs.declared.asked.Wanted.{Wanted}
use Rattle.roc_replay.specs.declared.asked.Wanted.TheVariants as wanted
use Rattle.roc_replay.specs.BoundLine.{played_forms, arguments_of, submission_of, wanted_by, numbered, asked_by, AsksForSent}
use Rattle.roc_replay.specs.Ended.{IsReplayed, IsTextFault, no_schedule, unfit, unsent}
use Rattle.roc_replay.proofs.Schedules.{each_made}
use Rattle.roc_check.specs.Checked.{IsPlanOfText}
use Rattle.roc_generate.specs.WorkloadText.{generated_workload}
use Rattle.roc_generate.specs.ScheduleText.{generated_schedule}
use Rattle.roc_generate.specs.SummaryText.{load_summary_text}
use Rattle.roc_replay.specs.declared.ended.Summary.{Summary}
use Rattle.roc_cli_words.specs.declared.value.Part.{Part}
use Rattle.roc_cli_words.specs.declared.value.Part.TheVariants as part
use Rattle.roc_cli.specs.Done.{IsGenerated, the_workload, the_schedule, the_run}
use Rattle.roc_cli.proofs.FittingNodes.{at_behind}

-- no message is named, so that none can lack
abbrev NamesNone : Wanted → Type 0
NamesNone a = (w : GrownWorld) → AsksForSent w a

module _ (program : Workload) where
  -- what a call or a choice asks for
  submission_is : (coord : ℕ) (args : List ℤ) (o : Option ℕ) (proc : ℕ) → o ≡ Some proc → length args ≡ arguments_of program proc
      → submission_of program coord args o ≡ Ok (wanted.Event (event.Submit coord proc args))
  submission_is coord args o proc named count =
      ap (submission_of program coord args) named
      ∙ ap (λ b. if b then Ok (wanted.Event (event.Submit coord proc args)) else Err what.Arguments) (eq-eqb (length args) (arguments_of program proc) count)

  wants : (a : Act) → IsCallOrChoice program a → (w : Wanted) × (wanted_by program a ≡ Ok w) × NamesNone w
  wants (act.Submit coord name args) h = (wanted.Event (event.Submit coord h.1.0 args), submission_is coord args (procedure_named program name) h.1.0 h.1.1 h.1.2, λ w. tt)
  wants (act.Deliver message) h = absurd h
  wants (act.Any place) h = (wanted.Any place, refl, λ w. tt)
  wants (act.Tick node) h = absurd h
  wants (act.Stop shard during) h = absurd h
  wants (act.Drain coord) h = absurd h

  never_unfit : (line : Line) (fault : What) → IsCallOrChoice program line.act → asked_by program line ≡ Err fault → ⊥
  never_unfit line fault h e =
      let found = wants line.act h in
      let both : Ok (record { number = line.number; wanted = found.0 }) ≡ Err fault = sym (ap (numbered line.number) found.1) ∙ e in
      absurd (cc)

  never_named : (line : Line) (one : BoundLine) → IsCallOrChoice program line.act → item_of (asked_by program line) ≡ Some one → NamesNone one.wanted
  never_named line one h e =
      let found = wants line.act h in
      let same : record { number = line.number; wanted = found.0 } ≡ one = same_Some _ one (sym (ap (λ r. item_of (numbered line.number r)) found.1) ∙ e) in
      subst (λ (x : BoundLine). NamesNone x.wanted) same found.2

module _
    (one_list : (forms : Forms) (shards : ℕ) (text : List ℕ) (some others : List Line) → IsSchedule forms shards text some → IsSchedule forms shards text others → some ≡ others)
    (one_of_both : (forms : Forms) (shards : ℕ) (text : List ℕ) (lines : List Line) (line : ℕ) (what : What) → IsSchedule forms shards text lines → IsScheduleFault forms shards text line what → ⊥)
    (plan : Plan) (text : List ℕ) (lines : List Line) (load : IsLoadOf plan.program text lines) where
  pub load_is_right : (number : ℕ) (fault : What) (old new : Option (List ℕ)) → IsTextFault plan None text number fault old new → ⊥
  load_is_right number fault old new (no_schedule is same) = one_of_both (played_forms None) plan.program.shards text lines number fault (load.read true) is
  load_is_right number fault old new (unfit h same) =
      let e : lines ≡ h.before ++ h.line ∷ h.behind = one_list (played_forms None) plan.program.shards text lines _ (load.read true) h.schedule in
      never_unfit plan.program h.line fault (at_behind (λ line. IsCallOrChoice plan.program line.act) h.before h.line h.behind (subst (AllByRecursion (λ line. IsCallOrChoice plan.program line.act)) e load.fits)) h.is
  load_is_right number fault old new (unsent is h) =
      let fits : AllByRecursion (λ line. IsCallOrChoice plan.program line.act) h.of_schedule.lines =
      subst (AllByRecursion (λ line. IsCallOrChoice plan.program line.act)) (one_list (played_forms None) plan.program.shards text lines _ (load.read true) h.of_schedule.schedule) load.fits in
      h.unsent
      (at_behind (λ one. NamesNone one.wanted) h.before h.line h.behind
      (each_made (λ line. item_of (asked_by plan.program line)) (λ line. IsCallOrChoice plan.program line.act) (λ one. NamesNone one.wanted) (never_named plan.program) h.of_schedule.lines _ fits h.of_schedule.asks)
      h.world)

-- ---- what is generated

pub generated_run : {X E : Type 0} (items : X → List ℕ) (seed shards txns : ℕ) (plan : Plan) (summary : Summary) (result : Result X E) → IsPlanOfText (generated_workload shards) plan
    → IsReplayed plan None (generated_schedule seed shards txns) summary None None → IfOk result (λ t. items t ≡ load_summary_text summary.answered summary.pending summary.messages summary.busy)
    → IfOk result (λ t. IsGenerated seed shards txns part.Run (items t))
generated_run items seed shards txns plan summary (Ok t) planned replayed e = subst (IsGenerated seed shards txns part.Run) (sym e) (the_run plan summary planned replayed)
generated_run items seed shards txns plan summary (Err error) planned replayed e = tt

pub workload_is_generated : (seed shards txns : ℕ) (which : Part) (text : List ℕ) → which ≡ part.Workload → text ≡ generated_workload shards → IsGenerated seed shards txns which text
workload_is_generated seed shards txns which text asked e =
    subst (λ p. IsGenerated seed shards txns p text) (sym asked) (subst (IsGenerated seed shards txns part.Workload) (sym e) the_workload)

pub schedule_is_generated : (seed shards txns : ℕ) (which : Part) (text : List ℕ) → which ≡ part.Schedule → text ≡ generated_schedule seed shards txns → IsGenerated seed shards txns which text
schedule_is_generated seed shards txns which text asked e =
    subst (λ p. IsGenerated seed shards txns p text) (sym asked) (subst (IsGenerated seed shards txns part.Schedule) (sym e) the_schedule)
