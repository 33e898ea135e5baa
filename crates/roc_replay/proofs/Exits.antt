-- What the sink took at each end of a replay
use Rattle.std.proofs.Common.{◌≡◌, ℕ, suc, ◌+◌, ◌<◌, List, [], ◌∷◌, ◌++◌, length, map, take, drop, get_or, Bool, true, false, cond, refl, sym, ap, subst, ◌∙◌, arith, take-append-drop}
use Rattle.std.proofs.lemmas.Grind.{flat_map-append}
use Rattle.std.proofs.lemmas.List.{append-nil}
use Rattle.std.specs.Prelude.{Option, count_by, fold}
use Rattle.std.specs.List.{AllByRecursion}
use Rattle.roc_sequence.proofs.Fronts.{parts_at}
use Rattle.roc_sequence.proofs.Holds.{all_append}
use Rattle.roc_io.specs.Observed.{Adds, AddsFront}
use Rattle.roc_io.proofs.Told.{Adds-trans, AddsThenFront-behind}
use Rattle.roc_base.specs.declared.id.TxnId.{TxnId}
use Rattle.roc_plan.specs.Groups.{Plan}
use Rattle.roc_epoch.specs.declared.next.Next.{Next}
use Rattle.roc_growth.specs.Run.{Stepped, IsGrownRun}
use Rattle.roc_growth.specs.Quiet.{messages_of}
use Rattle.roc_growth.specs.World.{GrownWorld}
use Rattle.roc_world.specs.Reads.{cells_of, unanswered_of}
use Rattle.roc_report.specs.Line.{Line, Row, Pending}
use Rattle.roc_report.specs.ReportLine.{HasSmallNumbers, HaveSmallNumbers, NamesPartsOf, IsReportLine}
use Rattle.roc_report.specs.Text.{line_text, lines_text}
use Rattle.roc_replay.specs.declared.ended.Ended.{Ended}
use Rattle.roc_replay.specs.declared.ended.Ended.TheVariants.{Done, Text, SinkFault, NoMemory}
use Rattle.roc_replay.specs.declared.asked.BoundLine.{BoundLine}
use Rattle.roc_replay.specs.BoundLine.{IsScheduleOf, coordinators, last_program, event_in}
use Rattle.roc_replay.specs.Cells.{by_cell}
use Rattle.roc_replay.specs.Inner.Closed.{IsClosed, wants_unsent}
use Rattle.roc_replay.specs.Ended.{AnswersWhatIsQuiet, AreFiled, IsUnsent, IsCut, at_line, at_end, IsUnfinished, behind_lines}
use Rattle.roc_replay.specs.Inner.Ends.{IsEnd}
use Rattle.roc_replay.specs.Played.{IsPlayedLine}
use Rattle.roc_replay.specs.Report.{is_busy, busy_in, end_line, closing_lines, steps_lines, report}
use Rattle.roc_replay.specs.Readback.{orders_in, IsExplained, FilesStandApart}
use Rattle.roc_replay.proofs.AskedMessages.{is_not_there}
use Rattle.roc_replay.proofs.Playing.{played_run}
use Rattle.roc_replay.proofs.SoFar.{IsSoFar, count_by-append}

none_counted : {A B : Type 0} (p : B → Bool) (f : A → B) → ((a : A) → p (f a) ≡ false) → (xs : List A) → count_by p (map f xs) ≡ 0
none_counted p f none [] = refl
none_counted p f none (x ∷ xs) = ap (λ b. fold (λ n y. n + cond (p y) 1 0) (0 + cond b 1 0) (map f xs)) (none x) ∙ none_counted p f none xs

-- ---- the ends

module _ (plan : Plan) (next : Option Next) (schedule : List ℕ) (lines : List BoundLine) (of : IsScheduleOf plan next schedule lines) where
  -- the next line asks for a message that is not there
  pub unsent_end : (i : ℕ) (line : BoundLine) (w : GrownWorld) (busy : ℕ) (old now : Option (List ℕ)) → i < length lines → line ≡ get_or lines i line
      → IsSoFar plan next (take i lines) w busy old now → wants_unsent line.wanted (messages_of w.sent) ≡ true → IsUnsent plan next schedule line.number old now
  unsent_end i line w busy old now within is so asks = record {
    before = take i lines;
    line = line;
    behind = drop (suc i) lines;
    of_schedule = subst (IsScheduleOf plan next schedule) (sym (parts_at lines i line within is)) of;
    numbered = refl;
    steps = so.steps;
    world = w;
    played = so.played;
    unsent = is_not_there w line.wanted asks;
    taken = so.taken;
  }

  -- no memory for the next line
  pub stopped_end : (i : ℕ) (w : GrownWorld) (busy : ℕ) (old now : Option (List ℕ)) → IsSoFar plan next (take i lines) w busy old now → IsUnfinished plan next schedule old now
  stopped_end i w busy old now so =
      behind_lines (take i lines) (drop i lines) so.steps w (subst (IsScheduleOf plan next schedule) (sym (take-append-drop i lines)) of) so.played so.taken

  -- the sink failed at the text of a line
  pub failed_end : (i : ℕ) (line : BoundLine) (w after : GrownWorld) (text : List ℕ) (busy more : ℕ) (old now then : Option (List ℕ)) → i < length lines → line ≡ get_or lines i line
      → IsSoFar plan next (take i lines) w busy old now → IsPlayedLine plan next (event_in w line.wanted) w after text more → AddsFront now then text → IsCut plan next schedule old then
  failed_end i line w after text busy more old now then within is so played front =
      at_line (take i lines) line (drop (suc i) lines) so.steps w after text more
      (subst (IsScheduleOf plan next schedule) (sym (parts_at lines i line within is)) of) so.played played
      (AddsThenFront-behind old now then _ text so.taken front)

  -- ---- the closing lines

  busy_in-closing : (w : GrownWorld) → busy_in (closing_lines w) ≡ 0
  busy_in-closing w =
      let rows = map (λ e. Row e.0 e.1) (by_cell (cells_of w)) in
      let one = count_by-append is_busy rows (map Pending (unanswered_of w) ++ end_line w ∷ []) in
      let two = count_by-append is_busy (map Pending (unanswered_of w)) (end_line w ∷ []) in
      let three = none_counted is_busy (λ e. Row e.0 e.1) (λ e. refl) (by_cell (cells_of w)) in
      let four = none_counted is_busy Pending (λ id. refl) (unanswered_of w) in
      omega arith

  -- lines with small numbers that name parts of the program are lines of a report
  report_lines : (ls : List Line) → HaveSmallNumbers ls → AllByRecursion (NamesPartsOf (last_program plan next)) ls → AllByRecursion (IsReportLine (last_program plan next)) ls
  report_lines [] small parts = tt
  report_lines (l ∷ ls) small parts = (record { small = small.0; parts = parts.0 }, report_lines ls small.1 parts.1)

  -- where each run of the plan explains itself, and its lines name parts of the program
  pub closed_end : (explains : (coords : ℕ) (steps : List Stepped) (w : GrownWorld) → IsGrownRun plan next coords steps w → IsExplained (last_program plan next) (report steps w))
      → (filed : (coords : ℕ) (steps : List Stepped) (w : GrownWorld) → IsGrownRun plan next coords steps w → (order : List TxnId) → orders_in (report steps w) ≡ order ∷ []
      → AreFiled plan next w (report steps w) order)
      → (apart : (coords : ℕ) (steps : List Stepped) (w : GrownWorld) → IsGrownRun plan next coords steps w → (order : List TxnId) → orders_in (report steps w) ≡ order ∷ []
      → FilesStandApart (report steps w) order)
      → (answers : (coords : ℕ) (steps : List Stepped) (w : GrownWorld) → IsGrownRun plan next coords steps w → AnswersWhatIsQuiet plan next steps w (report steps w))
      → (names : (coords : ℕ) (steps : List Stepped) (w : GrownWorld) → IsGrownRun plan next coords steps w → AllByRecursion (NamesPartsOf (last_program plan next)) (report steps w))
      → (w : GrownWorld) (busy : ℕ) (old now then : Option (List ℕ)) → IsSoFar plan next lines w busy old now → (e : Ended)
      → IsClosed (last_program plan next) w busy e now then → IsEnd plan next schedule e old then
  closed_end explains filed apart answers names w busy old now then so (Done summary) (adds, end, refused, small) =
      let run = played_run plan next lines so.steps w so.played in
      let count = coordinators next in
      let told = explains count so.steps w run in
      record {
        lines = report so.steps w;
        taken = subst (Adds old then) (sym (flat_map-append (line_text (last_program plan next)) (steps_lines [] so.steps) (closing_lines w))) (Adds-trans old now then _ _ so.taken adds);
        are = report_lines (report so.steps w) (all_append HasSmallNumbers (steps_lines [] so.steps) (closing_lines w) so.small small) (names count so.steps w run);
        explained = told;
        apart = apart count so.steps w run told.order told.shown;
        run = record { asked = lines; of_schedule = of; steps = so.steps; world = w; played = so.played; is = refl };
        filed = filed count so.steps w run told.order told.shown;
        answers = answers count so.steps w run;
        end = end;
        busy = (let all = count_by-append is_busy (steps_lines [] so.steps) (closing_lines w) in let none = busy_in-closing w in let before = so.refused in omega arith);
      }
  closed_end explains filed apart answers names w busy old now then so SinkFault front = at_end lines so.steps w of so.played (AddsThenFront-behind old now then _ _ so.taken front)
  closed_end explains filed apart answers names w busy old now then so NoMemory same =
      behind_lines lines [] so.steps w (subst (IsScheduleOf plan next schedule) (sym (append-nil lines)) of) so.played
      (subst (λ (x : Option (List ℕ)). Adds old x (lines_text (last_program plan next) (steps_lines [] so.steps))) (sym same) so.taken)
  closed_end explains filed apart answers names w busy old now then so (Text line what) never = absurd never
