-- What holds after some first lines of a schedule were played, and how one line more keeps it
use Rattle.std.proofs.Common.{◌≡◌, ℕ, ◌+◌, ◌≤◌, List, [], ◌∷◌, ◌++◌, length, Bool, refl, sym, ap, subst, ◌∙◌, arith, length-append}
use Rattle.std.proofs.lemmas.Grind.{flat_map-append}
use Rattle.std.proofs.lemmas.List.FromFn.{length-map-range_with_len}
use Rattle.std.proofs.lemmas.List.Sums.{sum_by-append}
use Rattle.std.specs.Prelude.{Option, count_by, drop}
use Rattle.roc_sequence.proofs.Holds.{all_append}
use Rattle.roc_io.specs.Observed.{Adds}
use Rattle.roc_io.proofs.Told.{Adds-nil, Adds-trans}
use Rattle.roc_plan.specs.Groups.{Plan}
use Rattle.roc_epoch.specs.declared.next.Next.{Next}
use Rattle.roc_msg.specs.declared.msg.Envelope.{Envelope}
use Rattle.roc_growth.specs.declared.event.Seen.{Seen}
use Rattle.roc_growth.specs.declared.event.Seen.TheVariants as seen
use Rattle.roc_growth.specs.World.{GrownWorld, first_grown_world}
use Rattle.roc_growth.specs.Fits.{FitsGrown}
use Rattle.roc_grown.specs.Coord.{first_grown_coord}
use Rattle.roc_growth.specs.Quiet.{messages_of}
use Rattle.roc_growth.specs.Run.{Stepped}
use Rattle.roc_report.specs.Line.{Line}
use Rattle.roc_report.specs.ReportLine.{HasSmallNumbers, HaveSmallNumbers}
use Rattle.roc_report.specs.Text.{line_text, lines_text}
use Rattle.roc_replay.specs.declared.asked.BoundLine.{BoundLine}
use Rattle.roc_replay.specs.BoundLine.{coordinators, last_program, event_in}
use Rattle.roc_replay.specs.Played.{IsPlayed, begun, goes_on, IsPlayedLine}
use Rattle.roc_replay.specs.Report.{is_busy, busy_in, first_lines, send_lines, answer_lines, step_lines, steps_lines}
use Rattle.roc_replay.proofs.Growing.{run_lines}
use Rattle.roc_replay.proofs.Playing.{played_run}

-- the first lines were played, and the sink took their text
pub record IsSoFar (plan : Plan) (next : Option Next) (lines : List BoundLine) (w : GrownWorld) (busy : ℕ) (old now : Option (List ℕ)) : Type 0 where
  pub steps : List Stepped
  pub played : IsPlayed plan next lines steps w
  pub fits : FitsGrown plan next w
  pub coords : length w.coords ≡ coordinators next
  pub taken : Adds old now (lines_text (last_program plan next) (steps_lines [] steps))
  pub small : HaveSmallNumbers (steps_lines [] steps)
  pub refused : busy ≡ busy_in (steps_lines [] steps)
  pub few : busy ≤ length lines

pub nothing_so_far : (plan : Plan) (next : Option Next) (w : GrownWorld) (old : Option (List ℕ)) → w ≡ first_grown_world plan (coordinators next) → FitsGrown plan next w → IsSoFar plan next [] w 0 old old
nothing_so_far plan next w old is fits = record {
  steps = [];
  played = subst (λ (x : GrownWorld). IsPlayed plan next [] [] x) (sym is) begun;
  fits = fits;
  coords = ap (λ (x : GrownWorld). length x.coords) is ∙ length-map-range_with_len first_grown_coord 0 (coordinators next);
  taken = Adds-nil old;
  small = tt;
  refused = refl;
  few = omega arith;
}

-- ---- one line more

pub count_by-append : {A : Type 0} (p : A → Bool) (xs ys : List A) → count_by p (xs ++ ys) ≡ count_by p xs + count_by p ys
count_by-append p xs ys = sum_by-append _ xs ys

busy_in-sends : (number : ℕ) (sent : List Envelope) → busy_in (send_lines number sent) ≡ 0
busy_in-sends number [] = refl
busy_in-sends number (s ∷ rest) = busy_in-sends (number + 1) rest

busy_in-answer : (s : Seen) → busy_in (answer_lines s) ≡ 0
busy_in-answer (seen.Answered id reply) = refl
busy_in-answer (seen.Submitted id) = refl
busy_in-answer seen.Spent = refl
busy_in-answer seen.Busy = refl
busy_in-answer seen.Draining = refl
busy_in-answer seen.NoProc = refl
busy_in-answer seen.Done = refl
busy_in-answer seen.Gone = refl
busy_in-answer seen.Skipped = refl
busy_in-answer (seen.Ignored reason) = refl

busy_in-step : (before : List Envelope) (step : Stepped) → busy_in (step_lines before step) ≡ busy_in (first_lines step.event step.outcome.seen)
busy_in-step before step =
    let sends = send_lines (length before + 1) (drop (length before) (messages_of step.outcome.world.sent)) in
    let one = count_by-append is_busy (first_lines step.event step.outcome.seen) (sends ++ answer_lines step.outcome.seen) in
    let two = count_by-append is_busy sends (answer_lines step.outcome.seen) in
    let three = busy_in-sends (length before + 1) (drop (length before) (messages_of step.outcome.world.sent)) in
    let four = busy_in-answer step.outcome.seen in
    omega arith

-- a run with one line more
module _ (plan : Plan) (next : Option Next) (lines : List BoundLine) (line : BoundLine) (steps : List Stepped) (w after : GrownWorld) (text : List ℕ) (more : ℕ)
    (played : IsPlayed plan next lines steps w) (now : IsPlayedLine plan next (event_in w line.wanted) w after text more) where
  pub step : Stepped
  step = record { event = event_in w line.wanted; outcome = now.outcome }

  abbrev new_lines : List Line
  new_lines = step_lines (messages_of w.sent) step

  pub played_more : IsPlayed plan next (lines ++ line ∷ []) (steps ++ step ∷ []) after
  unfolding step
  played_more = subst (λ (x : GrownWorld). IsPlayed plan next (lines ++ line ∷ []) (steps ++ step ∷ []) x) now.world (goes_on line now.outcome played now.transition)

  pub lines_more : steps_lines [] (steps ++ step ∷ []) ≡ steps_lines [] steps ++ new_lines
  lines_more = run_lines plan next (coordinators next) steps w (played_run plan next lines steps w played) step

  pub text_more : lines_text (last_program plan next) (steps_lines [] (steps ++ step ∷ [])) ≡ lines_text (last_program plan next) (steps_lines [] steps) ++ text
  unfolding step
  text_more =
      ap (lines_text (last_program plan next)) lines_more
      ∙ flat_map-append (line_text (last_program plan next)) (steps_lines [] steps) new_lines
      ∙ ap (λ (t : List ℕ). lines_text (last_program plan next) (steps_lines [] steps) ++ t) (sym now.shows)

  pub small_more : HaveSmallNumbers (steps_lines [] steps) → HaveSmallNumbers (steps_lines [] (steps ++ step ∷ []))
  unfolding step
  small_more small = subst HaveSmallNumbers (sym lines_more) (all_append HasSmallNumbers (steps_lines [] steps) new_lines small now.small)

  pub busy_more : busy_in (steps_lines [] (steps ++ step ∷ [])) ≡ busy_in (steps_lines [] steps) + more
  unfolding step
  busy_more =
      ap busy_in lines_more
      ∙ count_by-append is_busy (steps_lines [] steps) new_lines
      ∙ ap (λ (n : ℕ). busy_in (steps_lines [] steps) + n) (busy_in-step (messages_of w.sent) step ∙ sym now.refused)

pub one_more : (plan : Plan) (next : Option Next) (lines : List BoundLine) (line : BoundLine) (w after : GrownWorld) (text : List ℕ) (busy more : ℕ) (old now then : Option (List ℕ))
    → IsSoFar plan next lines w busy old now → IsPlayedLine plan next (event_in w line.wanted) w after text more → FitsGrown plan next after → length after.coords ≡ coordinators next → more ≤ 1 → Adds now then text
    → IsSoFar plan next (lines ++ line ∷ []) after (busy + more) old then
one_more plan next lines line w after text busy more old now then so played fits coords few adds =
    let s : Stepped = step plan next lines line so.steps w after text more so.played played in
    record {
      steps = so.steps ++ s ∷ [];
      played = played_more plan next lines line so.steps w after text more so.played played;
      fits = fits;
      coords = coords;
      taken = subst (Adds old then) (sym (text_more plan next lines line so.steps w after text more so.played played)) (Adds-trans old now then _ text so.taken adds);
      small = small_more plan next lines line so.steps w after text more so.played played so.small;
      refused = ap (λ (n : ℕ). n + more) so.refused ∙ sym (busy_more plan next lines line so.steps w after text more so.played played);
      few = (let counted = length-append lines (line ∷ []) in let before = so.few in omega arith);
    }
