-- The writes of a report, one for each line of a schedule that was played
use Rattle.std.proofs.Common.{◌≡◌, ℕ, suc, ◌+◌, ◌<◌, List, [], ◌∷◌, ◌++◌, length, take, drop, get_or, true, refl, sym, ap, subst, ◌∙◌, take-append-drop}
use Rattle.std.proofs.lemmas.List.{append-nil}
use Rattle.std.specs.Prelude.{Option}
use Rattle.roc_sequence.proofs.Fronts.{parts_at}
use Rattle.roc_io.specs.Observed.{Adds}
use Rattle.roc_io.specs.Sink.{AddsCut}
use Rattle.roc_io.proofs.Told.{Adds-nil, Adds-trans}
use Rattle.roc_io.proofs.Pieces.{cut_behind}
use Rattle.roc_plan.specs.Groups.{Plan}
use Rattle.roc_program.specs.Program.{Workload}
use Rattle.roc_epoch.specs.declared.next.Next.{Next}
use Rattle.roc_msg.specs.declared.msg.Envelope.{Envelope}
use Rattle.roc_growth.specs.World.{GrownWorld, first_grown_world}
use Rattle.roc_growth.specs.Quiet.{messages_of}
use Rattle.roc_growth.specs.Run.{Stepped}
use Rattle.roc_report.specs.Text.{lines_text}
use Rattle.roc_replay.specs.declared.asked.BoundLine.{BoundLine}
use Rattle.roc_replay.specs.declared.ended.Ended.{Ended}
use Rattle.roc_replay.specs.declared.ended.Ended.TheVariants.{Done, Text, SinkFault, NoMemory}
use Rattle.roc_replay.specs.BoundLine.{coordinators, last_program, IsScheduleOf, event_in}
use Rattle.roc_replay.specs.Inner.Closed.{ClosesReportInPiece}
use Rattle.roc_replay.specs.Pieces.{step_texts, ArePiecesOf, is_broken_off, GoesOutInPieces, whole, some_played, cut_line, cut_end}
use Rattle.roc_replay.specs.Played.{IsPlayed, begun, goes_on, IsPlayedLine}
use Rattle.roc_replay.specs.Report.{step_lines}
use Rattle.roc_replay.proofs.Growing.{sent_after, run_sent}
use Rattle.roc_replay.proofs.Playing.{played_run}

-- the first lines were played, and the sink took a piece for each
pub record ArePiecesSoFar (plan : Plan) (next : Option Next) (lines : List BoundLine) (w : GrownWorld) (old now : Option (List (List ℕ))) : Type 0 where
  pub steps : List Stepped
  pub played : IsPlayed plan next lines steps w
  pub taken : Adds old now (step_texts (last_program plan next) [] steps)

pub no_piece_so_far : (plan : Plan) (next : Option Next) (w : GrownWorld) (old : Option (List (List ℕ))) → w ≡ first_grown_world plan (coordinators next) → ArePiecesSoFar plan next [] w old old
no_piece_so_far plan next w old is = record { steps = []; played = subst (λ (x : GrownWorld). IsPlayed plan next [] [] x) (sym is) begun; taken = Adds-nil old }

step_texts-one : (program : Workload) (before : List Envelope) (steps : List Stepped) (step : Stepped)
    → step_texts program before (steps ++ step ∷ []) ≡ step_texts program before steps ++ lines_text program (step_lines (sent_after before steps) step) ∷ []
step_texts-one program before [] step = refl
step_texts-one program before (first ∷ rest) step =
    ap (λ (texts : List (List ℕ)). lines_text program (step_lines before first) ∷ texts) (step_texts-one program (messages_of first.outcome.world.sent) rest step)

pub one_piece_more : (plan : Plan) (next : Option Next) (lines : List BoundLine) (line : BoundLine) (w after : GrownWorld) (text : List ℕ) (more : ℕ) (old now then : Option (List (List ℕ)))
    → ArePiecesSoFar plan next lines w old now → IsPlayedLine plan next (event_in w line.wanted) w after text more → Adds now then (text ∷ [])
    → ArePiecesSoFar plan next (lines ++ line ∷ []) after old then
one_piece_more plan next lines line w after text more old now then so played adds =
    let s : Stepped = record { event = event_in w line.wanted; outcome = played.outcome } in
    let program = last_program plan next in
    let texts : step_texts program [] (so.steps ++ s ∷ []) ≡ step_texts program [] so.steps ++ text ∷ [] =
    step_texts-one program [] so.steps s
    ∙ ap (λ (sent : List Envelope). step_texts program [] so.steps ++ lines_text program (step_lines sent s) ∷ []) (run_sent plan next (coordinators next) so.steps w (played_run plan next lines so.steps w so.played))
    ∙ ap (λ (t : List ℕ). step_texts program [] so.steps ++ t ∷ []) (sym played.shows) in
    record {
      steps = so.steps ++ s ∷ [];
      played = subst (λ (x : GrownWorld). IsPlayed plan next (lines ++ line ∷ []) (so.steps ++ s ∷ []) x) played.world (goes_on line played.outcome so.played played.transition);
      taken = subst (Adds old then) (sym texts) (Adds-trans old now then (step_texts program [] so.steps) (text ∷ []) so.taken adds);
    }

-- ---- the ends

module _ (plan : Plan) (next : Option Next) (schedule : List ℕ) (lines : List BoundLine) (of : IsScheduleOf plan next schedule lines) where
  -- the pieces of some first lines
  pieces_of : (before behind : List BoundLine) (w : GrownWorld) (old now : Option (List (List ℕ))) → before ++ behind ≡ lines → (so : ArePiecesSoFar plan next before w old now)
      → ArePiecesOf plan next schedule before behind w (step_texts (last_program plan next) [] so.steps)
  pieces_of before behind w old now parts so = record { of_schedule = subst (IsScheduleOf plan next schedule) (sym parts) of; steps = so.steps; played = so.played; are = refl }

  -- it ended before the line at i
  pub broken_off : (end : Ended) (i : ℕ) (w : GrownWorld) (old now : Option (List (List ℕ))) → is_broken_off end ≡ true → ArePiecesSoFar plan next (take i lines) w old now
      → GoesOutInPieces plan next schedule old now end
  broken_off end i w old now broken so =
      some_played end (take i lines) (drop i lines) w _ broken (pieces_of (take i lines) (drop i lines) w old now (take-append-drop i lines) so) so.taken

  -- the sink failed at the text of the line at i
  pub cut_at_line : (i : ℕ) (line : BoundLine) (w after : GrownWorld) (text : List ℕ) (more : ℕ) (old now then : Option (List (List ℕ))) → i < length lines → line ≡ get_or lines i line
      → ArePiecesSoFar plan next (take i lines) w old now → IsPlayedLine plan next (event_in w line.wanted) w after text more → AddsCut now then [] text
      → GoesOutInPieces plan next schedule old then SinkFault
  cut_at_line i line w after text more old now then within is so played cut =
      cut_line (take i lines) line (drop (suc i) lines) w after _ text more
      (pieces_of (take i lines) (line ∷ drop (suc i) lines) w old now (parts_at lines i line within is) so) played (cut_behind old now then _ text so.taken cut)

  -- the closing lines
  pub closed_in_piece : (w : GrownWorld) (old now then : Option (List (List ℕ))) → ArePiecesSoFar plan next lines w old now → (e : Ended) → ClosesReportInPiece (last_program plan next) w e now then
      → GoesOutInPieces plan next schedule old then e
  closed_in_piece w old now then so (Done summary) adds = whole summary lines w _ (pieces_of lines [] w old now (append-nil lines) so) (Adds-trans old now then _ _ so.taken adds)
  closed_in_piece w old now then so SinkFault cut = cut_end lines w _ (pieces_of lines [] w old now (append-nil lines) so) (cut_behind old now then _ _ so.taken cut)
  closed_in_piece w old now then so NoMemory same =
      some_played NoMemory lines [] w _ refl (pieces_of lines [] w old now (append-nil lines) so)
      (subst (λ (x : Option (List (List ℕ))). Adds old x (step_texts (last_program plan next) [] so.steps)) (sym same) so.taken)
  closed_in_piece w old now then so (Text line what) never = absurd never
