-- The lines of a run name procedures and cells that the program has
use Rattle.std.proofs.Common.{◌≡◌, ◌≢◌, ◌↔◌, ℕ, ℤ, pos, ◌+◌, ◌<◌, List, [], ◌∷◌, ◌++◌, Option, Some, None, length, drop, map, sym, subst, ◌∙◌}
use Rattle.std.specs.Prelude.{Contains}
use Rattle.std.specs.List.{AllByRecursion}
use Rattle.roc_sequence.specs.Lists.{Has}
use Rattle.roc_sequence.proofs.Members.{from_has_flat_map}
use Rattle.roc_sequence.proofs.Holds.{all_has, has_all, all_append}
use Rattle.roc_base.specs.declared.id.TxnId.{TxnId}
use Rattle.roc_rows.specs.declared.cell.Cell.{Cell}
use Rattle.roc_rows.specs.Store.{Store, read, entries}
use Rattle.roc_plan.specs.Accepted.{IsAccepted}
use Rattle.roc_plan.specs.Groups.{Plan}
use Rattle.roc_epoch.specs.declared.next.Next.{Next}
use Rattle.roc_epoch.specs.Files.{IsNextOf}
use Rattle.roc_msg.specs.declared.msg.Envelope.{Envelope}
use Rattle.roc_growth.specs.declared.event.Event.{Event}
use Rattle.roc_growth.specs.declared.event.Event.TheVariants.{Submit, Deliver, Tick, Stop, Drain}
use Rattle.roc_growth.specs.declared.event.Seen.{Seen}
use Rattle.roc_growth.specs.declared.event.Seen.TheVariants as seen
use Rattle.roc_growth.specs.World.{GrownWorld}
use Rattle.roc_growth.specs.Happens.{Outcome}
use Rattle.roc_grown.specs.Server.{GrownServerState}
use Rattle.roc_growth.specs.Run.{Stepped, Transition, IsGrownRun, at_first, steps_on}
use Rattle.roc_growth.specs.Quiet.{messages_of}
use Rattle.roc_world.specs.Reads.{cells_of, unanswered_of}
use Rattle.roc_report.specs.Line.{Line, Row, Pending}
use Rattle.roc_report.specs.ReportLine.{IsCellOf, NamesPartsOf}
use Rattle.roc_replay.specs.BoundLine.{last_program}
use Rattle.roc_replay.specs.Cells.{by_cell}
use Rattle.roc_replay.specs.Report.{untaken_lines, submission_lines, first_lines, send_lines, answer_lines, step_lines, steps_lines, end_line, closing_lines, report}
use Rattle.roc_replay.proofs.Growing.{run_lines}
use Rattle.roc_replay.proofs.OwnCells.{ReadLaws, HoldsOwn, own_cell}
use Rattle.roc_replay.proofs.OwnServers.{run_own}
use Rattle.roc_replay.proofs.ShownCells.{has_contains, from_by_cell}

-- ---- a step

module _ (plan : Plan) (next : Option Next) where
  abbrev NameParts : List Line → Type 0
  NameParts lines = AllByRecursion (NamesPartsOf (last_program plan next)) lines

  submission_parts : (n proc : ℕ) (args : List ℤ) (s : Seen) → proc < length (last_program plan next).procedures → NameParts (submission_lines n proc args s)
  submission_parts n proc args (seen.Submitted id) known = (known, tt)
  submission_parts n proc args seen.Spent known = (tt, tt)
  submission_parts n proc args seen.Busy known = (tt, tt)
  submission_parts n proc args seen.Draining known = (tt, tt)
  submission_parts n proc args seen.NoProc known = (tt, tt)
  submission_parts n proc args s known = tt

  untaken_parts : (s : Seen) → NameParts (untaken_lines s)
  untaken_parts (seen.Ignored reason) = (tt, tt)
  untaken_parts seen.Gone = (tt, tt)
  untaken_parts seen.Skipped = (tt, tt)
  untaken_parts s = tt

  first_parts : (w : GrownWorld) (e : Option Event) (o : Outcome) → Transition plan next w e o → NameParts (first_lines e o.seen)
  first_parts w None o h = (tt, tt)
  first_parts w (Some (Submit n proc args)) o (call, s, there, h) = submission_parts n proc args o.seen call.0
  first_parts w (Some (Deliver k)) o h = (tt, untaken_parts o.seen)
  first_parts w (Some (Tick node)) o h = (tt, tt)
  first_parts w (Some (Stop shard during)) o h = (tt, tt)
  first_parts w (Some (Drain number)) o h = (tt, tt)

  sends_parts : (number : ℕ) (sent : List Envelope) → NameParts (send_lines number sent)
  sends_parts number [] = tt
  sends_parts number (m ∷ rest) = (tt, sends_parts (number + 1) rest)

  answer_parts : (s : Seen) → NameParts (answer_lines s)
  answer_parts (seen.Answered id reply) = (tt, tt)
  answer_parts s = tt

  both_parts : (xs ys : List Line) → NameParts xs → NameParts ys → NameParts (xs ++ ys)
  both_parts xs ys h k = all_append (NamesPartsOf (last_program plan next)) xs ys h k

  step_parts : (w : GrownWorld) (e : Option Event) (o : Outcome) → Transition plan next w e o → NameParts (step_lines (messages_of w.sent) (record { event = e; outcome = o }))
  step_parts w e o h =
      let sends = send_lines (length (messages_of w.sent) + 1) (drop (length (messages_of w.sent)) (messages_of o.world.sent)) in
      both_parts (first_lines e o.seen) (sends ++ answer_lines o.seen) (first_parts w e o h)
      (both_parts sends (answer_lines o.seen) (sends_parts (length (messages_of w.sent) + 1) (drop (length (messages_of w.sent)) (messages_of o.world.sent))) (answer_parts o.seen))

  steps_parts : (coords : ℕ) (steps : List Stepped) (w : GrownWorld) → IsGrownRun plan next coords steps w → NameParts (steps_lines [] steps)
  steps_parts coords steps w (at_first counted) = tt
  steps_parts coords steps w (steps_on {steps = before} {w = v} e o r h) =
      let step : Stepped = record { event = e; outcome = o } in
      subst NameParts (sym (run_lines plan next coords before v r step)) (both_parts (steps_lines [] before) (step_lines (messages_of v.sent) step) (steps_parts coords before v r) (step_parts v e o h))

  -- ---- the end

  rows_parts : (es : List (Cell × ℤ)) → AllByRecursion (λ e. IsCellOf (last_program plan next) e.0) es → NameParts (map (λ e. Row e.0 e.1) es)
  rows_parts [] all = tt
  rows_parts (e ∷ es) all = (all.0, rows_parts es all.1)

  pending_parts : (ids : List TxnId) → NameParts (map Pending ids)
  pending_parts [] = tt
  pending_parts (id ∷ ids) = (tt, pending_parts ids)

  module _ (laws : ReadLaws) (exactly : (s : Store) (c : Cell) (v : ℤ) → Contains (entries s) (c, v) ↔ ((v ≢ pos 0) × (read s c ≡ v))) (accepted : IsAccepted plan) (of : IsNextOf plan next) where
    cells_own : (coords : ℕ) (steps : List Stepped) (w : GrownWorld) → IsGrownRun plan next coords steps w → AllByRecursion (λ e. IsCellOf (last_program plan next) e.0) (by_cell (cells_of w))
    cells_own coords steps w run = has_all (λ e. IsCellOf (last_program plan next) e.0) (by_cell (cells_of w)) own
      where
        own : (e : Cell × ℤ) → Has e (by_cell (cells_of w)) → IsCellOf (last_program plan next) e.0
        own e h =
            let at = from_has_flat_map (λ (s : GrownServerState). entries s.core.store) e w.servers (from_by_cell e (cells_of w) h) in
            let holds : HoldsOwn (last_program plan next) at.0.core.store =
            all_has (λ (s : GrownServerState). HoldsOwn (last_program plan next) s.core.store) at.0 w.servers (run_own laws plan next accepted of coords steps w run) at.1 in
            let there = (exactly at.0.core.store e.0 e.1).0 (has_contains (entries at.0.core.store) e at.2) in
            own_cell (last_program plan next) at.0.core.store e.0 holds (λ e. there.0 (sym there.1 ∙ e))

    closing_parts : (coords : ℕ) (steps : List Stepped) (w : GrownWorld) → IsGrownRun plan next coords steps w → NameParts (closing_lines w)
    closing_parts coords steps w run =
        let pending = map Pending (unanswered_of w) in (
          tt,
          both_parts (map (λ e. Row e.0 e.1) (by_cell (cells_of w))) (pending ++ end_line w ∷ []) (rows_parts (by_cell (cells_of w)) (cells_own coords steps w run))
              (both_parts pending (end_line w ∷ []) (pending_parts (unanswered_of w)) (tt, tt)),
        )

    pub report_parts : (coords : ℕ) (steps : List Stepped) (w : GrownWorld) → IsGrownRun plan next coords steps w → NameParts (report steps w)
    report_parts coords steps w run = both_parts (steps_lines [] steps) (closing_lines w) (steps_parts coords steps w run) (closing_parts coords steps w run)
