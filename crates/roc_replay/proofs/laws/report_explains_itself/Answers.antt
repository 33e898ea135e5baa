use Rattle.std.proofs.Common.{ℕ, ℤ, pos, negsuc, ◌-◌, ◌%◌, ◌<◌, arith, mod-lt}
use Rattle.roc_plan.specs.Accepted.{IsAccepted}
use Rattle.roc_plan.specs.Groups.{Plan, shard_of}
use Rattle.roc_epoch.specs.Files.{last_plan}
use Rattle.roc_whole.specs.Serial.{serial_store, start_store}
use Rattle.roc_audit.specs.Witness.{submitted_calls}
use Rattle.roc_growth.specs.Witness.{witness_of}
use Rattle.roc_growth.proofs.Phases.{last_accepted}
use Rattle.roc_replay.specs.BoundLine.{last_program}
use Rattle.roc_replay.proofs.ShownCells.{shown_cells, all_answered}
use Rattle.roc_replay.proofs.Shows.{explained, quiet_answered}
use Rattle.roc_replay.proofs.IgnoredLines.{report_stale}
use Rattle.roc_replay.proofs.laws.report_explains_itself.Goals as goal

-- each place is some shard's
placed : (plan : Plan) → IsAccepted plan → (place : ℤ) → shard_of plan place < plan.program.shards
placed plan ok (pos a) = mod-lt a ok.well_formed.some_shard
placed plan ok (negsuc a) = below plan.program.shards (a % plan.program.shards) ok.well_formed.some_shard
  where
    below : (n r : ℕ) → 0 < n → n - 1 - r < n
    below n r l = omega (arith, l)

pub returns-clause-explained : goal.returns-clause-explained
returns-clause-explained c plan next coords steps w accepted of run =
    let last = last_program plan next in
    let answered = all_answered steps w in
    explained plan next coords steps w (c.quiet_transactions_are_answered.ensures.answered plan next coords steps w accepted of run) run
    (c.witness_is_serial.ensures.plain plan next coords steps w accepted of run)
    (λ none.
    shown_cells (last_plan plan next) w
    (c.cells_are_in_their_place.ensures.servers plan next coords steps w accepted of run)
    (placed (last_plan plan next) (last_accepted plan next accepted of))
    (c.cells_are_in_their_place.ensures.apart plan next coords steps w accepted of run)
    c.entries_are_not_zero.ensures.exactly
    (serial_store last (start_store last) (submitted_calls w.history (witness_of w)))
    (c.cells_are_serial.ensures plan next coords steps w accepted of run (λ t proc args h plain. answered none (c.submissions_are_kept.ensures.submitted plan next coords steps w accepted of run) t (proc, args, h)))
    steps)
    (c.ids_are_told_once.ensures plan next coords steps w accepted of run)
    (report_stale plan next coords (λ before old reached. c.nothing_is_refused.ensures.coordinators plan next coords before old accepted of reached) steps w run)

pub returns-clause-answers : goal.returns-clause-answers
returns-clause-answers c plan next coords steps w accepted of run =
    quiet_answered plan next coords steps w (c.quiet_transactions_are_answered.ensures.answered plan next coords steps w accepted of run) run
    (c.quiet_views_are_answered.ensures plan next coords steps w accepted of run)
