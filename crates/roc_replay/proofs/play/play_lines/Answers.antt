-- What is so far, goes on with each line, and what it comes to at each end.
use Rattle.std.proofs.Common.{◌≡◌, ℕ, ◌+◌, List, [], ◌∷◌, take, true, option_copied, refl, ap, subst, ◌∙◌}
use Rattle.roc_sequence.proofs.Fronts.{front_more, front_whole}
use Rattle.roc_io.specs.Observed.{Adds, AddsFront}
use Rattle.roc_program.specs.Program.{Workload}
use Rattle.roc_plan.specs.Groups.{Plan}
use Rattle.roc_growth.specs.Quiet.{messages_of}
use Rattle.roc_replay.specs.declared.asked.BoundLine.{BoundLine}
use Rattle.roc_replay.specs.Inner.Closed.{IsClosed, ClosesReportInPiece, wants_unsent}
use Rattle.roc_replay.proofs.Exits.{unsent_end, stopped_end, failed_end, closed_end}
use Rattle.roc_replay.proofs.PiecesSoFar.{ArePiecesSoFar, no_piece_so_far, one_piece_more, broken_off, cut_at_line, closed_in_piece}
use Rattle.roc_replay.proofs.SoFar.{IsSoFar, nothing_so_far, one_more}
use Rattle.roc_replay.proofs.play.play_lines.Goals as goal

pub loop-line-init : goal.loop-line-init
loop-line-init g c = (
  refl,
  nothing_so_far c.args.plan.now (option_copied c.args.next) c.args.world.now _ c.requires.first c.requires.world,
  no_piece_so_far c.args.plan.now (option_copied c.args.next) c.args.world.now _ c.requires.first,
)

pub returns-then-is_unsent-clause-ends : goal.returns-then-is_unsent-clause-ends
returns-then-is_unsent-clause-ends g c schedule of =
    let asks : wants_unsent c.line-item.result.wanted (messages_of c.loop-line.world.sent) ≡ true = cc in
    (refl, unsent_end c.args.plan.now (option_copied c.args.next) schedule c.args.lines.now of c.loop-line.line-index c.line-item.result c.loop-line.world c.loop-line.busy _ _ c.loop-line-test.true c.line-item.is c.loop-line.invariant.1 asks)

pub returns-in_default-clause-ends : goal.returns-in_default-clause-ends
returns-in_default-clause-ends g c schedule of =
    stopped_end c.args.plan.now (option_copied c.args.next) schedule c.args.lines.now of c.loop-line.line-index c.loop-line.world c.loop-line.busy _ _ c.loop-line.invariant.1

pub returns-in-Failed-clause-ends : goal.returns-in-Failed-clause-ends
returns-in-Failed-clause-ends g c schedule of =
    failed_end c.args.plan.now (option_copied c.args.next) schedule c.args.lines.now of c.loop-line.line-index c.line-item.result c.loop-line.world c.play_line.new.world _ c.loop-line.busy c.in-Ok.played.busy _ _ _
    c.loop-line-test.true c.line-item.is c.loop-line.invariant.1 c.in-Ok.ensures.played
    (subst (AddsFront (g.S.Sink.taken c.loop-line.sink) (g.S.Sink.taken c.write.new.self)) c.deref.ensures.value c.in-Failed.ensures.taken)

pub loop-line-preserved : goal.loop-line-preserved
loop-line-preserved g c = (
  c.in_default-write.ensures.cause ∙ c.loop-line.invariant.0,
  subst (λ (lines : List BoundLine). IsSoFar c.args.plan.now (option_copied c.args.next) lines c.play_line.new.world (c.loop-line.busy + c.in-Ok.played.busy) (g.S.Sink.taken c.args.sink.now) (g.S.Sink.taken c.write.new.self))
      (front_more c.args.lines.now c.loop-line.line-index c.line-item.result c.loop-line-test.true c.line-item.is)
      (one_more c.args.plan.now (option_copied c.args.next) (take c.loop-line.line-index c.args.lines.now) c.line-item.result c.loop-line.world c.play_line.new.world _ c.loop-line.busy c.in-Ok.played.busy _ _ _
      c.loop-line.invariant.1 c.in-Ok.ensures.played c.in-Ok.ensures.fits c.in-Ok.ensures.coords c.in-Ok.ensures.few
      (subst (Adds (g.S.Sink.taken c.loop-line.sink) (g.S.Sink.taken c.write.new.self)) c.deref.ensures.value c.in_default-write.ensures.taken)),
  subst (λ (lines : List BoundLine). ArePiecesSoFar c.args.plan.now (option_copied c.args.next) lines c.play_line.new.world (g.S.Sink.pieces c.args.sink.now) (g.S.Sink.pieces c.write.new.self))
      (front_more c.args.lines.now c.loop-line.line-index c.line-item.result c.loop-line-test.true c.line-item.is)
      (one_piece_more c.args.plan.now (option_copied c.args.next) (take c.loop-line.line-index c.args.lines.now) c.line-item.result c.loop-line.world c.play_line.new.world _ c.in-Ok.played.busy _ _ _
      c.loop-line.invariant.2 c.in-Ok.ensures.played
      (subst (λ (t : List ℕ). Adds (g.S.Sink.pieces c.loop-line.sink) (g.S.Sink.pieces c.write.new.self) (t ∷ [])) c.deref.ensures.value c.in_default-write.ensures.pieces)),
)

pub returns-clause-ends : goal.returns-clause-ends
returns-clause-ends g c schedule of =
    let plan = c.args.plan.now in
    let next = option_copied c.args.next in
    let is_closed : Workload → Type 0 = λ program. IsClosed program c.loop-line.world c.loop-line.busy c.close.result (g.S.Sink.taken c.loop-line.sink) (g.S.Sink.taken c.close.new.sink) in
    closed_end plan next schedule c.args.lines.now of
    (λ coords steps w run. c.report_explains_itself.ensures.explained plan next coords steps w c.plans_are_accepted.ensures c.requires.next run)
    (λ coords steps w run. c.files_are_told_apart.ensures.filed plan next coords steps w c.plans_are_accepted.ensures c.requires.next run)
    (λ coords steps w run. c.files_are_told_apart.ensures.apart plan next coords steps w c.plans_are_accepted.ensures c.requires.next run)
    (λ coords steps w run. c.report_explains_itself.ensures.answers plan next coords steps w c.plans_are_accepted.ensures c.requires.next run)
    (λ coords steps w run. c.lines_name_parts.ensures plan next coords steps w c.plans_are_accepted.ensures c.requires.next run) c.loop-line.world c.loop-line.busy _ _ _
    (subst (λ (lines : List BoundLine). IsSoFar plan next lines c.loop-line.world c.loop-line.busy (g.S.Sink.taken c.args.sink.now) (g.S.Sink.taken c.loop-line.sink))
    (front_whole c.args.lines.now c.loop-line.line-index c.loop-line-test.false) c.loop-line.invariant.1)
    c.close.result (subst is_closed (c.workload.ensures.program ∙ ap (λ (p : Plan). p.program) c.last_plan.ensures) c.close.ensures.closed)

-- ---- the pieces

pub returns-then-is_unsent-clause-pieces : goal.returns-then-is_unsent-clause-pieces
returns-then-is_unsent-clause-pieces g c schedule of =
    broken_off c.args.plan.now (option_copied c.args.next) schedule c.args.lines.now of _ c.loop-line.line-index c.loop-line.world _ _ refl c.loop-line.invariant.2

pub returns-in_default-clause-pieces : goal.returns-in_default-clause-pieces
returns-in_default-clause-pieces g c schedule of =
    broken_off c.args.plan.now (option_copied c.args.next) schedule c.args.lines.now of _ c.loop-line.line-index c.loop-line.world _ _ refl c.loop-line.invariant.2

pub returns-in-Failed-clause-pieces : goal.returns-in-Failed-clause-pieces
returns-in-Failed-clause-pieces g c schedule of =
    let failed = c.in-Failed.ensures.pieces in
    cut_at_line c.args.plan.now (option_copied c.args.next) schedule c.args.lines.now of c.loop-line.line-index c.line-item.result c.loop-line.world c.play_line.new.world _
    c.in-Ok.played.busy _ _ _ c.loop-line-test.true c.line-item.is c.loop-line.invariant.2 c.in-Ok.ensures.played
    (failed.0, subst (λ (t : List ℕ). Adds (g.S.Sink.pieces c.loop-line.sink) (g.S.Sink.pieces c.write.new.self) (take failed.0 t ∷ [])) c.deref.ensures.value failed.2)

pub returns-clause-pieces : goal.returns-clause-pieces
returns-clause-pieces g c schedule of =
    let plan = c.args.plan.now in
    let next = option_copied c.args.next in
    let closes : Workload → Type 0 = λ program. ClosesReportInPiece program c.loop-line.world c.close.result (g.S.Sink.pieces c.loop-line.sink) (g.S.Sink.pieces c.close.new.sink) in
    closed_in_piece plan next schedule c.args.lines.now of c.loop-line.world _ _ _
    (subst (λ (lines : List BoundLine). ArePiecesSoFar plan next lines c.loop-line.world (g.S.Sink.pieces c.args.sink.now) (g.S.Sink.pieces c.loop-line.sink))
    (front_whole c.args.lines.now c.loop-line.line-index c.loop-line-test.false) c.loop-line.invariant.2)
    c.close.result (subst closes (c.workload.ensures.program ∙ ap (λ (p : Plan). p.program) c.last_plan.ensures) c.close.ensures.pieces)
