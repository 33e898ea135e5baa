use Rattle.std.proofs.Common.{◌≡◌, ℕ, ◌<◌, true, sym, subst, length}
use Rattle.roc_sequence.proofs.Holds.{all_at}
use Rattle.roc_program.specs.LookUps.{no_procedure}
use Rattle.roc_program.specs.WellFormed.{IsProcedure}
use Rattle.roc_program.proofs.Views.{view_there}
use Rattle.roc_plan.specs.Groups.{groups_of, is_view_of}
use Rattle.roc_law_world.proofs.CalmRuns.{run_calm}
use Rattle.roc_law_world.proofs.QuietViews.{quiet_answered}
use Rattle.roc_law_world.proofs.WovenOrder.{is_view, tells_them}
use Rattle.roc_law_world.proofs.beginnings.quiet_views_are_answered.Goals as goal

pub returns : goal.returns
returns c plan b coords steps w accepted begins run t proc args submitted viewed quiet more =
    let v = is_view plan b coords steps w run in
    let x = run_calm plan accepted some_group b begins.of_transactions coords v steps w run (tells_them plan b coords steps w run) in
    quiet_answered plan w x.uncounted x.calm steps x.counts.counted
    (c.quiet_transactions_are_answered.ensures.decided plan b coords steps w accepted begins run)
    t quiet proc args submitted viewed more
  where
    some_group : (p : ℕ) → is_view_of plan p ≡ true → 0 < length (groups_of plan p)
    some_group p viewed =
        subst (λ n. 0 < n) (sym (c.views_are_apart.ensures.count plan accepted p viewed))
        (all_at (IsProcedure plan.program.tables) plan.program.procedures p no_procedure accepted.well_formed.procedures (view_there plan.program p viewed)).some_piece
