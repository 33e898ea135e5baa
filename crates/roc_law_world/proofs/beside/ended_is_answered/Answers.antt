use Rattle.std.proofs.Common.{refl, sym, subst, inl, inr}
use Rattle.std.proofs.lemmas.Option.{slice_get_cases}
use Rattle.roc_law_world.proofs.AnsweredBelow.{some_group, answered_late, ended_coord}
use Rattle.roc_law_world.proofs.AnsweringRuns.{told_in_runs}
use Rattle.roc_law_world.proofs.CalmRuns.{run_calm}
use Rattle.roc_law_world.proofs.ServerMarks.{IsAbove}
use Rattle.roc_law_world.proofs.Unheard.{run_unheard}
use Rattle.roc_law_world.proofs.UsedSequences.{run_used}
use Rattle.roc_law_world.proofs.WovenOrder.{is_view, tells_them}
use Rattle.roc_law_world.proofs.beside.ended_is_answered.Goals as goal

pub returns-clause-told : goal.returns-clause-told
returns-clause-told c plan b coords steps w accepted begins run m has coord mark is seq late below =
    let v = is_view plan b coords steps w run in
    let tells = tells_them plan b coords steps w run in
    let calm = run_calm plan accepted (some_group plan accepted (c.views_are_apart.ensures.count plan accepted)) b begins.of_transactions coords v steps w run tells in
    let used = run_used plan b begins coords v steps w run tells in
    let k = ended_coord plan b coords steps w accepted run m has coord mark is in
    answered_late b.of_transactions.nexts w (told_in_runs plan b coords v steps w run tells) used (record { coord = coord; seq = seq }) k.0 k.1 late
    (calm.calm.told m has (record { coord = coord; seq = seq }) (subst (λ msg. IsAbove msg (record { coord = coord; seq = seq })) (sym is) (refl, below)))

pub returns-clause-heard : goal.returns-clause-heard
returns-clause-heard c plan b coords steps w accepted begins run n s there t late ended =
    let v = is_view plan b coords steps w run in
    let tells = tells_them plan b coords steps w run in
    let calm = run_calm plan accepted (some_group plan accepted (c.views_are_apart.ensures.count plan accepted)) b begins.of_transactions coords v steps w run tells in
    let used = run_used plan b begins coords v steps w run tells in
    elim (slice_get_cases w.coords t.coord).1 [
      | inl at ↦ answered_late b.of_transactions.nexts w (told_in_runs plan b coords v steps w run tells) used t at.0 at.2 late (calm.calm.heard n s there t ended)
      | inr away ↦ absurd ((run_unheard t plan b begins.of_transactions coords late steps w run away.0).heard n s there ended)
    ]
