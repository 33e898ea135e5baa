use Rattle.std.proofs.Common.{◌∷◌, [], option_copied, ap, subst, ◌∙◌}
use Rattle.std.specs.Prelude.{Option, IfOk}
use Rattle.roc_program.specs.Program.{Workload}
use Rattle.roc_plan.specs.Groups.{Plan}
use Rattle.roc_growth.specs.declared.event.Event.{Event}
use Rattle.roc_report.specs.Line.{Nothing}
use Rattle.roc_report.specs.Text.{lines_text}
use Rattle.roc_replay.specs.BoundLine.{chosen}
use Rattle.roc_replay.specs.Played.{IsPlayedLine}
use Rattle.roc_replay.proofs.NothingPlayed.{nothing_played}
use Rattle.roc_replay.proofs.play.play_any.Goals as goal

pub returns-in_ok-text-in-None-clause-played : goal.returns-in_ok-text-in-None-clause-played
returns-in_ok-text-in-None-clause-played c =
    let plan = c.args.plan.now in
    let next = option_copied c.args.next in
    let w = c.args.world.now in
    let text = c.in_ok-text-in-None.text.items in
    let is_played : Option Event → Type 0 = λ e. IsPlayedLine plan next e w w text 0 in
    subst is_played (c.in-None.ensures ∙ ap (chosen c.args.place) c.undelivered.ensures)
    (nothing_played plan next w text
    (c.in_ok-text-in-None.ensures ∙ ap (λ (p : Workload). lines_text p (Nothing ∷ [])) (c.workload.ensures.program ∙ ap (λ (p : Plan). p.program) c.last_plan.ensures)))

pub returns-in-Some-clause-played : goal.returns-in-Some-clause-played
returns-in-Some-clause-played c =
    let plan = c.args.plan.now in
    let next = option_copied c.args.next in
    let w = c.args.world.now in
    subst (λ (e : Option Event). IfOk c.play_event.result (λ played. IsPlayedLine plan next e w c.play_event.new.world played.text.items played.busy))
    (c.in-Some.ensures ∙ ap (chosen c.args.place) c.undelivered.ensures) c.play_event.ensures.played
