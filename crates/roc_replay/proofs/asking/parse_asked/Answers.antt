use Rattle.std.proofs.Common.{◌≡◌, List, option_copied, ap, sym, subst, ◌∙◌}
use Rattle.roc_program.specs.Program.{Workload}
use Rattle.roc_plan.specs.Groups.{Plan}
use Rattle.roc_sched.specs.declared.line.Line.{Line}
use Rattle.roc_sched.specs.Schedule.{IsSchedule}
use Rattle.roc_replay.specs.BoundLine.{played_forms, last_program}
use Rattle.roc_replay.proofs.ByLast.{of_last, asked_fits}
use Rattle.roc_replay.proofs.asking.parse_asked.Goals as goal

pub returns-in-Ok-all_asked-clause-fits : goal.returns-in-Ok-all_asked-clause-fits
returns-in-Ok-all_asked-clause-fits c =
    let plan : Plan = c.args.plan.now in
    let next = option_copied c.args.next in
    let last : Plan = c.last_plan-last.result.now in
    let lines : List Line = c.deref.result.now in
    let asked = c.in-Ok-all_asked.asked in
    let shards : c.shards.result ≡ last.program.shards = c.shards.ensures.value ∙ ap (λ (w : Workload). w.shards) c.workload.ensures.program in
    let of_text : IsSchedule (played_forms next) last.program.shards c.args.text.now lines =
    subst (λ (ls : List Line). IsSchedule (played_forms next) last.program.shards c.args.text.now ls) (sym c.deref.ensures.value)
    (subst (λ n. IsSchedule (played_forms next) n c.args.text.now c.in-Ok.lines.items) shards
    (subst (λ forms. IsSchedule forms c.shards.result c.args.text.now c.in-Ok.lines.items) c.played_forms.ensures c.in-Ok.ensures.found)) in
    let known = of_last plan next last c.last_plan-last.ensures c.args.text.now lines of_text in
    asked_fits plan next last c.last_plan-last.ensures c.args.text.now lines of_text asked c.in-Ok-all_asked.ensures.asks
    (c.lines_fit.ensures.schedules (played_forms next) (last_program plan next).shards c.args.text.now lines known)
