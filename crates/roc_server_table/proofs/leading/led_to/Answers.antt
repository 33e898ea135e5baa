use Rattle.std.proofs.Common.{◌∙◌, List, ap}
use Rattle.roc_server_rows.specs.declared.rows.Row.{Row}
use Rattle.roc_server_table.specs.Inner.Leading.{told_ids}
use Rattle.roc_server_table.proofs.LedTo.{least_led}
use Rattle.roc_server_table.proofs.leading.led_to.Goals as goal

pub returns : goal.returns
returns c =
    let p = c.args.parts.now in
    least_led p c.requires.whole c.args.bits.now c.requires.bits c.args.edges.now c.in_ok-found.found.items c.in_ok-found.ensures c.deref-3.result.now
    (c.deref-3.ensures.value ∙ (c.in_ok-met.ensures ∙ (ap (λ (rs : List Row). told_ids rs c.deref-2.result.now) c.deref.ensures.value ∙ ap (told_ids p.rows.items) c.deref-2.ensures.value)))
    c.least.result
    c.least.ensures
