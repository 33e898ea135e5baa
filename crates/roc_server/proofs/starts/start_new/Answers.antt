use Rattle.std.proofs.Common.{ap, refl, ◌∙◌}
use Rattle.roc_server.specs.Inner.Starts.{asked}
use Rattle.roc_server.specs.declared.parts.ServerParts.{ServerParts}
use Rattle.roc_server.proofs.StartedParts.{can_start, fits_more, starts_new}
use Rattle.roc_server.proofs.starts.start_new.Goals as goal

pub returns-clause-step : goal.returns-clause-step
returns-clause-step c =
    let k = c.args.parts.now in
    let m = c.new_group.new.parts in
    let new : ServerParts = record { rows = m.rows; groups = c.start.new.self; lists = m.lists } in
    starts_new c.args.plan.now k new c.requires.idle c.in_ok-group.group c.in_ok-start.ensures.ok (c.in_ok-start.ensures.ran ∙ ap (λ g. g.ran) c.in_ok-group.ensures.groups) c.in_ok-group.ensures.lists
    c.args.request.id (asked c.args.request) c.args.shard m.rows.store c.in_ok-group.ensures.new c.args.sends.now c.tell_start.new.sends refl c.in_ok-tell_start.ensures

pub returns-clause-fits : goal.returns-clause-fits
returns-clause-fits c =
    let k = c.args.parts.now in
    let m = c.new_group.new.parts in
    let new : ServerParts = record { rows = m.rows; groups = c.start.new.self; lists = m.lists } in
    fits_more c.args.plan.now k new c.requires.idle c.in_ok-group.group c.in_ok-start.ensures.ok (c.in_ok-start.ensures.ran ∙ ap (λ g. g.ran) c.in_ok-group.ensures.groups) c.in_ok-group.ensures.lists
    c.args.request.id (asked c.args.request) c.args.shard m.rows.store c.in_ok-group.ensures.new c.requires.call c.requires.fits

pub returns-clause-can : goal.returns-clause-can
returns-clause-can c =
    let k = c.args.parts.now in
    let m = c.new_group.new.parts in
    let new : ServerParts = record { rows = m.rows; groups = c.start.new.self; lists = m.lists } in
    can_start c.args.plan.now k new c.requires.idle c.in_ok-group.group c.in_ok-start.ensures.ok (c.in_ok-start.ensures.ran ∙ ap (λ g. g.ran) c.in_ok-group.ensures.groups) c.in_ok-group.ensures.lists
    c.args.request.id (asked c.args.request) c.args.shard m.rows.store c.in_ok-group.ensures.new c.requires.sound c.requires.unknown
