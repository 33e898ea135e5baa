use Rattle.std.proofs.Common.{refl}
use Rattle.roc_kept.proofs.Opened.{opened_leaves, then_left, opens_there}
use Rattle.roc_kept.proofs.opening.open_file.Goals as goal

pub returns-in-Failed-clause-any_moment : goal.returns-in-Failed-clause-any_moment
returns-in-Failed-clause-any_moment g c = λ mid shard first.
    let D = g.D.Disk in
    (opened_leaves D c.args.disk.now c.open.new.self c.open.new.self c.args.name.now c.args.tag (λ image left. g.met.D.Disk.only_now c.args.disk.now c.args.name.now image (c.open.ensures.told mid) left) (c.open.ensures.time mid c.args.name.now) (c.open.ensures.stop mid c.args.name.now))

pub returns-in-Ok-clause-opened : goal.returns-in-Ok-clause-opened
returns-in-Ok-clause-opened g c = λ tells shard first.
    let D = g.D.Disk in
    let mid = c.open_named.ensures.told tells in
    opens_there D c.open_named.new.disk c.args.plan.now c.args.name.now c.args.tag c.args.tag shard (D.content c.args.disk.now c.args.name.now) (D.content c.open.new.self c.args.name.now) c.open_named.new.server.state c.open_named.new.server.viewing
    c.open_named.result refl (c.open.ensures.content mid c.args.name.now) (c.open_named.ensures.opened tells c.args.name.now (c.in-Ok.ensures.opened mid) shard first)

pub returns-in-Ok-clause-any_moment : goal.returns-in-Ok-clause-any_moment
returns-in-Ok-clause-any_moment g c = λ tells shard first.
    let D = g.D.Disk in
    let mid = c.open_named.ensures.told tells in
    then_left D c.args.disk.now c.open.new.self c.open_named.new.disk c.args.name.now c.args.tag (c.open.ensures.content mid c.args.name.now) (c.open.ensures.stop mid c.args.name.now)
    (opened_leaves D c.args.disk.now c.open.new.self c.open.new.self c.args.name.now c.args.tag (λ image left. g.met.D.Disk.only_now c.args.disk.now c.args.name.now image (c.open.ensures.told mid) left) (c.open.ensures.time mid c.args.name.now) (c.open.ensures.stop mid c.args.name.now))
    (c.open_named.ensures.any_moment tells c.args.name.now (c.in-Ok.ensures.opened mid) shard first)
