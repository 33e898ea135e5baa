use Rattle.std.proofs.Common.{◌∙◌, false, [], refl, ap}
use Rattle.roc_journal.specs.declared.journal.Journal.{Journal}
use Rattle.roc_step.specs.State.{ServerState, Viewing}
use Rattle.roc_kept.specs.declared.keeper.Keeper.{Keeper}
use Rattle.roc_kept.specs.declared.kept.KeptServer.{KeptServer}
use Rattle.roc_kept.proofs.Opened.{err_cause, err_refuses, fits_again, first_fold, opened_kept, stands_for_some}
use Rattle.roc_kept.proofs.opening.open_with.Goals as goal

pub returns-in-Err-clause-cause : goal.returns-in-Err-clause-cause
returns-in-Err-clause-cause g c = err_cause Journal KeptServer c.in-Err.fault (g.D.Disk.faults c.args.disk.now) (g.D.Disk.faults c.args.disk.now) (g.D.Disk.faults c.open_file.new.disk) refl c.in-Err.ensures.cause

pub returns-in-Err-clause-refused : goal.returns-in-Err-clause-refused
returns-in-Err-clause-refused g c = λ tells.
    err_refuses KeptServer g.D.Disk c.open_file.new.disk c.args.plan.now c.args.name.now c.args.tag c.args.first.state.shard (g.D.Disk.content c.args.disk.now c.args.name.now) c.open_file.new.server.state c.open_file.new.server.viewing c.in-Err.fault
    (c.in-Err.ensures.opened tells c.args.first.state.shard (first_fold c.args.plan.now c.args.first.state.shard c.args.first.state c.args.first.viewing c.requires.first c.requires.views))

pub returns-in-Err-clause-any_moment : goal.returns-in-Err-clause-any_moment
returns-in-Err-clause-any_moment g c = λ tells.
    c.open_file.ensures.any_moment tells c.args.first.state.shard (first_fold c.args.plan.now c.args.first.state.shard c.args.first.state c.args.first.viewing c.requires.first c.requires.views)

pub returns-in-Ok-clause-fits : goal.returns-in-Ok-clause-fits
returns-in-Ok-clause-fits g c = fits_again c.args.plan.now c.open_file.new.server c.restart.new.self c.restart.ensures.state c.restart.ensures.views c.restart.ensures.none c.open_file.ensures.fits

pub returns-in-Ok-clause-fresh : goal.returns-in-Ok-clause-fresh
returns-in-Ok-clause-fresh g c =
    ((refl, refl), c.restart.ensures.none, ap (λ (v : Viewing). v.reads) c.restart.ensures.views, ap (λ (s : ServerState). s.shard) c.restart.ensures.state ∙ c.open_file.ensures.shard)

pub returns-in-Ok-clause-stands : goal.returns-in-Ok-clause-stands
returns-in-Ok-clause-stands g c =
    stands_for_some c.args.plan.now c.args.first.state.shard c.open_file.new.server.state c.restart.new.self.state c.open_file.new.server.viewing c.restart.new.self.viewing c.restart.ensures.state c.restart.ensures.views
    (c.in-Ok.ensures.gives c.args.first.state.shard ([], first_fold c.args.plan.now c.args.first.state.shard c.args.first.state c.args.first.viewing c.requires.first c.requires.views))

pub returns-in-Ok-clause-opened : goal.returns-in-Ok-clause-opened
returns-in-Ok-clause-opened g c = λ tells.
    let keeper : Keeper = record { journal = c.in-Ok.journal; tag = c.args.tag; broken = false } in
    opened_kept c.args.plan.now c.args.first.state.shard c.open_file.new.server.state c.restart.new.self.state c.open_file.new.server.viewing c.restart.new.self.viewing c.restart.ensures.state c.restart.ensures.views
    g.D.Disk c.open_file.new.disk c.args.name.now c.args.tag (g.D.Disk.content c.args.disk.now c.args.name.now) keeper refl c.open_file.ensures.shard
    (c.in-Ok.ensures.opened tells c.args.first.state.shard (first_fold c.args.plan.now c.args.first.state.shard c.args.first.state c.args.first.viewing c.requires.first c.requires.views))

pub returns-in-Ok-clause-any_moment : goal.returns-in-Ok-clause-any_moment
returns-in-Ok-clause-any_moment g c = λ tells.
    c.open_file.ensures.any_moment tells c.args.first.state.shard (first_fold c.args.plan.now c.args.first.state.shard c.args.first.state c.args.first.viewing c.requires.first c.requires.views)
