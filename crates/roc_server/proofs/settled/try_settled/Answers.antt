use Rattle.std.proofs.Common.{refl, sym, subst, ◌∙◌}
use Rattle.roc_step.specs.Fits.{AreGroupsOf}
use Rattle.roc_server_groups.specs.GroupsNow.{groups_without, RunsDecided}
use Rattle.roc_server_groups.proofs.SameGroups.{fits_same}
use Rattle.roc_server_lists.specs.ListsNow.{lists_behind, newly_of, over_of, IsNoneLeft, IsSettledBy, IsTried, ListsNow}
use Rattle.roc_server.specs.Inner.Parts.{state_of}
use Rattle.roc_server.proofs.TriedSteps.{can_release, fits_behind, hears_alone_tried, settles_tried}
use Rattle.roc_server.proofs.settled.try_settled.Goals as goal

pub returns-then-not-was_asked_for-clause-step : goal.returns-then-not-was_asked_for-clause-step
returns-then-not-was_asked_for-clause-step c =
    let old = c.args.parts.now in
    hears_alone_tried c.args.plan.now c.args.shard old c.requires.idle c.args.id c.args.mark c.hear.new.self (c.in_ok-hear.ensures.ok (state_of c.args.shard old) refl) c.args.sends.now
    (sym c.was_asked_for.ensures ∙ c.if-not-was_asked_for.true)

pub returns-then-not-was_asked_for-clause-fits : goal.returns-then-not-was_asked_for-clause-fits
returns-then-not-was_asked_for-clause-fits c =
    fits_behind c.args.plan.now (over_of c.hear.new.self.tried) c.args.parts.now.groups c.requires.sound.groups.same c.requires.idle.groups.starting c.requires.fits

pub returns-then-not-was_asked_for-clause-can : goal.returns-then-not-was_asked_for-clause-can
returns-then-not-was_asked_for-clause-can c =
    let old = c.args.parts.now in
    can_release (record old { lists = c.hear.new.self }) c.requires.sound.groups.same c.requires.idle.groups.starting (c.in_ok-hear.ensures.left old.groups.kept c.requires.sound.left)

pub tell_newly-requires : goal.tell_newly-requires
tell_newly-requires c =
    fits_same c.args.plan.now c.args.parts.now.groups.kept c.run_newly.new.parts.groups.ran
    (c.in_ok-run_newly.ensures.ok.groups ∙ c.requires.sound.groups.same) c.requires.fits

pub returns-clause-step : goal.returns-clause-step
returns-clause-step c =
    let old = c.args.parts.now in
    let new = c.run_newly.new.parts in
    let same = sym c.in_ok-run_newly.ensures.lists in
    settles_tried c.args.plan.now c.args.shard old new c.requires.sound c.requires.idle c.in_ok-run_newly.ensures.starting c.args.sends.now c.run_newly.new.sends c.tell_newly.new.sends
    (subst (λ (l : ListsNow). RunsDecided c.args.plan.now old.groups.ran new.groups.ran old.rows.store new.rows.store c.args.sends.now c.run_newly.new.sends (newly_of l.tried)) same c.in_ok-run_newly.ensures.ok)
    c.in_ok-tell_newly.ensures c.args.id c.args.mark (sym c.was_asked_for.ensures ∙ c.if-not-was_asked_for.false)
    (subst (λ (l : ListsNow). IsTried (IsSettledBy (state_of c.args.shard old) old.lists.decided c.args.id c.args.mark) l.tried) same (c.in_ok-settle.ensures.ok (state_of c.args.shard old) refl))

pub returns-clause-fits : goal.returns-clause-fits
returns-clause-fits c =
    let new = c.run_newly.new.parts in
    fits_behind c.args.plan.now (over_of new.lists.tried) new.groups c.in_ok-run_newly.ensures.once.same (c.in_ok-run_newly.ensures.starting ∙ c.requires.idle.groups.starting)
    (subst (AreGroupsOf c.args.plan.now) (sym c.in_ok-run_newly.ensures.kept) c.requires.fits)

pub returns-clause-can : goal.returns-clause-can
returns-clause-can c =
    let new = c.run_newly.new.parts in
    can_release new c.in_ok-run_newly.ensures.once.same (c.in_ok-run_newly.ensures.starting ∙ c.requires.idle.groups.starting)
    (subst (λ (l : ListsNow). IsNoneLeft (groups_without (over_of l.tried) new.groups.kept) (lists_behind l).lists) (sym c.in_ok-run_newly.ensures.lists)
    (subst (λ es. IsNoneLeft (groups_without (over_of c.settle.new.self.tried) es) (lists_behind c.settle.new.self).lists) (sym c.in_ok-run_newly.ensures.kept) (c.in_ok-settle.ensures.left c.args.parts.now.groups.kept c.requires.sound.left)))
