use Rattle.std.proofs.Common.{refl, sym, subst, ◌∙◌}
use Rattle.std.specs.List.{flat_map}
use Rattle.roc_msg.specs.Outbox.{HasSent}
use Rattle.roc_step.specs.Asking.{knowns_for}
use Rattle.roc_step.specs.Waits.{Waiting}
use Rattle.roc_step.specs.Fits.{AreGroupsOf}
use Rattle.roc_server_groups.specs.GroupsNow.{groups_without, RunsDecided}
use Rattle.roc_server_lists.specs.ListsNow.{lists_behind, newly_of, over_of, IsNoneLeft, IsTaught, IsTried, ListsNow}
use Rattle.roc_server.specs.Inner.Parts.{state_of}
use Rattle.roc_server_groups.proofs.SameGroups.{fits_same}
use Rattle.roc_server.proofs.TriedSteps.{can_release, fits_behind, teaches_tried}
use Rattle.roc_server.proofs.teach.try_lists.Goals as goal

pub tell_newly-requires : goal.tell_newly-requires
tell_newly-requires c =
    fits_same c.args.plan.now c.args.parts.now.groups.kept c.run_newly.new.parts.groups.ran
    (c.in_ok-run_newly.ensures.ok.groups ∙ c.requires.sound.groups.same) c.requires.fits

pub returns-clause-step : goal.returns-clause-step
returns-clause-step c =
    let old = c.args.parts.now in
    let new = c.run_newly.new.parts in
    let same = sym c.in_ok-run_newly.ensures.lists in
    teaches_tried c.args.plan.now c.args.shard old new c.requires.sound c.requires.idle c.in_ok-run_newly.ensures.starting c.tell_all.new.outbox c.run_newly.new.sends c.tell_newly.new.sends
    (subst (λ (l : ListsNow). RunsDecided c.args.plan.now old.groups.ran new.groups.ran old.rows.store new.rows.store c.tell_all.new.outbox c.run_newly.new.sends (newly_of l.tried)) same c.in_ok-run_newly.ensures.ok)
    c.args.again c.in_ok-tell_newly.ensures c.args.news.items
    (subst (λ (l : ListsNow). IsTried (IsTaught (state_of c.args.shard old) old.lists.decided c.args.news.items) l.tried) same
    (c.in_ok-teach.ensures.ok (state_of c.args.shard old) refl (sym (c.started.ensures.groups ∙ c.requires.idle.groups.ran)) refl))
    c.args.sends.now
    (subst (λ news. HasSent c.args.sends.now c.tell_all.new.outbox (flat_map (knowns_for old.lists.kept.lists.waiting.askers) news)) c.deref.ensures.value
    (subst (λ (w : Waiting). HasSent c.args.sends.now c.tell_all.new.outbox (flat_map (knowns_for w.askers) c.deref.result.now)) c.waits.ensures.waiting c.in_ok-tell_all.ensures))

pub returns-clause-fits : goal.returns-clause-fits
returns-clause-fits c =
    let new = c.run_newly.new.parts in
    fits_behind c.args.plan.now (over_of new.lists.tried) new.groups c.in_ok-run_newly.ensures.once.same (c.in_ok-run_newly.ensures.starting ∙ c.requires.idle.groups.starting)
    (subst (AreGroupsOf c.args.plan.now) (sym c.in_ok-run_newly.ensures.kept) c.requires.fits)

pub returns-clause-can : goal.returns-clause-can
returns-clause-can c =
    let new = c.run_newly.new.parts in
    let kept = c.started.ensures.groups ∙ c.requires.idle.groups.ran ∙ sym c.in_ok-run_newly.ensures.kept in
    can_release new c.in_ok-run_newly.ensures.once.same (c.in_ok-run_newly.ensures.starting ∙ c.requires.idle.groups.starting)
    (subst (λ (l : ListsNow). IsNoneLeft (groups_without (over_of l.tried) new.groups.kept) (lists_behind l).lists) (sym c.in_ok-run_newly.ensures.lists)
    (subst (λ es. IsNoneLeft (groups_without (over_of c.teach.new.self.tried) es) (lists_behind c.teach.new.self).lists) kept c.in_ok-teach.ensures.left))
