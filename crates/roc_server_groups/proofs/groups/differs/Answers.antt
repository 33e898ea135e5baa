use Rattle.std.proofs.Common.{◌∙◌, ◌||◌, ◌==◌, ◌&&◌, not, false, sym, ap, slice_get, ◌<◌, arith}
use Rattle.std.specs.Option.{option_and_then, option_map_or}
use Rattle.roc_base.specs.Equality.{is_nums}
use Rattle.roc_step.specs.declared.started.StartedGroup.{StartedGroup}
use Rattle.roc_step.specs.State.{is_group}
use Rattle.roc_server_groups.specs.Inner.Keyed.{HaveNumbersBelow}
use Rattle.roc_server_groups.proofs.Placed.{found_by_place}
use Rattle.roc_server_groups.proofs.KeyedGroups.{any_absent, any_none, any_more, any_all, any_found}
use Rattle.roc_server_groups.proofs.groups.differs.Goals as goal

pub returns-then-not-has : goal.returns-then-not-has
returns-then-not-has c =
    sym (any_absent c.args.id (λ (e : StartedGroup). not (e.proc == c.args.proc && is_nums e.args c.args.args.now)) c.args.started.now.groups (sym c.has.ensures ∙ c.if-not-has.true))

pub loop-number-init : goal.loop-number-init
loop-number-init c = any_none c.args.id (λ (e : StartedGroup). not (e.proc == c.args.proc && is_nums e.args c.args.args.now)) c.args.started.now.groups

pub loop-number-preserved : goal.loop-number-preserved
loop-number-preserved c =
    let other = λ (e : StartedGroup). not (e.proc == c.args.proc && is_nums e.args c.args.args.now) in
    let here = c.group_at-group.ensures ∙ ap (option_and_then (slice_get c.args.started.now.groups)) c.place.ensures.place ∙ found_by_place (is_group c.args.id c.loop-number.number) c.args.started.now.groups in
    let unlike = sym (ap (λ o. option_map_or other o false) here) ∙ sym c.is_other.ensures ∙ c.if-is_other.false in
    any_more c.args.id other c.loop-number.number c.args.started.now.groups c.place.ensures.once ∙ (λ i. c.loop-number.invariant i || unlike i)

pub returns-then-is_other : goal.returns-then-is_other
returns-then-is_other c =
    let other = λ (e : StartedGroup). not (e.proc == c.args.proc && is_nums e.args c.args.args.now) in
    let here = c.group_at-group.ensures ∙ ap (option_and_then (slice_get c.args.started.now.groups)) c.place.ensures.place ∙ found_by_place (is_group c.args.id c.loop-number.number) c.args.started.now.groups in
    sym (any_found c.args.id other c.loop-number.number c.args.started.now.groups (sym (ap (λ o. option_map_or other o false) here) ∙ sym c.is_other.ensures ∙ c.if-is_other.true))

pub returns : goal.returns
returns c =
    let below : HaveNumbersBelow c.loop-number.number c.args.started.now.groups = λ e h. let l : e.group < c.numbers-number-end.result = c.numbers-number-end.ensures e h in omega (arith, c.loop-number-test.false) in
    sym c.loop-number.invariant ∙ any_all c.args.id (λ (e : StartedGroup). not (e.proc == c.args.proc && is_nums e.args c.args.args.now)) c.loop-number.number c.args.started.now.groups below
