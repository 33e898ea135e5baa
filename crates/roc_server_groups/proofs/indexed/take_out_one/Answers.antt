use Rattle.std.proofs.Common.{◌∙◌, ◌||◌, if◌then◌else◌, false, sym, ap, slice_get, ◌<◌, arith}
use Rattle.std.specs.List.{list_any}
use Rattle.std.specs.Option.{option_and_then, option_map_or}
use Rattle.roc_server_index.specs.GroupRefs.{group_refs_at, without}
use Rattle.roc_step.specs.Start.{uses_cell}
use Rattle.roc_step.specs.State.{is_group}
use Rattle.roc_server_groups.specs.Inner.Keyed.{HaveNumbersBelow}
use Rattle.roc_server_groups.proofs.IndexSteps.{out_more, out_of_all}
use Rattle.roc_server_groups.proofs.Placed.{found_by_place}
use Rattle.roc_server_groups.proofs.KeyedGroups.{any_absent, any_none, any_more, any_all, passes_up_to}
use Rattle.roc_server_groups.proofs.indexed.take_out_one.Goals as goal

pub returns-then-not-has : goal.returns-then-not-has
returns-then-not-has c =
    let id = c.args.id in
    let es = c.args.started.now.groups in
    let old = c.args.index.now in
    let absent = sym c.has.ensures ∙ c.if-not-has.true in
    out_of_all id es old old c.requires (λ d. ap (λ t. if t then without id (group_refs_at d old) else group_refs_at d old) (sym (any_absent id (uses_cell d) es absent)))

pub loop-number-init : goal.loop-number-init
loop-number-init c d = ap (λ t. if t then without c.args.id (group_refs_at d c.args.index.now) else group_refs_at d c.args.index.now) (sym (any_none c.args.id (uses_cell d) c.args.started.now.groups))

pub loop-number-preserved : goal.loop-number-preserved
loop-number-preserved c =
    let id = c.args.id in
    let es = c.args.started.now.groups in
    let n = c.loop-number.number in
    let here = c.group_at-group.ensures ∙ ap (option_and_then (slice_get es)) c.place.ensures.place ∙ found_by_place (is_group id n) es in
    out_more id (λ d. list_any (passes_up_to id (uses_cell d) n) es) _ _ c.args.index.now c.loop-number.index c.take_out_group.new.index
    (λ d. any_more id (uses_cell d) n es c.place.ensures.once ∙ ap (λ o. list_any (passes_up_to id (uses_cell d) n) es || option_map_or (uses_cell d) o false) (sym here)) c.loop-number.invariant c.take_out_group.ensures

pub returns : goal.returns
returns c =
    let id = c.args.id in
    let es = c.args.started.now.groups in
    let old = c.args.index.now in
    let n = c.loop-number.number in
    let below : HaveNumbersBelow n es = λ e h. let l : e.group < c.numbers-number-end.result = c.numbers-number-end.ensures e h in omega (arith, c.loop-number-test.false) in
    out_of_all id es old c.loop-number.index c.requires (λ d. c.loop-number.invariant d ∙ ap (λ t. if t then without id (group_refs_at d old) else group_refs_at d old) (any_all id (uses_cell d) n es below))
