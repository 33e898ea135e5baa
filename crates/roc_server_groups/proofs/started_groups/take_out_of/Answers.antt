use Rattle.std.proofs.Common.{◌≡◌, ◌∙◌, filter, ap, arith}
use Rattle.roc_server_groups.proofs.LeftOut.{all_up, left_up_to, none_up, one_up}
use Rattle.roc_server_groups.proofs.started_groups.take_out_of.Goals as goal

pub loop-number-init : goal.loop-number-init
loop-number-init c = none_up c.args.id c.args.groups.now.entries

pub loop-number-preserved : goal.loop-number-preserved
loop-number-preserved c =
    one_up c.args.id c.loop-number.number c.args.groups.now.entries c.loop-number.groups.entries c.take_out_one.new.groups.entries c.loop-number.invariant c.take_out_one.ensures

pub returns : goal.returns
returns c =
    let all : c.loop-number.number ≡ c.args.numbers = omega arith in
    c.loop-number.invariant ∙ ap (λ n. filter (left_up_to c.args.id n) c.args.groups.now.entries) all ∙ all_up c.args.id c.args.numbers c.args.groups.now.entries c.requires
