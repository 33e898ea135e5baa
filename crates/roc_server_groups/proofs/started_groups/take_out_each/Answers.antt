use Rattle.std.proofs.Common.{subst, take}
use Rattle.std.specs.Map.{keys_of}
use Rattle.roc_sequence.specs.Lists.{Has}
use Rattle.roc_server_groups.proofs.LeftOut.{keys_left, left_of, none_listed, one_listed}
use Rattle.roc_server_groups.proofs.started_groups.take_out_each.Goals as goal

pub loop-id-init : goal.loop-id-init
loop-id-init c = none_listed c.args.groups.now.entries

pub take_out_of-requires : goal.take_out_of-requires
take_out_of-requires c = λ k has.
    c.requires k (keys_left (left_of (take c.loop-id.id-index c.args.ids.now)) c.args.groups.now.entries k (subst (λ es. Has k (keys_of es)) c.loop-id.invariant has))

pub loop-id-preserved : goal.loop-id-preserved
loop-id-preserved c =
    one_listed c.args.ids.now c.loop-id.id-index _ c.args.groups.now.entries c.loop-id.groups.entries c.take_out_of.new.groups.entries c.loop-id-test.true
    c.loop-id.invariant c.take_out_of.ensures
