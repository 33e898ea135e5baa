use Rattle.std.proofs.Common.{get_or, subst}
use Rattle.std.proofs.lemmas.List.{get_or_default}
use Rattle.roc_sequence.proofs.Fronts.{front_whole}
use Rattle.roc_base.specs.declared.id.TxnId.{TxnId}
use Rattle.roc_server_table.specs.Inner.Kept.{AreDecidedToo}
use Rattle.roc_server_table.proofs.DecidedToo.{next_too, none_too}
use Rattle.roc_server_table.proofs.changes.mark_all.Goals as goal

pub loop-id-init : goal.loop-id-init
loop-id-init c = none_too c.args.numbers.now.entries c.args.marks.now

pub loop-id-preserved : goal.loop-id-preserved
loop-id-preserved c =
    let none : TxnId = record { coord = 0; seq = 0 } in
    let ids = c.args.ids.now in
    let i = c.loop-id.id-index in
    next_too c.args.numbers.now.entries ids i (get_or ids i none) c.args.marks.now c.loop-id.marks c.mark_one.new.marks c.loop-id-test.true
    (get_or_default ids i none (get_or ids i none) c.loop-id-test.true) c.loop-id.invariant c.mark_one.ensures

pub returns : goal.returns
returns c = subst (λ ids. AreDecidedToo c.args.numbers.now.entries ids c.args.marks.now c.loop-id.marks) (front_whole c.args.ids.now c.loop-id.id-index c.loop-id-test.false) c.loop-id.invariant
