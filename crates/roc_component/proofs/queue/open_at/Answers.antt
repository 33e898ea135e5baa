use Rattle.std.proofs.Common.{◌∙◌, sym}
use Rattle.roc_base.specs.TxnId.{is_txn}
use Rattle.roc_sequence.proofs.Places.{listed_true, listed_false}
use Rattle.roc_component.proofs.QueueSteps.{open_here, open_behind}
use Rattle.roc_component.proofs.queue.open_at.Goals as goal

pub returns-then-not-contains : goal.returns-then-not-contains
returns-then-not-contains c =
    open_here c.args.rest.now.items c.look.rest.items c.pop.new.self.items c.args.taken.now c.in-Some.id c.look.invariant.0 c.look.invariant.1 c.in-Some.ensures.items
    (listed_false is_txn c.args.taken.now c.in-Some.id (sym c.contains.ensures ∙ c.if-not-contains.true))

pub look-preserved : goal.look-preserved
look-preserved c =
    open_behind c.args.rest.now.items c.look.rest.items c.pop.new.self.items c.args.taken.now c.in-Some.id c.look.invariant.0 c.look.invariant.1 c.in-Some.ensures.items
    (listed_true is_txn c.args.taken.now c.in-Some.id (sym c.contains.ensures ∙ c.if-not-contains.false))
