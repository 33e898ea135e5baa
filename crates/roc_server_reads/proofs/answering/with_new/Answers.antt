use Rattle.std.proofs.Common.{◌++◌, List, ap, subst, sym, ◌∙◌}
use Rattle.roc_step.specs.declared.kept_read.KeptRead.{KeptRead}
use Rattle.roc_server_reads.specs.Behind.{AreHolders}
use Rattle.roc_server_reads.specs.Inner.Parts.{if_held, who_holds}
use Rattle.roc_server_reads.proofs.Parting.{held_one, holders_append, holds_one, unheld_one}
use Rattle.roc_server_reads.proofs.answering.with_new.Goals as goal

pub returns-clause-free : goal.returns-clause-free
returns-clause-free g c =
    c.in_ok-put.ensures.free
    ∙ ap (λ (qs : List KeptRead). c.args.parted.free.items ++ qs) (unheld_one c.args.plan.now c.args.behind.now c.args.read c.in_ok-holder.holder c.in_ok-holder.ensures.holder)

pub returns-clause-stays : goal.returns-clause-stays
returns-clause-stays g c =
    c.in_ok-put.ensures.stays
    ∙ ap (λ (qs : List KeptRead). c.args.parted.stays.reads.items ++ qs) (held_one c.args.plan.now c.args.behind.now c.args.read c.in_ok-holder.holder c.in_ok-holder.ensures.holder)

pub returns-clause-holders : goal.returns-clause-holders
returns-clause-holders g c are =
    let plan = c.args.plan.now in
    let b = c.args.behind.now in
    let q = c.args.read in
    let h = c.in_ok-holder.holder in
    let old = c.args.parted.stays in
    subst (λ qs. AreHolders plan b qs c.put.new.parted.stays.holders.items) (sym c.in_ok-put.ensures.stays)
    (subst (AreHolders plan b (old.reads.items ++ if_held h q)) (sym c.in_ok-put.ensures.holders)
    (holders_append plan b old.reads.items (if_held h q) old.holders.items (who_holds h q) are (holds_one plan b q h c.in_ok-holder.ensures.holder)))
