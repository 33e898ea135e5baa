use Rattle.std.proofs.Common.{◌≡◌, ◌∙◌, sym, subst}
use Rattle.std.proofs.lemmas.Result.{IfOk-weaker}
use Rattle.roc_sequence.specs.Places.{NoneTwice}
use Rattle.roc_server_groups.specs.Groups.{is_same_group}
use Rattle.roc_server_groups.specs.Indexed.{IsIndexOf}
use Rattle.roc_server_reads.specs.Views.{viewing_of}
use Rattle.roc_server.specs.Inner.Answering.{left_behind}
use Rattle.roc_server.proofs.ReadsBefore.{index_now}
use Rattle.roc_server.proofs.ReadSteps.{found_so}
use Rattle.roc_server.proofs.reads.answer_by_ledger.Goals as goal

pub new-behind-requires-clause-once : goal.new-behind-requires-clause-once
new-behind-requires-clause-once g c = subst (NoneTwice is_same_group) (sym c.started.ensures.groups) c.started.ensures.once

pub new-behind-requires-clause-refs : goal.new-behind-requires-clause-refs
new-behind-requires-clause-refs g c =
    subst (λ es. IsIndexOf c.index.result.now c.table.result.now.decided es) (sym c.started.ensures.groups)
    (subst (λ ids. IsIndexOf c.index.result.now ids c.args.parts.now.groups.ran) (sym c.table.ensures.decided)
    (subst (λ index. IsIndexOf index c.args.parts.now.lists.decided c.args.parts.now.groups.ran) (sym c.index.ensures) (index_now c.args.parts.now c.requires.sound)))

pub returns-clause-step : goal.returns-clause-step
returns-clause-step g c =
    let k = c.args.parts.now in
    let is : c.new-behind.result ≡ left_behind k =
    c.new-behind.ensures
    ∙ (λ i. record { store = k.rows.store; decided = c.table.ensures.decided i; newly = c.newly.ensures i; started = c.started.ensures.groups i; starting = c.starting.ensures i }) in
    IfOk-weaker c.find_reads.result _ _
    (λ stays found. found_so c.args.plan.now c.args.shard k c.requires.sound (viewing_of c.args.views.now) c.args.msg.now c.args.answer c.args.sends.now c.find_reads.new.sends stays c.new-behind.result is found)
    c.find_reads.ensures.step
