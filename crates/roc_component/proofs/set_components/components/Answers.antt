use Rattle.std.proofs.Common.{List, subst}
use Rattle.std.proofs.lemmas.Result.{IfOk-weaker}
use Rattle.roc_base.specs.declared.id.TxnId.{TxnId}
use Rattle.roc_component.specs.Components.{AreRisingOf}
use Rattle.roc_component.proofs.RisingParts.{components_of_taken}
use Rattle.roc_component.proofs.set_components.components.Goals as goal

pub returns-clause-taken : goal.returns-clause-taken
returns-clause-taken c =
    IfOk-weaker c.all_rising.result _ _ (λ all rising. record {
      taken = c.in_ok-lists.lists.items;
      are_taken = c.in_ok-lists.ensures;
      rising = subst (λ (l : List (List TxnId)). AreRisingOf l all.items) c.deref.ensures.value rising;
    }) c.all_rising.ensures

pub returns-clause-components : goal.returns-clause-components
returns-clause-components c = IfOk-weaker c.all_rising.result _ _ (λ all taken. components_of_taken c.args.deps.now c.args.ids.now all.items taken) (returns-clause-taken c)
