use Rattle.std.proofs.Common.{◌≡◌, ◌++◌, ◌∙◌, List, Some, None, is_some, refl, ap, subst}
use Rattle.std.specs.List.{flat_map}
use Rattle.std.specs.Option.{option_copied}
use Rattle.roc_base.specs.declared.id.TxnId.{TxnId}
use Rattle.roc_base.specs.TxnId.{is_txn}
use Rattle.roc_sequence.specs.Places.{IsListed}
use Rattle.roc_server_table.specs.Kept.{TableLists}
use Rattle.roc_step.specs.New.{AreNewTaken}
use Rattle.roc_server_taken.specs.Components.{AreOver}
use Rattle.roc_server_lists.specs.Inner.Trials.{links_settled}
use Rattle.roc_server_lists.proofs.settling.find_settled.Goals as goal

pub returns-clause-found : goal.returns-clause-found
returns-clause-found c =
    let k = c.args.parts.now in
    let copied = elim c.list.result as (λ o. is_some o ≡ is_some (option_copied o)) [ None ↦ refl | Some x ↦ refl ] in
    record {
      marks = c.raised-marks.ensures;
      settled = c.in_ok-settled.ensures;
      is_known = c.is_some-is_known.ensures ∙ copied ∙ ap is_some c.list.ensures;
      chosen =
          subst (λ (ids : List TxnId). AreNewTaken (IsListed is_txn k.table.decided) (links_settled k.table.links ids) c.in_ok-components.components.items)
          c.deref.ensures.value c.in_ok-components.ensures.taken;
      ids = c.in_ok-ids.ensures ∙ (λ i. flat_map (λ m. m) (c.deref-2.ensures.value i));
      over =
          subst (λ cs. AreOver c.raised-marks.result (k.taken.components ++ cs) c.in_ok-over.over.items) c.deref-3.ensures.value c.in_ok-over.ensures;
    }

pub returns-clause-same : goal.returns-clause-same
returns-clause-same c = ap (λ (t : TableLists). record c.args.parts.now { table = t }) c.find_taken_without.ensures.same
