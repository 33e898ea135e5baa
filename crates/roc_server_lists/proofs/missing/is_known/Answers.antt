use Rattle.std.proofs.Common.{◌≡◌, is_some, Some, None, refl, ap, sym, ◌∙◌}
use Rattle.std.specs.Option.{option_copied}
use Rattle.roc_step.proofs.SameIds.{known_alike}
use Rattle.roc_server_lists.proofs.missing.is_known.Goals as goal

pub returns : goal.returns
returns c =
    let copied = elim c.list.result as (λ o. is_some o ≡ is_some (option_copied o)) [ None ↦ refl | Some x ↦ refl ] in
    c.is_some.ensures ∙ copied ∙ ap is_some c.list.ensures ∙ sym (known_alike c.args.table.now.known c.args.table.now.links c.requires c.args.id)
