use Rattle.std.proofs.Common.{◌∙◌, subst, ap}
use Rattle.roc_check.specs.Checked.{IsPlanOfText}
use Rattle.roc_cli_files.specs.NodeNames.{tag_of_bytes}
use Rattle.roc_cli_files.proofs.tagged.tagged_of.Goals as goal

pub returns-in-Ok-checked-clause-held : goal.returns-in-Ok-checked-clause-held
returns-in-Ok-checked-clause-held g c = (
  record {
    bytes = c.in-Ok.bytes.items;
    held = c.in-Ok.ensures.held.held;
    is = subst (λ bytes. IsPlanOfText bytes c.in-Ok-checked.plan) c.deref.ensures.value c.in-Ok-checked.ensures.ends.0;
  },
  c.tag.ensures ∙ ap tag_of_bytes c.deref-in-Ok-checked.ensures.value,
)
