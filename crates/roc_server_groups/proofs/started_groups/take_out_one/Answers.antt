use Rattle.std.proofs.Common.{◌≡◌, ℕ, Option, Some, None, is_some, false, refl, sym, ◌∙◌}
use Rattle.std.proofs.lemmas.Bool.{false≢true}
use Rattle.roc_server_groups.proofs.LeftOut.{none_out, one_out}
use Rattle.roc_server_groups.proofs.started_groups.take_out_one.Goals as goal

no_place : (o : Option ℕ) → is_some o ≡ false → o ≡ None
no_place None e = refl
no_place (Some n) e = absurd (false≢true (sym e))

pub returns-then-is_some : goal.returns-then-is_some
returns-then-is_some c = c.shift_remove.ensures.entries ∙ one_out c.args.key.now c.args.groups.now.entries c.get_index_of.ensures.unique

pub returns-else-is_some : goal.returns-else-is_some
returns-else-is_some c = none_out c.args.key.now c.args.groups.now.entries (sym c.get_index_of.ensures.index ∙ no_place c.get_index_of.result (sym c.is_some.ensures ∙ c.if-is_some.false))
