use Rattle.std.proofs.Common.{◌∙◌, cond, sym, ap}
use Rattle.roc_server_rows.specs.Rows.{is_alive}
use Rattle.roc_server_rows.specs.Except.{no_link}
use Rattle.roc_server_rows.proofs.marks.is_followed.Goals as goal

pub returns-then-is_except : goal.returns-then-is_except
returns-then-is_except c = ap (λ b. is_alive c.args.rows.now (cond b no_link c.args.link)) (sym (sym c.is_except.ensures ∙ c.if-is_except.true))

pub returns : goal.returns
returns c = c.is_alive.ensures ∙ ap (λ b. is_alive c.args.rows.now (cond b no_link c.args.link)) (sym (sym c.is_except.ensures ∙ c.if-is_except.false))
