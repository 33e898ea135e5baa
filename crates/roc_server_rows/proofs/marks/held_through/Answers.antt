use Rattle.std.proofs.Common.{◌∙◌, sym, ap}
use Rattle.roc_server_rows.specs.declared.rows.Link.{Link}
use Rattle.roc_server_rows.proofs.ExceptedMarks.{but_through_none}
use Rattle.roc_server_rows.proofs.marks.held_through.Goals as goal

pub held_at-requires-clause-followed : goal.held_at-requires-clause-followed
held_at-requires-clause-followed c = sym c.is_followed.ensures ∙ c.if-is_followed.true

pub returns : goal.returns
returns c =
    but_through_none c.args.except c.args.rows.now c.args.marks.now c.args.link c.no_link.result (sym c.is_followed.ensures ∙ c.if-is_followed.false)
    (ap (λ (l : Link). l.birth) c.no_link.ensures)
