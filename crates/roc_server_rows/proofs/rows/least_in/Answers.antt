use Rattle.std.proofs.Common.{◌∙◌, sym, ap, min}
use Rattle.roc_base.specs.declared.node.Shard.{Shard}
use Rattle.roc_step.proofs.LeastNaming.{least_found, least_absent}
use Rattle.roc_server_rows.proofs.rows.least_in.Goals as goal

pub returns-in-Some : goal.returns-in-Some
returns-in-Some c =
    c.min.ensures ∙ ap (min c.args.at) (c.from.ensures ∙ ap (λ (s : Shard). s.0) c.at.ensures.value)
    ∙ sym (least_found c.args.id c.args.at c.args.edges.now c.in-Some.edge c.as_slice-rising.ensures.list.rising (sym c.in-Some.ensures))

pub returns-in-None : goal.returns-in-None
returns-in-None c = sym (least_absent c.args.id c.args.at c.args.edges.now (sym c.in-None.ensures))
