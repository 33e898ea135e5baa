use Rattle.std.proofs.Common.{rules, ◌≡◌, ◌∙◌}
use Rattle.roc_base.specs.Edges.{united}
use Rattle.roc_base.proofs.Union.{united-rising}
use Rattle.roc_wire.proofs.lists.list_of.Goals as goal

pub returns : goal.returns
returns c =
    let e : c.unite.new.self ≡ united c.args.entries.now = search rules in
    e ∙ united-rising c.args.entries.now c.requires
