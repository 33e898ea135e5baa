use Rattle.std.proofs.Common.{◌≡◌, ◌∙◌, ap, sym, None}
use Rattle.roc_depgraph.specs.Inner.Entries.{known_by}
use Rattle.roc_depgraph.specs.Deps.{list_of, learnt}
use Rattle.roc_depgraph.proofs.Entries.{known_by-insert_entry}
use Rattle.roc_depgraph.proofs.deps.Deps.learn.Goals as goal

pub returns-clause-ok : goal.returns-clause-ok
returns-clause-ok c =
    let none : list_of c.args.id c.args.self.now ≡ None = sym c.in_default.ensures in (
      none,
      ap known_by c.in_ok-insert.ensures.entries ∙ known_by-insert_entry c.self.inside.lists c.args.id _ (ap (list_of c.args.id) c.self.view_is ∙ none)
          ∙ (λ i. learnt (c.self.view_is i) c.args.id (c.in_ok-edges.ensures.cases i)),
    )
