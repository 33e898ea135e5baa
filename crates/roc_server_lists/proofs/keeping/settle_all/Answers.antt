use Rattle.std.proofs.Common.{◌≡◌, ◌∷◌, [], sym, ap, ◌∙◌}
use Rattle.roc_server_lists.specs.Inner.Trials.{links_settled}
use Rattle.roc_server_lists.proofs.OneSettled.{links_of_none, links_of_one, no_first, only_first}
use Rattle.roc_server_lists.proofs.keeping.settle_all.Goals as goal

pub returns-in-Some-clause-links : goal.returns-in-Some-clause-links
returns-in-Some-clause-links c =
    let links = c.args.table.now.links in
    let is : c.args.settled.now ≡ c.in-Some.id.now ∷ [] = only_first c.args.settled.now c.in-Some.id.now c.requires c.in-Some.ensures.value in
    c.settle.ensures.links ∙ links_of_one links c.in-Some.id.now ∙ ap (links_settled links) (sym is)

pub returns-in-None-clause-links : goal.returns-in-None-clause-links
returns-in-None-clause-links c =
    let links = c.args.table.now.links in
    sym (ap (links_settled links) (no_first c.args.settled.now c.in-None.ensures.value) ∙ links_of_none links)
