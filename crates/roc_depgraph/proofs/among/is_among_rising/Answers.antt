use Rattle.std.proofs.Common.{◌∙◌}
use Rattle.roc_depgraph.proofs.Searched.{searched_among}
use Rattle.roc_depgraph.proofs.among.is_among_rising.Goals as goal

pub returns : goal.returns
returns c = c.is_ok.ensures.value ∙ searched_among c.args.ids.now c.args.id c.requires c.binary_search.result c.binary_search.ensures.bound c.binary_search.ensures.position
