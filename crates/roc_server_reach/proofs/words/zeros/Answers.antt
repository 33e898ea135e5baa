use Rattle.roc_server_reach.proofs.WordBits.{zeros_none}
use Rattle.roc_server_reach.proofs.words.zeros.Goals as goal

pub returns-clause-none : goal.returns-clause-none
returns-clause-none c = zeros_none c.in_ok-set.set.items c.args.width (c.in_ok-set.ensures.items_if_clones_equal (λ y same. same))
