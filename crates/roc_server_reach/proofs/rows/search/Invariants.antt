use Rattle.roc_server_reach.specs.Inner.Words.{room}
use Rattle.roc_server_reach.specs.Inner.Rows.{bits_in}
use Rattle.roc_server_reach.proofs.Searches.{IsSearch}
use Rattle.roc_server_reach.proofs.rows.search.Given as goal

abbrev pub invariant-search : goal.invariant-search
invariant-search l = IsSearch (bits_in l.rows l.stale) l.fn.met l.met l.done l.found.items

abbrev pub decreases-search : goal.decreases-search
decreases-search l = room l.done
