use Rattle.roc_rows.proofs.Stored.{store_of-none}
use Rattle.roc_rows.proofs.numbers.Numbers.new.Goals as goal

pub returns : goal.returns
returns c = store_of-none _ c.new.ensures.empty
