-- A transaction while its starts are being sent
use Rattle.std.specs.Prelude.{◌≡◌, length, take}
use Rattle.roc_coord.specs.declared.transaction.Transaction.{Transaction}

-- more may stand behind its starts, and all else is as it was
pub record HasMoreStarts (old new : Transaction) : Type 0 where
  pub front : take (length old.starts) new.starts ≡ old.starts
  pub others : new ≡ record old { starts = new.starts }
