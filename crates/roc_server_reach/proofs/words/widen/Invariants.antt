use Rattle.std.proofs.Common.{◌≡◌, ◌≤◌, ◌-◌, ℕ, List, length, max, vec_len}
use Rattle.roc_server_reach.specs.Inner.Words.{words_but}
use Rattle.roc_server_reach.proofs.words.widen.Given as goal

-- what is wide already has no more words put to it
pub record IsWidened (width : ℕ) (old new : List ℕ) : Type 0 where
  pub same : (words : List ℕ) → words_but words new ≡ words_but words old
  pub no_fewer : length old ≤ length new
  pub at_most : length new ≤ max (length old) width

abbrev pub invariant-widen : goal.invariant-widen
invariant-widen l = IsWidened l.width l.fn.set.items l.set.items

abbrev pub decreases-widen : goal.decreases-widen
decreases-widen l = l.width - vec_len l.set
