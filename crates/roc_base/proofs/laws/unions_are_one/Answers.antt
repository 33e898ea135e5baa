use Rattle.roc_base.proofs.Union.{IsRising-united, entry_at-united, same_united}
use Rattle.roc_base.proofs.laws.unions_are_one.Goals as goal

pub returns : goal.returns
returns c = record {
  rising = IsRising-united;
  found = entry_at-united;
  only = same_united;
}
