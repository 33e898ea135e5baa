use Rattle.std.proofs.Common.{refl, arith}
use Rattle.std.proofs.lemmas.Bool.{false≢true}
use Rattle.roc_merge_accept.proofs.Parting.{rising_from_steps, not_rising}
use Rattle.roc_merge_accept.proofs.partition.is_rising.Goals as goal

pub returns-then-numbers-at : goal.returns-then-numbers-at
returns-then-numbers-at c = (λ t. absurd (false≢true t), λ r. absurd (not_rising c.args.numbers.now c.loop-at.at (omega arith) (omega arith) c.if-numbers-at.true r))

pub returns : goal.returns
returns c = (λ t. rising_from_steps (λ n. n) 0 c.args.numbers.now (λ i l. c.loop-at.invariant i (omega arith)), λ r. refl)
