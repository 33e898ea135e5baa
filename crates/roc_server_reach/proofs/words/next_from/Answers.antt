use Rattle.std.proofs.Common.{rules, arith}
use Rattle.roc_server_reach.proofs.WordBits.{next_found, none_next}
use Rattle.roc_server_reach.proofs.words.next_from.Goals as goal

pub returns-then-left-ne0-clause-some : goal.returns-then-left-ne0-clause-some
returns-then-left-ne0-clause-some c = next_found c.args.met.now c.args.done.now c.loop-place.place (omega arith) (omega arith) (search rules) (search rules)

pub returns-clause-none : goal.returns-clause-none
returns-clause-none c = none_next c.args.first c.args.met.now c.args.done.now (λ k low high. c.loop-place.invariant k low (omega arith)) (λ k. search rules)
