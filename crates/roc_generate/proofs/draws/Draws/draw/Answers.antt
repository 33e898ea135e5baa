use Rattle.std.proofs.Common.{◌≡◌, ℕ, ◌+◌, ◌*◌, ◌%◌, ◌/◌, ap}
use Rattle.std.proofs.Math.Nat.{mod-add-mod}
use Rattle.roc_generate.specs.Draws.{next_state, draw}
use Rattle.roc_generate.proofs.draws.Draws.draw.Goals as goal

-- a sum that wraps once is the same as one that wraps at each step
wrapped : (a b : ℕ) → (a % 18446744073709551616 + b) % 18446744073709551616 ≡ (a + b) % 18446744073709551616
wrapped a b = mod-add-mod a 18446744073709551616 b

pub returns-clause-value : goal.returns-clause-value
unfolding draw next_state
returns-clause-value c = ap (λ x. (x / 8589934592) % c.args.below) (wrapped (c.args.self.now.state * 6364136223846793005) 1442695040888963407)

pub returns-clause-state : goal.returns-clause-state
unfolding next_state
returns-clause-state c = wrapped (c.args.self.now.state * 6364136223846793005) 1442695040888963407
