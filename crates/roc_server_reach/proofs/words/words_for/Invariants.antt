use Rattle.std.proofs.Common.{ℕ, ◌<◌, ◌≤◌, ◌/◌, ◌^◌, get_or}
use Rattle.roc_server_reach.proofs.words.words_for.Given as goal

abbrev pub invariant-loop-name : goal.invariant-loop-name
invariant-loop-name l = (l.width ≤ 2 ^ 58) × ((k : ℕ) → k < l.name-index → get_or l.names k 0 / 64 < l.width)
