use Rattle.std.proofs.Common.{ℕ, ◌≡◌, ◌<◌, ◌&&◌, ◌||◌, false, length, get_or}
use Rattle.roc_merge_accept.proofs.circle.row_by.Given as goal

abbrev pub invariant-loop-to : goal.invariant-loop-to
invariant-loop-to l = ((b : ℕ) → b < l.to → get_or l.all b false ≡ (get_or l.row b false || (get_or l.row l.by false && get_or l.onward b false))) × (length l.all ≡ 16)
