use Rattle.std.proofs.Common.{◌≡◌, ◌+◌, ◌-◌, ◌*◌, ◌<◌, ◌≤◌}
use Rattle.roc_lang_parse.specs.Inner.Views.{token_views, deep_view}
use Rattle.roc_lang_parse.specs.Reading.{atom_at, factors_at, term_at, sums_at}
use Rattle.roc_lang_parse.proofs.expression.+expression.Given as goal

-- the room first, and then which function calls which in the same room
abbrev pub decreases-factors_of : goal.decreases-factors_of
decreases-factors_of l = 10 * l.room

abbrev pub decreases-sums_of : goal.decreases-sums_of
decreases-sums_of l = 10 * l.room

abbrev pub decreases-atom_of : goal.decreases-atom_of
decreases-atom_of l = 10 * l.room

abbrev pub decreases-factor_of : goal.decreases-factor_of
decreases-factor_of l = 10 * l.room + 1

abbrev pub decreases-term_of : goal.decreases-term_of
decreases-term_of l = 10 * l.room + 2

abbrev pub decreases-signed_term_of : goal.decreases-signed_term_of
decreases-signed_term_of l = 10 * l.room + 3

abbrev pub decreases-sum_of : goal.decreases-sum_of
decreases-sum_of l = 10 * l.room + 4

abbrev pub decreases-deep_of : goal.decreases-deep_of
decreases-deep_of l = 10 * l.room + 5

abbrev pub decreases-behind_comma_of : goal.decreases-behind_comma_of
decreases-behind_comma_of l = 10 * l.room + 6

abbrev pub decreases-enclosed_of : goal.decreases-enclosed_of
decreases-enclosed_of l = 10 * l.room + 6

abbrev pub decreases-pair_of : goal.decreases-pair_of
decreases-pair_of l = 10 * l.room + 7

abbrev pub decreases-call_of : goal.decreases-call_of
decreases-call_of l = 10 * l.room + 8

abbrev pub decreases-pick_of : goal.decreases-pick_of
decreases-pick_of l = 10 * l.room + 8

abbrev pub invariant-factors_of-loop : goal.invariant-factors_of-loop
invariant-factors_of-loop l = (factors_at (atom_at (l.room - 1)) l.room (l.room - l.counter) (deep_view l.product) (token_views l.rest) ≡ factors_at (atom_at (l.room - 1)) l.room l.room (deep_view l.fn.first) (token_views l.tokens)) × (0 < l.product.depth) × (l.product.depth ≤ l.room)

abbrev pub invariant-sums_of-loop : goal.invariant-sums_of-loop
invariant-sums_of-loop l = (sums_at (term_at (l.room - 1)) l.room (l.room - l.counter) (deep_view l.sum) (token_views l.rest) ≡ sums_at (term_at (l.room - 1)) l.room l.room (deep_view l.fn.first) (token_views l.tokens)) × (0 < l.sum.depth) × (l.sum.depth ≤ l.room)
