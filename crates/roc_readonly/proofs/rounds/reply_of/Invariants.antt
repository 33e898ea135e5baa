use Rattle.std.proofs.Common.{◌≡◌}
use Rattle.std.specs.List.{flat_map, range_with_len}
use Rattle.roc_readonly.specs.Round.{find_read, outs_in}
use Rattle.roc_readonly.proofs.rounds.reply_of.Given as goal

abbrev pub invariant-loop-group : goal.invariant-loop-group
invariant-loop-group l = l.reply ≡ flat_map (λ g. outs_in (find_read g l.got)) (range_with_len 0 l.group)
