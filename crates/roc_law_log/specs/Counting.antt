-- A small scheme that is sound: transactions that count, the first group at once on shard 0 and the second later on shard 1
use Rattle.std.specs.Prelude.{◌==◌}
use Rattle.roc_law_orders.specs.Counter.{counter}
use Rattle.roc_law_log.specs.Scheme.{Scheme}

abbrev pub counting : Scheme
counting = record { behaviour = counter; is_immediate = λ r. r.group == 0; cell_shard = λ x. x.table; group_shard = λ r given. r.group }
