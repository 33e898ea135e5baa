-- Pairs of transactions as a relation
use Rattle.std.specs.Prelude.{List}
use Rattle.roc_sequence.specs.Lists.{Has}
use Rattle.roc_base.specs.declared.id.TxnId.{TxnId}
use Rattle.roc_precedence.specs.declared.pair.Pair.{Pair}

-- one of the pairs says that u comes before t
abbrev pub IsPaired : List Pair → TxnId → TxnId → Type 0
IsPaired pairs u t = Has (record { later = t; earlier = u }) pairs
