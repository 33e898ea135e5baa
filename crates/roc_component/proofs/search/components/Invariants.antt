use Rattle.std.proofs.Common.{◌≡◌, ◌+◌, ◌-◌, Some, [], length, take, ◌⊎◌}
use Rattle.std.specs.BTreeMap.{btree_map_len}
use Rattle.roc_base.specs.declared.id.TxnId.{TxnId}
use Rattle.roc_sequence.specs.Lists.{Has}
use Rattle.roc_component.specs.Inner.Search.{IsAhead, WasNumbered, IsSearchOf, met_of}
use Rattle.roc_component.proofs.search.components.Given as goal

abbrev pub invariant-loop-id : goal.invariant-loop-id
invariant-loop-id l = IsSearchOf l.lists l.ids l.met l.search × (l.search.path.items ≡ []) × ((u : TxnId) → Has u (take l.id-index l.ids) → WasNumbered (met_of l.met) u)

abbrev pub invariant-walk : goal.invariant-walk
invariant-walk l = IsSearchOf l.lists l.ids l.met l.search × IsAhead l.lists l.ids l.met l.search l.new × ((u : TxnId) → Has u (take (l.id-index + 1) l.ids) → WasNumbered (met_of l.met) u ⊎ (l.new ≡ Some u))

abbrev pub decreases-walk : goal.decreases-walk
decreases-walk l = length l.ids - btree_map_len l.met
