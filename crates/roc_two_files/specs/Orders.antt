-- The order that is shown of two runs, one behind the other
use Rattle.std.specs.Prelude.{ℕ, ◌+◌, List, ◌++◌, length, map}
use Rattle.roc_base.specs.declared.id.TxnId.{TxnId}
use Rattle.roc_audit.specs.Woven.{Look}
use Rattle.roc_law_world.specs.Witness.{witness_in}
use Rattle.roc_law_world.specs.World.{World}

-- a look behind so many more
abbrev pub later_by : ℕ → Look → Look
later_by n l = record { id = l.id; behind = n + l.behind }

-- that of two worlds: the looks of the second are behind the whole order of the first
abbrev pub witness_of_both : World → World → List TxnId
witness_of_both w v = witness_in (w.history ++ v.history) (w.order ++ v.order) (w.looks ++ map (later_by (length w.order)) v.looks)
