use Rattle.std.proofs.Common.{◌≡◌, List, sym, subst}
use Rattle.roc_sequence.specs.Places.{IsListed}
use Rattle.roc_base.specs.declared.id.TxnId.{TxnId}
use Rattle.roc_base.specs.TxnId.{is_txn}
use Rattle.roc_step.specs.New.{AreAllNew}
use Rattle.roc_server_table.specs.Kept.{TableLists}
use Rattle.roc_test_table.proofs.lists.decide.Goals as goal

-- what was found of a table that stayed holds of it still
still_new : (old new : TableLists) (found ids : List TxnId) → new ≡ old → ids ≡ found → AreAllNew (IsListed is_txn old.decided) old.links found → AreAllNew (IsListed is_txn new.decided) new.links ids
still_new old new found ids same is all =
    subst (λ xs. AreAllNew (IsListed is_txn new.decided) new.links xs) (sym is)
    (subst (λ (t : TableLists). AreAllNew (IsListed is_txn t.decided) t.links found) (sym same) all)

pub decide-requires : goal.decide-requires
decide-requires c = still_new _ _ _ _ c.in_ok-ids.ensures.same c.deref.ensures.value c.in_ok-ids.ensures.new
