-- What was found is kept, and what is over is forgotten
use Rattle.std.specs.Prelude.{◌≡◌, ◌++◌, List}
use Rattle.roc_sequence.specs.Places.{IsListed}
use Rattle.roc_base.specs.declared.id.TxnId.{TxnId}
use Rattle.roc_base.specs.TxnId.{is_txn}
use Rattle.roc_depgraph.specs.declared.known.KnownList.{KnownList}
use Rattle.roc_depgraph.specs.Closure.{IsRisingListOf}
use Rattle.roc_step.specs.Asking.{open_after, waiting_after}
use Rattle.roc_server_lists.specs.declared.parts.ListParts.{ListParts}
use Rattle.roc_server_lists.specs.declared.trial.Found.{Found}
use Rattle.roc_server_taken.specs.Components.{AreOver}
use Rattle.roc_server_lists.specs.Inner.Parts.{kept_in, AreConsistent, AreRightParts}
use Rattle.roc_server_lists.specs.Inner.Trials.{lists_forgetting}

-- what was found of these lists is kept
pub record KeepsFound (old new : ListParts) (news : List KnownList) (found : Found) : Type 0 where
  pub known : new.table.known ≡ old.table.known
  pub links : new.table.links ≡ old.table.links
  pub decided : IsRisingListOf (IsListed is_txn (old.table.decided ++ found.ids.items)) new.table.decided
  pub waiting : new.waits.waiting ≡ waiting_after old.waits.waiting news found.asks.items
  pub fetches : new.waits.fetches ≡ open_after old.waits.fetches news found.asks.items
  pub marks : new.marks ≡ old.marks
  pub taken : new.taken.components ≡ old.taken.components ++ found.components.items

-- all is right but that these are over
pub record IsOverOf (k : ListParts) (ids : List TxnId) : Type 0 where
  pub right : AreRightParts k
  pub over : AreOver k.marks k.taken.components ids

-- they are forgotten
pub record Forgets (old new : ListParts) : Type 0 where
  pub kept : kept_in new ≡ lists_forgetting (kept_in old)
  pub sound : AreConsistent new
