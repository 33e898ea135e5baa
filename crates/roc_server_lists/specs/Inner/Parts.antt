-- What the parts hold, as the definitions see it
use Rattle.std.specs.Prelude.{◌≡◌, ◌≢◌, not, List, [], filter}
use Rattle.std.specs.List.{flat_map}
use Rattle.roc_sequence.specs.Lists.{Has}
use Rattle.roc_sequence.specs.Places.{IsListed, NoneTwice}
use Rattle.roc_base.specs.declared.id.TxnId.{TxnId}
use Rattle.roc_base.specs.TxnId.{is_txn}
use Rattle.roc_depgraph.specs.Deps.{is_known}
use Rattle.roc_step.specs.Below.{is_ended}
use Rattle.roc_step.specs.Forgets.{over}
use Rattle.roc_step.specs.Links.{AreLinksOf}
use Rattle.roc_step.specs.New.{AreDecided}
use Rattle.roc_server_lists.specs.declared.parts.ListParts.{ListParts}
use Rattle.roc_server_lists.specs.ListsNow.{KeptLists}

-- the lists and watermarks that they hold
abbrev pub kept_in : ListParts → KeptLists
kept_in k =
    record {
      lists = record { known = k.table.known; links = k.table.links; waiting = k.waits.waiting; taken = k.taken.components };
      below = k.marks;
    }

-- as decided exactly what is decided by what is followed, rising; as open exactly what was asked for and is not known; what is followed is of the known lists;
-- and the components taken are of what is decided
pub record AreRightParts (k : ListParts) : Type 0 where
  pub decided : AreDecided k.table.links k.table.decided
  pub open_unknown : k.waits.fetches ≡ filter (λ a. not (is_known k.table.links a.id)) k.waits.waiting.asked
  pub linked : AreLinksOf (is_ended k.marks) k.table.known k.table.links
  pub taken_decided : (t : TxnId) → IsListed is_txn (flat_map (λ c. c) k.taken.components) t → IsListed is_txn k.table.decided t
  pub decided_taken : (t : TxnId) → IsListed is_txn k.table.decided t → IsListed is_txn (flat_map (λ c. c) k.taken.components) t
  pub taken_once : NoneTwice is_txn (flat_map (λ c. c) k.taken.components)
  pub taken_some : (c : List TxnId) → Has c k.taken.components → c ≢ []

-- and none of the components is over
pub record AreConsistent (k : ListParts) : Type 0 where
  pub right : AreRightParts k
  pub none_over : over k.marks k.taken.components ≡ []
