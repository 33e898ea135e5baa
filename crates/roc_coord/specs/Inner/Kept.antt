-- What a coordinator keeps: its ids, its transactions and its views
use Rattle.std.specs.Prelude.{◌≡◌, ℕ, List}
use Rattle.roc_base.specs.declared.id.TxnId.{TxnId}
use Rattle.roc_coord.specs.declared.ids.Ids.{Ids}
use Rattle.roc_coord.specs.declared.transaction.Transaction.{Transaction}
use Rattle.roc_readonly.specs.declared.view.View.{View}
use Rattle.roc_coord.specs.Ids.{ids_of, view_ids}
use Rattle.roc_coord.specs.State.{CoordState}
use Rattle.roc_coord.specs.Inner.Given.{AreOwn}

abbrev pub kept_state : Ids → List Transaction → List View → CoordState
kept_state ids pending views =
    record { number = ids.number; next = ids.next; pending = pending; views = views; unanswered = ids.unanswered.items }

-- the same, but for room
pub record AreSameIds (old new : Ids) : Type 0 where
  pub number : new.number ≡ old.number
  pub next : new.next ≡ old.next
  pub unanswered : new.unanswered.items ≡ old.unanswered.items

-- a coordinator of this number that gives this sequence next has given all ids, and they rise
pub record AreAllOwn (number next : ℕ) (ids : List TxnId) (xs : List Transaction) (vs : List View) : Type 0 where
  pub unanswered : AreOwn number next ids
  pub pending : AreOwn number next (ids_of xs)
  pub views : AreOwn number next (view_ids vs)

abbrev pub AreKept : Ids → List Transaction → List View → Type 0
AreKept ids pending views = AreAllOwn ids.number ids.next ids.unanswered.items pending views
