-- What of a world with views is of transactions alone: docs/PROOF.md, "Views"
use Rattle.std.specs.Prelude.{◌≡◌, ◌↔◌, ℕ, suc, Bool, true, false, not, List, [], ◌∷◌, ◌++◌, filter, Some, slice_get, ℤ}
use Rattle.roc_sequence.specs.Lists.{Has}
use Rattle.roc_base.specs.declared.id.TxnId.{TxnId}
use Rattle.roc_msg.specs.declared.msg.Msg.{Msg}
use Rattle.roc_msg.specs.declared.msg.Msg.TheVariants.{Read, ReadOk}
use Rattle.roc_msg.specs.declared.msg.Envelope.{Envelope}
use Rattle.roc_plan.specs.Groups.{Plan, is_view_of}
use Rattle.roc_audit.specs.declared.entry.Entry.{Entry}
use Rattle.roc_audit.specs.declared.entry.Entry.TheVariants.{Submitted}
use Rattle.roc_audit.specs.Woven.{without_views}
use Rattle.roc_law_protocol.specs.World as transactions
use Rattle.roc_law_world.specs.Rank.{rank}
use Rattle.roc_law_protocol.specs.Run as their_runs
use Rattle.roc_law_world.specs.Run.{Stepped}
use Rattle.roc_law_world.specs.World.{World}

-- a message of views
abbrev pub is_of_view : Msg → Bool
is_of_view (Read id round proc group args) = true
is_of_view (ReadOk id round group shard versions outs) = true
is_of_view msg = false

abbrev pub is_of_transaction : Envelope → Bool
is_of_transaction m = not (is_of_view m.msg)

abbrev pub of_transactions : List Envelope → List Envelope
of_transactions sent = filter is_of_transaction sent

-- how many of the first k messages are of transactions
abbrev pub number_among : List Envelope → (k : ℕ) → ℕ
number_among sent k = rank is_of_transaction sent k

-- which ids are of views, as the submissions tell it
abbrev pub TellsViews : Plan → (TxnId → Bool) → List Entry → Type 0
TellsViews plan is_view history = (t : TxnId) (proc : ℕ) (args : List ℤ) → Has (Submitted t proc args) history → is_view t ≡ is_view_of plan proc

-- the same nodes and the same order, with the messages and the history of transactions alone
pub record IsBeside (is_view : TxnId → Bool) (w : World) (t : transactions.World) : Type 0 where
  pub servers : t.servers ≡ w.servers
  pub coords : t.coords ≡ w.coords
  pub sent : t.sent ≡ of_transactions w.sent
  -- a message of a transaction was delivered in the one where it was in the other
  pub undelivered :
      (k : ℕ) (m : Envelope) → slice_get w.sent k ≡ Some m → is_of_transaction m ≡ true
      → Has (suc k) w.undelivered ↔ Has (suc (number_among w.sent k)) t.undelivered
  pub history : t.history ≡ without_views is_view w.history
  pub order : t.order ≡ w.order

-- step by step the same components were decided, and the same groups ran
pub data AreStepsBeside : List Stepped → List their_runs.Stepped → Type 0 where
  none_stepped : AreStepsBeside [] []
  one_more_stepped : {steps : List Stepped} {others : List their_runs.Stepped} (x : Stepped) (y : their_runs.Stepped) → AreStepsBeside steps others
      → y.outcome.components ≡ x.outcome.components → y.outcome.decided ≡ x.outcome.decided → y.outcome.ran ≡ x.outcome.ran
      → AreStepsBeside (steps ++ x ∷ []) (others ++ y ∷ [])
