-- Orders that keep what ran: docs/PROOF.md, "From the log machine to the headline"
use Rattle.std.specs.Prelude.{◌≡◌, ◌≢◌, ◌<◌, ℕ, false, IsTrue, List, Some, slice_get}
use Rattle.std.specs.List.{flat_map}
use Rattle.roc_sequence.specs.Lists.{Has}
use Rattle.roc_sequence.specs.Places.{IsListed, IsListedBefore, NoneTwice}
use Rattle.roc_base.specs.declared.id.TxnId.{TxnId}
use Rattle.roc_base.specs.TxnId.{is_txn}
use Rattle.roc_depgraph.specs.Deps.{IsDecided}
use Rattle.roc_group.specs.Accesses.{do_conflict}
use Rattle.roc_plan.specs.Groups.{Plan, is_immediate_of}
use Rattle.roc_step.specs.declared.started.StartedGroup.{StartedGroup}
use Rattle.roc_step.specs.State.{ServerState}
use Rattle.roc_law_protocol.specs.World.{World}
use Rattle.roc_law_protocol.specs.Happens.{RanAt}
use Rattle.roc_law_protocol.specs.Run.{Stepped}

-- all groups that ran in a run, on whatever shard, in the order in which they did
abbrev pub ran_in : List Stepped → List RanAt
ran_in steps = flat_map (λ s. s.outcome.ran) steps

-- q ran on the shard on which r ran later
pub record RanBefore (steps : List Stepped) (q r : RanAt) : Type 0 where
  pub first : ℕ
  pub second : ℕ
  pub in_order : first < second
  pub is_first : slice_get (ran_in steps) first ≡ Some q
  pub is_second : slice_get (ran_in steps) second ≡ Some r
  pub same_shard : q.shard ≡ r.shard

-- the server of a shard keeps a group that is yet to run: it is deferrable, and its transaction is not decided there
pub record IsYetToRun (plan : Plan) (w : World) (shard : ℕ) (e : StartedGroup) : Type 0 where
  pub server : ServerState
  pub there : slice_get w.servers shard ≡ Some server
  pub here : Has e server.started
  pub deferrable : is_immediate_of plan e.proc e.group ≡ false
  pub undecided : ¬ IsDecided server.lists.links e.id

-- two groups of two transactions of a list, with a cell in common that one of the two writes
pub record ConflictIn (O : List TxnId) (q r : StartedGroup) : Type 0 where
  pub first : IsListed is_txn O q.id
  pub second : IsListed is_txn O r.id
  pub other : q.id ≢ r.id
  pub conflict : IsTrue (do_conflict q.cells r.cells)

-- O has the transactions of the order, each once; and of two groups in conflict, the one that ran first on a shard, or that ran there while
-- the other is yet to run, is of the first transaction
pub record KeepsWhatRan (plan : Plan) (steps : List Stepped) (w : World) (O : List TxnId) : Type 0 where
  pub once : NoneTwice is_txn O
  pub from : (t : TxnId) → IsListed is_txn O t → IsListed is_txn w.order t
  pub all : (t : TxnId) → IsListed is_txn w.order t → IsListed is_txn O t
  pub ran_first : (q r : RanAt) → RanBefore steps q r → ConflictIn O q.group r.group → IsListedBefore is_txn O q.group.id r.group.id
  pub ran_alone :
      (q : RanAt) (e : StartedGroup) → Has q (ran_in steps) → IsYetToRun plan w q.shard e → ConflictIn O q.group e
      → IsListedBefore is_txn O q.group.id e.id
