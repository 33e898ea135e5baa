-- What an event takes: the components that a server decides with it, as the log says it
use Rattle.std.proofs.Common.{◌≡◌, ◌≢◌, refl, ℕ, ℤ, List, [], Some, Result, Ok, Err, map, sym, ap, subst, ◌⊎◌, inl, inr}
use Rattle.std.specs.Prelude.{slice_get, slice_set}
use Rattle.roc_sequence.specs.Lists.{Has}
use Rattle.roc_sequence.specs.Places.{IsListed}
use Rattle.roc_sequence.proofs.Members.{same_there}
use Rattle.roc_step.specs.State.{ServerState, ServerStep}
use Rattle.roc_base.specs.declared.id.TxnId.{TxnId}
use Rattle.roc_base.specs.declared.node.Node.{Node}
use Rattle.roc_base.specs.declared.node.Shard.{Shard}
use Rattle.roc_base.specs.declared.node.Node.TheVariants.{Server, Coord}
use Rattle.roc_base.specs.TxnId.{is_txn}
use Rattle.roc_component.specs.Components.{Mates}
use Rattle.roc_msg.specs.declared.msg.Msg.{Msg}
use Rattle.roc_msg.specs.declared.msg.Envelope.{Envelope}
use Rattle.roc_msg.specs.declared.outbox.Outgoing.{Outgoing}
use Rattle.roc_plan.specs.Groups.{Plan}
use Rattle.roc_law_orders.specs.Behaviour.{TxnGroup, is_txn_group}
use Rattle.roc_law_log.specs.Scheme.{Scheme}
use Rattle.roc_law_log.specs.Log.{Log, PrecedesTxn}
use Rattle.roc_law_log.specs.Settled.{IsSettled}
use Rattle.roc_coord.specs.declared.handled.SubmitFault.{SubmitFault}
use Rattle.roc_coord.specs.declared.handled.SubmitFault.TheVariants as fault
use Rattle.roc_coord.specs.State.{CoordState}
use Rattle.roc_coord.specs.Step.{after_message}
use Rattle.roc_law_protocol.specs.Beginnings.{Beginning}
use Rattle.roc_law_protocol.specs.World.{World, at_server, sent_by}
use Rattle.roc_law_protocol.specs.Happens.{Outcome, Submits, IsReceived, Ticks}
use Rattle.roc_law_protocol.specs.Run.{Stepped}
use Rattle.roc_law_protocol.specs.Forgotten.{IsTakenAt}
use Rattle.roc_law_protocol.proofs.Changed.{get-front, get-set_here, get-set_other, get-set_cases}
use Rattle.roc_law_protocol.proofs.FirstTaken.{taken_once}
use Rattle.roc_law_protocol.proofs.KeepsTaken.{AreApart, KeepsTaken, state_itself, keeps_still}

-- ---- what comes of events

-- a submission runs nothing, and takes nothing
pub submission_none : (w : World) (n proc : ℕ) (args : List ℤ) (after : CoordState) (outs : List Outgoing) (answer : Result TxnId SubmitFault) (o : Outcome)
    → Submits w n proc args after outs answer o → (o.ran ≡ []) × (o.components ≡ [])
submission_none w n proc args after outs (Ok id) o h = (ap (λ (o : Outcome). o.ran) h, ap (λ (o : Outcome). o.components) h)
submission_none w n proc args after outs (Err fault.Spent) o h = (ap (λ (o : Outcome). o.ran) h, ap (λ (o : Outcome). o.components) h)
submission_none w n proc args after outs (Err fault.Busy) o h = (ap (λ (o : Outcome). o.ran) h, ap (λ (o : Outcome). o.components) h)
submission_none w n proc args after outs (Err fault.NoProc) o h = absurd h
submission_none w n proc args after outs (Err fault.Args) o h = absurd h
submission_none w n proc args after outs (Err fault.NoMemory) o h = absurd h

-- so does a tick
pub ticks_none : (plan : Plan) (w : World) (node : Node) (o : Outcome) → Ticks plan w node o → o.components ≡ []
ticks_none plan w (Server shard) o (s, there, e) = ap (λ (o : Outcome). o.components) e
ticks_none plan w (Coord n) o (s, there, e) = ap (λ (o : Outcome). o.components) e

-- what was sent stands where it stood once a message was received
pub received_on : (plan : Plan) (w : World) (msg : Msg) (to : Node) (o : Outcome) → IsReceived plan w msg to o → (i : ℕ) (m : Envelope) → slice_get w.sent i ≡ Some m
    → slice_get o.world.sent i ≡ Some m
received_on plan w msg (Server shard) o (s, r, there, step, e) i m h = subst (λ (o : Outcome). slice_get o.world.sent i ≡ Some m) (sym e) (get-front w.sent (map (sent_by (Server shard)) r.sends) i m h)
received_on plan w msg (Coord n) o (s, there, e) i m h = subst (λ (o : Outcome). slice_get o.world.sent i ≡ Some m) (sym e) (get-front w.sent (map (sent_by (Coord n)) (after_message plan s msg).sends) i m h)

-- ---- what servers keep

-- a server takes these components, and no other server changes
pub record ServersKeep (w v : World) (shard : ℕ) (components : List (List TxnId)) : Type 0 where
  pub here : (s z : ServerState) → slice_get w.servers shard ≡ Some s → slice_get v.servers shard ≡ Some z → KeepsTaken s z components
  pub elsewhere : (m : ℕ) → shard ≢ m → slice_get v.servers m ≡ slice_get w.servers m
  pub were : (m : ℕ) (z : ServerState) → slice_get v.servers m ≡ Some z → (s : ServerState) × (slice_get w.servers m ≡ Some s)

pub servers_stay : (w v : World) → v.servers ≡ w.servers → ((s : ServerState) → slice_get w.servers 0 ≡ Some s → AreApart s.lists.taken) → ServersKeep w v 0 []
servers_stay w v same apart =
    record {
      here = λ s z there then. subst (λ (z : ServerState). KeepsTaken s z []) (same_there w.servers 0 s z there (subst (λ l. slice_get l 0 ≡ Some z) same then)) (keeps_still s s (state_itself s) refl (apart s there));
      elsewhere = λ m other. ap (λ l. slice_get l m) same;
      were = λ m z then. (z, subst (λ l. slice_get l m ≡ Some z) same then);
    }

pub servers_step : (w : World) (n : ℕ) (s : ServerState) (r : ServerStep) → slice_get w.servers n ≡ Some s → KeepsTaken s r.state r.components → ServersKeep w (at_server w n r) n r.components
servers_step w n s r there kept =
    record {
      here = λ u z there2 then.
          subst (λ (u : ServerState). KeepsTaken u z r.components) (same_there w.servers n s u there there2)
          (subst (λ (z : ServerState). KeepsTaken s z r.components) (same_there (slice_set w.servers n r.state) n r.state z (get-set_here w.servers n s r.state there) then) kept);
      elsewhere = λ m other. get-set_other w.servers n m r.state other;
      were = λ m z then. elim (get-set_cases w.servers n m s r.state z there then) [
        | inl k ↦ (s, subst (λ m. slice_get w.servers m ≡ Some s) k.0 there)
        | inr k ↦ (z, k.1)
      ];
    }

-- ---- what the log says of it

-- shard n decided these components, each as a whole or settled
pub record AreDecidedIn (S : Scheme) (start : Beginning) (n : ℕ) (log : Log) (components : List (List TxnId)) : Type 0 where
  pub decided : (k : List TxnId) (t : TxnId) → Has k components → Has t k → IsListed is_txn (log.decided n) t
  pub mates : (k : List TxnId) (t u : TxnId) → Has k components → Has t k → Has u k → Mates (PrecedesTxn S start.store log.past) t u
  pub whole : (k : List TxnId) (t u : TxnId) → Has k components → Has t k → Mates (PrecedesTxn S start.store log.past) t u → Has u k ⊎ IsSettled S start.store log t

pub none_decided : (S : Scheme) (start : Beginning) (n : ℕ) (log : Log) → AreDecidedIn S start n log []
none_decided S start n log = record { decided = λ k t h. absurd h; mates = λ k t u h. absurd h; whole = λ k t u h. absurd h }

module _ (S : Scheme) (start : Beginning) where
  -- shard n takes these components: each is decided then, nothing starts, and nobody is answered; and no shard decides anything else
  pub record TakesOn (log later : Log) (n : ℕ) (components : List (List TxnId)) : Type 0 where
    pub are_decided : AreDecidedIn S start n later components
    pub took : (m : ℕ) (t : TxnId) → IsListed is_txn (later.decided m) t → IsListed is_txn (log.decided m) t ⊎ ((n ≡ m) × (k : List TxnId) × Has k components × Has t k)
    pub starts_none : (k : List TxnId) → Has k components → (q : TxnGroup) → IsListed is_txn_group later.past.started q → IsListed is_txn_group log.past.started q
    pub answers : (k : List TxnId) → Has k components → later.answered ≡ log.answered

  -- this is what is taken between these worlds, on a shard of which this holds
  pub record Takes (w v : World) (log later : Log) (Of : ℕ → Type 0) (components : List (List TxnId)) : Type 0 where
    pub shard : ℕ
    pub takes : TakesOn log later shard components
    pub of : (k : List TxnId) → Has k components → Of shard
    pub servers : ServersKeep w v shard components

  pub takes_nothing : (w v : World) (log later : Log) (Of : ℕ → Type 0) → v.servers ≡ w.servers → ((s : ServerState) → slice_get w.servers 0 ≡ Some s → AreApart s.lists.taken)
      → ((m : ℕ) → later.decided m ≡ log.decided m) → Takes w v log later Of []
  takes_nothing w v log later Of servers apart same =
      record {
        shard = 0;
        takes = record { are_decided = none_decided S start 0 later; took = λ m t h. inl (subst (λ l. IsListed is_txn l t) (same m) h); starts_none = λ k h. absurd h; answers = λ k h. absurd h };
        of = λ k h. absurd h;
        servers = servers_stay w v servers apart;
      }

  -- what an event takes is taken at it
  pub record IsTaking (w : World) (log later : Log) (x : Stepped) : Type 0 where
    pub shard : ℕ
    pub takes : TakesOn log later shard x.outcome.components
    pub at : (k : List TxnId) → Has k x.outcome.components → IsTakenAt x (record { 0 = shard }) k
    pub servers : ServersKeep w x.outcome.world shard x.outcome.components

  pub took_nothing : (w : World) (log later : Log) (Of : ℕ → Type 0) (x : Stepped) → x.outcome.components ≡ [] → Takes w x.outcome.world log later Of x.outcome.components → IsTaking w log later x
  took_nothing w log later Of x none t = record { shard = t.shard; takes = t.takes; at = λ k h. absurd (subst (Has k) none h); servers = t.servers }

  -- and on no other shard
  pub taken_shard : (w : World) (log later : Log) (x : Stepped) (taking : IsTaking w log later x) (shard : Shard) (k : List TxnId) → IsTakenAt x shard k → taking.shard ≡ shard.0
  taken_shard w log later x taking shard k t = let same = taken_once x (record { 0 = taking.shard }) shard k k (taking.at k t.has) t in λ i. (same i).0
