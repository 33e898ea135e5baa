-- Servers agree on the components of transactions
use Rattle.std.proofs.Common.{ℕ, List, sym, subst, inl, inr}
use Rattle.roc_sequence.specs.Places.{IsListed}
use Rattle.roc_base.specs.declared.id.TxnId.{TxnId}
use Rattle.roc_base.specs.declared.node.Shard.{Shard}
use Rattle.roc_base.specs.TxnId.{is_txn}
use Rattle.roc_depgraph.proofs.Listed.{has_listed, listed_has}
use Rattle.roc_component.specs.Components.{HaveSameMembers}
use Rattle.roc_msg.specs.declared.msg.Msg.{Msg}
use Rattle.roc_plan.specs.Groups.{Plan}
use Rattle.roc_whole.specs.Serial as whole
use Rattle.roc_law_log.specs.Scheme.{Scheme, IsSoundScheme}
use Rattle.roc_law_log.specs.Log.{Log}
use Rattle.roc_law_protocol.specs.PlanAssumptions.{HasSchemesFrom}
use Rattle.roc_law_protocol.specs.Beginnings.{Beginning, IsBeginning}
use Rattle.roc_law_protocol.specs.World.{World}
use Rattle.roc_law_protocol.specs.Forgotten.{HasStartedOn, IsFirstTaken}
use Rattle.roc_law_protocol.specs.Run.{Stepped}
use Rattle.roc_law_protocol.specs.Beside.{IsRunBeside}
use Rattle.roc_law_protocol.specs.Inner.Given.{LogLaws, StoreLaws}
use Rattle.roc_law_protocol.proofs.Means.{HasBegun, Means, WorldMeans}
use Rattle.roc_law_protocol.proofs.FirstTaken.{first_step}
use Rattle.roc_law_protocol.proofs.TakenRuns.{AreTakenIn}
use Rattle.roc_law_protocol.proofs.Idle.{run_idle, idle_mark}
use Rattle.roc_law_protocol.proofs.Serial as serial
use Rattle.roc_law_protocol.proofs.Transactions.{transaction_or_none, HasTransaction}
use Rattle.roc_law_protocol.proofs.Marks.{IsMark}

-- what is told of as started on a shard began there
pub started_begun : (plan : Plan) (asked : TxnId → whole.Call) (S : Scheme) (start : Beginning) (log : Log) (w : World) → WorldMeans plan asked S start log w → (t : TxnId) (shard : Shard)
    → HasStartedOn w.sent t shard → HasBegun plan asked S start log t shard.0
started_begun plan asked S start log w o t shard h =
    let m = subst (λ (msg : Msg). Means plan asked S start log msg h.message.to) h.is (o.messages h.message h.has) in
    record { group = h.group; began = m.0.began; on = sym m.1 }

-- the first components that two servers took with it have the same members
module _ (plan : Plan) (asked : TxnId → whole.Call) (S : Scheme) (start : Beginning) (log : Log) (steps : List Stepped) (a : AreTakenIn plan asked S start log steps) (t : TxnId) where
  members_of : (shard other : Shard) (c d : List TxnId) → HasBegun plan asked S start log t other.0 → IsFirstTaken steps shard t c → IsFirstTaken steps other t d → (u : TxnId)
      → IsListed is_txn c u → IsListed is_txn d u
  members_of shard other c d began f g u h = has_listed d u (a.whole other d t u g began (a.mates f.step shard c t u (first_step steps shard t c f) f.taken f.member (listed_has c u h)))

module _ (plan : Plan) (start : Beginning) (begins : IsBeginning plan start) (schemes : HasSchemesFrom plan start.store) (laws : (S : Scheme) → IsSoundScheme S → LogLaws S start.store)
    (stores : StoreLaws) (coords : ℕ) (steps : List Stepped) (w : World) (run : IsRunBeside plan start coords steps w) where
  pub components_agree : (shard other : Shard) (t : TxnId) (c d : List TxnId) → HasStartedOn w.sent t shard → HasStartedOn w.sent t other → IsFirstTaken steps shard t c
      → IsFirstTaken steps other t d → HaveSameMembers c d
  components_agree shard other t c d here there f g = elim (transaction_or_none plan) [
    | inl some ↦ agree some
    | inr none ↦ absurd (subst IsMark here.is (idle_mark plan start w (run_idle plan none start begins coords steps w run) here.message here.has))
  ]
    where
      agree : HasTransaction plan → HaveSameMembers c d
      agree some u =
          let x = serial.logged plan start begins schemes laws stores coords steps w run some in
          let S = serial.S plan start begins schemes laws stores coords steps w run some in
          let asked = serial.asked plan start begins schemes laws stores coords steps w run some in (
            members_of plan asked S start x.0 steps x.3.taken t shard other c d (started_begun plan asked S start x.0 w x.1.means t other there) f g u,
            members_of plan asked S start x.0 steps x.3.taken t other shard d c (started_begun plan asked S start x.0 w x.1.means t shard here) g f u,
          )
