-- Each server takes transactions in the serial order
use Rattle.std.proofs.Common.{◌≡◌, ℕ, ◌≤◌, true, List, [], ◌∷◌, ◌++◌, Some, refl, sym, subst, ◌⊎◌, inl, inr, arith}
use Rattle.std.proofs.lemmas.Bool.{cases_lt, false≢true}
use Rattle.std.specs.Prelude.{slice_get}
use Rattle.std.specs.List.{flat_map}
use Rattle.roc_sequence.specs.Places.{place_of, IsListed, IsListedBefore, NoneTwice}
use Rattle.roc_sequence.proofs.Places.{listed_cases}
use Rattle.roc_sequence.proofs.Appended.{listed_behind}
use Rattle.roc_base.specs.declared.id.TxnId.{TxnId}
use Rattle.roc_base.specs.declared.node.Shard.{Shard}
use Rattle.roc_base.specs.TxnId.{is_txn}
use Rattle.roc_base.specs.Equalities.{is_txn-true}
use Rattle.roc_depgraph.specs.Deps.{Precedes, IsAncestor, IsDecided}
use Rattle.roc_depgraph.specs.Reach.{Reaches}
use Rattle.roc_depgraph.proofs.Chains.{weaker_chain}
use Rattle.roc_component.specs.Components.{Mates}
use Rattle.roc_component.proofs.Relations.{mates_sym}
use Rattle.roc_plan.specs.Groups.{Plan}
use Rattle.roc_whole.specs.Serial as whole
use Rattle.roc_law_log.specs.Scheme.{Scheme, IsSoundScheme}
use Rattle.roc_law_log.specs.Log.{Log, PrecedesTxn, HasGroup}
use Rattle.roc_law_log.specs.Invariants.{LogInvariants}
use Rattle.roc_step.specs.State.{is_here, ServerState}
use Rattle.roc_law_protocol.specs.PlanAssumptions.{HasSchemesFrom}
use Rattle.roc_law_protocol.specs.Beginnings.{Beginning, IsBeginning}
use Rattle.roc_law_protocol.specs.World.{World}
use Rattle.roc_law_protocol.specs.Run.{Stepped}
use Rattle.roc_law_protocol.specs.Beside.{IsRunBeside}
use Rattle.roc_law_protocol.specs.Inner.Given.{LogLaws, SerialLaws, StoreLaws}
use Rattle.roc_law_protocol.proofs.Means.{run_of, ServerMeans}
use Rattle.roc_law_protocol.proofs.SaidOfServers.{here_begun}
use Rattle.roc_law_protocol.proofs.FollowedEdges.{sound}
use Rattle.roc_law_protocol.proofs.Idle.{run_idle}
use Rattle.roc_law_protocol.proofs.Serial as serial
use Rattle.roc_law_protocol.proofs.Transactions.{transaction_or_none, HasTransaction}

-- in a list without repeats the rest has none of the front
pub apart : (xs ys : List TxnId) (b : TxnId) → NoneTwice is_txn (xs ++ ys) → IsListed is_txn ys b → ¬ IsListed is_txn xs b
apart [] ys b once h k = absurd (omega arith)
apart (x ∷ xs) ys b once h k = elim (listed_cases is_txn x xs b k) [
  | inl e ↦ once.0 (subst (IsListed is_txn (xs ++ ys)) (is_txn-true b x e) (listed_behind is_txn xs ys b h))
  | inr j ↦ apart xs ys b once.1 h j.1
]

-- Two that have groups on a server, one an ancestor of the other by what is followed there, stand in the order as the shard decided them
module _ (plan : Plan) (asked : TxnId → whole.Call) (S : Scheme) (start : Beginning) (log : Log) (laws : SerialLaws S start.store) (i : LogInvariants S start.store log) (n : ℕ) (s : ServerState)
    (o : ServerMeans plan asked S start log n s) where
  abbrev E : TxnId → TxnId → Type 0
  E = PrecedesTxn S start.store log.past

  up : (a b : TxnId) → IsAncestor s.lists.links a b → Reaches E a b
  up = weaker_chain (Precedes s.lists.links) E (sound plan asked S start log s.lists.known s.lists.links o.known o.links)

  has_group : (t : TxnId) → is_here t s.started ≡ true → HasGroup S start.store log.past.ran n t
  has_group t h =
      let b = here_begun plan asked S start log n s o t h in
      record { group = b.group; listed = i.are_groups (run_of t b.group) b.began; on = b.on }

  agree : (a b : TxnId) → is_here a s.started ≡ true → IsDecided s.lists.links a → IsDecided s.lists.links b → IsAncestor s.lists.links a b ⊎ IsAncestor s.lists.links b a
      → IsListedBefore is_txn (log.decided n) a b → IsListedBefore is_txn log.order a b
  agree a b here da db related before = elim (cases_lt (place_of (is_txn a) log.order) (place_of (is_txn b) log.order)) [
    | inl k ↦ k
    | inr k ↦ absurd (not_mates related k (λ m. let z = (laws.mates log i n a a b (has_group a here) (o.back a da) (inl refl) m).0 before in absurd (omega arith)))
  ]
    where
      not_mates : IsAncestor s.lists.links a b ⊎ IsAncestor s.lists.links b a → place_of (is_txn b) log.order ≤ place_of (is_txn a) log.order → ¬ ¬ Mates E a b
      not_mates (inl p) k m = let z = laws.ancestors log i a b (i.in_order n b (o.back b db)) (up a b p) (λ x. m (mates_sym E b a x)) in absurd (omega arith)
      not_mates (inr p) k m = let z = o.follows b a here da p m in absurd (omega arith)

module _ (plan : Plan) (start : Beginning) (begins : IsBeginning plan start) (schemes : HasSchemesFrom plan start.store) (laws : (S : Scheme) → IsSoundScheme S → LogLaws S start.store)
    (serials : (S : Scheme) → IsSoundScheme S → SerialLaws S start.store) (stores : StoreLaws) (coords : ℕ) (steps : List Stepped) (w : World) (run : IsRunBeside plan start coords steps w) where
  pub taken_in_order : (shard : Shard) (s : ServerState) → slice_get w.servers shard.0 ≡ Some s → (a b : TxnId) → is_here a s.started ≡ true → is_here b s.started ≡ true
      → IsDecided s.lists.links a → IsDecided s.lists.links b
      → IsAncestor s.lists.links a b ⊎ IsAncestor s.lists.links b a → IsListedBefore is_txn (flat_map (λ c. c) s.lists.taken) a b → IsListedBefore is_txn w.order a b
  taken_in_order shard s there a b ha hb da db related before = elim (transaction_or_none plan) [
    | inl some ↦ in_order some
    | inr none ↦ absurd (let k : IsDecided [] a = subst (λ l. IsDecided l a) ((run_idle plan none start begins coords steps w run).servers shard.0 s there).links da in false≢true k.own)
  ]
    where
      in_order : HasTransaction plan → IsListedBefore is_txn w.order a b
      in_order some =
          let x = serial.logged plan start begins schemes laws stores coords steps w run some in
          let S = serial.S plan start begins schemes laws stores coords steps w run some in
          let asked = serial.asked plan start begins schemes laws stores coords steps w run some in
          let sound = serial.sound plan start begins schemes laws stores coords steps w run some in
          let i = (laws S sound).holds x.0 x.1.means.reached in
          let o = x.1.means.servers shard.0 s there in
          subst (λ l. IsListedBefore is_txn l a b) (sym x.1.means.order)
          (agree plan asked S start x.0 (serials S sound) i shard.0 s o a b ha da db related (o.taken.order a b ha hb before))
