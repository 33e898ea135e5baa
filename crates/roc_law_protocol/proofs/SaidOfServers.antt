-- What follows from what is said of a server: of what has a group there, and of what its shard decided
use Rattle.std.proofs.Common.{◌≡◌, ◌==◌, ℕ, true, Some, sym, subst, ◌∙◌, ◌⊎◌, inl, inr}
use Rattle.std.proofs.lemmas.Bool.{false≢true, and_parts, eqb-true}
use Rattle.roc_sequence.specs.Lists.{Has}
use Rattle.roc_sequence.specs.Places.{IsListed}
use Rattle.roc_sequence.proofs.Found.{found_has}
use Rattle.roc_sequence.proofs.Holds.{any_has, has_any}
use Rattle.roc_base.specs.declared.id.TxnId.{TxnId}
use Rattle.roc_base.specs.TxnId.{is_txn}
use Rattle.roc_base.specs.Equalities.{is_txn-true, is_txn-same}
use Rattle.roc_depgraph.specs.Deps.{IsDecided}
use Rattle.roc_plan.specs.Groups.{Plan}
use Rattle.roc_whole.specs.Serial as whole
use Rattle.roc_law_orders.specs.Behaviour.{TxnGroup}
use Rattle.roc_law_log.specs.Scheme.{Scheme}
use Rattle.roc_law_log.specs.Log.{Log}
use Rattle.roc_step.specs.declared.started.StartedGroup.{StartedGroup}
use Rattle.roc_step.specs.State.{is_group, is_here, find_group, ServerState}
use Rattle.roc_law_protocol.specs.Beginnings.{Beginning}
use Rattle.roc_law_protocol.proofs.Means.{run_of, entry_run, place, Began, HasBegun, ServerMeans}
use Rattle.roc_law_protocol.proofs.Gone.{IsGone}
use Rattle.roc_law_protocol.proofs.Flattened.{flat, listed_in}

-- a group that is found by its transaction and number is the one that was looked for
pub found_run : (r : TxnGroup) (e : StartedGroup) → is_group r.txn r.group e ≡ true → entry_run e ≡ r
found_run r e h = let p = and_parts (is_txn e.id r.txn) (e.group == r.group) h in λ i. record { txn = is_txn-true e.id r.txn p.0 i; group = eqb-true e.group r.group p.1 i }

module _ (plan : Plan) (asked : TxnId → whole.Call) (S : Scheme) (start : Beginning) (c : Log) (n : ℕ) (s : ServerState) (o : ServerMeans plan asked S start c n s) where
  -- who has a group here, and was decided, is decided by what is followed
  pub here_decided : (t : TxnId) → is_here t s.started ≡ true → IsListed is_txn (c.decided n) t → IsDecided s.lists.links t
  here_decided t h k = elim (o.decided t k) [ inl was ↦ was | inr f ↦ absurd (false≢true (sym f.gone.nowhere ∙ h)) ]

  pub group_decided : (e : StartedGroup) → Has e s.started → IsListed is_txn (c.decided n) e.id → IsDecided s.lists.links e.id
  group_decided e h = here_decided e.id (has_any (λ (f : StartedGroup). is_txn f.id e.id) s.started e h (is_txn-same e.id))

  -- a group that began here is found, or its transaction was decided here
  pub found_or_decided : (r : TxnGroup) → Began plan asked S start c r → place plan asked S start c r ≡ n → ((e : StartedGroup) × (find_group r.txn r.group s.started ≡ Some e)) ⊎ IsListed is_txn (c.decided n) r.txn
  found_or_decided r began on = elim (o.groups.finds r began on) [ inl f ↦ inl f | inr gone ↦ inr (o.forgot r.txn (record { group = r.group; began = began; on = on }) gone).0 ]

  -- what a server took, its shard decided
  pub taken_decided : (t : TxnId) → IsListed is_txn (flat s.lists.taken) t → IsListed is_txn (c.decided n) t
  taken_decided t h = let k = listed_in s.lists.taken t h in o.back t (o.taken.decided k.0 t k.1 k.2)

  -- who has a group here began here; and who began here has one, or is gone
  pub here_begun : (t : TxnId) → is_here t s.started ≡ true → HasBegun plan asked S start c t n
  here_begun t h =
      let q = any_has (λ (e : StartedGroup). is_txn e.id t) s.started h in
      let m = o.groups.entries q.0 q.1 in
      subst (λ t. HasBegun plan asked S start c t n) (is_txn-true q.0.id t q.2) (record { group = q.0.group; began = m.told.began; on = m.on })

  pub begun_here : (t : TxnId) → HasBegun plan asked S start c t n → (is_here t s.started ≡ true) ⊎ IsGone s t
  begun_here t b = elim (o.groups.finds (run_of t b.group) b.began b.on) [
    | inl f ↦
        (let k = found_has (is_group t b.group) s.started f.0 f.1 in
        inl (has_any (λ (e : StartedGroup). is_txn e.id t) s.started f.0 k.0 (and_parts (is_txn f.0.id t) (f.0.group == b.group) k.1).0))
    | inr gone ↦ inr gone
  ]
