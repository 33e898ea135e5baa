-- A step of a server of which fewer messages are sent
use Rattle.std.proofs.Common.{◌≡◌, ℕ, zero, suc, List, [], ◌∷◌, Some, map, take, refl, sym, subst, inl, inr}
use Rattle.std.specs.Prelude.{slice_get}
use Rattle.std.specs.List.{AllByRecursion}
use Rattle.roc_sequence.specs.Lists.{Has}
use Rattle.roc_sequence.proofs.Members.{has_append, has_left, has_right, has_map, from_has_map}
use Rattle.roc_base.specs.declared.id.TxnId.{TxnId}
use Rattle.roc_base.specs.declared.node.Node.{Node}
use Rattle.roc_base.specs.declared.node.Node.TheVariants.{Server}
use Rattle.roc_base.specs.Edge.{Dependency}
use Rattle.roc_msg.specs.declared.outbox.Outgoing.{Outgoing}
use Rattle.roc_plan.specs.Groups.{Plan}
use Rattle.roc_whole.specs.Serial as whole
use Rattle.roc_law_orders.specs.Behaviour.{TxnGroup}
use Rattle.roc_law_log.specs.Scheme.{Scheme}
use Rattle.roc_law_log.specs.Log.{Log}
use Rattle.roc_step.specs.declared.handled.Handled.TheVariants.{Done}
use Rattle.roc_step.specs.State.{ServerState, ServerStep}
use Rattle.roc_law_protocol.specs.Beginnings.{Beginning}
use Rattle.roc_law_protocol.specs.PlanAssumptions.{IsSchemeOf}
use Rattle.roc_law_protocol.specs.World.{World, sent_by}
use Rattle.roc_law_protocol.specs.Inner.Given.{LogLaws}
use Rattle.roc_law_protocol.proofs.Means.{IsOther, Began, WorldMeans}
use Rattle.roc_law_protocol.proofs.Carried.{KeepsGood}
use Rattle.roc_law_protocol.proofs.Fetches.{KeepsFetches}
use Rattle.roc_law_protocol.proofs.Explains.{IsExplained}

-- ---- the first of a list

pub take_has : {A : Type 0} (n : ℕ) (xs : List A) (a : A) → Has a (take n xs) → Has a xs
take_has zero xs a h = elim h [ ]
take_has (suc n) [] a h = elim h [ ]
take_has (suc n) (x ∷ xs) a (inl e) = inl e
take_has (suc n) (x ∷ xs) a (inr h) = inr (take_has n xs a h)

pub take_none : {A : Type 0} (n : ℕ) → take {A = A} n [] ≡ []
take_none zero = refl
take_none (suc n) = refl

pub all_take : {A : Type 0} (P : A → Type 0) (n : ℕ) (xs : List A) → AllByRecursion P xs → AllByRecursion P (take n xs)
all_take P zero xs h = tt
all_take P (suc n) [] h = tt
all_take P (suc n) (x ∷ xs) h = (h.0, all_take P n xs h.1)

-- ---- what holds of a step holds where some of its messages are sent

abbrev pub fewer : ServerStep → List Outgoing → ServerStep
fewer r front = record r { answer = Done; sends = front }

pub fewer_good : (plan : Plan) (Good : TxnId → List Dependency → Type 0) (Here : TxnId → ℕ → Type 0) (s : ServerState) (r : ServerStep) (front : List Outgoing) → ((out : Outgoing) → Has out front → Has out r.sends) → KeepsGood plan Good Here s r
    → KeepsGood plan Good Here s (fewer r front)
fewer_good plan Good Here s r front sub g =
    record {
      state = g.state;
      sends = λ out h. g.sends out (sub out h);
      told = λ out h. g.told out (sub out h);
      kept = g.kept;
      here = g.here;
      gone = g.gone;
      ended = g.ended;
      marks = g.marks;
      shard = g.shard;
    }

pub fewer_fetches : (plan : Plan) (For : TxnId → ℕ → Type 0) (s : ServerState) (r : ServerStep) (front : List Outgoing) → ((out : Outgoing) → Has out front → Has out r.sends) → KeepsFetches plan For s r → KeepsFetches plan For s (fewer r front)
fewer_fetches plan For s r front sub k = record { asked = k.asked; askers = k.askers; sends = λ out h. k.sends out (sub out h); shard = k.shard }

-- the same steps of the log explain it
module _ (plan : Plan) (asked : TxnId → whole.Call) (S : Scheme) (start : Beginning) (is : IsSchemeOf plan asked S) (laws : LogLaws S start.store) (c : Log) (w : World) (o : WorldMeans plan asked S start c w) (n : ℕ) (s : ServerState) (there : slice_get w.servers n ≡ Some s) (Fresh : TxnId → Type 0) (called : (r : TxnGroup) → Began plan asked S start c r → ¬ IsOther asked start r.txn) where
  pub fewer_explained : (r : ServerStep) (front : List Outgoing) → ((out : Outgoing) → Has out front → Has out r.sends) → IsExplained plan asked S start is laws c w o n s there Fresh called r → IsExplained plan asked S start is laws c w o n s there Fresh called (fewer r front)
  fewer_explained r front sub x =
      record {
        log = x.log;
        steps = x.steps;
        means = record {
          reached = x.means.reached;
          order = x.means.order;
          servers = x.means.servers;
          messages = λ m h. x.means.messages m (elim (has_append m w.sent (map (sent_by from) front) h) [
            | inl k ↦ has_left m w.sent (map (sent_by from) r.sends) k
            | inr k ↦
                (let q = from_has_map (sent_by from) m front k in
                has_right m w.sent (map (sent_by from) r.sends) (subst (λ m. Has m (map (sent_by from) r.sends)) (sym q.2) (has_map (sent_by from) q.0 r.sends (sub q.0 q.1))))
          ]);
          coords = x.means.coords;
          answered = x.means.answered;
          answers = x.means.answers;
        };
        decides = x.decides;
        components = x.components;
        keeps = x.keeps;
        starts_none = x.starts_none;
        elsewhere = x.elsewhere;
        answers = x.answers;
        began = x.began;
        ran = x.ran;
        each = x.each;
      }
    where
      from : Node
      from = Server (record { 0 = n })
