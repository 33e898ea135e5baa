-- Which deliveries count, as a run goes on
use Rattle.std.proofs.Common.{◌≡◌, ◌≢◌, ℕ, ◌-◌, List, [], ◌∷◌, ◌++◌, Option, Some, sym, subst, ◌⊎◌, inl, inr, refl}
use Rattle.std.specs.Prelude.{slice_get}
use Rattle.roc_sequence.specs.Lists.{Has}
use Rattle.roc_sequence.proofs.Members.{has_left, has_right}
use Rattle.roc_msg.specs.declared.msg.Envelope.{Envelope}
use Rattle.roc_law_protocol.specs.declared.event.Event.{Event}
use Rattle.roc_law_protocol.specs.declared.event.Event.TheVariants.{Deliver}
use Rattle.roc_law_protocol.specs.Quiet.{StopsReceiver, Counts}
use Rattle.roc_law_protocol.proofs.Changed.{get-front}
use Rattle.roc_law_protocol.proofs.FirstTaken.{at_end}

-- what counts behind one more event is that delivery, or it counted and its receiver did not stop
pub counts_step : (events : List (Option Event)) (e : Option Event) (sent more : List Envelope) (k : ℕ) → Counts (events ++ e ∷ []) (sent ++ more) k
    → (e ≡ Some (Deliver k)) ⊎ (Counts events sent k × ((m : Envelope) → slice_get sent (k - 1) ≡ Some m → ¬ StopsReceiver e m.to))
counts_step events e sent more k c = elim (at_end events c.front c.behind e (Some (Deliver k)) c.at) [
  | inl q ↦ inl q.1
  | inr q ↦ inr (
    record {
      front = c.front;
      behind = q.0;
      at = q.1;
      since = λ f m h at. c.since f m (subst (Has f) (sym q.2) (has_left f q.0 (e ∷ []) h)) (get-front sent more (k - 1) m at);
    },
    λ m at. c.since e m (subst (Has e) (sym q.2) (has_right e q.0 (e ∷ []) (inl refl))) (get-front sent more (k - 1) m at),
  )
]

-- before any event none does
pub none_counts : (sent : List Envelope) (k : ℕ) → ¬ Counts [] sent k
none_counts sent k c = nothing c.front c.at
  where
    nothing : (front : List (Option Event)) → [] ≢ front ++ Some (Deliver k) ∷ c.behind
    nothing [] e = cc
    nothing (z ∷ front) e = cc
