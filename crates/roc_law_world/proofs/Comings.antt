-- Which messages were delivered, as the network grows
use Rattle.std.proofs.Common.{◌≡◌, ◌⊎◌, inl, inr, ℕ, suc, ◌+◌, ◌-◌, ◌<◌, ◌==◌, not, List, ◌++◌, Some, map, length, subst, arith}
use Rattle.std.proofs.lemmas.Bool.{cases_eq, cases_lt, eqb-true, not_from_false, false_from_ne_true}
use Rattle.std.proofs.lemmas.List.{length-map, length-append}
use Rattle.std.proofs.lemmas.Option.{slice_get_within}
use Rattle.std.specs.List.{range_with_len}
use Rattle.roc_merge_groups.proofs.Elements.{has_range}
use Rattle.std.specs.Prelude.{slice_get}
use Rattle.roc_sequence.specs.Lists.{Has}
use Rattle.roc_sequence.proofs.Members.{has_left, has_right, has_at, has_filter, same_there}
use Rattle.roc_base.specs.declared.node.Node.{Node}
use Rattle.roc_msg.specs.declared.msg.Envelope.{Envelope}
use Rattle.roc_msg.specs.declared.outbox.Outgoing.{Outgoing}
use Rattle.roc_law_protocol.specs.World.{sent_by}
use Rattle.roc_law_world.specs.World.{World, sends, mark_delivered}
use Rattle.roc_law_world.proofs.RankedNumbers.{found_front}

-- the message was delivered
abbrev pub Came : World → Envelope → Type 0
Came w m = (k : ℕ) × (slice_get w.sent k ≡ Some m) × (¬ Has (suc k) w.undelivered)

pub came_sent : (w : World) (m : Envelope) → Came w m → Has m w.sent
came_sent w m c = has_at w.sent c.0 m c.1

-- what was delivered once a node has sent was delivered before
pub came_sends : (w : World) (from : Node) (outs : List Outgoing) (m : Envelope) → Came (sends w from outs) m → Came w m
came_sends w from outs m (k, at, n) = elim (cases_lt k (length w.sent)) [
  | inl old ↦ (k, found_front w.sent (map (sent_by from) outs) k m at old, λ u. n (has_left (suc k) w.undelivered (range_with_len (length w.sent + 1) (length outs)) u))
  | inr new ↦
      (let all = slice_get_within (w.sent ++ map (sent_by from) outs) k m at in
      let long = length-append w.sent (map (sent_by from) outs) in
      let many = length-map outs (sent_by from) in
      absurd (n (has_right (suc k) w.undelivered (range_with_len (length w.sent + 1) (length outs)) (has_range (length w.sent + 1) (length outs) (suc k) (omega arith) (omega arith)))))
]

-- what was delivered once message k came was delivered before, or is it
pub came_or_comes : (w : World) (k : ℕ) → 0 < k → (e : Envelope) → slice_get w.sent (k - 1) ≡ Some e → (m : Envelope) → Came (mark_delivered w k) m → Came w m ⊎ (m ≡ e)
came_or_comes w k some e stands m (j, at, n) = elim (cases_eq (suc j) k) [
  | inl same ↦ (let is : k - 1 ≡ j = omega arith in inr (same_there w.sent j m e at (subst (λ i. slice_get w.sent i ≡ Some e) is stands)))
  | inr other ↦ inl (
    j,
    at,
    λ u. n (has_filter (λ (i : ℕ). not (i == k)) (suc j) w.undelivered u (not_from_false (suc j == k) (false_from_ne_true (suc j == k) (λ e. other (eqb-true (suc j) k e))))),
  )
]
