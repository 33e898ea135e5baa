-- Messages by number, as the network grows
use Rattle.std.proofs.Common.{◌≡◌, ℕ, zero, suc, ◌+◌, ◌<◌, ◌≤◌, ◌==◌, not, List, [], ◌∷◌, ◌++◌, Some, length, map, sym, ap, subst, ◌⊎◌, inl, inr, arith}
use Rattle.std.proofs.lemmas.Bool.{cases_eq, eqb-true, not_from_false, false_from_ne_true}
use Rattle.std.proofs.lemmas.List.{length-map}
use Rattle.std.proofs.lemmas.Option.{slice_get_within}
use Rattle.std.specs.Prelude.{slice_get}
use Rattle.std.specs.List.{range_with_len}
use Rattle.roc_merge_groups.proofs.Elements.{has_range}
use Rattle.roc_sequence.specs.Lists.{Has}
use Rattle.roc_sequence.proofs.Members.{has_left, has_right, has_filter}
use Rattle.roc_base.specs.declared.node.Node.{Node}
use Rattle.roc_msg.specs.declared.msg.Envelope.{Envelope}
use Rattle.roc_msg.specs.declared.outbox.Outgoing.{Outgoing}
use Rattle.roc_law_protocol.specs.World.{World, sent_by, mark_delivered}
use Rattle.roc_law_protocol.specs.Quiet.{WasDelivered}

-- what is in a list has a place there
pub number_of : {A : Type 0} (xs : List A) (a : A) → Has a xs → (k : ℕ) × (slice_get xs k ≡ Some a)
number_of [] a h = absurd h
number_of (x ∷ xs) a (inl e) = (0, ap Some (sym e))
number_of (x ∷ xs) a (inr h) = let q = number_of xs a h in (suc q.0, q.1)

-- what is found in a longer list was there, or stands behind
front_or_behind : {A : Type 0} (xs ys : List A) (k : ℕ) (a : A) → slice_get (xs ++ ys) k ≡ Some a → (slice_get xs k ≡ Some a) ⊎ ((length xs ≤ k) × (k < length xs + length ys))
front_or_behind [] ys k a e = let l = slice_get_within ys k a e in inr (omega arith, omega arith)
front_or_behind (x ∷ xs) ys zero a e = inl e
front_or_behind (x ∷ xs) ys (suc k) a e = elim (front_or_behind xs ys k a e) [ inl h ↦ inl h | inr h ↦ (let p = h.0 in let q = h.1 in inr (omega arith, omega arith)) ]

-- what was delivered after a node sent was sent and delivered before
pub delivered_before : (w : World) (from : Node) (outs : List Outgoing) (k : ℕ) (m : Envelope) → slice_get (w.sent ++ map (sent_by from) outs) k ≡ Some m
    → ¬ Has (suc k) (w.undelivered ++ range_with_len (length w.sent + 1) (length outs)) → (slice_get w.sent k ≡ Some m) × WasDelivered w (suc k)
delivered_before w from outs k m e n = elim (front_or_behind w.sent (map (sent_by from) outs) k m e) [
  | inl h ↦ (h, λ u. n (has_left (suc k) w.undelivered (range_with_len (length w.sent + 1) (length outs)) u))
  | inr h ↦
      (let p = h.0 in
      let q = subst (λ l. k < length w.sent + l) (length-map outs (sent_by from)) h.1 in
      absurd (n (has_right (suc k) w.undelivered (range_with_len (length w.sent + 1) (length outs)) (has_range (length w.sent + 1) (length outs) (suc k) (omega arith) (omega arith)))))
]

-- what was delivered once k came was delivered before, or is k
pub delivered_or_comes : (w : World) (k number : ℕ) → WasDelivered (mark_delivered w k) number → (number ≡ k) ⊎ WasDelivered w number
delivered_or_comes w k number d = elim (cases_eq number k) [
  | inl e ↦ inl e
  | inr n ↦ inr (λ h. d (has_filter (λ (j : ℕ). not (j == k)) number w.undelivered h (not_from_false (number == k) (false_from_ne_true (number == k) (λ e. n (eqb-true number k e))))))
]
