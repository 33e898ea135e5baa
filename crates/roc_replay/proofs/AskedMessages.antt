-- Whether the message that a line names is there
use Rattle.std.proofs.Common.{◌≡◌, ℕ, zero, suc, ◌-◌, ◌<◌, Bool, true, false, ◌==◌, if◌then◌else◌, List, Option, Some, None, length, refl, sym, ap, ◌∙◌, arith}
use Rattle.std.proofs.lemmas.Bool.{eq-eqb, eqb-true, ltb-true, ltb-false, not-true, not-false, ne_eqb, false≢true}
use Rattle.std.specs.Prelude.{slice_get}
use Rattle.roc_base.specs.declared.node.Node.{Node}
use Rattle.roc_base.specs.declared.node.Node.TheVariants.{Server, Coord}
use Rattle.roc_base.specs.declared.node.Shard.{Shard}
use Rattle.roc_base.specs.Node.{is_node}
use Rattle.roc_msg.specs.declared.msg.Envelope.{Envelope}
use Rattle.roc_two_files.specs.Sealed.{Sealed}
use Rattle.roc_growth.specs.declared.event.Event.TheVariants.{Submit, Deliver, Tick, Stop, Drain}
use Rattle.roc_growth.specs.Happens.{IsSentTo}
use Rattle.roc_growth.specs.Quiet.{messages_of}
use Rattle.roc_growth.specs.World.{GrownWorld}
use Rattle.roc_replay.specs.declared.asked.Wanted.{Wanted}
use Rattle.roc_replay.specs.declared.asked.Wanted.TheVariants as wanted
use Rattle.roc_replay.specs.BoundLine.{AsksForSent}
use Rattle.roc_replay.specs.Inner.Closed.{goes_to, is_sent_to, wants_unsent}
use Rattle.roc_replay.proofs.Messages.{message_there, from_messages, many_messages}

-- ---- one message

to_server : (shard : Shard) (to : Node) → is_node to (Server shard) ≡ true → to ≡ Server shard
to_server shard (Server other) h = ap (λ n. Server (record { 0 = n })) (eqb-true other.0 shard.0 h)
to_server shard (Coord number) h = absurd (false≢true h)

goes_there : (shard : Shard) (found : Option Envelope) → goes_to shard found ≡ true → (m : Envelope) × (found ≡ Some m) × (m.to ≡ Server shard)
goes_there shard None h = absurd (false≢true h)
goes_there shard (Some m) h = (m, refl, to_server shard m.to h)

some_number : (number : ℕ) → (number == 0) ≡ false → 0 < number
some_number zero h = absurd (false≢true (sym h))
some_number (suc n) h = omega arith

sent_to : (sent : List Sealed) (shard : Shard) (number : ℕ) → is_sent_to shard number (messages_of sent) ≡ true → (m : Sealed) × IsSentTo sent number shard.0 m
sent_to sent shard number h = go (number == 0) refl h
  where
    go : (b : Bool) → (number == 0) ≡ b → (if b then false else goes_to shard (slice_get (messages_of sent) (number - 1))) ≡ true → (m : Sealed) × IsSentTo sent number shard.0 m
    go true e h = absurd (false≢true h)
    go false e h =
        let m = goes_there shard (slice_get (messages_of sent) (number - 1)) h in
        let own = from_messages sent (number - 1) m.0 m.1 in
        (own.0, record { some = some_number number e; there = own.1; to = ap (λ (m : Envelope). m.to) own.2 ∙ m.2 })

is_sent : (sent : List Sealed) (shard : Shard) (number : ℕ) (m : Sealed) → IsSentTo sent number shard.0 m → is_sent_to shard number (messages_of sent) ≡ true
is_sent sent shard number m h =
    let some = h.some in
    ap (λ b. if b then false else goes_to shard (slice_get (messages_of sent) (number - 1))) (ne_eqb number 0 (λ e. omega arith))
    ∙ ap (goes_to shard) (message_there sent (number - 1) m h.there)
    ∙ ap (λ (to : Node). is_node to (Server shard)) h.to
    ∙ eq-eqb shard.0 shard.0 refl

-- ---- what a line asks for

pub is_there : (w : GrownWorld) (a : Wanted) → wants_unsent a (messages_of w.sent) ≡ false → AsksForSent w a
is_there w (wanted.Any place) h = tt
is_there w (wanted.Event (Submit coord proc args)) h = tt
is_there w (wanted.Event (Deliver number)) h = let l = ltb-false (length (messages_of w.sent)) number h in let many = many_messages w.sent in omega arith
is_there w (wanted.Event (Tick node)) h = tt
is_there w (wanted.Event (Drain coord)) h = tt
is_there w (wanted.Event (Stop shard None)) h = tt
is_there w (wanted.Event (Stop shard (Some (number, kept)))) h = sent_to w.sent shard number (not-false (is_sent_to shard number (messages_of w.sent)) h)

pub is_not_there : (w : GrownWorld) (a : Wanted) → wants_unsent a (messages_of w.sent) ≡ true → AsksForSent w a → ⊥
is_not_there w (wanted.Any place) h there = false≢true h
is_not_there w (wanted.Event (Submit coord proc args)) h there = false≢true h
is_not_there w (wanted.Event (Deliver number)) h there = let past = ltb-true (length (messages_of w.sent)) number h in let many = many_messages w.sent in omega arith
is_not_there w (wanted.Event (Tick node)) h there = false≢true h
is_not_there w (wanted.Event (Drain coord)) h there = false≢true h
is_not_there w (wanted.Event (Stop shard None)) h there = false≢true h
is_not_there w (wanted.Event (Stop shard (Some (number, kept)))) h there =
    false≢true (sym (not-true (is_sent_to shard number (messages_of w.sent)) h) ∙ is_sent w.sent shard number there.0 there.1)
