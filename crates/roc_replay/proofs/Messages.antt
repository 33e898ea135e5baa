-- The messages of a network, without the file of each
use Rattle.std.proofs.Common.{◌≡◌, ℕ, zero, suc, ◌∷◌, ◌++◌, Bool, List, [], Some, length, map, refl, ap}
use Rattle.std.proofs.lemmas.List.{length-map, map-append}
use Rattle.std.specs.Prelude.{slice_get}
use Rattle.roc_base.specs.declared.node.Node.{Node}
use Rattle.roc_msg.specs.declared.msg.Envelope.{Envelope}
use Rattle.roc_msg.specs.declared.outbox.Outgoing.{Outgoing}
use Rattle.roc_law_protocol.specs.World.{sent_by}
use Rattle.roc_two_files.specs.Sealed.{Sealed, sealed_by}
use Rattle.roc_growth.specs.Quiet.{messages_of}

pub many_messages : (sent : List Sealed) → length (messages_of sent) ≡ length sent
many_messages sent = length-map sent (λ (m : Sealed). m.message)

pub message_there : (sent : List Sealed) (k : ℕ) (m : Sealed) → slice_get sent k ≡ Some m → slice_get (messages_of sent) k ≡ Some m.message
message_there [] k m e = absurd (cc)
message_there (x ∷ rest) zero m e = let same : x ≡ m = cc in ap (λ (m : Sealed). Some m.message) same
message_there (x ∷ rest) (suc k) m e = message_there rest k m e

pub from_messages : (sent : List Sealed) (k : ℕ) (m : Envelope) → slice_get (messages_of sent) k ≡ Some m → (own : Sealed) × (slice_get sent k ≡ Some own) × (own.message ≡ m)
from_messages [] k m e = absurd (cc)
from_messages (x ∷ rest) zero m e = (x, refl, cc)
from_messages (x ∷ rest) (suc k) m e = from_messages rest k m e

-- what a node sends
pub messages_by : (switched : Bool) (from : Node) (outs : List Outgoing) → messages_of (map (sealed_by switched from) outs) ≡ map (sent_by from) outs
messages_by switched from [] = refl
messages_by switched from (out ∷ outs) = ap (λ (l : List Envelope). sent_by from out ∷ l) (messages_by switched from outs)

pub messages_behind : (sent more : List Sealed) → messages_of (sent ++ more) ≡ messages_of sent ++ messages_of more
messages_behind sent more = map-append (λ (m : Sealed). m.message) sent more
