-- Datagrams that spell deliveries bring them
use Rattle.std.proofs.Common.{◌≡◌, ℕ, Bool, true, false, List, [], ◌∷◌, ◌++◌, Ok, refl, sym, ap, subst, ◌∙◌}
use Rattle.std.proofs.lemmas.Slice.Eq.{bytes_eq-Decides}
use Rattle.std.specs.Prelude.{bytes_eq, if◌then◌else◌}
use Rattle.roc_base.specs.declared.node.Node.{Node}
use Rattle.roc_msg.specs.declared.msg.Msg.{Msg}
use Rattle.roc_msg.specs.declared.msg.Envelope.{Envelope}
use Rattle.roc_wire.specs.declared.header.Header.{Header}
use Rattle.std.specs.List.{AllByRecursion}
use Rattle.roc_io.specs.declared.link.Addr.{Addr}
use Rattle.roc_io.specs.Packet.{Packet}
use Rattle.roc_wire.specs.Spelling.{spelling}
use Rattle.roc_wire.specs.Laws.{Spells}
use Rattle.roc_wire.specs.Reading.{datagram, pair}
use Rattle.roc_node.specs.Judgement.{judged, with_tag}
use Rattle.roc_node.specs.declared.judging.Judged.{Judged}
use Rattle.roc_node.specs.declared.judging.Judged.TheVariants.{Delivery, Skipped}
use Rattle.roc_node.specs.declared.judging.Skip.TheVariants.{Tag}
use Rattle.roc_node.specs.NodeEvent.{NodeEvent, took, silent}
use Rattle.roc_node_serve.specs.ServerRun.{is_stop}
use Rattle.roc_law_nodes.specs.Interleaved.{WasSentTo, IsMessageSent, IsJudgedSent, IsCaused}
use Rattle.roc_law_nodes.specs.Own.{OwnEvent, delivered, ticked, requested, stopped}
use Rattle.roc_law_nodes.specs.Turns.{judged_brings, turn_brings, turns_bring, SpellsDelivery, HasTurn, IsTurnOf, AreTurnsOf, no_turns, turn, skipping}

module _ (reads : (bytes : List ℕ) (header : Header) (msg : Msg) → Spells bytes header msg → datagram bytes ≡ Ok (pair header msg)) (tag : List ℕ) where
  is_delivery : (bytes : List ℕ) (msg : Msg) → (s : SpellsDelivery tag bytes msg) → judged tag bytes ≡ Delivery s.header msg
  is_delivery bytes msg s =
      let same : bytes_eq s.header.tag tag ≡ true = (bytes_eq-Decides s.header.tag tag).1 s.tagged in
      ap (with_tag tag) (reads bytes s.header msg s.spells) ∙ ap (λ (b : Bool). if b then Delivery s.header msg else Skipped Tag) same

  delivery : (bytes : List ℕ) (msg : Msg) → SpellsDelivery tag bytes msg → judged_brings (judged tag bytes) ≡ delivered msg ∷ []
  delivery bytes msg s = ap judged_brings (is_delivery bytes msg s)

  -- what spells a message that was sent to a node may come to it
  pub spelled_is_caused : (sent : List Envelope) (node : Node) (packet : Packet) (msg : Msg) → SpellsDelivery tag packet.bytes msg → WasSentTo sent node msg → IsCaused tag sent node (took packet)
  spelled_is_caused sent node packet msg s was = subst (IsJudgedSent sent node) (sym (is_delivery packet.bytes msg s)) (go (is_stop msg))
    where
      go : (stops : Bool) → IsMessageSent sent node stops msg
      go true = tt
      go false = was

  turn_of : (event : NodeEvent) (own : OwnEvent) → IsTurnOf tag event own → turn_brings tag event ≡ own ∷ []
  turn_of (took packet) (delivered msg) s = delivery packet.bytes msg s
  turn_of (took packet) ticked s = absurd s
  turn_of (took packet) (requested proc args) s = absurd s
  turn_of (took packet) (stopped at) s = absurd s
  turn_of silent ticked s = refl
  turn_of silent (delivered msg) s = absurd s
  turn_of silent (requested proc args) s = absurd s
  turn_of silent (stopped at) s = absurd s

  pub turns_of : {events : List NodeEvent} {owns : List OwnEvent} → AreTurnsOf tag events owns → turns_bring tag events ≡ owns
  turns_of no_turns = refl
  turns_of (turn {events} {owns} event own is rest) = ap (λ (l : List OwnEvent). l ++ turns_bring tag events) (turn_of event own is) ∙ ap (λ (l : List OwnEvent). own ∷ l) (turns_of rest)
  turns_of (skipping {events} {owns} packet skip is rest) = ap (λ (j : Judged). judged_brings j ++ turns_bring tag events) is ∙ turns_of rest

-- what can be spelled is spelled by some turns
pub have_turns : (header : Header) (from : Addr) (owns : List OwnEvent) → AllByRecursion (HasTurn header) owns → (events : List NodeEvent) × AreTurnsOf header.tag events owns
have_turns header from [] h = ([], no_turns)
have_turns header from (delivered msg ∷ owns) h =
    let rest = have_turns header from owns h.1 in
    let packet : Packet = record { address = from; bytes = spelling header msg } in
    let spelled : SpellsDelivery header.tag (spelling header msg) msg = record { header = header; tagged = refl; spells = record { fits = h.0; text = refl } } in
    (took packet ∷ rest.0, turn (took packet) (delivered msg) spelled rest.1)
have_turns header from (ticked ∷ owns) h = let rest = have_turns header from owns h.1 in (silent ∷ rest.0, turn silent ticked tt rest.1)
have_turns header from (requested proc args ∷ owns) h = absurd h.0
have_turns header from (stopped at ∷ owns) h = absurd h.0
