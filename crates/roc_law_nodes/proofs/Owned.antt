-- A node's own events and messages in a run, and one step later
use Rattle.std.proofs.Common.{◌≡◌, ℕ, Bool, true, false, cond, List, [], ◌∷◌, ◌++◌, Option, Some, None, map, refl, sym, ap, ◌∙◌, append-nil, append_assoc}
use Rattle.std.proofs.lemmas.List.{map-append}
use Rattle.std.proofs.lemmas.List.Elements.{filter-append, filter_map-append}
use Rattle.std.specs.Prelude.{filter, if◌then◌else◌}
use Rattle.std.specs.List.{cons_option}
use Rattle.roc_base.specs.declared.node.Node.{Node}
use Rattle.roc_base.specs.Node.{is_node}
use Rattle.roc_msg.specs.declared.msg.Envelope.{Envelope}
use Rattle.roc_msg.specs.declared.outbox.Outgoing.{Outgoing}
use Rattle.roc_plan.specs.Groups.{Plan}
use Rattle.roc_law_protocol.specs.declared.event.Event.{Event}
use Rattle.roc_law_protocol.specs.World.{sent_by}
use Rattle.roc_law_world.specs.World.{World}
use Rattle.roc_law_world.specs.Run.{Stepped, IsRun, at_beginning, steps_on}
use Rattle.roc_law_nodes.specs.Own.{OwnEvent, own_step, own_events, messages_of}
use Rattle.roc_law_nodes.proofs.Stepping.{IsStepAt, IsStep, no_step, server_step, coord_step, stepping}

-- ---- messages

abbrev to_send : Envelope → Outgoing
to_send m = record { to = m.to; msg = m.msg }

module _ (node : Node) where
  pub sent_here : (from : Node) → is_node from node ≡ true → (outs : List Outgoing) → messages_of node (map (sent_by from) outs) ≡ outs
  sent_here from e [] = refl
  sent_here from e (out ∷ outs) =
      let rest = messages_of node (map (sent_by from) outs) in
      let others : List Envelope = filter (λ m. is_node m.from node) (map (sent_by from) outs) in
      ap (λ (b : Bool). map to_send (cond b (sent_by from out ∷ others) others)) e ∙ ap (λ (l : List Outgoing). out ∷ l) (sent_here from e outs)

  pub sent_elsewhere : (from : Node) → is_node from node ≡ false → (outs : List Outgoing) → messages_of node (map (sent_by from) outs) ≡ []
  sent_elsewhere from e [] = refl
  sent_elsewhere from e (out ∷ outs) =
      let others : List Envelope = filter (λ m. is_node m.from node) (map (sent_by from) outs) in
      ap (λ (b : Bool). map to_send (cond b (sent_by from out ∷ others) others)) e ∙ sent_elsewhere from e outs

  pub more_messages : (sent more : List Envelope) → messages_of node (sent ++ more) ≡ messages_of node sent ++ messages_of node more
  more_messages sent more =
      ap (map to_send) (filter-append (λ (m : Envelope). is_node m.from node) sent more) ∙ map-append to_send (filter (λ m. is_node m.from node) sent) (filter (λ m. is_node m.from node) more)

-- ---- own events

module _ (node : Node) where
  -- one step more, where what happened before is the same whatever is sent since
  own_more : (before after outs : List Envelope) (steps : List Stepped) (x : Stepped) (own : Option OwnEvent)
      → ((more : List Envelope) → own_events node (before ++ more) steps ≡ own_events node before steps) → ((more : List Envelope) → own_step node (before ++ more) x.event ≡ own)
      → after ≡ before ++ outs → (more : List Envelope) → own_events node (after ++ more) (steps ++ x ∷ []) ≡ own_events node before steps ++ cons_option own []
  own_more before after outs steps x own kept is grows more =
      let whole : after ++ more ≡ before ++ (outs ++ more) = ap (λ l. l ++ more) grows ∙ append_assoc before outs more in
      let front : own_events node (after ++ more) steps ≡ own_events node before steps = ap (λ l. own_events node l steps) whole ∙ kept (outs ++ more) in
      let last : own_step node (after ++ more) x.event ≡ own = ap (λ l. own_step node l x.event) whole ∙ is (outs ++ more) in
      filter_map-append (λ (s : Stepped). own_step node (after ++ more) s.event) steps (x ∷ [])
      ∙ (ap (λ (l : List OwnEvent). l ++ cons_option (own_step node (after ++ more) x.event) []) front ∙ ap (λ (p : Option OwnEvent). own_events node before steps ++ cons_option p []) last)

  -- what an event is to the node, and what it adds to the network
  record Adds (w v : World) (e : Option Event) : Type 0 where
    pub own : Option OwnEvent
    pub outs : List Envelope
    pub grows : v.sent ≡ w.sent ++ outs
    pub is : (more : List Envelope) → own_step node (w.sent ++ more) e ≡ own

  adds : (plan : Plan) (w v : World) (e : Option Event) → IsStep plan w v e → Adds w v e
  adds plan w v e (no_step same none) = record { own = None; outs = []; grows = ap (λ (u : World). u.sent) same ∙ sym (append-nil w.sent); is = λ more. ap (own_step node (w.sent ++ more)) none }
  adds plan w v e (server_step shard own s after views kept outs at there keeps steps servers viewing coords) = record { own = _; outs = _; grows = at.sends; is = at.is node }
  adds plan w v e (coord_step number own c after outs at there steps coords servers viewing) = record { own = _; outs = _; grows = at.sends; is = at.is node }

  -- what is sent since changes nothing of what happened
  pub own_kept : {plan : Plan} {coords : ℕ} {steps : List Stepped} {w : World} → IsRun plan coords steps w → (more : List Envelope) → own_events node (w.sent ++ more) steps ≡ own_events node w.sent steps
  own_kept at_beginning more = refl
  own_kept {plan} {coords} (steps_on {steps = steps} {w = w} e o r h) more =
      let a = adds plan w o.world e (stepping plan w e o h) in
      let x : Stepped = record { event = e; outcome = o } in
      let at = own_more w.sent o.world.sent a.outs steps x a.own (own_kept r) a.is a.grows in
      at more ∙ (sym (at []) ∙ ap (λ l. own_events node l (steps ++ x ∷ [])) (append-nil o.world.sent))

  -- the node's own events and messages with a step
  pub record Gains (w v : World) (steps : List Stepped) (x : Stepped) (own : List OwnEvent) (outs : List Outgoing) : Type 0 where
    pub events : own_events node v.sent (steps ++ x ∷ []) ≡ own_events node w.sent steps ++ own
    pub messages : messages_of node v.sent ≡ messages_of node w.sent ++ outs

  module _ {plan : Plan} {coords : ℕ} {steps : List Stepped} {w : World} (r : IsRun plan coords steps w) (x : Stepped) (v : World) where
    events_with : (own : Option OwnEvent) (outs : List Envelope) → ((more : List Envelope) → own_step node (w.sent ++ more) x.event ≡ own) → v.sent ≡ w.sent ++ outs
        → own_events node v.sent (steps ++ x ∷ []) ≡ own_events node w.sent steps ++ cons_option own []
    events_with own outs is grows = ap (λ l. own_events node l (steps ++ x ∷ [])) (sym (append-nil v.sent)) ∙ own_more w.sent v.sent outs steps x own (own_kept r) is grows []

    pub gains_here : (from : Node) (own : OwnEvent) (outs : List Outgoing) → IsStepAt w v x.event from own outs → is_node from node ≡ true → Gains w v steps x (own ∷ []) outs
    gains_here from own outs at here =
        record {
          events = events_with (Some own) (map (sent_by from) outs) (λ more. at.is node more ∙ ap (λ (b : Bool). if b then Some own else None) here) at.sends;
          messages = ap (messages_of node) at.sends ∙ (more_messages node w.sent (map (sent_by from) outs) ∙ ap (λ l. messages_of node w.sent ++ l) (sent_here node from here outs));
        }

    pub gains_elsewhere : (from : Node) (own : OwnEvent) (outs : List Outgoing) → IsStepAt w v x.event from own outs → is_node from node ≡ false → Gains w v steps x [] []
    gains_elsewhere from own outs at other =
        record {
          events = events_with None (map (sent_by from) outs) (λ more. at.is node more ∙ ap (λ (b : Bool). if b then Some own else None) other) at.sends;
          messages = ap (messages_of node) at.sends ∙ (more_messages node w.sent (map (sent_by from) outs) ∙ ap (λ l. messages_of node w.sent ++ l) (sent_elsewhere node from other outs));
        }

    pub gains_nothing : v ≡ w → x.event ≡ None → Gains w v steps x [] []
    gains_nothing same none =
        record {
          events = events_with None [] (λ more. ap (own_step node (w.sent ++ more)) none) (ap (λ (u : World). u.sent) same ∙ sym (append-nil w.sent));
          messages = ap (λ (u : World). messages_of node u.sent) same ∙ sym (append-nil (messages_of node w.sent));
        }
