-- The world beside, of transactions alone: what holds of it, and how it takes the steps of servers and coordinators
use Rattle.std.proofs.Common.{◌≡◌, ◌↔◌, ◌∙◌, ◌⊎◌, inl, inr, ℕ, zero, suc, Bool, true, false, not, cond, List, [], ◌∷◌, ◌++◌, Option, Some, None, refl, sym, ap, subst, append-nil, ◌≢◌}
use Rattle.std.proofs.lemmas.List.Elements.{filter-append}
use Rattle.std.specs.Prelude.{slice_get, slice_set}
use Rattle.std.specs.List.{filter}
use Rattle.roc_sequence.specs.Lists.{Has}
use Rattle.roc_base.specs.declared.id.TxnId.{TxnId}
use Rattle.roc_base.specs.declared.node.Node.{Node}
use Rattle.roc_base.specs.declared.node.Node.TheVariants.{Server, Coord}
use Rattle.roc_msg.specs.declared.outbox.Outgoing.{Outgoing}
use Rattle.roc_plan.specs.Groups.{Plan}
use Rattle.roc_step.specs.State.{ServerState, ServerStep}
use Rattle.roc_step.specs.Reads.{ReadStep}
use Rattle.roc_coord.specs.State.{CoordState}
use Rattle.roc_audit.specs.declared.entry.Entry.{Entry}
use Rattle.roc_audit.specs.Order.{noted}
use Rattle.roc_audit.specs.Woven.{without_views, entry_id}
use Rattle.roc_law_protocol.specs.declared.event.Event.{Event}
use Rattle.roc_law_protocol.specs.declared.event.Seen.TheVariants as seen
use Rattle.roc_law_protocol.specs.World as transactions
use Rattle.roc_law_protocol.specs.Happens as theirs
use Rattle.roc_law_protocol.specs.Beside as their_besides
use Rattle.roc_law_world.specs.World.{World, sends, at_server, at_coord}
use Rattle.roc_law_world.specs.Happens.{Outcome, undecided}
use Rattle.roc_law_world.specs.Bare.{bare_step}
use Rattle.roc_law_world.specs.Beside.{is_of_view, of_transactions, number_among, IsBeside, is_of_transaction}
use Rattle.roc_law_world.proofs.Sent.{envelopes, beside_sends}
use Rattle.roc_law_world.proofs.TickSends.{of_transaction}
use Rattle.roc_law_world.proofs.Coordinators.{IsCoordSound}
use Rattle.roc_base.specs.declared.node.Shard.{Shard}
use Rattle.roc_msg.specs.declared.msg.Envelope.{Envelope}
use Rattle.roc_law_protocol.specs.declared.event.Event.TheVariants.{Deliver, Stop}
use Rattle.roc_law_protocol.specs.declared.event.Kept.{Kept}
use Rattle.roc_law_world.proofs.TakenAlike.{TakesAlike, none_taken}
use Rattle.roc_law_protocol.proofs.Stops.{set_there}

pub set_cases : {A : Type 0} (xs : List A) (i j : ℕ) (a b c : A) → slice_get xs i ≡ Some a → slice_get (slice_set xs i b) j ≡ Some c → (c ≡ b) ⊎ (slice_get xs j ≡ Some c)
set_cases [] i j a b c there at = absurd (cc)
set_cases (x ∷ xs) zero zero a b c there at = inl (the at)
  where
    the : Some b ≡ Some c → c ≡ b
    the e = cc
set_cases (x ∷ xs) zero (suc j) a b c there at = inr at
set_cases (x ∷ xs) (suc i) zero a b c there at = inr at
set_cases (x ∷ xs) (suc i) (suc j) a b c there at = set_cases xs i j a b c there at

-- the messages of transactions among what is sent
pub kept_envelopes : (from : Node) (outs : List Outgoing) → of_transactions (envelopes from outs) ≡ envelopes from (filter of_transaction outs)
kept_envelopes from [] = refl
kept_envelopes from (out ∷ outs) = go (is_of_view out.msg) (kept_envelopes from outs)
  where
    go : (b : Bool) → of_transactions (envelopes from outs) ≡ envelopes from (filter of_transaction outs)
        → cond (not b) (transactions.sent_by from out ∷ of_transactions (envelopes from outs)) (of_transactions (envelopes from outs)) ≡ envelopes from (cond (not b) (out ∷ filter of_transaction outs) (filter of_transaction outs))
    go true h = h
    go false h = ap (λ l. transactions.sent_by from out ∷ l) h

-- what an event of the one world is beside in the other: a delivery of a message of transactions is beside that of it, and only a stop of a server is beside a stop of it
pub record AreEventsBeside (sent : List Envelope) (e f : Option Event) : Type 0 where
  pub comes : (k : ℕ) (m : Envelope) → slice_get sent k ≡ Some m → is_of_transaction m ≡ true → e ≡ Some (Deliver (suc k)) → f ≡ Some (Deliver (suc (number_among sent k)))
  pub stops : (shard : Shard) (during : Option (ℕ × Kept)) → f ≡ Some (Stop shard during) → (own : Option (ℕ × Kept)) × (e ≡ Some (Stop shard own))

-- where a message of transactions is no delivery, none is beside it
pub never_beside : (sent : List Envelope) (e : Option Event) → ((k : ℕ) → e ≢ Some (Deliver k)) → AreEventsBeside sent e None
never_beside sent e never = record { comes = λ k m at of d. absurd (never (suc k) d); stops = λ shard during s. absurd (nothing shard during s) }
  where
    nothing : (shard : Shard) (during : Option (ℕ × Kept)) → None ≢ Some (Stop shard during)
    nothing shard during e = cc

module _ (plan : Plan) (is_view : TxnId → Bool) where
  -- what holds of a world beside
  pub record Holds (w : World) (t : transactions.World) : Type 0 where
    pub beside : IsBeside is_view w t
    pub coords : (n : ℕ) (s : CoordState) → slice_get w.coords n ≡ Some s → IsCoordSound is_view s

  -- what comes beside of a step: an event of the other world, or something aside there, or it stays
  pub record Follows (w : World) (t : transactions.World) (e : Option Event) (o : Outcome) : Type 0 where
    pub event : Option Event
    pub events : AreEventsBeside w.sent e event
    pub outcome : theirs.Outcome
    pub moves : their_besides.Moves plan t event outcome
    pub holds : Holds o.world outcome.world
    pub components : outcome.components ≡ o.components
    pub decided : outcome.decided ≡ o.decided
    pub ran : outcome.ran ≡ o.ran
    -- and what a server took here it took there
    pub taken : TakesAlike (bare_step (record { event = e; outcome = o })) (record { event = event; outcome = outcome })

  -- ---- the other world

  pub stays : (w : World) (t : transactions.World) (e : Option Event) → AreEventsBeside w.sent e None → (what : _) (v : World) → Holds v t → Follows w t e (undecided what v)
  stays w t e none what v h =
      record { event = None; events = none; outcome = theirs.undecided seen.Done t; moves = inl refl; holds = h; components = refl; decided = refl; ran = refl; taken = none_taken _ _ refl refl }

  module _ (w : World) (t : transactions.World) (b : IsBeside is_view w t) where
    -- a coordinator takes a step: what it sends and tells of transactions
    pub coord_beside : (n : ℕ) (s : CoordState) (outs some : List Outgoing) (told ours : List Entry) → of_transactions (envelopes (Coord n) outs) ≡ envelopes (Coord n) some
        → without_views is_view told ≡ ours → IsBeside is_view (at_coord w n s outs told) (transactions.at_coord t n s some ours)
    coord_beside n s outs some told ours of only =
        let q = beside_sends is_view w t b (Coord n) outs some of in
        record {
          servers = q.servers;
          coords = ap (λ l. slice_set l n s) b.coords;
          sent = q.sent;
          undelivered = q.undelivered;
          history =
              ap (λ l. l ++ ours) b.history
              ∙ (ap (λ l. without_views is_view w.history ++ l) (sym only) ∙ sym (filter-append (λ e. not (is_view (entry_id e))) w.history told));
          order = b.order;
        }

    pub server_beside : (n : ℕ) (r : ServerStep) (q : ReadStep) → of_transactions (envelopes (Server (record { 0 = n })) (r.sends ++ q.sends)) ≡ envelopes (Server (record { 0 = n })) r.sends
        → IsBeside is_view (at_server w n r q) (transactions.at_server t n r)
    server_beside n r q of =
        let k = beside_sends is_view w t b (Server (record { 0 = n })) (r.sends ++ q.sends) r.sends of in
        record {
          servers = ap (λ l. slice_set l n r.state) b.servers;
          coords = k.coords;
          sent = k.sent;
          undelivered = k.undelivered;
          history = k.history;
          order = ap (λ l. noted l r.decided) b.order;
        }

    -- what is sent is of views
    beside_views : (from : Node) (outs : List Outgoing) → of_transactions (envelopes from outs) ≡ [] → IsBeside is_view (sends w from outs) t
    beside_views from outs of =
        let k = beside_sends is_view w t b from outs [] of in
        record {
          servers = k.servers;
          coords = k.coords;
          sent = sym (append-nil t.sent) ∙ k.sent;
          undelivered = λ j m at is. subst (λ l. Has (suc j) (sends w from outs).undelivered ↔ Has (suc (number_among (sends w from outs).sent j)) l) (append-nil t.undelivered) (k.undelivered j m at is);
          history = k.history;
          order = k.order;
        }

    -- a node keeps its state
    pub server_still : (n : ℕ) (s : ServerState) (r : ServerStep) (q : ReadStep) → slice_get w.servers n ≡ Some s → r.state ≡ s → r.decided ≡ [] → of_transactions (envelopes (Server (record { 0 = n })) (r.sends ++ q.sends)) ≡ []
        → IsBeside is_view (at_server w n r q) t
    server_still n s r q there state none of =
        let k = beside_views (Server (record { 0 = n })) (r.sends ++ q.sends) of in
        record {
          servers = k.servers ∙ (sym (set_there w.servers n s there) ∙ ap (slice_set w.servers n) (sym state));
          coords = k.coords;
          sent = k.sent;
          undelivered = k.undelivered;
          history = k.history;
          order = k.order ∙ ap (noted w.order) (sym none);
        }

    pub coord_still : (n : ℕ) (s : CoordState) → slice_get w.coords n ≡ Some s → IsBeside is_view (at_coord w n s [] []) t
    coord_still n s there =
        let k = beside_views (Coord n) [] refl in
        record {
          servers = k.servers;
          coords = k.coords ∙ sym (set_there w.coords n s there);
          sent = k.sent;
          undelivered = k.undelivered;
          history = k.history ∙ ap (without_views is_view) (sym (append-nil w.history));
          order = k.order;
        }

  pub coords_set : (w : World) (n : ℕ) (s t : CoordState) → slice_get w.coords n ≡ Some s → ((m : ℕ) (c : CoordState) → slice_get w.coords m ≡ Some c → IsCoordSound is_view c) → IsCoordSound is_view t
      → (m : ℕ) (c : CoordState) → slice_get (slice_set w.coords n t) m ≡ Some c → IsCoordSound is_view c
  coords_set w n s t there all own m c at = elim (set_cases w.coords n m s t c there at) [
    | inl k ↦ subst (IsCoordSound is_view) (sym k) own
    | inr k ↦ all m c k
  ]
