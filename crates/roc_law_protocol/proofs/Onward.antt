-- What an event adds to a history and to what coordinators used, and that what agrees behind it agreed before
use Rattle.std.proofs.Common.{◌≡◌, ℕ, ℤ, ◌<◌, ◌≤◌, ◌++◌, List, [], ◌∷◌, Option, Some, None, refl, sym, ap, subst, ◌∙◌, inl, inr, arith, append-nil}
use Rattle.std.specs.Prelude.{slice_get}
use Rattle.roc_sequence.specs.Lists.{Has}
use Rattle.roc_sequence.proofs.Members.{has_append, has_one, has_left}
use Rattle.roc_base.specs.declared.id.TxnId.{TxnId}
use Rattle.roc_base.specs.declared.node.Node.{Node}
use Rattle.roc_base.specs.declared.node.Node.TheVariants.{Server, Coord}
use Rattle.roc_msg.specs.declared.outbox.Outgoing.{Outgoing}
use Rattle.roc_plan.specs.Groups.{Plan}
use Rattle.roc_whole.specs.Serial as whole
use Rattle.roc_coord.specs.State.{CoordState}
use Rattle.roc_coord.specs.Step.{after_message}
use Rattle.roc_coord.specs.Submit.{next_id, new_transaction, accepted}
use Rattle.roc_audit.specs.declared.entry.Entry.{Entry}
use Rattle.roc_audit.specs.declared.entry.Entry.TheVariants.{Submitted}
use Rattle.roc_audit.specs.History.{WasSubmitted}
use Rattle.roc_law_protocol.specs.declared.event.Event.{Event}
use Rattle.roc_law_protocol.specs.declared.event.Event.TheVariants.{Submit, Deliver, Tick, Stop}
use Rattle.roc_law_protocol.specs.World.{World, mark_delivered, at_coord}
use Rattle.roc_law_protocol.specs.Happens.{Outcome, answer_entries, IsReceived}
use Rattle.roc_law_protocol.specs.Beside.{Moves}
use Rattle.roc_law_protocol.proofs.Changed.{get-set_here, get-set_other}
use Rattle.std.proofs.lemmas.Bool.{cases_eq}
use Rattle.roc_law_protocol.proofs.KeptAside.{kept_aside, aside_onward}
use Rattle.roc_law_protocol.proofs.Submissions.{AreSubmissions, keeps_number, no_submission}
use Rattle.roc_law_protocol.proofs.AcceptedSubmissions.{Submitting, is_refused, is_accepted, submitting}
use Rattle.roc_law_protocol.proofs.Logged.{Agrees}
use Rattle.roc_law_protocol.proofs.Stops.{stop_keeps}

-- a history grows at its end, no coordinator goes, and what is submitted has a sequence that was not used
pub record IsNext (w v : World) : Type 0 where
  pub more : List Entry
  pub is : v.history ≡ w.history ++ more
  pub coords : (n : ℕ) (c : CoordState) → slice_get w.coords n ≡ Some c → (d : CoordState) × (slice_get v.coords n ≡ Some d) × (c.next ≤ d.next)
  pub fresh : (t : TxnId) → WasSubmitted more t → (c : CoordState) → slice_get w.coords t.coord ≡ Some c → c.next ≤ t.seq

module _ (w : World) where
  -- nothing is told, and coordinators stay
  still_next : (v : World) → v.history ≡ w.history → v.coords ≡ w.coords → IsNext w v
  still_next v history coords =
      record {
        more = [];
        is = history ∙ sym (append-nil w.history);
        coords = λ n c e. (c, subst (λ l. slice_get l n ≡ Some c) (sym coords) e, omega arith);
        fresh = λ t s. absurd s.2;
      }

  -- a coordinator takes a step
  coord_next : (n : ℕ) (s after : CoordState) → slice_get w.coords n ≡ Some s → s.next ≤ after.next → (outs : List Outgoing) (tells : List Entry)
      → ((t : TxnId) → WasSubmitted tells t → (c : CoordState) → slice_get w.coords t.coord ≡ Some c → c.next ≤ t.seq) → IsNext w (at_coord w n after outs tells)
  coord_next n s after there onward outs tells fresh =
      record {
        more = tells;
        is = refl;
        coords = λ m c e. elim (cases_eq n m) [
          | inl same ↦
              (let here : slice_get w.coords m ≡ Some s = subst (λ m. slice_get w.coords m ≡ Some s) same there in
              let one : s ≡ c = cc in
              (after, subst (λ m. slice_get (at_coord w n after outs tells).coords m ≡ Some after) same (get-set_here w.coords n s after there), subst (λ (c : CoordState). c.next ≤ after.next) one onward))
          | inr other ↦ (c, get-set_other w.coords n m after other ∙ e, omega arith)
        ];
        fresh = fresh;
      }

module _ (plan : Plan) (w : World) (a : AreSubmissions plan w.history w.coords) where
  pub step_next : (e : Option Event) (o : Outcome) → Moves plan w e o → IsNext w o.world
  step_next None o (inl h) = subst (λ (o : Outcome). IsNext w o.world) (sym h) (still_next w w refl refl)
  step_next None o (inr x) =
      subst (λ (o : Outcome). IsNext w o.world) (sym x.is)
      (coord_next w x.number x.before x.after x.there (aside_onward plan x.before x.after x.sends (kept_aside plan x.before x.after x.sends x.does)) x.sends [] (λ t h. absurd h.2))
  step_next (Some (Submit n proc args)) o (s, there, h) = go (submitting plan w n proc args s o h)
    where
      new : (t : TxnId) → WasSubmitted (Submitted (next_id s) proc args ∷ []) t → (c : CoordState) → slice_get w.coords t.coord ≡ Some c → c.next ≤ t.seq
      new t (p, x, k) c at =
          let e = has_one (Submitted t p x) (Submitted (next_id s) proc args) k in
          let same : t ≡ next_id s = cc in
          let here = subst (λ (t : TxnId). slice_get w.coords t.coord ≡ Some c) same at in
          let own = subst (λ m. slice_get w.coords m ≡ Some s) (sym (a.numbers n s there)) there in
          let one : c ≡ s = cc in
          let l : s.next ≤ s.next = omega arith in
          subst (λ (t : TxnId). c.next ≤ t.seq) (sym same) (subst (λ (c : CoordState). c.next ≤ s.next) (sym one) l)

      go : Submitting plan w n proc args s o → IsNext w o.world
      go (is_refused e) = subst (IsNext w) (sym e) (still_next w w refl refl)
      go (is_accepted known counted e) =
          let r = accepted plan s (new_transaction s proc args) in
          subst (IsNext w) (sym e) (coord_next w n s r.state there (omega arith) r.sends (Submitted (next_id s) proc args ∷ []) new)
  step_next (Some (Deliver k)) o (m, some, there, h) = go m.to h
    where
      go : (to : Node) → IsReceived plan (mark_delivered w k) m.msg to o → IsNext w o.world
      go (Server shard) (s, r, at, step, e) = still_next w o.world (ap (λ (o : Outcome). o.world.history) e) (ap (λ (o : Outcome). o.world.coords) e)
      go (Coord n) (s, at, e) =
          let r = after_message plan s m.msg in
          let same = (keeps_number plan s m.msg).next in
          let x = coord_next (mark_delivered w k) n s r.state at (omega (arith, same)) r.sends (answer_entries r.answer) (λ t q. absurd (no_submission r.answer t q.0 q.1 q.2)) in
          subst (λ (o : Outcome). IsNext w o.world) (sym e) (record { more = x.more; is = x.is; coords = x.coords; fresh = x.fresh })
  step_next (Some (Tick (Server shard))) o (s, there, e) = still_next w o.world (ap (λ (o : Outcome). o.world.history) e) (ap (λ (o : Outcome). o.world.coords) e)
  step_next (Some (Tick (Coord n))) o (s, there, e) =
      subst (λ (o : Outcome). IsNext w o.world) (sym e) (coord_next w n s s there (omega arith) _ [] (λ t h. absurd h.2))
  step_next (Some (Stop shard during)) o x = let q = stop_keeps plan w shard.0 during o x in still_next w o.world q.0 q.1

  pub agrees_before : (asked : TxnId → whole.Call) (e : Option Event) (o : Outcome) → Moves plan w e o → Agrees asked o.world → Agrees asked w
  agrees_before asked e o h g =
      record {
        proc = λ t p b k. g.proc t p b (later t p b k);
        args = λ t p b k. g.args t p b (later t p b k);
        id = λ t p b k. g.id t p b (later t p b k);
        used = used;
      }
    where
      x : IsNext w o.world
      x = step_next e o h

      later : (t : TxnId) (p : ℕ) (b : List ℤ) → Has (Submitted t p b) w.history → Has (Submitted t p b) o.world.history
      later t p b k = subst (Has (Submitted t p b)) (sym x.is) (has_left (Submitted t p b) w.history x.more k)

      used : (t : TxnId) (c : CoordState) → slice_get w.coords t.coord ≡ Some c → t.seq < c.next → (asked t).id ≡ t → WasSubmitted w.history t
      used t c at below own =
          let d = x.coords t.coord c at in
          let up = d.2 in
          let was = g.used t d.0 d.1 (omega arith) own in
          elim (has_append (Submitted t was.0 was.1) w.history x.more (subst (Has (Submitted t was.0 was.1)) x.is was.2)) [
            | inl k ↦ (was.0, was.1, k)
            | inr k ↦ (let late = x.fresh t (was.0, was.1, k) c at in absurd (omega arith))
          ]
