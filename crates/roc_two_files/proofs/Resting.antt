-- Coordinators of which nothing is unanswered rest
use Rattle.std.proofs.Common.{◌≡◌, ◌∙◌, ℕ, ◌-◌, List, [], ◌++◌, Some, None, refl, sym, ap, subst, append-nil}
use Rattle.std.specs.Prelude.{slice_get}
use Rattle.std.specs.List.{flat_map}
use Rattle.roc_base.specs.declared.node.Node.TheVariants.{Coord}
use Rattle.roc_msg.specs.declared.msg.Envelope.{Envelope}
use Rattle.roc_msg.specs.declared.msg.Msg.{Msg}
use Rattle.roc_msg.specs.declared.msg.Msg.TheVariants.{StartOk, CommitOk, ReadOk}
use Rattle.roc_msg.specs.declared.reason.Reason.{Reason}
use Rattle.roc_msg.specs.declared.reason.Reason.TheVariants.{Stale, Foreign}
use Rattle.roc_plan.specs.Groups.{Plan}
use Rattle.roc_coord.specs.State.{ignored, find_transaction, find_view, CoordState}
use Rattle.roc_coord.specs.Step.{unasked, unread, after_startok, after_commitok, after_readok, after_message}
use Rattle.roc_coord.specs.Marks.{ended_sends}
use Rattle.roc_coord.specs.Tick.{again_of}
use Rattle.roc_law_protocol.specs.declared.event.Event.TheVariants.{Deliver, Tick}
use Rattle.roc_law_protocol.specs.declared.event.Seen.TheVariants as seen
use Rattle.roc_law_world.specs.World.{World, Beginning, mark_delivered, at_coord, at_coord_tick}
use Rattle.roc_law_world.specs.Happens.{Outcome, undecided, coordinated, IsReceived, Happens}
use Rattle.roc_law_world.specs.Run.{Stepped, IsRunFrom}
use Rattle.roc_two_files.specs.Left.{AreDrained}
use Rattle.roc_two_files.proofs.Drains.{at_rest}
use Rattle.roc_law_protocol.proofs.Stops.{set_there}

module _ (plan : Plan) (s : CoordState) (no_pending : s.pending ≡ []) (no_views : s.views ≡ []) where
  -- it waits for nothing
  pub waits_for_nothing : (msg : Msg) → (why : Reason) × (after_message plan s msg ≡ ignored s why)
  waits_for_nothing (StartOk id group shard bound outs edges facts) =
      (Stale, ap (λ x. after_startok plan s id x (record { group = group; bound = bound; outs = outs; edges = edges; facts = facts }) shard) none ∙ no_view)
    where
      none : find_transaction id s.pending ≡ None
      none = ap (find_transaction id) no_pending

      no_view : ignored s (unasked (find_view id s.views)) ≡ ignored s Stale
      no_view = ap (λ v. ignored s (unasked v)) (ap (find_view id) no_views)
  waits_for_nothing (CommitOk id shard outs) =
      (Stale, ap (λ x. after_commitok plan s id x (record { shard = shard; outs = outs })) (ap (find_transaction id) no_pending) ∙ ap (λ v. ignored s (unasked v)) (ap (find_view id) no_views))
  waits_for_nothing (ReadOk id round group shard versions outs) =
      (Stale, ap (λ v. after_readok plan s id v round (record { group = group; versions = versions; outs = outs }) shard) (ap (find_view id) no_views) ∙ none)
    where
      none : ignored s (unread (find_transaction id s.pending)) ≡ ignored s Stale
      none = ap (λ x. ignored s (unread x)) (ap (find_transaction id) no_pending)
  waits_for_nothing msg = (Foreign, refl)

-- a coordinator that keeps its state, sends nothing and tells nothing
still : (w : World) (n : ℕ) (s : CoordState) → slice_get w.coords n ≡ Some s → at_coord w n s [] [] ≡ w
still w n s there =
    let coords = set_there w.coords n s there in
    let sent = append-nil w.sent in
    let undelivered = append-nil w.undelivered in
    let history = append-nil w.history in
    let looks = append-nil w.looks in
    λ i. record w { coords = coords i; sent = sent i; undelivered = undelivered i; history = history i; looks = looks i }

module _ (plan : Plan) (b : Beginning) (coords : ℕ) (steps : List Stepped) (w : World) (run : IsRunFrom plan b coords steps w) (drained : AreDrained w.coords) where
  pub deliveries_rest : (k : ℕ) (m : Envelope) (n : ℕ) (o : Outcome) → slice_get w.sent (k - 1) ≡ Some m → m.to ≡ Coord n → Happens plan w (Deliver k) o
      → (why : Reason) × (o ≡ undecided (seen.Ignored why) (mark_delivered w k))
  deliveries_rest k m n o stands to (m', some, there, h) =
      go (subst (λ to. IsReceived plan (mark_delivered w k) m.msg to o) to (subst (λ (x : Envelope). IsReceived plan (mark_delivered w k) x.msg x.to o) (one m' m (sym there ∙ stands)) h))
    where
      one : (a b : Envelope) → Some a ≡ Some b → a ≡ b
      one a b e = cc

      go : IsReceived plan (mark_delivered w k) m.msg (Coord n) o → (why : Reason) × (o ≡ undecided (seen.Ignored why) (mark_delivered w k))
      go (s, at, is) =
          let rest = at_rest plan b coords steps w run n s at (drained n s at) in
          let r = waits_for_nothing plan s rest.0 rest.1 m.msg in
          (r.0, is ∙ (ap (coordinated (mark_delivered w k) n) r.1 ∙ ap (undecided (seen.Ignored r.0)) (still (mark_delivered w k) n s at)))

  pub ticks_rest : (n : ℕ) (o : Outcome) → Happens plan w (Tick (Coord n)) o
      → (s : CoordState) × (slice_get w.coords n ≡ Some s) × (o ≡ undecided seen.Done (at_coord_tick w n (ended_sends plan s)))
  ticks_rest n o (s, at, is) = (s, at, is ∙ ap (λ ids. undecided seen.Done (at_coord_tick w n (flat_map (again_of plan s) ids ++ ended_sends plan s))) (drained n s at))
