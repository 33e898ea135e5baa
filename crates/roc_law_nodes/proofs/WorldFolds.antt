-- In a run of the world, each node's state and messages are the fold of its step over its own events
use Rattle.std.proofs.Common.{◌≡◌, ◌≢◌, ℕ, ◌==◌, Bool, true, false, List, [], ◌∷◌, ◌++◌, Some, refl, sym, ap, subst, ◌∙◌, append-nil, arith}
use Rattle.std.proofs.lemmas.Bool.{eqb-true, eq-eqb, false≢true}
use Rattle.std.specs.Prelude.{slice_get, slice_set}
use Rattle.roc_sequence.proofs.Members.{same_there}
use Rattle.roc_base.specs.declared.node.Shard.{Shard}
use Rattle.roc_base.specs.declared.node.Node.{Node}
use Rattle.roc_base.specs.declared.node.Node.TheVariants.{Server, Coord}
use Rattle.roc_msg.specs.declared.outbox.Outgoing.{Outgoing}
use Rattle.roc_plan.specs.Groups.{Plan}
use Rattle.roc_step.specs.First.{first_server}
use Rattle.roc_step.specs.Reads.{first_viewing}
use Rattle.roc_step.specs.State.{ServerState, Viewing}
use Rattle.roc_coord.specs.State.{first_coord, CoordState}
use Rattle.roc_law_world.specs.World.{World}
use Rattle.roc_law_world.specs.Run.{Stepped, IsRun, at_beginning, steps_on}
use Rattle.roc_law_protocol.proofs.Changed.{get-set_here, get-set_other}
use Rattle.roc_law_protocol.proofs.Firsts.{found_at}
use Rattle.roc_law_audit.proofs.ServerLogs.{found_too}
use Rattle.roc_law_nodes.specs.Own.{OwnEvent, own_events, messages_of}
use Rattle.roc_law_nodes.specs.Fold.{ServerSteps, IsServerFoldFrom, IsServerFold, server_begun, server_goes_on, CoordSteps, IsCoordFold, coord_begun, coord_goes_on}
use Rattle.roc_law_nodes.proofs.Stepping.{IsStepAt, IsStep, no_step, server_step, coord_step, stepping}
use Rattle.roc_law_nodes.proofs.Owned.{Gains, gains_here, gains_elsewhere, gains_nothing}

-- ---- the same fold under equal lists

module _ (plan : Plan) where
  pub server_as : {first : ServerState} {keeps : Viewing} {before : List Outgoing} {events others : List OwnEvent} {s t : ServerState} {v u : Viewing} {messages more : List Outgoing}
      → IsServerFoldFrom plan first keeps before events s v messages → others ≡ events → t ≡ s → u ≡ v → more ≡ messages → IsServerFoldFrom plan first keeps before others t u more
  server_as {first} {keeps} {before} {events} {others} {s} {t} {v} {u} {messages} {more} f e st view m =
      subst (λ (l : List OwnEvent). IsServerFoldFrom plan first keeps before l t u more) (sym e)
      (subst (λ (x : ServerState). IsServerFoldFrom plan first keeps before events x u more) (sym st)
      (subst (λ (x : Viewing). IsServerFoldFrom plan first keeps before events s x more) (sym view) (subst (λ (l : List Outgoing). IsServerFoldFrom plan first keeps before events s v l) (sym m) f)))

  pub coord_as : {number : ℕ} {events others : List OwnEvent} {c d : CoordState} {messages more : List Outgoing} → IsCoordFold plan number events c messages → others ≡ events → d ≡ c → more ≡ messages → IsCoordFold plan number others d more
  coord_as {number} {events} {others} {c} {d} {messages} {more} f e st m =
      subst (λ (l : List OwnEvent). IsCoordFold plan number l d more) (sym e) (subst (λ (u : CoordState). IsCoordFold plan number events u more) (sym st) (subst (λ (l : List Outgoing). IsCoordFold plan number events c l) (sym m) f))

-- ---- servers

-- what a shard's server keeps for views stands here, and the events lead to it
abbrev pub IsFoldKept : Plan → Shard → List Viewing → List OwnEvent → ServerState → List Outgoing → Type 0
IsFoldKept plan shard viewing events s messages = (v : Viewing) × (slice_get viewing shard.0 ≡ Some v) × IsServerFold plan shard events s v messages

module _ (plan : Plan) (coords : ℕ) where
  module _ {steps : List Stepped} {w : World} (r : IsRun plan coords steps w) (x : Stepped) (v : World) (shard : Shard) (s : ServerState) (after : slice_get v.servers shard.0 ≡ Some s) where
    abbrev at : Node
    at = Server shard

    -- what the fold was before
    abbrev ServerWas : Type 0
    ServerWas = (t : ServerState) → slice_get w.servers shard.0 ≡ Some t → IsFoldKept plan shard w.viewing (own_events at w.sent steps) t (messages_of at w.sent)

    -- what it is then
    abbrev ServerIs : Type 0
    ServerIs = IsFoldKept plan shard v.viewing (own_events at v.sent (steps ++ x ∷ [])) s (messages_of at v.sent)

    server_rests : slice_get v.servers shard.0 ≡ slice_get w.servers shard.0 → slice_get v.viewing shard.0 ≡ slice_get w.viewing shard.0 → Gains at w v steps x [] [] → ServerWas → ServerIs
    server_rests same views g was =
        let f = was s (sym same ∙ after) in
        (f.0, views ∙ f.1, server_as plan f.2 (g.events ∙ append-nil (own_events at w.sent steps)) refl refl (g.messages ∙ append-nil (messages_of at w.sent)))

    server_moves : (other : Shard) (own : OwnEvent) (t next : ServerState) (view kept : Viewing) (outs : List Outgoing) → IsStepAt w v x.event (Server other) own outs
        → slice_get w.servers other.0 ≡ Some t → slice_get w.viewing other.0 ≡ Some view → ServerSteps plan t view own next kept outs
        → v.servers ≡ slice_set w.servers other.0 next → v.viewing ≡ slice_set w.viewing other.0 kept → ServerWas → (b : Bool) → (other.0 == shard.0) ≡ b → ServerIs
    server_moves other own t next view kept outs is there keeps goes set sets was true e =
        let same : other.0 ≡ shard.0 = eqb-true other.0 shard.0 e in
        let here : slice_get w.servers shard.0 ≡ Some t = subst (λ (n : ℕ). slice_get w.servers n ≡ Some t) same there in
        let here_too : slice_get w.viewing shard.0 ≡ Some view = subst (λ (n : ℕ). slice_get w.viewing n ≡ Some view) same keeps in
        let put : slice_get v.servers shard.0 ≡ Some next = ap (λ l. slice_get l shard.0) set ∙ (ap (λ (n : ℕ). slice_get (slice_set w.servers n next) shard.0) same ∙ get-set_here w.servers shard.0 t next here) in
        let put_too : slice_get v.viewing shard.0 ≡ Some kept =
        ap (λ l. slice_get l shard.0) sets ∙ (ap (λ (n : ℕ). slice_get (slice_set w.viewing n kept) shard.0) same ∙ get-set_here w.viewing shard.0 view kept here_too) in
        let g = gains_here at r x v (Server other) own outs is e in
        let f = was t here in
        let fold = server_as plan f.2 refl refl (same_there w.viewing shard.0 view f.0 here_too f.1) refl in
        (kept, put_too, server_as plan (server_goes_on own next kept outs fold goes) g.events (same_there v.servers shard.0 s next after put) refl g.messages)
    server_moves other own t next view kept outs is there keeps goes set sets was false e =
        let apart : other.0 ≢ shard.0 = λ same. false≢true (sym e ∙ eq-eqb other.0 shard.0 same) in
        server_rests (ap (λ l. slice_get l shard.0) set ∙ get-set_other w.servers other.0 shard.0 next apart) (ap (λ l. slice_get l shard.0) sets ∙ get-set_other w.viewing other.0 shard.0 kept apart)
        (gains_elsewhere at r x v (Server other) own outs is e) was

    server_after : IsStep plan w v x.event → ServerWas → ServerIs
    server_after (no_step same none) was =
        server_rests (ap (λ (u : World). slice_get u.servers shard.0) same) (ap (λ (u : World). slice_get u.viewing shard.0) same) (gains_nothing at r x v same none) was
    server_after (coord_step number own c next outs is there goes set same views) was =
        server_rests (ap (λ l. slice_get l shard.0) same) (ap (λ l. slice_get l shard.0) views) (gains_elsewhere at r x v (Coord number) own outs is refl) was
    server_after (server_step other own t next view kept outs is there keeps goes set sets same) was =
        server_moves other own t next view kept outs is there keeps goes set sets was (other.0 == shard.0) refl

  pub server_fold : {steps : List Stepped} {w : World} → IsRun plan coords steps w → (shard : Shard) (s : ServerState) → slice_get w.servers shard.0 ≡ Some s
      → IsFoldKept plan shard w.viewing (own_events (Server shard) w.sent steps) s (messages_of (Server shard) w.sent)
  server_fold at_beginning shard s there =
      let first : ℕ → ServerState = λ n. first_server plan (record { 0 = n }) in
      let none : ℕ → Viewing = λ n. first_viewing in (
        first_viewing,
        found_too first none 0 plan.program.shards shard.0 s there,
        server_as plan server_begun refl (found_at first 0 plan.program.shards shard.0 s there ∙ ap first (omega arith)) refl refl,
      )
  server_fold (steps_on {w = w} e o r h) shard s after = server_after r (record { event = e; outcome = o }) o.world shard s after (stepping plan w e o h) (server_fold r shard)

-- ---- coordinators

module _ (plan : Plan) (coords : ℕ) where
  module _ {steps : List Stepped} {w : World} (r : IsRun plan coords steps w) (x : Stepped) (v : World) (number : ℕ) (c : CoordState) (after : slice_get v.coords number ≡ Some c) where
    abbrev place : Node
    place = Coord number

    abbrev CoordWas : Type 0
    CoordWas = (d : CoordState) → slice_get w.coords number ≡ Some d → IsCoordFold plan number (own_events place w.sent steps) d (messages_of place w.sent)

    coord_rests : v.coords ≡ w.coords → Gains place w v steps x [] [] → CoordWas → IsCoordFold plan number (own_events place v.sent (steps ++ x ∷ [])) c (messages_of place v.sent)
    coord_rests same g was =
        coord_as plan (was c (ap (λ l. slice_get l number) (sym same) ∙ after)) (g.events ∙ append-nil (own_events place w.sent steps)) refl (g.messages ∙ append-nil (messages_of place w.sent))

    coord_moves : (other : ℕ) (own : OwnEvent) (d next : CoordState) (outs : List Outgoing) → IsStepAt w v x.event (Coord other) own outs → slice_get w.coords other ≡ Some d → CoordSteps plan d own next outs
        → v.coords ≡ slice_set w.coords other next → CoordWas → (b : Bool) → (other == number) ≡ b → IsCoordFold plan number (own_events place v.sent (steps ++ x ∷ [])) c (messages_of place v.sent)
    coord_moves other own d next outs is there goes set was true e =
        let same : other ≡ number = eqb-true other number e in
        let here : slice_get w.coords number ≡ Some d = subst (λ (n : ℕ). slice_get w.coords n ≡ Some d) same there in
        let put : slice_get v.coords number ≡ Some next = ap (λ l. slice_get l number) set ∙ (ap (λ (n : ℕ). slice_get (slice_set w.coords n next) number) same ∙ get-set_here w.coords number d next here) in
        let g = gains_here place r x v (Coord other) own outs is e in
        coord_as plan (coord_goes_on own next outs (was d here) goes) g.events (same_there v.coords number c next after put) g.messages
    coord_moves other own d next outs is there goes set was false e =
        let kept : slice_get v.coords number ≡ slice_get w.coords number = ap (λ l. slice_get l number) set ∙ get-set_other w.coords other number next (λ same. false≢true (sym e ∙ eq-eqb other number same)) in
        let g = gains_elsewhere place r x v (Coord other) own outs is e in
        coord_as plan (was c (sym kept ∙ after)) (g.events ∙ append-nil (own_events place w.sent steps)) refl (g.messages ∙ append-nil (messages_of place w.sent))

    coord_after : IsStep plan w v x.event → CoordWas → IsCoordFold plan number (own_events place v.sent (steps ++ x ∷ [])) c (messages_of place v.sent)
    coord_after (no_step same none) was = coord_rests (ap (λ (u : World). u.coords) same) (gains_nothing place r x v same none) was
    coord_after (server_step shard own s next view kept outs is there keeps goes set sets same) was = coord_rests same (gains_elsewhere place r x v (Server shard) own outs is refl) was
    coord_after (coord_step other own d next outs is there goes set same views) was = coord_moves other own d next outs is there goes set was (other == number) refl

  pub coord_fold : {steps : List Stepped} {w : World} → IsRun plan coords steps w → (number : ℕ) (c : CoordState) → slice_get w.coords number ≡ Some c
      → IsCoordFold plan number (own_events (Coord number) w.sent steps) c (messages_of (Coord number) w.sent)
  coord_fold at_beginning number c there = coord_as plan coord_begun refl (found_at first_coord 0 coords number c there ∙ ap first_coord (omega arith)) refl
  coord_fold (steps_on {w = w} e o r h) number c after = coord_after r (record { event = e; outcome = o }) o.world number c after (stepping plan w e o h) (coord_fold r number)
