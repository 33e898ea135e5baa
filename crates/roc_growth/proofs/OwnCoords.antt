-- A coordinator's step in the world of its own file
use Rattle.std.proofs.Common.{◌≡◌, ◌≢◌, ◌∙◌, inl, inr, ◌<◌, ℕ, ℤ, suc, Bool, true, false, List, [], ◌∷◌, ◌++◌, Option, Some, None, Err, map, length, refl, sym, ap, subst, append-nil, arith}
use Rattle.std.proofs.lemmas.Bool.{false≢true, and_parts}
use Rattle.std.specs.Prelude.{slice_get, slice_set, if◌then◌else◌}
use Rattle.std.specs.List.{filter_map, cons_option, range_with_len}
use Rattle.roc_sequence.specs.Lists.{Has}
use Rattle.roc_sequence.proofs.Holds.{all_has}
use Rattle.roc_sequence.proofs.Members.{from_has_map}
use Rattle.roc_sequence.proofs.Ranges.{range_below}
use Rattle.roc_base.specs.declared.id.TxnId.{TxnId}
use Rattle.roc_base.specs.declared.node.Node.{Node}
use Rattle.roc_base.specs.declared.node.Node.TheVariants.{Coord}
use Rattle.roc_base.specs.declared.node.Shard.{Shard}
use Rattle.roc_msg.specs.declared.msg.Msg.{Msg}
use Rattle.roc_msg.specs.declared.msg.Msg.TheVariants.{Drained, Switched}
use Rattle.roc_msg.specs.declared.outbox.Outgoing.{Outgoing}
use Rattle.roc_msg.specs.declared.reason.Reason.{Reason}
use Rattle.roc_plan.specs.Groups.{Plan, is_view_of}
use Rattle.roc_readonly.specs.Round.{first_round}
use Rattle.roc_coord.specs.declared.handled.Handled.{Handled}
use Rattle.roc_coord.specs.State.{ignored, CoordState, CoordStep}
use Rattle.roc_coord.specs.Step.{after_message}
use Rattle.roc_coord.specs.Submit.{Submission, accepted, accepted_view, next_id, new_transaction, after_submit}
use Rattle.roc_audit.specs.declared.entry.Entry.{Entry}
use Rattle.roc_audit.specs.declared.entry.Entry.TheVariants as entry
use Rattle.roc_law_protocol.specs.World.{sent_by}
use Rattle.roc_law_protocol.specs.declared.event.Event.{Event as TheirEvent}
use Rattle.roc_law_protocol.specs.declared.event.Event.TheVariants as one
use Rattle.roc_law_protocol.specs.declared.event.Seen.TheVariants as seen_there
use Rattle.roc_law_protocol.proofs.Changed.{get-set_here}
use Rattle.roc_law_protocol.proofs.Submissions.{keeps_number}
use Rattle.roc_law_protocol.proofs.SubmissionEnds.{IsAnySubmission, any_submission_is, unknown, miscounted, spent, busy, taken}
use Rattle.roc_law_world.specs.World as views
use Rattle.roc_law_world.specs.World.{World, reads_for, first_look}
use Rattle.roc_law_world.specs.Happens as happen
use Rattle.roc_law_world.specs.Run.{Transition}
use Rattle.roc_epoch.specs.declared.file.File.{File}
use Rattle.roc_epoch.specs.declared.next.Next.{Next}
use Rattle.roc_epoch.specs.Files.{is_between, own_file, own_plan}
use Rattle.roc_two_files.specs.Sealed.{of_file, sealed_by}
use Rattle.roc_two_files.proofs.Networks.{AreNoneBetween, AreBetween}
use Rattle.roc_two_files.proofs.Resting.{waits_for_nothing}
use Rattle.roc_grown.specs.declared.handled.GrownFault.TheVariants.{Draining}
use Rattle.roc_grown.specs.Server.{GrownServerState}
use Rattle.roc_grown.specs.Coord.{GrownCoordState, DrainStep, drained_to, drained_sends, is_empty, is_drained, telling, tell_if_drained, told_behind, is_answer, submitted_to_core, after_grown_submit}
use Rattle.roc_growth.specs.declared.event.Event.{Event}
use Rattle.roc_growth.specs.declared.event.Event.TheVariants.{Submit, Deliver}
use Rattle.roc_growth.specs.declared.event.Seen.TheVariants as seen
use Rattle.roc_growth.specs.World.{GrownWorld, at_coord}
use Rattle.roc_growth.specs.Happens.{Outcome, undecided, IsSubmissionOf}
use Rattle.roc_growth.specs.Epochs.{IsAlong}
use Rattle.roc_growth.specs.Told.{HasTold, HasSwitched, IsToldRight, IsTelling, AreTold}
use Rattle.roc_growth.proofs.Telling.{changed_coord}
use Rattle.roc_growth.proofs.Placed.{aside_step, aside_along}
use Rattle.roc_growth.proofs.OwnServers.{bare, AreSent, are_sent, none_sent}
use Rattle.roc_law_protocol.proofs.Stops.{set_there}

abbrev pub coord_node : ℕ → Node
coord_node n = Coord n

-- ---- what is told as drained

-- it tells so, or nothing
pub data Behind (plan : Plan) (c : GrownCoordState) (d : DrainStep) : Type 0 where
  quiet : d ≡ record { state = c; sends = [] } → Behind plan c d
  tells : c.draining ≡ true → c.core.unanswered ≡ [] → d ≡ record { state = telling c; sends = drained_sends plan (next_id c.core) } → Behind plan c d

module _ (plan : Plan) (c : GrownCoordState) where
  empty : (ids : List TxnId) → is_empty ids ≡ true → ids ≡ []
  empty [] e = refl
  empty (id ∷ ids) e = absurd (false≢true e)

  pub behind_drain : Behind plan c (tell_if_drained plan c)
  behind_drain = go (is_drained c) refl
    where
      go : (b : Bool) → is_drained c ≡ b → Behind plan c (if b then record { state = telling c; sends = drained_sends plan (next_id c.core) } else record { state = c; sends = [] })
      go true e = let q = and_parts c.draining (is_empty c.core.unanswered) e in tells q.0 (empty c.core.unanswered q.1) refl
      go false e = quiet refl

  pub behind_answer : (a : Handled) → Behind plan c (told_behind plan c a)
  behind_answer a = go (is_answer a)
    where
      go : (b : Bool) → Behind plan c (if b then tell_if_drained plan c else record { state = c; sends = [] })
      go true = behind_drain
      go false = quiet refl

pub drained_between : (plan : Plan) (upto : TxnId) → AreBetween (drained_sends plan upto)
drained_between plan upto out h =
    let q = from_has_map (drained_to upto) out (range_with_len 0 plan.program.shards) h in
    ap (λ (o : Outgoing). is_between o.msg) q.2

pub drained_right : (plan : Plan) (servers : List GrownServerState) (coords : List GrownCoordState) → length servers ≡ plan.program.shards → (upto : TxnId) → HasTold coords upto
    → (out : Outgoing) → Has out (drained_sends plan upto) → IsToldRight servers coords out.msg out.to
drained_right plan servers coords many upto told out h =
    let q = from_has_map (drained_to upto) out (range_with_len 0 plan.program.shards) h in
    let l = all_has (λ n. n < plan.program.shards) q.0 (range_with_len 0 plan.program.shards) (range_below 0 plan.program.shards plan.program.shards (omega arith)) q.1 in
    subst (λ (o : Outgoing). IsToldRight servers coords o.msg o.to) (sym q.2) (record { 0 = q.0 }, refl, subst (λ n. q.0 < n) (sym many) l, told)

-- what is told between files reads for nobody
pub no_reads_for : (outs more : List Outgoing) → AreBetween more → filter_map (λ (out : Outgoing). reads_for out.msg) (outs ++ more) ≡ filter_map (λ (out : Outgoing). reads_for out.msg) outs
no_reads_for [] [] all = refl
no_reads_for [] (out ∷ more) all = go out.msg (all out (inl refl)) (no_reads_for [] more (λ o h. all o (inr h)))
  where
    go : (msg : Msg) → is_between msg ≡ true → filter_map (λ (out : Outgoing). reads_for out.msg) more ≡ [] → filter_map (λ (out : Outgoing). reads_for out.msg) (record { to = out.to; msg = msg } ∷ more) ≡ []
    go (Drained upto) e h = h
    go (Switched upto shard) e h = h
    go msg e h = absurd (false≢true e)
no_reads_for (out ∷ outs) more all = go (reads_for out.msg) (no_reads_for outs more all)
  where
    go : (o : Option TxnId) → filter_map (λ (out : Outgoing). reads_for out.msg) (outs ++ more) ≡ filter_map (λ (out : Outgoing). reads_for out.msg) outs
        → cons_option o (filter_map (λ (out : Outgoing). reads_for out.msg) (outs ++ more)) ≡ cons_option o (filter_map (λ (out : Outgoing). reads_for out.msg) outs)
    go o h = ap (cons_option o) h

-- ---- a step of a coordinator, in the world of its own file

module _ (p : Plan) (f : File) (u : World) (g : GrownWorld) (n : ℕ) (c : GrownCoordState) where
  pub record IsOwnCoord (e : Event) (o : Outcome) (x : GrownCoordState) : Type 0 where
    pub event : Option TheirEvent
    pub after : happen.Outcome
    pub happens : Transition p u event after
    pub all : List Outgoing
    pub outs : List Outgoing
    pub sends : AreSent g.servers (slice_set g.coords n x) c.switched (coord_node n) all outs
    pub told : List Entry
    pub ids : List TxnId
    pub world : bare o.world ≡ changed_coord (bare g) n x (map (sealed_by c.switched (coord_node n)) all) told (first_look (length g.order) ids)
    pub still : x.switched ≡ c.switched
    pub telling : IsTelling n x
    pub tells_still : (w : TxnId) → c.upto ≡ Some w → x.upto ≡ Some w
    pub heard : (shard : Shard) → Has shard x.at → HasSwitched g.servers shard.0
    pub at_still : c.switched ≡ true → x.at ≡ c.at
    pub rests : (w : TxnId) → c.upto ≡ Some w → c.switched ≡ false → (x.core ≡ c.core) × (told ≡ []) × (ids ≡ [])
    pub servers : after.world.servers ≡ u.servers
    pub viewing : after.world.viewing ≡ u.viewing
    pub order : after.world.order ≡ u.order
    pub coords : after.world.coords ≡ slice_set u.coords n x.core
    pub history : after.world.history ≡ u.history ++ told
    pub looks : after.world.looks ≡ u.looks ++ first_look (length u.order) ids
    pub sent : after.world.sent ≡ u.sent ++ map (sent_by (coord_node n)) outs
    pub along : IsAlong f g.sent (record { event = Some e; outcome = o }) (record { event = event; outcome = after })

module _ (plan : Plan) (next : Option Next) (p : Plan) (f : File) (u : World)
    (no_between : (e : Option TheirEvent) (o : happen.Outcome) → Transition p u e o → (from : Node) (outs : List Outgoing) → o.world.sent ≡ u.sent ++ map (sent_by from) outs → AreNoneBetween outs)
    (g : GrownWorld) (sent : u.sent ≡ of_file f g.sent) (shards : length g.servers ≡ plan.program.shards) (o : AreTold (bare g)) (n : ℕ) (c : GrownCoordState) (there : slice_get g.coords n ≡ Some c)
    (here : slice_get u.coords n ≡ Some c.core) (number : c.core.number ≡ n) (rest : c.core.unanswered ≡ [] → (c.core.pending ≡ []) × (c.core.views ≡ []))
    (plan_is : own_plan plan next c.switched ≡ p) (file_is : own_file c.switched ≡ f) where
  abbrev me : Node
  me = coord_node n

  abbrev Own : Event → Outcome → GrownCoordState → Type 0
  Own e out x = IsOwnCoord p f u g n c e out x

  c_telling : IsTelling n c
  c_telling = o.telling n c there

  -- the world with nothing changed
  same_world : (x : GrownCoordState) → x ≡ c → bare g ≡ changed_coord (bare g) n x [] [] []
  same_world x e =
      let coords : g.coords ≡ slice_set g.coords n x = sym (set_there g.coords n x (there ∙ ap Some (sym e))) in
      let sent : g.sent ≡ g.sent ++ [] = sym (append-nil g.sent) in
      let history : g.history ≡ g.history ++ [] = sym (append-nil g.history) in
      let looks : g.looks ≡ g.looks ++ [] = sym (append-nil g.looks) in
      λ i. record { servers = g.servers; coords = coords i; sent = sent i; undelivered = []; history = history i; order = g.order; looks = looks i }

  -- ---- what does nothing there

  pub own_aside : (e : Event) (out : Outcome) (x : GrownCoordState) (all : List Outgoing) → AreSent g.servers (slice_set g.coords n x) c.switched me all []
      → bare out.world ≡ changed_coord (bare g) n x (map (sealed_by c.switched me) all) [] [] → x.core ≡ c.core → x.switched ≡ c.switched → IsTelling n x
      → ((w : TxnId) → c.upto ≡ Some w → x.upto ≡ Some w) → ((shard : Shard) → Has shard x.at → HasSwitched g.servers shard.0) → (c.switched ≡ true → x.at ≡ c.at)
      → IsAlong f g.sent (record { event = Some e; outcome = out }) (aside_step u) → Own e out x
  own_aside e out x all sends world same still telling tells_still heard at_still along =
      record {
        event = None;
        after = happen.undecided seen_there.Done u;
        happens = refl;
        all = all;
        outs = [];
        sends = sends;
        told = [];
        ids = [];
        world = world;
        still = still;
        telling = telling;
        tells_still = tells_still;
        heard = heard;
        at_still = at_still;
        rests = λ w e switched. (same, refl, refl);
        servers = refl;
        viewing = refl;
        order = refl;
        coords = sym (set_there u.coords n x.core (here ∙ ap Some (sym same)));
        history = sym (append-nil u.history);
        looks = sym (append-nil u.looks);
        sent = sym (append-nil u.sent);
        along = along;
      }

  -- and changes nothing
  pub own_nothing : (e : Event) (out : Outcome) → bare out.world ≡ bare g → IsAlong f g.sent (record { event = Some e; outcome = out }) (aside_step u) → Own e out c
  own_nothing e out world along =
      own_aside e out c [] (none_sent g.servers (slice_set g.coords n c) c.switched me) (world ∙ same_world c refl) refl refl c_telling (λ w e. e) (λ shard h. o.at n c shard there h) (λ e. refl) along

  pub no_delivery : (e : Event) (out : Outcome) → ((k : ℕ) → Some e ≢ Some (Deliver (suc k))) → IsAlong f g.sent (record { event = Some e; outcome = out }) (aside_step u)
  no_delivery e out none = aside_along f g.sent (record { event = Some e; outcome = out }) u (λ k h. absurd (none k h)) (λ k m h. absurd (none k h))

  -- ---- a submission

  pub own_submitted : (proc : ℕ) (args : List ℤ) (out : Outcome) → IsSubmissionOf g n proc args (after_grown_submit plan next c proc args) out → (x : GrownCoordState) × Own (Submit n proc args) out x
  own_submitted proc args out h = drained c.draining refl h
    where
      nothing : (w : GrownWorld) → bare w ≡ bare g → out.world ≡ w → (x : GrownCoordState) × Own (Submit n proc args) out x
      nothing w same is = (c, own_nothing (Submit n proc args) out (ap bare is ∙ same) (no_delivery (Submit n proc args) out (λ k e. absurd (cc))))

      never : {X : Type 0} → c.draining ≡ false → (w : TxnId) → c.upto ≡ Some w → c.switched ≡ false → X
      never plain w e switched = absurd (false≢true (sym plain ∙ (c_telling.rests w e switched).0))

      submits : c.draining ≡ false → (r : Submission) → after_submit p c.core proc args ≡ r → (id : TxnId) → (after : happen.Outcome) → happen.IsSubmissionOf u n proc args r after
          → after ≡ happen.undecided (seen_there.Submitted id) (views.at_coord u n r.state r.sends (entry.Submitted id proc args ∷ []))
          → out ≡ undecided (seen.Submitted id) (at_coord g n (record c { core = r.state }) r.sends (entry.Submitted id proc args ∷ []))
          → (x : GrownCoordState) × Own (Submit n proc args) out x
      submits plain r e id after h is same =
          let x : GrownCoordState = record c { core = r.state } in
          let happens : Transition p u (Some (one.Submit n proc args)) after = (c.core, here, subst (λ (r : Submission). happen.IsSubmissionOf u n proc args r after) (sym e) h) in
          let sent_there : after.world.sent ≡ u.sent ++ map (sent_by me) r.sends = ap (λ (a : happen.Outcome). a.world.sent) is in
          let none = no_between (Some (one.Submit n proc args)) after happens me r.sends sent_there in (
            x,
            record {
              event = Some (one.Submit n proc args);
              after = after;
              happens = happens;
              all = r.sends;
              outs = r.sends;
              sends = subst (λ l. AreSent g.servers (slice_set g.coords n x) c.switched me l r.sends) (append-nil r.sends)
                  (are_sent g.servers (slice_set g.coords n x) c.switched me r.sends [] none (λ o h. absurd h) (λ o h. absurd h));
              told = entry.Submitted id proc args ∷ [];
              ids = filter_map (λ (out : Outgoing). reads_for out.msg) r.sends;
              world = ap (λ (o : Outcome). bare o.world) same;
              still = refl;
              telling = record { plain = c_telling.plain; own = c_telling.own; rests = λ w e switched. never plain w e switched };
              tells_still = λ w e. e;
              heard = λ shard h. o.at n c shard there h;
              at_still = λ e. refl;
              rests = λ w e switched. never plain w e switched;
              servers = ap (λ (a : happen.Outcome). a.world.servers) is;
              viewing = ap (λ (a : happen.Outcome). a.world.viewing) is;
              order = ap (λ (a : happen.Outcome). a.world.order) is;
              coords = ap (λ (a : happen.Outcome). a.world.coords) is;
              history = ap (λ (a : happen.Outcome). a.world.history) is;
              looks = ap (λ (a : happen.Outcome). a.world.looks) is;
              sent = sent_there;
              along = record { sent_before = λ k e. absurd (cc); comes = λ k m e at is taken. absurd (cc); stops = λ shard during e. absurd (cc) };
            },
          )

      accepts : c.draining ≡ false → (b : Bool)
          → IsSubmissionOf g n proc args (submitted_to_core c (if b then accepted_view p c.core (first_round (next_id c.core) proc args) else accepted p c.core (new_transaction c.core proc args))) out
          → after_submit p c.core proc args ≡ (if b then accepted_view p c.core (first_round (next_id c.core) proc args) else accepted p c.core (new_transaction c.core proc args))
          → (x : GrownCoordState) × Own (Submit n proc args) out x
      accepts plain true k e =
          let r = accepted_view p c.core (first_round (next_id c.core) proc args) in
          submits plain r e (next_id c.core) (happen.undecided (seen_there.Submitted (next_id c.core)) (views.at_coord u n r.state r.sends (entry.Submitted (next_id c.core) proc args ∷ []))) refl refl k
      accepts plain false k e =
          let r = accepted p c.core (new_transaction c.core proc args) in
          submits plain r e (next_id c.core) (happen.undecided (seen_there.Submitted (next_id c.core)) (views.at_coord u n r.state r.sends (entry.Submitted (next_id c.core) proc args ∷ []))) refl refl k

      go : c.draining ≡ false → (r : Submission) → after_submit p c.core proc args ≡ r → IsAnySubmission p c.core proc args r → IsSubmissionOf g n proc args (submitted_to_core c r) out → (x : GrownCoordState) × Own (Submit n proc args) out x
      go plain r e (unknown none) k = nothing g refl (ap (λ (o : Outcome). o.world) k)
      go plain r e (miscounted h) k = absurd k
      go plain r e (spent known counted l) k = nothing g refl (ap (λ (o : Outcome). o.world) k)
      go plain r e (busy known counted l m) k = nothing g refl (ap (λ (o : Outcome). o.world) k)
      go plain r e (taken known counted l m) k = accepts plain (is_view_of p proc) k e

      drained : (b : Bool) → c.draining ≡ b
          → IsSubmissionOf g n proc args (if b then record { answer = Err Draining; state = c; sends = [] } else submitted_to_core c (after_submit (own_plan plan next c.switched) c.core proc args)) out
          → (x : GrownCoordState) × Own (Submit n proc args) out x
      drained true e k = nothing g refl (ap (λ (o : Outcome). o.world) k)
      drained false e k =
          go e (after_submit p c.core proc args) refl (any_submission_is p c.core proc args)
          (subst (λ p. IsSubmissionOf g n proc args (submitted_to_core c (after_submit p c.core proc args)) out) plan_is k)

  -- ---- a message of its own file comes

  -- what a step of the core leaves, with what is told behind it
  module _ (r : CoordStep) (r_is : (msg : Msg) × (r ≡ after_message p c.core msg)) (d : DrainStep) (behind : Behind plan (record c { core = r.state }) d) where
    r_number : next_id r.state ≡ record { coord = n; seq = r.state.next }
    r_number =
        let q = keeps_number p c.core r_is.0 in
        ap (λ k. record { coord = k; seq = r.state.next }) (ap (λ (r : CoordStep). r.state.number) r_is.1 ∙ (q.number ∙ number))

    -- one that told as drained does nothing more
    pub r_rests : (w : TxnId) → c.upto ≡ Some w → c.switched ≡ false → (why : Reason) × (r ≡ ignored c.core why)
    r_rests w e switched =
        let t = c_telling.rests w e switched in
        let k = rest t.1 in
        let q = waits_for_nothing p c.core k.0 k.1 r_is.0 in
        (q.0, r_is.1 ∙ q.1)

    pub d_still : d.state.switched ≡ c.switched
    d_still = go behind
      where
        go : Behind plan (record c { core = r.state }) d → d.state.switched ≡ c.switched
        go (quiet is) = ap (λ (d : DrainStep). d.state.switched) is
        go (tells draining empty is) = ap (λ (d : DrainStep). d.state.switched) is

    pub d_at : d.state.at ≡ c.at
    d_at = go behind
      where
        go : Behind plan (record c { core = r.state }) d → d.state.at ≡ c.at
        go (quiet is) = ap (λ (d : DrainStep). d.state.at) is
        go (tells draining empty is) = ap (λ (d : DrainStep). d.state.at) is

    pub d_core : d.state.core ≡ r.state
    d_core = go behind
      where
        go : Behind plan (record c { core = r.state }) d → d.state.core ≡ r.state
        go (quiet is) = ap (λ (d : DrainStep). d.state.core) is
        go (tells draining empty is) = ap (λ (d : DrainStep). d.state.core) is

    pub d_telling : IsTelling n d.state
    d_telling = go behind
      where
        go : Behind plan (record c { core = r.state }) d → IsTelling n d.state
        go (quiet is) =
            subst (λ (d : DrainStep). IsTelling n d.state) (sym is)
            (record {
              plain = c_telling.plain;
              own = c_telling.own;
              rests = λ w e switched.
                  (let t = c_telling.rests w e switched in
                  let same : r.state ≡ c.core = ap (λ (r : CoordStep). r.state) (r_rests w e switched).1 in
                  (t.0, ap (λ (s : CoordState). s.unanswered) same ∙ t.1, ap next_id same ∙ t.2));
            })
        go (tells draining empty is) =
            subst (λ (d : DrainStep). IsTelling n d.state) (sym is)
            (record { plain = c_telling.plain; own = λ w e. ap (λ (w : TxnId). w.coord) (the w e ∙ r_number); rests = λ w e switched. (draining, empty, sym (the w e)) })
          where
            the : (w : TxnId) → Some (next_id r.state) ≡ Some w → w ≡ next_id r.state
            the w e = cc

    pub d_tells : (w : TxnId) → c.upto ≡ Some w → d.state.upto ≡ Some w
    d_tells w e = go behind
      where
        go : Behind plan (record c { core = r.state }) d → d.state.upto ≡ Some w
        go (quiet is) = ap (λ (d : DrainStep). d.state.upto) is ∙ e
        go (tells draining empty is) = ap (λ (d : DrainStep). d.state.upto) is ∙ here_too c.switched refl
          where
            here_too : (b : Bool) → c.switched ≡ b → Some (next_id r.state) ≡ Some w
            here_too true s = absurd (false≢true (sym (c_telling.plain s) ∙ draining))
            here_too false s = ap Some (ap next_id (ap (λ (r : CoordStep). r.state) (r_rests w e s).1) ∙ (c_telling.rests w e s).2)

    pub d_sends : AreBetween d.sends
    d_sends = go behind
      where
        go : Behind plan (record c { core = r.state }) d → AreBetween d.sends
        go (quiet is) = subst (λ (d : DrainStep). AreBetween d.sends) (sym is) (λ out h. absurd h)
        go (tells draining empty is) = subst (λ (d : DrainStep). AreBetween d.sends) (sym is) (drained_between plan (next_id r.state))

    pub d_right : (out : Outgoing) → Has out d.sends → IsToldRight g.servers (slice_set g.coords n d.state) out.msg out.to
    d_right = go behind
      where
        go : Behind plan (record c { core = r.state }) d → (out : Outgoing) → Has out d.sends → IsToldRight g.servers (slice_set g.coords n d.state) out.msg out.to
        go (quiet is) out h = absurd (subst (λ (d : DrainStep). Has out d.sends) is h)
        go (tells draining empty is) out h =
            drained_right plan g.servers (slice_set g.coords n d.state) shards (next_id r.state) has_told out (subst (λ (d : DrainStep). Has out d.sends) is h)
          where
            has_told : HasTold (slice_set g.coords n d.state) (next_id r.state)
            has_told = (
              d.state,
              subst (λ k. slice_get (slice_set g.coords n d.state) k ≡ Some d.state) (sym (ap (λ (w : TxnId). w.coord) r_number)) (get-set_here g.coords n c d.state there),
              ap (λ (d : DrainStep). d.state.upto) is,
            )
