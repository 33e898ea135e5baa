-- What happens at a server keeps the two runs side by side
use Rattle.std.proofs.Common.{◌≡◌, ◌∙◌, ◌≤◌, ◌<◌, ℕ, Bool, true, false, List, [], ◌∷◌, ◌++◌, Option, Some, length, map, refl, sym, ap, subst, arith}
use Rattle.std.proofs.lemmas.Bool.{false≢true}
use Rattle.std.proofs.lemmas.Option.{slice_get_within}
use Rattle.std.specs.Prelude.{slice_get, slice_set, if◌then◌else◌}
use Rattle.roc_sequence.specs.Lists.{Has}
use Rattle.roc_base.specs.declared.id.TxnId.{TxnId}
use Rattle.roc_base.specs.declared.node.Node.{Node}
use Rattle.roc_msg.specs.declared.outbox.Outgoing.{Outgoing}
use Rattle.roc_plan.specs.Groups.{Plan}
use Rattle.roc_plan.specs.Accepted.{IsAccepted}
use Rattle.roc_step.specs.Renewed.{renewed, renewed_viewing}
use Rattle.roc_step.specs.State.{ServerState, Viewing}
use Rattle.roc_step.specs.Step.{tick_sends}
use Rattle.roc_law_protocol.specs.World.{sent_by}
use Rattle.roc_law_protocol.specs.declared.event.Event.{Event as TheirEvent}
use Rattle.roc_law_protocol.proofs.Changed.{get-set_here}
use Rattle.roc_law_world.specs.World.{World, first_beginning}
use Rattle.roc_law_world.specs.Happens as happen
use Rattle.roc_law_world.specs.Run as views
use Rattle.roc_law_world.specs.Run.{Transition}
use Rattle.roc_law_world.proofs.SameNodes.{run_count}
use Rattle.roc_epoch.specs.declared.file.File.{File}
use Rattle.roc_epoch.specs.declared.file.File.TheVariants.{First, Second, Neither}
use Rattle.roc_epoch.specs.declared.next.Next.{Next}
use Rattle.roc_epoch.specs.Files.{is_file, own_file, own_plan, last_plan, IsNextOf}
use Rattle.roc_two_files.specs.Left.{left_behind}
use Rattle.roc_two_files.specs.Sealed.{of_file, sealed_by}
use Rattle.roc_two_files.proofs.Networks.{AreNoneBetween}
use Rattle.roc_grown.specs.Server.{GrownServerState, taken_at, switched_sends, have_all_drained}
use Rattle.roc_growth.specs.declared.event.Event.{Event}
use Rattle.roc_growth.specs.declared.event.Event.TheVariants.{Tick}
use Rattle.roc_growth.specs.World.{GrownWorld}
use Rattle.roc_growth.specs.Happens.{Outcome, served}
use Rattle.roc_growth.specs.Run.{Stepped, AreCoordsOf}
use Rattle.roc_growth.specs.Told.{HasTold, HasSwitched}
use Rattle.roc_growth.specs.Epochs.{IsAlong}
use Rattle.roc_growth.proofs.Telling.{changed_server}
use Rattle.roc_growth.proofs.Placed.{aside_step, aside_along}
use Rattle.roc_growth.proofs.OwnServers.{bare, AreSent, are_sent, none_sent, server_node, IsOwnServer, own_ticked}
use Rattle.roc_growth.proofs.Drains.{kept_more, many_kept, kept_now, all_told, switched_right, switched_between}
use Rattle.roc_growth.proofs.Phases.{first_plan, second_plan, last_accepted, last_shards, Laws, IsFresh, IsLater, Phase, fresh, later, IsGlued}
use Rattle.roc_growth.proofs.GlueServers.{fresh_own, fresh_aside, later_own}

module _ (laws : Laws) (plan : Plan) (next : Option Next) (accepted : IsAccepted plan) (of : IsNextOf plan next) (some : 0 < plan.program.shards) (count : ℕ) (counted : AreCoordsOf next count)
    (steps : List Stepped) (g : GrownWorld) (o : IsGlued plan next count steps (bare g)) (n : ℕ) (s : GrownServerState) (there : slice_get g.servers n ≡ Some s) where
  abbrev me : Node
  me = server_node n

  -- what is known of the world of a server's own file
  pub record IsOwnWorld (p : Plan) (f : File) (u : World) : Type 0 where
    pub none : (e : Option TheirEvent) (o : happen.Outcome) → Transition p u e o → (from : Node) (outs : List Outgoing) → o.world.sent ≡ u.sent ++ map (sent_by from) outs → AreNoneBetween outs
    pub sent : u.sent ≡ of_file f g.sent
    pub here : slice_get u.servers n ≡ Some s.core
    pub keeps : slice_get u.viewing n ≡ Some s.viewing
    pub plan_is : own_plan plan next s.switched ≡ p
    pub file_is : own_file s.switched ≡ f

  first_world : IsFresh (bare g) o.w → s.switched ≡ false → IsOwnWorld plan First o.w
  first_world f unswitched =
      let was = f.servers n s there in
      let core : s.core ≡ was.state = was.core ∙ ap (λ b. if b then renewed was.state else was.state) unswitched in
      let reads : s.viewing ≡ was.viewing = was.reads ∙ ap (λ b. if b then renewed_viewing was.viewing else was.viewing) unswitched in
      record {
        none = laws.nothing_between plan (first_beginning plan) count o.first_steps o.w accepted (laws.begins plan) o.first;
        sent = o.sent;
        here = was.there ∙ ap Some (sym core);
        keeps = was.keeps ∙ ap Some (sym reads);
        plan_is = first_plan plan next s.switched unswitched;
        file_is = ap own_file unswitched;
      }

  second_world : (second_steps : List views.Stepped) (v : World) → views.IsRunFrom (last_plan plan next) (left_behind plan (first_beginning plan) o.w) count second_steps v → IsLater (bare g) o.w v
      → IsOwnWorld (last_plan plan next) Second v
  second_world second_steps v run l =
      let was = l.servers n s there in
      record {
        none = laws.nothing_between (last_plan plan next) (left_behind plan (first_beginning plan) o.w) count second_steps v (last_accepted plan next accepted of)
            (laws.begins_behind plan (last_plan plan next) (first_beginning plan) count o.first_steps o.w accepted (laws.begins plan) o.first l.drained (last_shards plan next of)) run;
        sent = l.sent;
        here = was.1;
        keeps = was.2;
        plan_is = second_plan plan next s.switched was.0;
        file_is = ap own_file was.0;
      }

  -- a server has the number of its place
  pub own_number : s.core.shard.0 ≡ n
  own_number = go o.phase
    where
      go : Phase plan next count steps (bare g) o.w → s.core.shard.0 ≡ n
      go (fresh f) =
          let was = f.servers n s there in
          ap (λ (c : ServerState). c.shard.0) was.core ∙ (still s.switched was.state ∙ (laws.fits plan (first_beginning plan) count o.first_steps o.w some o.first).numbers n was.state was.there)
        where
          still : (b : Bool) (x : ServerState) → (if b then renewed x else x).shard.0 ≡ x.shard.0
          still true x = refl
          still false x = refl
      go (later second_steps v run l along) =
          (laws.fits (last_plan plan next) (left_behind plan (first_beginning plan) o.w) count second_steps v (subst (λ n. 0 < n) (sym (last_shards plan next of)) some) run).numbers n s.core (l.servers n s there).1

  module _ (e : Event) (out : Outcome) where
    abbrev step : Stepped
    step = record { event = Some e; outcome = out }

    abbrev Glued : Type 0
    Glued = IsGlued plan next count (steps ++ step ∷ []) (bare out.world)

    -- a step in the world of its own file; or the second one has not begun
    pub server_by : ((p : Plan) (f : File) (u : World) → IsOwnWorld p f u → (x : GrownServerState) × IsOwnServer p f u g n s e out x) → (s.switched ≡ true → (u : World) → IsAlong First g.sent step (aside_step u))
        → (IsFresh (bare g) o.w → s.switched ≡ true → Glued) → Glued
    server_by own aside lost = go o.phase
      where
        early : IsFresh (bare g) o.w → (b : Bool) → s.switched ≡ b → Glued
        early f false unswitched = let q = own plan First o.w (first_world f unswitched) in fresh_own plan next count steps g o n s there e out f unswitched q.0 q.1
        early f true switched = lost f switched

        go : Phase plan next count steps (bare g) o.w → Glued
        go (fresh f) = early f s.switched refl
        go (later second_steps v run l along) =
            let q = own (last_plan plan next) Second v (second_world second_steps v run l) in
            later_own plan next count steps g o n s there e out second_steps v run l along q.0 q.1
            (laws.behind plan (last_plan plan next) (first_beginning plan) count o.first_steps second_steps o.w v accepted (last_accepted plan next accepted of) (laws.begins plan) o.first l.drained (last_shards plan next of) run
            q.1.event q.1.after q.1.happens q.1.decided q.1.order)
            (aside (l.servers n s there).0 o.w)

    -- it has switched, and nothing changes that is of either file
    pub lost_by : (x : GrownServerState) (all : List Outgoing) → AreSent (slice_set g.servers n x) g.coords s.switched me all [] → bare out.world ≡ changed_server (bare g) n x (map (sealed_by s.switched me) all) g.order
        → x.core ≡ s.core → ((z : Viewing) → s.viewing ≡ renewed_viewing z → x.viewing ≡ renewed_viewing z) → x.drained ≡ s.drained → x.switched ≡ s.switched
        → ((u : World) → IsAlong First g.sent step (aside_step u)) → IsFresh (bare g) o.w → s.switched ≡ true → Glued
    lost_by x all sends world core reads drained still aside f switched =
        fresh_aside plan next count steps g o n s there e out f x all sends world (still ∙ switched) (ap length drained)
        (λ state viewing at keeps was_core was_reads.
        (core ∙ (was_core ∙ ap (λ b. if b then renewed state else state) switched), reads viewing (was_reads ∙ ap (λ b. if b then renewed_viewing viewing else viewing) switched)))
        (λ i w h. o.told.kept n i s w there (subst (λ l. slice_get l i ≡ Some (Some w)) drained h)) (λ i c at. o.told.by_server n (s, there, switched) i c at) (aside o.w)

    -- it goes over
    pub goes_by : (nx : Next) → next ≡ Some nx → s.switched ≡ false → (upto : TxnId) → HasTold g.coords upto → have_all_drained nx.coords (kept_more s upto).drained ≡ true
        → (x : GrownServerState) → x.core ≡ renewed s.core → x.viewing ≡ renewed_viewing s.viewing → x.drained ≡ (kept_more s upto).drained → x.switched ≡ true
        → (all : List Outgoing) → ((out : Outgoing) → Has out all → Has out (switched_sends s.core.shard nx.coords (kept_more s upto).drained))
        → bare out.world ≡ changed_server (bare g) n x (map (sealed_by s.switched me) all) g.order → ((f : File) → is_file f Neither ≡ false → (u : World) → IsAlong f g.sent step (aside_step u)) → Glued
    goes_by nx is unswitched upto has all x core reads drained switched outs sub world aside = go o.phase
      where
        kept : (i : ℕ) (w : TxnId) → slice_get s.drained i ≡ Some (Some w) → (w.coord ≡ i) × HasTold g.coords w
        kept i w h = o.told.kept n i s w there h

        now : HasSwitched (slice_set g.servers n x) s.core.shard.0
        now = (x, subst (λ k. slice_get (slice_set g.servers n x) k ≡ Some x) (sym own_number) (get-set_here g.servers n s x there), switched)

        few : nx.coords ≤ 16
        few = (subst (IsNextOf plan) is of).3

        many : length g.coords ≡ nx.coords
        many = sym o.coords ∙ (run_count plan (first_beginning plan) count o.first_steps o.w o.first ∙ subst (λ next. AreCoordsOf next count) is counted)

        sends : AreSent (slice_set g.servers n x) g.coords s.switched me outs []
        sends =
            are_sent (slice_set g.servers n x) g.coords s.switched me [] outs (λ o h. absurd h) (λ o h. switched_between s upto nx.coords o (sub o h))
            (λ o h. switched_right s upto g.coords has kept nx.coords (slice_set g.servers n x) now o (sub o h))

        go : Phase plan next count steps (bare g) o.w → Glued
        go (fresh f) =
            fresh_aside plan next count steps g o n s there e out f x outs sends world switched (ap length drained ∙ many_kept s upto g.coords has)
            (λ state viewing at keeps was_core was_reads. (
              core ∙ ap renewed (was_core ∙ ap (λ b. if b then renewed state else state) unswitched),
              reads ∙ ap renewed_viewing (was_reads ∙ ap (λ b. if b then renewed_viewing viewing else viewing) unswitched),
            ))
            (λ i w h. kept_now s upto g.coords has kept i w (subst (λ l. slice_get l i ≡ Some (Some w)) drained h))
            (λ i c at. all_told s upto g.coords has kept nx.coords few (o.sixteen n s there) all i c (let l = slice_get_within g.coords i c at in omega (arith, l, many)) at) (aside First refl o.w)
        go (later second_steps v run l along) = absurd (false≢true (sym unswitched ∙ (l.servers n s there).0))

  -- ---- a tick

  pub ticked : (out : Outcome) → out ≡ served g n (taken_at s (tick_sends s.core)) → IsGlued plan next count (steps ++ (record { event = Some (Tick me); outcome = out }) ∷ []) (bare out.world)
  ticked out is =
      server_by (Tick me) out
      (λ p f u i. (s, subst (λ out. IsOwnServer p f u g n s (Tick me) out s) (sym is) (own_ticked plan next p f u i.none g i.sent n s there i.here i.keeps i.plan_is i.file_is)))
      (λ h u. aside u) lost
    where
      aside : (u : World) → IsAlong First g.sent (record { event = Some (Tick me); outcome = out }) (aside_step u)
      aside u = aside_along First g.sent (record { event = Some (Tick me); outcome = out }) u (λ k h. absurd (cc)) (λ k m h. absurd (cc))

      lost : IsFresh (bare g) o.w → s.switched ≡ true → IsGlued plan next count (steps ++ (record { event = Some (Tick me); outcome = out }) ∷ []) (bare out.world)
      lost f switched =
          lost_by (Tick me) out s [] (none_sent (slice_set g.servers n s) g.coords s.switched me) (ap (λ (o : Outcome). bare o.world) is ∙ ap (λ outs. changed_server (bare g) n s (map (sealed_by s.switched me) outs) g.order) silent)
          refl (λ z e. e) refl refl aside f switched
        where
          silent : tick_sends s.core ≡ []
          silent = let was = f.servers n s there in ap tick_sends (was.core ∙ ap (λ b. if b then renewed was.state else was.state) switched)
