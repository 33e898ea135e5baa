-- A server's step keeps the two runs side by side
use Rattle.std.proofs.Common.{◌≡◌, ◌≢◌, ◌∙◌, inl, inr, ℕ, Bool, true, false, List, [], ◌∷◌, ◌++◌, Option, Some, None, length, map, refl, sym, ap, subst, append-nil}
use Rattle.std.proofs.lemmas.List.{length-set}
use Rattle.std.specs.Prelude.{slice_get, slice_set, if◌then◌else◌}
use Rattle.roc_base.specs.declared.id.TxnId.{TxnId}
use Rattle.roc_base.specs.declared.node.Node.{Node}
use Rattle.roc_msg.specs.declared.outbox.Outgoing.{Outgoing}
use Rattle.roc_plan.specs.Groups.{Plan}
use Rattle.roc_step.specs.State.{ServerState, Viewing}
use Rattle.roc_step.specs.Renewed.{renewed, renewed_viewing}
use Rattle.roc_audit.specs.Order.{noted}
use Rattle.roc_law_protocol.specs.World.{sent_by}
use Rattle.roc_law_protocol.specs.declared.event.Seen.TheVariants as seen_there
use Rattle.roc_law_protocol.proofs.Changed.{get-set_here, get-set_other, get-set_cases}
use Rattle.roc_law_world.specs.World.{World, first_beginning}
use Rattle.roc_law_world.specs.Happens as happen
use Rattle.roc_law_world.specs.Run as views
use Rattle.roc_epoch.specs.declared.file.File.{File}
use Rattle.roc_epoch.specs.declared.file.File.TheVariants.{First, Second, Neither}
use Rattle.roc_epoch.specs.declared.next.Next.{Next}
use Rattle.roc_epoch.specs.Files.{own_file, last_plan}
use Rattle.roc_two_files.specs.Left.{left_behind}
use Rattle.roc_two_files.specs.Orders.{later_by}
use Rattle.roc_two_files.specs.Sealed.{of_file, sealed_by}
use Rattle.roc_grown.specs.Server.{GrownServerState}
use Rattle.roc_grown.specs.Coord.{GrownCoordState}
use Rattle.roc_growth.specs.declared.event.Event.{Event}
use Rattle.roc_growth.specs.World.{GrownWorld}
use Rattle.roc_growth.specs.Happens.{Outcome}
use Rattle.roc_growth.specs.Run.{Stepped}
use Rattle.roc_growth.specs.Told.{HasTold, AreTold}
use Rattle.roc_growth.specs.Epochs.{IsAlong, AreAlong, one_more_along}
use Rattle.roc_growth.proofs.Telling.{changed_server, told_server}
use Rattle.roc_growth.proofs.Placed.{aside_step, one_along_more, along_more}
use Rattle.roc_growth.proofs.OwnServers.{bare, AreSent, server_node, IsOwnServer}
use Rattle.roc_growth.proofs.Phases.{StandsIn, IsFresh, IsLater, fresh, later, IsGlued, sent_own, sent_other, sealed_right, filed_more, first_not_second, second_not_first, first_some, second_some}

module _ (plan : Plan) (next : Option Next) (count : ℕ) (steps : List Stepped) (g : GrownWorld) (o : IsGlued plan next count steps (bare g)) (n : ℕ) (s : GrownServerState)
    (there : slice_get g.servers n ≡ Some s) (e : Event) (out : Outcome) where
  abbrev me : Node
  me = server_node n

  abbrev step : Stepped
  step = record { event = Some e; outcome = out }

  -- one more step goes along
  along_with : (f : File) (all : List Outgoing) (others : List views.Stepped) (y : views.Stepped) → AreAlong f g.sent steps others → IsAlong f g.sent step y
      → AreAlong f (g.sent ++ map (sealed_by s.switched me) all) (steps ++ step ∷ []) (others ++ y ∷ [])
  along_with f all others y a b =
      one_more_along step y (along_more f g.sent (map (sealed_by s.switched me) all) steps others a) (one_along_more f g.sent (map (sealed_by s.switched me) all) step y b)

  sixteen_with : (x : GrownServerState) → length x.drained ≡ length s.drained → (k : ℕ) (z : GrownServerState) → slice_get (slice_set g.servers n x) k ≡ Some z → length z.drained ≡ 16
  sixteen_with x many k z at = elim (get-set_cases g.servers n k s x z there at) [
    | inl q ↦ ap (λ (z : GrownServerState). length z.drained) q.1 ∙ (many ∙ o.sixteen n s there)
    | inr q ↦ o.sixteen k z q.1
  ]

  -- what it keeps of what was told, behind a step in its own world
  told_own : (p : Plan) (f : File) (u : World) (x : GrownServerState) → (own : IsOwnServer p f u g n s e out x) → AreTold (changed_server (bare g) n x (map (sealed_by s.switched me) own.all) (noted g.order own.decided))
  told_own p f u x own =
      told_server (bare g) o.told n s x there (map (sealed_by s.switched me) own.all) (noted g.order own.decided) (λ h. own.still ∙ h)
      (λ i w h. elim (own.drained i w h) [ inl k ↦ o.told.kept n i s w there k | inr q ↦ q ])
      (sealed_right (slice_set g.servers n x) g.coords s.switched me own.all own.outs own.sends) (λ h i c at. o.told.by_server n (s, there, sym own.still ∙ h) i c at)

  -- ---- a server that has not switched, in the first world

  pub fresh_own : IsFresh (bare g) o.w → s.switched ≡ false → (x : GrownServerState) → IsOwnServer plan First o.w g n s e out x → IsGlued plan next count (steps ++ step ∷ []) (bare out.world)
  fresh_own f unswitched x own =
      subst (IsGlued plan next count (steps ++ step ∷ [])) (sym own.world)
      (record {
        told = told_own plan First o.w x own;
        first_steps = o.first_steps ++ (record { event = own.event; outcome = own.after }) ∷ [];
        w = v;
        first = views.steps_on own.event own.after o.first own.happens;
        sent = own.sent
            ∙ (ap (λ l. l ++ map (sent_by me) own.outs) o.sent ∙ sym (sent_own (slice_set g.servers n x) g.coords s.switched me own.all own.outs own.sends First (ap own_file unswitched) g.sent));
        along = along_with First own.all o.first_steps (record { event = own.event; outcome = own.after }) o.along own.along;
        filed = filed_more g.sent o.filed s.switched me own.all;
        sixteen = sixteen_with x own.many;
        all_at = o.all_at;
        servers = ap length own.servers ∙ (length-set o.w.servers n x.core ∙ (o.servers ∙ sym (length-set g.servers n x)));
        coords = ap length own.coords ∙ o.coords;
        phase = fresh (record {
          servers = λ k z at. stands k z at;
          coords = own.coords ∙ f.coords;
          plain = f.plain;
          second = sent_other (slice_set g.servers n x) g.coords s.switched me own.all own.outs own.sends Second (first_not_second s.switched unswitched) second_some g.sent ∙ f.second;
          history = f.history ∙ sym own.history;
          order = ap (λ l. noted l own.decided) f.order ∙ sym own.order;
          looks = f.looks ∙ sym own.looks;
        });
      })
    where
      v : World
      v = own.after.world

      x_still : x.switched ≡ false
      x_still = own.still ∙ unswitched

      stands : (k : ℕ) (z : GrownServerState) → slice_get (slice_set g.servers n x) k ≡ Some z → StandsIn v k z
      stands k z at = elim (get-set_cases g.servers n k s x z there at) [
        | inl q ↦ subst (λ k. StandsIn v k z) q.0 (subst (StandsIn v n) (sym q.1) here)
        | inr q ↦ (let was = f.servers k z q.1 in
            record {
              state = was.state;
              there = ap (λ l. slice_get l k) own.servers ∙ (get-set_other o.w.servers n k x.core q.0 ∙ was.there);
              viewing = was.viewing;
              keeps = ap (λ l. slice_get l k) own.viewing ∙ (get-set_other o.w.viewing n k x.viewing q.0 ∙ was.keeps);
              core = was.core;
              reads = was.reads;
            })
      ]
        where
          here : StandsIn v n x
          here =
              let was = f.servers n s there in
              record {
                state = x.core;
                there = ap (λ l. slice_get l n) own.servers ∙ get-set_here o.w.servers n was.state x.core was.there;
                viewing = x.viewing;
                keeps = ap (λ l. slice_get l n) own.viewing ∙ get-set_here o.w.viewing n was.viewing x.viewing was.keeps;
                core = ap (λ b. if b then renewed x.core else x.core) (sym x_still);
                reads = ap (λ b. if b then renewed_viewing x.viewing else x.viewing) (sym x_still);
              }

  -- ---- a server that has switched, or switches, before the second world begins: the first one does not see it

  pub fresh_aside : IsFresh (bare g) o.w → (x : GrownServerState) (all : List Outgoing) (sends : AreSent (slice_set g.servers n x) g.coords s.switched me all [])
      → bare out.world ≡ changed_server (bare g) n x (map (sealed_by s.switched me) all) g.order → x.switched ≡ true → length x.drained ≡ length s.drained
      → ((state : ServerState) (viewing : Viewing) → slice_get o.w.servers n ≡ Some state → slice_get o.w.viewing n ≡ Some viewing → (s.core ≡ (if s.switched then renewed state else state))
      → (s.viewing ≡ (if s.switched then renewed_viewing viewing else viewing)) → (x.core ≡ renewed state) × (x.viewing ≡ renewed_viewing viewing))
      → ((i : ℕ) (w : TxnId) → slice_get x.drained i ≡ Some (Some w) → (w.coord ≡ i) × HasTold g.coords w)
      → ((i : ℕ) (c : GrownCoordState) → slice_get g.coords i ≡ Some c → (w : TxnId) × (c.upto ≡ Some w))
      → IsAlong First g.sent step (aside_step o.w) → IsGlued plan next count (steps ++ step ∷ []) (bare out.world)
  fresh_aside f x all sends world switched many core kept now along =
      subst (IsGlued plan next count (steps ++ step ∷ [])) (sym world)
      (record {
        told = told_server (bare g) o.told n s x there (map (sealed_by s.switched me) all) g.order (λ h. switched) kept
            (sealed_right (slice_set g.servers n x) g.coords s.switched me all [] sends) (λ h i c at. now i c at);
        first_steps = o.first_steps ++ aside_step o.w ∷ [];
        w = o.w;
        first = views.steps_on None (happen.undecided seen_there.Done o.w) o.first refl;
        sent = o.sent ∙ sym (nothing First first_some);
        along = along_with First all o.first_steps (aside_step o.w) o.along along;
        filed = filed_more g.sent o.filed s.switched me all;
        sixteen = sixteen_with x many;
        all_at = o.all_at;
        servers = o.servers ∙ sym (length-set g.servers n x);
        coords = o.coords;
        phase = fresh (record {
          servers = λ k z at. stands k z at;
          coords = f.coords;
          plain = f.plain;
          second = nothing Second second_some ∙ f.second;
          history = f.history;
          order = f.order;
          looks = f.looks;
        });
      })
    where
      nothing : (h : File) → h ≢ Neither → of_file h (g.sent ++ map (sealed_by s.switched me) all) ≡ of_file h g.sent
      nothing h some = go h some s.switched refl
        where
          mine : (h : File) → own_file s.switched ≡ h → of_file h (g.sent ++ map (sealed_by s.switched me) all) ≡ of_file h g.sent
          mine h e = sent_own (slice_set g.servers n x) g.coords s.switched me all [] sends h e g.sent ∙ append-nil (of_file h g.sent)

          go : (h : File) → h ≢ Neither → (b : Bool) → s.switched ≡ b → of_file h (g.sent ++ map (sealed_by s.switched me) all) ≡ of_file h g.sent
          go First some false e = mine First (ap own_file e)
          go First some true e = sent_other (slice_set g.servers n x) g.coords s.switched me all [] sends First (second_not_first s.switched e) first_some g.sent
          go Second some false e = sent_other (slice_set g.servers n x) g.coords s.switched me all [] sends Second (first_not_second s.switched e) second_some g.sent
          go Second some true e = mine Second (ap own_file e)
          go Neither some b e = absurd (some refl)

      stands : (k : ℕ) (z : GrownServerState) → slice_get (slice_set g.servers n x) k ≡ Some z → StandsIn o.w k z
      stands k z at = elim (get-set_cases g.servers n k s x z there at) [
        | inl q ↦ subst (λ k. StandsIn o.w k z) q.0 (subst (StandsIn o.w n) (sym q.1) here)
        | inr q ↦ f.servers k z q.1
      ]
        where
          here : StandsIn o.w n x
          here =
              let was = f.servers n s there in
              let now = core was.state was.viewing was.there was.keeps was.core was.reads in
              record {
                state = was.state;
                there = was.there;
                viewing = was.viewing;
                keeps = was.keeps;
                core = now.0 ∙ ap (λ b. if b then renewed was.state else was.state) (sym switched);
                reads = now.1 ∙ ap (λ b. if b then renewed_viewing was.viewing else was.viewing) (sym switched);
              }

  -- ---- a server in the second world

  pub later_own : (second_steps : List views.Stepped) (v : World) → views.IsRunFrom (last_plan plan next) (left_behind plan (first_beginning plan) o.w) count second_steps v → IsLater (bare g) o.w v
      → AreAlong Second g.sent steps second_steps → (x : GrownServerState) → (own : IsOwnServer (last_plan plan next) Second v g n s e out x)
      → noted (o.w.order ++ v.order) own.decided ≡ o.w.order ++ noted v.order own.decided → IsAlong First g.sent step (aside_step o.w) → IsGlued plan next count (steps ++ step ∷ []) (bare out.world)
  later_own second_steps v run l along_second x own behind along_first =
      subst (IsGlued plan next count (steps ++ step ∷ [])) (sym own.world)
      (record {
        told = told_own (last_plan plan next) Second v x own;
        first_steps = o.first_steps ++ aside_step o.w ∷ [];
        w = o.w;
        first = views.steps_on None (happen.undecided seen_there.Done o.w) o.first refl;
        sent = o.sent ∙ sym (sent_other (slice_set g.servers n x) g.coords s.switched me own.all own.outs own.sends First (second_not_first s.switched switched) first_some g.sent);
        along = along_with First own.all o.first_steps (aside_step o.w) o.along along_first;
        filed = filed_more g.sent o.filed s.switched me own.all;
        sixteen = sixteen_with x own.many;
        all_at = o.all_at;
        servers = o.servers ∙ sym (length-set g.servers n x);
        coords = o.coords;
        phase = later (second_steps ++ (record { event = own.event; outcome = own.after }) ∷ []) v2 (views.steps_on own.event own.after run own.happens)
            (record {
              servers = λ k z at. stands k z at;
              coords = λ k c at.
                  (let was = l.coords k c at in
                  record {
                    state = was.state;
                    there = was.there;
                    first = λ h. ((was.first h).0, ap (λ q. slice_get q k) own.coords ∙ (was.first h).1);
                    second = λ h. (ap (λ q. slice_get q k) own.coords ∙ (was.second h).0, (was.second h).1);
                  });
              drained = l.drained;
              sent = own.sent
                  ∙ (ap (λ q. q ++ map (sent_by me) own.outs) l.sent ∙ sym (sent_own (slice_set g.servers n x) g.coords s.switched me own.all own.outs own.sends Second (ap own_file switched) g.sent));
              history = l.history ∙ ap (λ q. o.w.history ++ q) (sym own.history);
              order = ap (λ q. noted q own.decided) l.order ∙ (behind ∙ ap (λ q. o.w.order ++ q) (sym own.order));
              looks = l.looks ∙ ap (λ q. o.w.looks ++ map (later_by (length o.w.order)) q) (sym own.looks);
            })
            (along_with Second own.all second_steps (record { event = own.event; outcome = own.after }) along_second own.along);
      })
    where
      v2 : World
      v2 = own.after.world

      switched : s.switched ≡ true
      switched = (l.servers n s there).0

      stands : (k : ℕ) (z : GrownServerState) → slice_get (slice_set g.servers n x) k ≡ Some z → (z.switched ≡ true) × (slice_get v2.servers k ≡ Some z.core) × (slice_get v2.viewing k ≡ Some z.viewing)
      stands k z at = elim (get-set_cases g.servers n k s x z there at) [
        | inl q ↦
            subst (λ k. (z.switched ≡ true) × (slice_get v2.servers k ≡ Some z.core) × (slice_get v2.viewing k ≡ Some z.viewing)) q.0
            (subst (λ (z : GrownServerState). (z.switched ≡ true) × (slice_get v2.servers n ≡ Some z.core) × (slice_get v2.viewing n ≡ Some z.viewing)) (sym q.1) (
              own.still ∙ switched,
              ap (λ q. slice_get q n) own.servers ∙ get-set_here v.servers n s.core x.core (l.servers n s there).1,
              ap (λ q. slice_get q n) own.viewing ∙ get-set_here v.viewing n s.viewing x.viewing (l.servers n s there).2,
            ))
        | inr q ↦
            (let was = l.servers k z q.1 in
            (was.0, ap (λ q. slice_get q k) own.servers ∙ (get-set_other v.servers n k x.core q.0 ∙ was.1), ap (λ q. slice_get q k) own.viewing ∙ (get-set_other v.viewing n k x.viewing q.0 ∙ was.2)))
      ]
