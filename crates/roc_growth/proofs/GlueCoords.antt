-- A coordinator's step keeps the two runs side by side
use Rattle.std.proofs.Common.{◌≡◌, ◌≢◌, ◌∙◌, inl, inr, ◌+◌, ℕ, true, false, List, [], ◌∷◌, ◌++◌, Option, Some, None, length, map, refl, sym, ap, subst, append-nil, append_assoc}
use Rattle.std.proofs.lemmas.Bool.{false≢true}
use Rattle.std.proofs.lemmas.List.{length-set, length-append, map-append}
use Rattle.std.specs.Prelude.{slice_get, slice_set}
use Rattle.roc_base.specs.declared.id.TxnId.{TxnId}
use Rattle.roc_base.specs.declared.node.Node.{Node}
use Rattle.roc_msg.specs.declared.outbox.Outgoing.{Outgoing}
use Rattle.roc_plan.specs.Groups.{Plan}
use Rattle.roc_coord.specs.Submit.{next_id}
use Rattle.roc_law_protocol.specs.World.{sent_by}
use Rattle.roc_law_protocol.specs.declared.event.Seen.TheVariants as seen_there
use Rattle.roc_law_protocol.proofs.Changed.{get-set_here, get-set_other, get-set_cases}
use Rattle.roc_law_world.specs.World.{World, first_beginning, first_look}
use Rattle.roc_law_world.specs.Happens as happen
use Rattle.roc_law_world.specs.Run as views
use Rattle.roc_epoch.specs.declared.file.File.{File}
use Rattle.roc_epoch.specs.declared.file.File.TheVariants.{First, Second}
use Rattle.roc_epoch.specs.declared.next.Next.{Next}
use Rattle.roc_epoch.specs.Files.{own_file, last_plan}
use Rattle.roc_two_files.specs.Left.{left_behind}
use Rattle.roc_two_files.specs.Orders.{later_by}
use Rattle.roc_two_files.specs.Sealed.{sealed_by}
use Rattle.roc_grown.specs.Coord.{GrownCoordState, have_all_switched}
use Rattle.roc_growth.specs.declared.event.Event.{Event}
use Rattle.roc_growth.specs.World.{GrownWorld}
use Rattle.roc_growth.specs.Happens.{Outcome}
use Rattle.roc_growth.specs.Run.{Stepped}
use Rattle.roc_growth.specs.Told.{AreTold}
use Rattle.roc_growth.specs.Epochs.{IsAlong, AreAlong, one_more_along}
use Rattle.roc_growth.proofs.Plainly.{map_set}
use Rattle.roc_growth.proofs.Telling.{changed_coord, told_coord}
use Rattle.roc_growth.proofs.Placed.{aside_step, one_along_more, along_more}
use Rattle.roc_growth.proofs.OwnServers.{bare}
use Rattle.roc_growth.proofs.OwnCoords.{coord_node, IsOwnCoord}
use Rattle.roc_growth.proofs.Phases.{StandsInBoth, IsFresh, IsLater, fresh, later, IsGlued, sent_own, sent_other, sealed_right, filed_more, first_not_second, second_not_first, first_some, second_some}
use Rattle.roc_law_protocol.proofs.Stops.{set_there}

-- looks of a world that begins behind so many
later_look : (n k : ℕ) (ids : List TxnId) → map (later_by n) (first_look k ids) ≡ first_look (n + k) ids
later_look n k [] = refl
later_look n k (id ∷ ids) = refl

module _ (plan : Plan) (next : Option Next) (count : ℕ) (steps : List Stepped) (g : GrownWorld) (o : IsGlued plan next count steps (bare g)) (n : ℕ) (c : GrownCoordState)
    (there : slice_get g.coords n ≡ Some c) (e : Event) (out : Outcome) where
  abbrev me : Node
  me = coord_node n

  abbrev step : Stepped
  step = record { event = Some e; outcome = out }

  along_with : (f : File) (all : List Outgoing) (others : List views.Stepped) (y : views.Stepped) → AreAlong f g.sent steps others → IsAlong f g.sent step y
      → AreAlong f (g.sent ++ map (sealed_by c.switched me) all) (steps ++ step ∷ []) (others ++ y ∷ [])
  along_with f all others y a b =
      one_more_along step y (along_more f g.sent (map (sealed_by c.switched me) all) steps others a) (one_along_more f g.sent (map (sealed_by c.switched me) all) step y b)

  told_own : (p : Plan) (f : File) (u : World) (x : GrownCoordState) → (own : IsOwnCoord p f u g n c e out x)
      → AreTold (changed_coord (bare g) n x (map (sealed_by c.switched me) own.all) own.told (first_look (length g.order) own.ids))
  told_own p f u x own =
      told_coord (bare g) o.told n c x there (map (sealed_by c.switched me) own.all) own.told (first_look (length g.order) own.ids) own.telling own.tells_still
      (sealed_right g.servers (slice_set g.coords n x) c.switched me own.all own.outs own.sends) own.heard (λ h i s at. o.told.by_coord n c there (sym own.still ∙ h) i s at)

  all_at_own : (p : Plan) (f : File) (u : World) (x : GrownCoordState) → IsOwnCoord p f u g n c e out x → (k : ℕ) (z : GrownCoordState) → slice_get (slice_set g.coords n x) k ≡ Some z → z.switched ≡ true
      → have_all_switched plan.program.shards z.at ≡ true
  all_at_own p f u x own k z at switched = elim (get-set_cases g.coords n k c x z there at) [
    | inl q ↦
        (let now : c.switched ≡ true = sym own.still ∙ (ap (λ (z : GrownCoordState). z.switched) (sym q.1) ∙ switched) in
        ap (have_all_switched plan.program.shards) (ap (λ (z : GrownCoordState). z.at) q.1 ∙ own.at_still now) ∙ o.all_at n c there now)
    | inr q ↦ o.all_at k z q.1 switched
  ]

  -- ---- before any coordinator has switched, in the first world

  pub fresh_own : IsFresh (bare g) o.w → (x : GrownCoordState) → IsOwnCoord plan First o.w g n c e out x → IsGlued plan next count (steps ++ step ∷ []) (bare out.world)
  fresh_own f x own =
      subst (IsGlued plan next count (steps ++ step ∷ [])) (sym own.world)
      (record {
        told = told_own plan First o.w x own;
        first_steps = o.first_steps ++ (record { event = own.event; outcome = own.after }) ∷ [];
        w = own.after.world;
        first = views.steps_on own.event own.after o.first own.happens;
        sent = own.sent
            ∙ (ap (λ l. l ++ map (sent_by me) own.outs) o.sent ∙ sym (sent_own g.servers (slice_set g.coords n x) c.switched me own.all own.outs own.sends First (ap own_file unswitched) g.sent));
        along = along_with First own.all o.first_steps (record { event = own.event; outcome = own.after }) o.along own.along;
        filed = filed_more g.sent o.filed c.switched me own.all;
        sixteen = o.sixteen;
        all_at = all_at_own plan First o.w x own;
        servers = ap length own.servers ∙ o.servers;
        coords = ap length own.coords ∙ (length-set o.w.coords n x.core ∙ (o.coords ∙ sym (length-set g.coords n x)));
        phase = fresh (record {
          servers = λ k z at.
              (let was = f.servers k z at in
              record {
                state = was.state;
                there = ap (λ l. slice_get l k) own.servers ∙ was.there;
                viewing = was.viewing;
                keeps = ap (λ l. slice_get l k) own.viewing ∙ was.keeps;
                core = was.core;
                reads = was.reads;
              });
          coords = own.coords ∙ (ap (λ l. slice_set l n x.core) f.coords ∙ sym (map_set (λ (c : GrownCoordState). c.core) g.coords n x));
          plain = λ k z at. elim (get-set_cases g.coords n k c x z there at) [
            | inl q ↦ ap (λ (z : GrownCoordState). z.switched) q.1 ∙ (own.still ∙ unswitched)
            | inr q ↦ f.plain k z q.1
          ];
          second = sent_other g.servers (slice_set g.coords n x) c.switched me own.all own.outs own.sends Second (first_not_second c.switched unswitched) second_some g.sent ∙ f.second;
          history = ap (λ l. l ++ own.told) f.history ∙ sym own.history;
          order = f.order ∙ sym own.order;
          looks = (λ i. f.looks i ++ first_look (length (f.order i)) own.ids) ∙ sym own.looks;
        });
      })
    where
      unswitched : c.switched ≡ false
      unswitched = f.plain n c there

  -- ---- behind that, of one that has not: it rests in the first world

  module _ (second_steps : List views.Stepped) (v : World) (run : views.IsRunFrom (last_plan plan next) (left_behind plan (first_beginning plan) o.w) count second_steps v)
      (l : IsLater (bare g) o.w v) (along_second : AreAlong Second g.sent steps second_steps) where
    -- the first world's nodes, history, order and looks stay, and so does where the second begins
    same_beginning : (w : World) → w.servers ≡ o.w.servers → w.viewing ≡ o.w.viewing → w.coords ≡ o.w.coords → w.history ≡ o.w.history → w.order ≡ o.w.order → w.looks ≡ o.w.looks
        → left_behind plan (first_beginning plan) w ≡ left_behind plan (first_beginning plan) o.w
    same_beginning w servers viewing coords history order looks =
        λ i. left_behind plan (first_beginning plan)
        (record { servers = servers i; viewing = viewing i; coords = coords i; sent = []; undelivered = []; history = history i; order = order i; looks = looks i })

    stays : (k : ℕ) (z : GrownCoordState) (w2 v2 : World) → w2.coords ≡ o.w.coords → v2.coords ≡ v.coords → StandsInBoth o.w v k z → StandsInBoth w2 v2 k z
    stays k z w2 v2 one two was =
        record {
          state = was.state;
          there = ap (λ q. slice_get q k) one ∙ was.there;
          first = λ h. ((was.first h).0, ap (λ q. slice_get q k) two ∙ (was.first h).1);
          second = λ h. (ap (λ q. slice_get q k) two ∙ (was.second h).0, (was.second h).1);
        }

    pub later_first : c.switched ≡ false → (w : TxnId) → c.upto ≡ Some w → (x : GrownCoordState) → IsOwnCoord plan First o.w g n c e out x → IsAlong Second g.sent step (aside_step v)
        → IsGlued plan next count (steps ++ step ∷ []) (bare out.world)
    later_first unswitched upto told x own aside =
        subst (IsGlued plan next count (steps ++ step ∷ [])) (sym own.world)
        (record {
          told = told_own plan First o.w x own;
          first_steps = o.first_steps ++ (record { event = own.event; outcome = own.after }) ∷ [];
          w = w2;
          first = views.steps_on own.event own.after o.first own.happens;
          sent = own.sent
              ∙ (ap (λ l. l ++ map (sent_by me) own.outs) o.sent ∙ sym (sent_own g.servers (slice_set g.coords n x) c.switched me own.all own.outs own.sends First (ap own_file unswitched) g.sent));
          along = along_with First own.all o.first_steps (record { event = own.event; outcome = own.after }) o.along own.along;
          filed = filed_more g.sent o.filed c.switched me own.all;
          sixteen = o.sixteen;
          all_at = all_at_own plan First o.w x own;
          servers = ap length own.servers ∙ o.servers;
          coords = ap length same_coords ∙ (o.coords ∙ sym (length-set g.coords n x));
          phase = later (second_steps ++ aside_step v ∷ []) v
              (subst (λ b. views.IsRunFrom (last_plan plan next) b count (second_steps ++ aside_step v ∷ []) v) (sym (same_beginning w2 own.servers own.viewing same_coords same_history own.order same_looks))
              (views.steps_on None (happen.undecided seen_there.Done v) run refl))
              (record {
                servers = l.servers;
                coords = λ k z at. elim (get-set_cases g.coords n k c x z there at) [
                  | inl q ↦ subst (λ k. StandsInBoth w2 v k z) q.0 (subst (StandsInBoth w2 v n) (sym q.1) here)
                  | inr q ↦ stays k z w2 v same_coords refl (l.coords k z q.1)
                ];
                drained = λ k d at. l.drained k d (ap (λ q. slice_get q k) (sym same_coords) ∙ at);
                sent = l.sent ∙ sym (sent_other g.servers (slice_set g.coords n x) c.switched me own.all own.outs own.sends Second (first_not_second c.switched unswitched) second_some g.sent);
                history = ap (λ q. g.history ++ q) rest.1 ∙ (append-nil g.history ∙ (l.history ∙ ap (λ q. q ++ v.history) (sym same_history)));
                order = l.order ∙ ap (λ q. q ++ v.order) (sym own.order);
                looks = ap (λ q. g.looks ++ first_look (length g.order) q) rest.2
                    ∙ (append-nil g.looks ∙ (l.looks ∙ (λ i. same_looks_back i ++ map (later_by (length (sym own.order i))) v.looks)));
              })
              (along_with Second own.all second_steps (aside_step v) along_second aside);
        })
      where
        w2 : World
        w2 = own.after.world

        rest : (x.core ≡ c.core) × (own.told ≡ []) × (own.ids ≡ [])
        rest = own.rests upto told unswitched

        was : StandsInBoth o.w v n c
        was = l.coords n c there

        core : c.core ≡ was.state
        core = (was.first unswitched).0

        same_coords : w2.coords ≡ o.w.coords
        same_coords = own.coords ∙ set_there o.w.coords n x.core (was.there ∙ ap Some (sym core ∙ sym rest.0))

        same_history : w2.history ≡ o.w.history
        same_history = own.history ∙ (ap (λ q. o.w.history ++ q) rest.1 ∙ append-nil o.w.history)

        same_looks : w2.looks ≡ o.w.looks
        same_looks = own.looks ∙ (ap (λ q. o.w.looks ++ first_look (length o.w.order) q) rest.2 ∙ append-nil o.w.looks)

        same_looks_back : o.w.looks ≡ w2.looks
        same_looks_back = sym same_looks

        here : StandsInBoth w2 v n x
        here =
            record {
              state = was.state;
              there = ap (λ q. slice_get q n) same_coords ∙ was.there;
              first = λ h. (rest.0 ∙ core, (was.first unswitched).1);
              second = λ h. absurd (false≢true (sym (own.still ∙ unswitched) ∙ h));
            }

    -- ---- and of one that has

    pub later_second : c.switched ≡ true → (x : GrownCoordState) → IsOwnCoord (last_plan plan next) Second v g n c e out x → IsAlong First g.sent step (aside_step o.w)
        → IsGlued plan next count (steps ++ step ∷ []) (bare out.world)
    later_second switched x own aside =
        subst (IsGlued plan next count (steps ++ step ∷ [])) (sym own.world)
        (record {
          told = told_own (last_plan plan next) Second v x own;
          first_steps = o.first_steps ++ aside_step o.w ∷ [];
          w = o.w;
          first = views.steps_on None (happen.undecided seen_there.Done o.w) o.first refl;
          sent = o.sent ∙ sym (sent_other g.servers (slice_set g.coords n x) c.switched me own.all own.outs own.sends First (second_not_first c.switched switched) first_some g.sent);
          along = along_with First own.all o.first_steps (aside_step o.w) o.along aside;
          filed = filed_more g.sent o.filed c.switched me own.all;
          sixteen = o.sixteen;
          all_at = all_at_own (last_plan plan next) Second v x own;
          servers = o.servers;
          coords = o.coords ∙ sym (length-set g.coords n x);
          phase = later (second_steps ++ (record { event = own.event; outcome = own.after }) ∷ []) v2 (views.steps_on own.event own.after run own.happens)
              (record {
                servers = λ k z at.
                    (let was = l.servers k z at in
                    (was.0, ap (λ q. slice_get q k) own.servers ∙ was.1, ap (λ q. slice_get q k) own.viewing ∙ was.2));
                coords = λ k z at. elim (get-set_cases g.coords n k c x z there at) [
                  | inl q ↦ subst (λ k. StandsInBoth o.w v2 k z) q.0 (subst (StandsInBoth o.w v2 n) (sym q.1) here)
                  | inr q ↦ other k z q.0 (l.coords k z q.1)
                ];
                drained = l.drained;
                sent = own.sent
                    ∙ (ap (λ q. q ++ map (sent_by me) own.outs) l.sent ∙ sym (sent_own g.servers (slice_set g.coords n x) c.switched me own.all own.outs own.sends Second (ap own_file switched) g.sent));
                history = ap (λ q. q ++ own.told) l.history ∙ (append_assoc o.w.history v.history own.told ∙ ap (λ q. o.w.history ++ q) (sym own.history));
                order = l.order ∙ ap (λ q. o.w.order ++ q) (sym own.order);
                looks = looks_on;
              })
              (along_with Second own.all second_steps (record { event = own.event; outcome = own.after }) along_second own.along);
        })
      where
        v2 : World
        v2 = own.after.world

        was : StandsInBoth o.w v n c
        was = l.coords n c there

        here : StandsInBoth o.w v2 n x
        here =
            record {
              state = was.state;
              there = was.there;
              first = λ h. absurd (false≢true (sym h ∙ (own.still ∙ switched)));
              second = λ h. (ap (λ q. slice_get q n) own.coords ∙ get-set_here v.coords n c.core x.core (was.second switched).0, own.tells_still (next_id was.state) (was.second switched).1);
            }

        other : (k : ℕ) (z : GrownCoordState) → n ≢ k → StandsInBoth o.w v k z → StandsInBoth o.w v2 k z
        other k z apart was =
            record {
              state = was.state;
              there = was.there;
              first = λ h. ((was.first h).0, ap (λ q. slice_get q k) own.coords ∙ (get-set_other v.coords n k x.core apart ∙ (was.first h).1));
              second = λ h. (ap (λ q. slice_get q k) own.coords ∙ (get-set_other v.coords n k x.core apart ∙ (was.second h).0), (was.second h).1);
            }

        -- a look stands behind the orders of both
        looks_on : g.looks ++ first_look (length g.order) own.ids ≡ o.w.looks ++ map (later_by (length o.w.order)) v2.looks
        looks_on =
            let far : length g.order ≡ length o.w.order + length v.order = ap length l.order ∙ length-append o.w.order v.order in
            (λ i. l.looks i ++ first_look (far i) own.ids)
            ∙ (append_assoc o.w.looks (map (later_by (length o.w.order)) v.looks) (first_look (length o.w.order + length v.order) own.ids)
            ∙ ap (λ q. o.w.looks ++ q)
            (ap (λ q. map (later_by (length o.w.order)) v.looks ++ q) (sym (later_look (length o.w.order) (length v.order) own.ids))
            ∙ (sym (map-append (later_by (length o.w.order)) v.looks (first_look (length v.order) own.ids)) ∙ ap (map (later_by (length o.w.order))) (sym own.looks))))
