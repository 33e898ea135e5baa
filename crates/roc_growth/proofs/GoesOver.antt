-- A coordinator that goes over: the second world begins with the first of them
use Rattle.std.proofs.Common.{◌≡◌, ◌∙◌, inl, inr, ◌<◌, ◌==◌, ℕ, true, false, List, [], ◌∷◌, ◌++◌, Option, Some, None, length, refl, sym, ap, subst, append-nil, arith}
use Rattle.std.proofs.lemmas.Bool.{false≢true, eqb-true}
use Rattle.std.proofs.lemmas.List.{length-set}
use Rattle.std.proofs.lemmas.Option.{slice_get-map, slice_get_within}
use Rattle.std.specs.Prelude.{slice_get, slice_set, option_map, if◌then◌else◌}
use Rattle.std.specs.List.{list_any, range_with_len}
use Rattle.roc_sequence.specs.Lists.{Has}
use Rattle.roc_sequence.proofs.Holds.{every_has, any_has}
use Rattle.roc_sequence.proofs.Members.{same_there, has_append, has_one}
use Rattle.roc_merge_groups.proofs.Elements.{has_range}
use Rattle.roc_base.specs.declared.node.Shard.{Shard}
use Rattle.roc_plan.specs.Groups.{Plan}
use Rattle.roc_step.specs.Renewed.{renewed, renewed_viewing}
use Rattle.roc_coord.specs.State.{CoordState}
use Rattle.roc_coord.specs.Submit.{next_id}
use Rattle.roc_coord.specs.Renewed.{renewed_coord}
use Rattle.roc_law_protocol.specs.declared.event.Seen.TheVariants as seen_there
use Rattle.roc_law_protocol.proofs.Changed.{get-set_cases}
use Rattle.roc_law_world.specs.World.{World, first_beginning}
use Rattle.roc_law_world.specs.Happens as happen
use Rattle.roc_law_world.specs.Run as views
use Rattle.roc_epoch.specs.declared.file.File.{File}
use Rattle.roc_epoch.specs.declared.file.File.TheVariants.{First, Second}
use Rattle.roc_epoch.specs.declared.next.Next.{Next}
use Rattle.roc_epoch.specs.Files.{last_plan, IsNextOf}
use Rattle.roc_two_files.specs.Left.{AreDrained, left_behind}
use Rattle.roc_two_files.specs.Sealed.{of_file}
use Rattle.roc_grown.specs.Server.{GrownServerState}
use Rattle.roc_grown.specs.Coord.{GrownCoordState, have_all_switched, gone_over}
use Rattle.roc_growth.specs.declared.event.Event.{Event}
use Rattle.roc_growth.specs.World.{GrownWorld}
use Rattle.roc_growth.specs.Happens.{Outcome}
use Rattle.roc_growth.specs.Run.{Stepped}
use Rattle.roc_growth.specs.Told.{HasSwitched, AreTold}
use Rattle.roc_growth.specs.Epochs.{IsAlong, AreAlong, one_more_along, second_begun}
use Rattle.roc_growth.proofs.Plainly.{from_map}
use Rattle.roc_growth.proofs.Telling.{changed_coord, told_coord}
use Rattle.roc_growth.proofs.Placed.{aside_step, one_along_more, along_more, none_of, none_run, none_are_along}
use Rattle.roc_growth.proofs.OwnServers.{bare}
use Rattle.roc_growth.proofs.Phases.{Laws, last_shards, StandsInBoth, IsFresh, IsLater, Phase, later, IsGlued}

-- a coordinator that heard of all shards knows that all servers have switched
pub all_switched : (servers : List GrownServerState) (shards : ℕ) → length servers ≡ shards → (at : List Shard) → have_all_switched shards at ≡ true
    → ((shard : Shard) → Has shard at → HasSwitched servers shard.0) → (i : ℕ) (s : GrownServerState) → slice_get servers i ≡ Some s → s.switched ≡ true
all_switched servers shards many at all heard i s there =
    let l = slice_get_within servers i s there in
    let told = every_has (λ shard. list_any (λ (told : Shard). told.0 == shard) at) (range_with_len 0 shards) all i (has_range 0 shards i (omega arith) (omega (arith, l, many))) in
    let q = any_has (λ (told : Shard). told.0 == i) at told in
    let h = heard q.0 q.1 in
    let same : h.0 ≡ s = same_there servers i h.0 s (subst (λ k. slice_get servers k ≡ Some h.0) (eqb-true q.0.0 i q.2) h.1) there in
    ap (λ (s : GrownServerState). s.switched) (sym same) ∙ h.2

module _ (laws : Laws) (plan : Plan) (next : Option Next) (of : IsNextOf plan next) (some : 0 < plan.program.shards) (count : ℕ) (steps : List Stepped) (g : GrownWorld)
    (o : IsGlued plan next count steps (bare g)) (n : ℕ) (c : GrownCoordState) (there : slice_get g.coords n ≡ Some c) (unswitched : c.switched ≡ false)
    (shard : Shard) (has : HasSwitched g.servers shard.0) (many : length g.servers ≡ plan.program.shards) (all : have_all_switched plan.program.shards (c.at ++ shard ∷ []) ≡ true)
    (e : Event) (out : Outcome) (world : bare out.world ≡ changed_coord (bare g) n (gone_over (record c { at = c.at ++ shard ∷ [] })) [] [] []) where
  abbrev step : Stepped
  step = record { event = Some e; outcome = out }

  abbrev x : GrownCoordState
  x = gone_over (record c { at = c.at ++ shard ∷ [] })

  heard : (s : Shard) → Has s (c.at ++ shard ∷ []) → HasSwitched g.servers s.0
  heard s h = elim (has_append s c.at (shard ∷ []) h) [ inl i ↦ o.told.at n c s there i | inr i ↦ subst (λ (s : Shard). HasSwitched g.servers s.0) (sym (has_one s shard i)) has ]

  now : (i : ℕ) (s : GrownServerState) → slice_get g.servers i ≡ Some s → s.switched ≡ true
  now i s at = all_switched g.servers plan.program.shards many (c.at ++ shard ∷ []) all heard i s at

  told : AreTold (changed_coord (bare g) n x [] [] [])
  told =
      told_coord (bare g) o.told n c x there [] [] []
      (record { plain = λ h. refl; own = (o.told.telling n c there).own; rests = λ w h s. absurd (false≢true (sym s)) }) (λ w h. h) (λ m h. absurd h) heard (λ h. now)

  -- what each coordinator told it has as its next id
  rests : (k : ℕ) (z : GrownCoordState) → slice_get g.coords k ≡ Some z → z.switched ≡ false → (z.core.unanswered ≡ []) × (z.upto ≡ Some (next_id z.core))
  rests k z at plain =
      let u = o.told.by_server shard.0 has k z at in
      let r = (o.told.telling k z at).rests u.0 u.1 plain in
      (r.1, u.1 ∙ ap Some (sym r.2))

  all_at_now : (k : ℕ) (z : GrownCoordState) → slice_get (slice_set g.coords n x) k ≡ Some z → z.switched ≡ true → have_all_switched plan.program.shards z.at ≡ true
  all_at_now k z at switched = elim (get-set_cases g.coords n k c x z there at) [
    | inl q ↦ ap (λ (z : GrownCoordState). have_all_switched plan.program.shards z.at) q.1 ∙ all
    | inr q ↦ o.all_at k z q.1 switched
  ]

  along_with : (f : File) (others : List views.Stepped) (y : views.Stepped) → AreAlong f g.sent steps others → IsAlong f g.sent step y → AreAlong f (g.sent ++ []) (steps ++ step ∷ []) (others ++ y ∷ [])
  along_with f others y a b = one_more_along step y (along_more f g.sent [] steps others a) (one_along_more f g.sent [] step y b)

  glued_with : ((steps2 : List Stepped) (g2 : GrownWorld) → steps2 ≡ steps ++ step ∷ [] → g2 ≡ changed_coord (bare g) n x [] [] [] → Phase plan next count steps2 g2 o.w) → IsAlong First g.sent step (aside_step o.w)
      → IsGlued plan next count (steps ++ step ∷ []) (bare out.world)
  glued_with phase aside =
      subst (IsGlued plan next count (steps ++ step ∷ [])) (sym world)
      (record {
        told = told;
        first_steps = o.first_steps ++ aside_step o.w ∷ [];
        w = o.w;
        first = views.steps_on None (happen.undecided seen_there.Done o.w) o.first refl;
        sent = o.sent ∙ ap (of_file First) (sym (append-nil g.sent));
        along = along_with First o.first_steps (aside_step o.w) o.along aside;
        filed = λ m h. o.filed m (subst (Has m) (append-nil g.sent) h);
        sixteen = o.sixteen;
        all_at = all_at_now;
        servers = o.servers;
        coords = o.coords ∙ sym (length-set g.coords n x);
        phase = phase (steps ++ step ∷ []) (changed_coord (bare g) n x [] [] []) refl refl;
      })

  -- ---- the first one: the second world begins

  pub begins_later : IsFresh (bare g) o.w → ((u : World) → IsAlong First g.sent step (aside_step u)) → ((u : World) → IsAlong Second g.sent step (aside_step u)) → IsGlued plan next count (steps ++ step ∷ []) (bare out.world)
  begins_later f aside_first aside_second =
      glued_with (λ steps2 g2 e2 h2. subst (λ steps2. Phase plan next count steps2 g2 o.w) (sym e2) (subst (λ g2. Phase plan next count (steps ++ step ∷ []) g2 o.w) (sym h2) now_later)) (aside_first o.w)
    where
      v : World
      v = second_begun plan next count o.w

      first_coord : (k : ℕ) (z : GrownCoordState) → slice_get g.coords k ≡ Some z → slice_get o.w.coords k ≡ Some z.core
      first_coord k z at = ap (λ l. slice_get l k) f.coords ∙ (slice_get-map (λ (c : GrownCoordState). c.core) g.coords k ∙ ap (option_map (λ (c : GrownCoordState). c.core)) at)

      drained : AreDrained o.w.coords
      drained k d at = go (from_map (λ (c : GrownCoordState). c.core) g.coords k d (ap (λ l. slice_get l k) (sym f.coords) ∙ at))
        where
          go : (z : GrownCoordState) × (slice_get g.coords k ≡ Some z) × (d ≡ z.core) → d.unanswered ≡ []
          go (z, there, same) = ap (λ (d : CoordState). d.unanswered) same ∙ (rests k z there (f.plain k z there)).0

      second_coord : (k : ℕ) (z : GrownCoordState) → slice_get g.coords k ≡ Some z → slice_get v.coords k ≡ Some (renewed_coord z.core)
      second_coord k z at =
          ap (λ l. slice_get l k) (laws.begun_coords plan (last_plan plan next) (first_beginning plan) count o.first_steps o.w some o.first (last_shards plan next of))
          ∙ (slice_get-map renewed_coord o.w.coords k ∙ ap (option_map renewed_coord) (first_coord k z at))

      servers : (k : ℕ) (s : GrownServerState) → slice_get g.servers k ≡ Some s → (s.switched ≡ true) × (slice_get v.servers k ≡ Some s.core) × (slice_get v.viewing k ≡ Some s.viewing)
      servers k s at =
          let was = f.servers k s at in
          let switched = now k s at in
          let core : s.core ≡ renewed was.state = was.core ∙ ap (λ b. if b then renewed was.state else was.state) switched in
          let reads : s.viewing ≡ renewed_viewing was.viewing = was.reads ∙ ap (λ b. if b then renewed_viewing was.viewing else was.viewing) switched in (
            switched,
            ap (λ l. slice_get l k) (laws.begun_servers plan (last_plan plan next) (first_beginning plan) count o.first_steps o.w some o.first (last_shards plan next of))
                ∙ (slice_get-map renewed o.w.servers k ∙ (ap (option_map renewed) was.there ∙ ap Some (sym core))),
            ap (λ l. slice_get l k) (laws.begun_viewing plan (last_plan plan next) (first_beginning plan) count o.first_steps o.w some o.first (last_shards plan next of))
                ∙ (slice_get-map renewed_viewing o.w.viewing k ∙ (ap (option_map renewed_viewing) was.keeps ∙ ap Some (sym reads))),
          )

      stands : (k : ℕ) (z : GrownCoordState) → slice_get (slice_set g.coords n x) k ≡ Some z → StandsInBoth o.w v k z
      stands k z at = elim (get-set_cases g.coords n k c x z there at) [
        | inl q ↦ subst (λ k. StandsInBoth o.w v k z) q.0 (subst (StandsInBoth o.w v n) (sym q.1) here)
        | inr q ↦
            record {
              state = z.core;
              there = first_coord k z q.1;
              first = λ h. (refl, second_coord k z q.1);
              second = λ h. absurd (false≢true (sym (f.plain k z q.1) ∙ h));
            }
      ]
        where
          here : StandsInBoth o.w v n x
          here =
              record {
                state = c.core;
                there = first_coord n c there;
                first = λ h. absurd (false≢true (sym h));
                second = λ h. (second_coord n c there, (rests n c there unswitched).1);
              }

      now_later : Phase plan next count (steps ++ step ∷ []) (changed_coord (bare g) n x [] [] []) o.w
      now_later =
          later (none_of v steps ++ aside_step v ∷ []) v
          (views.steps_on None (happen.undecided seen_there.Done v)
          (none_run (last_plan plan next) (left_behind plan (first_beginning plan) o.w) count [] v views.at_beginning First g.sent steps o.first_steps o.along refl) refl)
          (record {
            servers = servers;
            coords = stands;
            drained = drained;
            sent = sym (ap (of_file Second) (append-nil g.sent) ∙ f.second);
            history = append-nil g.history ∙ (f.history ∙ sym (append-nil o.w.history));
            order = f.order ∙ sym (append-nil o.w.order);
            looks = append-nil g.looks ∙ (f.looks ∙ sym (append-nil o.w.looks));
          })
          (along_with Second (none_of v steps) (aside_step v) (none_are_along Second First g.sent v f.second steps o.first_steps o.along) (aside_second v))

  -- ---- one more

  pub goes_on_later : (second_steps : List views.Stepped) (v : World) → views.IsRunFrom (last_plan plan next) (left_behind plan (first_beginning plan) o.w) count second_steps v → IsLater (bare g) o.w v
      → AreAlong Second g.sent steps second_steps → ((u : World) → IsAlong First g.sent step (aside_step u)) → ((u : World) → IsAlong Second g.sent step (aside_step u))
      → IsGlued plan next count (steps ++ step ∷ []) (bare out.world)
  goes_on_later second_steps v run l along_second aside_first aside_second =
      glued_with (λ steps2 g2 e2 h2. subst (λ steps2. Phase plan next count steps2 g2 o.w) (sym e2) (subst (λ g2. Phase plan next count (steps ++ step ∷ []) g2 o.w) (sym h2) still_later)) (aside_first o.w)
    where
      here : StandsInBoth o.w v n x
      here =
          let was = l.coords n c there in
          let q = was.first unswitched in
          record {
            state = was.state;
            there = was.there;
            first = λ h. absurd (false≢true (sym h));
            second = λ h. (q.1 ∙ ap (λ (s : CoordState). Some (renewed_coord s)) (sym q.0), (rests n c there unswitched).1 ∙ ap (λ (s : CoordState). Some (next_id s)) q.0);
          }

      still_later : Phase plan next count (steps ++ step ∷ []) (changed_coord (bare g) n x [] [] []) o.w
      still_later =
          later (second_steps ++ aside_step v ∷ []) v (views.steps_on None (happen.undecided seen_there.Done v) run refl)
          (record {
            servers = l.servers;
            coords = λ k z at. elim (get-set_cases g.coords n k c x z there at) [
              | inl q ↦ subst (λ k. StandsInBoth o.w v k z) q.0 (subst (StandsInBoth o.w v n) (sym q.1) here)
              | inr q ↦ l.coords k z q.1
            ];
            drained = l.drained;
            sent = l.sent ∙ ap (of_file Second) (sym (append-nil g.sent));
            history = append-nil g.history ∙ l.history;
            order = l.order;
            looks = append-nil g.looks ∙ l.looks;
          })
          (along_with Second second_steps (aside_step v) along_second (aside_second v))
