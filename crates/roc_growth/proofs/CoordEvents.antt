-- What happens at a coordinator keeps the two runs side by side
use Rattle.std.proofs.Common.{◌≡◌, ◌≢◌, ◌∙◌, inl, inr, ◌<◌, ◌==◌, ℕ, ℤ, suc, ◌-◌, ◌&&◌, not, nat_lt, Bool, true, false, List, [], ◌∷◌, ◌++◌, Option, Some, None, length, map, refl, sym, ap, subst, arith}
use Rattle.std.proofs.lemmas.Bool.{false≢true}
use Rattle.std.proofs.lemmas.Bool.Decides.{nat_tests}
use Rattle.std.proofs.lemmas.Option.{slice_get_cases, slice_get_within, slice_get-map}
use Rattle.std.specs.Prelude.{slice_get, option_map, if◌then◌else◌}
use Rattle.std.specs.List.{list_any, range_with_len}
use Rattle.roc_sequence.proofs.Holds.{every_has}
use Rattle.roc_sequence.proofs.Members.{has_at}
use Rattle.roc_merge_groups.proofs.Elements.{has_range}
use Rattle.roc_base.specs.declared.id.TxnId.{TxnId}
use Rattle.roc_base.specs.declared.node.Node.{Node}
use Rattle.roc_base.specs.declared.node.Node.TheVariants.{Coord}
use Rattle.roc_base.specs.declared.node.Shard.{Shard}
use Rattle.roc_msg.specs.declared.msg.Msg.{Msg}
use Rattle.roc_msg.specs.declared.msg.Msg.TheVariants.{Drained, Switched}
use Rattle.roc_msg.specs.declared.outbox.Outgoing.{Outgoing}
use Rattle.roc_msg.specs.declared.reason.Reason.{Reason}
use Rattle.roc_msg.specs.declared.reason.Reason.TheVariants.{Foreign, Stale}
use Rattle.roc_plan.specs.Groups.{Plan}
use Rattle.roc_plan.specs.Accepted.{IsAccepted}
use Rattle.roc_coord.specs.Step.{after_message}
use Rattle.roc_law_protocol.specs.World.{sent_by}
use Rattle.roc_law_protocol.specs.declared.event.Event.{Event as TheirEvent}
use Rattle.roc_law_world.specs.World.{World, first_beginning}
use Rattle.roc_law_world.specs.Happens as happen
use Rattle.roc_law_world.specs.Run as views
use Rattle.roc_law_world.specs.Run.{Transition}
use Rattle.roc_law_world.proofs.Numbered.{numbered}
use Rattle.roc_epoch.specs.declared.file.File.{File}
use Rattle.roc_epoch.specs.declared.file.File.TheVariants.{First, Second, Neither}
use Rattle.roc_epoch.specs.declared.next.Next.{Next}
use Rattle.roc_epoch.specs.Files.{is_between, is_file, own_file, own_plan, last_plan, IsNextOf}
use Rattle.roc_two_files.specs.Left.{left_behind}
use Rattle.roc_two_files.specs.Sealed.{Sealed, is_of, of_file}
use Rattle.roc_two_files.proofs.Networks.{AreNoneBetween}
use Rattle.roc_grown.specs.declared.handled.GrownAnswer.{GrownAnswer}
use Rattle.roc_grown.specs.declared.handled.GrownAnswer.TheVariants.{Done, Skipped, Ignored}
use Rattle.roc_grown.specs.Server.{GrownServerState}
use Rattle.roc_grown.specs.Coord.{GrownCoordState, have_all_switched, gone_over, switched_refusal, unless_refused, over_if_all, was_told, unchanged, of_core, after_filed, after_grown_message, after_grown_submit, after_drain, grown_tick_sends}
use Rattle.roc_growth.specs.declared.event.Event.{Event}
use Rattle.roc_growth.specs.declared.event.Event.TheVariants.{Submit, Deliver, Tick, Drain}
use Rattle.roc_growth.specs.declared.event.Seen.TheVariants as seen
use Rattle.roc_growth.specs.World.{GrownWorld, mark_delivered, at_coord, at_coord_tick}
use Rattle.roc_growth.specs.Happens.{Outcome, undecided, coord_seen, coordinated, answer_entries, IsSubmissionOf}
use Rattle.roc_growth.specs.Run.{Stepped}
use Rattle.roc_growth.specs.Told.{HasSwitched, IsToldRight}
use Rattle.roc_growth.specs.Epochs.{IsAlong, AreAlong}
use Rattle.roc_growth.proofs.Telling.{changed_coord}
use Rattle.roc_growth.proofs.Placed.{aside_step, aside_along}
use Rattle.roc_growth.proofs.OwnServers.{bare}
use Rattle.roc_growth.proofs.OwnCoords.{coord_node, IsOwnCoord, own_submitted}
use Rattle.roc_growth.proofs.OwnDeliveries.{own_came, own_unchanged, own_heard, own_ticked, own_drained}
use Rattle.roc_growth.proofs.Phases.{first_plan, second_plan, last_accepted, last_shards, Laws, IsLater, Phase, fresh, later, IsGlued}
use Rattle.roc_growth.proofs.GlueCoords.{fresh_own, later_first, later_second}
use Rattle.roc_growth.proofs.GoesOver.{begins_later, goes_on_later}

pub the_file : (a b : File) → is_file a b ≡ true → b ≡ a
the_file First First e = refl
the_file First Second e = absurd (false≢true e)
the_file First Neither e = absurd (false≢true e)
the_file Second First e = absurd (false≢true e)
the_file Second Second e = refl
the_file Second Neither e = absurd (false≢true e)
the_file Neither First e = absurd (false≢true e)
the_file Neither Second e = absurd (false≢true e)
the_file Neither Neither e = refl

-- a message of one file is of no other
pub no_other : (f : File) (m : Sealed) (h : File) → m.file ≡ h → is_file f h ≡ false → is_of f m ≡ false
no_other f m h e n = ap (is_file f) e ∙ n

module _ (laws : Laws) (plan : Plan) (next : Option Next) (accepted : IsAccepted plan) (of : IsNextOf plan next) (some : 0 < plan.program.shards) (count : ℕ) (steps : List Stepped) (g : GrownWorld)
    (o : IsGlued plan next count steps (bare g)) where
  pub many_servers : length g.servers ≡ plan.program.shards
  many_servers = sym o.servers ∙ (laws.fits plan (first_beginning plan) count o.first_steps o.w some o.first).shards

  -- some server is there
  some_server : (s : GrownServerState) × (slice_get g.servers 0 ≡ Some s)
  some_server = elim (slice_get_cases g.servers 0).1 [
    | inl c ↦ (c.0, c.2)
    | inr c ↦ (let past = c.0 in let l = subst (λ n. 0 < n) (sym many_servers) some in absurd (omega (arith, past, l)))
  ]

  -- what is known of the world of a node's own file
  pub record IsOwnWorld (p : Plan) (f : File) (u : World) (n : ℕ) (c : GrownCoordState) : Type 0 where
    pub none : (e : Option TheirEvent) (o : happen.Outcome) → Transition p u e o → (from : Node) (outs : List Outgoing) → o.world.sent ≡ u.sent ++ map (sent_by from) outs → AreNoneBetween outs
    pub sent : u.sent ≡ of_file f g.sent
    pub here : slice_get u.coords n ≡ Some c.core
    pub number : c.core.number ≡ n
    pub rest : c.core.unanswered ≡ [] → (c.core.pending ≡ []) × (c.core.views ≡ [])
    pub plan_is : own_plan plan next c.switched ≡ p
    pub file_is : own_file c.switched ≡ f

  module _ (n : ℕ) (c : GrownCoordState) (there : slice_get g.coords n ≡ Some c) where
    first_world : c.switched ≡ false → slice_get o.w.coords n ≡ Some c.core → IsOwnWorld plan First o.w n c
    first_world unswitched here =
        record {
          none = laws.nothing_between plan (first_beginning plan) count o.first_steps o.w accepted (laws.begins plan) o.first;
          sent = o.sent;
          here = here;
          number = (numbered plan (first_beginning plan) count o.first_steps o.w o.first).numbers n c.core here;
          rest = laws.keep_nothing plan (first_beginning plan) count o.first_steps o.w o.first n c.core here;
          plan_is = first_plan plan next c.switched unswitched;
          file_is = ap own_file unswitched;
        }

    second_world : c.switched ≡ true → (second_steps : List views.Stepped) (v : World) → views.IsRunFrom (last_plan plan next) (left_behind plan (first_beginning plan) o.w) count second_steps v
        → IsLater (bare g) o.w v → slice_get v.coords n ≡ Some c.core → IsOwnWorld (last_plan plan next) Second v n c
    second_world switched second_steps v run l here =
        record {
          none = laws.nothing_between (last_plan plan next) (left_behind plan (first_beginning plan) o.w) count second_steps v (last_accepted plan next accepted of)
              (laws.begins_behind plan (last_plan plan next) (first_beginning plan) count o.first_steps o.w accepted (laws.begins plan) o.first l.drained (last_shards plan next of)) run;
          sent = l.sent;
          here = here;
          number = (numbered (last_plan plan next) (left_behind plan (first_beginning plan) o.w) count second_steps v run).numbers n c.core here;
          rest = laws.keep_nothing (last_plan plan next) (left_behind plan (first_beginning plan) o.w) count second_steps v run n c.core here;
          plan_is = second_plan plan next c.switched switched;
          file_is = ap own_file switched;
        }

    -- a step in the world of its own file
    pub coord_by : (e : Event) (out : Outcome) → ((p : Plan) (f : File) (u : World) → IsOwnWorld p f u n c → (x : GrownCoordState) × IsOwnCoord p f u g n c e out x)
        → (c.switched ≡ true → (u : World) → IsAlong First g.sent (record { event = Some e; outcome = out }) (aside_step u))
        → (c.switched ≡ false → (u : World) → IsAlong Second g.sent (record { event = Some e; outcome = out }) (aside_step u))
        → IsGlued plan next count (steps ++ (record { event = Some e; outcome = out }) ∷ []) (bare out.world)
    coord_by e out own aside_first aside_second = go o.phase
      where
        late : (second_steps : List views.Stepped) (v : World) → views.IsRunFrom (last_plan plan next) (left_behind plan (first_beginning plan) o.w) count second_steps v → IsLater (bare g) o.w v
            → AreAlong Second g.sent steps second_steps → (b : Bool) → c.switched ≡ b → IsGlued plan next count (steps ++ (record { event = Some e; outcome = out }) ∷ []) (bare out.world)
        late second_steps v run l along false unswitched =
            let was = l.coords n c there in
            let first = own plan First o.w (first_world unswitched (was.there ∙ ap Some (sym (was.first unswitched).0))) in
            let s = some_server in
            let told = o.told.by_server 0 (s.0, s.1, (l.servers 0 s.0 s.1).0) n c there in
            later_first plan next count steps g o n c there e out second_steps v run l along unswitched told.0 told.1 first.0 first.1 (aside_second unswitched v)
        late second_steps v run l along true switched =
            let second = own (last_plan plan next) Second v (second_world switched second_steps v run l ((l.coords n c there).second switched).0) in
            later_second plan next count steps g o n c there e out second_steps v run l along switched second.0 second.1 (aside_first switched o.w)

        go : Phase plan next count steps (bare g) o.w → IsGlued plan next count (steps ++ (record { event = Some e; outcome = out }) ∷ []) (bare out.world)
        go (fresh f) =
            let unswitched = f.plain n c there in
            let here : slice_get o.w.coords n ≡ Some c.core = ap (λ l. slice_get l n) f.coords ∙ (slice_get-map (λ (c : GrownCoordState). c.core) g.coords n ∙ ap (option_map (λ (c : GrownCoordState). c.core)) there) in
            let first = own plan First o.w (first_world unswitched here) in
            fresh_own plan next count steps g o n c there e out f first.0 first.1
        go (later second_steps v run l along) = late second_steps v run l along c.switched refl

    no_delivery : (f : File) (e : Event) (out : Outcome) → ((k : ℕ) → Some e ≢ Some (Deliver (suc k))) → (u : World) → IsAlong f g.sent (record { event = Some e; outcome = out }) (aside_step u)
    no_delivery f e out none u = aside_along f g.sent (record { event = Some e; outcome = out }) u (λ k h. absurd (none k h)) (λ k m h. absurd (none k h))

    -- ---- a submission, a tick, a drain

    pub submitted : (proc : ℕ) (args : List ℤ) (out : Outcome) → IsSubmissionOf g n proc args (after_grown_submit plan next c proc args) out
        → IsGlued plan next count (steps ++ (record { event = Some (Submit n proc args); outcome = out }) ∷ []) (bare out.world)
    submitted proc args out h =
        coord_by (Submit n proc args) out (λ p f u i. own_submitted plan next p f u i.none g i.sent many_servers o.told n c there i.here i.number i.rest i.plan_is i.file_is proc args out h)
        (λ s u. no_delivery First (Submit n proc args) out (λ k e. absurd (cc)) u) (λ s u. no_delivery Second (Submit n proc args) out (λ k e. absurd (cc)) u)

    pub ticked : (out : Outcome) → out ≡ undecided seen.Done (at_coord_tick g n c (grown_tick_sends plan next c))
        → IsGlued plan next count (steps ++ (record { event = Some (Tick (Coord n)); outcome = out }) ∷ []) (bare out.world)
    ticked out is =
        coord_by (Tick (Coord n)) out
        (λ p f u i. (c, subst (λ out. IsOwnCoord p f u g n c (Tick (Coord n)) out c) (sym is) (own_ticked plan next p f u i.none g i.sent many_servers o.told n c there i.here i.number i.rest i.plan_is i.file_is)))
        (λ s u. no_delivery First (Tick (Coord n)) out (λ k e. absurd (cc)) u) (λ s u. no_delivery Second (Tick (Coord n)) out (λ k e. absurd (cc)) u)

    pub drained : (out : Outcome) → out ≡ undecided seen.Done (at_coord g n (after_drain plan c).state (after_drain plan c).sends [])
        → IsGlued plan next count (steps ++ (record { event = Some (Drain n); outcome = out }) ∷ []) (bare out.world)
    drained out is =
        coord_by (Drain n) out
        (λ p f u i. subst (λ out. (x : GrownCoordState) × IsOwnCoord p f u g n c (Drain n) out x) (sym is) (own_drained plan next p f u i.none g i.sent many_servers o.told n c there i.here i.number i.rest i.plan_is i.file_is))
        (λ s u. no_delivery First (Drain n) out (λ k e. absurd (cc)) u) (λ s u. no_delivery Second (Drain n) out (λ k e. absurd (cc)) u)

    -- ---- a message comes

    module _ (k : ℕ) (m : Sealed) (more : 0 < k) (at : slice_get g.sent (k - 1) ≡ Some m) (to : m.message.to ≡ coord_node n) (out : Outcome) where
      abbrev Glued : Type 0
      Glued = IsGlued plan next count (steps ++ (record { event = Some (Deliver k); outcome = out }) ∷ []) (bare out.world)

      -- where it is of a file, it was skipped
      aside : (f : File) → (is_of f m ≡ true → out.seen ≡ seen.Skipped) → (u : World) → IsAlong f g.sent (record { event = Some (Deliver k); outcome = out }) (aside_step u)
      aside f skipped u =
          aside_along f g.sent (record { event = Some (Deliver k); outcome = out }) u (λ j e. (let i = number j e in let l = slice_get_within g.sent (k - 1) m at in omega (arith, i, l)))
          (λ j z e at2 is. skipped (subst (λ (z : Sealed). is_of f z ≡ true) (same j z e at2) is))
        where
          number : (j : ℕ) → Some (Deliver k) ≡ Some (Deliver (suc j)) → j ≡ k - 1
          number j e = let i : k ≡ suc j = cc in omega (arith, i)

          same : (j : ℕ) (z : Sealed) → Some (Deliver k) ≡ Some (Deliver (suc j)) → slice_get g.sent j ≡ Some z → z ≡ m
          same j z e at2 = let both : Some z ≡ Some m = sym at2 ∙ (ap (slice_get g.sent) (number j e) ∙ at) in cc

      never : (f : File) → is_of f m ≡ false → (u : World) → IsAlong f g.sent (record { event = Some (Deliver k); outcome = out }) (aside_step u)
      never f apart u = aside f (λ is. absurd (false≢true (sym apart ∙ is))) u

      -- one that changes nothing
      unchanged_by : (a : GrownAnswer) → answer_entries a ≡ [] → out ≡ coordinated (mark_delivered g k) n (unchanged c a) → (is_of First m ≡ true → coord_seen a ≡ seen.Skipped)
          → (is_of Second m ≡ true → coord_seen a ≡ seen.Skipped) → Glued
      unchanged_by a none is first second =
          coord_by (Deliver k) out
          (λ p f u i. (
            c,
            subst (λ out. IsOwnCoord p f u g n c (Deliver k) out c) (sym is)
                (own_unchanged plan next p f u i.none g i.sent many_servers o.told n c there i.here i.number i.rest i.plan_is i.file_is k m more at to a none (pick c.switched f i.file_is)),
          ))
          (λ s u. aside First (λ h. ap (λ (o : Outcome). o.seen) is ∙ first h) u) (λ s u. aside Second (λ h. ap (λ (o : Outcome). o.seen) is ∙ second h) u)
        where
          pick : (b : Bool) (f : File) → own_file b ≡ f → is_of f m ≡ true → coord_seen a ≡ seen.Skipped
          pick false f e h = first (subst (λ f. is_of f m ≡ true) (sym e) h)
          pick true f e h = second (subst (λ f. is_of f m ≡ true) (sym e) h)

      -- of neither file
      between : is_between m.message.msg ≡ true → (f : File) → is_file f Neither ≡ false → is_of f m ≡ false
      between e f apart = no_other f m Neither (o.filed m (has_at g.sent (k - 1) m at) e) apart

      ignored_by : is_between m.message.msg ≡ true → (why : Reason) → out ≡ coordinated (mark_delivered g k) n (unchanged c (Ignored why)) → Glued
      ignored_by e why is =
          unchanged_by (Ignored why) refl is (λ h. absurd (false≢true (sym (between e First refl) ∙ h))) (λ h. absurd (false≢true (sym (between e Second refl) ∙ h)))

      -- one of its own file
      own_by : m.file ≡ own_file c.switched → out ≡ coordinated (mark_delivered g k) n (of_core plan c (after_message (own_plan plan next c.switched) c.core m.message.msg)) → Glued
      own_by same is =
          coord_by (Deliver k) out
          (λ p f u i. subst (λ out. (x : GrownCoordState) × IsOwnCoord p f u g n c (Deliver k) out x) (sym is)
          (own_came plan next p f u i.none g i.sent many_servers o.told n c there i.here i.number i.rest i.plan_is i.file_is k m more at to same))
          (λ s u. never First (no_other First m Second (same ∙ ap own_file s) refl) u) (λ s u. never Second (no_other Second m First (same ∙ ap own_file s) refl) u)

      -- a switched
      switched_by : (upto : TxnId) (shard : Shard) → m.message.msg ≡ Switched upto shard → out ≡ coordinated (mark_delivered g k) n (after_grown_message plan next c m.file (Switched upto shard)) → Glued
      switched_by upto shard msg is = refused (switched_refusal plan c upto shard) refl is
        where
          told_between : is_between m.message.msg ≡ true
          told_between = ap is_between msg

          has : HasSwitched g.servers shard.0
          has = (subst (λ msg. IsToldRight g.servers g.coords msg m.message.to) msg (o.told.messages m (has_at g.sent (k - 1) m at))).1

          c2 : GrownCoordState
          c2 = record c { at = c.at ++ shard ∷ [] }

          asides : (f : File) → is_file f Neither ≡ false → (u : World) → IsAlong f g.sent (record { event = Some (Deliver k); outcome = out }) (aside_step u)
          asides f apart u = never f (between told_between f apart) u

          -- one that has switched has heard of each
          listed : switched_refusal plan c upto shard ≡ None → c.switched ≡ true → ⊥
          listed none switched = judged (nat_lt shard.0 plan.program.shards) refl none
            where
              inside : nat_lt shard.0 plan.program.shards ≡ true → list_any (λ (told : Shard). told.0 == shard.0) c.at ≡ true
              inside e =
                  every_has (λ shard. list_any (λ (told : Shard). told.0 == shard) c.at) (range_with_len 0 plan.program.shards) (o.all_at n c there switched) shard.0
                  (has_range 0 plan.program.shards shard.0 (omega arith) (let l : shard.0 < plan.program.shards = grind (arith, nat_tests) in omega (arith, l)))

              stale : (b d : Bool) → d ≡ true → ◌≡◌ {A = Option Reason} (if not b then Some Foreign else if d then Some Stale else None) None → ⊥
              stale false d e h = absurd (cc)
              stale true false e h = absurd (false≢true e)
              stale true true e h = absurd (cc)

              judged : (b : Bool) → nat_lt shard.0 plan.program.shards ≡ b
                  → ◌≡◌ {A = Option Reason} (if not (b && was_told upto c.upto) then Some Foreign else if list_any (λ (told : Shard). told.0 == shard.0) c.at then Some Stale else None) None → ⊥
              judged false e h = absurd (cc)
              judged true e h = stale (was_told upto c.upto) (list_any (λ (told : Shard). told.0 == shard.0) c.at) (inside e) h

          over : (b : Bool) → have_all_switched plan.program.shards c2.at ≡ b → c.switched ≡ false → out ≡ coordinated (mark_delivered g k) n (record { answer = Done; state = if b then gone_over c2 else c2; sends = [] }) → Glued
          over true all unswitched is2 = go o.phase
            where
              world : bare out.world ≡ changed_coord (bare g) n (gone_over c2) [] [] []
              world = ap (λ (o : Outcome). bare o.world) is2

              go : Phase plan next count steps (bare g) o.w → Glued
              go (fresh f) = begins_later laws plan next of some count steps g o n c there unswitched shard has many_servers all (Deliver k) out world f (asides First refl) (asides Second refl)
              go (later second_steps v run l along) =
                  goes_on_later laws plan next of some count steps g o n c there unswitched shard has many_servers all (Deliver k) out world second_steps v run l along (asides First refl) (asides Second refl)
          over false all unswitched is2 =
              coord_by (Deliver k) out
              (λ p f u i. (
                c2,
                subst (λ out. IsOwnCoord p f u g n c (Deliver k) out c2) (sym is2)
                    (own_heard plan next p f u i.none g i.sent many_servers o.told n c there i.here i.number i.rest i.plan_is i.file_is k m more at to shard has unswitched (pick c.switched f i.file_is)),
              ))
              (λ s u. asides First refl u) (λ s u. asides Second refl u)
            where
              pick : (b : Bool) (f : File) → own_file b ≡ f → is_of f m ≡ false
              pick false f e = subst (λ f. is_of f m ≡ false) e (between told_between First refl)
              pick true f e = subst (λ f. is_of f m ≡ false) e (between told_between Second refl)

          taken : (b : Bool) → c.switched ≡ b → switched_refusal plan c upto shard ≡ None → out ≡ coordinated (mark_delivered g k) n (unchanged (over_if_all plan c2) Done) → Glued
          taken true switched none is2 = absurd (listed none switched)
          taken false unswitched none is2 = over (have_all_switched plan.program.shards c2.at) refl unswitched is2

          refused : (why : Option Reason) → switched_refusal plan c upto shard ≡ why → out ≡ coordinated (mark_delivered g k) n (unless_refused c why (over_if_all plan c2)) → Glued
          refused (Some why) e is2 = ignored_by told_between why is2
          refused None e is2 = taken c.switched refl e is2

      pub delivered : out ≡ coordinated (mark_delivered g k) n (after_grown_message plan next c m.file m.message.msg) → Glued
      delivered is = go m.message.msg refl is
        where
          filed : (b : Bool) → is_file (own_file c.switched) m.file ≡ b
              → out ≡ coordinated (mark_delivered g k) n (if b then of_core plan c (after_message (own_plan plan next c.switched) c.core m.message.msg) else unchanged c Skipped) → Glued
          filed true e is2 = own_by (the_file (own_file c.switched) m.file e) is2
          filed false e is2 = unchanged_by Skipped refl is2 (λ h. refl) (λ h. refl)

          other : (msg : Msg) → m.message.msg ≡ msg → out ≡ coordinated (mark_delivered g k) n (after_filed plan next c m.file msg) → Glued
          other msg e is2 = filed (is_file (own_file c.switched) m.file) refl (is2 ∙ ap (λ msg. coordinated (mark_delivered g k) n (after_filed plan next c m.file msg)) (sym e))

          go : (msg : Msg) → m.message.msg ≡ msg → out ≡ coordinated (mark_delivered g k) n (after_grown_message plan next c m.file msg) → Glued
          go (Drained upto) e is2 = ignored_by (ap is_between e) Foreign is2
          go (Switched upto shard) e is2 = switched_by upto shard e is2
          go msg e is2 = other msg e is2
