-- What comes to a server, and a stop of it, keeps the two runs side by side
use Rattle.std.proofs.Common.{◌≡◌, ◌∙◌, ◌⊎◌, inl, inr, ◌<◌, ℕ, suc, ◌-◌, Bool, true, false, List, [], ◌∷◌, ◌++◌, Option, Some, length, map, refl, sym, ap, subst, arith}
use Rattle.std.proofs.lemmas.Bool.{false≢true}
use Rattle.std.proofs.lemmas.Option.{slice_get_within}
use Rattle.std.specs.Prelude.{slice_get, slice_set, if◌then◌else◌}
use Rattle.roc_sequence.proofs.Members.{has_at, has_one}
use Rattle.roc_base.specs.declared.id.TxnId.{TxnId}
use Rattle.roc_base.specs.declared.node.Node.{Node}
use Rattle.roc_msg.specs.declared.msg.Msg.{Msg}
use Rattle.roc_msg.specs.declared.msg.Msg.TheVariants.{Drained}
use Rattle.roc_msg.specs.declared.outbox.Outgoing.{Outgoing}
use Rattle.roc_msg.specs.declared.reason.Reason.TheVariants.{Foreign}
use Rattle.roc_plan.specs.Groups.{Plan}
use Rattle.roc_plan.specs.Accepted.{IsAccepted}
use Rattle.roc_step.specs.Reads.{AnswersReads, ReadStep}
use Rattle.roc_step.specs.State.{ServerStep}
use Rattle.roc_step.specs.Step.{Handles}
use Rattle.roc_law_protocol.specs.World.{sent_by}
use Rattle.roc_law_world.specs.World.{World}
use Rattle.roc_epoch.specs.declared.file.File.{File}
use Rattle.roc_epoch.specs.declared.file.File.TheVariants.{First, Second, Neither}
use Rattle.roc_epoch.specs.declared.next.Next.{Next}
use Rattle.roc_epoch.specs.Files.{is_between, is_file, own_file, own_plan, IsNextOf}
use Rattle.roc_two_files.specs.Sealed.{Sealed, is_of, sealed_by}
use Rattle.roc_two_files.proofs.Networks.{AreBetween}
use Rattle.roc_grown.specs.declared.handled.GrownHandled.{GrownHandled}
use Rattle.roc_grown.specs.declared.handled.GrownHandled.TheVariants.{Skipped, Ignored}
use Rattle.roc_grown.specs.Server.{GrownServerState, GrownStep, GrownHandles, of_drained, of_switched, of_other, of_own, of_core, unchanged, gone_over, switched_to, switched_sends}
use Rattle.roc_growth.specs.declared.event.Event.TheVariants.{Deliver}
use Rattle.roc_growth.specs.declared.event.Seen.TheVariants as seen
use Rattle.roc_growth.specs.World.{GrownWorld, mark_delivered}
use Rattle.roc_growth.specs.Happens.{Outcome, served}
use Rattle.roc_growth.specs.Run.{Stepped, AreCoordsOf}
use Rattle.roc_growth.specs.Told.{HasTold, HasSwitched, IsToldRight}
use Rattle.roc_growth.specs.Epochs.{IsAlong}
use Rattle.roc_growth.proofs.Telling.{changed_server, switched_still}
use Rattle.roc_growth.proofs.Placed.{nowhere, aside_step, aside_along}
use Rattle.roc_growth.proofs.OwnServers.{bare, AreSent, are_sent, none_sent, server_node, IsOwnServer, own_came, own_aside}
use Rattle.roc_growth.proofs.Drains.{kept_more, DrainEnds, foreign, answers, keeps, goes, drain_ends, kept_or_told, many_kept, switched_between}
use Rattle.roc_growth.proofs.Phases.{Laws, IsFresh, IsGlued}
use Rattle.roc_growth.proofs.CoordEvents.{no_other}
use Rattle.roc_growth.proofs.ServerEvents.{own_number, server_by, lost_by, goes_by}

-- what is of neither file is so whoever sends it
pub sealed_alike : (a b : Bool) (from : Node) (outs : List Outgoing) → AreBetween outs → map (sealed_by a from) outs ≡ map (sealed_by b from) outs
sealed_alike a b from [] all = refl
sealed_alike a b from (out ∷ outs) all =
    let e = all out (inl refl) in
    let one : sealed_by a from out ≡ sealed_by b from out =
    ap (λ c. record { file = if c then Neither else own_file a; message = sent_by from out }) e ∙ sym (ap (λ c. record { file = if c then Neither else own_file b; message = sent_by from out }) e) in
    let rest = sealed_alike a b from outs (λ o h. all o (inr h)) in
    λ i. one i ∷ rest i

module _ (laws : Laws) (plan : Plan) (next : Option Next) (accepted : IsAccepted plan) (of : IsNextOf plan next) (some : 0 < plan.program.shards) (count : ℕ) (counted : AreCoordsOf next count)
    (steps : List Stepped) (g : GrownWorld) (o : IsGlued plan next count steps (bare g)) (n : ℕ) (s : GrownServerState) (there : slice_get g.servers n ≡ Some s) where
  abbrev me : Node
  me = server_node n

  told_right : (x : GrownServerState) → (s.switched ≡ true → x.switched ≡ true) → s.switched ≡ true → HasSwitched (slice_set g.servers n x) s.core.shard.0
  told_right x up switched = switched_still g.servers n s x there up s.core.shard.0 (s, subst (λ k. slice_get g.servers k ≡ Some s) (sym (own_number laws plan next accepted of some count counted steps g o n s there)) there, switched)

  -- a message of the network that came to it
  module _ (k : ℕ) (m : Sealed) (at : slice_get g.sent (k - 1) ≡ Some m) where
    between : is_between m.message.msg ≡ true → (f : File) → is_file f Neither ≡ false → is_of f m ≡ false
    between e f apart = no_other f m Neither (o.filed m (has_at g.sent (k - 1) m at) e) apart

    has_told : (upto : TxnId) → m.message.msg ≡ Drained upto → HasTold g.coords upto
    has_told upto msg = (subst (λ msg. IsToldRight g.servers g.coords msg m.message.to) msg (o.told.messages m (has_at g.sent (k - 1) m at))).3

    not_second : IsFresh (bare g) o.w → s.switched ≡ true → m.file ≡ own_file s.switched → ⊥
    not_second f switched same = nowhere Second g.sent f.second (k - 1) m at (ap (is_file Second) (same ∙ ap own_file switched))

  -- ---- a delivery

  module _ (k : ℕ) (m : Sealed) (more : 0 < k) (at : slice_get g.sent (k - 1) ≡ Some m) (to : m.message.to ≡ me) (out : Outcome) where
    abbrev step : Stepped
    step = record { event = Some (Deliver k); outcome = out }

    abbrev Glued : Type 0
    Glued = IsGlued plan next count (steps ++ step ∷ []) (bare out.world)

    aside : (f : File) → (is_of f m ≡ true → out.seen ≡ seen.Skipped) → (u : World) → IsAlong f g.sent step (aside_step u)
    aside f skipped u =
        aside_along f g.sent step u (λ j e. (let i = number j e in let l = slice_get_within g.sent (k - 1) m at in omega (arith, i, l)))
        (λ j z e at2 is. skipped (subst (λ (z : Sealed). is_of f z ≡ true) (same j z e at2) is))
      where
        number : (j : ℕ) → Some (Deliver k) ≡ Some (Deliver (suc j)) → j ≡ k - 1
        number j e = let i : k ≡ suc j = cc in omega (arith, i)

        same : (j : ℕ) (z : Sealed) → Some (Deliver k) ≡ Some (Deliver (suc j)) → slice_get g.sent j ≡ Some z → z ≡ m
        same j z e at2 = let both : Some z ≡ Some m = sym at2 ∙ (ap (slice_get g.sent) (number j e) ∙ at) in cc

    never : (f : File) → is_of f m ≡ false → (u : World) → IsAlong f g.sent step (aside_step u)
    never f apart u = aside f (λ is. absurd (false≢true (sym apart ∙ is))) u

    -- nothing changes but what is told
    told_by : (x : GrownServerState) (all : List Outgoing) → ((f : File) → (own_file s.switched ≡ f) ⊎ (f ≡ First) → (u : World) → IsAlong f g.sent step (aside_step u))
        → AreSent (slice_set g.servers n x) g.coords s.switched me all []
        → bare out.world ≡ changed_server (bare g) n x (map (sealed_by s.switched me) all) g.order → x.core ≡ s.core → x.viewing ≡ s.viewing → x.switched ≡ s.switched → length x.drained ≡ length s.drained
        → ((i : ℕ) (w : TxnId) → slice_get x.drained i ≡ Some (Some w) → (slice_get s.drained i ≡ Some (Some w)) ⊎ ((w.coord ≡ i) × HasTold g.coords w)) → (s.switched ≡ true → x.drained ≡ s.drained) → Glued
    told_by x all along sends world core reads still many drained same =
        server_by laws plan next accepted of some count counted steps g o n s there (Deliver k) out
        (λ p f u i. (x, own_aside plan next p f u i.none g i.sent n s there i.here i.keeps i.plan_is i.file_is (Deliver k) out x all sends world core reads still many drained (along f (inl i.file_is) u)))
        (λ h u. along First (inr refl) u)
        (λ f switched. lost_by laws plan next accepted of some count counted steps g o n s there (Deliver k) out x all sends world core (λ z e. reads ∙ e) (same switched) still (along First (inr refl)) f switched)

    unchanged_by : (a : GrownHandled) → out ≡ served (mark_delivered g k) n (unchanged s a) → ((f : File) → (own_file s.switched ≡ f) ⊎ (f ≡ First) → (u : World) → IsAlong f g.sent step (aside_step u)) → Glued
    unchanged_by a is along =
        told_by s [] along (none_sent (slice_set g.servers n s) g.coords s.switched me) (ap (λ (o : Outcome). bare o.world) is) refl refl refl refl (λ i w h. inl h) (λ h. refl)

    -- of neither file
    asides : is_between m.message.msg ≡ true → (f : File) → (own_file s.switched ≡ f) ⊎ (f ≡ First) → (u : World) → IsAlong f g.sent step (aside_step u)
    asides e f (inl own) u = pick s.switched f own u
      where
        pick : (b : Bool) (f : File) → own_file b ≡ f → (u : World) → IsAlong f g.sent step (aside_step u)
        pick false f own u = subst (λ f. IsAlong f g.sent step (aside_step u)) own (never First (between k m at e First refl) u)
        pick true f own u = subst (λ f. IsAlong f g.sent step (aside_step u)) own (never Second (between k m at e Second refl) u)
    asides e f (inr first) u = subst (λ f. IsAlong f g.sent step (aside_step u)) (sym first) (never First (between k m at e First refl) u)

    drained_by : (upto : TxnId) → m.message.msg ≡ Drained upto → (r : GrownStep) → DrainEnds s upto next r → out ≡ served (mark_delivered g k) n r → Glued
    drained_by upto msg r (foreign e) is = unchanged_by (Ignored Foreign) (is ∙ ap (served (mark_delivered g k) n) e) (asides (ap is_between msg))
    drained_by upto msg r (answers switched e) is =
        told_by s (switched_to s.core.shard upto ∷ []) (asides (ap is_between msg))
        (are_sent (slice_set g.servers n s) g.coords s.switched me [] (switched_to s.core.shard upto ∷ []) (λ o h. absurd h)
        (λ o h. ap (λ (o : Outgoing). is_between o.msg) (has_one o (switched_to s.core.shard upto) h))
        (λ o h. subst (λ (o : Outgoing). IsToldRight (slice_set g.servers n s) g.coords o.msg o.to) (sym (has_one o (switched_to s.core.shard upto) h)) (refl, told_right s (λ h. h) switched, has_told k m at upto msg)))
        (ap (λ (o : Outcome). bare o.world) (is ∙ ap (served (mark_delivered g k) n) e)) refl refl refl refl (λ i w h. inl h) (λ h. refl)
    drained_by upto msg r (keeps unswitched e) is =
        told_by (kept_more s upto) [] (asides (ap is_between msg)) (none_sent (slice_set g.servers n (kept_more s upto)) g.coords s.switched me)
        (ap (λ (o : Outcome). bare o.world) (is ∙ ap (served (mark_delivered g k) n) e)) refl refl refl (many_kept s upto g.coords (has_told k m at upto msg))
        (kept_or_told s upto g.coords (has_told k m at upto msg)) (λ h. absurd (false≢true (sym unswitched ∙ h)))
    drained_by upto msg r (goes nx next_is unswitched all e) is =
        goes_by laws plan next accepted of some count counted steps g o n s there (Deliver k) out nx next_is unswitched upto (has_told k m at upto msg) all (gone_over (kept_more s upto)) refl refl refl refl
        (switched_sends s.core.shard nx.coords (kept_more s upto).drained) (λ o h. h) world (λ f apart u. never f (between k m at (ap is_between msg) f apart) u)
      where
        world : bare out.world ≡ changed_server (bare g) n (gone_over (kept_more s upto)) (map (sealed_by s.switched me) (switched_sends s.core.shard nx.coords (kept_more s upto).drained)) g.order
        world =
            ap (λ (o : Outcome). bare o.world) (is ∙ ap (served (mark_delivered g k) n) e)
            ∙ ap (λ l. changed_server (bare g) n (gone_over (kept_more s upto)) l g.order)
            (sealed_alike true s.switched me (switched_sends s.core.shard nx.coords (kept_more s upto).drained) (switched_between s upto nx.coords))

    own_by : (r : ServerStep) (q : ReadStep) → m.file ≡ own_file s.switched → Handles (own_plan plan next s.switched) s.core m.message.msg r → AnswersReads (own_plan plan next s.switched) s.viewing m.message.msg r q
        → out ≡ served (mark_delivered g k) n (of_core s r q) → Glued
    own_by r q same handles reads is =
        server_by laws plan next accepted of some count counted steps g o n s there (Deliver k) out
        (λ p f u i. (
          record s { core = r.state; viewing = q.viewing },
          subst (λ out. IsOwnServer p f u g n s (Deliver k) out (record s { core = r.state; viewing = q.viewing })) (sym is)
              (own_came plan next p f u i.none g i.sent n s there i.here i.keeps i.plan_is i.file_is k m more at to r q same handles reads),
        ))
        (λ h u. never First (no_other First m Second (same ∙ ap own_file h) refl) u) (λ f h. absurd (not_second k m at f h same))

    pub delivered : (r : GrownStep) → GrownHandles plan next s m.file m.message.msg r → out ≡ served (mark_delivered g k) n r → Glued
    delivered r h is = go m.message.msg refl r h is
      where
        go : (msg : Msg) → m.message.msg ≡ msg → (r : GrownStep) → GrownHandles plan next s m.file msg r → out ≡ served (mark_delivered g k) n r → Glued
        go _ e _ (of_drained upto r ends) is = drained_by upto e r (subst (DrainEnds s upto next) (sym ends) (drain_ends s upto next)) is
        go _ e _ (of_switched upto shard r ends) is = unchanged_by (Ignored Foreign) (is ∙ ap (served (mark_delivered g k) n) ends) (asides (ap is_between e))
        go _ e _ (of_other msg r apart other ends) is =
            unchanged_by Skipped (is ∙ ap (served (mark_delivered g k) n) ends) (λ f h u. aside f (λ h. ap (λ (o : Outcome). o.seen) (is ∙ ap (served (mark_delivered g k) n) ends)) u)
        go _ e _ (of_own msg r q r2 apart same handles reads ends) is =
            own_by r q same (subst (λ msg. Handles (own_plan plan next s.switched) s.core msg r) (sym e) handles) (subst (λ msg. AnswersReads (own_plan plan next s.switched) s.viewing msg r q) (sym e) reads)
            (is ∙ ap (served (mark_delivered g k) n) ends)
