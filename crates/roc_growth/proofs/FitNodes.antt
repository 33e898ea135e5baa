-- A node's step keeps what is named there, and that what it holds is of the plan of its own file
use Rattle.std.proofs.Common.{◌≡◌, ◌∙◌, ℕ, ℤ, ◌<◌, Bool, true, false, ◌||◌, nat_lt, List, [], ◌∷◌, ◌++◌, Option, Some, None, map, take, length, refl, sym, ap, subst, arith}
use Rattle.std.proofs.lemmas.Bool.Decides.{nat_tests}
use Rattle.std.specs.Prelude.{is_none, slice_index_or, slice_set, if◌then◌else◌, IfSome}
use Rattle.std.specs.List.{AllByRecursion, filter_map, range_with_len}
use Rattle.roc_sequence.specs.Lists.{Has}
use Rattle.roc_sequence.proofs.Holds.{all_has, has_all, all_append, all_set}
use Rattle.roc_sequence.proofs.Members.{from_has_map}
use Rattle.roc_sequence.proofs.Ranges.{range_below}
use Rattle.roc_base.specs.declared.id.TxnId.{TxnId}
use Rattle.roc_base.specs.declared.node.Shard.{Shard}
use Rattle.roc_msg.specs.declared.msg.Msg.{Msg}
use Rattle.roc_msg.specs.declared.msg.Msg.TheVariants.{Drained, Switched}
use Rattle.roc_msg.specs.declared.outbox.Outgoing.{Outgoing}
use Rattle.roc_msg.specs.declared.reason.Reason.{Reason}
use Rattle.roc_plan.specs.Groups.{Plan, procedure_of, is_view_of}
use Rattle.roc_readonly.specs.declared.view.View.{View}
use Rattle.roc_readonly.specs.Fits.{IsViewOf}
use Rattle.roc_readonly.specs.Round.{first_round}
use Rattle.roc_coord.specs.declared.transaction.Transaction.{Transaction}
use Rattle.roc_coord.specs.Fits.{IsTransactionOf, CoordFits}
use Rattle.roc_coord.specs.State.{CoordState, CoordStep}
use Rattle.roc_coord.specs.Step.{after_message}
use Rattle.roc_coord.specs.Submit.{next_id, new_transaction, accepted, accepted_view}
use Rattle.roc_coord.specs.Tick.{tick_sends}
use Rattle.roc_law_protocol.specs.Fits.{IsTransactionHere}
use Rattle.roc_law_protocol.proofs.CoordsHere.{IsHeld}
use Rattle.roc_law_protocol.proofs.Stopping.{all_take}
use Rattle.roc_law_world.specs.Fits.{NamesNodes, IsCoordHere}
use Rattle.roc_law_world.proofs.FitCoords as theirs
use Rattle.roc_law_world.proofs.FitCoords.{IsViewHeld, Keeps}
use Rattle.roc_law_world.proofs.FitServers.{server_keeps, reads_keep}
use Rattle.roc_law_world.proofs.OutsHere.{IsOutHere, AreOutsHere, outs_more}
use Rattle.roc_epoch.specs.declared.file.File.{File}
use Rattle.roc_epoch.specs.declared.next.Next.{Next}
use Rattle.roc_epoch.specs.Files.{is_file, own_file, own_plan, IsNextOf}
use Rattle.roc_grown.specs.declared.handled.GrownAnswer.TheVariants.{Skipped}
use Rattle.roc_grown.specs.Server as server
use Rattle.roc_grown.specs.Server.{GrownServerState, GrownStep, GrownHandles, of_drained, of_switched, of_other, of_own, with_drained, have_all_drained, switched_to, switched_sends, after_drained}
use Rattle.roc_grown.specs.Coord as coord
use Rattle.roc_grown.specs.Coord.{GrownCoordState, GrownCoordStep, DrainStep, drained_to, drained_sends, is_drained, is_answer, tell_if_drained, after_drain, after_switched, have_all_switched, after_grown_message, drained_again, grown_tick_sends}
use Rattle.roc_grown.specs.Fits.{GrownServerFits, GrownCoordFits}
use Rattle.roc_growth.specs.Fits.{IsGrownServerHere}
use Rattle.roc_growth.specs.Run.{AreCoordsOf}

pub own_shards : (plan : Plan) (next : Option Next) → IsNextOf plan next → (switched : Bool) → (own_plan plan next switched).program.shards ≡ plan.program.shards
own_shards plan None of switched = refl
own_shards plan (Some next) of false = refl
own_shards plan (Some next) of true = of.1.shards

told_all : (P : TxnId → Type 0) (told : List (Option TxnId)) → AllByRecursion (λ t. IfSome t P) told → AllByRecursion P (filter_map (λ t. t) told)
told_all P [] h = tt
told_all P (None ∷ told) h = told_all P told h.1
told_all P (Some u ∷ told) h = (h.0, told_all P told h.1)

-- ---- a server

module _ (plan : Plan) (next : Option Next) (servers coords : ℕ) (counted : AreCoordsOf next coords) where
  -- what comes of a step of the server of this shard is of its plan, and names only nodes that are there
  pub record KeepsServer (shard : Shard) (g : GrownStep) : Type 0 where
    pub fits : GrownServerFits plan next g.state
    pub here : IsGrownServerHere servers coords g.state
    pub own : g.state.core.shard ≡ shard
    pub sends : AreOutsHere servers coords g.sends

  module _ (s : GrownServerState) (own : s.core.shard.0 < servers) (here : IsGrownServerHere servers coords s) (fits : GrownServerFits plan next s) where
    pub same_keeps : (g : GrownStep) → g.state ≡ s → AreOutsHere servers coords g.sends → KeepsServer s.core.shard g
    same_keeps g same sends =
        record { fits = subst (GrownServerFits plan next) (sym same) fits; here = subst (IsGrownServerHere servers coords) (sym same) here; own = ap (λ (s : GrownServerState). s.core.shard) same; sends = sends }

    told_keeps : (upto : TxnId) → upto.coord < coords → AllByRecursion (λ (told : Option TxnId). IfSome told (λ (u : TxnId). u.coord < coords)) (with_drained upto s.drained)
    told_keeps upto l = go (is_none (slice_index_or s.drained upto.coord None))
      where
        go : (b : Bool) → AllByRecursion (λ (told : Option TxnId). IfSome told (λ (u : TxnId). u.coord < coords)) (if b then slice_set s.drained upto.coord (Some upto) else s.drained)
        go true = all_set (λ (told : Option TxnId). IfSome told (λ (u : TxnId). u.coord < coords)) s.drained upto.coord (Some upto) here.drained l
        go false = here.drained

    switched_here : (told : List TxnId) → AllByRecursion (λ (u : TxnId). u.coord < coords) told → AreOutsHere servers coords (map (switched_to s.core.shard) told)
    switched_here [] h = tt
    switched_here (u ∷ told) h = ((h.0, tt), switched_here told h.1)

    drained_keeps : (nx : Next) → next ≡ Some nx → coords ≡ nx.coords → (upto : TxnId) → KeepsServer s.core.shard (after_drained (Some nx) s upto)
    drained_keeps nx is many upto = known (nat_lt upto.coord nx.coords) refl
      where
        s2 : GrownServerState
        s2 = record s { drained = with_drained upto s.drained }

        all : (told : upto.coord < coords) (b : Bool) → KeepsServer s.core.shard (if b then server.taken_at (server.gone_over s2) (switched_sends s.core.shard nx.coords s2.drained) else server.taken_at s2 [])
        all l true =
            let kept = told_keeps upto l in
            record {
              fits = (tt, tt);
              here = record { core = record { started = tt; known = tt; links = tt; asked = tt; askers = tt }; viewing = record { reads = tt }; drained = kept };
              own = refl;
              sends = switched_here (filter_map (λ t. t) (take nx.coords s2.drained))
                  (told_all (λ u. u.coord < coords) (take nx.coords s2.drained) (all_take (λ (told : Option TxnId). IfSome told (λ (u : TxnId). u.coord < coords)) nx.coords s2.drained kept));
            }
        all l false = record { fits = fits; here = record { core = here.core; viewing = here.viewing; drained = told_keeps upto l }; own = refl; sends = tt }

        told : upto.coord < coords → (b : Bool) → KeepsServer s.core.shard (if b then server.taken_at s (switched_to s.core.shard upto ∷ []) else server.over_if_all nx s2)
        told l true = same_keeps (server.taken_at s (switched_to s.core.shard upto ∷ [])) refl ((l, tt), tt)
        told l false = all l (have_all_drained nx.coords s2.drained)

        known : (b : Bool) → nat_lt upto.coord nx.coords ≡ b → KeepsServer s.core.shard (if b then server.told_drained nx s upto else server.foreign_at s)
        known true e = told (let l : upto.coord < nx.coords = grind (arith, nat_tests) in subst (λ n. upto.coord < n) (sym many) l) s.switched
        known false e = same_keeps (server.foreign_at s) refl tt

    after_drained_keeps : (x : Option Next) → next ≡ x → AreCoordsOf x coords → (upto : TxnId) → KeepsServer s.core.shard (after_drained x s upto)
    after_drained_keeps None is c upto = same_keeps (server.foreign_at s) refl tt
    after_drained_keeps (Some nx) is c upto = drained_keeps nx is c upto

    pub handled_keeps : (file : File) (msg : Msg) (g : GrownStep) → GrownHandles plan next s file msg g → NamesNodes servers coords msg → KeepsServer s.core.shard g
    handled_keeps file _ _ (of_drained upto g is) names = subst (KeepsServer s.core.shard) (sym is) (after_drained_keeps next refl counted upto)
    handled_keeps file _ _ (of_switched upto shard g is) names = subst (KeepsServer s.core.shard) (sym is) (same_keeps (server.foreign_at s) refl tt)
    handled_keeps file _ _ (of_other msg g between other is) names = subst (KeepsServer s.core.shard) (sym is) (same_keeps (server.skip_at s) refl tt)
    handled_keeps file _ _ (of_own msg r q g between same handles answers is) names =
        let p : Plan = own_plan plan next s.switched in
        let k = server_keeps p servers coords s.core own here.core fits.0 msg r handles names in
        let v = reads_keep p servers coords s.core s.viewing msg r q handles answers names fits.1 here.viewing in
        subst (KeepsServer s.core.shard) (sym is)
        (record {
          fits = (k.fits, v.fits);
          here = record { core = k.state; viewing = v.here; drained = here.drained };
          own = k.own;
          sends = all_append (IsOutHere servers coords) r.sends q.sends (outs_more servers coords r.sends k.sends) v.sends;
        })

-- ---- a coordinator

module _ (plan : Plan) (next : Option Next) (of : IsNextOf plan next) (servers coords : ℕ) (some : 0 < plan.program.shards) (shards : servers ≡ plan.program.shards) where
  -- what comes of a coordinator's step is of its plan, and names only nodes that are there
  pub record KeepsCoord (s : GrownCoordState) (outs : List Outgoing) : Type 0 where
    pub fits : GrownCoordFits plan next s
    pub here : IsCoordHere servers coords s.core
    pub sends : AreOutsHere servers coords outs

  pub drained_here : (upto : TxnId) → AreOutsHere servers coords (drained_sends plan upto)
  drained_here upto =
      has_all (IsOutHere servers coords) (drained_sends plan upto) (λ out h.
      (let q = from_has_map (drained_to upto) out (range_with_len 0 plan.program.shards) h in
      let l = all_has (λ n. n < plan.program.shards) q.0 (range_with_len 0 plan.program.shards) (range_below 0 plan.program.shards plan.program.shards (omega arith)) q.1 in
      subst (IsOutHere servers coords) (sym q.2) (subst (λ n. q.0 < n) (sym shards) l, tt)))

  module _ (s : GrownCoordState) (here : IsCoordHere servers coords s.core) (fits : GrownCoordFits plan next s) where
    abbrev own : Plan
    own = own_plan plan next s.switched

    own_some : 0 < own.program.shards
    own_some = subst (λ n. 0 < n) (sym (own_shards plan next of s.switched)) some

    own_same : servers ≡ own.program.shards
    own_same = shards ∙ sym (own_shards plan next of s.switched)

    transaction_held : (x : Transaction) → Has x s.core.pending → IsHeld own servers coords own_some own_same x
    transaction_held x h =
        record {
          here = all_has (IsTransactionHere servers coords) x s.core.pending here.pending h;
          of = all_has (IsTransactionOf own) x s.core.pending fits.0 h;
        }

    view_held : (v : View) → Has v s.core.views → IsViewHeld own servers coords own_some own_same v
    view_held v h =
        record { of = all_has (IsViewOf own) v s.core.views fits.1 h; coord = all_has (λ (v : View). v.id.coord < coords) v s.core.views here.views h }

    abbrev Core : CoordState → List Outgoing → Type 0
    Core after outs = Keeps own servers coords own_some own_same s.core here.number transaction_held view_held after outs

    -- a step of the core
    of_keeps : (after : CoordState) (outs : List Outgoing) → Core after outs → KeepsCoord (record s { core = after }) outs
    of_keeps after outs k =
        record {
          fits = (has_all (IsTransactionOf own) after.pending (λ x h. (k.pending x h).of), has_all (IsViewOf own) after.views (λ v h. (k.views v h).of));
          here = record {
            number = k.number;
            pending = has_all (IsTransactionHere servers coords) after.pending (λ x h. (k.pending x h).here);
            views = has_all (λ (v : View). v.id.coord < coords) after.views (λ v h. (k.views v h).coord);
          };
          sends = k.sends;
        }

    pub unchanged_keeps : KeepsCoord s []
    unchanged_keeps = record { fits = fits; here = here; sends = tt }

    switched_keeps : (upto : TxnId) (shard : Shard) → KeepsCoord (after_switched plan s upto shard).state (after_switched plan s upto shard).sends
    switched_keeps upto shard = go (coord.switched_refusal plan s upto shard)
      where
        s2 : GrownCoordState
        s2 = record s { at = s.at ++ shard ∷ [] }

        over : (b : Bool) → KeepsCoord (if b then coord.gone_over s2 else s2) []
        over true = record { fits = (tt, tt); here = record { number = here.number; pending = tt; views = tt }; sends = tt }
        over false = record { fits = fits; here = here; sends = tt }

        go : (why : Option Reason) → KeepsCoord (coord.unless_refused s why (coord.over_if_all plan s2)).state (coord.unless_refused s why (coord.over_if_all plan s2)).sends
        go (Some why) = unchanged_keeps
        go None = over (have_all_switched plan.program.shards s2.at)

    core_keeps : (r : CoordStep) → Core r.state r.sends → KeepsCoord (coord.of_core plan s r).state (coord.of_core plan s r).sends
    core_keeps r k = go (is_answer r.answer)
      where
        s2 : GrownCoordState
        s2 = record s { core = r.state }

        now : KeepsCoord s2 r.sends
        now = of_keeps r.state r.sends k

        behind : (d : DrainStep) → d.state.core ≡ r.state → d.state.switched ≡ s.switched → AreOutsHere servers coords d.sends → KeepsCoord d.state (r.sends ++ d.sends)
        behind d same still sends =
            record {
              fits = subst (CoordFits (own_plan plan next d.state.switched)) (sym same) (subst (λ b. CoordFits (own_plan plan next b) r.state) (sym still) now.fits);
              here = subst (IsCoordHere servers coords) (sym same) now.here;
              sends = all_append (IsOutHere servers coords) r.sends d.sends now.sends sends;
            }

        telling : Bool → DrainStep
        telling b = if b then record { state = coord.telling s2; sends = drained_sends plan (next_id s2.core) } else record { state = s2; sends = [] }

        told : (b : Bool) → KeepsCoord (telling b).state (r.sends ++ (telling b).sends)
        told true = behind (record { state = coord.telling s2; sends = drained_sends plan (next_id s2.core) }) refl refl (drained_here (next_id s2.core))
        told false = behind (record { state = s2; sends = [] }) refl refl tt

        at_last : Bool → DrainStep
        at_last b = if b then tell_if_drained plan s2 else record { state = s2; sends = [] }

        go : (b : Bool) → KeepsCoord (at_last b).state (r.sends ++ (at_last b).sends)
        go true = told (is_drained s2)
        go false = told false

    abbrev filed : Msg → Bool → GrownCoordStep
    filed msg b = if b then coord.of_core plan s (after_message own s.core msg) else coord.unchanged s Skipped

    filed_keeps : (file : File) (msg : Msg) → NamesNodes servers coords msg → (b : Bool) → KeepsCoord (filed msg b).state (filed msg b).sends
    filed_keeps file msg names true =
        core_keeps (after_message own s.core msg) (theirs.message_keeps own servers coords own_some own_same s.core here.number transaction_held view_held msg names)
    filed_keeps file msg names false = unchanged_keeps

    pub message_keeps : (file : File) (msg : Msg) → NamesNodes servers coords msg → KeepsCoord (after_grown_message plan next s file msg).state (after_grown_message plan next s file msg).sends
    message_keeps file (Drained upto) names = unchanged_keeps
    message_keeps file (Switched upto shard) names = switched_keeps upto shard
    message_keeps file msg names = filed_keeps file msg names (is_file (own_file s.switched) file)

    pub drain_keeps : KeepsCoord (after_drain plan s).state (after_drain plan s).sends
    drain_keeps = go (s.draining || s.switched)
      where
        s2 : GrownCoordState
        s2 = record s { draining = true }

        telling : Bool → DrainStep
        telling b = if b then record { state = coord.telling s2; sends = drained_sends plan (next_id s2.core) } else record { state = s2; sends = [] }

        told : (b : Bool) → KeepsCoord (telling b).state (telling b).sends
        told true = record { fits = fits; here = here; sends = drained_here (next_id s2.core) }
        told false = record { fits = fits; here = here; sends = tt }

        drains : Bool → DrainStep
        drains b = if b then record { state = s; sends = [] } else tell_if_drained plan s2

        go : (b : Bool) → KeepsCoord (drains b).state (drains b).sends
        go true = unchanged_keeps
        go false = told (is_drained s2)

    pub view_keeps : (proc : ℕ) (args : List ℤ) → is_view_of own proc ≡ true → length args ≡ (procedure_of own proc).arguments
        → KeepsCoord (record s { core = (accepted_view own s.core (first_round (next_id s.core) proc args)).state }) (accepted_view own s.core (first_round (next_id s.core) proc args)).sends
    view_keeps proc args viewed counted =
        let r = accepted_view own s.core (first_round (next_id s.core) proc args) in
        of_keeps r.state r.sends (theirs.view_keeps own servers coords own_some own_same s.core here.number transaction_held view_held proc args viewed counted)

    pub submission_keeps : (proc : ℕ) (args : List ℤ) → proc < length own.program.procedures → is_view_of own proc ≡ false → length args ≡ (procedure_of own proc).arguments
        → KeepsCoord (record s { core = (accepted own s.core (new_transaction s.core proc args)).state }) (accepted own s.core (new_transaction s.core proc args)).sends
    submission_keeps proc args there writes counted =
        let r = accepted own s.core (new_transaction s.core proc args) in
        of_keeps r.state r.sends (theirs.submission_keeps own servers coords own_some own_same s.core here.number transaction_held view_held proc args there writes counted)

    pub tick_here : AreOutsHere servers coords (grown_tick_sends plan next s)
    tick_here =
        all_append (IsOutHere servers coords) (tick_sends own s.core) (drained_again plan s)
        (theirs.tick_here own servers coords own_some own_same s.core here.number transaction_held view_held) (go s.draining s.upto)
      where
        go : (b : Bool) (told : Option TxnId) → AreOutsHere servers coords (if b then coord.told_again plan told else [])
        go true None = tt
        go true (Some upto) = drained_here upto
        go false told = tt
