-- What a coordinator does in the world is, of transactions alone, a submission of theirs or a step aside
use Rattle.std.proofs.Common.{◌≡◌, ◌∙◌, ◌&&◌, inl, inr, ℕ, ℤ, ◌<◌, ◌==◌, Bool, true, false, not, cond, List, [], ◌∷◌, ◌++◌, Option, Some, None, length, refl, sym, ap, subst, append-nil, arith, ◌≢◌}
use Rattle.std.proofs.lemmas.Bool.Decides.{nat_tests}
use Rattle.std.specs.Prelude.{slice_get, nat_le, nat_lt, if◌then◌else◌}
use Rattle.roc_sequence.specs.Lists.{Has}
use Rattle.roc_sequence.proofs.Members.{has_right, has_more, from_has_map}
use Rattle.roc_base.specs.declared.id.TxnId.{TxnId}
use Rattle.roc_base.specs.declared.node.Node.TheVariants.{Coord}
use Rattle.roc_msg.specs.declared.outbox.Outgoing.{Outgoing}
use Rattle.roc_plan.specs.Groups.{Plan, procedure_of, is_view_of}
use Rattle.roc_coord.specs.declared.handled.SubmitFault.{SubmitFault}
use Rattle.roc_coord.specs.declared.handled.SubmitFault.TheVariants as fault
use Rattle.roc_coord.specs.declared.transaction.Transaction.{Transaction}
use Rattle.roc_coord.specs.Ids.{ids_of, view_ids}
use Rattle.roc_coord.specs.Starts.{start_for, starts_of, ready_groups, with_starts}
use Rattle.roc_coord.specs.State.{CoordState, CoordStep}
use Rattle.roc_coord.specs.Submit.{next_id, new_transaction, accepted, accepted_view, refused, refusal_of, refused_or_accepted, after_submit, most_transactions, most_pending}
use Rattle.roc_readonly.specs.Round.{first_round, reads_of}
use Rattle.roc_readonly.specs.declared.view.View.{View}
use Rattle.roc_audit.specs.declared.entry.Entry.{Entry}
use Rattle.roc_audit.specs.declared.entry.Entry.TheVariants as entry
use Rattle.roc_audit.specs.Woven.{without_views}
use Rattle.roc_law_protocol.specs.Aside.{after_transaction, Asides, gives}
use Rattle.roc_law_protocol.specs.declared.event.Event.{Event}
use Rattle.roc_law_protocol.specs.declared.event.Event.TheVariants.{Submit, Deliver, Stop}
use Rattle.roc_law_protocol.specs.declared.event.Seen.TheVariants as seen
use Rattle.roc_law_protocol.specs.World as transactions
use Rattle.roc_law_protocol.specs.Happens as theirs
use Rattle.roc_law_world.specs.World.{World, at_coord}
use Rattle.roc_law_world.specs.Happens.{Outcome, undecided, IsSubmissionOf, coordinated}
use Rattle.roc_law_world.specs.Beside.{is_of_view, of_transactions, TellsViews, IsBeside}
use Rattle.roc_law_world.proofs.Sent.{envelopes, all_kept, none_kept, AreOfTransactions}
use Rattle.roc_law_world.proofs.TakenAlike.{none_taken}
use Rattle.roc_law_world.proofs.Coordinators.{IsCoordSound, ids_more, sound_more}
use Rattle.roc_law_world.proofs.CoordSteps.{are_reads, IsForViews, is_nothing, is_read, is_ended}
use Rattle.roc_law_world.proofs.Besides.{Holds, Follows, stays, coord_beside, coord_still, coords_set, AreEventsBeside}
use Rattle.roc_base.specs.declared.node.Shard.{Shard}
use Rattle.roc_law_protocol.specs.declared.event.Kept.{Kept}

pub starts_kept : (plan : Plan) (x : Transaction) → AreOfTransactions (starts_of plan x)
starts_kept plan x out h = let q = from_has_map (start_for plan x) out (ready_groups plan x) h in ap (λ (o : Outgoing). is_of_view o.msg) q.2

view_ids_more : (vs : List View) (v : View) → view_ids (vs ++ v ∷ []) ≡ view_ids vs ++ v.id ∷ []
view_ids_more [] v = refl
view_ids_more (u ∷ us) v = ap (λ l. u.id ∷ l) (view_ids_more us v)

module _ (plan : Plan) (is_view : TxnId → Bool) where
  module _ (w : World) (t : transactions.World) (h : Holds plan is_view w t) (n : ℕ) (s : CoordState) (there : slice_get w.coords n ≡ Some s) (e : Option Event) (alone : AreEventsBeside w.sent e None) where
    abbrev own : IsCoordSound is_view s
    own = h.coords n s there

    beside_there : slice_get t.coords n ≡ Some s
    beside_there = subst (λ l. slice_get l n ≡ Some s) (sym h.beside.coords) there

    aside : (what : _) (after : CoordState) (outs some : List Outgoing) (told : List Entry) → Asides plan s after some → IsCoordSound is_view after
        → of_transactions (envelopes (Coord n) outs) ≡ envelopes (Coord n) some → without_views is_view told ≡ [] → Follows plan is_view w t e (undecided what (at_coord w n after outs told))
    aside what after outs some told does sound of none =
        record {
          event = None;
          events = alone;
          outcome = theirs.undecided seen.Done (transactions.at_coord t n after some []);
          moves = inr (record { number = n; before = s; there = beside_there; after = after; sends = some; does = does; is = refl });
          holds = record { beside = coord_beside plan is_view w t h.beside n after outs some told [] of none; coords = coords_set plan is_view w n s after there h.coords sound };
          components = refl;
          decided = refl;
          ran = refl;
          taken = none_taken _ _ refl refl;
        }

    -- an answer of a server to a view
    pub view_message : (r : CoordStep) → IsForViews plan is_view s own r → Follows plan is_view w t e (coordinated w n r)
    view_message r (is_nothing state outs reason given) =
        stays plan is_view w t e alone _ (at_coord w n r.state r.sends (theirs.answer_entries r.answer)) (record {
          beside =
              subst (λ a. IsBeside is_view (at_coord w n r.state r.sends (theirs.answer_entries a)) t) (sym given)
              (subst (λ l. IsBeside is_view (at_coord w n r.state l []) t) (sym outs) (subst (λ c. IsBeside is_view (at_coord w n c [] []) t) (sym state) (coord_still plan is_view w t h.beside n s there)));
          coords = coords_set plan is_view w n s r.state there h.coords (subst (IsCoordSound is_view) (sym state) own);
        })
    view_message r (is_read sound does of given) =
        aside (theirs.coord_seen r.answer) r.state r.sends [] (theirs.answer_entries r.answer) does sound (none_kept (Coord n) r.sends of) (ap (λ a. without_views is_view (theirs.answer_entries a)) given)
    view_message r (is_ended sound does of id reply view given) =
        aside (theirs.coord_seen r.answer) r.state r.sends r.sends (theirs.answer_entries r.answer) does sound (all_kept (Coord n) r.sends of)
        (ap (λ a. without_views is_view (theirs.answer_entries a)) given ∙ ap (λ b. cond (not b) (entry.Answered id reply ∷ []) []) view)

    -- ---- a submission

    module _ (proc : ℕ) (args : List ℤ) (o : Outcome) (tells : TellsViews plan is_view o.world.history) where
      abbrev x : Transaction
      x = new_transaction s proc args

      abbrev v : View
      v = first_round (next_id s) proc args

      told : (entry.Submitted (next_id s) proc args ≡ entry.Submitted (next_id s) proc args) → Has (entry.Submitted (next_id s) proc args) o.world.history → is_view (next_id s) ≡ is_view_of plan proc
      told e k = tells (next_id s) proc args k

      -- nothing speaks against it
      pub record IsFree : Type 0 where
        pub exists : nat_lt proc (length plan.program.procedures) ≡ true
        pub unspent : s.next < most_transactions

      free : refusal_of plan s proc args ≡ None → IsFree
      free e = procedure (nat_lt proc (length plan.program.procedures)) refl e
        where
          unspent : (b : Bool) → nat_le most_transactions s.next ≡ b → (rest : Option SubmitFault) → (if b then Some fault.Spent else rest) ≡ None → s.next < most_transactions
          unspent true f rest g = absurd (cc)
          unspent false f rest g = grind (arith, nat_tests)

          arguments : (b : Bool) → (if not b then Some fault.Args else if nat_le most_transactions s.next then Some fault.Spent else if nat_le most_pending (length s.unanswered) then Some fault.Busy else None) ≡ None → s.next < most_transactions
          arguments true g = unspent (nat_le most_transactions s.next) refl (if nat_le most_pending (length s.unanswered) then Some fault.Busy else None) g
          arguments false g = absurd (cc)

          procedure : (b : Bool) → nat_lt proc (length plan.program.procedures) ≡ b
              → (if not b then Some fault.NoProc else if not (length args == (procedure_of plan proc).arguments) then Some fault.Args else if nat_le most_transactions s.next then Some fault.Spent else if nat_le most_pending (length s.unanswered) then Some fault.Busy else None) ≡ None
              → IsFree
          procedure true f g = record { exists = f; unspent = arguments (length args == (procedure_of plan proc).arguments) g }
          procedure false f g = absurd (cc)

      transaction : refusal_of plan s proc args ≡ None → is_view_of plan proc ≡ false
          → o ≡ undecided (seen.Submitted (next_id s)) (at_coord w n (accepted plan s x).state (accepted plan s x).sends (entry.Submitted (next_id s) proc args ∷ [])) → Follows plan is_view w t e o
      transaction f plain is =
          subst (Follows plan is_view w t e) (sym is) (record {
            event = Some (Submit n proc args);
            events = record { comes = λ k m at of d. absurd (nothing k (alone.comes k m at of d)); stops = λ shard during x. absurd (no_stop shard during x) };
            outcome = theirs.undecided (seen.Submitted (next_id s)) (transactions.at_coord t n (accepted plan s x).state (accepted plan s x).sends (entry.Submitted (next_id s) proc args ∷ []));
            moves = (s, beside_there, subst (λ z. theirs.IsSubmissionOf t n proc args z (theirs.undecided (seen.Submitted (next_id s)) (transactions.at_coord t n (accepted plan s x).state (accepted plan s x).sends (entry.Submitted (next_id s) proc args ∷ [])))) (sym same) refl);
            holds = record {
              beside = coord_beside plan is_view w t h.beside n (accepted plan s x).state (accepted plan s x).sends (accepted plan s x).sends (entry.Submitted (next_id s) proc args ∷ []) (entry.Submitted (next_id s) proc args ∷ [])
                  (all_kept (Coord n) (accepted plan s x).sends (starts_kept plan x)) (ap (λ b. cond (not b) (entry.Submitted (next_id s) proc args ∷ []) []) none);
              coords = coords_set plan is_view w n s (accepted plan s x).state there h.coords
                  (sound_more is_view s own (accepted plan s x).state (next_id s) false none refl refl refl (ids_more s.pending (with_starts plan x)) own.views);
            };
            components = refl;
            decided = refl;
            ran = refl;
            taken = none_taken _ _ refl refl;
          })
        where
          nothing : {k : ℕ} (j : ℕ) → None ≢ Some (Deliver k)
          nothing j x = cc

          no_stop : (shard : Shard) (during : Option (ℕ × Kept)) → Some (Submit n proc args) ≢ Some (Stop shard during)
          no_stop shard during x = cc

          none : is_view (next_id s) ≡ false
          none = told refl (subst (λ (p : Outcome). Has (entry.Submitted (next_id s) proc args) p.world.history) (sym is) (has_right (entry.Submitted (next_id s) proc args) w.history (entry.Submitted (next_id s) proc args ∷ []) (inl refl))) ∙ plain

          same : after_transaction plan s proc args ≡ accepted plan s x
          same =
              ap (λ b. if b then after_submit plan s proc args else refused s fault.NoProc) (ap (λ b. b && not (is_view_of plan proc)) (free f).exists ∙ ap not plain)
              ∙ (ap (refused_or_accepted plan s proc args) f ∙ ap (λ b. if b then accepted_view plan s v else accepted plan s x) plain)

      view : refusal_of plan s proc args ≡ None → is_view_of plan proc ≡ true
          → o ≡ undecided (seen.Submitted (next_id s)) (at_coord w n (accepted_view plan s v).state (accepted_view plan s v).sends (entry.Submitted (next_id s) proc args ∷ [])) → Follows plan is_view w t e o
      view f viewed is =
          subst (Follows plan is_view w t e) (sym is) (aside (seen.Submitted (next_id s)) (accepted_view plan s v).state (reads_of plan v) [] (entry.Submitted (next_id s) proc args ∷ [])
          (gives (record { number = refl; pending = refl; views = λ u k. subst (λ l. Has u l) (view_ids_more s.views v) k }) (free f).unspent refl refl)
          (sound_more is_view s own (accepted_view plan s v).state (next_id s) true some refl refl refl (sym (append-nil (ids_of s.pending))) all)
          (none_kept (Coord n) (reads_of plan v) (are_reads plan v)) (ap (λ b. cond (not b) (entry.Submitted (next_id s) proc args ∷ []) []) some))
        where
          some : is_view (next_id s) ≡ true
          some = told refl (subst (λ (p : Outcome). Has (entry.Submitted (next_id s) proc args) p.world.history) (sym is) (has_right (entry.Submitted (next_id s) proc args) w.history (entry.Submitted (next_id s) proc args ∷ []) (inl refl))) ∙ viewed

          all : (u : View) → Has u (s.views ++ v ∷ []) → is_view u.id ≡ true
          all u k = elim (has_more u v s.views k) [ inl j ↦ own.views u j | inr j ↦ ap (λ (u : View). is_view u.id) j ∙ some ]

      pub submits : IsSubmissionOf w n proc args (after_submit plan s proc args) o → Follows plan is_view w t e o
      submits k = go (refusal_of plan s proc args) refl k
        where
          kinds : refusal_of plan s proc args ≡ None → (b : Bool) → is_view_of plan proc ≡ b → IsSubmissionOf w n proc args (if b then accepted_view plan s v else accepted plan s x) o → Follows plan is_view w t e o
          kinds d true f k = view d f k
          kinds d false f k = transaction d f k

          go : (r : Option SubmitFault) → refusal_of plan s proc args ≡ r → IsSubmissionOf w n proc args (refused_or_accepted plan s proc args r) o → Follows plan is_view w t e o
          go None d k = kinds d (is_view_of plan proc) refl k
          go (Some fault.Spent) d k = subst (Follows plan is_view w t e) (sym k) (stays plan is_view w t e alone seen.Spent w h)
          go (Some fault.Busy) d k = subst (Follows plan is_view w t e) (sym k) (stays plan is_view w t e alone seen.Busy w h)
          go (Some fault.NoProc) d k = absurd k
          go (Some fault.Args) d k = absurd k
          go (Some fault.NoMemory) d k = absurd k
