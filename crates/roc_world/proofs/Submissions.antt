-- What a submission leaves in the fields of a world is what the definitions say
use Rattle.std.proofs.Common.{◌≡◌, ℕ, ℤ, Bool, true, false, List, [], ◌∷◌, ◌++◌, Option, Some, None, Result, Ok, Err, length, slice_set, if◌then◌else◌, refl, sym, ap, subst, ◌∙◌}
use Rattle.roc_sequence.proofs.Members.{same_there}
use Rattle.roc_base.specs.declared.id.TxnId.{TxnId}
use Rattle.roc_base.specs.declared.node.Node.TheVariants.{Coord}
use Rattle.roc_msg.specs.declared.outbox.Outgoing.{Outgoing}
use Rattle.roc_msg.specs.Outbox.{Collected}
use Rattle.roc_plan.specs.Groups.{Plan, is_view_of}
use Rattle.roc_readonly.specs.Round.{first_round}
use Rattle.roc_coord.specs.declared.handled.SubmitFault.{SubmitFault}
use Rattle.roc_coord.specs.declared.handled.SubmitFault.TheVariants as fault
use Rattle.roc_coord.specs.State.{CoordState}
use Rattle.roc_coord.specs.Submit as submit
use Rattle.roc_coord.specs.Submit.{Submission, refusal_of, refused_or_accepted, after_submit}
use Rattle.roc_audit.specs.declared.entry.Entry.TheVariants as entry
use Rattle.roc_law_world.specs.World.{looks_in}
use Rattle.roc_epoch.specs.declared.next.Next.{Next}
use Rattle.roc_epoch.specs.Files.{last_plan, own_plan, IsNextOf}
use Rattle.roc_grown.specs.declared.handled.GrownFault.{GrownFault}
use Rattle.roc_grown.specs.declared.handled.GrownFault.TheVariants as grown
use Rattle.roc_grown.specs.Coord.{GrownCoordState, GrownSubmission, after_grown_submit, answered_so, submitted_to_core, wants_memory}
use Rattle.roc_growth.specs.declared.event.Event.{Event}
use Rattle.roc_growth.specs.declared.event.Event.TheVariants.{Submit}
use Rattle.roc_growth.specs.declared.event.Seen.{Seen}
use Rattle.roc_growth.specs.declared.event.Seen.TheVariants as seen
use Rattle.roc_growth.specs.World.{GrownWorld, sends, at_coord}
use Rattle.roc_growth.specs.Happens.{Outcome, undecided, IsCallOf, Submits, IsSubmissionOf, Happens}
use Rattle.roc_growth.specs.Run.{IsEventOf}
use Rattle.roc_growth.specs.Fits.{FitsGrown}
use Rattle.roc_world.specs.Inner.Nodes.{CoordSubmits}
use Rattle.roc_world.specs.Inner.Parts.{Leads}
use Rattle.roc_law_protocol.proofs.Stops.{set_there}

-- a submission that is refused leaves a coordinator of one file as it was
core_keeps : (plan : Plan) (s : CoordState) (proc : ℕ) (args : List ℤ) (why : GrownFault) → Err why ≡ answered_so (after_submit plan s proc args).answer → (after_submit plan s proc args).state ≡ s
core_keeps plan s proc args why = go (refusal_of plan s proc args)
  where
    go : (o : Option SubmitFault) → Err why ≡ answered_so (refused_or_accepted plan s proc args o).answer → (refused_or_accepted plan s proc args o).state ≡ s
    go (Some f) e = refl
    go None e = absurd (accepts (is_view_of plan proc) e)
      where
        accepts : (b : Bool) → Err why ≡ answered_so (if b then submit.accepted_view plan s (first_round (submit.next_id s) proc args) else submit.accepted plan s (submit.new_transaction s proc args)).answer → ⊥
        accepts true e = cc
        accepts false e = cc

-- and so it does one that may go over
refused_keeps :
    (plan : Plan) (next : Option Next) (s : GrownCoordState) (proc : ℕ) (args : List ℤ) (why : GrownFault) → Err why ≡ (after_grown_submit plan next s proc args).answer
    → (after_grown_submit plan next s proc args).state ≡ s
refused_keeps plan next s proc args why = go s.draining
  where
    core : Submission
    core = after_submit (own_plan plan next s.switched) s.core proc args

    made : Bool → GrownSubmission
    made draining = if draining then record { answer = Err grown.Draining; state = s; sends = [] } else submitted_to_core s core

    go : (b : Bool) → Err why ≡ (made b).answer → (made b).state ≡ s
    go true e = refl
    go false e = ap (λ (c : CoordState). record s { core = c }) (core_keeps (own_plan plan next s.switched) s.core proc args why e)

module _ (plan : Plan) (next : Option Next) (w : GrownWorld) (number proc : ℕ) (args : List ℤ) (coords : List GrownCoordState) (before out : Collected) where
  abbrev pub Submitting : List ℤ → Result (TxnId × Bool) GrownFault → Type 0
  Submitting given taken = CoordSubmits plan next number proc given taken w.coords coords before out

  module _ (call : IsCallOf (last_plan plan next) proc args) where
    pub accepted :
        (id : TxnId) (switched : Bool) (what : Seen) (after : GrownWorld) → before.messages ≡ [] → Submitting args (Ok (id, switched)) → what ≡ seen.Submitted id
        → after
        ≡ record (sends (record w { coords = coords }) switched (Coord number) out.messages) {
          history = w.history ++ entry.Submitted id proc args ∷ [];
          looks = w.looks ++ looks_in (length w.order) out.messages;
        }
        → Leads plan next w (Submit number proc args) what after
    accepted id switched what after none s sees after_is =
        let r = after_grown_submit plan next s.coord proc args in
        let outs : out.messages ≡ r.sends = s.submitted.sent.0 ∙ ap (λ xs. xs ++ r.sends) none in
        let stands : switched ≡ r.state.switched = s.stands in
        let others = s.others in
        let told = w.history ++ entry.Submitted id proc args ∷ [] in
        let world_is : after ≡ at_coord w number r.state r.sends (entry.Submitted id proc args ∷ []) =
        after_is
        ∙ (λ i. record (sends (record w { coords = others i }) (stands i) (Coord number) (outs i)) { history = told; looks = w.looks ++ looks_in (length w.order) (outs i) }) in
        let o : Outcome = record { seen = what; components = []; decided = []; ran = []; world = after } in
        let is : o ≡ undecided (seen.Submitted id) (at_coord w number r.state r.sends (entry.Submitted id proc args ∷ [])) =
        λ i. record { seen = sees i; components = []; decided = []; ran = []; world = world_is i } in
        ([], [], [], (call, s.coord, s.there, subst (λ answer. Submits w number proc args r.state r.sends answer o) s.submitted.answer is))

    -- a refused submission changes nothing
    refused : (why : GrownFault) (what : Seen) → ((after : GrownCoordState) (outs : List Outgoing) (o : Outcome) → o ≡ undecided what w → Submits w number proc args after outs (Err why) o) → Submitting args (Err why)
        → Leads plan next w (Submit number proc args) what (record w { coords = coords })
    refused why what says s =
        let r = after_grown_submit plan next s.coord proc args in
        let same : coords ≡ w.coords = s.others ∙ (ap (slice_set w.coords number) (refused_keeps plan next s.coord proc args why s.submitted.answer) ∙ set_there w.coords number s.coord s.there) in
        let o : Outcome = record { seen = what; components = []; decided = []; ran = []; world = record w { coords = coords } } in
        let is : o ≡ undecided what w = λ i. record { seen = what; components = []; decided = []; ran = []; world = record w { coords = same i } } in
        ([], [], [], (call, s.coord, s.there, subst (λ answer. Submits w number proc args r.state r.sends answer o) s.submitted.answer (says r.state r.sends o is)))

    -- the same of arguments that are these
    module _ (given : List ℤ) (same : given ≡ args) (why : GrownFault) (submits : wants_memory (Err why) ≡ false → Submitting given (Err why)) where
      told : (known : GrownFault) → wants_memory (Err known) ≡ false → why ≡ known → Submitting args (Err known)
      told known fails is =
          subst (λ (a : List ℤ). Submitting a (Err known)) same
          (subst (λ (f : GrownFault). wants_memory (Err f) ≡ false → Submitting given (Err f)) is submits fails)

      pub draining_happens : why ≡ grown.Draining → Leads plan next w (Submit number proc args) seen.Draining (record w { coords = coords })
      draining_happens is = refused grown.Draining seen.Draining (λ after outs o e. e) (told grown.Draining refl is)

      pub no_proc_happens : why ≡ grown.Plain fault.NoProc → Leads plan next w (Submit number proc args) seen.NoProc (record w { coords = coords })
      no_proc_happens is = refused (grown.Plain fault.NoProc) seen.NoProc (λ after outs o e. e) (told (grown.Plain fault.NoProc) refl is)

      pub spent_happens : why ≡ grown.Plain fault.Spent → Leads plan next w (Submit number proc args) seen.Spent (record w { coords = coords })
      spent_happens is = refused (grown.Plain fault.Spent) seen.Spent (λ after outs o e. e) (told (grown.Plain fault.Spent) refl is)

      pub busy_happens : why ≡ grown.Plain fault.Busy → Leads plan next w (Submit number proc args) seen.Busy (record w { coords = coords })
      busy_happens is = refused (grown.Plain fault.Busy) seen.Busy (λ after outs o e. e) (told (grown.Plain fault.Busy) refl is)

      -- what may happen has an outcome, and this has none
      pub args_are_right :
          ((plan : Plan) (next : Option Next) (w : GrownWorld) (e : Event) → IsNextOf plan next → FitsGrown plan next w → IsEventOf plan next w e
          → (o : Outcome) × Happens plan next w e o × FitsGrown plan next o.world)
          → IsNextOf plan next → FitsGrown plan next w → IsEventOf plan next w (Submit number proc args) → why ≡ grown.Plain fault.Args → ⊥
      args_are_right outcome of fits event is =
          let s = told (grown.Plain fault.Args) refl is in
          let found = outcome plan next w (Submit number proc args) of fits event in
          none_comes found.0 s found.1
        where
          none_comes : (o : Outcome) → Submitting args (Err (grown.Plain fault.Args)) → Happens plan next w (Submit number proc args) o → ⊥
          none_comes o s (its, c, there, h) =
              let same = same_there w.coords number c s.coord there s.there in
              let r = after_grown_submit plan next s.coord proc args in
              let there_too : IsSubmissionOf w number proc args r o = subst (λ (c : GrownCoordState). IsSubmissionOf w number proc args (after_grown_submit plan next c proc args) o) same h in
              subst (λ answer. Submits w number proc args r.state r.sends answer o) (sym s.submitted.answer) there_too
