-- What an accepted submission is, and that each id is of at most one
use Rattle.std.proofs.Common.{◌≡◌, ℕ, ℤ, true, List, [], ◌∷◌, Option, Some, None, length, refl, sym, ap, subst, inl, inr, arith}
use Rattle.roc_base.specs.declared.node.Node.{Node}
use Rattle.roc_base.specs.declared.node.Node.TheVariants.{Server, Coord}
use Rattle.roc_plan.specs.Groups.{Plan, procedure_of, is_transaction}
use Rattle.roc_coord.specs.State.{CoordState}
use Rattle.roc_coord.specs.Submit.{Submission, next_id, new_transaction, accepted}
use Rattle.roc_audit.specs.declared.entry.Entry.TheVariants.{Submitted}
use Rattle.roc_law_protocol.specs.declared.event.Event.{Event}
use Rattle.roc_law_protocol.specs.declared.event.Event.TheVariants.{Submit, Deliver, Tick, Stop}
use Rattle.roc_law_protocol.specs.Beginnings.{Beginning}
use Rattle.roc_law_protocol.specs.Aside.{after_transaction}
use Rattle.roc_law_protocol.specs.World.{World, mark_delivered, at_coord}
use Rattle.roc_law_protocol.specs.Happens.{Outcome, IsSubmissionOf, IsReceived}
use Rattle.roc_law_protocol.specs.Run.{Stepped}
use Rattle.roc_law_protocol.specs.Beside.{Moves, IsRunBeside, beside_begins, beside_goes_on}
use Rattle.roc_law_protocol.proofs.Stops.{stop_keeps}
use Rattle.roc_law_protocol.proofs.SubmissionEnds as ends
use Rattle.roc_law_protocol.proofs.KeptAside.{kept_aside, aside_onward}
use Rattle.roc_law_protocol.proofs.Submissions.{AreSubmissions, submissions_kept, submissions_message, submissions_more}
use Rattle.roc_law_protocol.proofs.Firsts.{begun_submissions}

-- a submission is refused, or accepted
pub data Submitting (plan : Plan) (w : World) (n proc : ℕ) (args : List ℤ) (s : CoordState) (o : Outcome) : Type 0 where
  is_refused : o.world ≡ w → Submitting plan w n proc args s o
  is_accepted : is_transaction plan proc ≡ true → length args ≡ (procedure_of plan proc).arguments → o.world ≡ at_coord w n (accepted plan s (new_transaction s proc args)).state (accepted plan s (new_transaction s proc args)).sends (Submitted (next_id s) proc args ∷ []) → Submitting plan w n proc args s o

pub submitting : (plan : Plan) (w : World) (n proc : ℕ) (args : List ℤ) (s : CoordState) (o : Outcome) → IsSubmissionOf w n proc args (after_transaction plan s proc args) o → Submitting plan w n proc args s o
submitting plan w n proc args s o h = go (after_transaction plan s proc args) (ends.submission_is plan s proc args) h
  where
    go : (r : Submission) → ends.IsTransactionSubmission plan s proc args r → IsSubmissionOf w n proc args r o → Submitting plan w n proc args s o
    go r (ends.unknown e) h = absurd h
    go r (ends.miscounted e) h = absurd h
    go r (ends.spent known counted l) h = is_refused (ap (λ (o : Outcome). o.world) h)
    go r (ends.busy known counted l m) h = is_refused (ap (λ (o : Outcome). o.world) h)
    go r (ends.taken known counted l m) h = is_accepted known counted (ap (λ (o : Outcome). o.world) h)

-- ---- submissions

pub submissions_step : (plan : Plan) (w : World) → AreSubmissions plan w.history w.coords → (e : Option Event) (o : Outcome) → Moves plan w e o → AreSubmissions plan o.world.history o.world.coords
submissions_step plan w a None o (inl h) = subst (λ (o : Outcome). AreSubmissions plan o.world.history o.world.coords) (sym h) a
submissions_step plan w a None o (inr x) =
    let k = kept_aside plan x.before x.after x.sends x.does in
    subst (λ (o : Outcome). AreSubmissions plan o.world.history o.world.coords) (sym x.is)
    (submissions_kept plan w.history w.coords a x.number x.before x.there x.after k.number (aside_onward plan x.before x.after x.sends k) [] (λ t p a h. h))
submissions_step plan w a (Some (Submit n proc args)) o (s, there, h) = go (submitting plan w n proc args s o h)
  where
    go : Submitting plan w n proc args s o → AreSubmissions plan o.world.history o.world.coords
    go (is_refused e) = subst (λ (v : World). AreSubmissions plan v.history v.coords) (sym e) a
    go (is_accepted known counted e) = subst (λ (v : World). AreSubmissions plan v.history v.coords) (sym e) (submissions_more plan w.history w.coords a n s there (accepted plan s (new_transaction s proc args)).state refl refl proc args known counted)
submissions_step plan w a (Some (Deliver k)) o (m, some, there, h) = go m.to h
  where
    go : (to : Node) → IsReceived plan (mark_delivered w k) m.msg to o → AreSubmissions plan o.world.history o.world.coords
    go (Server shard) (s, r, at, step, e) = subst (λ (o : Outcome). AreSubmissions plan o.world.history o.world.coords) (sym e) a
    go (Coord n) (s, at, e) = subst (λ (o : Outcome). AreSubmissions plan o.world.history o.world.coords) (sym e) (submissions_message plan w.history w.coords a n s at m.msg)
submissions_step plan w a (Some (Tick (Server shard))) o (s, there, e) = subst (λ (o : Outcome). AreSubmissions plan o.world.history o.world.coords) (sym e) a
submissions_step plan w a (Some (Tick (Coord n))) o (s, there, e) = subst (λ (o : Outcome). AreSubmissions plan o.world.history o.world.coords) (sym e) (submissions_kept plan w.history w.coords a n s there s refl (omega arith) [] (λ t p x h. h))
submissions_step plan w a (Some (Stop shard during)) o x =
    let k = stop_keeps plan w shard.0 during o x in
    subst (λ h. AreSubmissions plan h o.world.coords) (sym k.0) (subst (AreSubmissions plan w.history) (sym k.1) a)

pub submissions_from : (plan : Plan) (start : Beginning) (coords : ℕ) (steps : List Stepped) (w : World) → IsRunBeside plan start coords steps w → AreSubmissions plan w.history w.coords
submissions_from plan start coords steps w beside_begins = begun_submissions plan start coords
submissions_from plan start coords steps w (beside_goes_on {w = v} e o r h) = submissions_step plan v (submissions_from plan start coords _ v r) e o h
