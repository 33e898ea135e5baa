-- No cell's count rises above what a version can tell
use Rattle.std.proofs.Common.{◌≡◌, inl, inr, ℕ, ◌+◌, ◌≤◌, Bool, true, false, List, [], Option, Some, None, refl, sym, subst, arith}
use Rattle.std.specs.Prelude.{slice_get, slice_set, if◌then◌else◌, min}
use Rattle.roc_base.specs.declared.node.Node.{Node}
use Rattle.roc_base.specs.declared.node.Node.TheVariants.{Server, Coord}
use Rattle.roc_msg.specs.declared.msg.Msg.{Msg}
use Rattle.roc_plan.specs.Groups.{Plan, is_view_of}
use Rattle.roc_rows.specs.declared.cell.Cell.{Cell}
use Rattle.roc_rows.specs.Versions.{Counts, version}
use Rattle.roc_step.specs.State.{ServerStep, Viewing}
use Rattle.roc_step.specs.Reads.{ReadStep, with_accesses, is_taken, answering, reads_with, reads_behind, AnswersReads}
use Rattle.roc_step.specs.Runs.{accesses_of}
use Rattle.roc_msg.specs.declared.outbox.Ran.{Ran}
use Rattle.roc_coord.specs.Submit.{next_id, new_transaction, accepted, accepted_view, after_submit, Submission}
use Rattle.roc_law_protocol.specs.declared.event.Event.{Event}
use Rattle.roc_law_protocol.specs.declared.event.Event.TheVariants.{Submit, Deliver, Tick, Stop}
use Rattle.roc_law_protocol.proofs.Firsts.{found_at}
use Rattle.roc_law_protocol.proofs.SubmissionEnds.{IsAnySubmission, any_submission_is, unknown, miscounted, spent, busy, taken}
use Rattle.roc_readonly.specs.Round.{first_round}
use Rattle.roc_law_world.specs.World.{World, Beginning, begun_viewing, mark_delivered}
use Rattle.roc_law_world.specs.Happens.{Outcome, IsReceived, IsSubmissionOf}
use Rattle.roc_law_world.specs.Run.{Stepped, Transition, IsRunFrom, at_beginning, steps_on}
use Rattle.roc_law_world.proofs.Versions.{most, count_accesses}
use Rattle.roc_law_world.proofs.Stops.{by_losing}
use Rattle.roc_law_protocol.proofs.Changed.{get-set_cases}

abbrev pub AreSmall : List Viewing → Type 0
AreSmall viewing = (n : ℕ) (v : Viewing) → slice_get viewing n ≡ Some v → (x : Cell) → version v.versions x ≤ most

-- a server's counts change
set_small : (viewing : List Viewing) → AreSmall viewing → (n : ℕ) (v y : Viewing) → slice_get viewing n ≡ Some v → ((x : Cell) → version y.versions x ≤ most)
    → AreSmall (slice_set viewing n y)
set_small viewing o n v y keeps small k z at = elim (get-set_cases viewing n k v y z keeps at) [
  | inl e ↦ subst (λ (z : Viewing). (x : Cell) → version z.versions x ≤ most) (sym e.1) small
  | inr e ↦ o k z e.1
]

counted_small : (vs : Counts) (ran : List Ran) (x : Cell) → version vs x ≤ most → version (with_accesses vs ran) x ≤ most
counted_small vs ran x h =
    let same : version vs x ≡ min (version vs x) most = least (version vs x) h in
    let e = count_accesses vs ran x (version vs x) same in
    low _ _ e
  where
    least : (k : ℕ) → k ≤ most → k ≡ min k most
    least k l = grind arith

    low : (k n : ℕ) → k ≡ min n most → k ≤ most
    low k n e = grind arith

module _ (plan : Plan) where
  answers_small : (v : Viewing) (msg : Msg) (r : ServerStep) (q : ReadStep) → AnswersReads plan v msg r q → ((x : Cell) → version v.versions x ≤ most)
      → (x : Cell) → version q.viewing.versions x ≤ most
  answers_small v msg r q a h x = subst (λ (q : ReadStep). version q.viewing.versions x ≤ most) (sym a.is) (go (is_taken r.answer) refl)
    where
      taken : ReadStep
      taken = answering plan a.decided r.state (with_accesses v.versions (accesses_of r.ran)) (reads_with msg r.answer v.reads)

      go : (b : Bool) → is_taken r.answer ≡ b → version (reads_behind plan a.decided v msg r).viewing.versions x ≤ most
      go true e = subst (λ c. version (if c then taken else record { viewing = v; sends = [] }).viewing.versions x ≤ most) (sym e) (counted_small v.versions (accesses_of r.ran) x (h x))
      go false e = subst (λ c. version (if c then taken else record { viewing = v; sends = [] }).viewing.versions x ≤ most) (sym e) (h x)

  step : (w : World) → AreSmall w.viewing → (e : Option Event) (u : Outcome) → Transition plan w e u → AreSmall u.world.viewing
  step w o None u h = subst (λ (u : Outcome). AreSmall u.world.viewing) (sym h) o
  step w o (Some (Submit n proc args)) u (s, there, h) = go (after_submit plan s proc args) (any_submission_is plan s proc args) h
    where
      kinds : (c : Bool) → IsSubmissionOf w n proc args (if c then accepted_view plan s (first_round (next_id s) proc args) else accepted plan s (new_transaction s proc args)) u
          → AreSmall u.world.viewing
      kinds true k = subst (λ (u : Outcome). AreSmall u.world.viewing) (sym k) o
      kinds false k = subst (λ (u : Outcome). AreSmall u.world.viewing) (sym k) o

      go : (r : Submission) → IsAnySubmission plan s proc args r → IsSubmissionOf w n proc args r u → AreSmall u.world.viewing
      go r (unknown none) k = absurd k
      go r (miscounted e) k = absurd k
      go r (spent there_is counted l) k = subst (λ (u : Outcome). AreSmall u.world.viewing) (sym k) o
      go r (busy there_is counted l m) k = subst (λ (u : Outcome). AreSmall u.world.viewing) (sym k) o
      go r (taken there_is counted l m) k = kinds (is_view_of plan proc) k
  step w o (Some (Deliver k)) u (m, some, there, h) = go m.to h
    where
      go : (to : Node) → IsReceived plan (mark_delivered w k) m.msg to u → AreSmall u.world.viewing
      go (Server shard) g =
          subst (λ (u : Outcome). AreSmall u.world.viewing) (sym g.is)
          (set_small w.viewing o shard.0 g.viewing g.reads.viewing g.keeps (answers_small g.viewing m.msg g.step g.reads g.answers (o shard.0 g.viewing g.keeps)))
      go (Coord n) (s, at, e) = subst (λ (u : Outcome). AreSmall u.world.viewing) (sym e) o
  step w o (Some (Tick (Server shard))) u (s, v, there, keeps, e) =
      subst (λ (u : Outcome). AreSmall u.world.viewing) (sym e) (set_small w.viewing o shard.0 v v keeps (o shard.0 v keeps))
  step w o (Some (Tick (Coord n))) u (s, there, e) = subst (λ (u : Outcome). AreSmall u.world.viewing) (sym e) o
  step w o (Some (Stop shard during)) u x =
      by_losing plan w shard.0 during u x (λ v. AreSmall v.viewing) o (λ k m sent. o)
      (λ k m s v r q sent there keeps handles answers servers ran. set_small w.viewing o shard.0 v q.viewing keeps (answers_small v m.msg r q answers (o shard.0 v keeps)))
      (λ v sent undelivered viewing l small n z at y. let t = l.viewing n z at in subst (λ (c : Counts). version c y ≤ most) (sym t.2) (small n t.0 t.1 y))
      (λ v s z small there keeps. set_small v.viewing small shard.0 z z keeps (small shard.0 z keeps))

  pub run_small : (b : Beginning) → ((n : ℕ) (x : Cell) → version (b.versions n) x ≤ most) → (coords : ℕ) (steps : List Stepped) (w : World)
      → IsRunFrom plan b coords steps w → AreSmall w.viewing
  run_small b few coords steps w at_beginning = λ n v at x. subst (λ (v : Viewing). version v.versions x ≤ most) (sym (found_at (begun_viewing b) 0 plan.program.shards n v at)) (few (0 + n) x)
  run_small b few coords steps w (steps_on {w = v} e o r h) = step v (run_small b few coords _ v r) e o h
