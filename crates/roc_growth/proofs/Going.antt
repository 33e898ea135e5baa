-- How coordinators go on
use Rattle.std.proofs.Common.{◌≡◌, ◌≢◌, ◌∙◌, ◌⊎◌, inl, inr, ℕ, ℤ, ◌+◌, ◌≤◌, Bool, true, false, cond, not, ◌&&◌, ◌||◌, List, [], ◌∷◌, ◌++◌, Option, Some, None, refl, sym, ap, subst, arith}
use Rattle.std.proofs.lemmas.Bool.{cases_eq, false≢true}
use Rattle.std.specs.Prelude.{slice_get, slice_set, nat_lt, ◌==◌, Err}
use Rattle.std.specs.List.{list_any}
use Rattle.roc_base.specs.declared.id.TxnId.{TxnId}
use Rattle.roc_base.specs.declared.node.Shard.{Shard}
use Rattle.roc_msg.specs.declared.msg.Msg.{Msg}
use Rattle.roc_msg.specs.declared.msg.Msg.TheVariants.{Drained, Switched}
use Rattle.roc_msg.specs.declared.reason.Reason.{Reason}
use Rattle.roc_msg.specs.declared.reason.Reason.TheVariants.{Foreign, Stale}
use Rattle.roc_plan.specs.Groups.{Plan, is_view_of}
use Rattle.roc_coord.specs.declared.handled.Handled.{Handled}
use Rattle.roc_coord.specs.declared.handled.SubmitFault.{SubmitFault}
use Rattle.roc_coord.specs.State.{CoordState, CoordStep}
use Rattle.roc_coord.specs.Step.{after_message}
use Rattle.roc_coord.specs.Submit.{Submission, accepted, accepted_view, new_transaction, next_id, refusal_of, refused_or_accepted, after_submit}
use Rattle.roc_readonly.specs.Round.{first_round}
use Rattle.roc_law_protocol.proofs.Submissions.{keeps_number}
use Rattle.roc_sequence.proofs.Members.{same_there}
use Rattle.roc_epoch.specs.declared.file.File.{File}
use Rattle.roc_epoch.specs.declared.next.Next.{Next}
use Rattle.roc_epoch.specs.Files.{is_file, own_file, own_plan}
use Rattle.roc_grown.specs.declared.handled.GrownAnswer.TheVariants as coord_answer
use Rattle.roc_grown.specs.declared.handled.GrownFault.TheVariants as fault
use Rattle.roc_grown.specs.Coord as coord
use Rattle.roc_grown.specs.Coord.{GrownCoordState, GrownSubmission, after_grown_submit, after_drain, after_grown_message, after_switched, after_filed, was_told}
use Rattle.roc_growth.specs.Told.{IsTelling}
use Rattle.roc_law_protocol.proofs.Changed.{get-set_here, get-set_other}

-- ---- one goes on to be the other

-- one that has switched has, and what it told stays; one that has not may use more sequences; and once it switches it has told no earlier one than it had next
pub record GoesOn (c d : GrownCoordState) : Type 0 where
  pub still : c.switched ≡ true → (d.switched ≡ true) × (d.upto ≡ c.upto)
  pub more : c.switched ≡ false → d.switched ≡ false → c.core.next ≤ d.core.next
  pub over : c.switched ≡ false → d.switched ≡ true → (upto : TxnId) × (d.upto ≡ Some upto) × (c.core.next ≤ upto.seq)

apart : {X : Type 0} (b : Bool) → b ≡ false → b ≡ true → X
apart b e f = absurd (false≢true (sym e ∙ f))

goes_still : (c : GrownCoordState) → GoesOn c c
goes_still c = record { still = λ is. (is, refl); more = λ a b. omega arith; over = λ a b. apart c.switched a b }

goes_further : (b c d : GrownCoordState) → GoesOn b c → GoesOn c d → GoesOn b d
goes_further b c d first second =
    record {
      still = λ is. (let x = first.still is in let y = second.still x.0 in (y.0, y.1 ∙ x.1));
      more = λ is plain. further is plain c.switched refl;
      over = λ is over. beyond is over c.switched refl;
    }
  where
    further : b.switched ≡ false → d.switched ≡ false → (now : Bool) → c.switched ≡ now → b.core.next ≤ d.core.next
    further is plain false at = let x = first.more is at in let y = second.more at plain in omega arith
    further is plain true at = apart d.switched plain (second.still at).0

    beyond : b.switched ≡ false → d.switched ≡ true → (now : Bool) → c.switched ≡ now → (upto : TxnId) × (d.upto ≡ Some upto) × (b.core.next ≤ upto.seq)
    beyond is over false at = let x = first.more is at in let y = second.over at over in (y.0, y.1, omega arith)
    beyond is over true at = let x = first.over is at in let y = second.still at in (x.0, y.1 ∙ x.1, x.2)

-- a core's step
with_core : (s : GrownCoordState) (core : CoordState) → s.core.next ≤ core.next → GoesOn s (record s { core = core })
with_core s core l = record { still = λ is. (is, refl); more = λ a b. l; over = λ a b. apart s.switched a b }

-- ---- all of them

abbrev pub AreOn : List GrownCoordState → List GrownCoordState → Type 0
AreOn old new = (n : ℕ) (c : GrownCoordState) → slice_get old n ≡ Some c → (d : GrownCoordState) × (slice_get new n ≡ Some d) × GoesOn c d

pub same_on : (coords : List GrownCoordState) → AreOn coords coords
same_on coords n c at = (c, at, goes_still c)

pub on_and_on : (first second third : List GrownCoordState) → AreOn first second → AreOn second third → AreOn first third
on_and_on first second third a b n c at = let x = a n c at in let y = b n x.0 x.1 in (y.0, y.1, goes_further c x.0 y.0 x.2 y.2)

-- one is set
pub set_on : (coords : List GrownCoordState) (i : ℕ) (s after : GrownCoordState) → slice_get coords i ≡ Some s → GoesOn s after → AreOn coords (slice_set coords i after)
set_on coords i s after there on n c at = go (cases_eq i n)
  where
    go : (i ≡ n) ⊎ (i ≢ n) → (d : GrownCoordState) × (slice_get (slice_set coords i after) n ≡ Some d) × GoesOn c d
    go (inl e) = (
      after,
      subst (λ n. slice_get (slice_set coords i after) n ≡ Some after) e (get-set_here coords i s after there),
      subst (λ c. GoesOn c after) (same_there coords n s c (subst (λ n. slice_get coords n ≡ Some s) e there) at) on,
    )
    go (inr e) = (c, get-set_other coords i n after e ∙ at, goes_still c)

-- ---- a submission

submit_next : (plan : Plan) (s : CoordState) (proc : ℕ) (args : List ℤ) → s.next ≤ (after_submit plan s proc args).state.next
submit_next plan s proc args = go (refusal_of plan s proc args)
  where
    kinds : (b : Bool) → s.next ≤ (cond b (accepted_view plan s (first_round (next_id s) proc args)) (accepted plan s (new_transaction s proc args))).state.next
    kinds true = omega arith
    kinds false = omega arith

    go : (o : Option SubmitFault) → s.next ≤ (refused_or_accepted plan s proc args o).state.next
    go (Some why) = omega arith
    go None = kinds (is_view_of plan proc)

pub submission_goes_on : (plan : Plan) (next : Option Next) (s : GrownCoordState) (proc : ℕ) (args : List ℤ) → GoesOn s (after_grown_submit plan next s proc args).state
submission_goes_on plan next s proc args = go s.draining
  where
    core : Submission
    core = after_submit (own_plan plan next s.switched) s.core proc args

    refusal : GrownSubmission
    refusal = record { answer = Err fault.Draining; state = s; sends = [] }

    go : (b : Bool) → GoesOn s (cond b refusal (coord.submitted_to_core s core)).state
    go true = goes_still s
    go false = with_core s core.state (submit_next (own_plan plan next s.switched) s.core proc args)

-- ---- a drain

-- what it tells once it has drained changes neither its file nor its core
tells_on : (plan : Plan) (s : GrownCoordState) → s.switched ≡ false → GoesOn s (coord.tell_if_drained plan s).state
tells_on plan s is = go (coord.is_drained s)
  where
    go : (b : Bool) → GoesOn s (cond {A = coord.DrainStep} b (record { state = coord.telling s; sends = coord.drained_sends plan (next_id s.core) }) (record { state = s; sends = [] })).state
    go true = record { still = λ now. apart s.switched is now; more = λ a b. omega arith; over = λ a b. apart s.switched a b }
    go false = goes_still s

pub drain_goes_on : (plan : Plan) (s : GrownCoordState) → GoesOn s (after_drain plan s).state
drain_goes_on plan s = go s.draining s.switched refl
  where
    drains : GrownCoordState
    drains = record s { draining = true }

    begins : s.switched ≡ false → GoesOn s drains
    begins is = record { still = λ now. apart s.switched is now; more = λ a b. omega arith; over = λ a b. apart s.switched a b }

    go : (d b : Bool) → s.switched ≡ b → GoesOn s (cond {A = coord.DrainStep} (d || b) (record { state = s; sends = [] }) (coord.tell_if_drained plan drains)).state
    go true b is = goes_still s
    go false true is = goes_still s
    go false false is = goes_further s drains (coord.tell_if_drained plan drains).state (begins is) (tells_on plan drains is)

-- ---- a message

none_left : {X : Type 0} (why : Reason) → Some why ≡ None → X
none_left why e = absurd (cc)

taken_told : (there told again : Bool) → cond (not (there && told)) (Some Foreign) (cond again (Some Stale) None) ≡ None → told ≡ true
taken_told true true again e = refl
taken_told true false again e = none_left Foreign e
taken_told false told again e = none_left Foreign e

told_once : (upto : TxnId) (o : Option TxnId) → was_told upto o ≡ true → (told : TxnId) × (o ≡ Some told)
told_once upto None e = absurd (false≢true e)
told_once upto (Some told) e = (told, refl)

-- it goes over
over_goes_on : (plan : Plan) (n : ℕ) (s : GrownCoordState) → IsTelling n s → (upto : TxnId) (shard : Shard) → coord.switched_refusal plan s upto shard ≡ None
    → GoesOn s (coord.over_if_all plan (record s { at = s.at ++ shard ∷ [] }))
over_goes_on plan n s telling upto shard free = go (coord.have_all_switched plan.program.shards taken.at)
  where
    taken : GrownCoordState
    taken = record s { at = s.at ++ shard ∷ [] }

    told : (told : TxnId) × (s.upto ≡ Some told)
    told = told_once upto s.upto (taken_told (nat_lt shard.0 plan.program.shards) (was_told upto s.upto) (list_any (λ told. told.0 == shard.0) s.at) free)

    early : s.switched ≡ false → s.core.next ≤ told.0.seq
    early is = let same = ap (λ (t : TxnId). t.seq) (telling.rests told.0 told.1 is).2 in omega arith

    go : (b : Bool) → GoesOn s (cond b (coord.gone_over taken) taken)
    go true = record { still = λ is. (refl, refl); more = λ a b. apart true b refl; over = λ is now. (told.0, told.1, early is) }
    go false = record { still = λ is. (is, refl); more = λ a b. omega arith; over = λ a b. apart s.switched a b }

switched_goes_on : (plan : Plan) (n : ℕ) (s : GrownCoordState) → IsTelling n s → (upto : TxnId) (shard : Shard) → GoesOn s (after_switched plan s upto shard).state
switched_goes_on plan n s telling upto shard = go (coord.switched_refusal plan s upto shard) refl
  where
    go : (o : Option Reason) → coord.switched_refusal plan s upto shard ≡ o → GoesOn s (coord.unless_refused s o (coord.over_if_all plan (record s { at = s.at ++ shard ∷ [] }))).state
    go (Some why) e = goes_still s
    go None e = over_goes_on plan n s telling upto shard e

-- what is told behind an answer
told_goes_on : (plan : Plan) (s : GrownCoordState) (answer : Handled) → (s.switched ≡ true → s.draining ≡ false) → GoesOn s (coord.told_behind plan s answer).state
told_goes_on plan s answer plain = go (coord.is_answer answer)
  where
    nothing : s.draining ≡ false → (coord.tell_if_drained plan s).state ≡ s
    nothing is =
        ap
        (λ b.
        (cond {A = coord.DrainStep} (b && coord.is_empty s.core.unanswered) (record { state = coord.telling s; sends = coord.drained_sends plan (next_id s.core) }) (record { state = s; sends = [] })).state)
        is

    tells : (b : Bool) → s.switched ≡ b → GoesOn s (coord.tell_if_drained plan s).state
    tells true is = subst (GoesOn s) (sym (nothing (plain is))) (goes_still s)
    tells false is = tells_on plan s is

    go : (b : Bool) → GoesOn s (cond {A = coord.DrainStep} b (coord.tell_if_drained plan s) (record { state = s; sends = [] })).state
    go true = tells s.switched refl
    go false = goes_still s

filed_goes_on : (plan : Plan) (next : Option Next) (n : ℕ) (s : GrownCoordState) (file : File) → IsTelling n s → (msg : Msg) → GoesOn s (after_filed plan next s file msg).state
filed_goes_on plan next n s file telling msg = go (is_file (own_file s.switched) file)
  where
    step : CoordStep
    step = after_message (own_plan plan next s.switched) s.core msg

    here : GrownCoordState
    here = record s { core = step.state }

    taken : GoesOn s here
    taken = with_core s step.state (let same = (keeps_number (own_plan plan next s.switched) s.core msg).next in omega arith)

    go : (b : Bool) → GoesOn s (cond b (coord.of_core plan s step) (coord.unchanged s coord_answer.Skipped)).state
    go true = goes_further s here (coord.told_behind plan here step.answer).state taken (told_goes_on plan here step.answer telling.plain)
    go false = goes_still s

pub message_goes_on : (plan : Plan) (next : Option Next) (n : ℕ) (s : GrownCoordState) (file : File) → IsTelling n s → (msg : Msg) → GoesOn s (after_grown_message plan next s file msg).state
message_goes_on plan next n s file telling (Drained upto) = goes_still s
message_goes_on plan next n s file telling (Switched upto shard) = switched_goes_on plan n s telling upto shard
message_goes_on plan next n s file telling msg = filed_goes_on plan next n s file telling msg
