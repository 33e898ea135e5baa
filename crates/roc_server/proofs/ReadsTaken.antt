-- A read that was taken is of the plan
use Rattle.std.proofs.Common.{◌≡◌, ◌==◌, Bool, true, false, not, nat_lt, [], ◌∷◌, length, refl, sym, ap, ◌∙◌}
use Rattle.std.proofs.lemmas.Bool.{eqb-true, false≢true, ltb-true}
use Rattle.roc_msg.specs.declared.msg.Msg.{Msg}
use Rattle.roc_msg.specs.declared.msg.Msg.TheVariants.{Read}
use Rattle.roc_msg.specs.Outbox.{Collected}
use Rattle.roc_msg.specs.declared.reason.Reason.TheVariants.{BadProc, BadGroup, BadInputs, NotHere}
use Rattle.roc_plan.specs.Groups.{Plan, procedure_of, groups_of, is_view_of, shard_of, group_place}
use Rattle.roc_step.specs.declared.handled.Handled.{Handled}
use Rattle.roc_step.specs.declared.handled.Handled.TheVariants.{Done, Gone, Ignored}
use Rattle.roc_step.specs.declared.kept_read.KeptRead.{KeptRead}
use Rattle.roc_step.specs.Below.{is_ended}
use Rattle.roc_step.specs.Fits.{IsReadOf}
use Rattle.roc_step.specs.Reads.{after_read, read_judged}
use Rattle.roc_step.specs.State.{first_answer, ServerState, ServerStep}
use Rattle.roc_step.specs.Step.{Findings, after_message}
use Rattle.roc_server_reads.specs.Answering.{TakenFits}
use Rattle.roc_server.proofs.MessageSteps.{IsStepFor}

abbrev is_done : Handled → Bool
is_done Done = true
is_done Gone = false
is_done (Ignored reason) = false

-- where none of these held
nothing_held : (s : ServerState) (a b c d e : Bool) → (read_judged s (first_answer ((a, Gone) ∷ (b, Ignored BadProc) ∷ (c, Ignored BadGroup) ∷ (d, Ignored BadInputs) ∷ (e, Ignored NotHere) ∷ []))).answer ≡ Done
    → (b ≡ false) × (c ≡ false) × (d ≡ false)
nothing_held s true b c d e h = absurd (false≢true (ap is_done h))
nothing_held s false true c d e h = absurd (false≢true (ap is_done h))
nothing_held s false false true d e h = absurd (false≢true (ap is_done h))
nothing_held s false false false true e h = absurd (false≢true (ap is_done h))
nothing_held s false false false false e h = (refl, refl, refl)

so : (b : Bool) → not b ≡ false → b ≡ true
so true h = refl
so false h = sym h

read_fits : (plan : Plan) (s : ServerState) (q : KeptRead) → (after_read plan s q).answer ≡ Done → IsReadOf plan q
read_fits plan s q h =
    let n =
    nothing_held s (is_ended s.below q.id) (not (is_view_of plan q.proc)) (not (nat_lt q.group (length (groups_of plan q.proc)))) (not (length q.args == (procedure_of plan q.proc).arguments))
    (not (shard_of plan (group_place plan q.proc q.group q.args []) == s.shard.0)) h in
    record {
      view = so (is_view_of plan q.proc) n.0;
      group = ltb-true q.group (length (groups_of plan q.proc)) (so (nat_lt q.group (length (groups_of plan q.proc))) n.1);
      args = eqb-true (length q.args) (procedure_of plan q.proc).arguments (so (length q.args == (procedure_of plan q.proc).arguments) n.2);
    }

pub taken_fits : (plan : Plan) (s : ServerState) (f : Findings) (msg : Msg) (answer : Handled) → (after_message plan s f msg).answer ≡ answer → TakenFits plan msg answer
taken_fits plan s f (Read id round proc group args) Done h = read_fits plan s (record { id = id; round = round; proc = proc; group = group; args = args }) h
taken_fits plan s f (Read id round proc group args) Gone h = tt
taken_fits plan s f (Read id round proc group args) (Ignored reason) h = tt
taken_fits plan s f msg answer h = tt

-- so it is where it was answered in a step
pub step_fits : (plan : Plan) (s t : ServerState) (msg : Msg) (answer : Handled) (old new : Collected) → IsStepFor plan s msg t old new answer → TakenFits plan msg answer
step_fits plan s t msg answer old new step = taken_fits plan s step.1.findings msg answer (ap (λ (r : ServerStep). r.answer) (sym step.1.is) ∙ step.2.answers)
