-- What is below a watermark that was told or heard was answered
use Rattle.std.proofs.Common.{◌≡◌, inl, inr, ℕ, ℤ, ◌<◌, ◌≤◌, true, List, Some, length, sym, subst, arith}
use Rattle.std.proofs.lemmas.Option.{slice_get_cases}
use Rattle.std.specs.Prelude.{slice_get}
use Rattle.roc_sequence.specs.Lists.{Has}
use Rattle.roc_sequence.proofs.Holds.{all_at, all_has}
use Rattle.roc_base.specs.declared.id.TxnId.{TxnId}
use Rattle.roc_program.specs.LookUps.{no_procedure}
use Rattle.roc_program.specs.WellFormed.{IsProcedure}
use Rattle.roc_program.proofs.Views.{view_there}
use Rattle.roc_msg.specs.declared.msg.Envelope.{Envelope}
use Rattle.roc_msg.specs.declared.msg.Msg.TheVariants.{Ended}
use Rattle.roc_coord.specs.State.{CoordState}
use Rattle.roc_plan.specs.Groups.{Plan, procedure_of, groups_of, is_view_of}
use Rattle.roc_plan.specs.Accepted.{IsAccepted}
use Rattle.roc_audit.specs.History.{WasSubmitted, WasAnswered}
use Rattle.roc_law_world.specs.World.{World, Beginning}
use Rattle.roc_law_world.specs.Fits.{NamesNodes, IsSentHere}
use Rattle.roc_law_world.specs.Run.{Stepped, IsRunFrom}
use Rattle.roc_law_world.proofs.Answering.{AreTold}
use Rattle.roc_law_world.proofs.Calm.{IsPassed}
use Rattle.roc_law_world.proofs.FitWorlds.{run_fits}
use Rattle.roc_law_world.proofs.UsedSequences.{IsUsed}
use Rattle.roc_law_protocol.proofs.Marks.{mark_least, least_next}

-- a view has some group
pub some_group : (plan : Plan) → IsAccepted plan → ((p : ℕ) → is_view_of plan p ≡ true → length (groups_of plan p) ≡ length (procedure_of plan p).pieces)
    → (p : ℕ) → is_view_of plan p ≡ true → 0 < length (groups_of plan p)
some_group plan accepted count p viewed =
    subst (λ n. 0 < n) (sym (count p viewed)) (all_at (IsProcedure plan.program.tables) plan.program.procedures p no_procedure accepted.well_formed.procedures (view_there plan.program p viewed)).some_piece

pub answered_below : (w : World) → AreTold w → (t : TxnId) → WasSubmitted w.history t → IsPassed w.coords t → (reply : List ℤ) × WasAnswered w.history t reply
answered_below w told t was passed =
    let k = told.kept t was in
    elim k.2 [
      | inl still ↦ absurd (let low = mark_least k.0 t still in let high = passed k.0 k.1 in omega arith)
      | inr r ↦ r
    ]

-- so each below it, from the beginning's next sequence on, was submitted and answered
pub answered_late : (nexts : ℕ → ℕ) (w : World) → AreTold w → IsUsed nexts w → (t : TxnId) (c : CoordState) → slice_get w.coords t.coord ≡ Some c → nexts t.coord ≤ t.seq → IsPassed w.coords t
    → (reply : List ℤ) × WasAnswered w.history t reply
answered_late nexts w told used t c there late passed =
    let low = passed c there in
    let high = least_next c.unanswered c.next in
    answered_below w told t (used.submitted t.coord c there t.seq late (omega arith)) passed

-- the coordinator of an ended is there
pub ended_coord : (plan : Plan) (b : Beginning) (coords : ℕ) (steps : List Stepped) (w : World) → IsAccepted plan → IsRunFrom plan b coords steps w
    → (m : Envelope) → Has m w.sent → (coord mark : ℕ) → m.msg ≡ Ended coord mark → (c : CoordState) × (slice_get w.coords coord ≡ Some c)
ended_coord plan b coords steps w accepted run m has coord mark is =
    let fits = run_fits plan b coords accepted.well_formed.some_shard steps w run in
    let here = all_has (IsSentHere (length w.servers) (length w.coords)) m w.sent fits.sent_here has in
    let l = subst (NamesNodes (length w.servers) (length w.coords)) is here.names in
    elim (slice_get_cases w.coords coord).1 [ inl c ↦ (c.0, c.2) | inr c ↦ (let past = c.0 in absurd (omega (arith, past, l))) ]
