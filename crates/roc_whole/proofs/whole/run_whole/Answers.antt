use Rattle.std.proofs.Common.{◌≡◌, ◌∙◌, ◌++◌, ℕ, ◌<◌, List, length, map, get_or, sym, subst, ap, arith}
use Rattle.std.proofs.lemmas.List.{length-map}
use Rattle.std.specs.List.{AllByRecursion}
use Rattle.roc_program.specs.Keys.{HasKeys}
use Rattle.roc_program.specs.LookUps.{no_procedure}
use Rattle.roc_program.specs.Parts as pure
use Rattle.roc_program.specs.Program as program
use Rattle.roc_program.specs.Program.{Workload}
use Rattle.roc_program.specs.WellFormed.{IsProgram}
use Rattle.roc_program.specs.declared.parts.Procedure.{Procedure}
use Rattle.roc_program.proofs.Keyed.{program_keyed}
use Rattle.roc_program.proofs.Rows.{read-map, all_read}
use Rattle.roc_whole.specs.Run.{progress, after_pieces, whole_run}
use Rattle.roc_whole.specs.Serial.{procedure_at}
use Rattle.roc_whole.proofs.Replies.{whole_from}
use Rattle.roc_whole.proofs.whole.run_whole.Goals as goal
use Rattle.roc_whole.proofs.whole.run_whole.Goals.{After-drop-names-2}

within : (w : Workload) (lent : List Procedure) (proc : ℕ) → map pure.procedure lent ≡ w.procedures → proc < length w.procedures → proc < length lent
within w lent proc is there = omega (arith, there, ap (λ (ps : List program.Procedure). length ps) is, length-map lent pure.procedure)

-- the procedure that was read
named : (w : Workload) (lent : List Procedure) (proc : ℕ) (p : Procedure) → map pure.procedure lent ≡ w.procedures → proc < length w.procedures → p ≡ get_or lent proc p → pure.procedure p ≡ procedure_at w proc
named w lent proc p is there read =
    sym (read-map pure.procedure lent proc p no_procedure (within w lent proc is there) read) ∙ ap (λ (ps : List program.Procedure). get_or ps proc no_procedure) is

keyed : (w : Workload) (lent : List Procedure) (proc : ℕ) (p : Procedure) → IsProgram w → map pure.procedure lent ≡ w.procedures → proc < length w.procedures → p ≡ get_or lent proc p → AllByRecursion HasKeys (pure.procedure p).pieces
keyed w lent proc p formed is there read =
    let P : List program.Procedure → Type 0 = λ ps. AllByRecursion (λ p. AllByRecursion HasKeys p.pieces) ps in
    all_read (λ p. AllByRecursion HasKeys p.pieces) pure.procedure lent proc p (subst P (sym is) (program_keyed w formed)) (within w lent proc is there) read

whole : (c : After-drop-names-2) → progress c.run_pieces.new.rows.store c.run_pieces.new.names c.run_pieces.new.reply.items ≡ whole_run (procedure_at c.args.workload.now c.args.proc) c.args.args.now c.args.rows.now.store
whole c =
    whole_from _ _ _ _ _ _
    (c.in_ok-run_pieces.ensures ∙ ap (λ xs. after_pieces (progress c.args.rows.now.store c.as_mut_slice.result.now xs) (pure.procedure c.index-procedures-proc.result).pieces) c.new-given.ensures.items)
    (c.as_mut_slice.ensures.value ∙ c.in_ok-names.ensures)
    (named c.args.workload.now c.procedures.result.now c.args.proc c.index-procedures-proc.result c.procedures.ensures.value c.requires c.index-procedures-proc.is)

pub run_pieces-requires : goal.run_pieces-requires
run_pieces-requires c =
    keyed c.args.workload.now c.procedures.result.now c.args.proc c.index-procedures-proc.result c.procedures.ensures.well_formed c.procedures.ensures.value c.requires c.index-procedures-proc.is

pub returns-clause-store : goal.returns-clause-store
returns-clause-store c = ap (λ p. p.store) (whole c)

pub returns-clause-reply : goal.returns-clause-reply
returns-clause-reply c = c.in_ok-extend_from_slice.ensures.ok ∙ ap (λ xs. c.args.reply.now ++ xs) (c.as_slice.ensures.value ∙ ap (λ p. p.reply) (whole c))
