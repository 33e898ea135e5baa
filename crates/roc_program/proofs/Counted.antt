-- How many pieces a procedure of the code has
use Rattle.std.proofs.Common.{◌≡◌, ℕ, ◌<◌, ◌≤◌, List, length, map, get_or, sym, subst, arith}
use Rattle.std.proofs.lemmas.List.{length-map}
use Rattle.std.specs.List.{AllByRecursion}
use Rattle.roc_lang.specs.Grammar.{standard}
use Rattle.roc_program.specs.Parts as view
use Rattle.roc_program.specs.Program as program
use Rattle.roc_program.specs.WellFormed.{IsProcedure, IsProgram}
use Rattle.roc_program.specs.declared.parts.Procedure.{Procedure}
use Rattle.roc_program.proofs.Rows.{all_read}

pub few_pieces : (w : program.Workload) (all : List Procedure) (proc i : ℕ) (p : Procedure) → IsProgram w → map view.procedure all ≡ w.procedures → proc < length w.procedures → i ≡ proc → p ≡ get_or all i p
    → length p.pieces.items ≤ standard.pieces
few_pieces w all proc i p formed is there at read =
    let P : List program.Procedure → Type 0 = λ ps. AllByRecursion (IsProcedure w.tables) ps in
    let Q : List program.Procedure → Type 0 = λ ps. proc < length ps in
    let within : proc < length (map view.procedure all) = subst Q (sym is) there in
    let one = all_read (IsProcedure w.tables) view.procedure all i p (subst P (sym is) formed.procedures) (omega (arith, within, at, length-map all view.procedure)) read in
    omega (arith, one.few_pieces, length-map p.pieces.items view.piece)
