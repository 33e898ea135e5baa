-- Views are apart from all other procedures
use Rattle.std.proofs.Common.{◌≡◌, Bool, true, false, refl, sym, ◌∙◌}
use Rattle.std.proofs.lemmas.Bool.{false≢true}
use Rattle.roc_program.specs.Program.{Workload}
use Rattle.roc_program.specs.LookUps.{is_view_in}
use Rattle.roc_program.specs.Conflict.{are_in_conflict}
use Rattle.roc_program.specs.Pieces.{all_pieces}
use Rattle.roc_program.specs.WellFormed.{IsProgram}
use Rattle.roc_program.specs.declared.piece_id.PieceId.{PieceId}
use Rattle.roc_program.proofs.Conflicts.{in_conflict_parts}
use Rattle.roc_program.proofs.Views.{view_reads}
use Rattle.roc_conflict.specs.Contended.{has_conflict}
use Rattle.roc_conflict.specs.Immediate.{IsImmediate, declared, in_conflict}
use Rattle.roc_conflict.proofs.Members.{found_by_any}

pub view_meets_nobody : (program : Workload) (one other : PieceId) → is_view_in program one.proc ≡ true → are_in_conflict program one other ≡ false
view_meets_nobody program one other viewed = go (are_in_conflict program one other) refl
  where
    go : (b : Bool) → are_in_conflict program one other ≡ b → b ≡ false
    go false e = refl
    go true e = absurd (false≢true (sym (in_conflict_parts program one other e).first ∙ viewed))

pub view_has_none : (program : Workload) (id : PieceId) → is_view_in program id.proc ≡ true → has_conflict program id ≡ false
view_has_none program id viewed = go (has_conflict program id) refl
  where
    go : (b : Bool) → has_conflict program id ≡ b → b ≡ false
    go false e = refl
    go true e =
        let other = found_by_any (are_in_conflict program id) (all_pieces program) e in
        absurd (false≢true (sym (view_meets_nobody program id other.0 viewed) ∙ other.1))

pub view_is_deferrable : (program : Workload) (id : PieceId) → IsProgram program → is_view_in program id.proc ≡ true → ¬ IsImmediate program id
view_is_deferrable program _ formed viewed (declared {id} there now) = absurd (false≢true (sym (view_reads program id formed viewed).later ∙ now))
view_is_deferrable program _ formed viewed (in_conflict {one} {other} first h) = absurd (false≢true (sym (in_conflict_parts program one other h).second ∙ viewed))
