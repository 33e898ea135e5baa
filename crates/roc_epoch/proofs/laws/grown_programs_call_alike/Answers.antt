use Rattle.std.proofs.Common.{position, ap, ◌∙◌}
use Rattle.std.specs.Str.{bytes_eq}
use Rattle.roc_program.specs.Program.{Procedure}
use Rattle.roc_epoch.proofs.Fronts.{front_position}
use Rattle.roc_epoch.proofs.laws.grown_programs_call_alike.Goals as goal

pub returns-clause-names : goal.returns-clause-names
returns-clause-names c old new grown name proc found =
    ap (position (λ (p : Procedure). bytes_eq p.name name)) grown.procedures.1
    ∙ front_position (λ (p : Procedure). bytes_eq p.name name) old.procedures grown.procedures.0 proc found
