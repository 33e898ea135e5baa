-- How a plan is stored as a value that contracts compare: each record as the tuple of its fields
use Rattle.std.specs.Prelude.{ℕ, Bool, List, refl}
use Rattle.std.specs.Coded.{Coded, code_by, coded×, coded_ℕ, coded_bool, coded_list}
use Rattle.roc_program.specs.Program.{Workload}
use Rattle.roc_program.specs.Codes.{workload_code}
use Rattle.roc_plan.specs.Groups.{Group, Plan}

abbrev group_code : Coded Group
group_code =
    code_by (List ℕ × Bool) (coded× (coded_list coded_ℕ) coded_bool) (λ g. (g.pieces, g.is_immediate))
    (λ p. record { pieces = p.0; is_immediate = p.1 })
    (λ _. refl)

abbrev pub plan_code : Coded Plan
plan_code =
    code_by (Workload × List (List Group)) (coded× workload_code (coded_list (coded_list group_code)))
    (λ p. (p.program, p.groups))
    (λ p. record { program = p.0; groups = p.1 })
    (λ _. refl)
