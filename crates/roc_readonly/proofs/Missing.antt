-- The reads of a round that begins
use Rattle.std.proofs.Common.{◌≡◌, ℕ, List, [], ◌∷◌, refl, ap, is_none, map, filter}
use Rattle.roc_plan.specs.Groups.{Plan}
use Rattle.roc_readonly.specs.declared.view.View.{View}
use Rattle.roc_readonly.specs.Round.{view_groups, find_read, reads_of}
use Rattle.roc_readonly.specs.Inner.Missing.{read_in, missing_reads}

-- where no answer was taken, every group is missing
all_missing : (groups : List ℕ) → filter (λ g. is_none (find_read g [])) groups ≡ groups
all_missing [] = refl
all_missing (g ∷ groups) = ap (λ gs. g ∷ gs) (all_missing groups)

pub all_reads : (plan : Plan) (v : View) (round : ℕ) → missing_reads plan v round [] ≡ reads_of plan (record v { round = round })
all_reads plan v round = ap (λ (groups : List ℕ). map (read_in plan v round) groups) (all_missing (view_groups plan v))
