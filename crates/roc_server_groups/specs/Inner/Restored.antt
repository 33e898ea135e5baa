-- What runs changed of the groups, taken back
use Rattle.std.specs.Prelude.{ℕ, ℤ, zero, suc, List, [], ◌∷◌, Option}
use Rattle.roc_server_groups.specs.declared.runs.Earlier.{Earlier}
use Rattle.roc_step.specs.declared.started.StartedGroup.{StartedGroup}

-- the group at a place with this for what it gave
abbrev pub with_later_at : ℕ → Option (List ℤ) → List StartedGroup → List StartedGroup
with_later_at at later [] = []
with_later_at zero later (e ∷ es) = record e { later = later } ∷ es
with_later_at (suc at) later (e ∷ es) = e ∷ with_later_at at later es

-- the groups before runs, of which each is noted with what its group had given before: the last is undone first
unfoldable pub restored : List Earlier → List StartedGroup → List StartedGroup
restored [] es = es
restored (w ∷ ws) es = with_later_at w.at w.later (restored ws es)
