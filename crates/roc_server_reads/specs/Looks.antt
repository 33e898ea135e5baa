-- How many started groups are looked at to find who holds reads up
use Rattle.std.specs.Prelude.{ℕ, ◌+◌, Bool, false, not, ◌&&◌, List, [], ◌∷◌, Option, Some, None, length, if◌then◌else◌}
use Rattle.roc_group.specs.declared.access.Access.{Access}
use Rattle.roc_group.specs.GroupRun.{group_uses}
use Rattle.roc_plan.specs.Groups.{Plan}
use Rattle.roc_server_groups.specs.Indexed.{group_refs_of, undecided_refs}
use Rattle.roc_server_index.specs.declared.group_ref.GroupRef.{GroupRef}
use Rattle.roc_server_reads.specs.Behind.{decided_behind, writes_one, LeftBehind}
use Rattle.roc_step.specs.declared.kept_read.KeptRead.{KeptRead}
use Rattle.roc_step.specs.declared.started.StartedGroup.{StartedGroup}
use Rattle.roc_step.specs.Reads.{read_call}
use Rattle.roc_step.specs.State.{find_group}

-- one for each group that uses a cell and was not decided before the step, for each of the cells used
abbrev pub refs_over : LeftBehind → List Access → ℕ
refs_over b [] = 0
refs_over b (a ∷ more) = length (undecided_refs b.decided (group_refs_of a.cell b.started)) + refs_over b more

-- and one for each that starts: where no group is known to hold them up
abbrev pub looks_at_all : LeftBehind → List Access → ℕ
looks_at_all b uses = refs_over b uses + length b.starting

abbrev pub writes_some : List Access → Option StartedGroup → Bool
writes_some uses None = false
writes_some uses (Some e) = writes_one uses e

-- the group of a reference had started, is not decided then, and writes one of the cells used
abbrev pub is_held_by : LeftBehind → List Access → GroupRef → Bool
is_held_by b uses r = not (decided_behind b r.id) && writes_some uses (find_group r.id r.group b.started)

-- where that group held them up when they were last looked at
abbrev pub looks_over : LeftBehind → List Access → Option GroupRef → ℕ
looks_over b uses None = looks_at_all b uses
looks_over b uses (Some r) = if is_held_by b uses r then 1 else 1 + looks_at_all b uses

abbrev pub looks_for : Plan → LeftBehind → KeptRead → Option GroupRef → ℕ
looks_for plan b q hint = looks_over b (group_uses plan (read_call q) b.store) hint

-- what held the first of some reads up, where it is known
abbrev pub first_hint : List (Option GroupRef) → Option GroupRef
first_hint [] = None
first_hint (h ∷ hs) = h

abbrev pub other_hints : List (Option GroupRef) → List (Option GroupRef)
other_hints [] = []
other_hints (h ∷ hs) = hs

-- for these reads, with what held each of them up
abbrev pub looks_for_all : Plan → LeftBehind → List KeptRead → List (Option GroupRef) → ℕ
looks_for_all plan b [] hints = 0
looks_for_all plan b (q ∷ qs) hints = looks_for plan b q (first_hint hints) + looks_for_all plan b qs (other_hints hints)

-- for the read that comes, where one does
abbrev pub looks_for_new : Plan → LeftBehind → Option KeptRead → ℕ
looks_for_new plan b None = 0
looks_for_new plan b (Some q) = looks_for plan b q None
