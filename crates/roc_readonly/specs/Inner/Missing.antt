-- Reads of a round that need not be the view's own yet
use Rattle.std.specs.Prelude.{ℕ, List, is_none, map, filter}
use Rattle.roc_msg.specs.declared.outbox.Outgoing.{Outgoing}
use Rattle.roc_plan.specs.Groups.{Plan}
use Rattle.roc_readonly.specs.declared.view.TakenRead.{TakenRead}
use Rattle.roc_readonly.specs.declared.view.View.{View}
use Rattle.roc_readonly.specs.Round.{view_groups, find_read, read_for}

-- the read of a group in a round
abbrev pub read_in : Plan → View → (round : ℕ) → ℕ → Outgoing
read_in plan v round group = read_for plan (record v { round = round }) group

-- the groups that are not among these, by number
abbrev pub missing_groups : Plan → View → List TakenRead → List ℕ
missing_groups plan v got = filter (λ g. is_none (find_read g got)) (view_groups plan v)

-- the reads of these groups in a round
abbrev pub missing_reads : Plan → View → (round : ℕ) → List TakenRead → List Outgoing
missing_reads plan v round got = map (read_in plan v round) (missing_groups plan v got)
