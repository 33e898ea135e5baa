-- What a step leaves that reads see, which reads are free then, and which groups hold the others up
use Rattle.std.specs.Prelude.{◌≡◌, ⊤, Bool, true, false, not, ◌&&◌, ◌||◌, List, [], ◌∷◌, ◌++◌, Option, Some, None}
use Rattle.std.specs.List.{list_any}
use Rattle.roc_sequence.specs.Lists.{Has}
use Rattle.roc_sequence.specs.Places.{is_listed}
use Rattle.roc_base.specs.declared.id.TxnId.{TxnId}
use Rattle.roc_base.specs.TxnId.{is_txn}
use Rattle.roc_group.specs.declared.access.Access.{Access}
use Rattle.roc_group.specs.Accesses.{do_write}
use Rattle.roc_group.specs.GroupRun.{group_uses}
use Rattle.roc_plan.specs.Groups.{Plan}
use Rattle.roc_rows.specs.Store.{Store}
use Rattle.roc_server_index.specs.declared.group_ref.GroupRef.{GroupRef}
use Rattle.roc_step.specs.declared.kept_read.KeptRead.{KeptRead}
use Rattle.roc_step.specs.declared.started.StartedGroup.{StartedGroup}
use Rattle.roc_step.specs.Reads.{read_call}
use Rattle.roc_step.specs.State.{is_group}

-- the cells as the step leaves them; what was decided before it, and what newly is; and the groups that had started, with those that it forgets, and those
-- that start
pub record LeftBehind : Type 0 where
  pub store : Store
  pub decided : List TxnId
  pub newly : List TxnId
  pub started : List StartedGroup
  pub starting : List StartedGroup

-- it is decided then, or forgotten
abbrev pub decided_behind : LeftBehind → TxnId → Bool
decided_behind b t = is_listed is_txn b.decided t || is_listed is_txn b.newly t

-- a group writes one of these
abbrev pub writes_one : List Access → StartedGroup → Bool
writes_one uses e = list_any (λ a. do_write e.cells a.cell) uses

-- one of these groups that is not decided writes one of the cells used
abbrev pub is_held_up : (decided : TxnId → Bool) → List Access → List StartedGroup → Bool
is_held_up decided uses started = list_any (λ e. not (decided e.id) && writes_one uses e) started

-- no group that is not decided then writes one of the read's cells
abbrev pub is_free_behind : Plan → LeftBehind → KeptRead → Bool
is_free_behind plan b q = not (is_held_up (decided_behind b) (group_uses plan (read_call q) b.store) (b.started ++ b.starting))

-- ---- who holds reads up

-- it is the reference of a group that is not decided then and writes one of the cells used
pub record HoldsUp (b : LeftBehind) (uses : List Access) (r : GroupRef) : Type 0 where
  pub group : StartedGroup
  pub has : Has group (b.started ++ b.starting)
  pub is : is_group r.id r.group group ≡ true
  pub undecided : decided_behind b group.id ≡ false
  pub writes : writes_one uses group ≡ true

-- the reference is of such a group, and there is none where there is no such group
abbrev pub IsHolder : LeftBehind → List Access → Option GroupRef → Type 0
IsHolder b uses None = is_held_up (decided_behind b) uses (b.started ++ b.starting) ≡ false
IsHolder b uses (Some r) = HoldsUp b uses r

-- the holders of these reads, place by place
abbrev pub AreHolders : Plan → LeftBehind → List KeptRead → List (Option GroupRef) → Type 0
AreHolders plan b [] [] = ⊤
AreHolders plan b [] (h ∷ hs) = ⊥
AreHolders plan b (q ∷ qs) [] = ⊥
AreHolders plan b (q ∷ qs) (h ∷ hs) = IsHolder b (group_uses plan (read_call q) b.store) h × AreHolders plan b qs hs
