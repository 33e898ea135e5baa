-- Rounds of a view at its coordinator: docs/PROTOCOL.md, "Views"
use Rattle.std.specs.Prelude.{ℕ, ◌+◌, ◌-◌, ◌^◌, ℤ, Bool, false, not, ◌&&◌, ◌==◌, nat_eq, nat_lt, List, [], ◌∷◌, ◌++◌, Option, Some, None, is_some, is_none, length, map, filter, find, if◌then◌else◌}
use Rattle.std.specs.Cmp.Lexicographic.{pointwise}
use Rattle.std.specs.List.{list_all, list_any, flat_map, range_with_len}
use Rattle.roc_base.specs.declared.id.TxnId.{TxnId}
use Rattle.roc_base.specs.declared.node.Shard.{Shard}
use Rattle.roc_base.specs.declared.node.Node.TheVariants.{Server}
use Rattle.roc_msg.specs.declared.msg.Msg.TheVariants.{Read}
use Rattle.roc_msg.specs.declared.outbox.Outgoing.{Outgoing}
use Rattle.roc_msg.specs.declared.reason.Reason.{Reason}
use Rattle.roc_msg.specs.declared.reason.Reason.TheVariants.{Stale, Unfit}
use Rattle.roc_plan.specs.Groups.{Plan, groups_of, shard_of, bound_of, outs_of, group_place}
use Rattle.roc_readonly.specs.declared.view.Round.{Round}
use Rattle.roc_readonly.specs.declared.view.Round.TheVariants.{Waits, Ends, GoesOn}
use Rattle.roc_readonly.specs.declared.view.TakenRead.{TakenRead}
use Rattle.roc_readonly.specs.declared.view.View.{View}

-- the numbers of a view's groups, which stand in the order of its pieces
abbrev pub view_groups : Plan → View → List ℕ
view_groups plan v = range_with_len 0 (length (groups_of plan v.proc))

abbrev pub find_read : ℕ → List TakenRead → Option TakenRead
find_read group reads = find (λ ok. ok.group == group) reads

-- ---- what is sent

-- the shard of a group's place
abbrev pub read_shard : Plan → View → ℕ → Shard
read_shard plan v group = record { 0 = shard_of plan (group_place plan v.proc group v.args []) }

-- the read of a group in the round under way
abbrev pub read_for : Plan → View → ℕ → Outgoing
read_for plan v group = record { to = Server (read_shard plan v group); msg = Read v.id v.round v.proc group v.args }

-- all of a round, in group order
abbrev pub reads_of : Plan → View → List Outgoing
reads_of plan v = map (read_for plan v) (view_groups plan v)

-- those of the round under way that have no answer
abbrev pub reads_again : Plan → View → List Outgoing
reads_again plan v = map (read_for plan v) (filter (λ g. is_none (find_read g v.got)) (view_groups plan v))

-- ---- rounds

-- a view of which the first round begins
abbrev pub first_round : TxnId → (proc : ℕ) → List ℤ → View
first_round id proc args = record { id = id; proc = proc; args = args; round = 1; last = []; got = [] }

abbrev pub last_round : ℕ
last_round = 4294967295

-- each group's answer of this round was taken
abbrev pub is_full : Plan → View → Bool
is_full plan v = list_all (λ g. is_some (find_read g v.got)) (view_groups plan v)

-- so many writes that one more could not be told
abbrev pub most_writes : ℕ
most_writes = 2 ^ 64 - 1

-- both were taken, with the same versions, none of which may stand for more
abbrev pub is_same_reading : Option TakenRead → Option TakenRead → Bool
is_same_reading (Some a) (Some b) = pointwise nat_eq a.versions b.versions && not (list_any (λ n. n == most_writes) b.versions)
is_same_reading (Some a) None = false
is_same_reading None b = false

-- the round before found the same in each group
abbrev pub is_steady : Plan → View → Bool
is_steady plan v = list_all (λ g. is_same_reading (find_read g v.last) (find_read g v.got)) (view_groups plan v)

-- the next round begins
abbrev pub next_round : View → View
next_round v = record v { round = v.round + 1; last = v.got; got = [] }

-- what its groups read in this round, in the order of its pieces, which is that of its reply
abbrev pub outs_in : Option TakenRead → List ℤ
outs_in (Some ok) = ok.outs
outs_in None = []

abbrev pub view_reply : Plan → View → List ℤ
view_reply plan v = flat_map (λ g. outs_in (find_read g v.got)) (view_groups plan v)

-- ---- an answer

abbrev pub with_readok : View → TakenRead → View
with_readok v ok = record v { got = v.got ++ ok ∷ [] }

-- a group of the view, asked on this shard, with the counts of the plan: a view's group binds exactly what it reads
abbrev pub is_fit_readok : Plan → View → TakenRead → Shard → Bool
is_fit_readok plan v ok shard =
    nat_lt ok.group (length (groups_of plan v.proc)) && ((read_shard plan v ok.group).0 == shard.0
    && (length ok.versions == length (bound_of plan v.proc ok.group) && length ok.outs == length (outs_of plan v.proc ok.group)))

-- why it is not taken: the first reason that holds
abbrev pub readok_refusal : Plan → View → (round : ℕ) → TakenRead → Shard → Option Reason
readok_refusal plan v round ok shard =
    if not (round == v.round) then Some Stale
    else if is_some (find_read ok.group v.got) then Some Stale
    else if not (is_fit_readok plan v ok shard) then Some Unfit
    else None

-- a full round that found what the one before found is the last; behind another one the next begins, if there is one
abbrev pub round_of : Plan → View → Round
round_of plan v =
    if not (is_full plan v) then Waits
    else if is_steady plan v then Ends (view_reply plan v)
    else if v.round == last_round then Waits
    else GoesOn
