-- What a coordinator sends again at a tick, which changes nothing: docs/PROTOCOL.md, "Ticks"
use Rattle.std.specs.Prelude.{ℕ, Bool, not, ◌&&◌, ◌++◌, List, [], Option, Some, None, is_some, is_none, map, filter, if◌then◌else◌}
use Rattle.std.specs.List.{flat_map}
use Rattle.roc_base.specs.declared.id.TxnId.{TxnId}
use Rattle.roc_msg.specs.declared.outbox.Outgoing.{Outgoing}
use Rattle.roc_plan.specs.Groups.{Plan}
use Rattle.roc_coord.specs.declared.transaction.Transaction.{Transaction}
use Rattle.roc_coord.specs.State.{find_transaction, find_view, find_start, find_startok, has_commitok, CoordState}
use Rattle.roc_coord.specs.Marks.{ended_sends}
use Rattle.roc_readonly.specs.Round.{reads_again}
use Rattle.roc_readonly.specs.declared.view.View.{View}
use Rattle.roc_coord.specs.Starts.{group_numbers, start_for, all_started, commit_to}

-- a group that was asked to start, and has no startok
abbrev pub awaits_startok : Transaction → ℕ → Bool
awaits_startok x group = is_some (find_start group x.starts) && is_none (find_startok group x.startoks)

-- the starts without a startok, in group order
abbrev pub starts_again : Plan → Transaction → List Outgoing
starts_again plan x = map (start_for plan x) (filter (awaits_startok x) (group_numbers plan x.proc))

-- the commits without a commitok, by shard
abbrev pub commits_again : Transaction → List Outgoing
commits_again x = map (commit_to x) (filter (λ shard. not (has_commitok shard x.commitoks)) x.asked)

abbrev pub sent_again : Plan → Transaction → List Outgoing
sent_again plan x = if all_started plan x then commits_again x else starts_again plan x

abbrev pub transaction_again : Plan → Option Transaction → List Outgoing
transaction_again plan (Some x) = sent_again plan x
transaction_again plan None = []

abbrev pub view_again : Plan → Option View → List Outgoing
view_again plan (Some v) = reads_again plan v
view_again plan None = []

-- what has no answer of a transaction or a view
abbrev pub again_of : Plan → CoordState → TxnId → List Outgoing
again_of plan s id = transaction_again plan (find_transaction id s.pending) ++ view_again plan (find_view id s.views)

-- of each without a reply, by id; and behind these the watermark
abbrev pub tick_sends : Plan → CoordState → List Outgoing
tick_sends plan s = flat_map (again_of plan s) s.unanswered ++ ended_sends plan s
