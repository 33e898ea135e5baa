-- What comes of a message at a coordinator: docs/PROTOCOL.md, "Coordinator"
use Rattle.std.specs.Prelude.{◌≡◌, ℕ, ℤ, Bool, not, ◌&&◌, ◌==◌, List, [], ◌∷◌, ◌++◌, Option, Some, None, is_some, length, filter, if◌then◌else◌}
use Rattle.std.specs.List.{list_any}
use Rattle.roc_base.specs.declared.id.TxnId.{TxnId}
use Rattle.roc_base.specs.declared.node.Shard.{Shard}
use Rattle.roc_base.specs.TxnId.{is_txn}
use Rattle.roc_msg.specs.declared.msg.Msg.{Msg}
use Rattle.roc_msg.specs.declared.msg.Msg.TheVariants.{StartOk, CommitOk, ReadOk}
use Rattle.roc_msg.specs.Outbox.{Collected, HasSent}
use Rattle.roc_msg.specs.declared.outbox.Outgoing.{Outgoing}
use Rattle.roc_msg.specs.declared.reason.Reason.{Reason}
use Rattle.roc_msg.specs.declared.reason.Reason.TheVariants.{Foreign, Stale, Unfit}
use Rattle.roc_plan.specs.Groups.{Plan}
use Rattle.roc_coord.specs.declared.handled.Handled.{Handled}
use Rattle.roc_coord.specs.declared.handled.Handled.TheVariants.{Done, Answered}
use Rattle.roc_coord.specs.declared.transaction.TakenStart.{TakenStart}
use Rattle.roc_coord.specs.declared.transaction.TakenCommit.{TakenCommit}
use Rattle.roc_coord.specs.declared.transaction.Transaction.{Transaction}
use Rattle.roc_readonly.specs.declared.view.TakenRead.{TakenRead}
use Rattle.roc_readonly.specs.declared.view.View.{View}
use Rattle.roc_readonly.specs.declared.view.Round.{Round}
use Rattle.roc_readonly.specs.declared.view.Round.TheVariants.{Waits, Ends, GoesOn}
use Rattle.roc_readonly.specs.Round.{with_readok, readok_refusal, round_of, next_round, reads_of}
use Rattle.roc_coord.specs.State.{ignored, find_transaction, with_transaction, find_view, with_view, find_startok, was_asked, has_commitok, CoordState, CoordStep}
use Rattle.roc_coord.specs.Starts.{with_starts, starts_of, all_started, shards_of, commits_of, bound_count, out_count}
use Rattle.roc_coord.specs.Marks.{passes_mark, ended_sends}
use Rattle.roc_coord.specs.Commits.{places_on, all_committed, reply_of}

-- this was answered, the state is now this one, and an outbox has gained what is sent
pub record IsOutcome (step : CoordStep) (answered : Handled) (reached : CoordState) (before after : Collected) : Type 0 where
  pub answer : answered ≡ step.answer
  pub state : reached ≡ step.state
  pub sent : HasSent before after (step.sends)

-- where there is a reason to, a message is ignored
abbrev pub unless_refused : CoordState → Option Reason → CoordStep → CoordStep
unless_refused s (Some reason) step = ignored s reason
unless_refused s None step = step

-- ---- a StartOk

-- a start that was asked for, with the counts of the plan
abbrev pub is_fit_startok : Plan → Transaction → TakenStart → Shard → Bool
is_fit_startok plan x ok shard =
    was_asked x ok.group shard && length ok.bound == bound_count plan x.proc ok.group && length ok.outs == out_count plan x.proc ok.group

-- the commits are sent once every group has started
abbrev pub with_commits : Plan → Transaction → Transaction
with_commits plan x = if all_started plan x then record x { asked = shards_of x } else x

abbrev pub commits_for : Plan → Transaction → List Outgoing
commits_for plan x = if all_started plan x then commits_of x else []

abbrev pub with_startok : Transaction → TakenStart → Transaction
with_startok x ok = record x { startoks = x.startoks ++ ok ∷ [] }

-- the starts that became ready; and once every group has started, the commits
abbrev pub sends_after : Plan → Transaction → List Outgoing
sends_after plan x = starts_of plan x ++ commits_for plan (with_starts plan x)

abbrev pub startok_taken : Plan → CoordState → Transaction → CoordStep
startok_taken plan s x = record { answer = Done; state = with_transaction s (with_commits plan (with_starts plan x)); sends = sends_after plan x }

-- why it is not taken: the first reason that holds
abbrev pub startok_refusal : Plan → Transaction → TakenStart → Shard → Option Reason
startok_refusal plan x ok shard =
    if is_some (find_startok ok.group x.startoks) then Some Stale
    else if not (is_fit_startok plan x ok shard) then Some Unfit
    else None

-- an answer to nothing that waits for it: unfit where a view waits for others, or else stale
abbrev pub unasked : Option View → Reason
unasked (Some v) = Unfit
unasked None = Stale

abbrev pub after_startok : Plan → CoordState → TxnId → Option Transaction → TakenStart → Shard → CoordStep
after_startok plan s id None ok shard = ignored s (unasked (find_view id s.views))
after_startok plan s id (Some x) ok shard = unless_refused s (startok_refusal plan x ok shard) (startok_taken plan s (with_startok x ok))

-- ---- a CommitOk

-- the shard was asked to commit
abbrev pub is_asked : Transaction → Shard → Bool
is_asked x shard = list_any (λ asked. asked.0 == shard.0) x.asked

-- from a shard that was asked to commit, with the counts of the plan
abbrev pub is_fit_commitok : Plan → Transaction → TakenCommit → Bool
is_fit_commitok plan x ok = is_asked x ok.shard && length ok.outs == length (places_on plan x ok.shard)

abbrev pub with_commitok : Transaction → TakenCommit → Transaction
with_commitok x ok = record x { commitoks = x.commitoks ++ ok ∷ [] }

-- its reply, with the last of its shards' answers
abbrev pub reply_now : Plan → Transaction → Option (List ℤ)
reply_now plan x = if all_committed x then Some (reply_of plan x) else None

-- an answered transaction is kept no longer
abbrev pub without_transaction : CoordState → TxnId → CoordState
without_transaction s id =
    record s { pending = filter (λ x. not (is_txn x.id id)) s.pending; unanswered = filter (λ u. not (is_txn u id)) s.unanswered }

-- an answer that brings the watermark to or past a multiple of 64 tells it to each shard
abbrev pub answered_sends : Plan → (old new : CoordState) → List Outgoing
answered_sends plan old new = if passes_mark old new then ended_sends plan new else []

abbrev pub commitok_taken : Plan → CoordState → Transaction → Option (List ℤ) → CoordStep
commitok_taken plan s x None = record { answer = Done; state = with_transaction s x; sends = [] }
commitok_taken plan s x (Some reply) =
    record { answer = Answered x.id reply; state = without_transaction s x.id; sends = answered_sends plan s (without_transaction s x.id) }

-- why it is not taken: the first reason that holds
abbrev pub commitok_refusal : Plan → Transaction → TakenCommit → Option Reason
commitok_refusal plan x ok =
    if has_commitok ok.shard x.commitoks then Some Stale
    else if not (is_fit_commitok plan x ok) then Some Unfit
    else None

abbrev pub after_commitok : Plan → CoordState → TxnId → Option Transaction → TakenCommit → CoordStep
after_commitok plan s id None ok = ignored s (unasked (find_view id s.views))
after_commitok plan s id (Some x) ok =
    let taken = with_commitok x ok in
    unless_refused s (commitok_refusal plan x ok) (commitok_taken plan s taken (reply_now plan taken))

-- ---- a ReadOk

-- an answered view is kept no longer
abbrev pub without_view : CoordState → TxnId → CoordState
without_view s id =
    record s { views = filter (λ v. not (is_txn v.id id)) s.views; unanswered = filter (λ u. not (is_txn u id)) s.unanswered }

-- an answer of the round under way was taken
abbrev pub readok_taken : Plan → CoordState → View → Round → CoordStep
readok_taken plan s v Waits = record { answer = Done; state = with_view s v; sends = [] }
readok_taken plan s v (Ends reply) =
    record { answer = Answered v.id reply; state = without_view s v.id; sends = answered_sends plan s (without_view s v.id) }
readok_taken plan s v GoesOn = record { answer = Done; state = with_view s (next_round v); sends = reads_of plan (next_round v) }

-- an answer to nothing that waits for it: unfit where a transaction waits for others, or else stale
abbrev pub unread : Option Transaction → Reason
unread (Some x) = Unfit
unread None = Stale

abbrev pub after_readok : Plan → CoordState → TxnId → Option View → (round : ℕ) → TakenRead → Shard → CoordStep
after_readok plan s id None round ok shard = ignored s (unread (find_transaction id s.pending))
after_readok plan s id (Some v) round ok shard =
    let taken = with_readok v ok in
    unless_refused s (readok_refusal plan v round ok shard) (readok_taken plan s taken (round_of plan taken))

-- ---- any message

-- what comes of a message. A kind that no coordinator takes is foreign
abbrev pub after_message : Plan → CoordState → Msg → CoordStep
after_message plan s (StartOk id group shard bound outs edges facts) =
    after_startok plan s id (find_transaction id s.pending) (record { group = group; bound = bound; outs = outs; edges = edges; facts = facts }) shard
after_message plan s (CommitOk id shard outs) = after_commitok plan s id (find_transaction id s.pending) (record { shard = shard; outs = outs })
after_message plan s (ReadOk id round group shard versions outs) =
    after_readok plan s id (find_view id s.views) round (record { group = group; versions = versions; outs = outs }) shard
after_message plan s msg = ignored s Foreign
