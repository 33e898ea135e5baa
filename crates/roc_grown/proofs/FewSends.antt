-- A coordinator's step that answers sends a message to each shard at most
use Rattle.std.proofs.Common.{◌≡◌, ℕ, ℤ, ◌≤◌, ◌==◌, Bool, true, false, List, [], Option, Some, None, length, map, arith}
use Rattle.std.proofs.lemmas.List.FromFn.{length-map-range_with_len}
use Rattle.std.specs.Prelude.{if◌then◌else◌}
use Rattle.std.specs.List.{range_with_len}
use Rattle.roc_base.specs.declared.id.TxnId.{TxnId}
use Rattle.roc_base.specs.declared.node.Shard.{Shard}
use Rattle.roc_msg.specs.declared.msg.Msg.{Msg}
use Rattle.roc_msg.specs.declared.msg.Msg.TheVariants.{StartOk, CommitOk, ReadOk}
use Rattle.roc_msg.specs.declared.reason.Reason.{Reason}
use Rattle.roc_plan.specs.Groups.{Plan}
use Rattle.roc_readonly.specs.declared.view.Round.{Round}
use Rattle.roc_readonly.specs.declared.view.Round.TheVariants.{Waits, Ends, GoesOn}
use Rattle.roc_readonly.specs.declared.view.TakenRead.{TakenRead}
use Rattle.roc_readonly.specs.declared.view.View.{View}
use Rattle.roc_readonly.specs.Round.{with_readok, round_of, readok_refusal}
use Rattle.roc_coord.specs.declared.handled.Handled.TheVariants.{Answered}
use Rattle.roc_coord.specs.declared.transaction.TakenCommit.{TakenCommit}
use Rattle.roc_coord.specs.declared.transaction.TakenStart.{TakenStart}
use Rattle.roc_coord.specs.declared.transaction.Transaction.{Transaction}
use Rattle.roc_coord.specs.Marks.{watermark, ended_to, ended_sends, passes_mark}
use Rattle.roc_coord.specs.State.{find_transaction, find_view, CoordState, CoordStep}
use Rattle.roc_coord.specs.Step.{unless_refused, answered_sends, after_message}
use Rattle.roc_coord.specs.Step.{with_startok, startok_taken, startok_refusal, after_startok}
use Rattle.roc_coord.specs.Step.{with_commitok, reply_now, commitok_taken, commitok_refusal, after_commitok, without_transaction}
use Rattle.roc_coord.specs.Step.{readok_taken, after_readok, without_view}

module _ (plan : Plan) where
  marks_few : (s : CoordState) → length (ended_sends plan s) ≤ plan.program.shards
  marks_few s = go (watermark s == 0)
    where
      all : length (map (ended_to s) (range_with_len 0 plan.program.shards)) ≡ plan.program.shards
      all = length-map-range_with_len (ended_to s) 0 plan.program.shards

      go : (b : Bool) → length (if b then [] else map (ended_to s) (range_with_len 0 plan.program.shards)) ≤ plan.program.shards
      go true = omega arith
      go false = omega (arith, all)

  answered_few : (old new : CoordState) → length (answered_sends plan old new) ≤ plan.program.shards
  answered_few old new = go (passes_mark old new)
    where
      go : (b : Bool) → length (if b then ended_sends plan new else []) ≤ plan.program.shards
      go true = marks_few new
      go false = omega arith

  module _ (s : CoordState) where
    abbrev IsFew : CoordStep → Type 0
    IsFew r = (id : TxnId) (reply : List ℤ) → r.answer ≡ Answered id reply → length r.sends ≤ plan.program.shards

    startok_few : (id : TxnId) (x : Option Transaction) (ok : TakenStart) (shard : Shard) → IsFew (after_startok plan s id x ok shard)
    startok_few id None ok shard u reply e = absurd (cc)
    startok_few id (Some x) ok shard u reply e = go (startok_refusal plan x ok shard) e
      where
        go : (r : Option Reason) → (unless_refused s r (startok_taken plan s (with_startok x ok))).answer ≡ Answered u reply
            → length (unless_refused s r (startok_taken plan s (with_startok x ok))).sends ≤ plan.program.shards
        go (Some why) e = absurd (cc)
        go None e = absurd (cc)

    commitok_few : (id : TxnId) (x : Option Transaction) (ok : TakenCommit) → IsFew (after_commitok plan s id x ok)
    commitok_few id None ok u reply e = absurd (cc)
    commitok_few id (Some x) ok u reply e = go (commitok_refusal plan x ok) (reply_now plan (with_commitok x ok)) e
      where
        go : (r : Option Reason) (gives : Option (List ℤ)) → (unless_refused s r (commitok_taken plan s (with_commitok x ok) gives)).answer ≡ Answered u reply
            → length (unless_refused s r (commitok_taken plan s (with_commitok x ok) gives)).sends ≤ plan.program.shards
        go (Some why) gives e = absurd (cc)
        go None None e = absurd (cc)
        go None (Some gave) e = answered_few s (without_transaction s (with_commitok x ok).id)

    readok_few : (id : TxnId) (x : Option View) (round : ℕ) (ok : TakenRead) (shard : Shard) → IsFew (after_readok plan s id x round ok shard)
    readok_few id None round ok shard u reply e = absurd (cc)
    readok_few id (Some v) round ok shard u reply e = go (readok_refusal plan v round ok shard) (round_of plan (with_readok v ok)) e
      where
        go : (r : Option Reason) (b : Round) → (unless_refused s r (readok_taken plan s (with_readok v ok) b)).answer ≡ Answered u reply
            → length (unless_refused s r (readok_taken plan s (with_readok v ok) b)).sends ≤ plan.program.shards
        go (Some why) b e = absurd (cc)
        go None Waits e = absurd (cc)
        go None GoesOn e = absurd (cc)
        go None (Ends gave) e = answered_few s (without_view s (with_readok v ok).id)

    pub answers_few : (msg : Msg) → IsFew (after_message plan s msg)
    answers_few (StartOk id group shard bound outs edges facts) =
        startok_few id (find_transaction id s.pending) (record { group = group; bound = bound; outs = outs; edges = edges; facts = facts }) shard
    answers_few (CommitOk id shard outs) = commitok_few id (find_transaction id s.pending) (record { shard = shard; outs = outs })
    answers_few (ReadOk id round group shard versions outs) = readok_few id (find_view id s.views) round (record { group = group; versions = versions; outs = outs }) shard
    answers_few msg = λ id reply e. absurd (cc)
