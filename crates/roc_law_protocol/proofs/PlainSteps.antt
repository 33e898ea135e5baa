-- Where a run begins a coordinator has no views; and a message of transactions leaves those that it has
use Rattle.std.proofs.Common.{◌≡◌, ℕ, ℤ, List, Option, Some, None, refl}
use Rattle.roc_msg.specs.declared.msg.Msg.{Msg}
use Rattle.roc_msg.specs.declared.msg.Msg.TheVariants.{StartOk, CommitOk, ReadOk}
use Rattle.roc_msg.specs.declared.reason.Reason.{Reason}
use Rattle.roc_plan.specs.Groups.{Plan}
use Rattle.roc_coord.specs.declared.transaction.TakenStart.{TakenStart}
use Rattle.roc_coord.specs.declared.transaction.TakenCommit.{TakenCommit}
use Rattle.roc_coord.specs.declared.transaction.Transaction.{Transaction}
use Rattle.roc_coord.specs.State.{find_transaction, CoordState}
use Rattle.roc_coord.specs.Step.{unless_refused, with_startok, startok_taken, startok_refusal, after_startok, with_commitok, reply_now, commitok_taken, commitok_refusal, after_commitok, after_message}
use Rattle.roc_law_protocol.specs.Beginnings.{Beginning, begun_coord}
use Rattle.roc_law_protocol.specs.Fits.{IsPlain}
use Rattle.roc_law_protocol.proofs.Submissions.{IsNoReadOk}

pub begun_plain : (start : Beginning) (n : ℕ) → IsPlain (begun_coord start n)
begun_plain start n = record { views = refl; unanswered = refl; once = tt; below = λ u h. absurd h }

-- ---- a message

pub views_left : (plan : Plan) (s : CoordState) (msg : Msg) → IsNoReadOk msg → (after_message plan s msg).state.views ≡ s.views
views_left plan s (StartOk id group shard bound outs edges facts) k = go (find_transaction id s.pending)
  where
    ok : TakenStart
    ok = record { group = group; bound = bound; outs = outs; edges = edges; facts = facts }

    go : (x : Option Transaction) → (after_startok plan s id x ok shard).state.views ≡ s.views
    go None = refl
    go (Some x) = refuses (startok_refusal plan x ok shard)
      where
        refuses : (o : Option Reason) → (unless_refused s o (startok_taken plan s (with_startok x ok))).state.views ≡ s.views
        refuses (Some why) = refl
        refuses None = refl
views_left plan s (CommitOk id shard outs) k = go (find_transaction id s.pending)
  where
    ok : TakenCommit
    ok = record { shard = shard; outs = outs }

    go : (x : Option Transaction) → (after_commitok plan s id x ok).state.views ≡ s.views
    go None = refl
    go (Some x) = refuses (commitok_refusal plan x ok) (reply_now plan (with_commitok x ok))
      where
        refuses : (o : Option Reason) (reply : Option (List ℤ)) → (unless_refused s o (commitok_taken plan s (with_commitok x ok) reply)).state.views ≡ s.views
        refuses (Some why) reply = refl
        refuses None None = refl
        refuses None (Some reply) = refl
views_left plan s (ReadOk id round group shard versions outs) k = absurd k
views_left plan s msg k = refl
