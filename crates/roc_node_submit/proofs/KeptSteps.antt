-- What a core keeps over a message, of any plan, where any program names procedures
use Rattle.std.proofs.Common.{◌≡◌, ℕ, ℤ, List, [], ◌++◌, Option, Some, None, refl}
use Rattle.roc_sequence.proofs.Found.{found_has}
use Rattle.roc_sequence.proofs.Members.{has_map}
use Rattle.roc_base.specs.declared.id.TxnId.{TxnId}
use Rattle.roc_base.specs.TxnId.{is_txn}
use Rattle.roc_base.specs.declared.node.Shard.{Shard}
use Rattle.roc_plan.specs.Groups.{Plan}
use Rattle.roc_report.specs.Line.{Line}
use Rattle.roc_sched.specs.declared.line.Request.{Request}
use Rattle.roc_msg.specs.declared.msg.Msg.{Msg}
use Rattle.roc_msg.specs.declared.msg.Msg.TheVariants.{StartOk, CommitOk, ReadOk}
use Rattle.roc_msg.specs.declared.reason.Reason.{Reason}
use Rattle.roc_coord.specs.declared.transaction.Transaction.{Transaction}
use Rattle.roc_readonly.specs.declared.view.Round.{Round}
use Rattle.roc_readonly.specs.declared.view.Round.TheVariants.{Waits, Ends, GoesOn}
use Rattle.roc_readonly.specs.declared.view.TakenRead.{TakenRead}
use Rattle.roc_readonly.specs.declared.view.View.{View}
use Rattle.roc_readonly.specs.Round.{with_readok, readok_refusal, round_of, next_round}
use Rattle.roc_coord.specs.declared.transaction.TakenStart.{TakenStart}
use Rattle.roc_coord.specs.declared.transaction.TakenCommit.{TakenCommit}
use Rattle.roc_coord.specs.Ids.{ids_of, view_ids}
use Rattle.roc_coord.specs.Starts.{with_starts}
use Rattle.roc_coord.specs.State.{CoordState, CoordStep, find_transaction, with_transaction, find_view, with_view}
use Rattle.roc_coord.specs.Step.{after_message, after_startok, after_commitok, unless_refused, startok_taken, startok_refusal, with_startok, with_commits, commitok_taken, commitok_refusal, with_commitok, reply_now, after_readok, readok_taken}
use Rattle.roc_node_submit.specs.CoordRun.{reply_lines, answered_then}
use Rattle.roc_program.specs.Program.{Workload}
use Rattle.roc_node_submit.proofs.Counts.{waits, ids_with}
use Rattle.roc_node_submit.proofs.Keeping.{Kept, kept_same, kept_replied, kept_read}

module _ (plan : Plan) (program : Workload) (number : ℕ) (taken : List Request) (state : CoordState) (lines : List Line) (answered : ℕ) (k : Kept program number taken state lines answered) where
  abbrev KeptStep : CoordStep → Type 0
  KeptStep r = Kept program number taken r.state (lines ++ reply_lines r.answer) (answered_then answered r.answer)

  pub nothing_new : Kept program number taken state (lines ++ []) answered
  nothing_new = kept_same program number taken state state.pending state.views lines answered refl refl k

  changed : (x : Transaction) → Kept program number taken (with_transaction state x) (lines ++ []) answered
  changed x = kept_same program number taken state (with_transaction state x).pending state.views lines answered (ids_with (λ (y : Transaction). y.id) x state.pending) refl k

  read : (v : View) → Kept program number taken (with_view state v) (lines ++ []) answered
  read v = kept_same program number taken state state.pending (with_view state v).views lines answered refl (ids_with (λ (w : View). w.id) v state.views) k

  kept_startok : (id : TxnId) (found : Option Transaction) (ok : TakenStart) (shard : Shard) → KeptStep (after_startok plan state id found ok shard)
  kept_startok id None ok shard = nothing_new
  kept_startok id (Some x) ok shard = go (startok_refusal plan x ok shard)
    where
      go : (why : Option Reason) → KeptStep (unless_refused state why (startok_taken plan state (with_startok x ok)))
      go (Some reason) = nothing_new
      go None = changed (with_commits plan (with_starts plan (with_startok x ok)))

  kept_commitok : (id : TxnId) (found : Option Transaction) (ok : TakenCommit) → find_transaction id state.pending ≡ found → KeptStep (after_commitok plan state id found ok)
  kept_commitok id None ok e = nothing_new
  kept_commitok id (Some x) ok e = go (commitok_refusal plan x ok)
    where
      replied : (reply : Option (List ℤ)) → KeptStep (commitok_taken plan state (with_commitok x ok) reply)
      replied None = changed (with_commitok x ok)
      replied (Some reply) =
          let has = found_has (λ (y : Transaction). is_txn y.id id) state.pending x e in
          kept_replied program number taken state lines answered x.id reply k (waits x.id (ids_of state.pending) (has_map (λ (y : Transaction). y.id) x state.pending has.0))

      go : (why : Option Reason) → KeptStep (unless_refused state why (commitok_taken plan state (with_commitok x ok) (reply_now plan (with_commitok x ok))))
      go (Some reason) = nothing_new
      go None = replied (reply_now plan (with_commitok x ok))

  kept_readok : (id : TxnId) (found : Option View) (round : ℕ) (ok : TakenRead) (shard : Shard) → find_view id state.views ≡ found → KeptStep (after_readok plan state id found round ok shard)
  kept_readok id None round ok shard e = nothing_new
  kept_readok id (Some v) round ok shard e = go (readok_refusal plan v round ok shard)
    where
      came_to : (r : Round) → KeptStep (readok_taken plan state (with_readok v ok) r)
      came_to Waits = read (with_readok v ok)
      came_to (Ends reply) =
          let has = found_has (λ (w : View). is_txn w.id id) state.views v e in
          kept_read program number taken state lines answered v.id reply k (waits v.id (view_ids state.views) (has_map (λ (w : View). w.id) v state.views has.0))
      came_to GoesOn = read (next_round (with_readok v ok))

      go : (why : Option Reason) → KeptStep (unless_refused state why (readok_taken plan state (with_readok v ok) (round_of plan (with_readok v ok))))
      go (Some reason) = nothing_new
      go None = came_to (round_of plan (with_readok v ok))

  pub kept_message : (msg : Msg) → KeptStep (after_message plan state msg)
  kept_message (StartOk id group shard bound outs edges facts) = kept_startok id (find_transaction id state.pending) _ shard
  kept_message (CommitOk id shard outs) = kept_commitok id (find_transaction id state.pending) _ refl
  kept_message (ReadOk id round group shard versions outs) = kept_readok id (find_view id state.views) round _ shard refl
  kept_message msg = nothing_new
