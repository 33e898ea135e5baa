-- The fold of a server over its own events stands for its records
use Rattle.std.proofs.Common.{List, [], ◌∷◌, ◌++◌, Some, None, refl, sym, subst}
use Rattle.roc_base.specs.declared.node.Shard.{Shard}
use Rattle.roc_msg.specs.declared.msg.Msg.{Msg}
use Rattle.roc_msg.specs.declared.outbox.Outgoing.{Outgoing}
use Rattle.roc_plan.specs.Groups.{Plan}
use Rattle.roc_step.specs.Reads.{first_viewing, AnswersReads, ReadStep}
use Rattle.roc_step.specs.Restarts.{without_reads, recorded, cut_short, cut_reads, StandsFor, nothing_kept}
use Rattle.roc_step.specs.State.{ServerState, ServerStep, Viewing}
use Rattle.roc_step.specs.Step as server
use Rattle.roc_law_protocol.specs.declared.event.Kept.TheVariants.{Lost, Sent}
use Rattle.roc_law_nodes.specs.Own.{OwnEvent, delivered, ticked, requested, stopped}
use Rattle.roc_law_nodes.specs.Fold.{ServerSteps, IsServerFold, server_begun, server_goes_on}
use Rattle.roc_law_nodes.specs.Records.{IsRecordedFold, no_record, by_message, by_tick, by_stop, by_loss, by_last}

module _ (plan : Plan) (shard : Shard)
    (stand : (msgs : List Msg) (s : ServerState) (v : Viewing) (msg : Msg) (r : ServerStep) (q : ReadStep) → StandsFor plan shard msgs s v
    → server.Handles plan s msg r → AnswersReads plan v msg r q → StandsFor plan shard (recorded msgs msg r.answer) r.state q.viewing)
    (restart : (msgs : List Msg) (s : ServerState) (v : Viewing) → StandsFor plan shard msgs s v → StandsFor plan shard msgs s (without_reads v)) where
  -- with some records
  abbrev pub HasRecords : List OwnEvent → ServerState → Viewing → Type 0
  HasRecords events s v = (records : List Msg) × IsRecordedFold plan shard events records s v × StandsFor plan shard records s v

  one_more : (events : List OwnEvent) (s : ServerState) (v : Viewing) (own : OwnEvent) (after : ServerState) (kept : Viewing) (outs : List Outgoing) → ServerSteps plan s v own after kept outs → HasRecords events s v
      → HasRecords (events ++ own ∷ []) after kept
  one_more events s v (delivered msg) after kept outs (r, q, handles, answers, is, views, sends) (records, fold, stands) =
      subst (λ a. HasRecords (events ++ delivered msg ∷ []) a kept) (sym is) (subst (λ k. HasRecords (events ++ delivered msg ∷ []) r.state k) (sym views)
      (recorded records msg r.answer, by_message msg r q fold handles answers, stand records s v msg r q stands handles answers))
  one_more events s v ticked after kept outs (is, views, sends) (records, fold, stands) =
      subst (λ a. HasRecords (events ++ ticked ∷ []) a kept) (sym is) (subst (λ k. HasRecords (events ++ ticked ∷ []) s k) (sym views) (records, by_tick fold, stands))
  one_more events s v (requested proc args) after kept outs h k = absurd h
  one_more events s v (stopped None) after kept outs (is, views, sends) (records, fold, stands) =
      subst (λ a. HasRecords (events ++ stopped None ∷ []) a kept) (sym is) (subst (λ k. HasRecords (events ++ stopped None ∷ []) s k) (sym views)
      (records, by_stop fold, restart records s v stands))
  one_more events s v (stopped (Some (msg, Lost))) after kept outs (is, views, sends) (records, fold, stands) =
      subst (λ a. HasRecords (events ++ stopped (Some (msg, Lost)) ∷ []) a kept) (sym is) (subst (λ k. HasRecords (events ++ stopped (Some (msg, Lost)) ∷ []) s k) (sym views)
      (records, by_loss msg fold, restart records s v stands))
  one_more events s v (stopped (Some (msg, Sent many))) after kept outs (r, q, handles, answers, is, views, sends) (records, fold, stands) =
      subst (λ a. HasRecords (events ++ stopped (Some (msg, Sent many)) ∷ []) a kept) (sym is) (subst (λ k. HasRecords (events ++ stopped (Some (msg, Sent many)) ∷ []) r.state k) (sym views) (
        recorded records msg r.answer,
        by_last msg many r q fold handles answers,
        restart (recorded records msg r.answer) r.state q.viewing (stand records s v msg r q stands handles answers),
      ))

  pub has_records : {events : List OwnEvent} {s : ServerState} {v : Viewing} {messages : List Outgoing} → IsServerFold plan shard events s v messages → HasRecords events s v
  has_records server_begun = ([], no_record, record { viewing = first_viewing; fold = nothing_kept; versions = refl })
  has_records (server_goes_on {events = events} {s = s} {v = v} own after kept outs f h) = one_more events s v own after kept outs h (has_records f)

  -- ---- the other way

  pub recorded_stands : {events : List OwnEvent} {records : List Msg} {s : ServerState} {v : Viewing} → IsRecordedFold plan shard events records s v → StandsFor plan shard records s v
  recorded_stands no_record = record { viewing = first_viewing; fold = nothing_kept; versions = refl }
  recorded_stands (by_message {records = records} {s = s} {v = v} msg r q f handles answers) = stand records s v msg r q (recorded_stands f) handles answers
  recorded_stands (by_tick f) = recorded_stands f
  recorded_stands (by_stop {records = records} {s = s} {v = v} f) = restart records s v (recorded_stands f)
  recorded_stands (by_loss {records = records} {s = s} {v = v} msg f) = restart records s v (recorded_stands f)
  recorded_stands (by_last {records = records} {s = s} {v = v} msg many r q f handles answers) =
      restart (recorded records msg r.answer) r.state q.viewing (stand records s v msg r q (recorded_stands f) handles answers)

  -- a fold with its messages
  abbrev pub IsSomeFold : List OwnEvent → ServerState → Viewing → Type 0
  IsSomeFold events s v = (messages : List Outgoing) × IsServerFold plan shard events s v messages

  step_more : {events : List OwnEvent} {s : ServerState} {v : Viewing} (own : OwnEvent) (after : ServerState) (kept : Viewing) (outs : List Outgoing) → ServerSteps plan s v own after kept outs
      → IsSomeFold events s v → IsSomeFold (events ++ own ∷ []) after kept
  step_more own after kept outs h (messages, fold) = (messages ++ outs, server_goes_on own after kept outs fold h)

  pub recorded_folds : {events : List OwnEvent} {records : List Msg} {s : ServerState} {v : Viewing} → IsRecordedFold plan shard events records s v → IsSomeFold events s v
  recorded_folds no_record = ([], server_begun)
  recorded_folds (by_message msg r q f handles answers) = step_more (delivered msg) r.state q.viewing (r.sends ++ q.sends) (r, q, handles, answers, refl, refl, refl) (recorded_folds f)
  recorded_folds (by_tick {s = s} {v = v} f) = step_more ticked s v (server.tick_sends s) (refl, refl, refl) (recorded_folds f)
  recorded_folds (by_stop {s = s} {v = v} f) = step_more (stopped None) s (without_reads v) (server.tick_sends s) (refl, refl, refl) (recorded_folds f)
  recorded_folds (by_loss {s = s} {v = v} msg f) = step_more (stopped (Some (msg, Lost))) s (without_reads v) (server.tick_sends s) (refl, refl, refl) (recorded_folds f)
  recorded_folds (by_last msg many r q f handles answers) =
      step_more (stopped (Some (msg, Sent many))) r.state (without_reads q.viewing) (((cut_short many r).sends ++ (cut_reads many r q).sends) ++ server.tick_sends r.state)
      (r, q, handles, answers, refl, refl, refl) (recorded_folds f)
