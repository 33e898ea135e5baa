-- A coordinator that does not drain, and to which nothing comes next, is a coordinator of the plan
use Rattle.std.proofs.Common.{◌≡◌, ◌∙◌, ◌++◌, ◌&&◌, ◌==◌, Bool, true, false, not, ℕ, ℤ, List, [], ◌∷◌, Option, Some, None, Err, refl, ap, append-nil}
use Rattle.std.specs.Prelude.{nat_lt, if◌then◌else◌}
use Rattle.std.specs.List.{list_any}
use Rattle.roc_base.specs.declared.id.TxnId.{TxnId}
use Rattle.roc_base.specs.declared.node.Shard.{Shard}
use Rattle.roc_msg.specs.declared.msg.Msg.{Msg}
use Rattle.roc_msg.specs.declared.msg.Msg.TheVariants.{Drained, Switched}
use Rattle.roc_msg.specs.declared.outbox.Outgoing.{Outgoing}
use Rattle.roc_msg.specs.declared.reason.Reason.{Reason}
use Rattle.roc_msg.specs.declared.reason.Reason.TheVariants.{Foreign, Stale}
use Rattle.roc_plan.specs.Groups.{Plan}
use Rattle.roc_epoch.specs.declared.file.File.TheVariants.{First}
use Rattle.roc_epoch.specs.Files.{is_file, own_file}
use Rattle.roc_coord.specs.declared.handled.Handled.{Handled}
use Rattle.roc_coord.specs.declared.handled.Handled.TheVariants as core
use Rattle.roc_coord.specs.State.{CoordStep}
use Rattle.roc_coord.specs.Step.{after_message}
use Rattle.roc_coord.specs.Submit.{next_id, after_submit}
use Rattle.roc_coord.specs.Tick.{tick_sends}
use Rattle.roc_grown.specs.declared.handled.GrownAnswer.TheVariants.{Skipped}
use Rattle.roc_grown.specs.declared.handled.GrownFault.TheVariants.{Draining}
use Rattle.roc_grown.specs.Coord.{GrownCoordState, GrownCoordStep, GrownSubmission, DrainStep, is_empty, drained_sends, telling, tell_if_drained, told_behind, handled_so, as_core, of_core, was_told, switched_refusal, over_if_all, unless_refused, unchanged, after_filed, after_grown_message, submitted_to_core, after_grown_submit, told_again, grown_tick_sends}

module _ (plan : Plan) where
  tells_not : (s : GrownCoordState) → s.draining ≡ false → tell_if_drained plan s ≡ record { state = s; sends = [] }
  tells_not s e =
      let tells : Bool → DrainStep = λ d. if d && is_empty s.core.unanswered then record { state = telling s; sends = drained_sends plan (next_id s.core) } else record { state = s; sends = [] } in
      ap tells e

  told_not : (s : GrownCoordState) (answer : Handled) → s.draining ≡ false → told_behind plan s answer ≡ record { state = s; sends = [] }
  told_not s core.Done e = refl
  told_not s (core.Answered id reply) e = tells_not s e
  told_not s (core.Ignored why) e = refl

  pub core_alone : (s : GrownCoordState) (r : CoordStep) → s.draining ≡ false → of_core plan s r ≡ as_core s r
  core_alone s r e =
      let with_told : DrainStep → GrownCoordStep = λ told. record { answer = handled_so r.answer; state = told.state; sends = r.sends ++ told.sends } in
      let with_sends : List Outgoing → GrownCoordStep = λ sends. record { answer = handled_so r.answer; state = record s { core = r.state }; sends = sends } in
      ap with_told (told_not (record s { core = r.state }) r.answer e) ∙ ap with_sends (append-nil r.sends)

  foreign : (s : GrownCoordState) (upto : TxnId) (shard : Shard) → s.upto ≡ None → switched_refusal plan s upto shard ≡ Some Foreign
  foreign s upto shard e =
      let refuses : Option TxnId → Option Reason = λ told.
      if not (nat_lt shard.0 plan.program.shards && was_told upto told) then Some Foreign else if list_any (λ (t : Shard). t.0 == shard.0) s.at then Some Stale else None in
      ap refuses e ∙ go (nat_lt shard.0 plan.program.shards)
    where
      go : (b : Bool) → (if not (b && false) then Some Foreign else if list_any (λ (t : Shard). t.0 == shard.0) s.at then Some Stale else None) ≡ Some Foreign
      go true = refl
      go false = refl

  filed : (s : GrownCoordState) (msg : Msg) → s.draining ≡ false → s.switched ≡ false → after_filed plan None s First msg ≡ as_core s (after_message plan s.core msg)
  filed s msg e first =
      let takes : Bool → GrownCoordStep = λ switched. if is_file (own_file switched) First then of_core plan s (after_message plan s.core msg) else unchanged s Skipped in
      ap takes first ∙ core_alone s (after_message plan s.core msg) e

  pub plain_message : (s : GrownCoordState) (msg : Msg) → s.draining ≡ false → s.switched ≡ false → s.upto ≡ None → after_grown_message plan None s First msg ≡ as_core s (after_message plan s.core msg)
  plain_message s (Drained upto) e first none = refl
  plain_message s (Switched upto shard) e first none = ap (λ (why : Option Reason). unless_refused s why (over_if_all plan (record s { at = s.at ++ shard ∷ [] }))) (foreign s upto shard none)
  plain_message s msg e first none = filed s msg e first

  pub plain_submission : (s : GrownCoordState) (proc : ℕ) (args : List ℤ) → s.draining ≡ false → after_grown_submit plan None s proc args ≡ submitted_to_core s (after_submit plan s.core proc args)
  plain_submission s proc args e =
      let submits : Bool → GrownSubmission = λ d. if d then record { answer = Err Draining; state = s; sends = [] } else submitted_to_core s (after_submit plan s.core proc args) in
      ap submits e

  pub plain_tick : (s : GrownCoordState) → s.draining ≡ false → grown_tick_sends plan None s ≡ tick_sends plan s.core
  plain_tick s e =
      let sends : Bool → List Outgoing = λ d. tick_sends plan s.core ++ (if d then told_again plan s.upto else []) in
      ap sends e ∙ append-nil (tick_sends plan s.core)
