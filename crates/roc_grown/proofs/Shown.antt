-- What comes of a message at a server, as an outbox shows it
use Rattle.std.proofs.Common.{◌≡◌, ◌∙◌, ◌||◌, Bool, true, false, Option, Result, Ok, Err, IfOk, refl, sym, ap, subst, append-nil}
use Rattle.roc_base.specs.declared.id.TxnId.{TxnId}
use Rattle.roc_base.specs.declared.node.Shard.{Shard}
use Rattle.roc_msg.specs.declared.msg.Msg.{Msg}
use Rattle.roc_msg.specs.declared.msg.Msg.TheVariants.{Drained, Switched}
use Rattle.roc_msg.specs.declared.reason.NodeFault.{NodeFault}
use Rattle.roc_msg.specs.declared.reason.Reason.TheVariants.{Foreign}
use Rattle.roc_msg.specs.Outbox.{Collected}
use Rattle.roc_plan.specs.Groups.{Plan}
use Rattle.roc_epoch.specs.declared.file.File.{File}
use Rattle.roc_epoch.specs.declared.next.Next.{Next}
use Rattle.roc_epoch.specs.Files.{is_between, is_file, own_file, is_for, own_plan}
use Rattle.roc_epoch.proofs.Files.{file_is, file_is_not}
use Rattle.roc_step.specs.declared.handled.Handled.{Handled}
use Rattle.roc_step.specs.Reads.{AnswersReads, ReadStep}
use Rattle.roc_step.specs.State.{ServerState, ServerStep, Viewing}
use Rattle.roc_step.specs.Step.{Handles, Shows}
use Rattle.roc_grown.specs.declared.handled.GrownHandled.{GrownHandled}
use Rattle.roc_grown.specs.declared.handled.GrownHandled.TheVariants.{Skipped, Ignored}
use Rattle.roc_grown.specs.Server.{unchanged, skip_at, after_drained, foreign_at, handled_so, of_core, GrownServerState, GrownStep, GrownHandles, of_drained, of_switched, of_other, of_own, ShowsGrown}

-- nothing comes of it but its answer
pub unchanged_shown : (s : GrownServerState) (answer : GrownHandled) (outbox : Collected) → ShowsGrown (unchanged s answer) answer s outbox outbox
unchanged_shown s answer outbox =
    record { answers = refl; keeps = refl; sends = sym (append-nil outbox.messages); decides = sym (append-nil outbox.decided); ran = sym (append-nil outbox.ran) }

module _ (plan : Plan) (next : Option Next) (s : GrownServerState) (file : File) (msg : Msg) (none : is_between msg ≡ false) where
  its_file : (b : Bool) → is_for s.switched file msg ≡ b → is_file (own_file s.switched) file ≡ b
  its_file b is = ap (λ between. between || is_file (own_file s.switched) file) (sym none) ∙ is

  pub skipped : is_for s.switched file msg ≡ false → (outbox : Collected) → (g : GrownStep) × GrownHandles plan next s file msg g × ShowsGrown g Skipped s outbox outbox
  skipped is outbox = (skip_at s, of_other msg _ none (λ same. file_is_not (own_file s.switched) file (its_file false is) (sym same)) refl, unchanged_shown s Skipped outbox)

  pub owned : is_for s.switched file msg ≡ true → (own : Plan) → own ≡ own_plan plan next s.switched → (answer : Handled) (told : GrownHandled) → told ≡ handled_so answer
      → (state : ServerState) (viewing : Viewing) (old new : Collected)
      → (r : ServerStep) × (q : ReadStep) × Handles own s.core msg r × AnswersReads own s.viewing msg r q × Shows r q answer state viewing old new
      → (g : GrownStep) × GrownHandles plan next s file msg g × ShowsGrown g told (record s { core = state; viewing = viewing }) old new
  owned is own same answer told tells state viewing old new (r, q, handles, reads, shown) =
      let ours : Handles (own_plan plan next s.switched) s.core msg r = subst (λ p. Handles p s.core msg r) same handles in
      let read : AnswersReads (own_plan plan next s.switched) s.viewing msg r q = subst (λ p. AnswersReads p s.viewing msg r q) same reads in (
        of_core s r q,
        of_own msg r q _ none (sym (file_is (own_file s.switched) file (its_file true is))) ours read refl,
        record {
          answers = ap handled_so shown.answers ∙ sym tells;
          keeps = λ i. record s { core = shown.keeps i; viewing = shown.views i };
          sends = shown.sends;
          decides = shown.decides;
          ran = shown.ran;
        },
      )

module _ (plan : Plan) (next : Option Next) (s : GrownServerState) (file : File) (msg : Msg) where
  pub drained_shown : (upto : TxnId) → msg ≡ Drained upto → (result : Result GrownHandled NodeFault) (state : GrownServerState) (old new : Collected)
      → IfOk result (λ answer. ShowsGrown (after_drained next s upto) answer state old new)
      → IfOk result (λ answer. (g : GrownStep) × GrownHandles plan next s file msg g × ShowsGrown g answer state old new)
  drained_shown upto is (Ok answer) state old new shown = (after_drained next s upto, subst (λ m. GrownHandles plan next s file m (after_drained next s upto)) (sym is) (of_drained upto _ refl), shown)
  drained_shown upto is (Err fault) state old new shown = tt

  pub foreign_shown : (upto : TxnId) (shard : Shard) → msg ≡ Switched upto shard → (outbox : Collected)
      → (g : GrownStep) × GrownHandles plan next s file msg g × ShowsGrown g (Ignored Foreign) s outbox outbox
  foreign_shown upto shard is outbox =
      (foreign_at s, subst (λ m. GrownHandles plan next s file m (foreign_at s)) (sym is) (of_switched upto shard _ refl), unchanged_shown s (Ignored Foreign) outbox)
