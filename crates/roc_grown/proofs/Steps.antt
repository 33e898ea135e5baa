-- What comes of a message at a server is one, it is there, and without growth it is what a server of the plan makes of it
use Rattle.std.proofs.Common.{◌≡◌, ◌≢◌, ◌∙◌, Bool, true, false, [], Option, None, refl, sym, ap, subst}
use Rattle.std.proofs.lemmas.Bool.{false≢true}
use Rattle.roc_base.specs.declared.id.TxnId.{TxnId}
use Rattle.roc_msg.specs.declared.msg.Msg.{Msg}
use Rattle.roc_msg.specs.declared.msg.Msg.TheVariants.{Drained, Switched}
use Rattle.roc_msg.specs.declared.reason.Reason.TheVariants.{Foreign}
use Rattle.roc_plan.specs.Groups.{Plan}
use Rattle.roc_epoch.specs.declared.file.File.{File}
use Rattle.roc_epoch.specs.declared.file.File.TheVariants.{First}
use Rattle.roc_epoch.specs.declared.next.Next.{Next}
use Rattle.roc_epoch.specs.Files.{is_between, is_file, own_file, own_plan}
use Rattle.roc_epoch.proofs.Files.{file_is, file_is_not}
use Rattle.roc_step.specs.Reads.{reads_behind, AnswersReads, ReadStep}
use Rattle.roc_step.specs.State.{ignored, ServerStep}
use Rattle.roc_step.specs.Step.{Handles}
use Rattle.roc_step.proofs.OneStep.{one_step, one_read_step}
use Rattle.roc_grown.specs.Server.{after_drained, foreign_at, skip_at, of_core, GrownServerState, GrownStep, GrownHandles, of_drained, of_switched, of_other, of_own}

-- a message that is of neither file, and one that is not
apart : (m n : Msg) → is_between m ≡ true → is_between n ≡ false → m ≢ n
apart m n is none same = false≢true (sym none ∙ ap is_between (sym same) ∙ is)

drained_one : (u v : TxnId) → Drained u ≡ Drained v → u ≡ v
drained_one u v e = cc

module _ (plan : Plan) (next : Option Next) (s : GrownServerState) (file : File) where
  abbrev own : Plan
  own = own_plan plan next s.switched

  pub one_grown_step : {m n : Msg} {g h : GrownStep} → GrownHandles plan next s file m g → GrownHandles plan next s file n h → m ≡ n → g ≡ h
  one_grown_step (of_drained u g e) (of_drained v h k) same = e ∙ ap (after_drained next s) (drained_one u v same) ∙ sym k
  one_grown_step (of_drained u g e) (of_switched v shard h k) same = absurd (cc)
  one_grown_step (of_drained u g e) (of_other n h none other k) same = absurd (apart (Drained u) n refl none same)
  one_grown_step (of_drained u g e) (of_own n r q h none is handles reads k) same = absurd (apart (Drained u) n refl none same)
  one_grown_step (of_switched u shard g e) (of_drained v h k) same = absurd (cc)
  one_grown_step (of_switched u shard g e) (of_switched v other h k) same = e ∙ sym k
  one_grown_step (of_switched u shard g e) (of_other n h none other k) same = absurd (apart (Switched u shard) n refl none same)
  one_grown_step (of_switched u shard g e) (of_own n r q h none is handles reads k) same = absurd (apart (Switched u shard) n refl none same)
  one_grown_step (of_other m g none other e) (of_drained v h k) same = absurd (apart (Drained v) m refl none (sym same))
  one_grown_step (of_other m g none other e) (of_switched v shard h k) same = absurd (apart (Switched v shard) m refl none (sym same))
  one_grown_step (of_other m g none other e) (of_other n h none2 other2 k) same = e ∙ sym k
  one_grown_step (of_other m g none other e) (of_own n r q h none2 is handles reads k) same = absurd (other is)
  one_grown_step (of_own m r q g none is handles reads e) (of_drained v h k) same = absurd (apart (Drained v) m refl none (sym same))
  one_grown_step (of_own m r q g none is handles reads e) (of_switched v shard h k) same = absurd (apart (Switched v shard) m refl none (sym same))
  one_grown_step (of_own m r q g none is handles reads e) (of_other n h none2 other k) same = absurd (other is)
  one_grown_step (of_own m r q g none is handles reads e) (of_own n r2 q2 h none2 is2 handles2 reads2 k) same =
      let step : r ≡ r2 = one_step own s.core n r r2 (subst (λ m. Handles own s.core m r) same handles) handles2 in
      let moved : AnswersReads own s.viewing n r2 q = subst (λ r. AnswersReads own s.viewing n r q) step (subst (λ m. AnswersReads own s.viewing m r q) same reads) in
      let read : q ≡ q2 = one_read_step own s.viewing n r2 q q2 moved reads2 in
      e ∙ (λ i. of_core s (step i) (read i)) ∙ sym k

  pub grown_step_there : (msg : Msg) (r : ServerStep) (q : ReadStep) → Handles own s.core msg r → AnswersReads own s.viewing msg r q → (g : GrownStep) × GrownHandles plan next s file msg g
  grown_step_there (Drained upto) r q handles reads = (after_drained next s upto, of_drained upto _ refl)
  grown_step_there (Switched upto shard) r q handles reads = (foreign_at s, of_switched upto shard _ refl)
  grown_step_there msg r q handles reads = go (is_file (own_file s.switched) file) refl
    where
      go : (b : Bool) → is_file (own_file s.switched) file ≡ b → (g : GrownStep) × GrownHandles plan next s file msg g
      go true e = (of_core s r q, of_own msg r q _ refl (sym (file_is (own_file s.switched) file e)) handles reads refl)
      go false e = (skip_at s, of_other msg _ refl (λ same. file_is_not (own_file s.switched) file e (sym same)) refl)

-- ---- without growth

module _ (plan : Plan) (s : GrownServerState) where
  -- to a server of the plan a drained and a switched are foreign
  plain_foreign : (msg : Msg) (r : ServerStep) (q : ReadStep) → r ≡ ignored s.core Foreign → AnswersReads plan s.viewing msg r q → of_core s r q ≡ foreign_at s
  plain_foreign msg r q is reads =
      let read : q ≡ record { viewing = s.viewing; sends = [] } = reads.is ∙ ap (reads_behind plan reads.decided s.viewing msg) is in
      λ i. of_core s (is i) (read i)

  pub plain_step : {msg : Msg} {g : GrownStep} → GrownHandles plan None s First msg g → s.switched ≡ false → (r : ServerStep) (q : ReadStep) → Handles plan s.core msg r → AnswersReads plan s.viewing msg r q
      → g ≡ of_core s r q
  plain_step (of_drained u g e) first r q handles reads = e ∙ sym (plain_foreign (Drained u) r q handles.is reads)
  plain_step (of_switched u shard g e) first r q handles reads = e ∙ sym (plain_foreign (Switched u shard) r q handles.is reads)
  plain_step (of_other m g none other e) first r q handles reads = absurd (other (sym (ap own_file first)))
  plain_step (of_own m r2 q2 g none is handles2 reads2 e) first r q handles reads =
      let step : r2 ≡ r = one_step plan s.core m r2 r handles2 handles in
      let moved : AnswersReads plan s.viewing m r q2 = subst (λ r. AnswersReads plan s.viewing m r q2) step reads2 in
      let read : q2 ≡ q = one_read_step plan s.viewing m r q2 q moved reads in
      e ∙ (λ i. of_core s (step i) (read i))
