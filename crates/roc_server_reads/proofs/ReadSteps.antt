-- What comes of a step for reads
use Rattle.std.proofs.Common.{◌≡◌, ◌∷◌, Bool, true, false, not, cond, List, [], Option, None, map, filter, if◌then◌else◌, refl, sym, ap, subst, ◌∙◌, append-nil}
use Rattle.roc_base.specs.declared.node.Shard.{Shard}
use Rattle.roc_msg.specs.declared.msg.Msg.{Msg}
use Rattle.roc_msg.specs.Outbox.{Collected, HasSent}
use Rattle.roc_plan.specs.Groups.{Plan}
use Rattle.roc_rows.specs.Versions.{Counts}
use Rattle.roc_step.specs.declared.handled.Handled.{Handled}
use Rattle.roc_step.specs.declared.kept_read.KeptRead.{KeptRead}
use Rattle.roc_step.specs.Reads.{in_turn, is_taken, reads_with, with_accesses, ReadStep}
use Rattle.roc_step.specs.State.{Viewing}
use Rattle.roc_server_reads.specs.Answering.{answering_free, readok_over, AreReadsFound}
use Rattle.roc_server_reads.specs.Behind.{is_free_behind, LeftBehind}
use Rattle.roc_server_reads.specs.declared.views.StayingReads.{StayingReads}
use Rattle.roc_server_reads.specs.Views.{reads_then}

-- where none is free, all are those that are not
none_free : (free : KeptRead → Bool) (reads : List KeptRead) → filter free reads ≡ [] → filter (λ q. not (free q)) reads ≡ reads
none_free free [] none = refl
none_free free (q ∷ qs) none = go (free q) none (none_free free qs)
  where
    go : (b : Bool) → cond b (q ∷ filter free qs) (filter free qs) ≡ [] → (filter free qs ≡ [] → filter (λ x. not (free x)) qs ≡ qs)
        → cond (not b) (q ∷ filter (λ x. not (free x)) qs) (filter (λ x. not (free x)) qs) ≡ q ∷ qs
    go true h ih = absurd (cc)
    go false h ih = ap (λ rest. q ∷ rest) (ih h)

module _ (plan : Plan) (shard : Shard) (b : LeftBehind) (v : Viewing) (msg : Msg) (answer : Handled) where
  abbrev unmoved : ReadStep
  unmoved = record { viewing = v; sends = [] }

  -- nothing comes of a message that was ignored
  pub none_ignored : (out : Collected) → is_taken answer ≡ false → AreReadsFound plan shard b v msg answer out out None
  none_ignored out e =
      let whole : ReadStep = answering_free plan shard b (with_accesses v.versions out.ran) (reads_with msg answer v.reads) in
      let kept : Viewing = record { versions = with_accesses v.versions out.ran; reads = v.reads } in
      record {
        viewing = subst (λ (t : Bool). (if t then whole else unmoved).viewing ≡ (if t then kept else v)) (sym e) refl;
        sent = subst (λ (t : Bool). HasSent out out (if t then whole else unmoved).sends) (sym e) (sym (append-nil out.messages), refl, refl);
      }

  module _ (old new : Collected) (stays : Option StayingReads) (all : List KeptRead) (all_is : reads_with msg answer v.reads ≡ all)
      (stays_are : reads_then v.reads stays ≡ filter (λ q. not (is_free_behind plan b q)) all)
      (sent : HasSent old new (map (readok_over plan shard b.store (with_accesses v.versions old.ran)) (in_turn (filter (is_free_behind plan b) all)))) (taken : is_taken answer ≡ true) where
    abbrev counts : Counts
    counts = with_accesses v.versions old.ran

    -- the free ones were answered, and the others stay
    pub finds_reads : AreReadsFound plan shard b v msg answer old new stays
    finds_reads =
        let whole : ReadStep = answering_free plan shard b counts (reads_with msg answer v.reads) in
        let kept : Viewing = record { versions = counts; reads = reads_then v.reads stays } in
        let staying : whole.viewing ≡ kept =
        (λ i. record { versions = counts; reads = filter (λ q. not (is_free_behind plan b q)) (all_is i) }) ∙ (λ i. record { versions = counts; reads = sym stays_are i }) in
        let answered : HasSent old new whole.sends =
        subst (λ qs. HasSent old new (map (readok_over plan shard b.store counts) (in_turn (filter (is_free_behind plan b) qs)))) (sym all_is) sent in
        record {
          viewing = subst (λ (t : Bool). (if t then whole else unmoved).viewing ≡ (if t then kept else v)) (sym taken) staying;
          sent = subst (λ (t : Bool). HasSent old new (if t then whole else unmoved).sends) (sym taken) answered;
        }

  -- where none is free, all stay as they are
  pub finds_none : (out : Collected) → reads_with msg answer v.reads ≡ v.reads → filter (is_free_behind plan b) v.reads ≡ [] → is_taken answer ≡ true
      → AreReadsFound plan shard b v msg answer out out None
  finds_none out all none taken =
      finds_reads out out None v.reads all (sym (none_free (is_free_behind plan b) v.reads none))
      (subst (λ qs. HasSent out out (map (readok_over plan shard b.store (with_accesses v.versions out.ran)) (in_turn qs))) (sym none) (sym (append-nil out.messages), refl, refl))
      taken
