use Rattle.std.proofs.Common.{◌+◌, ◌++◌, ◌∷◌, [], take, drop, sym, ap, subst, ◌∙◌}
use Rattle.roc_sequence.proofs.Fronts.{front_more, rest_at}
use Rattle.roc_step.specs.declared.kept_read.KeptRead.{KeptRead}
use Rattle.roc_server_reads.specs.Behind.{AreHolders}
use Rattle.roc_server_reads.specs.Looks.{first_hint, looks_for, looks_for_all, other_hints}
use Rattle.roc_server_reads.proofs.Parting.{holders_append, looks_more, looks_rest, other_drop}
use Rattle.roc_server_reads.proofs.free_reads.holders_of.Goals as goal

pub loop-at-preserved : goal.loop-at-preserved
loop-at-preserved g c =
    let plan = c.args.plan.now in
    let b = c.args.behind.now in
    let reads = c.args.reads.now in
    let hints = c.args.hints.now in
    let at = c.loop-at.at in
    let q = c.index-reads-at.result in
    let h = c.in_ok-holder.holder in
    let done = c.loop-at.holders.items in
    let left = rest_at reads at q c.loop-at-test.true ∙ ap (λ (x : KeptRead). x ∷ drop (at + 1) reads) (sym c.index-reads-at.is) in
    record {
      holders = subst (AreHolders plan b (take (at + 1) reads)) (sym c.in_ok-push.ensures.items)
          (subst (λ qs. AreHolders plan b qs (done ++ h ∷ [])) (front_more reads at q c.loop-at-test.true c.index-reads-at.is)
          (holders_append plan b (take at reads) (q ∷ []) done (h ∷ []) c.loop-at.invariant.holders (c.in_ok-holder.ensures.holder, tt)));
      steps = looks_more c.loop-at.steps c.holder_of.new.steps (looks_for plan b q c.hint_at-hint.result) (looks_for plan b q (first_hint (drop at hints)))
          (looks_for_all plan b (drop at reads) (drop at hints)) (looks_for_all plan b (drop (at + 1) reads) (other_hints (drop at hints)))
          (looks_for_all plan b (drop (at + 1) reads) (drop (at + 1) hints))
          (c.args.steps.now + looks_for_all plan b reads hints)
          c.holder_of.ensures.steps c.loop-at.invariant.steps (looks_rest plan b (drop at reads) (drop (at + 1) reads) q (drop at hints) left)
          (ap (looks_for plan b q) c.hint_at-hint.ensures) (ap (looks_for_all plan b (drop (at + 1) reads)) (other_drop hints at));
    }
