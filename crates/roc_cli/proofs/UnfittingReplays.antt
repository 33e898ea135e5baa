-- Why a replay is not done whose schedule is none, or whose workload to grow to is none
use Rattle.std.proofs.Common.{◌≡◌, inl, inr, ℕ, ◌<◌, ◌≤◌, List, length, Option, Some, Ok, refl, sym, subst, arith}
use Rattle.roc_program.specs.Program.{Workload}
use Rattle.roc_plan.specs.Groups.{Plan}
use Rattle.roc_epoch.specs.declared.next.Next.{Next}
use Rattle.roc_epoch.specs.Grown.{IsGrownFrom}
use Rattle.roc_report.specs.Checked.{CheckedLine}
use Rattle.roc_check.specs.Checked.{IsTextOf, IsPlanOfText}
use Rattle.roc_sched.specs.Schedule.{most_bytes}
use Rattle.roc_replay.specs.declared.asked.BoundLine.{BoundLine}
use Rattle.roc_replay.specs.BoundLine.{IsScheduleOf}
use Rattle.roc_replay.specs.Played.{AsksOnlySent}
use Rattle.roc_cli_words.specs.Commands.{check, print, gen}
use Rattle.roc_cli_nodes.specs.Call.{WholeCall}
use Rattle.roc_cli_nodes.proofs.Naming.{unlike}
use Rattle.roc_cli_nodes.proofs.Named.{nodes_named, child_named}
use Rattle.roc_cli_files.specs.Held.{HoldsPlan, HoldsRejected}
use Rattle.roc_cli_files.specs.NodeNames.{HoldsNext}
use Rattle.roc_cli.specs.Done.{IsReplayUnder, IsReplayOf, Replays, ComesToNext, in_replay, in_nodes}
use Rattle.roc_cli.specs.Stopped.{CutsOutput, in_report, in_text, in_check, in_rejection, in_generated, in_verdict}
use Rattle.roc_cli.specs.Fit.{ReplayAsked, TellsFollowing}
use Rattle.roc_cli.specs.Unfit as unfit
use Rattle.roc_cli.specs.Unfit.{TellsNoPlan, LacksSchedule}
use Rattle.roc_cli.specs.Inner.Ends.{Ends}
use Rattle.roc_cli.specs.Inner.Faultless.{IsUndone, IsUnplanned, IsUnwritten, IsUnplayed}
use Rattle.roc_cli.specs.Inner.Texts.{TextLaws}
use Rattle.roc_cli.proofs.Commands.{not_audit, audited_words, refuted_words}
use Rattle.roc_cli.proofs.Fitting.{told, same_plan, not_rejected}
use Rattle.roc_cli.proofs.FittingReplays.{command, no_nodes, asked_taken, same_asked, same_text, comes_named, following, same_following, told_next, held_next, asked_right, asked_acceptable}
use Rattle.roc_cli.proofs.FittingReplays.{its_name, next_right}
use Rattle.roc_cli.proofs.Unfitting.{unplanned_held}

module _ (laws : TextLaws) (call : WholeCall) (asked : ReplayAsked call.run) where
  abbrev content : List ℕ → Option (List ℕ)
  content = call.run.files.content

  -- where nothing was replayed, nothing was done
  asked_undone : (Replays call.run → ⊥) → IsUndone call
  asked_undone none = record {
    taken = asked_taken laws call.run asked;
    unrun = λ end h. (let named = nodes_named call end h in no_nodes laws call.run asked named.0 named.1);
    no_child = λ shard status h. (let named = child_named call shard status h in no_nodes laws call.run asked named.0 named.1);
    undone = undone;
    unrefuted = λ h. not_audit ⊥ call.run.words (command laws call.run asked) asked.given refl (refuted_words call.run h);
  }
    where
      undone : Ends call.run (Ok tt) → ⊥
      undone (inl done) = none done
      undone (inr (inl done)) = unlike ⊥ call.run.words (print done.workload) (command laws call.run asked) done.given asked.given refl
      undone (inr (inr (inl done))) = unlike ⊥ call.run.words (check done.workload) (command laws call.run asked) done.given asked.given refl
      undone (inr (inr (inr (inl done)))) = unlike ⊥ call.run.words (gen done.seed done.shards done.txns done.part) (command laws call.run asked) done.given asked.given refl
      undone (inr (inr (inr (inr done)))) = not_audit ⊥ call.run.words (command laws call.run asked) asked.given refl (audited_words call.run done)

  -- where there is nothing to replay, and what is to come next is not rejected either, nothing was due to be written
  asked_unwritten : ((plan : Plan) (next : Option Next) (bytes : List ℕ) → IsReplayOf call.run plan next bytes → ⊥)
      → ((name : List ℕ) (plan : Plan) (program : Workload) (said : CheckedLine) → ComesToNext call.run name plan → HoldsRejected content name program said → ⊥) → IsUnwritten call
  asked_unwritten none unrejected = record {
    is = asked_undone (λ done. none done.plan done.next done.bytes done.asked);
    acceptable = λ h. asked_acceptable laws call.run asked unrejected h.workload h.program h.said h.named h.held;
    uncut = uncut;
  }
    where
      uncut : CutsOutput call.run → ⊥
      uncut (in_report plan next bytes of h) = none plan next bytes of
      uncut (in_text workload tree given held front) = unlike ⊥ call.run.words (print workload) (command laws call.run asked) given asked.given refl
      uncut (in_check workload plan given held front) = unlike ⊥ call.run.words (check workload) (command laws call.run asked) given asked.given refl
      uncut (in_rejection workload program said comes held front) = asked_acceptable laws call.run asked unrejected workload program said comes held
      uncut (in_generated seed shards txns part text given generated front) = unlike ⊥ call.run.words (gen seed shards txns part) (command laws call.run asked) given asked.given refl
      uncut (in_verdict plan logs of verdict is front) = not_audit ⊥ call.run.words (command laws call.run asked) asked.given refl (of.asked.workload, _, of.asked.given)

  -- ---- a workload to grow to

  module _ (name : List ℕ) (coords : ℕ) (few : length asked.text ≤ most_bytes) (is : asked.growth ≡ Some (name, coords)) where
    -- it has to be a grown one
    nothing_follows : ((next : Next) → HoldsNext content name asked.plan.program coords next → ⊥) → (plan : Plan) (next : Option Next) (bytes : List ℕ) → IsReplayOf call.run plan next bytes → ⊥
    nothing_follows none plan next bytes of =
        let found = held_next content asked.plan name coords asked.growth next is (following laws call.run asked plan next bytes of) in
        none found.0 found.1

    same_coming : (other : List ℕ) (plan : Plan) → ComesToNext call.run other plan → other ≡ name
    same_coming other plan comes = its_name laws call.run asked name coords is other plan comes

    module _ (bytes : List ℕ) (held : content name ≡ Some bytes) where
      -- none in scope
      module _ (none : (program : Workload) → IsTextOf bytes program → ⊥) where
        no_text_held : (other : List ℕ) (plan : Plan) → other ≡ name → HoldsPlan content other plan → ⊥
        no_text_held other plan same h = none plan.program (subst (λ b. IsTextOf b plan.program) (sym (told content name other bytes h.bytes held same h.held)) h.is.text)

        no_text_rejected : (other : List ℕ) (plan : Plan) (program : Workload) (said : CheckedLine) → ComesToNext call.run other plan → HoldsRejected content other program said → ⊥
        no_text_rejected other plan program said comes h =
            none program (subst (λ b. IsTextOf b program) (sym (told content name other bytes h.bytes held (same_coming other plan comes) h.held)) h.is.text)

        pub textless_next : IsUnwritten call
        textless_next = asked_unwritten (nothing_follows (λ next h. no_text_held name next.plan refl h.held.0)) no_text_rejected

      -- no grown one
      module _ (new : Plan) (planned : IsPlanOfText bytes new) (none : IsGrownFrom asked.plan.program new.program → ⊥) where
        pub ungrown_next : IsUnwritten call
        ungrown_next =
            asked_unwritten
            (nothing_follows (λ next h.
            none (subst (λ (p : Plan). IsGrownFrom asked.plan.program p.program) (same_plan laws content name bytes held new planned name next.plan refl h.held.0) h.grown)))
            (λ other plan program said comes h. not_rejected laws content name bytes held new planned other program said (same_coming other plan comes) h)

    -- no acceptable one
    module _ (lacks : TellsNoPlan content name) where
      pub unplanned_next : IsUnplanned call
      unplanned_next = record {
        is = asked_undone (λ done. nothing_follows (λ next h. unplanned_held laws content name name next.plan lacks refl h.held.0) done.plan done.next done.bytes done.asked);
        right =
            asked_right laws call.run asked few
            (next_right laws call.run asked name lacks.bytes coords is lacks.held lacks.program lacks.text (λ fault h. unplanned_held laws content name name h.plan lacks refl h.held))
            (λ plan next bytes of number what h. nothing_follows (λ m h. unplanned_held laws content name name m.plan lacks refl h.held.0) plan next bytes of);
      }

-- ---- bytes that are no schedule of the last plan

module _ (laws : TextLaws) (call : WholeCall) (asked : ReplayAsked call.run) where
  -- too many
  module _ (long : most_bytes < length asked.text) where
    not_long : (plan : Plan) (bytes : List ℕ) → IsReplayUnder call.run plan bytes → ⊥
    not_long plan bytes under = let few = subst (λ b. length b ≤ most_bytes) (sym (same_text laws call.run asked plan bytes under)) under.size in absurd (omega arith)

    nothing_comes : (name : List ℕ) (plan : Plan) → ComesToNext call.run name plan → ⊥
    nothing_comes name plan (in_replay bytes coords under is) = not_long plan bytes under
    nothing_comes name plan (in_nodes files tag addrs requests coords named held is) = no_nodes laws call.run asked files named

    long_unplayed : IsUnplayed call
    long_unplayed = record {
      is = asked_undone laws call asked (λ done. not_long done.plan done.bytes done.asked.under);
      acceptable = λ h. asked_acceptable laws call.run asked (λ name plan program said comes held. nothing_comes name plan comes) h.workload h.program h.said h.named h.held;
    }

  module _ (next : Option Next) (follows : TellsFollowing call.run.files.content asked.plan asked.growth next)
      (none : (lines : List BoundLine) → IsScheduleOf asked.plan next asked.text lines → AsksOnlySent asked.plan next lines → ⊥) where
    not_replayed : Replays call.run → ⊥
    not_replayed done =
        let lines : List BoundLine = done.run.asked in
        let p : done.plan ≡ asked.plan = same_asked laws call.run asked done.plan done.bytes done.asked.under in
        let b : asked.text ≡ done.bytes = same_text laws call.run asked done.plan done.bytes done.asked.under in
        let n : done.next ≡ next = same_following laws call.run.files.content asked.plan asked.growth next done.next follows (following laws call.run asked done.plan done.next done.bytes done.asked) in
        none lines
        (subst (λ (q : Plan). IsScheduleOf q next asked.text lines) p
        (subst (λ (m : Option Next). IsScheduleOf done.plan m asked.text lines) n (subst (λ t. IsScheduleOf done.plan done.next t lines) (sym b) done.run.of_schedule)))
        (subst (λ (q : Plan). AsksOnlySent q next lines) p
        (subst (λ (m : Option Next). AsksOnlySent done.plan m lines) n (laws.sent done.plan done.next lines done.run.steps done.run.world done.run.played)))

    next_acceptable : (name : List ℕ) (plan : Plan) (program : Workload) (said : CheckedLine) → ComesToNext call.run name plan → HoldsRejected call.run.files.content name program said → ⊥
    next_acceptable name plan program said comes held =
        let found = comes_named laws call.run asked name plan comes in
        let t = told_next call.run.files.content asked.plan name found.0 asked.growth next found.1 follows in
        not_rejected laws call.run.files.content name t.1.bytes t.1.held t.0.plan t.1.planned name program said refl held

    misfit_unplayed : IsUnplayed call
    misfit_unplayed = record {
      is = asked_undone laws call asked not_replayed;
      acceptable = λ h. asked_acceptable laws call.run asked next_acceptable h.workload h.program h.said h.named h.held;
    }

pub unplayed : (laws : TextLaws) (call : WholeCall) → LacksSchedule call.run → IsUnplayed call
unplayed laws call (unfit.too_long asked long) = long_unplayed laws call asked long
unplayed laws call (unfit.unplayed asked next follows none) = misfit_unplayed laws call asked next follows none
