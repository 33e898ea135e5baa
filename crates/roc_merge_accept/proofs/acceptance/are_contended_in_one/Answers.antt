use Rattle.std.proofs.Common.{◌≡◌, ◌∙◌, ℕ, ◌<◌, Bool, List, length, map, filter, sym, ap, subst, inl, inr, arith}
use Rattle.std.proofs.lemmas.Bool.{cases_eq, false≢true}
use Rattle.std.proofs.lemmas.List.Sums.{length-filter}
use Rattle.std.specs.List.{count_by}
use Rattle.roc_conflict.specs.Classes.{is_immediate}
use Rattle.roc_merge_groups.specs.Groups.{groups_in}
use Rattle.roc_merge_accept.specs.Inner.Tests.{has_contended, AreContendedIn}
use Rattle.roc_merge_accept.proofs.Parting.{filter_seen}
use Rattle.roc_merge_accept.proofs.Tested.{together_from_few, few_from_together}
use Rattle.roc_merge_accept.proofs.acceptance.are_contended_in_one.Goals as goal

-- how many groups are contended, over the code's groups
seen : {V : Type 0} (p : List ℕ → Bool) (f : V → List ℕ) (vs : List V) (groups : List (List ℕ)) (n : ℕ) → map f vs ≡ groups → n ≡ count_by (λ v. p (f v)) vs → length (filter p groups) ≡ n
seen p f vs groups n e h = ap (λ (gs : List (List ℕ)). length (filter p gs)) (sym e) ∙ filter_seen p f vs ∙ length-filter (λ v. p (f v)) vs ∙ sym h

pub returns-then-contended_groups-gt1 : goal.returns-then-contended_groups-gt1
returns-then-contended_groups-gt1 c =
    let below : c.loop-proc.proc < length c.args.workload.now.procedures = omega arith in
    let groups = groups_in c.args.groups.now c.loop-proc.proc in
    let count = seen (has_contended c.args.workload.now (is_immediate c.args.classes.now) c.loop-proc.proc) (λ g. g.items) c.of_procedure.result.now groups c.contended_groups.result c.of_procedure.ensures c.contended_groups.ensures in (
      λ t. absurd (false≢true t),
      λ all.
          let few = few_from_together c.args.workload.now (is_immediate c.args.classes.now) c.loop-proc.proc groups (c.requires c.loop-proc.proc below) (all c.loop-proc.proc below) in
          absurd (omega (arith, few, count, c.if-contended_groups-gt1.true)),
    )

pub loop-proc-preserved : goal.loop-proc-preserved
loop-proc-preserved c = λ proc l.
    let below : c.loop-proc.proc < length c.args.workload.now.procedures = omega arith in
    let groups = groups_in c.args.groups.now c.loop-proc.proc in
    let count = seen (has_contended c.args.workload.now (is_immediate c.args.classes.now) c.loop-proc.proc) (λ g. g.items) c.of_procedure.result.now groups c.contended_groups.result c.of_procedure.ensures c.contended_groups.ensures in
    let P : ℕ → Type 0 = λ n. AreContendedIn c.args.workload.now (is_immediate c.args.classes.now) n (groups_in c.args.groups.now n) in
    elim (cases_eq proc c.loop-proc.proc) [
      | inl e ↦ subst P (sym e) (together_from_few c.args.workload.now (is_immediate c.args.classes.now) c.loop-proc.proc groups (c.requires c.loop-proc.proc below) (omega (arith, count, c.if-contended_groups-gt1.false)))
      | inr n ↦ c.loop-proc.invariant proc (omega arith)
    ]
