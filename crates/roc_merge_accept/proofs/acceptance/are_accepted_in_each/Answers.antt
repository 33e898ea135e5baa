use Rattle.std.proofs.Common.{ℕ, List, inl, inr, sym, subst, arith}
use Rattle.std.proofs.lemmas.Bool.{cases_eq}
use Rattle.roc_conflict.specs.Classes.{is_immediate}
use Rattle.roc_merge_groups.specs.Groups.{groups_in}
use Rattle.roc_merge_groups.specs.Accepted.{IsAcceptedIn}
use Rattle.roc_merge_accept.proofs.acceptance.are_accepted_in_each.Goals as goal

pub loop-proc-preserved : goal.loop-proc-preserved
loop-proc-preserved c = λ proc l.
    let P : List (List ℕ) → Type 0 = IsAcceptedIn c.args.workload.now (is_immediate c.args.classes.now) c.loop-proc.proc in
    let Q : ℕ → Type 0 = λ n. IsAcceptedIn c.args.workload.now (is_immediate c.args.classes.now) n (groups_in c.args.groups.now n) in
    elim (cases_eq proc c.loop-proc.proc) [
      | inl e ↦ subst Q (sym e) (subst P c.of_procedure.ensures (c.are_accepted_in.ensures.0 c.if-not-are_accepted_in.false))
      | inr n ↦ c.loop-proc.invariant proc (omega arith)
    ]
