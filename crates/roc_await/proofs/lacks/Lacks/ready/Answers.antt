use Rattle.std.proofs.Common.{◌∙◌, List, ap, sym, subst}
use Rattle.std.specs.List.{flat_map}
use Rattle.roc_sequence.specs.Places.{IsListed}
use Rattle.roc_base.specs.TxnId.{is_txn}
use Rattle.roc_depgraph.specs.Closure.{IsRisingListOf}
use Rattle.roc_await.specs.declared.group.Group.{Group}
use Rattle.roc_await.specs.Inner.Groups.{all_lacks, decided_of}
use Rattle.roc_await.proofs.Taking.{left_lacks, now_decided, were_others}
use Rattle.roc_await.proofs.lacks.Lacks.ready.Goals as goal

pub returns-clause-lacks : goal.returns-clause-lacks
returns-clause-lacks c =
    let groups = c.in_ok-groups.groups.items in
    let now = ap all_lacks c.deref.ensures.value ∙ c.self.view_is in
    left_lacks c.requires.before c.args.deps.now groups c.undecided-groups.result.items
    (were_others c.args.deps.now c.args.ids.now c.args.self.now (all_lacks c.deref.result.now) (all_lacks groups) (sym now) c.in_ok-groups.ensures c.requires) c.undecided-groups.ensures

pub returns-clause-decided : goal.returns-clause-decided
returns-clause-decided c = λ were.
    let groups = c.in_ok-groups.groups.items in
    let now = ap all_lacks c.deref.ensures.value ∙ c.self.view_is in
    let Rising : List Group → Type 0 = λ gs. IsRisingListOf (IsListed is_txn (flat_map decided_of gs)) c.in_ok-decided.decided.items in
    now_decided were.before c.args.deps.now groups c.in_ok-decided.decided.items
    (were_others c.args.deps.now c.args.ids.now c.args.self.now (all_lacks c.deref.result.now) (all_lacks groups) (sym now) c.in_ok-groups.ensures were)
    (subst Rising c.deref-2.ensures.value c.in_ok-decided.ensures)
