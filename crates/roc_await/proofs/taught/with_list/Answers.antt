use Rattle.std.proofs.Common.{List, sym, ap, subst}
use Rattle.roc_base.specs.declared.id.TxnId.{TxnId}
use Rattle.roc_depgraph.specs.Closure.{IsRisingListOf}
use Rattle.roc_depgraph.specs.Deps.{learnt}
use Rattle.roc_await.specs.Lacks.{IsMissing}
use Rattle.roc_await.specs.Inner.Groups.{all_lacks}
use Rattle.roc_await.proofs.Taking.{next_there, missing_others, one_taken}
use Rattle.roc_await.proofs.taught.with_list.Goals as goal

pub returns-in-None : goal.returns-in-None
returns-in-None c = λ before taken. absurd (next_there before c.args.deps.now c.args.id c.args.later.now (all_lacks c.args.groups.items) taken (sym c.in-None.ensures))

pub returns-in_ok-groups-in-Some : goal.returns-in_ok-groups-in-Some
returns-in_ok-groups-in-Some c = λ before taken.
    let all = c.args.deps.now in
    let u = c.args.id in
    let later = c.args.later.now in
    let edges = c.in-Some.edges.now in
    let is = sym c.in-Some.ensures in
    let olds = all_lacks c.args.groups.items in
    let Fresh : List TxnId → Type 0 = IsRisingListOf (IsMissing (learnt taken.known u edges) u) in
    let missing = missing_others before all u later edges c.in_ok-fresh-in-Some.fresh.items olds (all_lacks c.deref.result.now) (ap all_lacks (sym c.deref.ensures.value)) (λ same. c.in_ok-fresh-in-Some.ensures before same is) taken in
    let fresh : Fresh c.deref-in-Some.result.now = subst Fresh (sym c.deref-in-Some.ensures.value) missing in
    one_taken before all u later edges is olds (all_lacks c.in_ok-groups-in-Some.groups.items) c.deref-in-Some.result.now taken fresh c.in_ok-groups-in-Some.ensures
