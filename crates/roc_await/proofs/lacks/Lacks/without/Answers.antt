use Rattle.std.proofs.Common.{◌∙◌, List, ap, subst}
use Rattle.std.specs.List.{flat_map}
use Rattle.roc_sequence.specs.Places.{IsListed}
use Rattle.roc_base.specs.TxnId.{is_txn}
use Rattle.roc_depgraph.specs.Closure.{IsRisingListOf}
use Rattle.roc_await.specs.declared.group.Group.{Group}
use Rattle.roc_await.specs.declared.lack.Lack.{Lack}
use Rattle.roc_await.specs.Inner.Groups.{all_lacks, decided_of}
use Rattle.roc_await.specs.Inner.Shortened.{AreShortened}
use Rattle.roc_await.proofs.Releases.{released_now}
use Rattle.roc_await.proofs.Taking.{left_lacks, now_decided}
use Rattle.roc_await.proofs.lacks.Lacks.without.Goals as goal

pub returns-clause-lacks : goal.returns-clause-lacks
returns-clause-lacks c = λ known left r are.
    let groups = c.in_ok-groups.groups.items in
    let Shorter : List Lack → Type 0 = λ olds. AreShortened c.args.gone.now olds (all_lacks groups) in
    let shorter = subst Shorter (ap all_lacks c.deref.ensures.value ∙ c.self.view_is) c.in_ok-groups.ensures in
    left_lacks known left groups c.undecided-groups.result.items (released_now known left c.args.gone.now r c.args.self.now (all_lacks groups) are shorter) c.undecided-groups.ensures

pub returns-clause-decided : goal.returns-clause-decided
returns-clause-decided c = λ known left r are.
    let groups = c.in_ok-groups.groups.items in
    let Shorter : List Lack → Type 0 = λ olds. AreShortened c.args.gone.now olds (all_lacks groups) in
    let shorter = subst Shorter (ap all_lacks c.deref.ensures.value ∙ c.self.view_is) c.in_ok-groups.ensures in
    let Rising : List Group → Type 0 = λ gs. IsRisingListOf (IsListed is_txn (flat_map decided_of gs)) c.in_ok-decided.decided.items in
    now_decided known left groups c.in_ok-decided.decided.items (released_now known left c.args.gone.now r c.args.self.now (all_lacks groups) are shorter) (subst Rising c.deref-2.ensures.value c.in_ok-decided.ensures)
