use Rattle.std.proofs.Common.{◌≡◌, ◌++◌, ◌∙◌, List, map, filter, ap, subst}
use Rattle.std.specs.List.{flat_map}
use Rattle.roc_sequence.specs.Places.{IsListed}
use Rattle.roc_base.specs.declared.id.TxnId.{TxnId}
use Rattle.roc_base.specs.TxnId.{is_txn}
use Rattle.roc_base.specs.Edge.{Dependency}
use Rattle.roc_depgraph.specs.Closure.{IsRisingListOf}
use Rattle.roc_await.specs.Inner.Groups.{is_other_unknown, missing_if_named}
use Rattle.roc_await.proofs.Taking.{found_missing}
use Rattle.roc_await.proofs.missing.missing_for.Goals as goal

pub returns : goal.returns
returns c = λ before taken is.
    let all = c.args.deps.now in
    let named : List TxnId = flat_map (missing_if_named c.args.id c.args.edges.now) c.args.groups.now in
    let unknown : List Dependency → List TxnId = λ es. filter (is_other_unknown all c.args.later.now c.args.id) (map (λ d. d.from) es) in
    let added : List TxnId → List TxnId = λ xs. named ++ xs in
    let both : List TxnId → List TxnId = λ xs. xs ++ c.deref.result.now in
    let found : c.extend_from_slice.new.self.items ≡ named ++ unknown c.args.edges.now =
    c.in_ok-extend_from_slice.ensures.items ∙ ap both c.in_ok-ids.ensures ∙ ap added (c.deref.ensures.value ∙ c.in_ok-unknown.ensures ∙ ap unknown c.as_slice.ensures.entries) in
    let P : List TxnId → Type 0 = λ xs. IsRisingListOf (IsListed is_txn xs) c.in_ok-missing.missing.items in
    found_missing before all c.args.id c.args.later.now c.args.edges.now is c.args.groups.now taken c.extend_from_slice.new.self.items c.in_ok-missing.missing.items found (subst P c.deref-2.ensures.value c.in_ok-missing.ensures)
