-- What leads to the ids so far was found, and what leads to the others is left
use Rattle.std.proofs.Common.{◌≡◌, ◌∙◌, ◌+◌, ◌++◌, ◌∷◌, suc, List, drop, get_or, sym, ap, append_assoc, append-nil, arith}
use Rattle.std.proofs.Math.Seq.{drop-cons}
use Rattle.std.proofs.lemmas.List.{drop_all}
use Rattle.roc_base.specs.declared.id.TxnId.{TxnId}
use Rattle.roc_depgraph.specs.Deps.{entries_of}
use Rattle.roc_component.specs.Inner.Before.{from_ids, leading_to, outside}
use Rattle.roc_component.proofs.before.leading_to.Goals as goal

pub loop-id-init : goal.loop-id-init
loop-id-init c = ap (λ xs. xs ++ leading_to c.args.lists.now c.args.ids.now c.args.ids.now) c.new-found.ensures.items

pub loop-id-preserved : goal.loop-id-preserved
loop-id-preserved c =
    let none : TxnId = record { coord = 0; seq = 0 } in
    let ids : List TxnId = c.args.ids.now in
    let i = c.loop-id.id-index in
    let x : TxnId = get_or ids i none in
    let found : List TxnId = c.loop-id.found.items in
    let own : List TxnId = outside ids (from_ids (entries_of c.args.lists.now x)) in
    let rest : List TxnId → List TxnId = leading_to c.args.lists.now ids in
    let next : suc i ≡ i + 1 = omega arith in
    let others : c.deref-in-loop-id.result.now ≡ own = c.deref-in-loop-id.ensures.value ∙ c.in_ok-others.ensures ∙ ap (outside ids) (c.deref.ensures.value ∙ c.in_ok-all.ensures) in
    ap (λ ys. ys ++ rest (drop (i + 1) ids)) (c.in_ok-extend_from_slice.ensures.items ∙ ap (λ ys. found ++ ys) others) ∙ append_assoc found own (rest (drop (i + 1) ids))
    ∙ ap (λ k. found ++ rest (x ∷ drop k ids)) (sym next) ∙ ap (λ ys. found ++ rest ys) (sym (drop-cons ids i none c.loop-id-test.true)) ∙ c.loop-id.invariant

pub returns : goal.returns
returns c =
    let left : List TxnId → List TxnId = λ ids. c.loop-id.found.items ++ leading_to c.args.lists.now c.args.ids.now ids in
    sym (append-nil c.loop-id.found.items) ∙ ap left (sym (drop_all c.loop-id.id-index c.args.ids.now c.loop-id-test.false)) ∙ c.loop-id.invariant
