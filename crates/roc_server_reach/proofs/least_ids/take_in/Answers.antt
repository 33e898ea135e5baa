use Rattle.std.proofs.Common.{◌≡◌, List, [], ◌∷◌, ◌++◌, length, ◌≤◌, ◌<◌, get_or, ap, sym, subst, take, ◌∙◌}
use Rattle.std.specs.declared.cmp.Ordering.TheVariants.{Equal}
use Rattle.roc_base.specs.declared.id.TxnId.{TxnId}
use Rattle.roc_base.specs.TxnId.{is_txn, txn_cmp}
use Rattle.roc_sequence.specs.Places.{IsListed}
use Rattle.roc_server_reach.specs.Least.{most_least_ids, AreLeastIds}
use Rattle.roc_server_reach.proofs.TakenIn.{SaysPlace, taken_in, passed, beyond, found_in, code_lt}
use Rattle.roc_server_reach.proofs.least_ids.take_in.Goals as goal

pub returns-then-lt : goal.returns-then-lt
returns-then-lt c met l =
    let at = c.in-Some.ensures.lookup.3 in
    beyond met c.args.ids.now.items c.args.id l c.in-Some.last.now (subst (λ (v : List TxnId). 15 < length v) c.deref.ensures.value at.0)
    (subst (λ (v : List TxnId). (d : TxnId) → c.in-Some.last.now ≡ get_or v 15 d) c.deref.ensures.value at.1)
    (sym (code_lt c.in-Some.last.now c.args.id) ∙ (sym c.lt.ensures ∙ c.if-lt.true))

pub returns-in_ok-insert : goal.returns-in_ok-insert
returns-in_ok-insert c met l =
    let ids = c.args.ids.now.items in
    let at = c.in-Err.at in
    let within = subst (λ (v : List TxnId). at ≤ length v) c.deref-2.ensures.value c.in-Err.ensures.bound in
    let said = subst (λ (v : List TxnId). SaysPlace v c.args.id at) c.deref-2.ensures.value c.in-Err.ensures.position in
    subst (λ (v : List TxnId). AreLeastIds (IsListed is_txn (met ++ c.args.id ∷ [])) v) (sym (c.truncate.ensures.items ∙ ap (λ (v : List TxnId). take most_least_ids v) c.in_ok-insert.ensures.items))
    (taken_in met ids c.args.id l at within said)

pub returns-else-at-lt-MOST_LEAST : goal.returns-else-at-lt-MOST_LEAST
returns-else-at-lt-MOST_LEAST c met l =
    let at = c.in-Err.at in
    let within = subst (λ (v : List TxnId). at ≤ length v) c.deref-2.ensures.value c.in-Err.ensures.bound in
    let said = subst (λ (v : List TxnId). SaysPlace v c.args.id at) c.deref-2.ensures.value c.in-Err.ensures.position in
    passed met c.args.ids.now.items c.args.id l at within said c.if-at-lt-MOST_LEAST.false

pub returns-in_default-binary_search : goal.returns-in_default-binary_search
returns-in_default-binary_search c met l =
    let at = c.in_default-binary_search.field-0 in
    found_in met c.args.ids.now.items c.args.id l at
    (subst (λ (v : List TxnId). at < length v) c.deref-2.ensures.value c.in_default-binary_search.ensures.bound)
    (subst (λ (v : List TxnId). (d : TxnId) → txn_cmp (get_or v at d) c.args.id ≡ Equal) c.deref-2.ensures.value c.in_default-binary_search.ensures.ok)
