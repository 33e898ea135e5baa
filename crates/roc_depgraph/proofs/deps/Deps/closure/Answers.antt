use Rattle.std.proofs.Common.{◌≡◌, ◌<◌, ap, ◌∙◌, length, arith}
use Rattle.std.proofs.lemmas.Bool.Decides.{nat_tests}
use Rattle.roc_depgraph.proofs.Decided.{unknown_of, whole, missing}
use Rattle.roc_depgraph.proofs.deps.Deps.closure.Goals as goal

pub returns-then-is_empty : goal.returns-then-is_empty
returns-then-is_empty c =
    let e : c.in_ok-missing.missing.items ≡ unknown_of c.args.self.now c.args.id c.in_ok-reached.reached.items = c.in_ok-missing.ensures ∙ ap (unknown_of c.args.self.now c.args.id) c.deref.ensures.value in
    let z : length c.in_ok-missing.missing.items ≡ 0 = grind (arith, nat_tests, c.if-is_empty.ensures) in
    whole c.args.self.now c.args.id c.in_ok-reached.reached.items c.in_ok-reached.ensures c.in_ok-missing.missing.items e z

pub returns-else-is_empty : goal.returns-else-is_empty
returns-else-is_empty c =
    let e : c.in_ok-missing.missing.items ≡ unknown_of c.args.self.now c.args.id c.in_ok-reached.reached.items = c.in_ok-missing.ensures ∙ ap (unknown_of c.args.self.now c.args.id) c.deref.ensures.value in
    let z : 0 < length c.in_ok-missing.missing.items = grind (arith, nat_tests, c.if-is_empty.ensures) in
    missing c.args.self.now c.args.id c.in_ok-reached.reached.items c.in_ok-reached.ensures c.in_ok-missing.missing.items e z
