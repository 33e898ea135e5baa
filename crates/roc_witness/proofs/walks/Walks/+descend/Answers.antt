use Rattle.std.proofs.Common.{◌≡◌, suc, ◌-◌, Bool, false, List, IsTrue, arith}
use Rattle.std.proofs.lemmas.Result.{IfOk-weaker}
use Rattle.roc_scgraph.specs.declared.vertex.Vertex.{Vertex}
use Rattle.roc_witness.specs.Inner.Walks.{may_step, HasNoWalk, IsLeastAdded}
use Rattle.roc_witness.proofs.Walked.{read_level, nothing_led, goes_on_from, least_added}
use Rattle.roc_witness.proofs.walks.Walks.+descend.Goals as goal

pub returns-in_ok-push-in-Some-clause-found : goal.returns-in_ok-push-in-Some-clause-found
returns-in_ok-push-in-Some-clause-found t c =
    let L : Vertex → Vertex → Bool = may_step c.args.table.now c.args.self.now.start in
    let V : List Vertex = c.args.self.now.vertices in
    let goal : Vertex = c.args.self.now.goal in
    let down : c.args.left ≡ suc (c.args.left - 1) = omega arith in
    let known = read_level L V goal c.args.levels.now c.args.left c.index-levels-left.result c.as_slice.result.now c.requires.levels c.requires.high c.index-levels-left.is c.as_slice.ensures in
    IfOk-weaker c.descend.result (λ b. IsTrue b → IsLeastAdded L V c.in-Some.next.now goal (c.args.left - 1) c.push.new.self.items c.descend.new.way.items)
    (λ b. IsTrue b → IsLeastAdded L V c.args.from goal c.args.left c.args.way.now.items c.descend.new.way.items)
    (λ b f h. least_added L V goal c.args.from c.args.left (c.args.left - 1) c.as_slice.result.now down known c.in-Some.next.now c.args.way.now.items c.push.new.self.items c.descend.new.way.items
    c.requires.rising c.in-Some.ensures c.in_ok-push-in-Some.ensures.items (f h))
    c.descend.ensures.found

pub returns-in_ok-push-in-Some-clause-none : goal.returns-in_ok-push-in-Some-clause-none
returns-in_ok-push-in-Some-clause-none t c =
    let L : Vertex → Vertex → Bool = may_step c.args.table.now c.args.self.now.start in
    let V : List Vertex = c.args.self.now.vertices in
    let goal : Vertex = c.args.self.now.goal in
    let down : c.args.left ≡ suc (c.args.left - 1) = omega arith in
    let known = read_level L V goal c.args.levels.now c.args.left c.index-levels-left.result c.as_slice.result.now c.requires.levels c.requires.high c.index-levels-left.is c.as_slice.ensures in
    IfOk-weaker c.descend.result (λ b. b ≡ false → HasNoWalk L V c.in-Some.next.now goal (c.args.left - 1)) (λ b. b ≡ false → HasNoWalk L V c.args.from goal c.args.left)
    (λ b f h. absurd (goes_on_from L V goal c.args.from c.args.left (c.args.left - 1) c.as_slice.result.now down known c.in-Some.next.now c.in-Some.ensures (f h)))
    c.descend.ensures.none

pub returns-in-None-clause-none : goal.returns-in-None-clause-none
returns-in-None-clause-none t c =
    let L : Vertex → Vertex → Bool = may_step c.args.table.now c.args.self.now.start in
    let V : List Vertex = c.args.self.now.vertices in
    let goal : Vertex = c.args.self.now.goal in
    let down : c.args.left ≡ suc (c.args.left - 1) = omega arith in
    let known = read_level L V goal c.args.levels.now c.args.left c.index-levels-left.result c.as_slice.result.now c.requires.levels c.requires.high c.index-levels-left.is c.as_slice.ensures in
    λ _. nothing_led L V goal c.args.from c.args.left (c.args.left - 1) c.as_slice.result.now down known c.in-None.ensures
